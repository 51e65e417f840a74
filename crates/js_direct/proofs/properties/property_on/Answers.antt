use Rattle.std.proofs.Common.{sym, ap, subst, ◌∙◌, refl, arith}
use Rattle.std.specs.Prelude.{option_copied, unwrap_or}
use Rattle.store_cells.specs.declared.value.Value.{Value}
use Rattle.store_cells.specs.declared.value.Value.TheVariants as value
use Rattle.widget_meaning.specs.Plan.{Ret}
use Rattle.widget_meaning.specs.Properties as properties
use Rattle.widget_meaning.specs.Values as meaning
use Rattle.js_image.specs.Held.{IsFine}
use Rattle.js_image.specs.Image.{image, seen}
use Rattle.js_image.proofs.Grown.{kept_same}
use Rattle.js_names.specs.Code.{trees_of}
use Rattle.js_direct.proofs.Handing.{is_shared}
use Rattle.js_expressions.proofs.Values.{read_other}
use Rattle.js_direct.proofs.FormFrames.{gives_value}
use Rattle.js_direct.proofs.Values.{read_cell}
use Rattle.js_direct.proofs.properties.property_on.Goals as goal

pub returns-in_ok-share_to-in-Ref : goal.returns-in_ok-share_to-in-Ref
returns-in_ok-share_to-in-Ref c =
    let fs = trees_of c.args.site.now.codes.now.items in
    let w = c.args.site.now.widget in
    let s = c.args.store.now in
    let fine = subst (λ (b : Value). IsFine w s.cells b) c.in-Ref.is c.requires.held in
    let v = unwrap_or (option_copied c.property_at.result) value.Undefined in
    record {
      comes = is_shared fs w s 1 (properties.read (seen w s.cells c.args.base.now) c.args.name.now) c.args.run.now v c.share_to.new.out c.in_ok-share_to-in-Ref.ensures c.requires.ready.2
          (λ r. ap (λ (b : Value). properties.read (seen w s.cells b) c.args.name.now (image fs r w s)) c.in-Ref.is
          ∙ read_cell w s.cells c.in-Ref.cell c.args.name.now (image fs r w s)
          ∙ sym (ap (λ u. Ret (meaning.Is u) (image fs r w s)) (c.property_at.ensures.found fs r w c.requires.ready.1 fine)))
          (c.property_at.ensures.fine fs w c.requires.ready.1 fine) (omega arith);
      kept = kept_same fs w s s refl;
    }

pub returns-in_ok-out-in_default : goal.returns-in_ok-out-in_default
returns-in_ok-out-in_default c =
    let fs = trees_of c.args.site.now.codes.now.items in
    let w = c.args.site.now.widget in
    let s = c.args.store.now in
    let v = c.in_ok-out-in_default in
    record {
      comes = gives_value fs w s s 1 (properties.read (seen w s.cells c.args.base.now) c.args.name.now) c.args.run.now v.field-0 c.requires.ready.2
          (λ r. read_other w s.cells c.args.base.now c.args.name.now (image fs r w s) c.in_default.not-Undefined c.in_default.not-Null
          ∙ sym (ap (λ u. Ret (meaning.Is u) (image fs r w s)) (v.ensures.found fs r w c.requires.ready.1 c.requires.held)))
          (v.ensures.fine fs w c.requires.ready.1 c.requires.held) (omega arith);
      kept = kept_same fs w s s refl;
    }
