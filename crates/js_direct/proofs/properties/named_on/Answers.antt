use Rattle.std.proofs.Common.{sym, ap, subst, ◌∙◌, refl, arith}
use Rattle.std.specs.Fmt.{decimal}
use Rattle.std.specs.Prelude.{option_copied, unwrap_or}
use Rattle.store_cells.specs.declared.value.Value.{Value}
use Rattle.store_cells.specs.declared.value.Value.TheVariants as value
use Rattle.widget_meaning.specs.Plan.{Ret}
use Rattle.widget_meaning.specs.Properties as properties
use Rattle.widget_meaning.specs.Values as meaning
use Rattle.js_image.specs.Held.{IsFine}
use Rattle.js_image.specs.Image.{image, seen}
use Rattle.js_image.proofs.Grown.{kept_same}
use Rattle.js_names.specs.Code.{trees_of}
use Rattle.js_direct.proofs.Handing.{is_shared}
use Rattle.js_direct.proofs.Values.{read_cell}
use Rattle.js_direct.proofs.properties.named_on.Goals as goal

pub returns-in_ok-share_to-in-Some : goal.returns-in_ok-share_to-in-Some
returns-in_ok-share_to-in-Some c =
    let fs = trees_of c.args.site.now.codes.now.items in
    let w = c.args.site.now.widget in
    let s = c.args.store.now in
    let b = c.args.base.now in
    let o = c.args.out.now in
    let at = c.in-Some.at in
    let is = c.in-Some.ensures in
    let fine = subst (λ (x : Value). IsFine w s.cells x) is.0 c.requires.held.0 in
    let v = unwrap_or (option_copied c.indexed_at.result) value.Undefined in
    record {
      comes = is_shared fs w s 1 (properties.read (seen w s.cells b) (meaning.to_text (seen w s.cells o))) c.args.run.now v c.share_to.new.out c.in_ok-share_to-in-Some.ensures c.requires.ready.2
          (λ r. (λ i. properties.read (seen w s.cells (is.0 i)) (meaning.to_text (seen w s.cells (is.1 i))) (image fs r w s))
          ∙ read_cell w s.cells at.cell (decimal at.index) (image fs r w s)
          ∙ sym (ap (λ u. Ret (meaning.Is u) (image fs r w s)) (c.indexed_at.ensures.found fs r w c.requires.ready.1 fine)))
          (c.indexed_at.ensures.fine fs w c.requires.ready.1 fine) (omega arith);
      kept = kept_same fs w s s refl;
    }

pub indexed_at-requires-clause-within : goal.indexed_at-requires-clause-within
indexed_at-requires-clause-within c =
    let w = c.args.site.now.widget in
    let s = c.args.store.now in
    (subst (λ (x : Value). IsFine w s.cells x) c.in-Some.ensures.0 c.requires.held.0).0

pub indexed_at-requires-clause-index : goal.indexed_at-requires-clause-index
indexed_at-requires-clause-index c = c.in-Some.ensures.2
