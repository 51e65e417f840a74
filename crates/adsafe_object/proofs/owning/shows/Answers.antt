use Rattle.std.proofs.Common.{Bool, sym, ap, ◌∙◌, is_some}
use Rattle.std.specs.Prelude.{◌&&◌}
use Rattle.widget_meaning.specs.Properties.{own_property}
use Rattle.js_image.specs.Image.{image, seen}
use Rattle.adsafe_object.proofs.Receiving.{and_false, and_true}
use Rattle.adsafe_object.proofs.owning.shows.Goals as goal

pub returns-then-not-permitted : goal.returns-then-not-permitted
returns-then-not-permitted c = λ fs r w confined fine.
    let own : Bool = is_some (own_property (image fs r w c.args.store.now) (seen w c.args.store.now.cells c.args.v.now) c.args.name.now) in
    sym (ap (λ b. own && b) (sym c.permitted.ensures ∙ c.if-not-permitted.true) ∙ and_false own)

pub returns : goal.returns
returns c = λ fs r w confined fine.
    let own : Bool = is_some (own_property (image fs r w c.args.store.now) (seen w c.args.store.now.cells c.args.v.now) c.args.name.now) in
    c.has_own.ensures fs r w confined fine ∙ sym (ap (λ b. own && b) (sym c.permitted.ensures ∙ c.if-not-permitted.false) ∙ and_true own)
