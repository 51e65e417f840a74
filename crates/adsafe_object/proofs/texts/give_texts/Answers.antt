use Rattle.std.proofs.Common.{◌<◌, ℕ, List, length, sum_by, sym, ap, ◌∙◌, subst}
use Rattle.widget_meaning.specs.Limits.{max_units}
use Rattle.widget_meaning.specs.Plan.{Halt}
use Rattle.js_image.specs.Image.{image}
use Rattle.js_image.specs.Plans.{meant_cause}
use Rattle.native_common.proofs.Meeting.{ends_here}
use Rattle.adsafe_object.specs.Names.{too_many}
use Rattle.adsafe_object.proofs.Lists.{texts_stop}
use Rattle.adsafe_object.proofs.texts.give_texts.Goals as goal

pub returns-in-None-clause-ends : goal.returns-in-None-clause-ends
returns-in-None-clause-ends c = ends_here c.args.w.index c.args.store.now _ _ (λ fs r node d.
    texts_stop c.args.texts.items (image fs r c.args.w.index c.args.store.now) (subst (λ (ts : List (List ℕ)). max_units < sum_by length ts) c.deref.ensures.value c.in-None.ensures)
    ∙ ap (λ x. Halt (meant_cause x) (image fs r c.args.w.index c.args.store.now)) (ap too_many (sym c.deref-in-None.ensures.value) ∙ sym c.too_many.ensures)) tt
