use Rattle.std.proofs.Common.{ap, ◌∙◌, map, subst, sym}
use Rattle.std.proofs.lemmas.Result.{IfOk-weaker}
use Rattle.js_image.specs.Held.{AreFine}
use Rattle.js_image.specs.Image.{all_seen}
use Rattle.widget_meaning.specs.ListChanges.{sorted}
use Rattle.list_methods.proofs.Sorts.{sorted_fine, sorted_is}
use Rattle.list_methods.proofs.sorting.sorted.Goals as goal

pub returns-clause-sorted : goal.returns-clause-sorted
returns-clause-sorted c =
    let old = c.in_ok-all.all.items in
    let new = c.put_in_place.new.all.items in
    IfOk-weaker c.values_in.result _ _ (λ vs h. λ w cells.
    ap (all_seen w cells) (h ∙ ap (map (λ k. k.value)) c.deref.ensures.value)
    ∙ sorted_is w cells old new c.in_ok-all.ensures.keys c.put_in_place.ensures.same c.in_ok-put_in_place.ensures.sorted c.put_in_place.ensures.stable
    ∙ ap (λ l. sorted (all_seen w cells l)) c.in_ok-all.ensures.values) c.values_in.ensures

pub returns-clause-fine : goal.returns-clause-fine
returns-clause-fine c =
    let old = c.in_ok-all.all.items in
    let new = c.put_in_place.new.all.items in
    IfOk-weaker c.values_in.result _ _ (λ vs h. λ w cells fine. subst (AreFine w cells) (sym (h ∙ ap (map (λ k. k.value)) c.deref.ensures.value)) (sorted_fine w cells old new c.put_in_place.ensures.same (subst (AreFine w cells) (sym c.in_ok-all.ensures.values) fine))) c.values_in.ensures
