use Rattle.std.proofs.Common.{◌≡◌, Some, None, [], ◌∷◌, ap, sym, subst, ◌∙◌}
use Rattle.std.proofs.lemmas.Result.{IfOk-weaker}
use Rattle.std.specs.Prelude.{slice_get}
use Rattle.store_cells.specs.declared.value.Value.TheVariants as value
use Rattle.js_image.specs.Image.{image}
use Rattle.js_names.specs.Code.{trees_of}
use Rattle.js_flow.specs.declared.frame.Calling.{Calling}
use Rattle.js_flow.specs.Fine.{FineCalling}
use Rattle.js_calls.proofs.Pairs.{fine_at}
use Rattle.js_calls.proofs.Repeated.{each_next, each_over, fine_call, within}
use Rattle.js_calls.proofs.repeating.each.Goals as goal

pub returns-in-None-clause-plan : goal.returns-in-None-clause-plan
returns-in-None-clause-plan c =
    let fs = trees_of c.args.codes.now.items in
    let at = subst (λ (q : Calling). slice_get q.items.items q.next ≡ None) c.deref.ensures (sym c.in_ok-item_left.ensures ∙ c.in-None.is) in
    rw c.give.ensures (λ r. each_over fs c.args.w c.args.store.now.cells (image fs r c.args.w c.args.store.now) c.args.c.value c.last_of.result at c.last_of.ensures)

pub next_of-requires : goal.next_of-requires
next_of-requires c =
    let at = subst (λ (q : Calling). slice_get q.items.items q.next ≡ Some c.in-Some.item) c.deref.ensures (sym c.in_ok-item_left.ensures ∙ c.in-Some.is) in
    within c.args.c.value.items.items c.args.c.value.next c.in-Some.item at

pub returns-in_ok-call-in-Some-clause-plan : goal.returns-in_ok-call-in-Some-clause-plan
returns-in_ok-call-in-Some-clause-plan c =
    let fs = trees_of c.args.codes.now.items in
    let k = c.in_ok-call-in-Some.ensures in
    let at = subst (λ (q : Calling). slice_get q.items.items q.next ≡ Some c.in-Some.item) c.deref.ensures (sym c.in_ok-item_left.ensures ∙ c.in-Some.is) in
    IfOk-weaker c.push.result _ _
    (λ x q. rw q (λ r. each_next fs c.args.w c.args.store.now.cells (image fs r c.args.w c.args.store.now) c.args.c.value c.next_of.result.value c.in_ok-call-in-Some.call.value c.in-Some.item
    at c.next_of.ensures (k.func ∙ ap (λ (q : Calling). value.Ref q.func) c.deref-in-Some.ensures) k.this k.args (k.depth ∙ ap (λ (q : Calling). q.depth) c.deref-in-Some.ensures)))
    c.push.ensures

pub returns-in_ok-call-in-Some-clause-fine : goal.returns-in_ok-call-in-Some-clause-fine
returns-in_ok-call-in-Some-clause-fine c =
    let w = c.args.w in
    let cells = c.args.store.now.cells in
    let k = c.in_ok-call-in-Some.ensures in
    let at = subst (λ (q : Calling). slice_get q.items.items q.next ≡ Some c.in-Some.item) c.deref.ensures (sym c.in_ok-item_left.ensures ∙ c.in-Some.is) in
    let one = fine_at w cells c.args.c.value.items.items c.args.c.value.next c.in-Some.item at c.requires.held.1 in
    IfOk-weaker c.push.result _ _ (λ x q. rw q (
      (subst (FineCalling w cells) (sym c.next_of.ensures) c.requires.held, tt),
      fine_call w cells c.in_ok-call-in-Some.call.value c.args.c.value.func (c.in-Some.item ∷ []) (k.func ∙ ap (λ (q : Calling). value.Ref q.func) c.deref-in-Some.ensures) k.this k.args c.requires.held.0 (one, tt),
    )) c.push.ensures
