use Rattle.std.proofs.Common.{◌≡◌, Some, None, [], ◌∷◌, ap, refl, sym, subst, length, ◌∙◌}
use Rattle.std.specs.Prelude.{pos, slice_get}
use Rattle.std.proofs.lemmas.Result.{IfOk-weaker}
use Rattle.store_cells.specs.declared.value.Value.TheVariants as value
use Rattle.store_cells.specs.declared.value.Number.TheVariants as number
use Rattle.js_image.specs.Image.{all_seen, image}
use Rattle.js_names.specs.Code.{trees_of}
use Rattle.js_flow.specs.declared.frame.Gathering.{Gathering}
use Rattle.js_flow.specs.Calls.{gathered}
use Rattle.js_flow.specs.Fine.{FineGathering}
use Rattle.js_calls.proofs.Pairs.{fine_at}
use Rattle.js_calls.proofs.Repeated.{fine_call, gather_next, gather_over}
use Rattle.js_calls.proofs.repeating.gather.Goals as goal

pub keep-requires-clause-held : goal.keep-requires-clause-held
keep-requires-clause-held c = subst (FineGathering c.args.w c.args.store.now.cells) (sym c.into_inner.ensures) c.requires.held

pub returns-in-None-clause-plan : goal.returns-in-None-clause-plan
returns-in-None-clause-plan c =
    let fs = trees_of c.args.codes.now.items in
    let w = c.args.w in
    let s = c.args.store.now in
    let at = subst (λ (q : Gathering). slice_get q.items.items (length q.results.items) ≡ None) c.deref.ensures (sym c.in_ok-next_item.ensures ∙ c.in-None.is) in
    IfOk-weaker c.keep.result _ _
    (λ n h r. h r ∙ ap (λ (q : Gathering). gathered q.keep (all_seen w s.cells q.items.items) (all_seen w s.cells q.results.items) (image fs r w s)) c.into_inner.ensures
    ∙ gather_over fs w s.cells (image fs r w s) c.args.g.value at)
    c.keep.ensures.plan

pub returns-in_ok-call-in-Some-clause-plan : goal.returns-in_ok-call-in-Some-clause-plan
returns-in_ok-call-in-Some-clause-plan c =
    let fs = trees_of c.args.codes.now.items in
    let s = c.args.store.now in
    let g = c.args.g.value in
    let k = c.in_ok-call-in-Some.ensures in
    let same = c.deref-in-Some.ensures in
    let at = subst (λ (q : Gathering). slice_get q.items.items (length q.results.items) ≡ Some c.in-Some.item) c.deref.ensures (sym c.in_ok-next_item.ensures ∙ c.in-Some.is) in
    IfOk-weaker c.push.result _ _
    (λ x q. rw q (λ r. gather_next fs c.args.w s.cells (image fs r c.args.w s) g c.in_ok-call-in-Some.call.value c.in-Some.item (length g.results.items) at refl
    (k.func ∙ ap (λ (q : Gathering). value.Ref q.func) same) k.this (k.args ∙ ap (λ (q : Gathering). c.in-Some.item ∷ (value.Num (number.Whole (pos (length q.results.items))) ∷ [])) same)
    (k.depth ∙ ap (λ (q : Gathering). q.depth) same)))
    c.push.ensures

pub returns-in_ok-call-in-Some-clause-fine : goal.returns-in_ok-call-in-Some-clause-fine
returns-in_ok-call-in-Some-clause-fine c =
    let w = c.args.w in
    let cells = c.args.store.now.cells in
    let g = c.args.g.value in
    let k = c.in_ok-call-in-Some.ensures in
    let at = subst (λ (q : Gathering). slice_get q.items.items (length q.results.items) ≡ Some c.in-Some.item) c.deref.ensures (sym c.in_ok-next_item.ensures ∙ c.in-Some.is) in
    let one = fine_at w cells g.items.items (length g.results.items) c.in-Some.item at c.requires.held.1 in
    IfOk-weaker c.push.result _ _ (λ x q. rw q (
      (c.requires.held, tt),
      fine_call w cells c.in_ok-call-in-Some.call.value g.func _ (k.func ∙ ap (λ (q : Gathering). value.Ref q.func) c.deref-in-Some.ensures) k.this k.args c.requires.held.0 (one, (tt, tt)),
    )) c.push.ensures
