use Rattle.std.proofs.Common.{◌≡◌, ◌<◌, length, get_or, subst}
use Rattle.js_calls.proofs.Repeated.{fine_step, kept_step}
use Rattle.js_calls.proofs.repeating.passing.Goals as goal

pub items-preserved : goal.items-preserved
items-preserved c =
    let items = c.args.items.now.items in
    let i = c.items.i in
    let item = c.item-item.result in
    let lt = subst (λ l. i < length l) c.deref-item-items.ensures.value c.items-test.true in
    let is = subst (λ l. item ≡ get_or l i item) c.deref-item-items.ensures.value c.item-item.is in
    record {
      seen = λ w cells. kept_step w cells items c.args.results.now.items c.items.kept.items _ i item _ lt is c.in_ok-add_if.ensures (c.is_passing-passes.ensures w cells) (c.items.invariant.seen w cells);
      fine = λ w cells f. fine_step w cells items c.items.kept.items _ i item _ lt is c.in_ok-add_if.ensures f (c.items.invariant.fine w cells f);
    }
