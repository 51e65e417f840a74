use Rattle.std.specs.BTreeSet.{contains}
use Rattle.std.specs.Ordering.{nat_cmp}
use Rattle.std.specs.Cmp.Lexicographic.{slice_cmp}
use Rattle.markup_rules.proofs.Again.{again_step, again_end, one_more}
use Rattle.markup_rules.proofs.repeats.repeated.Goals as goal

pub each-preserved : goal.each-preserved
each-preserved c =
    again_step c.args.rule (λ t. contains (slice_cmp nat_cmp) c.each.seen t) (λ t. contains (slice_cmp nat_cmp) c.insert.new.self t) c.args.sayings.now c.each.saying-index c.saying-item.result c.in_ok-share.field-0 c.in_ok-is_new.is_new c.each-test.true c.saying-item.is c.in_ok-share.ensures c.in_ok-is_new.ensures.added
    (λ t. one_more (λ q. contains (slice_cmp nat_cmp) c.each.seen q) c.in_ok-share.field-0 t (contains (slice_cmp nat_cmp) c.insert.new.self t) (c.in_ok-is_new.ensures.updates.0 t)) c.each.invariant c.offer-least.ensures

pub returns : goal.returns
returns c = again_end c.args.rule (λ t. contains (slice_cmp nat_cmp) c.each.seen t) c.args.sayings.now c.each.saying-index c.each-test.false c.each.invariant
