use Rattle.std.proofs.Common.{◌≡◌, map, sym, ap}
use Rattle.reach_cert.specs.Certs.{slot_of, plain}
use Rattle.reach_cert.proofs.Leaks.{few_first, goes_first, few_left, found, next, done}
use Rattle.reach_cert.proofs.Walking.{walks_stay}
use Rattle.reach_cert.proofs.confining.confined.Goals as goal

pub each-init : goal.each-init
each-init c =
    let same : plain c.args.cert.now ≡ map slot_of c.deref-block-items.result.now = ap (map slot_of) (sym c.deref-block-items.ensures.value) in
    record { few = few_first _ _ same c.requires; goes = goes_first _ _ same }

pub returns-in-Some-clause-line : goal.returns-in-Some-clause-line
returns-in-Some-clause-line c = found _ _ c.block-item.result c.each-test.true c.block-item.is _ c.each.line _ c.each.invariant.goes c.in-Some.ensures

pub each-preserved : goal.each-preserved
each-preserved c =
    record {
      few = few_left _ _ c.block-item.result c.each-test.true c.block-item.is c.each.line _ c.line_count.ensures c.each.invariant.few;
      goes = next _ _ c.block-item.result c.each-test.true c.block-item.is _ c.each.line _ c.line_count.ensures c.each.invariant.goes c.in_default.ensures;
    }

pub returns-clause-line : goal.returns-clause-line
returns-clause-line c = done c.deref-block-items.result.now _ _ c.each.line c.each-test.false c.each.invariant.goes

pub returns-clause-walks : goal.returns-clause-walks
returns-clause-walks c = walks_stay (plain c.args.cert.now) (done c.deref-block-items.result.now _ _ c.each.line c.each-test.false c.each.invariant.goes)
