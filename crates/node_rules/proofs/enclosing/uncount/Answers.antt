use Rattle.std.proofs.Common.{◌≡◌, ◌-◌, IsSome, unwrap_or, refl, sym, subst, ap, arith}
use Rattle.std.specs.BTreeMap.{get}
use Rattle.std.specs.Ordering.{nat_cmp}
use Rattle.std.specs.Cmp.Lexicographic.{slice_cmp}
use Rattle.node_rules.proofs.Open.{lowered}
use Rattle.node_rules.proofs.enclosing.uncount.Goals as goal

pub returns-in-Some : goal.returns-in-Some
returns-in-Some c =
    let w = c.in-Some.n.now - 1 in
    let found = sym c.in-Some.ensures.value in
    let count : unwrap_or (get (slice_cmp nat_cmp) c.args.counts.now c.args.name.now) 0 ≡ c.in-Some.n.now = ap (λ o. unwrap_or o 0) found in
    let updates = (c.get_mut.follows.holds w).3 (subst (λ o. IsSome o) c.in-Some.ensures.value refl) in
    lowered (get (slice_cmp nat_cmp) c.args.counts.now) (get (slice_cmp nat_cmp) (c.get_mut.follows.lender w)) c.args.name.now w updates.0 (omega (arith, count, c.requires))
