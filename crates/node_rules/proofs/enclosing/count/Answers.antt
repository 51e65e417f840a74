use Rattle.std.proofs.Common.{rules, ◌≡◌, ◌+◌, None, IsSome, unwrap_or, refl, sym, subst, ap, ◌∙◌, arith}
use Rattle.std.specs.BTreeMap.{get}
use Rattle.std.specs.Ordering.{nat_cmp}
use Rattle.std.specs.Cmp.Lexicographic.{slice_cmp}
use Rattle.node_rules.specs.Enclosing.{count_of, one_for}
use Rattle.node_rules.proofs.Open.{raised, counted_first}
use Rattle.node_rules.proofs.enclosing.count.Goals as goal

pub returns-in-Some : goal.returns-in-Some
returns-in-Some c =
    let w = c.in_ok-n.field-0 in
    let next : w ≡ c.in-Some.n.now + 1 = search rules in
    let count : unwrap_or (get (slice_cmp nat_cmp) c.args.counts.now c.args.name.now) 0 ≡ c.in-Some.n.now = ap (λ o. unwrap_or o 0) (sym c.in-Some.ensures.value) in
    let updates = (c.get_mut.follows.holds w).3 (subst (λ o. IsSome o) c.in-Some.ensures.value refl) in
    raised (get (slice_cmp nat_cmp) c.args.counts.now) (get (slice_cmp nat_cmp) (c.get_mut.follows.lender w)) c.args.name.now w updates.0 (omega (arith, count, next))

pub returns : goal.returns
returns c =
    let same = c.get_mut.follows.holds-at-none in
    let absent : get (slice_cmp nat_cmp) c.args.counts.now c.args.name.now ≡ None = search rules in
    λ q. subst (λ m. count_of c.insert.new.self q ≡ count_of m q + one_for c.args.name.now q) same
    (counted_first (get (slice_cmp nat_cmp) c.get_mut.follows.lender-at-none) (get (slice_cmp nat_cmp) c.insert.new.self) c.in_ok-share.field-0 c.args.name.now c.in_ok-share.ensures
    (ap (λ m. get (slice_cmp nat_cmp) m c.args.name.now) same ∙ absent) c.in_ok-insert.ensures.updates.0 q)
