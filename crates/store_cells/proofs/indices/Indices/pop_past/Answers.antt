use Rattle.std.proofs.Common.{◌≡◌, ℕ, List, subst, sym}
use Rattle.std.specs.Prelude.{MatchOption}
use Rattle.store_cells.specs.Holes.{IsNonePast, IsPoppedPast}
use Rattle.store_cells.specs.Listed.{AreFrom, AreListed, joined}
use Rattle.store_cells.proofs.Gapless.{from_front, listed_less, popped_far, popped_fewer, popped_less, popped_near}
use Rattle.store_cells.proofs.indices.Indices.pop_past.Goals as goal

pub invariant_of-self : goal.invariant_of-self
invariant_of-self c =
    let upto = c.self.inside.upto in
    let new = c.pop_far.new.far.entries in
    let p = c.in-Some.ensures.popped in
    record {
      from = (from_front upto new (p.at, c.in-Some.k) (subst (AreFrom upto) p.last c.self.invariant.from)).0;
      ruled = c.self.invariant.ruled;
    }

pub invariant_of-self-in-None : goal.invariant_of-self-in-None
invariant_of-self-in-None c =
    let upto = c.self.inside.upto in
    let left = c.pop_near.new.upto in
    subst (AreListed left) (sym c.in-None.ensures.same) (listed_less c.args.n c.pop_near.result upto left c.self.inside.far.entries c.pop_near.ensures.popped c.pop_near.ensures.same c.self.invariant)

pub pop_near-requires : goal.pop_near-requires
pop_near-requires c = c.self.invariant.ruled

pub returns-in-Some-clause-popped : goal.returns-in-Some-clause-popped
returns-in-Some-clause-popped c =
    let upto = c.self.inside.upto in
    let new = c.pop_far.new.far.entries in
    subst (λ (l : List (ℕ × ℕ)). IsPoppedPast c.args.n c.in-Some.k l (joined upto new)) c.self.view_is (popped_far c.args.n c.in-Some.k upto c.self.inside.far.entries new c.in-Some.ensures.popped c.self.invariant.from)

pub returns-in-Some-clause-less : goal.returns-in-Some-clause-less
returns-in-Some-clause-less c =
    let upto = c.self.inside.upto in
    let new = c.pop_far.new.far.entries in
    popped_less c.args.n c.in-Some.k c.args.self.now (joined upto new) (subst (λ (l : List (ℕ × ℕ)). IsPoppedPast c.args.n c.in-Some.k l (joined upto new)) c.self.view_is (popped_far c.args.n c.in-Some.k upto c.self.inside.far.entries new c.in-Some.ensures.popped c.self.invariant.from))

pub returns-in-None-clause-popped : goal.returns-in-None-clause-popped
returns-in-None-clause-popped c =
    let n = c.args.n in
    let r = c.pop_near.result in
    let left = c.pop_near.new.upto in
    let far = c.self.inside.far.entries in
    let now = c.args.self.now in
    let base = popped_near n r c.self.inside.upto left far c.self.invariant.from c.in-None.ensures.below c.pop_near.ensures.popped c.pop_near.ensures.same in
    subst (λ (l : List (ℕ × ℕ)). MatchOption r ((joined left l ≡ now) × IsNonePast n now) (λ k. IsPoppedPast n k now (joined left l))) (sym c.in-None.ensures.same)
    (subst (λ (m : List (ℕ × ℕ)). MatchOption r ((joined left far ≡ m) × IsNonePast n m) (λ k. IsPoppedPast n k m (joined left far))) c.self.view_is base)

pub returns-in-None-clause-less : goal.returns-in-None-clause-less
returns-in-None-clause-less c =
    let n = c.args.n in
    let r = c.pop_near.result in
    let left = c.pop_near.new.upto in
    let far = c.self.inside.far.entries in
    let now = c.args.self.now in
    let base = popped_near n r c.self.inside.upto left far c.self.invariant.from c.in-None.ensures.below c.pop_near.ensures.popped c.pop_near.ensures.same in
    popped_fewer n r now (joined left c.pop_far.new.far.entries)
    (subst (λ (l : List (ℕ × ℕ)). MatchOption r ((joined left l ≡ now) × IsNonePast n now) (λ k. IsPoppedPast n k now (joined left l))) (sym c.in-None.ensures.same)
    (subst (λ (m : List (ℕ × ℕ)). MatchOption r ((joined left far ≡ m) × IsNonePast n m) (λ k. IsPoppedPast n k m (joined left far))) c.self.view_is base))
