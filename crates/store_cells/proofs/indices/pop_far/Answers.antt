use Rattle.std.proofs.Common.{◌≡◌, ◌+◌, ◌≤◌, ℕ, ap, arith, false}
use Rattle.std.specs.declared.cmp.Ordering.TheVariants.{Less}
use Rattle.std.specs.Map.{keys_of}
use Rattle.std.specs.Ordering.{is_lt, nat_cmp}
use Rattle.std.specs.Prelude.{is_some}
use Rattle.std.proofs.lemmas.List.Elements.{recursion_from_All}
use Rattle.std.proofs.lemmas.Map.Keys.{ge_from_not_lt}
use Rattle.store_cells.proofs.Gapless.{below_keys, below_less, below_more, below_none, empty_far, none_then}
use Rattle.store_cells.proofs.indices.pop_far.Goals as goal

pub returns-in_err-at-clause-below : goal.returns-in_err-at-clause-below
returns-in_err-at-clause-below c = none_then c.from_residual.result (below_none c.args.n c.args.far.now.entries (empty_far c.args.far.now.entries c.in_err-at.ensures.variant.1))

pub returns-then-at-n-clause-below : goal.returns-then-at-n-clause-below
returns-then-at-n-clause-below c =
    let far = c.args.far.now.entries in
    let at = c.in_ok-at.at.now in
    let all = recursion_from_All (λ (q : ℕ). is_lt (nat_cmp at q) ≡ false) (keys_of far) c.in_ok-at.ensures.all_up_to in
    below_more (at + 1) c.args.n far (omega (arith, c.if-at-n.true)) (below_keys at far all)

pub returns-in_err-_at-clause-below : goal.returns-in_err-_at-clause-below
returns-in_err-_at-clause-below c = none_then c.from_residual-in_err-_at.result (below_none c.args.n c.args.far.now.entries (empty_far c.args.far.now.entries c.in_err-_at.ensures.variant.1))

pub returns-clause-popped : goal.returns-clause-popped
returns-clause-popped c =
    let new = c.pop_last.new.self.entries in
    let last = c.in_ok-_at._at in
    let first = c.in_ok-at.at.now in
    let up : first ≤ last = ge_from_not_lt last first (c.in_ok-_at.ensures.greatest first (ap is_some c.in_ok-at.ensures.value)) in
    record {
      at = last;
      past = omega (arith, up, c.if-at-n.false);
      last = c.in_ok-_at.ensures.removal;
      below = below_less last new (recursion_from_All (λ (q : ℕ). nat_cmp q last ≡ Less) (keys_of new) c.in_ok-_at.ensures.all_below);
    }
