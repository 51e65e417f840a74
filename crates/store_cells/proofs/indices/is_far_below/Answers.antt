use Rattle.std.proofs.Common.{◌≡◌, ◌+◌, ◌<◌, ℕ, arith, false, true}
use Rattle.std.specs.Map.{keys_of}
use Rattle.std.specs.Ordering.{is_lt, nat_cmp}
use Rattle.std.specs.Prelude.{nat_lt}
use Rattle.std.proofs.lemmas.Bool.Decides.{nat_tests}
use Rattle.std.proofs.lemmas.List.Elements.{recursion_from_All}
use Rattle.store_cells.proofs.Gapless.{below_keys, below_more, below_none, empty_far}
use Rattle.store_cells.proofs.indices.is_far_below.Goals as goal

less : (m n : ℕ) → nat_lt m n ≡ true → m < n
less m n e = grind (arith, nat_tests, e)

pub returns-in-None : goal.returns-in-None
returns-in-None c = λ e. below_none c.args.n c.args.far.now.entries (empty_far c.args.far.now.entries c.in-None.ensures.variant.1)

pub returns-in-Some : goal.returns-in-Some
returns-in-Some c = λ e.
    let far = c.args.far.now.entries in
    let at = c.in-Some.at.now in
    let all = recursion_from_All (λ (q : ℕ). is_lt (nat_cmp at q) ≡ false) (keys_of far) c.in-Some.ensures.all_up_to in
    below_more (at + 1) c.args.n far (omega (arith, less at c.args.n e)) (below_keys at far all)
