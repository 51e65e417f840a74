-- Assignments that add a whole number to a variable.
use Rattle.std.specs.Prelude.{◌≡◌, ◌+ℤ◌, ℕ, ℤ, List, nat_lt, true, unsigned_abs}
use Rattle.js_tree.specs.declared.nodes.AssignOp.{AssignOp}
use Rattle.widget_meaning.specs.Limits.{past_numbers}
use Rattle.widget_meaning.specs.OwnState.{State}
use Rattle.widget_meaning.specs.Values.{Num}
use Rattle.widget_meaning.specs.Operators.{number}
use Rattle.widget_meaning.specs.Plan.{Place}
use Rattle.widget_meaning.specs.Scopes.{assign, variable}
use Rattle.widget_meaning.specs.Expressions.{compound, result}

-- what an assignment computes with a right side that is a number is a sum with by
abbrev pub Adds : AssignOp → ℤ → ℤ → Type 0
Adds op y by = (z : ℤ) (d : ℕ) (s : State) → compound op (Num z) (Num y) d s ≡ result (number (z +ℤ by)) s

-- a variable had a number, and has its sum with by, which is within the numbers
pub record Added (p : Place) (x : List ℕ) (by sum : ℤ) (s t : State) : Type 0 where
  pub had : ℤ
  pub has : variable s p x ≡ Num had
  pub is : sum ≡ had +ℤ by
  pub within : nat_lt (unsigned_abs sum) past_numbers ≡ true
  pub written : t ≡ assign s p x (Num sum)
