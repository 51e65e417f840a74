-- The natives of `Math`. Their extra is the number of arguments.
use Rattle.std.specs.Prelude.{ℕ, zero, suc, ℤ, pos, negsuc, unsigned_abs, ◌==◌, List, [], ◌∷◌, length, map, if◌then◌else◌, Option}
use Rattle.std.specs.List.{fold}
use Rattle.std.specs.Int.{int_min, int_max, int_pow}
use Rattle.code_units.specs.declared.whole.WholeRead.{WholeRead}
use Rattle.code_units.specs.declared.whole.WholeRead.TheVariants as read
use Rattle.permitted_table.specs.declared.native.MathNative.{MathNative}
use Rattle.permitted_table.specs.declared.native.MathNative.TheVariants.{Abs, Ceil, Floor, Round, Max, Min, Pow}
use Rattle.widget_meaning.specs.Values.{Value, NaN, Num, to_number, nth}
use Rattle.widget_meaning.specs.Operators.{OpOut, Gives, Leaves, number, as_number, of_numbers}
use Rattle.widget_meaning.specs.OwnState.{State}
use Rattle.widget_meaning.specs.Plan.{Plan, charge}
use Rattle.widget_meaning.specs.Expressions.{result}
use Rattle.widget_meaning.specs.NativeForms.{want_primitives}

-- a function of one number; `ceil`, `floor` and `round` give the number
abbrev pub of_one : List Value → (ℤ → ℤ) → State → Plan
of_one vs f s = want_primitives (nth 0 vs ∷ []) s (charge (length vs) s (result (as_number (to_number (nth 0 vs)) f) s))

-- the best of all, where one that leaves the numbers comes before NaN; none leaves the numbers
abbrev pub best : (ℤ → ℤ → ℤ) → List Value → WholeRead
best f [] = read.Left
best f (v ∷ vs) =
    fold (of_numbers read.Left read.NotNumber (λ x y. read.Whole (f x y))) (to_number v) (map to_number vs)

-- `max` and `min`
abbrev pub of_all : List Value → (ℤ → ℤ → ℤ) → State → Plan
of_all vs f s = want_primitives vs s (charge (length vs) s (result (as_number (best f vs) (λ z. z)) s))

-- for negative b only 1 and -1 stay within the numbers
abbrev pub inverse_power : ℤ → ℕ → OpOut
inverse_power x n = if unsigned_abs x == 1 then Gives (Num (int_pow x n)) else Leaves

-- 1 for b 0, NaN for another NaN, the power for positive b; what leaves the numbers comes first
abbrev pub power : WholeRead → WholeRead → OpOut
power read.Left b = Leaves
power a read.Left = Leaves
power a read.NotNumber = Gives NaN
power a (read.Whole (pos zero)) = Gives (Num (pos 1))
power read.NotNumber b = Gives NaN
power (read.Whole x) (read.Whole (pos (suc n))) = number (int_pow x (suc n))
power (read.Whole x) (read.Whole (negsuc n)) = inverse_power x (suc n)

-- `pow(a, b)`
abbrev pub pow : Value → Value → ℕ → State → Plan
pow a b extra s = want_primitives (a ∷ b ∷ []) s (charge extra s (result (power (to_number a) (to_number b)) s))

-- the natives, each by its row
abbrev pub math_native : MathNative → Option Value → List Value → ℕ → State → Plan
math_native Abs this vs d s = of_one vs (λ z. pos (unsigned_abs z)) s
math_native Ceil this vs d s = of_one vs (λ z. z) s
math_native Floor this vs d s = of_one vs (λ z. z) s
math_native Round this vs d s = of_one vs (λ z. z) s
math_native Max this vs d s = of_all vs int_max s
math_native Min this vs d s = of_all vs int_min s
math_native Pow this vs d s = pow (nth 0 vs) (nth 1 vs) (length vs) s
