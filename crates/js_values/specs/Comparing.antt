-- How two primitives stand to each other, and what the four comparisons make of it.
use Rattle.std.specs.Prelude.{ℕ, ℤ, int_lt, List, Bool, true, false, Option, None, Some, if◌then◌else◌}
use Rattle.js_tree.specs.declared.nodes.BinOp.{BinOp}
use Rattle.js_tree.specs.declared.nodes.BinOp.TheVariants as bin
use Rattle.widget_meaning.specs.Values.{Value, Text, to_number}
use Rattle.widget_meaning.specs.Operators.{is_text_before, of_numbers}
use Rattle.js_values.specs.declared.outcome.Compared.{Compared}
use Rattle.js_values.specs.declared.outcome.Compared.TheVariants as compared

-- two texts, by their units
abbrev pub text_order : List ℕ → List ℕ → Compared
text_order t u = if is_text_before t u then compared.Less else if is_text_before u t then compared.More else compared.Same

-- two whole numbers
abbrev pub number_order : ℤ → ℤ → Compared
number_order x y = if int_lt x y then compared.Less else if int_lt y x then compared.More else compared.Same

-- two primitives: texts by their units, else numbers, of which NaN has no order; none where a number leaves the numbers
abbrev pub order : Value → Value → Option Compared
order (Text t) (Text u) = Some (text_order t u)
order a b = of_numbers None (Some compared.Unordered) (λ x y. Some (number_order x y)) (to_number a) (to_number b)

-- `<`, `>`, `<=`, `>=`
abbrev pub is_comparison : BinOp → Bool
is_comparison bin.Less = true
is_comparison bin.Greater = true
is_comparison bin.LessEqual = true
is_comparison bin.GreaterEqual = true
is_comparison _ = false

-- what a comparison answers
abbrev pub holds : BinOp → Compared → Bool
holds bin.Less compared.Less = true
holds bin.Greater compared.More = true
holds bin.LessEqual compared.Less = true
holds bin.LessEqual compared.Same = true
holds bin.GreaterEqual compared.More = true
holds bin.GreaterEqual compared.Same = true
holds _ _ = false
