-- What operators give: no object.
use Rattle.std.specs.Prelude.{ℕ, ℤ, pos, ◌+ℤ◌, ◌-ℤ◌, ◌*ℤ◌, neg_ℤ, unsigned_abs, int_lt, int_rem, int_div, Bool, true, false, not, ◌||◌, nat_lt, List, length, if◌then◌else◌, ◌++◌}
use Rattle.js_tree.specs.declared.nodes.BinOp.{BinOp}
use Rattle.js_tree.specs.declared.nodes.BinOp.TheVariants as bin
use Rattle.js_tree.specs.declared.nodes.UnOp.{UnOp}
use Rattle.js_tree.specs.declared.nodes.UnOp.TheVariants as un
use Rattle.js_tree.specs.declared.nodes.StepOp.{StepOp}
use Rattle.js_tree.specs.declared.nodes.StepOp.TheVariants as step
use Rattle.code_units.specs.declared.whole.WholeRead.{WholeRead}
use Rattle.code_units.specs.declared.whole.WholeRead.TheVariants as read
use Rattle.widget_meaning.specs.Limits.{past_numbers, max_text}
use Rattle.widget_meaning.specs.Values.{Value, Undefined, Truth, NaN, Num, Text, is_true, to_text, to_number}
use Rattle.widget_meaning.specs.Operators.{OpOut, Gives, Leaves, TooLong, number, text, truth, of_numbers, arithmetic, is_zero, remainder, quotient, is_text, plus, is_text_before, compare, is_same, binary, as_number, unary}
use Rattle.widget_meaning.specs.Expressions.{stepped}
use Rattle.meaning_laws.specs.There.{Sizes, Told, ValueIs}
use Rattle.meaning_laws.specs.Texts.{AreUnits}
use Rattle.meaning_laws.proofs.Units.{both_units, made_is}
use Rattle.meaning_laws.proofs.Numbers.{Within, OfRead, rem_within, div_within, neg_within}
use Rattle.std.proofs.Common.{◌≡◌, refl, ltb-true}
use Rattle.meaning_laws.proofs.Values.{undefined_is, truth_is, nan_is, num_is, text_is, told, also, units_told, read_told}

abbrev pub OfGiven : Sizes → OpOut → Type 0
OfGiven m (Gives v) = ValueIs m v
OfGiven m Leaves = Unit {0}
OfGiven m TooLong = Unit {0}

-- what an operator gives is there
pub record GivenIs (m : Sizes) (o : OpOut) : Type 0 where
  pub value : OfGiven m o

module _ (m : Sizes) where
  pub given : (v : Value) → ValueIs m v → GivenIs m (Gives v)
  given v h = record { value = h }

  pub leaves : GivenIs m Leaves
  leaves = record { value = tt }

  too_long : GivenIs m TooLong
  too_long = record { value = tt }

  pub number_given : (z : ℤ) → GivenIs m (number z)
  number_given z = by (nat_lt (unsigned_abs z) past_numbers) refl
    where
      by : (b : Bool) → nat_lt (unsigned_abs z) past_numbers ≡ b → GivenIs m (if b then Gives (Num z) else Leaves)
      by true e = given (Num z) (num_is m z (told m (ltb-true (unsigned_abs z) past_numbers e)))
      by false e = leaves

  text_given : (t : List ℕ) → Told m (AreUnits t) → GivenIs m (text t)
  text_given t h = by (nat_lt max_text (length t)) refl
    where
      by : (b : Bool) → nat_lt max_text (length t) ≡ b → GivenIs m (if b then TooLong else Gives (Text t))
      by true e = too_long
      by false e = given (Text t) (text_is m t (also m (λ q. made_is t q e) h))

  pub truth_given : (b : Bool) → GivenIs m (truth b)
  truth_given b = given (Truth b) (truth_is m b)

  nan_given : GivenIs m (Gives NaN)
  nan_given = given NaN (nan_is m)

  numbers_given : (l n : OpOut) (f : ℤ → ℤ → OpOut) (a b : WholeRead) → GivenIs m l → GivenIs m n → Told m (OfRead a) → ((x y : ℤ) → Told m (Within x) → GivenIs m (f x y)) → GivenIs m (of_numbers l n f a b)
  numbers_given l n f read.Left b h i q k = h
  numbers_given l n f read.NotNumber read.Left h i q k = h
  numbers_given l n f read.NotNumber read.NotNumber h i q k = i
  numbers_given l n f read.NotNumber (read.Whole y) h i q k = i
  numbers_given l n f (read.Whole x) read.Left h i q k = h
  numbers_given l n f (read.Whole x) read.NotNumber h i q k = i
  numbers_given l n f (read.Whole x) (read.Whole y) h i q k = k x y q

  arithmetic_given : (a b : Value) (f : ℤ → ℤ → OpOut) → ValueIs m a → ((x y : ℤ) → Told m (Within x) → GivenIs m (f x y)) → GivenIs m (arithmetic a b f)
  arithmetic_given a b f h k = numbers_given Leaves (Gives NaN) f (to_number a) (to_number b) leaves nan_given (read_told m a h) k

  pub either_given : (b : Bool) (l n : OpOut) → GivenIs m l → GivenIs m n → GivenIs m (if b then l else n)
  either_given true l n h i = h
  either_given false l n h i = i

  plus_given : (a b : Value) → ValueIs m a → ValueIs m b → GivenIs m (plus a b)
  plus_given a b h k = either_given (is_text a || is_text b) _ _ (text_given (to_text a ++ to_text b) (record { holds = λ e. both_units (to_text a) (to_text b) ((units_told m a h).holds e) ((units_told m b k).holds e) })) (arithmetic_given a b (λ x y. number (x +ℤ y)) h (λ x y q. number_given (x +ℤ y)))

  compare_given : (texts : List ℕ → List ℕ → Bool) (numbers : ℤ → ℤ → Bool) (a b : Value) → ValueIs m a → GivenIs m (compare texts numbers a b)
  compare_given texts numbers (Text t) (Text u) h = truth_given (texts t u)
  compare_given texts numbers a b h = numbers_given Leaves (truth false) (λ x y. truth (numbers x y)) (to_number a) (to_number b) leaves (truth_given false) (read_told m a h) (λ x y q. truth_given (numbers x y))

  remainder_given : (x y : ℤ) → Told m (Within x) → GivenIs m (remainder x y)
  remainder_given x y h = either_given (is_zero y) _ _ nan_given (given (Num (int_rem x y)) (num_is m (int_rem x y) (also m (rem_within x y) h)))

  quotient_given : (x y : ℤ) → Told m (Within x) → GivenIs m (quotient x y)
  quotient_given x y h = either_given (is_zero y) _ _ (either_given (is_zero x) _ _ nan_given leaves) (either_given (is_zero (int_rem x y)) _ _ (given (Num (int_div x y)) (num_is m (int_div x y) (also m (div_within x y) h))) leaves)

  pub binary_given : (op : BinOp) (a b : Value) → ValueIs m a → ValueIs m b → GivenIs m (binary op a b)
  binary_given bin.Add a b h k = plus_given a b h k
  binary_given bin.Sub a b h k = arithmetic_given a b _ h (λ x y q. number_given (x -ℤ y))
  binary_given bin.Mul a b h k = arithmetic_given a b _ h (λ x y q. number_given (x *ℤ y))
  binary_given bin.Rem a b h k = arithmetic_given a b remainder h remainder_given
  binary_given bin.Div a b h k = arithmetic_given a b quotient h quotient_given
  binary_given bin.Less a b h k = compare_given is_text_before int_lt a b h
  binary_given bin.Greater a b h k = compare_given (λ t u. is_text_before u t) (λ x y. int_lt y x) a b h
  binary_given bin.LessEqual a b h k = compare_given (λ t u. not (is_text_before u t)) (λ x y. not (int_lt y x)) a b h
  binary_given bin.GreaterEqual a b h k = compare_given (λ t u. not (is_text_before t u)) (λ x y. not (int_lt x y)) a b h
  binary_given bin.Same a b h k = truth_given (is_same a b)
  binary_given bin.NotSame a b h k = truth_given (not (is_same a b))
  binary_given op a b h k = given Undefined (undefined_is m)

  pub as_number_given : (r : WholeRead) (f : ℤ → ℤ) → ((z : ℤ) → Within z → Within (f z)) → Told m (OfRead r) → GivenIs m (as_number r f)
  as_number_given read.NotNumber f k h = nan_given
  as_number_given (read.Whole z) f k h = given (Num (f z)) (num_is m (f z) (also m (k z) h))
  as_number_given read.Left f k h = leaves

  pub unary_given : (op : UnOp) (a : Value) → ValueIs m a → GivenIs m (unary op a)
  unary_given un.Plus a h = as_number_given (to_number a) (λ z. z) (λ z q. q) (read_told m a h)
  unary_given un.Minus a h = as_number_given (to_number a) neg_ℤ neg_within (read_told m a h)
  unary_given un.Not a h = truth_given (not (is_true a))
  unary_given op a h = given Undefined (undefined_is m)

  pub stepped_given : (op : StepOp) (z : ℤ) → GivenIs m (stepped op z)
  stepped_given step.PreInc z = number_given (z +ℤ pos 1)
  stepped_given step.PostInc z = number_given (z +ℤ pos 1)
  stepped_given step.PreDec z = number_given (z -ℤ pos 1)
  stepped_given step.PostDec z = number_given (z -ℤ pos 1)
