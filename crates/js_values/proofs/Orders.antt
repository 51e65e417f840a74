-- The order of two primitives, and what the four comparisons make of it.
use Rattle.std.proofs.Common.{◌≡◌, ℕ, ℤ, List, refl, sym, ap, ◌∙◌, Some, None, arith, Bool, true, false, cond, if◌then◌else◌}
use Rattle.std.specs.Prelude.{int_lt, not}
use Rattle.std.proofs.Common.{Ordering, Less, Equal, Greater}
use Rattle.std.specs.Ordering.{is_gt, is_lt, nat_cmp, ordering_reverse}
use Rattle.std.specs.Cmp.Lexicographic.{slice_cmp}
use Rattle.std.proofs.lemmas.Bool.Decides.{nat_tests}
use Rattle.std.proofs.lemmas.Cmp.{int_cmp_total, same_from_slice_cmp}
use Rattle.code_units.specs.declared.whole.WholeRead.{WholeRead}
use Rattle.code_units.specs.declared.whole.WholeRead.TheVariants as read
use Rattle.js_tree.specs.declared.nodes.BinOp.{BinOp}
use Rattle.js_tree.specs.declared.nodes.BinOp.TheVariants as bin
use Rattle.widget_meaning.specs.Values.{Value, Text, to_number}
use Rattle.widget_meaning.specs.Operators.{Leaves, binary, is_text_before, of_numbers, truth}
use Rattle.js_values.specs.declared.outcome.Compared.{Compared}
use Rattle.js_values.specs.declared.outcome.Compared.TheVariants as compared
use Rattle.js_values.specs.Comparing.{holds, is_comparison, number_order, order, text_order}

false_true : false ≡ true → ⊥
false_true h = cc

none_some : {A : Type 0} {a : A} → None ≡ Some a → ⊥
none_some h = cc

some_same : {A : Type 0} (a b : A) → Some a ≡ Some b → a ≡ b
some_same a b e = cc

less_greater : Less ≡ Greater → ⊥
less_greater h = cc

-- two texts
before_is : (t u : List ℕ) (r : Ordering) → r ≡ slice_cmp nat_cmp t u → is_lt r ≡ is_text_before t u
before_is = same_from_slice_cmp nat_cmp is_lt is_text_before refl (λ _ _. refl) (λ _ _. refl) (λ x y xs ys o h. grind (arith, nat_tests))

after_is : (t u : List ℕ) (r : Ordering) → r ≡ slice_cmp nat_cmp t u → is_gt r ≡ is_text_before u t
after_is = same_from_slice_cmp nat_cmp is_gt (λ t u. is_text_before u t) refl (λ _ _. refl) (λ _ _. refl) (λ x y xs ys o h. grind (arith, nat_tests))

-- the first of two tests that is passed
abbrev chosen : Bool → Bool → Compared
chosen a b = if a then compared.Less else if b then compared.More else compared.Same

abbrev pub ordered : Ordering → Compared
ordered Less = compared.Less
ordered Equal = compared.Same
ordered Greater = compared.More

ordered_is : (r : Ordering) → ordered r ≡ chosen (is_lt r) (is_gt r)
ordered_is Less = refl
ordered_is Equal = refl
ordered_is Greater = refl

pub in_order : (t u : List ℕ) (r : Ordering) → r ≡ slice_cmp nat_cmp t u → ordered r ≡ text_order t u
in_order t u r h = ordered_is r ∙ ap (λ a. chosen a (is_gt r)) (before_is t u r h) ∙ ap (chosen (is_text_before t u)) (after_is t u r h)

-- at most one of two tests is passed
texts_apart : (t u : List ℕ) → is_text_before t u ≡ true → is_text_before u t ≡ true → ⊥
texts_apart t u e f = by (slice_cmp nat_cmp t u) (before_is t u _ refl ∙ e) (after_is t u _ refl ∙ f)
  where
    by : (r : Ordering) → is_lt r ≡ true → is_gt r ≡ true → ⊥
    by Less g h = false_true h
    by Equal g h = false_true h
    by Greater g h = false_true g

numbers_apart : (x y : ℤ) → int_lt x y ≡ true → int_lt y x ≡ true → ⊥
numbers_apart x y e f = less_greater (
    sym (ap (λ b. cond b Less (cond (int_lt y x) Greater Equal)) e)
    ∙ int_cmp_total.antisymm x y
    ∙ ap (λ b. ordering_reverse (cond b Less (cond (int_lt x y) Greater Equal))) f)

-- what each comparison makes of the two tests
abbrev tested : BinOp → Bool → Bool → Bool
tested bin.Less a b = a
tested bin.Greater a b = b
tested bin.LessEqual a b = not b
tested bin.GreaterEqual a b = not a
tested _ a b = false

tested_is : (op : BinOp) (a b : Bool) → is_comparison op ≡ true → (a ≡ true → b ≡ true → ⊥) → tested op a b ≡ holds op (chosen a b)
tested_is op true true h g = absurd (g refl refl)
tested_is bin.Less true false h g = refl
tested_is bin.Less false true h g = refl
tested_is bin.Less false false h g = refl
tested_is bin.Greater true false h g = refl
tested_is bin.Greater false true h g = refl
tested_is bin.Greater false false h g = refl
tested_is bin.LessEqual true false h g = refl
tested_is bin.LessEqual false true h g = refl
tested_is bin.LessEqual false false h g = refl
tested_is bin.GreaterEqual true false h g = refl
tested_is bin.GreaterEqual false true h g = refl
tested_is bin.GreaterEqual false false h g = refl
tested_is _ true false h g = absurd (false_true h)
tested_is _ false true h g = absurd (false_true h)
tested_is _ false false h g = absurd (false_true h)

of_texts : (op : BinOp) (t u : List ℕ) → is_comparison op ≡ true → tested op (is_text_before t u) (is_text_before u t) ≡ holds op (text_order t u)
of_texts op t u h = tested_is op (is_text_before t u) (is_text_before u t) h (texts_apart t u)

unordered : (op : BinOp) → is_comparison op ≡ true → false ≡ holds op compared.Unordered
unordered bin.Less h = refl
unordered bin.Greater h = refl
unordered bin.LessEqual h = refl
unordered bin.GreaterEqual h = refl
unordered _ h = absurd (false_true h)

-- a comparison of two numbers that may be NaN or leave
of_two : (op : BinOp) (m n : WholeRead) (c : Compared) → is_comparison op ≡ true
    → of_numbers None (Some compared.Unordered) (λ x y. Some (number_order x y)) m n ≡ Some c
    → of_numbers Leaves (truth false) (λ x y. truth (tested op (int_lt x y) (int_lt y x))) m n ≡ truth (holds op c)
of_two op read.Left n c h e = absurd (none_some e)
of_two op read.NotNumber read.Left c h e = absurd (none_some e)
of_two op (read.Whole x) read.Left c h e = absurd (none_some e)
of_two op read.NotNumber read.NotNumber c h e = ap truth (unordered op h ∙ ap (holds op) (some_same compared.Unordered c e))
of_two op read.NotNumber (read.Whole y) c h e = ap truth (unordered op h ∙ ap (holds op) (some_same compared.Unordered c e))
of_two op (read.Whole x) read.NotNumber c h e = ap truth (unordered op h ∙ ap (holds op) (some_same compared.Unordered c e))
of_two op (read.Whole x) (read.Whole y) c h e = ap truth (tested_is op (int_lt x y) (int_lt y x) h (numbers_apart x y) ∙ ap (holds op) (some_same (number_order x y) c e))

pub means : (op : BinOp) (a b : Value) (c : Compared) → is_comparison op ≡ true → order a b ≡ Some c → binary op a b ≡ truth (holds op c)
means bin.Less (Text t) (Text u) c h e = ap truth (of_texts bin.Less t u h ∙ ap (holds bin.Less) (some_same (text_order t u) c e))
means bin.Greater (Text t) (Text u) c h e = ap truth (of_texts bin.Greater t u h ∙ ap (holds bin.Greater) (some_same (text_order t u) c e))
means bin.LessEqual (Text t) (Text u) c h e = ap truth (of_texts bin.LessEqual t u h ∙ ap (holds bin.LessEqual) (some_same (text_order t u) c e))
means bin.GreaterEqual (Text t) (Text u) c h e = ap truth (of_texts bin.GreaterEqual t u h ∙ ap (holds bin.GreaterEqual) (some_same (text_order t u) c e))
means bin.Less a b c h e = of_two bin.Less (to_number a) (to_number b) c h e
means bin.Greater a b c h e = of_two bin.Greater (to_number a) (to_number b) c h e
means bin.LessEqual a b c h e = of_two bin.LessEqual (to_number a) (to_number b) c h e
means bin.GreaterEqual a b c h e = of_two bin.GreaterEqual (to_number a) (to_number b) c h e
means _ a b c h e = absurd (false_true h)
