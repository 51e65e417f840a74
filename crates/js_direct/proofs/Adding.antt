-- A step of a variable that has a whole number, an assignment that adds to it, and an operator on whole numbers.
use Rattle.std.proofs.Common.{◌≡◌, ◌+◌, ◌<◌, ◌-◌, ◌-ℤ◌, ℕ, ℤ, pos, neg_ℤ, FitsSigned, List, [], sym, ap, subst, ◌∙◌, arith, true, Bool, if◌then◌else◌, ltb-true}
use mir.Syntax.{w64}
use Rattle.std.specs.Prelude.{◌+ℤ◌, nat_lt, unsigned_abs, IfSome, Option, Some, None}
use Rattle.std.specs.Option.{SomeIff}
use Rattle.std.proofs.Math.IntN.{+ℤ_idl}
use Rattle.std.proofs.lemmas.Int.{fits_signed_from_abs}
use Rattle.js_tree.specs.declared.nodes.StepOp.{StepOp}
use Rattle.widget_meaning.specs.Limits.{past_numbers}
use Rattle.widget_meaning.specs.Values as meaning
use Rattle.widget_meaning.specs.OwnState.{State}
use Rattle.widget_meaning.specs.Operators as operators
use Rattle.widget_meaning.specs.Plan.{Do, Eval, Place, Plan, Ret, after, and_then}
use Rattle.widget_meaning.specs.Calls.{to_primitive}
use Rattle.widget_meaning.specs.Scopes.{assign, variable}
use Rattle.widget_meaning.specs.Expressions.{assign_target, assign_with, binary_right, compound, is_post, operate, prefix_form, result, step_converted, step_target, step_write, stepped, unary_on, write}
use Rattle.js_tree.specs.declared.nodes.AssignOp.{AssignOp}
use Rattle.js_tree.specs.declared.nodes.BinOp.{BinOp}
use Rattle.js_tree.specs.declared.nodes.AssignOp.TheVariants as assignment
use Rattle.js_tree.specs.declared.nodes.UnOp.TheVariants as un
use Rattle.js_tree.specs.Plain.{Expr}
use Rattle.js_tree.specs.Forest.{Forest}
use Rattle.store_cells.specs.Cells.{Cells}
use Rattle.store_cells.specs.declared.value.Value.{Value as StoreValue}
use Rattle.store_cells.specs.declared.value.Value.TheVariants as value
use Rattle.store_cells.specs.declared.value.Number.TheVariants as number
use Rattle.widget_meaning.specs.Costs.{give}
use Rattle.widget_meaning.specs.Meaning.{body}
use Rattle.js_image.specs.Held.{IsFine}
use Rattle.js_image.specs.Image.{Rest, image, seen}
use Rattle.js_direct.specs.declared.run.Ended.TheVariants as ended
use Rattle.js_direct.specs.declared.run.Run.{Run}
use Rattle.js_direct.specs.Adds.{Added, Adds}
use Rattle.js_direct.specs.Comes.{Comes}
use Rattle.js_direct.specs.Reduces.{Reduces}
use Rattle.js_direct.proofs.Reducing.{counts, paid, starts}

-- the sum is written, and the number before or after it is given
pub added : (op : StepOp) (z y : ℤ) (x : List ℕ) (p : Place) (s : State) → variable s p x ≡ meaning.Num z → stepped op z ≡ operators.number y → nat_lt (unsigned_abs y) past_numbers ≡ true
    → step_target op p (meaning.Refers (meaning.Variable x)) s ≡ Ret (meaning.Is (if is_post op then meaning.Num z else meaning.Num y)) (assign s p x (meaning.Num y))
added op z y x p s had sum within =
    ap (λ u. and_then (to_primitive u p.depth s) (step_converted op (meaning.Variable x) p)) had
    ∙ ap (λ q. step_write q op (meaning.Num z) (meaning.Variable x) p s) sum
    ∙ ap (λ (b : Bool). step_write (if b then operators.Gives (meaning.Num y) else operators.Leaves) op (meaning.Num z) (meaning.Variable x) p s) within

-- what is within the numbers fits a word
pub within_fits : (z : ℤ) → nat_lt (unsigned_abs z) past_numbers ≡ true → FitsSigned w64 z
within_fits z within = fits_signed_from_abs w64 z (omega (arith, ltb-true (unsigned_abs z) past_numbers within))

-- to take a number off is to add what is left of none without it
pub taken_off : (r : Option ℤ) (y : ℤ) → SomeIff r (FitsSigned w64 (pos 0 -ℤ y)) (pos 0 -ℤ y) → IfSome r (λ by. Adds assignment.Sub y by)
taken_off None y rest = tt
taken_off (Some by) y rest = λ z d s. ap (λ (k : ℤ). result (operators.number (z +ℤ k)) s) (sym (+ℤ_idl (neg_ℤ y)) ∙ sym rest.1)

-- the sum with a right side is written and given, for the unit of the right side
pub summed : (op : AssignOp) (e : Expr) (p : Place) (x : List ℕ) (y by sum : ℤ) (s t : State) → body (Eval e p) s ≡ Ret (meaning.Is (meaning.Num y)) s → Adds op y by → Added p x by sum s t
    → Reduces 1 (assign_target op e p (meaning.Refers (meaning.Variable x)) s) (Ret (meaning.Is (meaning.Num sum)) t)
summed op e p x y by sum s t right adds h =
    paid 0 (Eval e p) s (assign_with op (meaning.Variable x) (variable s p x) p) _
    (ap (λ q. and_then q (assign_with op (meaning.Variable x) (variable s p x) p)) right
    ∙ ap (λ v. and_then (compound op v (meaning.Num y) p.depth s) written) h.has
    ∙ ap (λ q. and_then q written) (adds h.had p.depth s ∙ ap (λ z. result (operators.number z) s) (sym h.is))
    ∙ ap (λ (b : Bool). and_then (result (if b then operators.Gives (meaning.Num sum) else operators.Leaves) s) written) h.within
    ∙ ap (λ u. Ret (meaning.Is (meaning.Num sum)) u) (sym h.written))
  where
    written : meaning.Completion → State → Plan
    written = after (λ v u. write (meaning.Variable x) p v u (give v))

-- so it comes to the sum
pub sum_comes : (fs : List Forest) (w : ℕ) (s t : Cells) (n : ℕ) (p : State → Plan) (had mid : Run) (z : ℤ) (v : StoreValue) → v ≡ value.Num (number.Whole z) → mid.units + 1 ≡ had.units → mid.waits.items ≡ []
    → ((r : Rest) → Reduces 1 (p (image fs r w s)) (Ret (meaning.Is (meaning.Num z)) (image fs r w t))) → Comes fs w s t n p had mid ended.Is v
sum_comes fs w s t n p had mid z v same one none plan = subst (λ (u : StoreValue). Comes fs w s t n p had mid ended.Is u) (sym same) (record {
  units = omega (arith, one);
  reduces = λ r. counts 1 (had.units - mid.units) _ _ (omega (arith, one)) (plan r);
  fine = (tt, none);
  near = omega (arith, one);
})

-- both operands are numbers, and what the operator gives of them is given
pub operated : (op : BinOp) (a b : Expr) (p : Place) (x y : ℤ) (v : meaning.Value) (s : State) → body (Eval a p) s ≡ Ret (meaning.Is (meaning.Num x)) s → body (Eval b p) s ≡ Ret (meaning.Is (meaning.Num y)) s
    → operate op (meaning.Num x) (meaning.Num y) p.depth s ≡ Ret (meaning.Is v) s → Reduces 2 (Do (Eval a p) s (binary_right op b p)) (Ret (meaning.Is v) s)
operated op a b p x y v s left right gives =
    paid 1 (Eval a p) s (binary_right op b p) _
    (starts 1 _ _ _ (ap (λ q. and_then q (binary_right op b p)) left)
    (paid 0 (Eval b p) s last _ (ap (λ q. and_then q last) right ∙ gives)))
  where
    last : meaning.Completion → State → Plan
    last = after (λ w t. operate op (meaning.Num x) w p.depth t)

-- so it comes to that value
pub operated_comes : (fs : List Forest) (w : ℕ) (s : Cells) (n c : ℕ) → 0 < c → (p : State → Plan) (had mid : Run) (u v : StoreValue) → u ≡ v → mid.units + c ≡ had.units → mid.waits.items ≡ []
    → ((r : Rest) → Reduces c (p (image fs r w s)) (Ret (meaning.Is (seen w s.cells v)) (image fs r w s))) → IsFine w s.cells v → Comes fs w s s n p had mid ended.Is u
operated_comes fs w s n c more p had mid u v same counted none plan fine = subst (λ (x : StoreValue). Comes fs w s s n p had mid ended.Is x) (sym same) (record {
  units = omega (arith, counted);
  reduces = λ r. counts c (had.units - mid.units) _ _ (omega (arith, counted)) (plan r);
  fine = (fine, none);
  near = omega (arith, more, counted);
})

-- `+` of a number gives it
pub plus_gives : (e : Expr) (p : Place) (y : ℤ) (s : State) → body (Eval e p) s ≡ Ret (meaning.Is (meaning.Num y)) s → Reduces 1 (prefix_form un.Plus e p s) (Ret (meaning.Is (meaning.Num y)) s)
plus_gives e p y s right = paid 0 (Eval e p) s given _ (ap (λ q. and_then q given) right)
  where
    given : meaning.Completion → State → Plan
    given = after (λ v t. unary_on un.Plus v p t)
