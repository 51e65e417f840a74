-- Steps one after the other.
use Rattle.std.proofs.Common.{◌≡◌, ℕ, ◌+◌, ◌-◌, ◌<◌, ◌≤◌, refl, sym, ap, ◌∙◌, subst, arith, ◌⊎◌, inl, inr}
use Rattle.std.proofs.lemmas.Bool.{cases_lt}
use Rattle.std.specs.Prelude.{IfOk, Result, Ok, Err}
use Rattle.widget_meaning.specs.OwnState.{State}
use Rattle.widget_meaning.specs.Plan.{Out, OutOfFuel, Plan}
use Rattle.widget_meaning.specs.Meaning.{run_plan}
use Rattle.js_flow.specs.declared.task.Stepped.{Stepped}
use Rattle.js_flow.specs.declared.task.Stepped.TheVariants as stepped
use Rattle.js_flow.specs.Todo.{IfOutOfFuel, IsNotFuel, IsOver, Moves, Strides}
use Rattle.js_flow.proofs.Moves.{begins, strides_one}

-- a step, and then what costs nothing
pub then_free : (c : ℕ) (s t : State) (p q u : Plan) → Moves c s p q → Moves 0 t q u → Moves c s p u
then_free c s t p q u m n = record {
  within = λ g h. m.within g h ∙ (n.within (g - c) (least (g - c)) ∙ ap (λ k. run_plan k u) (sub_zero (g - c)));
  beyond = m.beyond;
}
  where
    least : (k : ℕ) → 0 ≤ k
    least k = omega arith

    sub_zero : (k : ℕ) → k - 0 ≡ k
    sub_zero k = omega arith

-- with the fuel that is there
pub goes : (l m : ℕ) (s : State) (p q : Plan) → Moves (l - m) s p q → m ≤ l → run_plan l p ≡ run_plan m q
goes l m s p q v h = v.within l (less l m) ∙ ap (λ n. run_plan n q) (back l m h)
  where
    less : (a b : ℕ) → a - b ≤ a
    less a b = omega arith

    back : (a b : ℕ) → b ≤ a → a - (a - b) ≡ b
    back a b k = omega (arith, k)

-- steps below k, and then steps below what is left of k
strides_then : (k a c : ℕ) (p q u : Plan) → Strides k a p q → Strides (k - a) c q u → Strides k (a + c) p u
strides_then k a c p q u one two = record {
  within = λ g h. one.within g (omega arith) ∙ (two.within (g - a) (omega arith) ∙ ap (λ n. run_plan n u) (twice g));
  beyond = λ g l m. by g l m (cases_lt g a);
}
  where
    twice : (g : ℕ) → (g - a) - c ≡ g - (a + c)
    twice g = omega arith

    by : (g : ℕ) → k ≤ g → g < a + c → (g < a) ⊎ (a ≤ g) → ((run_plan g p).how ≡ OutOfFuel) × (0 < (run_plan g p).left)
    by g l m (inl lt) = one.beyond g l lt
    by g l m (inr ge) =
        let P : Out → Type 0 = λ o. (o.how ≡ OutOfFuel) × (0 < o.left) in
        subst P (sym (one.within g ge)) (two.beyond (g - a) (omega arith) (omega arith))

-- by what is left of i
pub strides_on : (k i l m : ℕ) (p q u : Plan) → Strides k (i - l) p q → Strides (k - (i - l)) (l - m) q u → m ≤ l → l ≤ i → Strides k (i - m) p u
strides_on k i l m p q u one two h g = subst (λ (n : ℕ). Strides k n p u) (sums i l m h g) (strides_then k (i - l) (l - m) p q u one two)
  where
    sums : (a b c : ℕ) → c ≤ b → b ≤ a → (a - b) + (b - c) ≡ a - c
    sums a b c x y = omega (arith, x, y)

-- one step, whose charge begins below k, or which costs nothing, by what is left of i
pub strides_next : (k i l m : ℕ) (s : State) (p q : Plan) → Moves (l - m) s p q → (k ≤ i - l → l - m ≡ 0) → Strides (k - (i - l)) (l - m) p q
strides_next k i l m s p q moves f = strides_one (k - (i - l)) (l - m) s p q moves (begins_in (begins k (i - l) (l - m) f))
  where
    begins_in : (i - l < k) ⊎ (l - m ≡ 0) → (0 < k - (i - l)) ⊎ (l - m ≡ 0)
    begins_in (inl lt) = inl (omega (arith, lt))
    begins_in (inr z) = inr z

-- a charge of some units begins before k are used up
pub begins_before : (k a c l : ℕ) → (k ≤ a → c ≡ 0) → l < c → a < k
begins_before k a c l f h = by (begins k a c f)
  where
    by : (a < k) ⊎ (c ≡ 0) → a < k
    by (inl lt) = lt
    by (inr z) = absurd (omega (arith, h, z))

-- an answer other than want of fuel
pub not_fuel : (k : Stepped) (P : Type 0) → IsNotFuel k → IfOutOfFuel k P
not_fuel stepped.OutOfFuel P h = absurd h
not_fuel stepped.Went P h = tt
not_fuel (stepped.Native n) P h = tt
not_fuel (stepped.Done o) P h = tt
not_fuel (stepped.Stop c) P h = tt

-- what a want of fuel says may say less
pub if_weaker : (k : Stepped) (P Q : Type 0) → (P → Q) → IfOutOfFuel k P → IfOutOfFuel k Q
if_weaker stepped.OutOfFuel P Q f h = f h
if_weaker stepped.Went P Q f h = tt
if_weaker (stepped.Native n) P Q f h = tt
if_weaker (stepped.Done o) P Q f h = tt
if_weaker (stepped.Stop c) P Q f h = tt

-- steps end at any answer but that the task goes on
pub is_over : (k : Stepped) → (k ≡ stepped.Went → ⊥) → IsOver k
is_over stepped.OutOfFuel h = tt
is_over stepped.Went h = h refl
is_over (stepped.Native n) h = tt
is_over (stepped.Done o) h = tt
is_over (stepped.Stop c) h = tt

-- two clauses of one call
pub both : {T E : Type 0} (r : Result T E) (P Q : T → Type 0) → IfOk r P → IfOk r Q → IfOk r (λ k. P k × Q k)
both (Ok x) P Q p q = (p, q)
both (Err e) P Q p q = tt
