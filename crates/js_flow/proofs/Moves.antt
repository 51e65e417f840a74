-- A step moves what is still to be done by its charge.
use Rattle.std.proofs.Common.{◌≡◌, ℕ, zero, suc, ◌+◌, ◌-◌, ◌<◌, ◌≤◌, List, refl, sym, ap, ◌∙◌, subst, arith, ◌⊎◌, inl, inr}
use Rattle.std.proofs.lemmas.Bool.{cases_lt}
use Rattle.js_tree.specs.Forest.{Forest}
use Rattle.store_cells.specs.Cells.{PlainCell}
use Rattle.widget_meaning.specs.Values as meaning
use Rattle.widget_meaning.specs.OwnState.{State}
use Rattle.widget_meaning.specs.Plan as plan
use Rattle.widget_meaning.specs.Plan.{Out, Plan, Do, and_then, charge, OutOfFuel}
use Rattle.widget_meaning.specs.Meaning.{body, run_plan}
use Rattle.widget_meaning.proofs.PlansHold.{plan_laws}
use Rattle.js_flow.specs.declared.frame.Frame.{Frame}
use Rattle.js_flow.specs.declared.task.Control.TheVariants as control
use Rattle.js_flow.specs.Frames.{rest}
use Rattle.js_flow.specs.Todo.{Moves, Strides, todo}

-- after no charge and no change
pub stays : (s : State) (p q : Plan) → p ≡ q → Moves 0 s p q
stays s p q e = record {
  within = λ g h. ap (run_plan g) e ∙ ap (λ n. run_plan n q) (sub_zero g);
  beyond = λ g h. absurd (omega arith);
}
  where
    sub_zero : (g : ℕ) → g ≡ g - 0
    sub_zero g = omega arith

-- a job, after its unit
pub job_moves : (j : plan.Job) (s : State) (k : meaning.Completion → State → Plan) (after : Plan) → after ≡ and_then (body j s) k → Moves 1 s (Do j s k) after
job_moves j s k after e = record {
  within = λ g h. one g h;
  beyond = λ g h. none g h;
}
  where
    from_one : (n : ℕ) → run_plan (suc n) (Do j s k) ≡ run_plan n after
    from_one n = ap (run_plan n) (sym e)

    one : (g : ℕ) → 1 ≤ g → run_plan g (Do j s k) ≡ run_plan (g - 1) after
    one zero h = absurd (omega arith)
    one (suc n) h = from_one n ∙ ap (λ m. run_plan m after) (less n)
      where
        less : (m : ℕ) → m ≡ suc m - 1
        less m = omega arith

    none : (g : ℕ) → g < 1 → run_plan g (Do j s k) ≡ record { how = OutOfFuel; state = s; left = g }
    none zero h = refl
    none (suc n) h = absurd (omega arith)

-- a charge
pub charge_moves : (c : ℕ) (s : State) (p : Plan) → Moves c s (charge c s p) p
charge_moves c s p = record {
  within = λ g h. ap (λ n. run_plan n (charge c s p)) (parted g h) ∙ plan_laws.charged c (g - c) s p;
  beyond = λ g h. plan_laws.lacking c g s p h;
}
  where
    parted : (g : ℕ) → c ≤ g → g ≡ c + (g - c)
    parted g h = omega (arith, h)

-- a charge that frames wait for
pub pay_moves : (fs : List Forest) (w : ℕ) (cells : List PlainCell) (n : ℕ) (frames : List Frame) (s : State) (after : Plan) → after ≡ rest fs w cells frames meaning.Normal s → Moves n s (todo fs w cells (control.Pay n) frames s) after
pay_moves fs w cells n frames s after e = subst (λ (q : Plan). Moves n s (todo fs w cells (control.Pay n) frames s) q) (sym e) (charge_moves n s (rest fs w cells frames meaning.Normal s))

-- no step
pub strides_none : (k : ℕ) (p q : Plan) → p ≡ q → Strides k 0 p q
strides_none k p q e = record {
  within = λ g h. ap (run_plan g) e ∙ ap (λ n. run_plan n q) (sub_zero g);
  beyond = λ g l m. absurd (omega arith);
}
  where
    sub_zero : (g : ℕ) → g ≡ g - 0
    sub_zero g = omega arith

-- one step more, whose charge begins below k, or which costs nothing
pub strides_more : (k a c : ℕ) (s : State) (p q r : Plan) → Strides k a p q → Moves c s q r → (a < k) ⊎ (c ≡ 0) → Strides k (a + c) p r
strides_more k a c s p q r strides moves before = record {
  within = λ g h. strides.within g (omega arith) ∙ (moves.within (g - a) (omega arith) ∙ ap (λ n. run_plan n r) (twice g));
  beyond = λ g l m. below g l m (cases_lt g a);
}
  where
    twice : (g : ℕ) → (g - a) - c ≡ g - (a + c)
    twice g = omega arith

    kept : (g : ℕ) → k ≤ g → g < a + c → a ≤ g → (a < k) ⊎ (c ≡ 0) → ((run_plan g p).how ≡ OutOfFuel) × (0 < (run_plan g p).left)
    kept g l m n (inl lt) =
        let e = strides.within g n ∙ moves.beyond (g - a) (omega arith) in
        let P : Out → Type 0 = λ o. (o.how ≡ OutOfFuel) × (0 < o.left) in
        subst P (sym e) (refl, omega arith)
    kept g l m n (inr z) = absurd (omega arith)

    below : (g : ℕ) → k ≤ g → g < a + c → (g < a) ⊎ (a ≤ g) → ((run_plan g p).how ≡ OutOfFuel) × (0 < (run_plan g p).left)
    below g l m (inl lt) = strides.beyond g l lt
    below g l m (inr ge) = kept g l m ge before

-- one step, whose charge begins below k, or which costs nothing
pub strides_one : (k c : ℕ) (s : State) (p q : Plan) → Moves c s p q → (0 < k) ⊎ (c ≡ 0) → Strides k c p q
strides_one k c s p q moves before = subst (λ (n : ℕ). Strides k n p q) same (strides_more k 0 c s p p q (strides_none k p p refl) moves before)
  where
    same : 0 + c ≡ c
    same = omega arith

-- where k units are used up, the next step costs nothing
pub begins : (k a c : ℕ) → (k ≤ a → c ≡ 0) → (a < k) ⊎ (c ≡ 0)
begins k a c f = by (cases_lt a k)
  where
    by : (a < k) ⊎ (k ≤ a) → (a < k) ⊎ (c ≡ 0)
    by (inl lt) = inl lt
    by (inr ge) = inr (f ge)
