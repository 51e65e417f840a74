-- Charges and costs: the laws of plans.
use Rattle.std.proofs.Common.{◌≡◌, ℕ, zero, suc, ◌+◌, ◌<◌, ◌≤◌, Bool, true, false, refl, ap, ◌∙◌, arith}
use Rattle.std.specs.Prelude.{nat_lt, if◌then◌else◌}
use Rattle.std.proofs.lemmas.Bool.Decides.{nat_tests}
use Rattle.widget_meaning.specs.Limits.{max_units, max_cells, max_slots, max_nodes}
use Rattle.widget_meaning.specs.Values.{Completion, Cells, Slots, Nodes}
use Rattle.widget_meaning.specs.OwnState.{Amounts, State}
use Rattle.widget_meaning.specs.Plan.{Plan, Halt, Need, Tick, and_then, ticks, charge}
use Rattle.widget_meaning.specs.Costs.{sum, with_counts}
use Rattle.widget_meaning.specs.Meaning.{run_plan}
use Rattle.widget_meaning.specs.PlanLaws.{PlanLaws, CostLaws, out_of_fuel}
use Rattle.widget_meaning.proofs.Runs.{and_then_ret, and_then_assoc, run_and_then}

pub lt_true : (m n : ℕ) → m < n → nat_lt m n ≡ true
lt_true m n h = grind (arith, nat_tests, h)

pub lt_false : (m n : ℕ) → n ≤ m → nat_lt m n ≡ false
lt_false m n h = grind (arith, nat_tests, h)

-- charges
ticks_first : (c : ℕ) (s : State) (p : Plan) (k : Completion → State → Plan) → and_then (ticks c s p) k ≡ ticks c s (and_then p k)
ticks_first zero s p k = refl
ticks_first (suc c) s p k = ap (Tick s) (ticks_first c s p k)

charge_first : (c : ℕ) (s : State) (p : Plan) (k : Completion → State → Plan) → and_then (charge c s p) k ≡ charge c s (and_then p k)
charge_first c s p k = ap (Need c s) (ticks_first c s p k)

nothing_more : (g : ℕ) → 0 + g ≡ g
nothing_more g = omega arith

one_more : (c g : ℕ) → suc c + g ≡ suc (c + g)
one_more c g = omega arith

not_less : (c g : ℕ) → c ≤ c + g
not_less c g = omega arith

ticked : (c g : ℕ) (s : State) (p : Plan) → run_plan (c + g) (ticks c s p) ≡ run_plan g p
ticked zero g s p = ap (λ x. run_plan x p) (nothing_more g)
ticked (suc c) g s p = ap (λ x. run_plan x (Tick s (ticks c s p))) (one_more c g) ∙ ticked c g s p

charged : (c g : ℕ) (s : State) (p : Plan) → run_plan (c + g) (charge c s p) ≡ run_plan g p
charged c g s p = ap (λ b. if b then out_of_fuel s (c + g) else run_plan (c + g) (ticks c s p)) (lt_false (c + g) c (not_less c g)) ∙ ticked c g s p

lacking : (c g : ℕ) (s : State) (p : Plan) → g < c → run_plan g (charge c s p) ≡ out_of_fuel s g
lacking c g s p h = ap (λ b. if b then out_of_fuel s g else run_plan g (ticks c s p)) (lt_true g c h)

pub plan_laws : PlanLaws
plan_laws = record {
  ends = and_then_ret;
  groups = and_then_assoc;
  runs = run_and_then;
  charge_first = charge_first;
  charged = charged;
  lacking = lacking;
}

-- costs
when_true : (b : Bool) (p q : Plan) → b ≡ true → (if b then p else q) ≡ p
when_true b p q h = ap (λ c. if c then p else q) h

when_false : (b : Bool) (p q r : Plan) → b ≡ false → q ≡ r → (if b then p else q) ≡ r
when_false b p q r h e = ap (λ c. if c then p else q) h ∙ e

pub cost_laws : (a : Amounts) (s : State) (k : State → Plan) → CostLaws a s k
cost_laws a s k =
    let t : Amounts = sum s.own.counts a in
    let p : Plan = k (with_counts s t) in
    let u : t.units ≤ max_units → nat_lt max_units t.units ≡ false = lt_false max_units t.units in
    let c : t.cells ≤ max_cells → nat_lt max_cells t.cells ≡ false = lt_false max_cells t.cells in
    let l : t.slots ≤ max_slots → nat_lt max_slots t.slots ≡ false = lt_false max_slots t.slots in
    let n : t.nodes ≤ max_nodes → nat_lt max_nodes t.nodes ≡ false = lt_false max_nodes t.nodes in
    record {
      fits = λ h. when_false _ _ _ p (u h.units) (when_false _ _ _ p (c h.cells) (when_false _ _ _ p (l h.slots) (when_false _ _ _ p (n h.nodes) refl)));
      units = λ h. when_true _ _ _ (lt_true max_units t.units h);
      cells = λ h i. when_false _ _ _ (Halt Cells s) (u h) (when_true _ _ _ (lt_true max_cells t.cells i));
      slots = λ h i j. when_false _ _ _ (Halt Slots s) (u h) (when_false _ _ _ (Halt Slots s) (c i) (when_true _ _ _ (lt_true max_slots t.slots j)));
      nodes = λ h i j m. when_false _ _ _ (Halt Nodes s) (u h) (when_false _ _ _ (Halt Nodes s) (c i) (when_false _ _ _ (Halt Nodes s) (l j) (when_true _ _ _ (lt_true max_nodes t.nodes m))));
    }
