-- A plan that goes on, over what waits.
use Rattle.std.proofs.Common.{◌≡◌, ℕ, zero, suc, ◌-◌, List, [], ◌∷◌, ap, ◌∙◌, refl, arith}
use Rattle.std.specs.Prelude.{get_or, slice_index_or}
use Rattle.widget_meaning.specs.Values.{Completion}
use Rattle.widget_meaning.specs.OwnState.{State}
use Rattle.widget_meaning.specs.Plan.{Do, Job, Plan, and_then}
use Rattle.widget_meaning.specs.Meaning.{body, run_plan}
use Rattle.widget_meaning.specs.Compositional.{then_do}
use Rattle.widget_meaning.proofs.Runs.{run_and_then}
use Rattle.js_values.specs.Answers.{out_of_fuel}
use Rattle.js_flow.specs.Todo.{Moves}

-- the same plans, said otherwise
pub moves_is : (c : ℕ) (s : State) (p q r t : Plan) → r ≡ p → q ≡ t → Moves c s p q → Moves c s r t
moves_is c s p q r t e f m = record {
  within = λ g h. ap (run_plan g) e ∙ (m.within g h ∙ ap (run_plan (g - c)) f);
  beyond = λ g h. ap (run_plan g) e ∙ m.beyond g h;
}

-- two jobs that are the same after their unit go on alike
pub moves_alike : (s : State) (i j : Job) (k m : Completion → State → Plan) → and_then (body i s) k ≡ and_then (body j s) m → Moves 0 s (Do i s k) (Do j s m)
moves_alike s i j k m e = record { within = λ g h. alike g; beyond = λ g h. absurd (omega arith) }
  where
    alike : (g : ℕ) → run_plan g (Do i s k) ≡ run_plan (g - 0) (Do j s m)
    alike zero = refl
    alike (suc g) = one g ∙ ap (λ n. run_plan n (Do j s m)) (less g)
      where
        one : (n : ℕ) → run_plan (suc n) (Do i s k) ≡ run_plan (suc n) (Do j s m)
        one n = ap (run_plan n) e

        less : (n : ℕ) → suc n ≡ suc n - 0
        less n = omega arith

-- what has too little fuel has it over what waits too
pub short_over : (g : ℕ) (s : State) (p : Plan) (k : Completion → State → Plan) → run_plan g p ≡ out_of_fuel s g → run_plan g (and_then p k) ≡ out_of_fuel s g
short_over g s p k e = run_and_then g p k ∙ ap (λ r. then_do r k) e

-- the first of the functions of a node
pub first_function : (fs : List ℕ) → slice_index_or fs 0 0 ≡ get_or fs 0 0
first_function [] = refl
first_function (f ∷ fs) = refl
