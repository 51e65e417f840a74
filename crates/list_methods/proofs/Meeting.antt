-- How a native meets its plan, where its charge is read off the state.
use Rattle.std.proofs.Common.{◌≡◌, ℕ, ◌+◌, ◌<◌, List, [], sym, subst, refl, ap, arith}
use Rattle.std.specs.Prelude.{Err, Ok, OnErr, Result}
use Rattle.js_tree.specs.Forest.{Forest}
use Rattle.store_cells.specs.declared.value.Value.{Value}
use Rattle.store_cells.specs.declared.value.Value.TheVariants as value
use Rattle.store_cells.specs.Cells.{Cells}
use Rattle.widget_meaning.specs.OwnState.{State}
use Rattle.widget_meaning.specs.Plan.{Halt, Plan, charge}
use Rattle.widget_meaning.specs.Costs.{give, throw}
use Rattle.js_image.specs.Image.{Rest, image, no_rest, seen}
use Rattle.js_image.specs.declared.outcome.Fault.{Fault}
use Rattle.js_image.specs.declared.outcome.Made.{Made}
use Rattle.js_image.specs.declared.outcome.Made.TheVariants as made
use Rattle.js_image.specs.declared.outcome.StopCause.{StopCause}
use Rattle.js_image.specs.Held.{IsFine, Kept}
use Rattle.js_image.specs.Plans.{meant_cause, meant_fault}
use Rattle.js_image.proofs.Grown.{kept_same}
use Rattle.js_image.proofs.Units.{kept_then}
use Rattle.js_values.specs.Fuel.{Fuel}
use Rattle.js_values.specs.Answers.{IsOutOfFuel, Leaves}
use Rattle.js_values.specs.declared.outcome.NativeOut.{NativeOut}
use Rattle.js_values.specs.declared.outcome.NativeOut.TheVariants as native
use Rattle.js_values.proofs.Answered.{charged_answers, lacking_answers}
use Rattle.native_common.specs.Refines.{Ends, Refines}
use Rattle.native_common.specs.Numbers.{counted}
use Rattle.native_common.proofs.Meeting.{ends_here, refines_free}

-- an answer that ends a plan is not want of fuel
paid : (w : ℕ) (old new : Cells) (plan : ℕ → State → Plan) (o : NativeOut) → Ends w old new plan o → IsOutOfFuel o → ⊥
paid w old new plan native.OutOfFuel h f = h.leaves [] no_rest (λ n. n) 0
paid w old new plan (native.Value v) h f = f
paid w old new plan (native.Throw e) h f = f
paid w old new plan (native.Call p) h f = f
paid w old new plan (native.Stop c) h f = f

module _ (w : ℕ) (old new : Cells) (n : State → ℕ) (asked : ℕ) (is : (fs : List Forest) (r : Rest) → asked ≡ counted (n (image fs r w old))) (plan : ℕ → State → Plan) (had has : Fuel) where
  -- a charge that was taken
  pub refines_taken : (o : NativeOut) → ((k : ℕ) → asked ≡ counted k → (had.left ≡ k + has.left) × (has.spent ≡ had.spent + k)) → Ends w old new plan o → Refines w old new had has (λ d s. charge (n s) s (plan d s)) o
  refines_taken o taken h = record {
    answer = λ fs r node d. charged_answers (seen w new.cells) node d (image fs r w old) (image fs r w new) o (n (image fs r w old)) (plan d (image fs r w old)) had.left has.left (taken (n (image fs r w old)) (is fs r)).0 (h.leaves fs r node d);
    fine = h.fine;
    spent = let t = taken (n (image [] no_rest w old)) (is [] no_rest) in omega (arith, t.0, t.1);
    unpaid = λ f. absurd (paid w old new plan o h f);
    kept = h.kept;
  }

  -- a charge that is not there
  pub refines_wanting : ((k : ℕ) → asked ≡ counted k → had.left < k) → has ≡ had → new ≡ old → Refines w old new had has (λ d s. charge (n s) s (plan d s)) native.OutOfFuel
  refines_wanting lacks same unchanged = record {
    answer = λ fs r node d. lacking_answers (seen w new.cells) node d (image fs r w old) (image fs r w new) (n (image fs r w old)) (plan d (image fs r w old)) had.left has.left (lacks (n (image fs r w old)) (is fs r)) (ap (λ (f : Fuel). f.left) same);
    fine = tt;
    spent = ap (λ (f : Fuel). f.left + f.spent) same;
    unpaid = λ f. (unchanged, same);
    kept = λ fs. kept_same fs w old new unchanged;
  }

-- too little fuel
pub refines_short : (w : ℕ) (old new : Cells) (n : State → ℕ) (plan : ℕ → State → Plan) (had has : Fuel) → ((fs : List Forest) (r : Rest) → had.left < n (image fs r w old)) → has ≡ had → new ≡ old → Refines w old new had has (λ d s. charge (n s) s (plan d s)) native.OutOfFuel
refines_short w old new n plan had has lacks same unchanged = record {
  answer = λ fs r node d. lacking_answers (seen w new.cells) node d (image fs r w old) (image fs r w new) (n (image fs r w old)) (plan d (image fs r w old)) had.left has.left (lacks fs r) (ap (λ (f : Fuel). f.left) same);
  fine = tt;
  spent = ap (λ (f : Fuel). f.left + f.spent) same;
  unpaid = λ f. (unchanged, same);
  kept = λ fs. kept_same fs w old new unchanged;
}

-- a plan by a number that is read off the state, where the answer meets it by every number that counts alike
pub refines_each : (w : ℕ) (old new : Cells) (n : State → ℕ) (asked : ℕ) (plan : ℕ → ℕ → State → Plan) (had has : Fuel) (o : NativeOut) → ((fs : List Forest) (r : Rest) → asked ≡ counted (n (image fs r w old))) → ((m : ℕ) → asked ≡ counted m → Refines w old new had has (plan m) o) → Refines w old new had has (λ d s. plan (n s) d s) o
refines_each w old new n asked plan had has o is h =
    let one = h (n (image [] no_rest w old)) (is [] no_rest) in record {
      answer = λ fs r node d. (h (n (image fs r w old)) (is fs r)).answer fs r node d;
      fine = one.fine;
      spent = one.spent;
      unpaid = one.unpaid;
      kept = one.kept;
    }

-- what follows a change that the plan makes too
pub ends_after : (w : ℕ) (old mid new : Cells) (p q : ℕ → State → Plan) (o : NativeOut) → ((fs : List Forest) (r : Rest) (d : ℕ) → p d (image fs r w old) ≡ q d (image fs r w mid)) → ((fs : List Forest) → Kept fs w old mid) → Ends w mid new q o → Ends w old new p o
ends_after w old mid new p q o e kept h = record {
  leaves = λ fs r node d. subst (λ (x : Plan). Leaves (seen w new.cells) node d o (image fs r w new) x) (sym (e fs r d)) (h.leaves fs r node d);
  fine = h.fine;
  kept = λ fs. kept_then fs w old mid new (kept fs) (h.kept fs);
}

-- a fault before any charge
pub thrown : (w : ℕ) (s : Cells) (plan : ℕ → State → Plan) (f : Fault) (had : Fuel) → ((fs : List Forest) (r : Rest) (d : ℕ) → plan d (image fs r w s) ≡ throw (meant_fault f) (image fs r w s)) → Refines w s s had had plan (native.Throw f)
thrown w s plan f had h = refines_free w s s plan (native.Throw f) had (ends_here w s plan (native.Throw f) (λ fs r node d. h fs r d) tt)

-- a stop
pub stop_ends : (w : ℕ) (old new : Cells) (plan : ℕ → State → Plan) (c : StopCause) → ((fs : List Forest) (r : Rest) (d : ℕ) → plan d (image fs r w old) ≡ Halt (meant_cause c) (image fs r w new)) → ((fs : List Forest) → Kept fs w old new) → Ends w old new plan (native.Stop c)
stop_ends w old new plan c h kept = record { leaves = λ fs r node d. h fs r d; fine = tt; kept = kept }

-- a value
pub value_ends : (w : ℕ) (old new : Cells) (plan : ℕ → State → Plan) (v : Value) → ((fs : List Forest) (r : Rest) (d : ℕ) → plan d (image fs r w old) ≡ give (seen w new.cells v) (image fs r w new)) → IsFine w new.cells v → ((fs : List Forest) → Kept fs w old new) → Ends w old new plan (native.Value v)
value_ends w old new plan v h fine kept = record { leaves = λ fs r node d. h fs r d; fine = fine; kept = kept }

-- what was made is given
abbrev pub out_of : Made → NativeOut
out_of (made.Cell i) = native.Value (value.Ref i)
out_of (made.Stop c) = native.Stop c

-- nothing changed
pub kept_here : (fs : List Forest) (w : ℕ) (s : Cells) → Kept fs w s s
kept_here fs w s = kept_same fs w s s refl

-- what holds in any case
pub on_err : {A E : Type 0} (r : Result A E) (P : Type 0) → P → OnErr r P
on_err (Ok x) P p = tt
on_err (Err e) P p = p
