-- How a native meets its plan.
use Rattle.std.proofs.Common.{◌≡◌, ℕ, ◌+◌, ◌<◌, List, [], sym, ap, ◌∙◌, subst, refl, arith, Result, IfOk}
use Rattle.std.proofs.lemmas.Result.{IfOk-weaker}
use Rattle.code_units.specs.declared.memory.Memory.{Memory}
use Rattle.js_tree.specs.Forest.{Forest}
use Rattle.store_cells.specs.Cells.{Cells}
use Rattle.widget_meaning.specs.OwnState.{State}
use Rattle.widget_meaning.specs.Values.{Value as Meant}
use Rattle.widget_meaning.specs.Plan.{Job, Plan, charge, run}
use Rattle.store_cells.specs.declared.value.Value.{Value}
use Rattle.js_image.specs.Image.{Rest, image, no_rest, seen}
use Rattle.js_image.proofs.Grown.{kept_same}
use Rattle.js_values.specs.Fuel.{Fuel}
use Rattle.js_values.specs.Answers.{Answers, IsFineOut, IsOutOfFuel, Leaves}
use Rattle.js_values.specs.declared.outcome.NativeOut.{NativeOut}
use Rattle.js_values.specs.declared.outcome.NativeOut.TheVariants as native
use Rattle.js_values.proofs.Answered.{charged, charged_answers, free_answers, lacking_answers}
use Rattle.native_common.specs.Refines.{Ends, Refines}

-- an answer that ends a plan is not want of fuel
paid : (w : ℕ) (old new : Cells) (plan : ℕ → State → Plan) (o : NativeOut) → Ends w old new plan o → IsOutOfFuel o → ⊥
paid w old new plan native.OutOfFuel h f = h.leaves [] no_rest (λ n. n) 0
paid w old new plan (native.Value v) h f = f
paid w old new plan (native.Throw e) h f = f
paid w old new plan (native.Call p) h f = f
paid w old new plan (native.Stop c) h f = f

-- an answer where nothing changed
pub ends_here : (w : ℕ) (s : Cells) (plan : ℕ → State → Plan) (o : NativeOut) → ((fs : List Forest) (r : Rest) (node : ℕ → ℕ) (d : ℕ) → Leaves (seen w s.cells) node d o (image fs r w s) (plan d (image fs r w s))) → IsFineOut w s.cells o → Ends w s s plan o
ends_here w s plan o h fine = record { leaves = h; fine = fine; kept = λ fs. kept_same fs w s s refl }

-- an answer before any charge
pub refines_free : (w : ℕ) (old new : Cells) (plan : ℕ → State → Plan) (o : NativeOut) (had : Fuel) → Ends w old new plan o → Refines w old new had had plan o
refines_free w old new plan o had h = record {
  answer = λ fs r node d. free_answers (seen w new.cells) node d (image fs r w old) (image fs r w new) o (plan d (image fs r w old)) had.left had.left refl (h.leaves fs r node d);
  fine = h.fine;
  spent = refl;
  unpaid = λ f. absurd (paid w old new plan o h f);
  kept = h.kept;
}

-- a charge was taken, and the answer is what is left
pub refines_charged : (w : ℕ) (old new : Cells) (n : ℕ) (plan : ℕ → State → Plan) (o : NativeOut) (had has : Fuel) → had.left ≡ n + has.left → has.spent ≡ had.spent + n → Ends w old new plan o → Refines w old new had has (λ d s. charge n s (plan d s)) o
refines_charged w old new n plan o had has left spent h = record {
  answer = λ fs r node d. charged_answers (seen w new.cells) node d (image fs r w old) (image fs r w new) o n (plan d (image fs r w old)) had.left has.left left (h.leaves fs r node d);
  fine = h.fine;
  spent = omega (arith, left, spent);
  unpaid = λ f. absurd (paid w old new plan o h f);
  kept = h.kept;
}

-- a charge that is not there
pub refines_lacking : (w : ℕ) (old : Cells) (n : ℕ) (plan : ℕ → State → Plan) (had : Fuel) → had.left < n → Refines w old old had had (λ d s. charge n s (plan d s)) native.OutOfFuel
refines_lacking w old n plan had lt = record {
  answer = λ fs r node d. lacking_answers (seen w old.cells) node d (image fs r w old) (image fs r w old) n (plan d (image fs r w old)) had.left had.left lt refl;
  fine = tt;
  spent = refl;
  unpaid = λ f. (refl, refl);
  kept = λ fs. kept_same fs w old old refl;
}

-- a plan that is the same at the image
pub refines_same : (w : ℕ) (old new : Cells) (p q : ℕ → State → Plan) (o : NativeOut) (had has : Fuel) → ((fs : List Forest) (r : Rest) (d : ℕ) → p d (image fs r w old) ≡ q d (image fs r w old)) → Refines w old new had has q o → Refines w old new had has p o
refines_same w old new p q o had has e h = record {
  answer = λ fs r node d. subst (λ (x : Plan). Answers (seen w new.cells) node d x (image fs r w old) o (image fs r w new) had.left has.left) (sym (e fs r d)) (h.answer fs r node d);
  fine = h.fine;
  spent = h.spent;
  unpaid = h.unpaid;
  kept = h.kept;
}

-- a charge of nothing takes nothing
nothing : (body : Job → State → Plan) (g : ℕ) (s : State) (p : Plan) → run body g (charge 0 s p) ≡ run body g p
nothing body g s p = let e : g ≡ 0 + g = omega arith in ap (λ x. run body x (charge 0 s p)) e ∙ (charged 0 s p).on body g

-- a charge of nothing
pub refines_zero : (w : ℕ) (old new : Cells) (plan : ℕ → State → Plan) (o : NativeOut) (had has : Fuel) → Refines w old new had has plan o → Refines w old new had has (λ d s. charge 0 s (plan d s)) o
refines_zero w old new plan o had has h = record {
  answer = λ fs r node d.
      let s = image fs r w old in
      let p = plan d s in record {
        fuel = λ f. let x = (h.answer fs r node d).fuel f in (λ body. nothing body had.left s p ∙ x.0 body, x.1);
        other = λ no. let x = (h.answer fs r node d).other no in (
          x.0,
          x.1,
          x.2,
          record { on = λ body g. nothing body (x.0 + g) s p ∙ x.3.on body g; short = λ body g lt. nothing body g s p ∙ x.3.short body g lt },
          x.4,
        );
      };
  fine = h.fine;
  spent = h.spent;
  unpaid = h.unpaid;
  kept = h.kept;
}

-- what ends a plan that is the same at the image
pub ends_same : (w : ℕ) (old new : Cells) (p q : ℕ → State → Plan) (o : NativeOut) → ((fs : List Forest) (r : Rest) (d : ℕ) → p d (image fs r w old) ≡ q d (image fs r w old)) → Ends w old new q o → Ends w old new p o
ends_same w old new p q o e h = record { leaves = λ fs r node d. moved (seen w new.cells) node d o (image fs r w new) (e fs r d) (h.leaves fs r node d); fine = h.fine; kept = h.kept }
  where
    moved : (see : Value → Meant) (node : ℕ → ℕ) (d : ℕ) (o : NativeOut) (t : State) {x y : Plan} → x ≡ y → Leaves see node d o t y → Leaves see node d o t x
    moved see node d o t e l = subst (Leaves see node d o t) (sym e) l

-- the same of a result
pub ok_ends_same : (w : ℕ) (old new : Cells) (p q : ℕ → State → Plan) (result : Result NativeOut Memory) → ((fs : List Forest) (r : Rest) (d : ℕ) → p d (image fs r w old) ≡ q d (image fs r w old)) → IfOk result (Ends w old new q) → IfOk result (Ends w old new p)
ok_ends_same w old new p q result e h = IfOk-weaker result (Ends w old new q) (Ends w old new p) (λ o x. ends_same w old new p q o e x) h

pub ok_refines_same : (w : ℕ) (old new : Cells) (p q : ℕ → State → Plan) (result : Result NativeOut Memory) (had has : Fuel) → ((fs : List Forest) (r : Rest) (d : ℕ) → p d (image fs r w old) ≡ q d (image fs r w old)) → IfOk result (Refines w old new had has q) → IfOk result (Refines w old new had has p)
ok_refines_same w old new p q result had has e h = IfOk-weaker result (Refines w old new had has q) (Refines w old new had has p) (λ o x. refines_same w old new p q o had has e x) h

-- after a charge that is taken, what ends the rest meets the whole
pub ok_charged : (w : ℕ) (old new : Cells) (n : ℕ) (plan : ℕ → State → Plan) (result : Result NativeOut Memory) (had has : Fuel) → had.left ≡ n + has.left → has.spent ≡ had.spent + n → IfOk result (Ends w old new plan) → IfOk result (Refines w old new had has (λ d s. charge n s (plan d s)))
ok_charged w old new n plan result had has left spent h = IfOk-weaker result (Ends w old new plan) (Refines w old new had has (λ d s. charge n s (plan d s))) (λ o x. refines_charged w old new n plan o had has left spent x) h

-- an answer before any charge
pub ok_free : (w : ℕ) (old new : Cells) (plan : ℕ → State → Plan) (result : Result NativeOut Memory) (had : Fuel) → IfOk result (Ends w old new plan) → IfOk result (Refines w old new had had plan)
ok_free w old new plan result had h = IfOk-weaker result (Ends w old new plan) (Refines w old new had had plan) (λ o x. refines_free w old new plan o had x) h
