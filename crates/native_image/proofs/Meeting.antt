-- How a native meets its plan at the image of store, page and loop.
use Rattle.std.proofs.Common.{◌≡◌, ℕ, ◌+◌, ◌<◌, List, [], Bool, Option, None, refl, sym, ap, subst, arith}
use Rattle.js_tree.specs.Forest.{Forest}
use Rattle.store_cells.specs.Cells.{Cells}
use Rattle.widget_meaning.specs.OwnState.{State}
use Rattle.widget_meaning.specs.Plan.{Plan, charge}
use Rattle.js_image.specs.Image.{seen}
use Rattle.js_values.specs.Answers.{Answers, IsOutOfFuel, Leaves}
use Rattle.js_values.specs.Fuel.{Fuel}
use Rattle.js_values.specs.declared.outcome.NativeOut.{NativeOut}
use Rattle.js_values.specs.declared.outcome.NativeOut.TheVariants as native
use Rattle.js_values.proofs.Answered.{charged_answers, free_answers, lacking_answers}
use Rattle.native_common.specs.Refines.{Ends, Refines}
use Rattle.page_tree.specs.declared.page.Page.{Page}
use Rattle.page_image.specs.Image.{number}
use Rattle.event_loop.specs.declared.around.Loop.{Loop}
use Rattle.native_image.specs.Image.{Outside, Parts, beside, image}
use Rattle.native_image.specs.Refines.{EndsAt, FiresAtOwn, RefinesAt}
use Rattle.native_image.specs.Sound.{IsSound}
use Rattle.native_image.proofs.Joint.{rest, sound_stays, store_lift}

abbrev pub no_outside : Outside
no_outside = record { log = []; uncaught = []; posts = []; turns = 0; spent = 0; missed = 0; gone = 0; stop = None; grant = 0; outer = [] }

module _ (w : ℕ) (old new : Parts) where
  -- an answer that ends a plan is not want of fuel
  paid : (plan : ℕ → State → Plan) (o : NativeOut) → EndsAt w old new plan o → IsOutOfFuel o → ⊥
  paid plan native.OutOfFuel h f = h.leaves [] no_outside 0
  paid plan (native.Value v) h f = f
  paid plan (native.Throw e) h f = f
  paid plan (native.Call p) h f = f
  paid plan (native.Stop c) h f = f

  -- an answer before any charge
  pub at_free : (plan : ℕ → State → Plan) (o : NativeOut) (had : Fuel) → EndsAt w old new plan o → RefinesAt w old new had had plan o
  at_free plan o had h = record {
    answer = λ fs x d. free_answers (seen w new.store.cells) (number new.page w) d (image fs x w old) (image fs x w new) o (plan d (image fs x w old)) had.left had.left refl (h.leaves fs x d);
    fine = h.fine;
    fires = h.fires;
    spent = refl;
    unpaid = λ f. absurd (paid plan o h f);
    sound = h.sound;
  }

  -- a charge was taken, and the answer is what is left
  pub at_charged : (n : ℕ) (plan : ℕ → State → Plan) (o : NativeOut) (had has : Fuel) → had.left ≡ n + has.left → has.spent ≡ had.spent + n → EndsAt w old new plan o → RefinesAt w old new had has (λ d s. charge n s (plan d s)) o
  at_charged n plan o had has left spent h = record {
    answer = λ fs x d. charged_answers (seen w new.store.cells) (number new.page w) d (image fs x w old) (image fs x w new) o n (plan d (image fs x w old)) had.left has.left left (h.leaves fs x d);
    fine = h.fine;
    fires = h.fires;
    spent = omega (arith, left, spent);
    unpaid = λ f. absurd (paid plan o h f);
    sound = h.sound;
  }

  -- a plan that is the same at the image
  pub at_same : (p q : ℕ → State → Plan) (o : NativeOut) (had has : Fuel) → ((fs : List Forest) (x : Outside) (d : ℕ) → p d (image fs x w old) ≡ q d (image fs x w old)) → RefinesAt w old new had has q o → RefinesAt w old new had has p o
  at_same p q o had has e h = record {
    answer = λ fs x d. subst (λ (y : Plan). Answers (seen w new.store.cells) (number new.page w) d y (image fs x w old) o (image fs x w new) had.left has.left) (sym (e fs x d)) (h.answer fs x d);
    fine = h.fine;
    fires = h.fires;
    spent = h.spent;
    unpaid = h.unpaid;
    sound = h.sound;
  }

-- a charge that is not there
pub at_lacking : (w : ℕ) (h : Parts) (n : ℕ) (plan : ℕ → State → Plan) (had : Fuel) → IsSound w h.store h.page h.around → had.left < n → RefinesAt w h h had had (λ d s. charge n s (plan d s)) native.OutOfFuel
at_lacking w h n plan had sound lt = record {
  answer = λ fs x d. lacking_answers (seen w h.store.cells) (number h.page w) d (image fs x w h) (image fs x w h) n (plan d (image fs x w h)) had.left had.left lt refl;
  fine = tt;
  fires = tt;
  spent = refl;
  unpaid = λ f. (refl, refl);
  sound = sound;
}

-- what a function of the store alone answers
pub ends_lift : (w : ℕ) (lt : w < 32) (s new : Cells) (p : Page) (l : Loop) (b : Option Bool) → IsSound w s p l → (plan : ℕ → State → Plan) (o : NativeOut) → FiresAtOwn w (beside new p l b) o → Ends w s new plan o → EndsAt w (beside s p l b) (beside new p l b) plan o
ends_lift w lt s new p l b sound plan o fires e = record {
  leaves = λ fs x d. subst (λ (t : State). Leaves (seen w new.cells) (number p w) d o t (plan d (image fs x w (beside s p l b)))) (store_lift w s new p l sound.holds (e.kept []).grows lt fs x b) (e.leaves fs (rest w lt x (beside s p l b)) (number p w) d);
  fine = e.fine;
  fires = fires;
  sound = sound_stays w s new p l sound (e.kept []);
}

-- the same with its charges
pub refines_lift : (w : ℕ) (lt : w < 32) (s new : Cells) (p : Page) (l : Loop) (b : Option Bool) → IsSound w s p l → (had has : Fuel) (plan : ℕ → State → Plan) (o : NativeOut) → FiresAtOwn w (beside new p l b) o → Refines w s new had has plan o → RefinesAt w (beside s p l b) (beside new p l b) had has plan o
refines_lift w lt s new p l b sound had has plan o fires m = record {
  answer = λ fs x d. subst (λ (t : State). Answers (seen w new.cells) (number p w) d (plan d (image fs x w (beside s p l b))) (image fs x w (beside s p l b)) o t had.left has.left) (store_lift w s new p l sound.holds (m.kept []).grows lt fs x b) (m.answer fs (rest w lt x (beside s p l b)) (number p w) d);
  fine = m.fine;
  fires = fires;
  spent = m.spent;
  unpaid = λ f. (ap (λ (c : Cells). beside c p l b) (m.unpaid f).0, (m.unpaid f).1);
  sound = sound_stays w s new p l sound (m.kept []);
}
