-- How an answer meets its plan where notes change, or the widget is confined.
use Rattle.std.proofs.Common.{◌≡◌, ℕ, ℤ, ◌+◌, ◌<◌, List, refl, sym, ap, subst, arith, Option, None}
use Rattle.js_tree.specs.Forest.{Forest}
use Rattle.store_cells.specs.Cells.{Cells}
use Rattle.widget_meaning.specs.OwnState.{State}
use Rattle.widget_meaning.specs.Plan.{Plan, charge}
use Rattle.js_image.specs.Image.{Rest, image, seen}
use Rattle.js_image.proofs.Grown.{kept_same}
use Rattle.js_values.specs.Answers.{Answers}
use Rattle.js_values.specs.Fuel.{Fuel}
use Rattle.js_values.specs.declared.outcome.NativeOut.{NativeOut}
use Rattle.js_values.specs.declared.outcome.NativeOut.TheVariants as native
use Rattle.js_values.proofs.Answered.{charged_answers, free_answers, lacking_answers}
use Rattle.native_common.specs.Refines.{Refines}
use Rattle.json_text.specs.Confined.{RefinesConfined}
use Rattle.adsafe_object.specs.Ends.{EndsConfined, EndsNoted, RefinesNoted, RefinesSilent}
use Rattle.adsafe_object.specs.Notes.{Notes, noted}

module _ (w waiting : ℕ) (old new : Cells) (before after : Notes) where
  -- an answer before any charge
  pub noted_free : (plan : ℕ → State → Plan) (o : NativeOut) (had : Fuel) → EndsNoted w waiting old new before after plan o → RefinesNoted w waiting old new had had before after plan o
  noted_free plan o had h = record {
    answer = λ fs r node d confined few. free_answers (seen w new.cells) node d (image fs (noted w old.cells before r) w old) (image fs (noted w new.cells after r) w new) o (plan d (image fs (noted w old.cells before r) w old)) had.left had.left refl (h.leaves fs r node d few);
    fine = λ fs confined. h.fine;
    spent = refl;
    unpaid = λ f. absurd (h.paid f);
    kept = h.kept;
  }

  -- a charge was taken, and the answer is what is left
  pub noted_charged : (n : ℕ) (plan : ℕ → State → Plan) (o : NativeOut) (had has : Fuel) → had.left ≡ n + has.left → has.spent ≡ had.spent + n → EndsNoted w waiting old new before after plan o
      → RefinesNoted w waiting old new had has before after (λ d s. charge n s (plan d s)) o
  noted_charged n plan o had has left spent h = record {
    answer = λ fs r node d confined few. charged_answers (seen w new.cells) node d (image fs (noted w old.cells before r) w old) (image fs (noted w new.cells after r) w new) o n (plan d (image fs (noted w old.cells before r) w old)) had.left has.left left (h.leaves fs r node d few);
    fine = λ fs confined. h.fine;
    spent = omega (arith, left, spent);
    unpaid = λ f. absurd (h.paid f);
    kept = h.kept;
  }

  -- a plan that is the same at the image
  pub noted_same : (p q : ℕ → State → Plan) (o : NativeOut) (had has : Fuel) → ((fs : List Forest) (r : Rest) (d : ℕ) → p d (image fs r w old) ≡ q d (image fs r w old)) → RefinesNoted w waiting old new had has before after q o → RefinesNoted w waiting old new had has before after p o
  noted_same p q o had has e h = record {
    answer = λ fs r node d confined few. subst (λ (x : Plan). Answers (seen w new.cells) node d x (image fs (noted w old.cells before r) w old) o (image fs (noted w new.cells after r) w new) had.left has.left) (sym (e fs (noted w old.cells before r) d)) (h.answer fs r node d confined few);
    fine = h.fine;
    spent = h.spent;
    unpaid = h.unpaid;
    kept = h.kept;
  }

-- a charge that is not there
noted_lacking : (w waiting : ℕ) (old : Cells) (notes : Notes) (n : ℕ) (plan : ℕ → State → Plan) (had : Fuel) → had.left < n → RefinesNoted w waiting old old had had notes notes (λ d s. charge n s (plan d s)) native.OutOfFuel
noted_lacking w waiting old notes n plan had lt = record {
  answer = λ fs r node d confined few. lacking_answers (seen w old.cells) node d (image fs (noted w old.cells notes r) w old) (image fs (noted w old.cells notes r) w old) n (plan d (image fs (noted w old.cells notes r) w old)) had.left had.left lt refl;
  fine = λ fs confined. tt;
  spent = refl;
  unpaid = λ f. (refl, refl, refl);
  kept = λ fs. kept_same fs w old old refl;
}

pub noted_refused : (w waiting : ℕ) (old : Cells) (notes : Notes) (n : ℕ) (plan : ℕ → State → Plan) (had has : Fuel) → had.left < n → has ≡ had → RefinesNoted w waiting old old had has notes notes (λ d s. charge n s (plan d s)) native.OutOfFuel
noted_refused w waiting old notes n plan had has lt same = subst (λ (f : Fuel). RefinesNoted w waiting old old had f notes notes (λ d s. charge n s (plan d s)) native.OutOfFuel) (sym same) (noted_lacking w waiting old notes n plan had lt)

module _ (w : ℕ) (old new : Cells) (had has : Fuel) (plan : ℕ → State → Plan) (o : NativeOut) where
  -- a native that knows the store alone keeps no note
  pub refines_silent : Refines w old new had has plan o → RefinesSilent w old new had has plan o
  refines_silent h = record { answer = λ fs r node d confined. h.answer fs r node d; fine = λ fs confined. h.fine; spent = h.spent; unpaid = h.unpaid; kept = h.kept }

  -- one that asks for no fuel
  ends_silent : has ≡ had → EndsConfined w old new plan o → RefinesSilent w old new had has plan o
  ends_silent same h = record {
    answer = λ fs r node d confined. free_answers (seen w new.cells) node d (image fs r w old) (image fs r w new) o (plan d (image fs r w old)) had.left has.left (ap (λ f. f.left) (sym same)) (h.leaves fs r node d confined);
    fine = h.fine;
    spent = ap (λ f. f.left + f.spent) same;
    unpaid = λ f. absurd (h.paid f);
    kept = h.kept;
  }

  -- one whose widget may hold its answer anyhow
  confined_silent : RefinesConfined w old new had has plan o → RefinesSilent w old new had has plan o
  confined_silent h = record { answer = h.answer; fine = λ fs confined. h.fine; spent = h.spent; unpaid = h.unpaid; kept = h.kept }

  -- a plan that is the same
  silent_same : (p : ℕ → State → Plan) → ((d : ℕ) (s : State) → p d s ≡ plan d s) → RefinesSilent w old new had has plan o → RefinesSilent w old new had has p o
  silent_same p e h = record {
    answer = λ fs r node d confined. subst (λ (x : Plan). Answers (seen w new.cells) node d x (image fs r w old) o (image fs r w new) had.left has.left) (sym (e d (image fs r w old))) (h.answer fs r node d confined);
    fine = h.fine;
    spent = h.spent;
    unpaid = h.unpaid;
    kept = h.kept;
  }

  pub refines_run : (p : ℕ → State → Plan) → ((d : ℕ) (s : State) → p d s ≡ plan d s) → Refines w old new had has plan o → RefinesSilent w old new had has p o
  refines_run p e h = silent_same p e (refines_silent h)

  pub confined_run : (p : ℕ → State → Plan) → ((d : ℕ) (s : State) → p d s ≡ plan d s) → has ≡ had → EndsConfined w old new plan o → RefinesSilent w old new had has p o
  confined_run p e same h = silent_same p e (ends_silent same h)

  pub text_run : (p : ℕ → State → Plan) → ((d : ℕ) (s : State) → p d s ≡ plan d s) → RefinesConfined w old new had has plan o → RefinesSilent w old new had has p o
  text_run p e h = silent_same p e (confined_silent h)

  -- it leaves the notes as they are
  pub silent_keeps : (waiting : ℕ) (log : List (List ℕ)) (posts : List (List ℕ × List ℕ)) (asked : Option (ℕ × ℤ)) → asked ≡ None → RefinesSilent w old new had has plan o
      → RefinesNoted w waiting old new had has (record { log = log; posts = posts; asked = None }) (record { log = log; posts = posts; asked = asked }) plan o
  silent_keeps waiting log posts asked none h =
      let notes : Notes = record { log = log; posts = posts; asked = None } in
      subst (λ a. RefinesNoted w waiting old new had has notes (record { log = log; posts = posts; asked = a }) plan o) (sym none) (record {
        answer = λ fs r node d confined few. h.answer fs (noted w old.cells notes r) node d confined;
        fine = h.fine;
        spent = h.spent;
        unpaid = λ f. ((h.unpaid f).0, (h.unpaid f).1, refl);
        kept = h.kept;
      })

-- a native that changes the log or the posts, and asks for no timer
pub noted_run : (w waiting : ℕ) (old new : Cells) (had has : Fuel) (log more : List (List ℕ)) (posts kept : List (List ℕ × List ℕ)) (plan : ℕ → State → Plan) (o : NativeOut) (asked : Option (ℕ × ℤ)) → asked ≡ None
    → (p : ℕ → State → Plan) → ((d : ℕ) (s : State) → p d s ≡ plan d s)
    → RefinesNoted w waiting old new had has (record { log = log; posts = posts; asked = None }) (record { log = more; posts = kept; asked = None }) plan o
    → RefinesNoted w waiting old new had has (record { log = log; posts = posts; asked = None }) (record { log = more; posts = kept; asked = asked }) p o
noted_run w waiting old new had has log more posts kept plan o asked none p e h =
    subst (λ a. RefinesNoted w waiting old new had has (record { log = log; posts = posts; asked = None }) (record { log = more; posts = kept; asked = a }) p o) (sym none)
    (noted_same w waiting old new _ _ p plan o had has (λ fs r d. e d (image fs r w old)) h)
