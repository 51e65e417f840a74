-- The timer that was asked for waits in the loop.
use Rattle.std.proofs.Common.{◌≡◌, ℕ, ℤ, pos, negsuc, ◌+◌, ◌<◌, List, [], ◌∷◌, ◌++◌, append-nil, map, length, refl, sym, ap, ◌∙◌, subst, Bool, Option, None, Some}
use Rattle.std.specs.Prelude.{IfOk, OnErr, OnOk, Result, Ok, Err}
use Rattle.std.specs.List.{AllByRecursion}
use Rattle.std.proofs.lemmas.List.{length-map, map-append}
use Rattle.code_units.specs.declared.memory.Memory.{Memory}
use Rattle.js_tree.specs.Forest.{Forest}
use Rattle.store_cells.specs.Cells.{Cells, PlainCell, own_count}
use Rattle.query_grammar.specs.Renumbering.{renumbered}
use Rattle.widget_meaning.specs.AdsafeNatives.{delay, with_timer}
use Rattle.widget_meaning.specs.OwnState as meaning
use Rattle.widget_meaning.specs.OwnState.{State, with_own}
use Rattle.widget_meaning.specs.Plan.{Plan}
use Rattle.widget_meaning.specs.Values.{Own}
use Rattle.page_tree.specs.declared.page.Page.{Page}
use Rattle.event_loop.specs.Around as around
use Rattle.event_loop.specs.Around.{SameButTimers}
use Rattle.event_loop.specs.Timers as timers
use Rattle.event_loop.specs.declared.around.Loop.{Loop}
use Rattle.event_loop.specs.declared.timers.Timer.{Timer}
use Rattle.page_image.specs.Around.{kept_of, own_kept, own_timers, timer_of}
use Rattle.page_image.specs.Held.{OptionIn}
use Rattle.page_image.specs.Image.{number, own, owns}
use Rattle.page_image.proofs.Kept.{all_same}
use Rattle.object_store.specs.Grows.{Grows}
use Rattle.js_image.specs.Held.{IsConfined, Kept}
use Rattle.js_image.specs.Image as store
use Rattle.js_image.specs.Image.{seen}
use Rattle.js_values.specs.Answers.{Answers}
use Rattle.js_values.specs.Fuel.{Fuel}
use Rattle.js_values.specs.declared.outcome.NativeOut.{NativeOut}
use Rattle.adsafe_object.specs.Ends.{RefinesNoted}
use Rattle.adsafe_object.specs.Notes.{Notes, noted}
use Rattle.adsafe_object.specs.Timers.{AsksOwn}
use Rattle.native_image.specs.Image.{Outside, beside, dispatches_of, image}
use Rattle.native_image.specs.Sound.{HoldsOwn, IsOwnCell, IsSound, KeepsAll}
use Rattle.native_image.proofs.Joint.{keeps_of, rest, sound_stays, store_lift}
use Rattle.native_image.proofs.Keeping.{page_same, host_here}
use Rattle.native_image.proofs.Meeting.{no_outside}
use Rattle.natives.specs.Asked.{asked_timers}
use Rattle.natives.specs.Refines.{RefinesWhole}
use Rattle.natives.specs.Reach.{reach, state, with_notes}
use Rattle.natives.proofs.Unheard.{noted_nowhere}

same_delay : (z : ℤ) → timers.delay z ≡ delay z
same_delay (pos n) = refl
same_delay (negsuc n) = refl

all_append : (P : Timer → Type 0) (ts us : List Timer) → AllByRecursion P ts → AllByRecursion P us → AllByRecursion P (ts ++ us)
all_append P [] us h g = g
all_append P (t ∷ ts) us h g = (h.0, all_append P ts us h.1 g)

asked_own : (w : ℕ) (cells : List PlainCell) (now : ℕ) (asked : Option (ℕ × ℤ)) → AsksOwn w cells asked → AllByRecursion (λ u. IsOwnCell w cells u.func) (asked_timers now asked)
asked_own w cells now None h = tt
asked_own w cells now (Some a) h = (h, tt)

module _ (w : ℕ) (t : Cells) (p : Page) (old new : Loop) (same : SameButTimers old new) where
  -- the numbers of cells
  abbrev g : ℕ → ℕ
  g = own_count w t.cells

  kept_same : own_kept p w g new ≡ own_kept p w g old
  kept_same = all_same (λ n. kept_of g (around.kept old n)) (λ n. kept_of g (around.kept new n)) (λ n. ap (kept_of g) (same.same_kept n)) (own p w)

  -- the timers alone changed
  loop_lift : (fs : List Forest) (x : Outside) (b : Option Bool) (ts : List meaning.Timer) → own_timers g new ≡ ts → image fs x w (beside t p new b) ≡ with_own (image fs x w (beside t p old b)) (record (image fs x w (beside t p old b)).own { timers = ts })
  loop_lift fs x b ts e = λ j. record {
    own = record (image fs x w (beside t p old b)).own { kept = kept_same j; timers = e j; clock = same.same_clock j; focus = renumbered (number p w) (same.same_focus j) };
    dispatches = dispatches_of b x.outer;
  }

  -- what the widget holds stays its own
  loop_holds : HoldsOwn w t p old → AllByRecursion (λ u. IsOwnCell w t.cells u.func) (around.timers new) → HoldsOwn w t p new
  loop_holds h mine = record {
    home = h.home;
    bunches = h.bunches;
    handlers = λ n. subst (λ k. AllByRecursion (λ f. IsOwnCell w t.cells f.1) k.handlers) (sym (same.same_kept n)) (h.handlers n);
    timers = mine;
    focus = subst (OptionIn (owns p w)) (sym same.same_focus) h.focus;
    elsewhere = λ n off. same.same_kept n ∙ h.elsewhere n off;
  }

  module _ (asked : Option (ℕ × ℤ)) (mine : AsksOwn w t.cells asked) where
    -- once the timer was started
    pub started_holds : around.timers new ≡ around.timers old ++ asked_timers (around.clock old) asked → HoldsOwn w t p old → HoldsOwn w t p new
    started_holds done h =
        loop_holds h (subst (AllByRecursion (λ u. IsOwnCell w t.cells u.func)) (sym done)
        (all_append (λ u. IsOwnCell w t.cells u.func) (around.timers old) (asked_timers (around.clock old) asked) h.timers (asked_own w t.cells (around.clock old) asked mine)))

    -- once it was tried to start it
    pub tried_holds : {A : Type 0} (r : Result A Memory) → OnOk r (around.timers new ≡ around.timers old ++ asked_timers (around.clock old) asked) → OnErr r (around.timers new ≡ around.timers old) → HoldsOwn w t p old → HoldsOwn w t p new
    tried_holds (Ok a) done left h = started_holds done h
    tried_holds (Err e) done left h = loop_holds h (subst (AllByRecursion (λ u. IsOwnCell w t.cells u.func)) (sym left) h.timers)

-- the state after a native of `ADSAFE`, with the timer
asked_image : (w : ℕ) (lt : w < 32) (s t : Cells) (p : Page) (old new : Loop) → SameButTimers old new → HoldsOwn w s p old → Grows w s.cells t.cells
    → (fs : List Forest) (x : Outside) (b : Option Bool) (log : List (List ℕ)) (posts : List (List ℕ × List ℕ)) (asked : Option (ℕ × ℤ)) → around.timers new ≡ around.timers old ++ asked_timers (around.clock old) asked
    → store.image fs (noted w t.cells (record { log = log; posts = posts; asked = asked }) (rest w lt x (beside s p old b))) w t ≡ state fs x w (reach t p new b log posts)
asked_image w lt s t p old new same holds grows fs x b log posts None e =
    let y = with_notes log posts x in
    let f = own_count w t.cells in
    store_lift w s t p old holds grows lt fs y b
    ∙ sym (loop_lift w t p old new same fs y b (own_timers f old) (ap (map (timer_of f)) (e ∙ append-nil (around.timers old))))
asked_image w lt s t p old new same holds grows fs x b log posts (Some a) e =
    let y = with_notes log posts x in
    let f = own_count w t.cells in
    ap (λ u. with_timer u (Own (f a.0)) a.1) (store_lift w s t p old holds grows lt fs y b)
    ∙ sym (loop_lift w t p old new same fs y b (own_timers f old ++ record { due = around.clock old + delay a.1; func = f a.0 } ∷ [])
    (ap (map (timer_of f)) e
    ∙ map-append (timer_of f) (around.timers old) (record { func = a.0; at = around.clock old + timers.delay a.1 } ∷ [])
    ∙ (λ j. own_timers f old ++ record { due = around.clock old + same_delay a.1 j; func = f a.0 } ∷ [])))

module _ (w : ℕ) (lt : w < 32) (s t : Cells) (p : Page) (old new : Loop) (same : SameButTimers old new) (sound : IsSound w s p old) (asked : Option (ℕ × ℤ)) (mine : AsksOwn w t.cells asked) where
  -- what is kept, whether the timer was started or not
  pub tried_keeps : {A : Type 0} (r : Result A Memory) → OnOk r (around.timers new ≡ around.timers old ++ asked_timers (around.clock old) asked) → OnErr r (around.timers new ≡ around.timers old) → ((fs : List Forest) → Kept fs w s t) → KeepsAll w s t p p new
  tried_keeps r done left k = record {
    store = keeps_of w s t k;
    page = page_same w p;
    host = host_here p;
    holds = tried_holds w t p old new same asked mine r done left (sound_stays w s t p old sound (k [])).holds;
  }

  -- the answer of a native of `ADSAFE`
  pub noted_whole : (b : Option Bool) (waiting : ℕ) (log kept : List (List ℕ)) (posts sent : List (List ℕ × List ℕ)) (had has : Fuel) (plan : ℕ → State → Plan) (o : NativeOut)
      → ((fs : List Forest) × IsConfined fs w s) → waiting ≡ length (around.timers old)
      → around.timers new ≡ around.timers old ++ asked_timers (around.clock old) asked → (asked ≡ None → new ≡ old)
      → RefinesNoted w waiting s t had has (record { log = log; posts = posts; asked = None }) (record { log = kept; posts = sent; asked = asked }) plan o
      → RefinesWhole w (reach s p old b log posts) (reach t p new b kept sent) had has plan o
  noted_whole b waiting log kept posts sent had has plan o confined many done unasked m = record {
    answer = λ fs x d safe.
        subst (λ (u : State). Answers (seen w t.cells) (number p w) d (plan d (state fs x w (reach s p old b log posts))) (state fs x w (reach s p old b log posts)) o u had.left has.left)
        (asked_image w lt s t p old new same sound.holds (m.kept []).grows fs x b kept sent asked done)
        (m.answer fs (rest w lt x (beside s p old b)) (number p w) d safe (length-map (around.timers old) (timer_of (own_count w s.cells)) ∙ sym many));
    fine = m.fine confined.0 confined.1;
    fires = noted_nowhere w s t (rest w lt no_outside (beside s p old b)) had has plan o w (beside t p new b) waiting _ _ confined.0 confined.1 (length-map (around.timers old) (timer_of (own_count w s.cells)) ∙ sym many) m;
    spent = m.spent;
    unpaid = λ f.
        let u = m.unpaid f in
        ((λ j. reach (u.0 j) p (unasked (ap (λ (n : Notes). n.asked) u.2) j) b (u.2 j).log (u.2 j).posts), u.1);
    sound = record {
      holds = started_holds w t p old new same asked mine done (sound_stays w s t p old sound (m.kept [])).holds;
      raws = (sound_stays w s t p old sound (m.kept [])).raws;
    };
  }

-- what is kept of the store, whatever is answered
pub noted_kept : (w waiting : ℕ) (s t : Cells) (had has : Fuel) (before after : Notes) (plan : ℕ → State → Plan) (r : Result NativeOut Memory) → IfOk r (RefinesNoted w waiting s t had has before after plan) → OnErr r ((fs : List Forest) → Kept fs w s t)
    → (fs : List Forest) → Kept fs w s t
noted_kept w waiting s t had has before after plan (Ok o) m e = m.kept
noted_kept w waiting s t had has before after plan (Err x) m e = e
