-- A native that takes its charge and its cost, and then changes page or loop.
use Rattle.std.proofs.Common.{◌≡◌, ℕ, ◌<◌, ◌≤◌, List, [], ◌∷◌, Bool, Option, refl, sym, ap, ◌∙◌, subst, length, map, arith}
use Rattle.std.specs.Prelude.{IfOk, Result}
use Rattle.std.specs.List.{fold}
use Rattle.std.proofs.lemmas.Result.{IfOk-weaker}
use Rattle.code_units.specs.declared.memory.Memory.{Memory}
use Rattle.std.proofs.lemmas.List.{length-map}
use Rattle.js_tree.specs.Forest.{Forest}
use Rattle.plain_tree.specs.Trees.{Trees}
use Rattle.store_cells.specs.declared.value.Value.TheVariants as value
use Rattle.store_cells.specs.Cells.{Cells, own_count}
use Rattle.widget_meaning.specs.OwnState.{Kept, State, with_forest, with_own}
use Rattle.widget_meaning.specs.BunchWrites.{change_kept}
use Rattle.widget_meaning.specs.Plan.{Plan, charge}
use Rattle.widget_meaning.specs.Costs.{give, throw}
use Rattle.js_image.specs.Held.{IsHeld}
use Rattle.js_image.specs.Image.{seen}
use Rattle.js_image.specs.Plans.{meant_fault}
use Rattle.js_image.specs.declared.outcome.Fault.{Fault}
use Rattle.js_values.specs.Answers.{Leaves}
use Rattle.js_values.specs.Fuel.{Fuel}
use Rattle.js_values.specs.declared.outcome.NativeOut.{NativeOut}
use Rattle.js_values.specs.declared.outcome.NativeOut.TheVariants as native
use Rattle.page_tree.specs.declared.page.Page.{Page}
use Rattle.page_image.specs.Image.{number}
use Rattle.event_loop.specs.declared.around.Loop.{Loop}
use Rattle.page_image.specs.Around.{Shows}
use Rattle.native_common.specs.Refines.{Refines}
use Rattle.native_common.specs.Numbers.{counted}
use Rattle.native_image.specs.Charges.{Begins, Price, pay_for}
use Rattle.native_image.specs.Image.{Outside, Parts, beside, dispatches_of, image}
use Rattle.native_image.specs.Refines.{EndsAt, FiresAtOwn, RefinesAt}
use Rattle.native_image.specs.Sound.{IsSound}
use Rattle.native_image.proofs.Joint.{rest, shown_is, store_lift}
use Rattle.native_image.proofs.Meeting.{at_charged, at_free, at_same, refines_lift}

-- what is left after charge and cost ends the plan
pub at_begun : (w : ℕ) (lt : w < 32) (s t : Cells) (p : Page) (l : Loop) (b : Option Bool) → IsSound w s p l → (had has : Fuel) (n : ℕ) (c : Price) → Begins w s t had has n c → (new : Parts) (k : ℕ → State → Plan) (o : NativeOut) → EndsAt w (beside t p l b) new k o → RefinesAt w (beside s p l b) new had has (λ d u. charge n u (pay_for c u (k d))) o
at_begun w lt s t p l b sound had has n c begun new k o ends =
    at_charged w (beside s p l b) new n (λ d u. pay_for c u (k d)) o had has begun.left begun.spent
    (record {
      leaves = λ fs x d.
          subst (λ (q : Plan). Leaves (seen w new.store.cells) (number new.page w) d o (image fs x w new) q)
          (sym (begun.paid fs (rest w lt x (beside s p l b)) (k d) ∙ ap (k d) (store_lift w s t p l sound.holds (begun.kept []).grows lt fs x b)))
          (ends.leaves fs x d);
      fine = ends.fine;
      fires = ends.fires;
      sound = ends.sound;
    })

-- the receiver is given back after a change
pub gives_back : (w : ℕ) (s : Cells) (this : ℕ) → IsHeld w s.cells this → (mid new : Parts) (g : seen w new.store.cells (value.Ref this) ≡ seen w s.cells (value.Ref this)) → IsHeld w new.store.cells this → IsSound w new.store new.page new.around → (f : State → State) → ((fs : List Forest) (x : Outside) → image fs x w new ≡ f (image fs x w mid)) → EndsAt w mid new (λ d u. give (seen w s.cells (value.Ref this)) (f u)) (native.Value (value.Ref this))
gives_back w s this held mid new g still sound f done = record {
  leaves = λ fs x d. λ j. give (sym g j) (sym (done fs x) j);
  fine = still;
  fires = tt;
  sound = sound;
}

-- a fault before any charge
pub at_thrown : (w : ℕ) (h : Parts) (plan : ℕ → State → Plan) (f : Fault) (had : Fuel) → IsSound w h.store h.page h.around → ((fs : List Forest) (x : Outside) (d : ℕ) → plan d (image fs x w h) ≡ throw (meant_fault f) (image fs x w h)) → RefinesAt w h h had had plan (native.Throw f)
at_thrown w h plan f had sound same = at_free w h h plan (native.Throw f) had (record { leaves = same; fine = tt; fires = tt; sound = sound })

module _ (w : ℕ) (lt : w < 32) (s t : Cells) (p : Page) (l : Loop) (b : Option Bool) (sound : IsSound w s p l) (had has : Fuel) (n : ℕ) (c : Price) (plan k : ℕ → State → Plan) (same : (fs : List Forest) (x : Outside) (d : ℕ) → plan d (image fs x w (beside s p l b)) ≡ charge n (image fs x w (beside s p l b)) (pay_for c (image fs x w (beside s p l b)) (k d))) where
  -- charge or cost are wanting
  pub at_refused : (o : NativeOut) → ((v : ℕ) (h : Parts) → FiresAtOwn v h o) → Refines w s t had has (λ d u. charge n u (pay_for c u (k d))) o → RefinesAt w (beside s p l b) (beside t p l b) had has plan o
  at_refused o fires m =
      at_same w (beside s p l b) (beside t p l b) plan (λ d u. charge n u (pay_for c u (k d))) o had has same
      (refines_lift w lt s t p l b sound had has (λ d u. charge n u (pay_for c u (k d))) o (fires w (beside t p l b)) m)

  -- they were taken, and what is left was done
  pub at_ended : Begins w s t had has n c → (new : Parts) (o : NativeOut) → EndsAt w (beside t p l b) new k o → RefinesAt w (beside s p l b) new had has plan o
  at_ended begun new o ends =
      at_same w (beside s p l b) new plan (λ d u. charge n u (pay_for c u (k d))) o had has same
      (at_begun w lt s t p l b sound had has n c begun new k o ends)

-- a plan that is the same at the image, of an answer that may be want of memory
pub ok_at_same : (w : ℕ) (old new : Parts) (p q : ℕ → State → Plan) (r : Result NativeOut Memory) (had has : Fuel) → ((fs : List Forest) (x : Outside) (d : ℕ) → p d (image fs x w old) ≡ q d (image fs x w old)) → IfOk r (RefinesAt w old new had has q) → IfOk r (RefinesAt w old new had has p)
ok_at_same w old new p q r had has same h = IfOk-weaker r (RefinesAt w old new had has q) (RefinesAt w old new had has p) (λ o x. at_same w old new p q o had has same x) h

-- a node each, and few nodes: what is counted is how many there are
pub few_counted : (f : ℕ → ℕ) (list : List ℕ) → length list ≤ 16384 → length list ≡ counted (length (map f list))
few_counted f list few = omega (arith, few, length-map list f)

-- a change of the trees alone, one node after the other
pub forest_folded : (step : State → ℕ → State) (on : Trees ℕ → ℕ → Trees ℕ) → ((s : State) (n : ℕ) → step s n ≡ with_forest s (on s.own.forest n)) → (ns : List ℕ) (s : State) → fold step s ns ≡ with_forest s (fold on s.own.forest ns)
forest_folded step on h [] s = refl
forest_folded step on h (n ∷ ns) s = forest_folded step on h ns (step s n) ∙ (λ j. with_forest (h s n j) (fold on (h s n j).own.forest ns))

-- the loop alone changed
pub loop_lift : (w : ℕ) (fs : List Forest) (x : Outside) (s : Cells) (p : Page) (old new : Loop) (b : Option Bool) (kept : List Kept) (focus : Option ℕ) → Shows p w (own_count w s.cells) new (record (image fs x w (beside s p old b)).own { kept = kept; focus = focus }) → image fs x w (beside s p new b) ≡ with_own (image fs x w (beside s p old b)) (record (image fs x w (beside s p old b)).own { kept = kept; focus = focus })
loop_lift w fs x s p old new b kept focus shows = λ j. record {
  own = shown_is p w (own_count w s.cells) new (record (image fs x w (beside s p old b)).own { kept = kept; focus = focus }) shows j;
  dispatches = dispatches_of b x.outer;
}

-- what is kept changes, one node after the other
pub kept_folded : (f : Kept → Kept) (s : State) (ns : List ℕ) → fold (change_kept f) s ns ≡ with_own s (record s.own { kept = (fold (change_kept f) s ns).own.kept })
kept_folded f s [] = refl
kept_folded f s (n ∷ ns) = kept_folded f (change_kept f s n) ns
