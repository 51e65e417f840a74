-- A native in its turn.
use Rattle.std.proofs.Common.{◌≡◌, ℕ, ◌≤◌, List, [], ◌∷◌, Bool, Option, None, refl, sym, ap, ◌∙◌, subst, reverse, arith}
use Rattle.std.specs.Prelude.{drop, slice_get}
use Rattle.widget_meaning.specs.OwnState.{State}
use Rattle.widget_meaning.specs.Plan.{Plan}
use Rattle.widget_meaning.specs.Values.{Value}
use Rattle.page_image.specs.Image.{number, owns}
use Rattle.store_cells.specs.declared.value.Value.{Value as StoreValue}
use Rattle.js_names.specs.Code.{trees_of}
use Rattle.js_flow.specs.declared.job.NativeCall.{NativeCall}
use Rattle.js_image.specs.Held.{IsConfined}
use Rattle.js_image.specs.Image.{seen}
use Rattle.js_values.specs.Answers.{Answers, IsOutOfFuel}
use Rattle.js_values.specs.Fuel.{Fuel}
use Rattle.js_values.specs.declared.outcome.NativeOut.{NativeOut}
use Rattle.js_values.specs.declared.outcome.NativeOut.TheVariants as native
use Rattle.js_values.specs.declared.outcome.Plan.TheVariants as calls
use Rattle.native_image.specs.Image.{Outside, Parts, beside, dispatches_of}
use Rattle.native_image.specs.Refines.{FiresAtOwn}
use Rattle.native_image.specs.Sound.{IsSound, KeepsAll}
use Rattle.native_image.proofs.Meeting.{no_outside}
use Rattle.natives.specs.Refines.{RefinesWhole, plan_of}
use Rattle.natives.specs.Reach.{Reach, reach, state}
use Rattle.turn_dispatch.specs.Turns.{bubbled_of, outside_of}
use Rattle.native_image.specs.declared.handed.Shared.{Shared}
use Rattle.native_image.specs.declared.handed.Widget.{Widget}
use Rattle.turn_steps.specs.Carrying.{IsPerformed}
use Rattle.turn_steps.specs.Turning.{FineWidget, forests, state_in}

-- all open dispatches are the innermost one and the others
all_of : (ds : List Bool) → dispatches_of (slice_get ds 0) (drop 1 ds) ≡ ds
all_of [] = refl
all_of (b ∷ ds) = refl

-- the nodes of handlers that are asked for
fires_same : (w : ℕ) (h k : Parts) (o : NativeOut) → k.page ≡ h.page → FiresAtOwn w h o → FiresAtOwn w k o
fires_same w h k (native.Call (calls.Fire kind nodes last)) e f = λ n has. ap (λ p. owns p w n) e ∙ f n has
fires_same w h k (native.Call (calls.ToText i)) e f = tt
fires_same w h k (native.Call (calls.Each func items last)) e f = tt
fires_same w h k (native.Call (calls.Gather func items keep)) e f = tt
fires_same w h k (native.Value v) e f = tt
fires_same w h k (native.Throw t) e f = tt
fires_same w h k (native.Stop c) e f = tt
fires_same w h k native.OutOfFuel e f = tt

-- no fuel comes back
module _ (see : StoreValue → Value) (node : ℕ → ℕ) (d : ℕ) (p : Plan) (s t : State) (before left : ℕ) where
  taken : (o : NativeOut) → (IsOutOfFuel o → ⊥) → Answers see node d p s o t before left → left ≤ before
  taken o paid a = let r = a.other paid in omega (arith, r.2)

  pub spends : (o : NativeOut) → Answers see node d p s o t before left → left ≤ before
  spends native.OutOfFuel a = let r = a.fuel tt in omega (arith, r.1)
  spends (native.Value v) a = taken (native.Value v) (λ f. f) a
  spends (native.Throw e) a = taken (native.Throw e) (λ f. f) a
  spends (native.Call c) a = taken (native.Call c) (λ f. f) a
  spends (native.Stop c) a = taken (native.Stop c) (λ f. f) a

-- all that a native may change
abbrev pub reach_in : Shared → Widget → Option Bool → Reach
reach_in h v b = reach h.store h.page v.around b v.log.items v.posts.items

-- the state after a native, once its dispatch is put back
put_back : (x : Outside) (h : Shared) (v : Widget) (b : Option Bool) (before after : List Bool) → reverse after ≡ dispatches_of b (drop 1 (reverse before)) → state (forests h) (outside_of x before) v.id.index (reach_in h v b) ≡ state_in x h v after
put_back x h v b before after e = λ j. record (state_in x h v after) { dispatches = (sym e ∙ sym (all_of (reverse after))) j }

-- the call is carried out in the turn
pub carried : (old new : Shared) (v u : Widget) (before after : List Bool) (b : Option Bool) (had has : Fuel) (call : NativeCall) (o : NativeOut)
    → FineWidget old v → u.id.index ≡ v.id.index → new.codes ≡ old.codes → reverse after ≡ dispatches_of b (drop 1 (reverse before))
    → RefinesWhole v.id.index (reach_in old v (bubbled_of before)) (reach_in new u b) had has (plan_of v.id.index old.store.cells call) o
    → IsPerformed old new v u before after had has call o
carried old new v u before after b had has call o fine same codes put m = record {
  answer = λ x d.
      subst (λ (t : State). Answers (seen v.id.index new.store.cells) (number new.page v.id.index) d (plan_of v.id.index old.store.cells call d (state_in x old v before)) (state_in x old v before) o t had.left has.left)
      (moved x)
      (m.answer (forests old) (outside_of x before) d fine.confined);
  fine = m.fine;
  fires = fires_same v.id.index (beside new.store new.page u.around b) (beside new.store new.page u.around None) o refl m.fires;
  spends = spends (seen v.id.index new.store.cells) (number new.page v.id.index) 0 (plan_of v.id.index old.store.cells call 0 (state_in no_outside old v before)) (state_in no_outside old v before) (state (forests old) (outside_of no_outside before) v.id.index (reach_in new u b)) had.left has.left o
      (m.answer (forests old) (outside_of no_outside before) 0 fine.confined);
  unpaid = λ f.
      let r = m.unpaid f in (
        r.1,
        ap (λ (h : Reach). h.parts.store) r.0,
        ap (λ (h : Reach). h.parts.page) r.0,
        λ x. sym (moved x) ∙ ap (state (forests old) (outside_of x before) v.id.index) r.0,
      );
}
  where
    moved : (x : Outside) → state (forests old) (outside_of x before) v.id.index (reach_in new u b) ≡ state_in x new u after
    moved x = (λ j. state (sym (ap (λ c. trees_of c.items) codes) j) (outside_of x before) (sym same j) (reach_in new u b)) ∙ put_back x new u b before after put

-- the widget is the same one
pub number_same : (v u : Widget) → u.id ≡ v.id → u.id.index ≡ v.id.index
number_same v u e = λ j. (e j).index

-- what holds of the widget stays
pub performed_fine : (old new : Shared) (v u : Widget) → FineWidget old v → new.codes ≡ old.codes → u.id.index ≡ v.id.index → KeepsAll v.id.index old.store new.store old.page new.page u.around → IsSound v.id.index new.store new.page u.around → FineWidget new u
performed_fine old new v u fine codes same kept sound = record {
  confined = subst (λ (n : ℕ). IsConfined (forests new) n new.store) (sym same)
      (subst (λ fs. IsConfined fs v.id.index new.store) (sym (ap (λ c. trees_of c.items) codes)) (kept.store.confined (forests old) fine.confined));
  sound = subst (λ (n : ℕ). IsSound n new.store new.page u.around) (sym same) sound;
}
