-- How the answers of rooms meet their plans at the whole state.
use Rattle.std.proofs.Common.{◌≡◌, ℕ, List, [], Option, refl, sym, ap, subst}
use Rattle.std.specs.Prelude.{IfOk, OnErr, Result, Ok, Err}
use Rattle.std.proofs.lemmas.Result.{IfOk-weaker}
use Rattle.code_units.specs.declared.memory.Memory.{Memory}
use Rattle.js_tree.specs.Forest.{Forest}
use Rattle.permitted_table.specs.declared.native.NativeId.{NativeId}
use Rattle.store_cells.specs.Cells.{Cells}
use Rattle.widget_meaning.specs.Natives.{run_native}
use Rattle.widget_meaning.specs.OwnState.{State}
use Rattle.widget_meaning.specs.Plan.{Plan}
use Rattle.widget_meaning.specs.Values as meaning
use Rattle.page_tree.specs.declared.page.Page.{Page}
use Rattle.event_loop.specs.declared.around.Loop.{Loop}
use Rattle.js_image.specs.Held.{Kept}
use Rattle.js_values.specs.Fuel.{Fuel}
use Rattle.js_values.specs.declared.outcome.NativeOut.{NativeOut}
use Rattle.native_common.specs.Refines.{Refines}
use Rattle.native_image.specs.Handed.{IsSoundIn, Reads, Writes, parts}
use Rattle.native_image.specs.Image.{Parts}
use Rattle.native_image.specs.Refines.{RefinesAt}
use Rattle.native_image.specs.Sound.{IsSound, KeepsAll}
use Rattle.native_image.specs.declared.handed.Shared.{Shared}
use Rattle.native_image.specs.declared.handed.Widget.{Widget}
use Rattle.native_image.proofs.Joint.{keeps_of, rest, sound_stays}
use Rattle.native_image.proofs.Keeping.{page_same, host_here}
use Rattle.native_image.proofs.Meeting.{refines_lift, no_outside}
use Rattle.native_image.proofs.Reading.{after, writes_of_reads}
use Rattle.natives.specs.Refines.{CarriesOut, RefinesWhole}
use Rattle.natives.specs.Reach.{Reach, reach_of, with_notes}
use Rattle.natives.proofs.Unheard.{refines_nowhere}

module _ (w : ℕ) (log : List (List ℕ)) (posts : List (List ℕ × List ℕ)) where
  -- with this log and these posts
  abbrev pub noting : Parts → Reach
  noting h = record { parts = h; log = log; posts = posts }

  -- a native that leaves log and posts
  pub whole_at : (old new : Parts) (had has : Fuel) (plan : ℕ → State → Plan) (o : NativeOut) → RefinesAt w old new had has plan o → RefinesWhole w (noting old) (noting new) had has plan o
  whole_at old new had has plan o m = record {
    answer = λ fs x d confined. m.answer fs (with_notes log posts x) d;
    fine = m.fine;
    fires = m.fires;
    spent = m.spent;
    unpaid = λ f. (ap noting (m.unpaid f).0, (m.unpaid f).1);
    sound = m.sound;
  }

-- what is kept of the store, whatever is answered
pub refines_kept : (w : ℕ) (s t : Cells) (had has : Fuel) (plan : ℕ → State → Plan) (r : Result NativeOut Memory) → IfOk r (Refines w s t had has plan) → OnErr r ((fs : List Forest) → Kept fs w s t) → (fs : List Forest) → Kept fs w s t
refines_kept w s t had has plan (Ok o) m e = m.kept
refines_kept w s t had has plan (Err x) m e = e

-- page and loop stay
pub store_keeps : (w : ℕ) (s t : Cells) (p : Page) (l : Loop) → IsSound w s p l → ((fs : List Forest) → Kept fs w s t) → KeepsAll w s t p p l
store_keeps w s t p l sound k = record { store = keeps_of w s t k; page = page_same w p; host = host_here p; holds = (sound_stays w s t p l sound (k [])).holds }

module _ (h : Shared) (v : Widget) (had has : Fuel) where
  -- a room that knows the store alone
  pub store_carries : (t : Cells) → IsSoundIn h v → (plan : ℕ → State → Plan) (r : Result NativeOut Memory) → IfOk r (Refines v.id.index h.store t had has plan) → OnErr r ((fs : List Forest) → Kept fs v.id.index h.store t) → CarriesOut h (after h t) v v had has plan r
  store_carries t sound plan r m kept = record {
    refines = IfOk-weaker r _ _ (λ o n.
        whole_at v.id.index v.log.items v.posts.items (parts h v) (parts (after h t) v) had has plan o
        (refines_lift v.id.index v.id.small h.store t h.page v.around v.bubbled sound had has plan o (refines_nowhere v.id.index h.store t (rest v.id.index v.id.small no_outside (parts h v)) had has plan o v.id.index (parts (after h t) v) n) n)) m;
    kept = store_keeps v.id.index h.store t h.page v.around sound (refines_kept v.id.index h.store t had has plan r m kept);
    codes = refl;
    id = refl;
  }

  -- a native that leaves log and posts
  pub writes_carries : (new : Shared) (u : Widget) (plan : ℕ → State → Plan) (r : Result NativeOut Memory) → Writes h new v u had has plan r → CarriesOut h new v u had has plan r
  writes_carries new u plan r m = record {
    refines = subst (λ (x : Widget). IfOk r (RefinesWhole v.id.index (reach_of h v) (noting v.id.index x.log.items x.posts.items (parts new u)) had has plan)) (sym m.rest)
        (IfOk-weaker r _ _ (whole_at v.id.index v.log.items v.posts.items (parts h v) (parts new u) had has plan) m.refines);
    kept = m.kept;
    codes = m.codes;
    id = ap (λ (x : Widget). x.id) m.rest;
  }

  -- one that reads alone
  pub reads_carries : (new : Shared) (plan : ℕ → State → Plan) (r : Result NativeOut Memory) → Reads h new v had has plan r → CarriesOut h new v v had has plan r
  reads_carries new plan r m = writes_carries new v plan r (writes_of_reads h new v had has plan r m)

  -- the native that is called is that of its receiver and its arguments
  pub as_called : (new : Shared) (u : Widget) (which : NativeId) (this that : Option meaning.Value) (vs ws : List meaning.Value) (r : Result NativeOut Memory) → this ≡ that → vs ≡ ws
      → CarriesOut h new v u had has (run_native which this vs) r → CarriesOut h new v u had has (run_native which that ws) r
  as_called new u which this that vs ws r e f m =
      subst (λ us. CarriesOut h new v u had has (run_native which that us) r) f (subst (λ t. CarriesOut h new v u had has (run_native which t vs) r) e m)
