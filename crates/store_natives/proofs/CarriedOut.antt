-- What is carried out of an answer is done.
use Rattle.std.proofs.Common.{◌≡◌, ℕ, List, [], map, ap, ◌∙◌, refl, Option, None, Some, Result}
use Rattle.std.specs.Prelude.{IfNone, IfOk, IfSome, OnErr, Ok, Err}
use Rattle.std.specs.declared.vec.Vec.{Vec}
use Rattle.std.specs.declared.alloc.Global.{Global}
use Rattle.code_units.specs.declared.memory.Memory.{Memory}
use Rattle.js_tree.specs.Forest.{Forest}
use Rattle.store_cells.specs.declared.value.Value.{Value as StoreValue}
use Rattle.store_cells.specs.Cells.{Cells}
use Rattle.widget_meaning.specs.BunchWrites.{fired}
use Rattle.widget_meaning.specs.OwnState.{State}
use Rattle.widget_meaning.specs.Plan.{Plan}
use Rattle.js_image.specs.Held.{IsConfined, Kept}
use Rattle.js_image.specs.Image.{image, no_rest, seen}
use Rattle.js_values.specs.Answers.{IsCarried, IsOutOfFuel}
use Rattle.js_values.specs.Fuel.{Fuel}
use Rattle.js_values.specs.declared.outcome.NativeOut.{NativeOut}
use Rattle.js_values.specs.declared.outcome.NativeOut.TheVariants as native
use Rattle.js_values.specs.declared.outcome.Plan.TheVariants as calls
use Rattle.adsafe_object.specs.Ends.{RefinesSilent}
use Rattle.store_natives.specs.Carried.{carried}
use Rattle.store_natives.specs.Done.{Done, Wants}
use Rattle.store_natives.specs.declared.rooms.StoreRoom.{StoreRoom}
use Rattle.store_natives.proofs.Unheard.{at_none, it_listens, listener}

module _ (w : ℕ) (old new : Cells) (had has : Fuel) (plan : ℕ → State → Plan) where
  -- handlers are asked for at no node
  no_nodes : (kind : List ℕ) (nodes : Vec ℕ Global) (last : StoreValue) (fs : List Forest) → IsConfined fs w old → RefinesSilent w old new had has plan (native.Call (calls.Fire kind nodes last)) → nodes.items ≡ []
  no_nodes kind nodes last fs confined m = at_none (seen w new.cells) kind nodes last (record {
    depth = 0;
    plan = plan 0 (image fs (listener kind no_rest) w old);
    from = image fs (listener kind no_rest) w old;
    to = image fs (listener kind no_rest) w new;
    before = had.left;
    left = has.left;
    here = it_listens kind;
    silent = refl;
    top = refl;
    answers = λ node. m.answer fs (listener kind no_rest) node 0 confined;
  })

  module _ (fs : List Forest) (confined : IsConfined fs w old) where
    as_it_is : (o : NativeOut) → (IsOutOfFuel o → ⊥) → IsCarried o → RefinesSilent w old new had has plan o → Done w old new had.left has.left plan o
    as_it_is o paid carries m = record { answer = λ gs r node d c. (m.answer gs r node d c).other paid; fine = m.fine fs confined; carried = carries }

    pub carried_done : (o : NativeOut) → RefinesSilent w old new had has plan o → IfSome (carried o) (Done w old new had.left has.left plan)
    carried_done (native.Value v) m = as_it_is (native.Value v) (λ f. f) tt m
    carried_done (native.Throw f) m = as_it_is (native.Throw f) (λ f. f) tt m
    carried_done (native.Stop c) m = as_it_is (native.Stop c) (λ f. f) tt m
    carried_done native.OutOfFuel m = tt
    carried_done (native.Call (calls.ToText i)) m = as_it_is (native.Call (calls.ToText i)) (λ f. f) tt m
    carried_done (native.Call (calls.Each func items last)) m = as_it_is (native.Call (calls.Each func items last)) (λ f. f) tt m
    carried_done (native.Call (calls.Gather func items how)) m = as_it_is (native.Call (calls.Gather func items how)) (λ f. f) tt m
    carried_done (native.Call (calls.Fire kind nodes last)) m = record {
      answer = λ gs r node d c.
          let x = (m.answer gs r node d c).other (λ f. f) in
          (x.0, x.1, x.2, x.3, x.4 ∙ ap (λ (ns : List ℕ). fired kind (map node ns) (seen w new.cells last) d (image gs r w new)) (no_nodes kind nodes last fs confined m));
      fine = m.fine fs confined;
      carried = tt;
    }

  -- where nothing is carried out nothing has changed
  pub none_changed : (o : NativeOut) → RefinesSilent w old new had has plan o → IfNone (carried o) ((new ≡ old) × (has ≡ had))
  none_changed (native.Value v) m = tt
  none_changed (native.Throw f) m = tt
  none_changed (native.Stop c) m = tt
  none_changed native.OutOfFuel m = m.unpaid tt
  none_changed (native.Call p) m = tt

  -- and fuel is wanting
  pub none_wants : (o : NativeOut) → RefinesSilent w old new had has plan o → IfNone (carried o) (Wants w old had.left plan)
  none_wants (native.Value v) m = tt
  none_wants (native.Throw f) m = tt
  none_wants (native.Stop c) m = tt
  none_wants native.OutOfFuel m = λ fs r d confined. ((m.answer fs r (λ n. n) d confined).fuel tt).0
  none_wants (native.Call p) m = tt

  -- what is kept, whatever is answered
  pub all_kept : (r : Result NativeOut Memory) → IfOk r (RefinesSilent w old new had has plan) → OnErr r ((fs : List Forest) → Kept fs w old new) → (fs : List Forest) → Kept fs w old new
  all_kept (Ok o) m e = m.kept
  all_kept (Err x) m e = e

-- what is so where nothing is carried out is so of a native that has a room
pub of_room : (x : Option NativeOut) (o : Option StoreRoom) (P : Type 0) → IfNone x P → IfNone x (IfSome o (λ r. P))
of_room None None P h = tt
of_room None (Some r) P h = h
of_room (Some v) o P h = tt
