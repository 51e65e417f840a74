-- How a dispatch begins at a node.
use Rattle.std.proofs.Common.{◌≡◌, ℕ, ◌<◌, Bool, true, List, [], ◌∷◌, length, refl, sym, ◌∙◌, map, Option, arith}
use Rattle.std.specs.Prelude.{drop, slice_index_or}
use Rattle.std.specs.List.{AllByRecursion}
use Rattle.std.specs.declared.vec.Vec.{Vec}
use Rattle.std.specs.declared.alloc.Global.{Global}
use Rattle.std.proofs.lemmas.List.{length-map}
use Rattle.js_tree.specs.Forest.{Forest}
use Rattle.store_cells.specs.Cells.{Cells, own_count}
use Rattle.object_store.specs.Grows.{Grows}
use Rattle.widget_meaning.specs.Values.{Value, Own}
use Rattle.widget_meaning.specs.OwnState.{State}
use Rattle.widget_meaning.specs.Plan as plan
use Rattle.widget_meaning.specs.Plan.{Plan, Do, Halt, Ret}
use Rattle.widget_meaning.specs.Costs.{pay, sum, with_counts}
use Rattle.widget_meaning.specs.Dispatch.{event_cost, hear, with_dispatch, with_event}
use Rattle.page_tree.specs.declared.page.Page.{Page}
use Rattle.page_image.specs.Image.{number, owns}
use Rattle.event_loop.specs.declared.around.Loop.{Loop}
use Rattle.js_image.specs.declared.outcome.StopCause.{StopCause}
use Rattle.js_image.specs.Held.{IsHeld}
use Rattle.js_image.specs.Image.{Rest, image as store_image, seen}
use Rattle.js_image.specs.Plans.{meant_cause}
use Rattle.js_image.proofs.Grown.{fine_stays, seen_stays}
use Rattle.native_image.specs.Image.{Outside, beside, image}
use Rattle.native_image.specs.Sound.{IsOwnCell, IsSound}
use Rattle.native_image.proofs.Joint.{rest}
use Rattle.turn_dispatch.specs.declared.level.Dispatch.{Dispatch}
use Rattle.turn_dispatch.specs.Events.{Changes, IsNext}
use Rattle.turn_dispatch.specs.Held.{FineDispatch, FineHearing}
use Rattle.turn_dispatch.specs.Levels.{hearing_of}

-- what is done once the event object is paid
abbrev calls : List ℕ → ℕ → Value → ℕ → ℕ → List ℕ → State → Plan
calls kind target v d node fs t =
    Do (plan.Hear (record {
      kind = kind;
      target = target;
      node = node;
      value = v;
      event = Own (length t.own.heap);
      first = slice_index_or fs 0 0;
      others = drop 1 fs;
      depth = d;
    })) (with_dispatch (with_event t kind target node v)) Ret

hear_pays : (kind : List ℕ) (target : ℕ) (v : Value) (d node : ℕ) (fs : List ℕ) (s : State) → 0 < length fs → hear kind target v d node fs s ≡ pay event_cost s (calls kind target v d node fs)
hear_pays kind target v d node [] s h = absurd (omega (arith, h))
hear_pays kind target v d node (f ∷ fs) s h = refl

module _ (w : ℕ) (lt : w < 32) (old new : Cells) (p : Page) (d : Dispatch) (node : ℕ) (handlers : Vec ℕ Global) (some : 0 < length handlers.items) where
  abbrev heard_by : State → Plan
  heard_by s = hear d.kind (number p w d.target) (seen w old.cells d.value) d.depth (number p w node) (map (own_count w old.cells) handlers.items) s

  pays : (s : State) → heard_by s ≡ pay event_cost s (calls d.kind (number p w d.target) (seen w old.cells d.value) d.depth (number p w node) (map (own_count w old.cells) handlers.items))
  pays s = hear_pays d.kind (number p w d.target) (seen w old.cells d.value) d.depth (number p w node) (map (own_count w old.cells) handlers.items) s (omega (arith, some, length-map handlers.items (own_count w old.cells)))

  -- the event object cannot be paid
  pub hear_refused : (c : StopCause) → ((fs : List Forest) (r : Rest) (k : State → Plan) → pay event_cost (store_image fs r w old) k ≡ Halt (meant_cause c) (store_image fs r w old))
      → (fs : List Forest) (x : Outside) (l : Loop) (b : Option Bool) → heard_by (image fs x w (beside old p l b)) ≡ Halt (meant_cause c) (image fs x w (beside old p l b))
  hear_refused c stop fs x l b = pays (image fs x w (beside old p l b)) ∙ stop fs (rest w lt x (beside old p l b)) (calls d.kind (number p w d.target) (seen w old.cells d.value) d.depth (number p w node) (map (own_count w old.cells) handlers.items))

  -- the hearing of the new event
  module _ (grows : Grows w old.cells new.cells) (fine : FineDispatch w old.cells p d) (own : owns p w node ≡ true) (functions : AllByRecursion (IsOwnCell w old.cells) handlers.items) (event : ℕ) (held : IsHeld w new.cells event) where
    functions_same : (is : List ℕ) → AllByRecursion (IsOwnCell w old.cells) is → map (own_count w new.cells) is ≡ map (own_count w old.cells) is
    functions_same [] h = refl
    functions_same (i ∷ is) h = λ j. grows.count i h.0.0 j ∷ functions_same is h.1 j

    own_stays : (is : List ℕ) → AllByRecursion (IsOwnCell w old.cells) is → AllByRecursion (IsOwnCell w new.cells) is
    own_stays [] h = tt
    own_stays (i ∷ is) h = ((omega (arith, h.0.0, grows.size), grows.visible i h.0.0 ∙ h.0.1), own_stays is h.1)

    pub heard_fine : FineHearing w new.cells p (record { dispatch = d; node = node; event = event; handlers = handlers })
    heard_fine = record {
      dispatch = record { target = fine.target; value = fine_stays w old.cells new.cells grows d.value fine.value };
      node = own;
      event = held;
      handlers = own_stays handlers.items functions;
      some = some;
    }

    pub hear_calls : ((fs : List Forest) (r : Rest) (k : State → Plan) → pay event_cost (store_image fs r w old) k ≡ k (with_counts (store_image fs r w old) (sum (store_image fs r w old).own.counts event_cost)))
        → Changes w old new p (λ s. with_event (with_counts s (sum s.own.counts event_cost)) d.kind (number p w d.target) (number p w node) (seen w old.cells d.value))
        → IsNext w old new p event
        → (fs : List Forest) (x : Outside) (l : Loop) (b : Option Bool) → IsSound w old p l
        → heard_by (image fs x w (beside old p l b))
        ≡ Do (plan.Hear (hearing_of w new.cells p (record { dispatch = d; node = node; event = event; handlers = handlers }))) (with_dispatch (image fs x w (beside new p l b))) Ret
    hear_calls fits born next fs x l b sound =
        pays (image fs x w (beside old p l b))
        ∙ (fits fs (rest w lt x (beside old p l b)) (calls d.kind (number p w d.target) (seen w old.cells d.value) d.depth (number p w node) (map (own_count w old.cells) handlers.items))
        ∙ λ j. Do (plan.Hear (record {
          kind = d.kind;
          target = number p w d.target;
          node = number p w node;
          value = sym (seen_stays w old.cells new.cells grows d.value fine.value) j;
          event = sym (next fs x l b sound) j;
          first = slice_index_or (sym (functions_same handlers.items functions) j) 0 0;
          others = drop 1 (sym (functions_same handlers.items functions) j);
          depth = d.depth;
        })) (with_dispatch (born fs x l b sound j)) Ret)
