-- What waits in a turn has the same to do as the store grows and nodes keep their numbers, and it stays the widget's.
use Rattle.std.proofs.Common.{◌≡◌, ℕ, zero, suc, true, List, [], ◌∷◌, ◌++◌, refl, ap, ◌∙◌, map, arith, if◌then◌else◌}
use Rattle.std.specs.Prelude.{drop, slice_index_or, ◌||◌}
use Rattle.std.specs.List.{AllByRecursion}
use Rattle.js_tree.specs.Forest.{Forest}
use Rattle.store_cells.specs.declared.value.Value.TheVariants as value
use Rattle.store_cells.specs.Cells.{PlainCell, own_count}
use Rattle.store_cells.specs.Host.{is_permitted_cell}
use Rattle.object_store.specs.Grows.{Grows}
use Rattle.object_store.specs.Owned as store
use Rattle.widget_meaning.specs.Values.{Completion, Own, Undefined}
use Rattle.widget_meaning.specs.OwnState.{State}
use Rattle.widget_meaning.specs.Plan.{Plan, Ret, after, and_then}
use Rattle.widget_meaning.specs.Costs.{give}
use Rattle.widget_meaning.specs.Properties.{put}
use Rattle.widget_meaning.specs.BunchWrites.{fired}
use Rattle.widget_meaning.specs.Dispatch.{dispatch_end, handlers}
use Rattle.page_tree.specs.declared.page.Page.{Page}
use Rattle.page_image.specs.Image.{number, owns}
use Rattle.js_image.specs.Image.{meant, seen}
use Rattle.js_image.specs.Held.{IsHeld}
use Rattle.js_image.proofs.Grown.{fine_stays, held_stays, seen_stays}
use Rattle.js_flow.proofs.Stays.{frames_fine, rest_same}
use Rattle.native_image.specs.Sound.{IsOwnCell}
use Rattle.plan_ends.specs.Ends.{ByValue}
use Rattle.js_steps.proofs.Ending.{awaits_later}
use Rattle.turn_dispatch.specs.declared.level.Dispatch.{Dispatch}
use Rattle.turn_dispatch.specs.declared.level.Hearing.{Hearing}
use Rattle.turn_dispatch.specs.declared.level.Level.{Level}
use Rattle.turn_dispatch.specs.declared.level.Level.TheVariants as level
use Rattle.turn_dispatch.specs.Held.{FineDispatch, FineHearing}
use Rattle.turn_dispatch.specs.Waiting.{FineLevel, FineLevels}
use Rattle.turn_dispatch.specs.Levels.{hearing_of, level_taken, levels_rest, over}

-- a visible cell of the widget is held, and is seen by its number
pub own_held : (w : ℕ) (cells : List PlainCell) (i : ℕ) → IsOwnCell w cells i → IsHeld w cells i
own_held w cells i h = (h.0, ap (λ c. c || is_permitted_cell i) h.1)

pub own_seen : (w : ℕ) (cells : List PlainCell) (i : ℕ) → IsOwnCell w cells i → seen w cells (value.Ref i) ≡ Own (own_count w cells i)
own_seen w cells i h = ap (λ b. meant (if b then store.Own (own_count w cells i) else store.Other i)) h.1

module _ (w : ℕ) (old new : List PlainCell) (g : Grows w old new) (p q : Page) (numbers : (n : ℕ) → owns p w n ≡ true → number q w n ≡ number p w n) where
  functions_same : (is : List ℕ) → AllByRecursion (IsOwnCell w old) is → map (own_count w new) is ≡ map (own_count w old) is
  functions_same [] h = refl
  functions_same (i ∷ is) h = λ j. g.count i h.0.0 j ∷ functions_same is h.1 j

  nodes_same : (ns : List ℕ) → AllByRecursion (λ n. owns p w n ≡ true) ns → map (number q w) ns ≡ map (number p w) ns
  nodes_same [] h = refl
  nodes_same (n ∷ ns) h = λ j. numbers n h.0 j ∷ nodes_same ns h.1 j

  dropped : (n : ℕ) (ns : List ℕ) → AllByRecursion (λ m. owns p w m ≡ true) ns → map (number q w) (drop n ns) ≡ map (number p w) (drop n ns)
  dropped zero ns k = nodes_same ns k
  dropped (suc n) [] k = refl
  dropped (suc n) (m ∷ ns) k = dropped n ns k.1

  pub hearing_same : (h : Hearing) → FineHearing w old p h → hearing_of w new q h ≡ hearing_of w old p h
  hearing_same h fine = λ j. record {
    kind = h.dispatch.kind;
    target = numbers h.dispatch.target fine.dispatch.target j;
    node = numbers h.node fine.node j;
    value = seen_stays w old new g h.dispatch.value fine.dispatch.value j;
    event = seen_stays w old new g (value.Ref h.event) fine.event j;
    first = slice_index_or (functions_same h.handlers.items fine.handlers j) 0 0;
    others = drop 1 (functions_same h.handlers.items fine.handlers j);
    depth = h.dispatch.depth;
  }

  pub level_same : (fs : List Forest) (l : Level) → FineLevel fs w old p l → level_taken fs w new q l ≡ level_taken fs w old p l
  level_same fs (level.Keeps lib x) h = λ j. λ o s. after (λ v t. put (seen_stays w old new g (value.Ref lib) h j) x v t (give Undefined)) o s
  level_same fs (level.Hears e n) h = λ j. λ o s.
      and_then (after (λ v t. handlers (drop n (functions_same e.value.handlers.items h.handlers j)) (hearing_same e.value h j) t) o s)
      (dispatch_end (hearing_same e.value h j))
  level_same fs (level.Fires f n) h = λ j. λ o s.
      after (λ v t. fired f.value.kind (dropped n f.value.nodes.items h.nodes j) (seen_stays w old new g f.value.last h.last j) f.value.depth t) o s
  level_same fs (level.Waits t) h = rest_same fs w old new g t.value.frames.list.items h.1

  over_same : (fs : List Forest) (levels : List Level) → FineLevels fs w old p levels → (k : Completion → State → Plan) → over fs w new q levels k ≡ over fs w old p levels k
  over_same fs [] h k = refl
  over_same fs (l ∷ levels) h k = over_same fs levels h.1 _ ∙ ap (λ t. over fs w old p levels (λ o s. and_then (t o s) k)) (level_same fs l h.0)

  pub levels_same : (fs : List Forest) (levels : List Level) → FineLevels fs w old p levels → levels_rest fs w new q levels ≡ levels_rest fs w old p levels
  levels_same fs levels h = over_same fs levels h Ret

  -- and what is held stays the widget's
  module _ (owners : (n : ℕ) → owns p w n ≡ true → owns q w n ≡ true) where
    own_stays : (i : ℕ) → IsOwnCell w old i → IsOwnCell w new i
    own_stays i h = (omega (arith, h.0, g.size), g.visible i h.0 ∙ h.1)

    functions_stay : (is : List ℕ) → AllByRecursion (IsOwnCell w old) is → AllByRecursion (IsOwnCell w new) is
    functions_stay [] h = tt
    functions_stay (i ∷ is) h = (own_stays i h.0, functions_stay is h.1)

    nodes_stay : (ns : List ℕ) → AllByRecursion (λ n. owns p w n ≡ true) ns → AllByRecursion (λ n. owns q w n ≡ true) ns
    nodes_stay [] h = tt
    nodes_stay (n ∷ ns) h = (owners n h.0, nodes_stay ns h.1)

    pub dispatch_fine : (d : Dispatch) → FineDispatch w old p d → FineDispatch w new q d
    dispatch_fine d h = record { target = owners d.target h.target; value = fine_stays w old new g d.value h.value }

    pub hearing_fine : (h : Hearing) → FineHearing w old p h → FineHearing w new q h
    hearing_fine h fine = record {
      dispatch = dispatch_fine h.dispatch fine.dispatch;
      node = owners h.node fine.node;
      event = held_stays w old new g h.event fine.event;
      handlers = functions_stay h.handlers.items fine.handlers;
      some = fine.some;
    }

    pub level_fine : (fs : List Forest) (l : Level) → FineLevel fs w old p l → FineLevel fs w new q l
    level_fine fs (level.Keeps lib x) h = held_stays w old new g lib h
    level_fine fs (level.Hears e n) h = hearing_fine e.value h
    level_fine fs (level.Fires f n) h = record { nodes = nodes_stay f.value.nodes.items h.nodes; last = fine_stays w old new g f.value.last h.last }
    level_fine fs (level.Waits t) h = (h.0, frames_fine fs w old new g t.value.frames.list.items h.1, awaits_later fs w old new g ByValue t.value.frames.list.items h.1 h.2)

    pub levels_fine : (fs : List Forest) (levels : List Level) → FineLevels fs w old p levels → FineLevels fs w new q levels
    levels_fine fs [] h = tt
    levels_fine fs (l ∷ levels) h = (level_fine fs l h.0, levels_fine fs levels h.1)

-- levels that are pushed and popped
module _ (fs : List Forest) (w : ℕ) (cells : List PlainCell) (p : Page) where
  pub fine_push : (below : List Level) (l : Level) → FineLevels fs w cells p below → FineLevel fs w cells p l → FineLevels fs w cells p (below ++ l ∷ [])
  fine_push [] l h k = (k, tt)
  fine_push (x ∷ below) l h k = (h.0, fine_push below l h.1 k)

  pub fine_pop : (below : List Level) (l : Level) → FineLevels fs w cells p (below ++ l ∷ []) → FineLevels fs w cells p below × FineLevel fs w cells p l
  fine_pop [] l h = (tt, h.0)
  fine_pop (x ∷ below) l h = let r = fine_pop below l h.1 in ((h.0, r.0), r.1)

  over_last : (below : List Level) (l : Level) (k : Completion → State → Plan) → over fs w cells p (below ++ l ∷ []) k ≡ (λ o s. and_then (level_taken fs w cells p l o s) (over fs w cells p below k))
  over_last [] l k = refl
  over_last (x ∷ below) l k = over_last below l (λ o s. and_then (level_taken fs w cells p x o s) k)

  pub levels_last : (below : List Level) (l : Level) → levels_rest fs w cells p (below ++ l ∷ []) ≡ (λ o s. and_then (level_taken fs w cells p l o s) (levels_rest fs w cells p below))
  levels_last below l = over_last below l Ret
