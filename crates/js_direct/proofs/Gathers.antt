-- A function that is called with each item of a list, in place.
use Rattle.std.proofs.Common.{◌≡◌, ℕ, ◌+◌, List, [], ◌∷◌, ◌++◌, None, Some, drop, length, refl, sym, ap, ◌∙◌, subst, arith}
use Rattle.std.specs.Prelude.{pos, slice_get}
use Rattle.std.specs.Global.{Box}
use Rattle.std.proofs.lemmas.List.{length-map, length_push}
use Rattle.js_tree.specs.Forest.{Forest}
use Rattle.store_cells.specs.declared.value.Value.{Value as Stored}
use Rattle.store_cells.specs.declared.value.Value.TheVariants as value
use Rattle.store_cells.specs.Cells.{Cells, PlainCell}
use Rattle.widget_meaning.specs.Values.{Num, Value}
use Rattle.widget_meaning.specs.OwnState.{State}
use Rattle.widget_meaning.specs.Plan as plan
use Rattle.widget_meaning.specs.Plan.{Do, Plan, Ret, after, and_then}
use Rattle.widget_meaning.specs.ListNatives.{call_each}
use Rattle.js_image.specs.Image.{all_seen, image, seen}
use Rattle.js_image.specs.Held.{AreFine, IsFine, IsHeld, Kept}
use Rattle.js_flow.specs.declared.frame.CallFrame.TheVariants as call
use Rattle.js_flow.specs.declared.frame.Frame.TheVariants as frame
use Rattle.js_flow.specs.declared.frame.Gathering.{Gathering}
use Rattle.js_flow.specs.Calls.{gathered, gathering_taken}
use Rattle.js_flow.specs.Fine.{FineGathering}
use Rattle.js_flow.specs.Frames.{taken}
use Rattle.js_flow.specs.Views.{completion_of}
use Rattle.js_flow.proofs.Stays.{frame_fine}
use Rattle.js_calls.specs.Called.{gather_left}
use Rattle.js_calls.proofs.Repeated.{drop_at, one_result}
use Rattle.js_direct.specs.declared.run.Ended.{Ended}
use Rattle.js_direct.specs.declared.run.Ended.TheVariants as ended
use Rattle.js_direct.specs.declared.run.Run.{Run}
use Rattle.js_direct.specs.Comes.{Comes, ended_as}
use Rattle.js_direct.specs.Gathered.{IsMore}
use Rattle.js_direct.specs.Goes.{GoesOn}
use Rattle.js_direct.proofs.FormFrames.{instead, other_end, value_fine}
use Rattle.js_direct.proofs.Lists.{part_goes}
use Rattle.js_direct.proofs.Parts.{part_passes}

-- a call with an item and its index
abbrev pub item_called : ℕ → List PlainCell → Gathering → Stored → State → Plan
item_called w cells g item s =
    Do (plan.Call (seen w cells (value.Ref g.func)) None (seen w cells item ∷ (Num (pos (length g.results.items)) ∷ [])) g.depth) s Ret

-- what is left begins with the next item
module _ (fs : List Forest) (w : ℕ) (cells : List PlainCell) (s : State) (g : Gathering) (item : Stored) (at : slice_get g.items.items (length g.results.items) ≡ Some item) where
  vs : List Value
  vs = all_seen w cells g.items.items

  ws : List Value
  ws = all_seen w cells g.results.items

  left : gather_left w cells g s ≡ call_each (seen w cells (value.Ref g.func)) (seen w cells item ∷ drop (length g.results.items + 1) (all_seen w cells g.items.items)) (length (all_seen w cells g.results.items)) (all_seen w cells g.results.items) g.depth s
      (gathered g.keep (all_seen w cells g.items.items))
  left =
      ap (λ l. call_each (seen w cells (value.Ref g.func)) l (length (all_seen w cells g.results.items)) (all_seen w cells g.results.items) g.depth s (gathered g.keep (all_seen w cells g.items.items)))
      (ap (λ n. drop n (all_seen w cells g.items.items)) (length-map g.results.items (seen w cells)) ∙ drop_at (seen w cells) g.items.items (length g.results.items) item at)

  pub next_item : gather_left w cells g s ≡ and_then (item_called w cells g item s) (gathering_taken fs w cells g)
  next_item =
      left
      ∙ sym ((λ i. Do (plan.Call (seen w cells (value.Ref g.func)) None (seen w cells item ∷ (Num (pos (length g.results.items)) ∷ [])) g.depth) s
      (after (λ v u. call_each (seen w cells (value.Ref g.func)) (drop (length_push (all_seen w cells g.results.items) v i) (all_seen w cells g.items.items)) (length_push (all_seen w cells g.results.items) v i) (all_seen w cells g.results.items ++ v ∷ []) g.depth u (gathered g.keep (all_seen w cells g.items.items)))))
      ∙ (λ i. Do (plan.Call (seen w cells (value.Ref g.func)) None (seen w cells item ∷ (Num (pos (sym (length-map g.results.items (seen w cells)) i)) ∷ [])) g.depth) s
      (after (λ v u. call_each (seen w cells (value.Ref g.func)) (drop (length-map g.results.items (seen w cells) i + 1) (all_seen w cells g.items.items)) (length (all_seen w cells g.results.items) + 1) (all_seen w cells g.results.items ++ v ∷ []) g.depth u (gathered g.keep (all_seen w cells g.items.items))))))

fine_push : (w : ℕ) (cells : List PlainCell) (xs : List Stored) (v : Stored) → AreFine w cells xs → IsFine w cells v → AreFine w cells (xs ++ v ∷ [])
fine_push w cells [] v h k = (k, tt)
fine_push w cells (x ∷ xs) v h k = (h.0, fine_push w cells xs v h.1 k)

module _ (fs : List Forest) (w : ℕ) (old new : Cells) (g : Box Gathering) (item : Stored) (at : slice_get g.value.items.items (length g.value.results.items) ≡ Some item) (held : FineGathering w old.cells g.value) (kept : Kept fs w old new)
    (had has : Run) (how : Ended) (v : Stored) (comes : Comes fs w old new 0 (item_called w old.cells g.value item) had has how v) where
  -- the call gave a value
  pub more_fine : (h : Gathering) → IsMore g.value h v → how ≡ ended.Is → FineGathering w new.cells h
  more_fine h more is =
      let stays : FineGathering w new.cells g.value = frame_fine fs w old.cells new.cells kept.grows (frame.Call (call.Gather g)) held in (
        subst (λ i. IsHeld w new.cells i) (sym more.func) stays.0,
        subst (λ xs. AreFine w new.cells xs.items) (sym more.items) stays.1,
        subst (AreFine w new.cells) (sym more.results) (fine_push w new.cells g.value.results.items v stays.2 (value_fine fs w old new 0 (item_called w old.cells g.value item) had has how v comes is)),
      )

  pub more_goes : (h : Gathering) → IsMore g.value h v → how ≡ ended.Is → GoesOn fs w old new (gather_left w old.cells g.value) (gather_left w new.cells h) had has
  more_goes h more is =
      part_goes fs w old new new (item_called w old.cells g.value item) (gather_left w new.cells h) (gather_left w old.cells g.value) (frame.Call (call.Gather g)) had has has how v comes is kept.grows held refl
      (λ r. next_item fs w old.cells (image fs r w old) g.value item at)
      (λ r. sym (one_result fs w new.cells (image fs r w new) g.value h v more.func more.items more.results more.keep more.depth))

  -- it ended otherwise
  passes : (e : Ended) → (e ≡ ended.Is → ⊥) → (e ≡ ended.Left → ⊥) → (t : State) → gathering_taken fs w new.cells g.value (completion_of w new.cells (ended_as e v)) t ≡ Ret (completion_of w new.cells (ended_as e v)) t
  passes ended.Left no_value no_left t = absurd (no_left refl)
  passes ended.Is no_value no_left t = absurd (no_value refl)
  passes ended.Normal no_value no_left t = refl
  passes ended.Return no_value no_left t = refl
  passes ended.Break no_value no_left t = refl
  passes ended.Continue no_value no_left t = refl
  passes ended.Threw no_value no_left t = refl

  pub item_passes : (how ≡ ended.Is → ⊥) → (how ≡ ended.Left → ⊥) → Comes fs w old new 15 (gather_left w old.cells g.value) had has how v
  item_passes no_value no_left =
      instead fs w old new 0 15 (λ s. and_then (item_called w old.cells g.value item s) (taken fs w old.cells (frame.Call (call.Gather g)))) (gather_left w old.cells g.value) had has how (ended_as how v)
      (part_passes fs w old new 0 0 (item_called w old.cells g.value item) (frame.Call (call.Gather g)) had has how (ended_as how v) comes (other_end how no_left) kept.grows held
      (λ t. passes how no_value no_left t) (omega arith))
      (λ r. next_item fs w old.cells (image fs r w old) g.value item at) (omega arith)
