-- Load turns as they begin.
use Rattle.std.proofs.Common.{◌≡◌, ℕ, ◌<◌, List, [], ◌∷◌, sym, ap, ◌∙◌, None}
use Rattle.js_tree.specs.Forest.{Forest}
use Rattle.js_tree.specs.Plain.{Fun}
use Rattle.permitted_table.specs.declared.native.HostEntry.TheVariants as host
use Rattle.store_cells.specs.declared.value.Value.{Value as StoreValue}
use Rattle.store_cells.specs.declared.value.Value.TheVariants as value
use Rattle.store_cells.specs.Cells.{Cells}
use Rattle.object_store.specs.Grows.{Grows}
use Rattle.widget_meaning.specs.Values.{Host, Undefined}
use Rattle.widget_meaning.specs.Plan.{Ret, after}
use Rattle.widget_meaning.specs.Costs.{give}
use Rattle.widget_meaning.specs.Properties.{put}
use Rattle.widget_meaning.specs.Alone.{call_script, go_plan, lib, library_plan}
use Rattle.widget_meaning.proofs.Runs.{and_then_ret}
use Rattle.page_tree.specs.declared.page.Page.{Page}
use Rattle.event_loop.specs.declared.around.Loop.{Loop}
use Rattle.js_image.specs.Held.{Kept}
use Rattle.js_image.specs.Image.{Rest, all_seen, image as store_image, seen}
use Rattle.js_image.proofs.Grown.{held_stays, seen_stays}
use Rattle.native_image.specs.Image.{Outside, beside, image}
use Rattle.native_image.specs.Sound.{IsSound, KeepsStore}
use Rattle.native_image.proofs.Joint.{rest, sound_grows, store_lift}
use Rattle.page_image.specs.Image.{owns}
use Rattle.turn_dispatch.specs.declared.level.Doing.{Doing}
use Rattle.turn_dispatch.specs.declared.level.Level.{Level}
use Rattle.turn_dispatch.specs.declared.level.Level.TheVariants as level
use Rattle.turn_dispatch.specs.Levels.{keeps_on, levels_rest, turn_plan}
use Rattle.life_queue.specs.declared.life.Life.{Life}
use Rattle.native_image.specs.declared.handed.Shared.{Shared}
use Rattle.life_queue.specs.Lives.{trees_in}
use Rattle.life_queue.specs.Fine.{FineLife, HasLib}
use Rattle.life_queue.proofs.Passing.{Rested}

-- the object `lib` stays as the store grows
pub lib_stays : (w : ℕ) (old new : Cells) (a : Life) → Grows w old.cells new.cells → HasLib w old a → HasLib w new a
lib_stays w old new a g h = record { held = held_stays w old.cells new.cells g a.lib h.held; first = seen_stays w old.cells new.cells g (value.Ref a.lib) h.held ∙ h.first }

-- a life between turns is still sound after a call of the store
pub rested : (h : Shared) (w : ℕ) (a : Life) (new : Cells) → a.turn ≡ None → FineLife h w a → Kept (trees_in h) w h.store new → Rested h w a new h.page
rested h w a new e fine kept = record {
  number = fine.number;
  rest = e;
  confined = kept.confined fine.confined;
  sound = sound_grows w h.store new h.page a.widget.around fine.sound kept.grows (kept.nodes (owns h.page w) fine.sound.holds.bunches);
  lib = lib_stays w h.store new a kept.grows fine.lib;
  works = fine.works;
  counts = fine.counts;
}

-- the same where the call says that the life is sound
pub rested_by : (h : Shared) (w : ℕ) (a : Life) (new : Cells) → a.turn ≡ None → FineLife h w a → KeepsStore w h.store new → IsSound w new h.page a.widget.around → Rested h w a new h.page
rested_by h w a new e fine kept sound = record {
  number = fine.number;
  rest = e;
  confined = kept.confined (trees_in h) fine.confined;
  sound = sound;
  lib = lib_stays w h.store new a kept.grows fine.lib;
  works = fine.works;
  counts = fine.counts;
}

module _ (fs : List Forest) (w : ℕ) (lt : w < 32) (p : Page) (old new : Cells) (around : Loop) (x : Outside) (sound : IsSound w old p around) (grows : Grows w old.cells new.cells) where
  -- what a call of the store says, at the state of the turn
  lifted : store_image fs (rest w lt x (beside old p around None)) w new ≡ image fs x w (beside new p around None)
  lifted = store_lift w old new p around sound.holds grows lt fs x None

  module _ (a : Life) (has : HasLib w old a) where
    keeps : (name : List ℕ) → levels_rest fs w new.cells p (level.Keeps a.lib name ∷ []) ≡ after (λ v t. put lib name v t (give Undefined))
    keeps name =
        (λ j. λ o s. and_then_ret (keeps_on w new.cells p a.lib name o s) j)
        ∙ (λ j. λ o s. after (λ v t. put ((seen_stays w old.cells new.cells grows (value.Ref a.lib) has.held ∙ has.first) j) name v t (give Undefined)) o s)

    -- the load turn of a library
    pub library_so : (name : List ℕ) (f : Fun) (d : Doing) (args : List StoreValue) → args ≡ value.Ref a.lib ∷ []
        → ((r : Rest) (levels : List Level) → call_script f (all_seen w old.cells args) (store_image fs r w old) (levels_rest fs w new.cells p levels) ≡ turn_plan fs w new.cells p d levels (store_image fs r w new))
        → library_plan name f (image fs x w (beside old p around None)) ≡ turn_plan fs w new.cells p d (level.Keeps a.lib name ∷ []) (image fs x w (beside new p around None))
    library_so name f d args are plan =
        (λ j. call_script f (sym (ap (all_seen w old.cells) are ∙ ap (λ v. v ∷ []) has.first) j) (image fs x w (beside old p around None)) (sym (keeps name) j))
        ∙ (plan (rest w lt x (beside old p around None)) (level.Keeps a.lib name ∷ [])
        ∙ ap (turn_plan fs w new.cells p d (level.Keeps a.lib name ∷ [])) lifted)

    -- the turn of the `go` function
    pub go_so : (f : Fun) (d : Doing) (dom : ℕ) (args : List StoreValue) → args ≡ value.Ref dom ∷ value.Ref a.lib ∷ [] → seen w old.cells (value.Ref dom) ≡ Host host.Dom
        → ((r : Rest) (levels : List Level) → call_script f (all_seen w old.cells args) (store_image fs r w old) (levels_rest fs w new.cells p levels) ≡ turn_plan fs w new.cells p d levels (store_image fs r w new))
        → go_plan f (image fs x w (beside old p around None)) ≡ turn_plan fs w new.cells p d [] (image fs x w (beside new p around None))
    go_so f d dom args are is plan =
        ap (λ vs. call_script f vs (image fs x w (beside old p around None)) Ret) (sym (ap (all_seen w old.cells) are ∙ (λ j. is j ∷ has.first j ∷ [])))
        ∙ (plan (rest w lt x (beside old p around None)) []
        ∙ ap (turn_plan fs w new.cells p d []) lifted)
