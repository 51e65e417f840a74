-- What waits innermost is taken out and goes on with how a call ended.
use Rattle.std.proofs.Common.{◌≡◌, ℕ, ◌+◌, ◌<◌, ◌≤◌, List, [], ◌∷◌, ◌++◌, ap, ◌∙◌, subst, arith}
use Rattle.js_tree.specs.Forest.{Forest}
use Rattle.store_cells.specs.Cells.{Cells}
use Rattle.widget_meaning.specs.Plan.{and_then}
use Rattle.page_tree.specs.declared.page.Page.{Page}
use Rattle.event_loop.specs.declared.around.Loop.{Loop}
use Rattle.js_flow.specs.declared.job.Completion.{Completion}
use Rattle.js_flow.specs.Views.{completion_of}
use Rattle.native_image.specs.Image.{Outside}
use Rattle.turn_dispatch.specs.declared.level.Level.{Level}
use Rattle.turn_dispatch.specs.Levels.{levels_rest}
use Rattle.turn_dispatch.specs.declared.calls.Calls.{Calls}
use Rattle.turn_dispatch.specs.declared.calls.Took.{Took}
use Rattle.turn_dispatch.specs.Took.{FineTook, IsTaken, took_plan}
use Rattle.turn_dispatch.specs.Turns.{turn_image}
use Rattle.turn_dispatch.specs.Waiting.{FineLevel, FineLevels}
use Rattle.turn_dispatch.specs.Weights.{GivesOn, levels_free, took_free, weights}
use Rattle.turn_dispatch.proofs.Stays.{fine_pop, levels_last}
use Rattle.turn_dispatch.proofs.Taken.{free_last, weights_last}

module _ (w : ℕ) (p : Page) (l : Loop) (old new : Cells) (before after : Calls) (level : Level) (how : Completion) (t : Took) (taken : IsTaken w p l old new before after level how t) (all : List Level) (are : all ≡ before.levels.items ++ level ∷ []) where
  parts : (fs : List Forest) → FineLevels fs w old.cells p all → FineLevels fs w old.cells p before.levels.items × FineLevel fs w old.cells p level
  parts fs fine = fine_pop fs w old.cells p before.levels.items level (subst (FineLevels fs w old.cells p) are fine)

  pub given_level : (fs : List Forest) → FineLevels fs w old.cells p all → FineLevel fs w old.cells p level
  given_level fs fine = (parts fs fine).1

  pub given_next : (fs : List Forest) (x : Outside) → FineLevels fs w old.cells p all
      → levels_rest fs w old.cells p all (completion_of w old.cells how) (turn_image fs x w old p l before.dispatches.items)
      ≡ and_then (took_plan fs w new.cells p t (turn_image fs x w new p l after.dispatches.items)) (levels_rest fs w new.cells p after.levels.items)
  given_next fs x fine =
      let o = completion_of w old.cells how in
      let s = turn_image fs x w old p l before.dispatches.items in
      let q = parts fs fine in
      ap (λ (ls : List Level). levels_rest fs w old.cells p ls o s) are
      ∙ (ap (λ k. k o s) (levels_last fs w old.cells p before.levels.items level) ∙ taken.plan fs x q.1 q.0)

  pub given_fine : (fs : List Forest) → FineLevels fs w old.cells p all → FineTook fs w new p t × FineLevels fs w new.cells p after.levels.items
  given_fine fs fine = let q = parts fs fine in taken.fine fs q.1 q.0

  pub given_near : took_free t + levels_free after.levels.items ≤ levels_free all
  given_near = omega (arith, taken.near, ap levels_free are, free_last before.levels.items level)

  pub given_less : GivesOn t → weights after.levels.items < weights all
  given_less g = omega (arith, taken.lighter g, ap weights are, weights_last before.levels.items level)
