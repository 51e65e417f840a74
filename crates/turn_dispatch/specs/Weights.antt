-- Weights of what waits: how often it may be given to before a task takes steps, and what it may take up without a charge.
use Rattle.std.specs.Prelude.{ℕ, ◌+◌, ◌*◌, ◌-◌, List, [], ◌∷◌, length, Bool, true, false}
use Rattle.js_flow.specs.declared.job.Completion.{Completion}
use Rattle.js_flow.specs.declared.job.Completion.TheVariants as completion
use Rattle.js_flow.specs.Free.{frames_free, free, native_free}
use Rattle.turn_dispatch.specs.declared.level.Doing.{Doing}
use Rattle.turn_dispatch.specs.declared.level.Doing.TheVariants as doing
use Rattle.turn_dispatch.specs.declared.level.Level.{Level}
use Rattle.turn_dispatch.specs.declared.level.Level.TheVariants as level
use Rattle.turn_dispatch.specs.declared.calls.Took.{Took}
use Rattle.turn_dispatch.specs.declared.calls.Took.TheVariants as took

-- ## How often it may be given to

-- one thing that waits: an event that is fired is given to for each node, and at its end
abbrev pub level_weight : Level → ℕ
level_weight (level.Fires f n) = length f.value.nodes.items - n + 1
level_weight l = 1

-- all that waits
abbrev pub weights : List Level → ℕ
weights [] = 0
weights (l ∷ levels) = level_weight l + weights levels

-- whether a call gave a value
abbrev pub is_value : Completion → Bool
is_value (completion.Is v) = true
is_value o = false

-- what waits below is given to next
abbrev pub GivesOn : Took → Type 0
GivesOn (took.Gives o) = Unit {0}
GivesOn t = ⊥

-- ## What it may take up without a charge: twice that of a task, since a dispatch that begins weighs one

-- a task that waits is given to
abbrev pub level_free : Level → ℕ
level_free (level.Waits t) = 2 * (1 + frames_free t.value.frames.list.items)
level_free l = 0

-- all that waits
abbrev pub levels_free : List Level → ℕ
levels_free [] = 0
levels_free (l ∷ levels) = level_free l + levels_free levels

-- what is done next
abbrev pub took_free : Took → ℕ
took_free (took.Runs t) = 2 * free t.value.control t.value.frames.list.items
took_free t = 0

-- what a turn does
abbrev pub doing_free : Doing → ℕ
doing_free (doing.Runs t) = 2 * free t.value.control t.value.frames.list.items
doing_free (doing.Native t n) = 2 * (native_free + frames_free t.value.frames.list.items)
doing_free (doing.Hears h) = 1
doing_free d = 0
