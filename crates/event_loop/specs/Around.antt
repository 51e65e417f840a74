-- What is kept for one widget: with its nodes, its waiting timers, its clock and its focus.
use Rattle.std.specs.Prelude.{◌≡◌, ℕ, ◌<◌, List, length, Option, Some, None, ◌==◌, if◌then◌else◌}
use Rattle.event_loop.specs.declared.timers.Timer.{Timer}
use Rattle.event_loop.specs.declared.around.Loop.{Loop}
use Rattle.event_loop.specs.declared.around.LoopFault.{LoopFault}
use Rattle.event_loop.specs.declared.around.LoopFault.TheVariants as fault
use Rattle.event_loop.specs.Kept.{PlainKept, kept_in}
use Rattle.event_loop.specs.Timers.{without_due}

-- what is kept with a node
abbrev pub kept : Loop → ℕ → PlainKept
kept l n = kept_in l.table n

-- the waiting timers, in the order of their start
abbrev pub timers : Loop → List Timer
timers l = l.waiting.items

-- the clock
abbrev pub clock : Loop → ℕ
clock l = l.clock

-- the node that has the focus
abbrev pub focus : Loop → Option ℕ
focus l = l.focus

-- the timers after one was taken
abbrev pub left_waiting : Option Timer → List Timer → List Timer
left_waiting None ts = ts
left_waiting (Some t) ts = without_due t.at ts

-- the clock after that: its due time, or the limit where there is none
abbrev pub clock_after : Option Timer → ℕ → ℕ
clock_after None limit = limit
clock_after (Some t) limit = t.at

-- what is kept with all nodes stays
abbrev pub SameKept : Loop → Loop → Type 0
SameKept old new = (n : ℕ) → kept new n ≡ kept old n

-- what is kept with one node changes
abbrev pub ChangedAt : Loop → Loop → ℕ → (PlainKept → PlainKept) → Type 0
ChangedAt old new node change = (n : ℕ) → kept new n ≡ (if n == node then change (kept old n) else kept old n)

-- the timers, the clock and the focus stay
pub record SameTimes (old new : Loop) : Type 0 where
  pub same_timers : timers new ≡ timers old
  pub same_clock : clock new ≡ clock old
  pub same_focus : focus new ≡ focus old

-- what is kept with all nodes stays, the clock and the focus
pub record SameButTimers (old new : Loop) : Type 0 where
  pub same_kept : SameKept old new
  pub same_clock : clock new ≡ clock old
  pub same_focus : focus new ≡ focus old

-- When a timer is not started: so many wait as may. Memory may be wanted where fewer do.
abbrev pub RefusesTimer : List Timer → LoopFault → Type 0
RefusesTimer ts (fault.Full waiting) = (waiting ≡ 64) × (length ts ≡ 64)
RefusesTimer ts fault.Memory = length ts < 64
