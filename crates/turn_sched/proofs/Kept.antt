-- Asks that were kept, and one more.
use Rattle.std.proofs.Common.{◌≡◌, ℕ, List, [], ◌∷◌, ◌++◌, Option, Some, refl}
use Rattle.turn_sched.specs.declared.chooser.Ask.{Ask}
use Rattle.turn_sched.specs.Turns.{TakesNext, TakeTurns, no_ask, one_ask, last_taken}

pub turns_more : (last : Option ℕ) (asks : List Ask) (ask : Ask) → TakeTurns last asks → TakesNext (last_taken last asks) ask → TakeTurns last (asks ++ ask ∷ [])
turns_more last [] ask no_ask takes = one_ask takes no_ask
turns_more last (first ∷ asks) ask (one_ask here later) takes = one_ask here (turns_more (Some first.taken) asks ask later takes)

pub last_more : (last : Option ℕ) (asks : List Ask) (ask : Ask) → last_taken last (asks ++ ask ∷ []) ≡ Some ask.taken
last_more last [] ask = refl
last_more last (first ∷ asks) ask = last_more (Some first.taken) asks ask
