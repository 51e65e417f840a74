-- What is queued for a life that begins: its load turns.
use Rattle.std.specs.Prelude.{◌≡◌, ℕ, List, [], ◌∷◌, ◌++◌, map, Option, None, Some, MatchOption, slice_get}
use Rattle.std.specs.List.{AllByRecursion, flat_map}
use Rattle.std.specs.Option.{option_map_or}
use Rattle.js_tree.specs.Forest.{Forest}
use Rattle.js_tree.specs.Plain.{Fun, Stmts, NoStmts}
use Rattle.js_tree.specs.Trees.{program_of}
use Rattle.js_names.specs.declared.code.Code.{Code}
use Rattle.js_names.specs.Code.{tree_in}
use Rattle.widget_meaning.specs.Alone.{Content, call_parts}
use Rattle.life_laws.specs.Life as todo
use Rattle.slot_picks.specs.Held.{IsScriptOf}
use Rattle.slot_picks.specs.life.Script.{Script}
use Rattle.slot_picks.specs.life.Work.{Work}
use Rattle.slot_picks.specs.QueueLives.{function_of, text_with, work_of}
use Rattle.slot_picks.specs.Fine.{FineWork}

-- the program of the script with a number
abbrev pub program_with : List Code → ℕ → Stmts
program_with cs n = option_map_or (λ (c : Code). program_of (tree_in c)) (slice_get cs n) NoStmts

-- the load turn of a library, where it hands over a function
abbrev pub library_works : Option (List ℕ × Fun) → List todo.Work
library_works None = []
library_works (Some h) = todo.Library (text_with h.0 h.1) ∷ []

-- the turn of the `go` function
abbrev pub go_works : Option (List ℕ × Fun) → List todo.Work
go_works None = []
go_works (Some h) = todo.Go (text_with h.0 h.1) ∷ []

-- those of libraries, in order
abbrev pub libraries_works : List Stmts → List todo.Work
libraries_works programs = flat_map (λ p. library_works (call_parts p)) programs

-- the programs of scripts, in order
abbrev pub programs_of : List Code → List Stmts
programs_of cs = map (λ (c : Code). program_of (tree_in c)) cs

-- all load turns of a widget
abbrev pub loads : Content → List todo.Work
loads c = libraries_works c.libraries ++ go_works (call_parts c.script)

-- the script that a program hands over
abbrev pub IsScriptIn : List Forest → Stmts → Option Script → Type 0
IsScriptIn fs p o = MatchOption o (call_parts p ≡ None) (λ s. IsScriptOf fs s.code s.fun × (call_parts p ≡ Some (s.name, function_of fs s)))

-- These works were put behind a queue, each a script of these trees.
pub record IsQueued (fs : List Forest) (old new : List Work) (works : List todo.Work) : Type 0 where
  pub are : map (work_of fs) new ≡ map (work_of fs) old ++ works
  pub fine : AllByRecursion (FineWork fs) old → AllByRecursion (FineWork fs) new
