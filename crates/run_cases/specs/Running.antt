-- A task in what it runs in.
use Rattle.std.specs.Prelude.{◌<◌, List}
use Rattle.store_cells.specs.Cells.{Cells}
use Rattle.js_names.specs.declared.code.Code.{Code}
use Rattle.js_names.specs.Code.{trees_of}
use Rattle.js_image.specs.Held.{IsConfined}
use Rattle.js_steps.specs.declared.answer.Stepped.{Stepped}
use Rattle.js_steps.specs.declared.answer.Stepped.TheVariants as stepped
use Rattle.js_steps.specs.declared.task.Task.{Task}
use Rattle.js_steps.specs.Answered.{IsFineTask}

-- what its widget has in the store, and what the task holds, is the widget's
pub record IsReady (codes : List Code) (s : Cells) (t : Task) : Type 0 where
  pub widget : t.widget < 32
  pub confined : IsConfined (trees_of codes) t.widget s
  pub held : IsFineTask (trees_of codes) t.widget s t

-- the answer is a native
abbrev pub IsNative : Stepped → Type 0
IsNative (stepped.Native n) = Unit {0}
IsNative _ = ⊥
