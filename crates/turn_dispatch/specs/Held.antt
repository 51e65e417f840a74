-- What a turn holds is the widget's.
use Rattle.std.specs.Prelude.{◌≡◌, ◌<◌, ℕ, List, None, false, length, true}
use Rattle.std.specs.List.{AllByRecursion}
use Rattle.js_tree.specs.Forest.{Forest}
use Rattle.js_tree.specs.declared.nodes.FunId.{FunId}
use Rattle.store_cells.specs.Cells.{Cells, PlainCell}
use Rattle.page_tree.specs.declared.page.Page.{Page}
use Rattle.page_image.specs.Image.{owns}
use Rattle.js_image.specs.Held.{IsFine, IsFunOf, IsHeld}
use Rattle.js_flow.specs.Fine.{FineCompletion, FineControl, FineFrames, FineNative}
use Rattle.js_flow.specs.Todo.{IsGoing}
use Rattle.plan_ends.specs.Ends.{ByValue}
use Rattle.js_steps.specs.declared.task.Task.{Task}
use Rattle.js_steps.specs.Ending.{Awaits, EndsCall}
use Rattle.native_image.specs.Sound.{IsOwnCell}
use Rattle.turn_dispatch.specs.declared.level.Dispatch.{Dispatch}
use Rattle.turn_dispatch.specs.declared.level.Hearing.{Hearing}
use Rattle.turn_dispatch.specs.declared.level.Heard.{Heard}
use Rattle.turn_dispatch.specs.declared.level.Heard.TheVariants as heard
use Rattle.turn_dispatch.specs.declared.level.Doing.{Doing}
use Rattle.turn_dispatch.specs.declared.level.Doing.TheVariants as doing

-- the function of a script, made without a scope
abbrev pub IsScriptOf : List Forest → ℕ → FunId → Type 0
IsScriptOf fs code fun = IsFunOf fs (record { code = code; fun = fun; declared = false; scope = None })

module _ (w : ℕ) (cells : List PlainCell) (p : Page) where
  -- What is told to nodes: the target and the value are the widget's.
  pub record FineDispatch (d : Dispatch) : Type 0 where
    pub target : owns p w d.target ≡ true
    pub value : IsFine w cells d.value

  -- A dispatch at a node of the widget, to functions of it, of which there are some.
  pub record FineHearing (h : Hearing) : Type 0 where
    pub dispatch : FineDispatch h.dispatch
    pub node : owns p w h.node ≡ true
    pub event : IsHeld w cells h.event
    pub handlers : AllByRecursion (IsOwnCell w cells) h.handlers.items
    pub some : 0 < length h.handlers.items

  -- what came of a dispatch
  abbrev pub FineHeard : Heard → Type 0
  FineHeard (heard.Calls h) = FineHearing h.value
  FineHeard (heard.Stop c) = Unit {0}

module _ (fs : List Forest) (w : ℕ) (s : Cells) (p : Page) where
  -- A task of the widget that can take a step, and whose call ends by a value or a throw.
  pub record FineTask (t : Task) : Type 0 where
    pub widget : t.widget ≡ w
    pub going : IsGoing t.control
    pub control : FineControl fs w s.cells t.control
    pub frames : FineFrames fs w s.cells t.frames.list.items
    pub call : EndsCall fs w s t.control t.frames.list.items

  -- what a turn does
  abbrev pub FineDoing : Doing → Type 0
  FineDoing (doing.Runs t) = FineTask t.value
  FineDoing (doing.Native t n) = (t.value.widget ≡ w) × FineFrames fs w s.cells t.value.frames.list.items × FineNative w s.cells n.value × Awaits fs w s.cells ByValue t.value.frames.list.items
  FineDoing (doing.Hears h) = FineHearing w s.cells p h.value
  FineDoing (doing.Over o) = FineCompletion w s.cells o
  FineDoing (doing.Stop c) = Unit {0}
