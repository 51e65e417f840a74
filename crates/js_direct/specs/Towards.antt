-- What is still to be done once a part of it was carried out.
use Rattle.std.specs.Prelude.{ℕ, ◌-◌, ◌≤◌, List, Option, MatchOption}
use Rattle.js_tree.specs.Forest.{Forest}
use Rattle.js_tree.specs.Plain as tree
use Rattle.js_tree.specs.Plain.{Expr, Stmt}
use Rattle.store_cells.specs.Cells.{Cells}
use Rattle.store_cells.specs.declared.value.Value.{Value}
use Rattle.widget_meaning.specs.OwnState.{State}
use Rattle.widget_meaning.specs.Plan.{Plan}
use Rattle.js_tree.specs.declared.nodes.StmtId.{StmtId}
use Rattle.js_image.specs.Image.{Rest, image}
use Rattle.js_flow.specs.declared.frame.StatementFrame.{StatementFrame}
use Rattle.js_flow.specs.declared.frame.StatementFrame.TheVariants as frame
use Rattle.js_flow.specs.declared.job.Place.{Place}
use Rattle.js_flow.specs.Parts.{first_of, last_of}
use Rattle.js_direct.specs.declared.run.Ended.{Ended}
use Rattle.js_direct.specs.declared.run.Run.{Run}
use Rattle.js_direct.specs.declared.statements.After.{After}
use Rattle.js_direct.specs.declared.statements.After.TheVariants as after
use Rattle.js_direct.specs.declared.statements.Part.{Part}
use Rattle.js_direct.specs.declared.statements.Part.TheVariants as part
use Rattle.js_direct.specs.Comes.{Comes, IsReady}
use Rattle.js_direct.specs.Reduces.{Reduces}

module _ (fs : List Forest) (w : ℕ) where
  -- what was to be done in the old store comes, paid by units, to what is to be done in the new one; nothing waits
  pub record Towards (old new : Cells) (p q : State → Plan) (had has : Run) : Type 0 where
    pub units : has.units ≤ had.units
    pub reduces : (r : Rest) → Reduces (had.units - has.units) (p (image fs r w old)) (q (image fs r w new))
    pub ready : IsReady fs w new has

  -- it came to an end or is suspended, or else this is still to be done
  abbrev pub Passes : Cells → Cells → ℕ → (State → Plan) → (State → Plan) → Run → Run → Option Ended → Value → Type 0
  Passes old new n p q had has o v = MatchOption o (Towards old new p q had has) (λ how. Comes fs w old new n p had has how v)

-- the frame after the value of a statement
abbrev pub frame_after : After → StatementFrame
frame_after after.Nothing = frame.Only
frame_after after.Return = frame.ToReturn
frame_after after.Throw = frame.ToThrow

-- the expressions of the first or the last part of a `for`
abbrev pub part_of : Part → Stmt → List Expr
part_of part.First i = first_of i
part_of part.Last i = last_of i

-- the frame after one of them, with those from a number on
abbrev pub frame_in : Part → StmtId → ℕ → Place → StatementFrame
frame_in part.First i n p = frame.First i n p
frame_in part.Last i n p = frame.Last i n p

-- the first part of a `for` is a list of declarations
abbrev pub IsDecls : tree.ForInit → Type 0
IsDecls (tree.DeclsFirst ds) = Unit {0}
IsDecls (tree.ExprsFirst es) = ⊥

-- it is a list of expressions
abbrev pub IsExprs : tree.ForInit → Type 0
IsExprs (tree.DeclsFirst ds) = ⊥
IsExprs (tree.ExprsFirst es) = Unit {0}
