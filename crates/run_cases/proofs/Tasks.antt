-- A task that begins.
use Rattle.std.proofs.Common.{◌≡◌, ◌<◌, List, [], ◌∷◌, None, arith, false, subst, sym}
use Rattle.js_tree.specs.declared.nodes.FunId.{FunId}
use Rattle.js_tree.specs.Forest.{IsFun}
use Rattle.store_cells.specs.Cells.{Cells}
use Rattle.store_cells.specs.Host.{first_store}
use Rattle.object_store.specs.declared.store.NewCell.TheVariants as fresh
use Rattle.js_names.specs.declared.code.Code.{Code}
use Rattle.js_names.specs.Code.{code_trees, trees_of}
use Rattle.js_image.specs.Held.{IsConfined, Kept}
use Rattle.js_image.specs.Plans.{IsNewOf}
use Rattle.js_steps.specs.declared.task.Task.{Task}
use Rattle.js_steps.specs.Answered.{IsFineTask}
use Rattle.run_cases.specs.Running.{IsReady}
use Rattle.run_cases.proofs.First.{first_confined}

-- the function is one of the only tree
pub new_function : (code : Code) (fun : FunId) → IsFun (code_trees code) fun → (codes : List Code) → codes ≡ code ∷ [] → IsNewOf (trees_of codes) (fresh.Function 0 fun false None)
new_function code fun is codes one = subst (λ (cs : List Code). IsNewOf (trees_of cs) (fresh.Function 0 fun false None)) (sym one) (omega arith, is)

-- a task of widget 0, for which the store was without widgets
pub first_ready : (codes : List Code) (old s : Cells) (t : Task) → old ≡ first_store → Kept (trees_of codes) 0 old s → t.widget ≡ 0 → IsFineTask (trees_of codes) 0 s t → IsReady codes s t
first_ready codes old s t first kept w fine = record {
  widget = subst (λ n. n < 32) (sym w) (omega arith);
  confined = subst (λ n. IsConfined (trees_of codes) n s) (sym w) (kept.confined (subst (IsConfined (trees_of codes) 0) (sym first) (first_confined (trees_of codes))));
  held = subst (λ n. IsFineTask (trees_of codes) n s t) (sym w) fine;
}
