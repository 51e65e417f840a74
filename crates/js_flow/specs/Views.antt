-- Places, references, completions and jobs as the meaning has them.
use Rattle.std.specs.Prelude.{ℕ, suc, List, [], drop, unwrap_or, slice_get}
use Rattle.std.specs.Fmt.{decimal}
use Rattle.std.specs.Option.{option_map}
use Rattle.js_tree.specs.Forest.{Forest, expr_at, stmt_at}
use Rattle.js_tree.specs.Lists.{stmt_list}
use Rattle.store_cells.specs.Cells.{PlainCell}
use Rattle.store_cells.specs.declared.value.Value.TheVariants as value
use Rattle.object_store.specs.Owned.{scope_number}
use Rattle.widget_meaning.specs.Values as meaning
use Rattle.widget_meaning.specs.Plan as plan
use Rattle.js_image.specs.Image.{all_seen, seen}
use Rattle.js_flow.specs.declared.job.Place.{Place}
use Rattle.js_flow.specs.declared.job.Reference.{Reference}
use Rattle.js_flow.specs.declared.job.Reference.TheVariants as reference
use Rattle.js_flow.specs.declared.job.Completion.{Completion}
use Rattle.js_flow.specs.declared.job.Completion.TheVariants as completion
use Rattle.js_flow.specs.declared.job.Job.{Job}
use Rattle.js_flow.specs.declared.job.Job.TheVariants as job
use Rattle.js_flow.specs.declared.frame.ForInNames.{ForInNames}
use Rattle.js_flow.specs.Parts.{forest_at, loop_body, loop_of, variable_of}

-- the name at a place of a list
abbrev pub name_at : List (List ℕ) → ℕ → List ℕ
name_at names n = unwrap_or (slice_get names n) []

module _ (w : ℕ) (cells : List PlainCell) where
  -- a place
  abbrev pub place_of : Place → plan.Place
  place_of p = record { scope = option_map (scope_number w cells) p.scope; depth = p.depth }

  -- a reference
  abbrev pub reference_of : Reference → meaning.Reference
  reference_of (reference.Variable x) = meaning.Variable x
  reference_of (reference.Property v x) = meaning.Property (seen w cells v) x
  reference_of (reference.Element i n) = meaning.Property (seen w cells (value.Ref i)) (decimal n)
  reference_of (reference.Found v) = meaning.Found (seen w cells v)

  -- how a form ends
  abbrev pub completion_of : Completion → meaning.Completion
  completion_of completion.Normal = meaning.Normal
  completion_of (completion.Is v) = meaning.Is (seen w cells v)
  completion_of (completion.Refers r) = meaning.Refers (reference_of r)
  completion_of (completion.Return v) = meaning.Return (seen w cells v)
  completion_of completion.Break = meaning.Break
  completion_of completion.Continue = meaning.Continue
  completion_of (completion.Throw v) = meaning.Throw (seen w cells v)

module _ (fs : List Forest) (w : ℕ) (cells : List PlainCell) where
  -- a `for-in` at its next pass
  abbrev pub for_in_loop : ForInNames → ℕ → plan.Loop
  for_in_loop l code =
      plan.ForInLoop (seen w cells l.object) (variable_of (stmt_at (forest_at fs code) l.id)) (name_at l.names.items l.at)
      (drop (suc l.at) l.names.items) (stmt_list (loop_body (stmt_at (forest_at fs code) l.id)))

  -- a job
  abbrev pub job_of : Job → plan.Job
  job_of (job.Eval e p) = plan.Eval (expr_at (forest_at fs p.code) e) (place_of w cells p)
  job_of (job.Target e p) = plan.Target (expr_at (forest_at fs p.code) e) (place_of w cells p)
  job_of (job.Exec i p) = plan.Exec (stmt_at (forest_at fs p.code) i) (place_of w cells p)
  job_of (job.Pass i p) = plan.Pass (loop_of (stmt_at (forest_at fs p.code) i)) (place_of w cells p)
  job_of (job.PassIn l p) = plan.Pass (for_in_loop l.value p.code) (place_of w cells p)
  job_of (job.Call c) =
      plan.Call (seen w cells c.value.func) (option_map (seen w cells) c.value.this) (all_seen w cells c.value.args.items) c.value.depth
  job_of (job.RunNative c) =
      plan.RunNative c.value.which (option_map (seen w cells) c.value.this) (all_seen w cells c.value.args.items) c.value.depth
