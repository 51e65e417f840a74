use Rattle.std.proofs.Common.{None, sym, subst}
use Rattle.std.proofs.lemmas.Result.{IfOk-weaker}
use Rattle.widget_meaning.specs.Plan as plan
use Rattle.widget_meaning.specs.Plan.{Do, Ret}
use Rattle.std.specs.Prelude.{option_map}
use Rattle.js_image.specs.Image.{all_seen, seen}
use Rattle.js_flow.specs.declared.job.Call.{Call}
use Rattle.js_flow.specs.Fine.{FineCall}
use Rattle.store_cells.specs.declared.value.Value.TheVariants as value
use Rattle.js_direct.specs.Comes.{Comes}
use Rattle.js_direct.proofs.gathering.call_far.Goals as goal

pub returns : goal.returns
returns c =
    let call : Call = record { func = value.Ref c.args.func; this = None; args = c.args.args; depth = c.args.depth } in
    let same = c.in_ok-new.ensures.ok in
    record {
      comes = IfOk-weaker c.leave_job.result _ _
          (λ how h fs w s v func args. subst (λ (k : Call). Comes fs w s s 0 (λ t. Do (plan.Call (seen w s.cells k.func) (option_map (seen w s.cells) k.this) (all_seen w s.cells k.args.items) k.depth) t Ret) c.args.run.now c.leave_job.new.run how v)
          same (h fs w s v (subst (FineCall w s.cells) (sym same) (func, tt, args))))
          c.leave_job.ensures.comes;
    }
