use Rattle.std.proofs.Common.{◌≡◌, ◌∙◌, sym, subst}
use Rattle.std.specs.Option.{option_map}
use Rattle.std.proofs.lemmas.Result.{IfOk-weaker}
use Rattle.widget_meaning.specs.Plan.{Do, Ret, RunNative}
use Rattle.js_image.specs.Image.{all_seen, seen}
use Rattle.js_flow.specs.declared.job.NativeCall.{NativeCall}
use Rattle.js_flow.specs.Fine.{FineNative}
use Rattle.js_direct.specs.Comes.{Comes}
use Rattle.js_direct.proofs.natives.native_far.Goals as goal

pub returns : goal.returns
returns c =
    let native : NativeCall = record { which = c.args.which; this = c.args.this.now; args = c.args.args.now; depth = c.args.depth } in
    let same : c.in_ok-new.field-0.value ≡ native = c.in_ok-new.ensures.ok ∙ (λ i. record { which = c.args.which; this = c.replace-this.ensures.value i; args = c.replace-args.ensures.value i; depth = c.args.depth }) in
    record {
      comes = IfOk-weaker c.leave_job.result _ _
          (λ how h fs w s v this args. subst (λ (n : NativeCall). Comes fs w s s 0 (λ t. Do (RunNative n.which (option_map (seen w s.cells) n.this) (all_seen w s.cells n.args.items) n.depth) t Ret) c.args.run.now c.leave_job.new.run how v)
          same (h fs w s v (subst (FineNative w s.cells) (sym same) (this, args))))
          c.leave_job.ensures.comes;
    }
