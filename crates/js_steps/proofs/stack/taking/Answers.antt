use Rattle.std.proofs.Common.{◌≡◌, ℕ, suc, ◌-◌, take, ap, ◌∙◌, arith}
use Rattle.js_flow.specs.Frames.{rest}
use Rattle.js_flow.specs.Views.{completion_of}
use Rattle.js_steps.proofs.stack.taking.Goals as goal

pub frames-preserved : goal.frames-preserved
frames-preserved c =
    let n = c.frames.left in
    let xs = c.args.frames.now.items in
    let one : suc (n - 1) ≡ n = omega (arith, c.frames-test.true) in
    record {
      within = omega (arith, c.frames.invariant.within);
      rest = λ fs w cells s. c.takes_at.ensures.passed c.if-takes_at.false fs w cells s
          ∙ (ap (λ (m : ℕ). rest fs w cells (take m xs) (completion_of w cells c.args.how.now) s) one ∙ c.frames.invariant.rest fs w cells s);
    }
