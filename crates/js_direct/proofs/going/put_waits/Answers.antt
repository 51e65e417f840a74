use Rattle.std.proofs.Common.{sym, ap, ◌∙◌, arith}
use Rattle.widget_meaning.specs.Plan.{and_then}
use Rattle.widget_meaning.proofs.Runs.{and_then_assoc}
use Rattle.js_flow.specs.Frames.{next_plan, rest}
use Rattle.js_flow.specs.Left.{all_frames}
use Rattle.js_direct.specs.Comes.{outward}
use Rattle.js_direct.proofs.Parts.{left_all, left_fine, left_free_all}
use Rattle.js_direct.proofs.going.put_waits.Goals as goal

pub returns-clause-plan : goal.returns-clause-plan
returns-clause-plan c = λ fs w cells s.
    left_all fs w cells c.leave.new.self c.put_frames.new.flow c.args.next s c.leave.ensures
    ∙ sym (and_then_assoc (next_plan fs w cells c.args.next s) (outward fs w cells c.args.waits.items) (rest fs w cells (all_frames c.args.flow.now))
    ∙ (λ i. and_then (next_plan fs w cells c.args.next s) (λ o t. sym (c.in_ok-put_frames.ensures.plan fs w cells o t) i)))

pub returns-clause-fine : goal.returns-clause-fine
returns-clause-fine c = λ fs w cells n h k. left_fine fs w cells c.leave.new.self c.put_frames.new.flow c.args.next c.leave.ensures (c.in_ok-put_frames.ensures.fine fs w cells h k) n

pub returns-clause-free : goal.returns-clause-free
returns-clause-free c = omega (arith, left_free_all c.leave.new.self c.put_frames.new.flow c.args.next c.leave.ensures, c.in_ok-put_frames.ensures.free)

pub returns-clause-next : goal.returns-clause-next
returns-clause-next c = ap (λ l. l.next) c.leave.ensures
