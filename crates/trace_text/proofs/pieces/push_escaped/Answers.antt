use Rattle.trace_text.specs.Report.{escape}
use Rattle.trace_text.proofs.Parts.{part_so_far, more_so_far, all_so_far, whole_part}
use Rattle.trace_text.proofs.pieces.push_escaped.Goals as goal

pub returns-in_err-push_escape-clause-part : goal.returns-in_err-push_escape-clause-part
returns-in_err-push_escape-clause-part c =
    part_so_far escape c.args.bytes.now c.bytes.byte-index 0 c.args.out.now.items c.bytes.out.items c.push_escape.new.out.items c.bytes-test.true c.bytes.invariant c.push_escape.ensures.part

pub bytes-preserved : goal.bytes-preserved
bytes-preserved c =
    more_so_far escape c.args.bytes.now c.bytes.byte-index 0 c.args.out.now.items c.bytes.out.items c.push_escape.new.out.items c.bytes-test.true c.bytes.invariant c.in_ok-push_escape.ensures.ok

pub returns-clause-ok : goal.returns-clause-ok
returns-clause-ok c = all_so_far escape c.args.bytes.now c.bytes.byte-index c.args.out.now.items c.bytes.out.items c.bytes-test.false c.bytes.invariant

pub returns-clause-part : goal.returns-clause-part
returns-clause-part c = whole_part _ _ _ (all_so_far escape c.args.bytes.now c.bytes.byte-index c.args.out.now.items c.bytes.out.items c.bytes-test.false c.bytes.invariant)
