use Rattle.trace_text.specs.Report.{next_quoted}
use Rattle.trace_text.proofs.Parts.{part_item, more_item, all_so_far, whole_part}
use Rattle.trace_text.proofs.pieces.push_rest.Goals as goal

pub returns-in_err-push_next-clause-part : goal.returns-in_err-push_next-clause-part
returns-in_err-push_next-clause-part c =
    part_item next_quoted c.args.texts.now c.texts.text-index c.text-item.result c.args.out.now.items c.texts.out.items c.push_next.new.out.items c.texts-test.true c.text-item.is c.texts.invariant c.push_next.ensures.part

pub texts-preserved : goal.texts-preserved
texts-preserved c =
    more_item next_quoted c.args.texts.now c.texts.text-index c.text-item.result c.args.out.now.items c.texts.out.items c.push_next.new.out.items c.texts-test.true c.text-item.is c.texts.invariant c.in_ok-push_next.ensures.ok

pub returns-clause-ok : goal.returns-clause-ok
returns-clause-ok c = all_so_far next_quoted c.args.texts.now c.texts.text-index c.args.out.now.items c.texts.out.items c.texts-test.false c.texts.invariant

pub returns-clause-part : goal.returns-clause-part
returns-clause-part c = whole_part _ _ _ (all_so_far next_quoted c.args.texts.now c.texts.text-index c.args.out.now.items c.texts.out.items c.texts-test.false c.texts.invariant)
