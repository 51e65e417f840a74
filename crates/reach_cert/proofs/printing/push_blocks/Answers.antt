use Rattle.std.proofs.Common.{◌++◌, ◌∙◌, ap}
use Rattle.reach_cert.proofs.Parts.{on_err, grown, more_item, all_items}
use Rattle.reach_cert.proofs.CellLines.{block_text, block_texts}
use Rattle.reach_cert.proofs.printing.push_blocks.Goals as goal

pub returns-in_err-push_block-clause-err : goal.returns-in_err-push_block-clause-err
returns-in_err-push_block-clause-err c = on_err c.from_residual.result (grown _ _ _ _ c.each.invariant c.in_err-push_block.ensures.err)

pub each-preserved : goal.each-preserved
each-preserved c = more_item block_text _ _ c.block-item.result _ _ _ c.each-test.true c.block-item.is c.each.invariant c.in_ok-push_block.ensures.ok

pub returns-clause-ok : goal.returns-clause-ok
returns-clause-ok c = all_items block_text _ _ _ _ c.each-test.false c.each.invariant ∙ ap (λ l. c.args.out.now.items ++ l) (block_texts c.args.blocks.now)
