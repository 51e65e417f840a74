use Rattle.std.proofs.Common.{◌∙◌}
use Rattle.page_live.proofs.Entering.{flagged_all, flagged_by}
use Rattle.page_live.proofs.entries.flagged.Goals as goal

pub entries-preserved : goal.entries-preserved
entries-preserved c =
    flagged_by c.args.entries.now c.args.flags.now c.entries.i c.index-entries-i.result _ _ _ c.requires c.entries-test.true c.index-entries-i.is c.entries.invariant c.in_ok-push_flagged.ensures

pub returns : goal.returns
returns c = c.entries.invariant ∙ flagged_all c.args.entries.now c.args.flags.now c.entries.i c.requires c.entries-test.false
