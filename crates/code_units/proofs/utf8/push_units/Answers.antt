use Rattle.code_units.proofs.AsciiRuns.{units_done}
use Rattle.code_units.proofs.utf8.push_units.Goals as goal

pub returns : goal.returns
returns c = units_done c.loop-at.units.items _ c.args.text.now c.loop-at.at c.loop-at-test.false c.loop-at.invariant.whole
