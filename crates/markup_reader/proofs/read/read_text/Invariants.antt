use Rattle.std.proofs.Common.{length}
use Rattle.markup_steps.specs.States.{state_of}
use Rattle.markup_reader.proofs.Reading.{Left}
use Rattle.markup_reader.proofs.read.read_text.Given as goal

abbrev pub invariant-reading : goal.invariant-reading
invariant-reading l = Left l.text l.left.rest.now (state_of l.reader) l.at

abbrev pub decreases-reading : goal.decreases-reading
decreases-reading l = length l.left.rest.now
