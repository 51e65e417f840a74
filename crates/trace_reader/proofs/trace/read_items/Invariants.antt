use Rattle.trace_reader.proofs.TraceLemmas.{SoFar}
use Rattle.trace_reader.proofs.trace.read_items.Given as goal

abbrev pub invariant-entries : goal.invariant-entries
invariant-entries l = SoFar l.version l.names l.entries l.entry-index l.items.items l.swaps
