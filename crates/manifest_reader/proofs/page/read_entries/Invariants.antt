use Rattle.manifest_reader.proofs.LoopLemmas.{EntriesSoFar}
use Rattle.manifest_reader.proofs.page.read_entries.Given as goal

abbrev pub invariant-entries : goal.invariant-entries
invariant-entries l = EntriesSoFar l.given l.entries l.entry-index l.read.items l.room
