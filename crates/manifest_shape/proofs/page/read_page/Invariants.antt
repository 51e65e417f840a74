use Rattle.manifest_shape.proofs.PageLemmas.{PageSoFar}
use Rattle.manifest_shape.proofs.page.read_page.Given as goal

abbrev pub invariant-entries : goal.invariant-entries
invariant-entries l = PageSoFar l.version l.page l.value-index l.entries.items l.names.items
