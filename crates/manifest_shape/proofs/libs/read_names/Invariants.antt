use Rattle.manifest_shape.proofs.LibLemmas.{LibsSoFar}
use Rattle.manifest_shape.proofs.libs.read_names.Given as goal

abbrev pub invariant-texts : goal.invariant-texts
invariant-texts l = LibsSoFar l.texts l.text-index l.libs.items
