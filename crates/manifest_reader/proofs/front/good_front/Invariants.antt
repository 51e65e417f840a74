use Rattle.manifest_reader.proofs.HtmlLemmas.{HtmlSoFar}
use Rattle.manifest_reader.proofs.LoopLemmas.{texts}
use Rattle.manifest_reader.proofs.front.good_front.Given as goal

abbrev pub invariant-page : goal.invariant-page
invariant-page l = HtmlSoFar (texts l.page) l.place l.room
