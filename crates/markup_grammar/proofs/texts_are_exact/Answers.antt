use Rattle.markup_grammar.specs.Judge.{Read, Bad}
use Rattle.markup_grammar.proofs.Places.{spells_judged, text_judged}
use Rattle.markup_grammar.proofs.texts_are_exact.Goals as goal

pub returns : goal.returns
returns c = record { spelled = spells_judged; read = λ bytes ts u e. text_judged bytes u (Read ts) e; bad = λ bytes at u e. text_judged bytes u (Bad at) e }
