use Rattle.markup_grammar.proofs.Answers as laws
use Rattle.markup_grammar.proofs.one_answer.Goals as goal

pub returns : goal.returns
returns c = record { one_reading = laws.one_reading; one_place = laws.one_place; one_kind = laws.one_kind }
