use Rattle.markup_rules.proofs.Bodies.{stays_or_ends, stays_text}
use Rattle.markup_rules.proofs.root.is_script.Goals as goal

pub returns-in-Some : goal.returns-in-Some
returns-in-Some c = stays_or_ends c.is_word.result c.in-Some.part _ c.in-Some.ensures c.is_word.ensures

pub returns-in-None : goal.returns-in-None
returns-in-None c = stays_text _ c.in-None.ensures
