use Rattle.std.proofs.Common.{refl, sym, ap, ◌∙◌}
use Rattle.slot_lives.specs.Lines.{state_word}
use Rattle.page_play.proofs.Telling.{life_text, short_text}
use Rattle.page_play.proofs.lines.run_text.Goals as goal

pub returns-clause-whole : goal.returns-clause-whole
returns-clause-whole c = λ own is.
    life_text (record { name = c.args.name; until = c.args.until; state = c.state_of.result; turns = c.args.line.turns; spent = c.args.line.spent; missed = c.args.line.missed; gone = c.args.line.gone; log = c.args.line.log; uncaught = c.args.line.uncaught }) own c.args.name c.args.until
    refl refl (c.state_of.ensures ∙ ap state_word (sym is.stop)) is.turns is.spent is.missed is.gone is.log is.uncaught

pub returns-clause-short : goal.returns-clause-short
returns-clause-short c = λ own is none.
    short_text (record { name = c.args.name; until = c.args.until; state = c.state_of.result; turns = c.args.line.turns; spent = c.args.line.spent; missed = c.args.line.missed; gone = c.args.line.gone; log = c.args.line.log; uncaught = c.args.line.uncaught }) own c.args.name
    refl none (c.state_of.ensures ∙ ap state_word (sym is.stop)) is.turns is.spent is.missed is.gone
