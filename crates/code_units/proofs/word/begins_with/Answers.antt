use Rattle.std.proofs.Common.{◌∙◌, sym, arith, length}
use Rattle.std.proofs.lemmas.Bool.{lt-leb}
use Rattle.code_units.proofs.Words.{begins_within, begins_past}
use Rattle.code_units.proofs.word.begins_with.Goals as goal

pub returns-then-front-word : goal.returns-then-front-word
returns-then-front-word c = c.spells.ensures ∙ begins_within c.args.word.now c.args.front.now (omega (arith, c.if-front-word.true))

pub returns-else-front-word : goal.returns-else-front-word
returns-else-front-word c =
    let past = c.if-front-word.false in
    lt-leb (length c.args.front.now) (length c.args.word.now) past ∙ sym (begins_past c.args.word.now c.args.front.now past)
