use Rattle.std.proofs.lemmas.Result.{err_from_is_err_and}
use Rattle.query_text.specs.declared.QueryFault.TheVariants as fault
use Rattle.query_text.proofs.Reading.{class_is, named_is, kind_is, is_low_line, word_refused, behind_open, behind_colon}
use Rattle.query_text.proofs.read.filter_at.Goals as goal

pub returns-then-unit-eq-OPEN : goal.returns-then-unit-eq-OPEN
returns-then-unit-eq-OPEN c = behind_open _ _ c.requires.inside _ c.if-unit-eq-OPEN.true c.attribute_at.ensures

pub returns-then-unit-eq-COLON : goal.returns-then-unit-eq-COLON
returns-then-unit-eq-COLON c = behind_colon _ _ c.requires.inside _ c.if-unit-eq-COLON.true c.keyword_at.ensures

pub returns-in_err-word : goal.returns-in_err-word
returns-in_err-word c =
    let p = err_from_is_err_and c.from_residual.result c.from_residual.ensures.1 in
    rw (p.1, p.2) (word_refused _ _ c.requires.inside (fault.BadQuery _) c.requires.mark c.if-unit-eq-OPEN.false c.if-unit-eq-COLON.false c.in_err-word.ensures)

pub returns-then-unit-eq-POINT : goal.returns-then-unit-eq-POINT
returns-then-unit-eq-POINT c = class_is _ _ c.requires.inside _ _ c.if-unit-eq-POINT.true c.in_ok-word.ensures

pub returns-then-unit-eq-AMPERSAND : goal.returns-then-unit-eq-AMPERSAND
returns-then-unit-eq-AMPERSAND c = named_is _ _ c.requires.inside _ _ c.if-unit-eq-AMPERSAND.true c.in_ok-word.ensures

pub returns : goal.returns
returns c = kind_is _ _ c.requires.inside _ _ (is_low_line _ _ c.requires.inside c.requires.mark c.if-unit-eq-OPEN.false c.if-unit-eq-COLON.false c.if-unit-eq-POINT.false c.if-unit-eq-AMPERSAND.false) c.in_ok-word.ensures
