use Rattle.std.proofs.Common.{sym, arith}
use Rattle.query_text.proofs.Reading.{attribute_bad, attribute_open, has_is, equals_is}
use Rattle.query_text.proofs.read.attribute_at.Goals as goal

pub returns-then-stands : goal.returns-then-stands
returns-then-stands c = has_is _ _ _ _ c.in_ok-word.ensures (sym c.if-stands.ensures)

pub returns-then-not-stands : goal.returns-then-not-stands
returns-then-not-stands c = λ qs h fs. attribute_bad _ _ qs h fs _ _ c.in_ok-word.ensures (sym c.if-stands.ensures) (sym c.if-not-stands.ensures)

pub returns-then-close-units : goal.returns-then-close-units
returns-then-close-units c = λ qs h fs. attribute_open _ _ qs h fs _ _ _ c.in_ok-word.ensures (sym c.if-not-stands.ensures) c.run_end-close.ensures c.if-close-units.true

pub returns : goal.returns
returns c = equals_is _ _ _ _ _ _ c.in_ok-word.ensures (sym c.if-not-stands.ensures) c.run_end-close.ensures (omega (arith, c.run_end-close.ensures.inside)) c.part_of-value.ensures
