use Rattle.std.proofs.Common.{sym, arith}
use Rattle.style_text.proofs.Reading.{whole_end, whole_semicolon, no_semicolon}
use Rattle.style_text.proofs.read.value_at.Goals as goal

pub returns-then-next-units : goal.returns-then-next-units
returns-then-next-units c = whole_end _ _ _ _ c.in-Some.ensures c.blanks_end-next.ensures c.if-next-units.true

pub returns-then-not-stands : goal.returns-then-not-stands
returns-then-not-stands c = no_semicolon _ _ _ _ c.in-Some.ensures c.blanks_end-next.ensures (omega (arith, c.blanks_end-next.ensures.inside)) (sym c.if-not-stands.ensures)

pub returns : goal.returns
returns c = whole_semicolon _ _ _ _ c.in-Some.ensures c.blanks_end-next.ensures _ (omega (arith, c.blanks_end-next.ensures.inside)) (sym c.if-not-stands.ensures) c.blanks_end.ensures
