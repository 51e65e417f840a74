use Rattle.std.proofs.Common.{ap, sym, inl, inr}
use Rattle.std.specs.Char.{is_digit}
use Rattle.code_units.proofs.whole.digits_of.Goals as goal

pub returns-then-radix-eq10 : goal.returns-then-radix-eq10
returns-then-radix-eq10 c u = ap (is_digit u) (sym c.if-radix-eq10.true)

pub returns-else-radix-eq10 : goal.returns-else-radix-eq10
returns-else-radix-eq10 c u = elim c.requires [ inl ten ↦ absurd (c.if-radix-eq10.false ten) | inr sixteen ↦ ap (is_digit u) (sym sixteen) ]
