use Rattle.std.proofs.Common.{sym, ap, not, ◌∙◌, inl, inr}
use Rattle.page_nodes.proofs.Lists.{place_found, no_number, place_end}
use Rattle.page_nodes.proofs.links.place_of.Goals as goal

pub returns-else-not-is_number-clause-place : goal.returns-else-not-is_number-clause-place
returns-else-not-is_number-clause-place c = place_found _ _ _ c.each.invariant.bound c.each.invariant.no (inr (sym c.is_number.ensures ∙ c.if-not-is_number.false))

pub returns-after-each-clause-place : goal.returns-after-each-clause-place
returns-after-each-clause-place c = place_found _ _ _ c.each.invariant.bound c.each.invariant.no (inl c.each-test.false)

pub returns-then-is_none-clause-place : goal.returns-then-is_none-clause-place
returns-then-is_none-clause-place c = place_end c.args.list.now c.args.number (c.is_none.ensures ∙ ap not c.if-is_none.true)

pub returns-then-is_none-clause-first : goal.returns-then-is_none-clause-first
returns-then-is_none-clause-first c = λ j lt. no_number c.args.number (c.is_none.ensures ∙ ap not c.if-is_none.true) _
