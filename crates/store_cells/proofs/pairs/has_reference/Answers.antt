use Rattle.std.proofs.Common.{◌∙◌, arith, below_more, sym}
use Rattle.store_cells.specs.Holes.{is_reference_below}
use Rattle.store_cells.proofs.Live.{any_none, any_there}
use Rattle.store_cells.proofs.pairs.has_reference.Goals as goal

pub returns-then-is_reference_at : goal.returns-then-is_reference_at
returns-then-is_reference_at c = any_there (is_reference_below c.args.names.now c.args.n) c.args.table.now.entries c.loop-place.place (sym c.is_reference_at.ensures ∙ c.if-is_reference_at.true)

pub returns : goal.returns
returns c = any_none (is_reference_below c.args.names.now c.args.n) c.args.table.now.entries (λ k lt. c.loop-place.invariant k (omega (arith, lt, c.len-place-end.ensures.len, c.loop-place-test.false, c.loop-place.auto.place-end)))

pub loop-place-preserved : goal.loop-place-preserved
loop-place-preserved c = below_more _ _ c.loop-place.invariant (sym c.is_reference_at.ensures ∙ c.if-is_reference_at.false)
