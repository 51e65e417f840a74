use Rattle.query_walks.proofs.Between.{not_yet, found_here, nowhere}
use Rattle.query_walks.proofs.nodes.word_end.Goals as goal

pub units-preserved : goal.units-preserved
units-preserved c = not_yet _ _ c.units-test.true c.if-unit-eq-SPACE.false c.units.invariant

pub returns-then-unit-eq-SPACE-clause-end : goal.returns-then-unit-eq-SPACE-clause-end
returns-then-unit-eq-SPACE-clause-end c = found_here _ _ c.units-test.true c.if-unit-eq-SPACE.true c.units.invariant

pub returns-clause-end : goal.returns-clause-end
returns-clause-end c = nowhere _ _ c.units-test.false c.units.auto.i-end c.units.invariant
