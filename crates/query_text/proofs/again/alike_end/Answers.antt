use Rattle.std.proofs.Common.{arith, refl}
use Rattle.query_text.proofs.Repeats.{alike_begins, alike_further, alike_done}
use Rattle.query_text.proofs.again.alike_end.Goals as goal

pub alike-init : goal.alike-init
alike-init c = alike_begins _ _ _ c.requires.inside

pub alike-preserved : goal.alike-preserved
alike-preserved c = alike_further _ _ _ _ _ (omega (arith, c.requires.order)) c.requires.inside c.alike.invariant (c.stands_again.ensures c.alike-test.true) refl

pub alike-smaller : goal.alike-smaller
alike-smaller c = let again = c.stands_again.ensures c.alike-test.true in let inside = again.inside in omega (arith, inside, c.requires.order)

pub returns : goal.returns
returns c = alike_done _ _ _ _ c.alike.invariant
