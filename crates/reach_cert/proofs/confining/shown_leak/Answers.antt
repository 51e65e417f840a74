use Rattle.std.proofs.Common.{refl, sym}
use Rattle.reach_cert.proofs.Leaks.{row_leaks, held_leaks, none_leaks}
use Rattle.reach_cert.proofs.confining.shown_leak.Goals as goal

pub returns-in-Some : goal.returns-in-Some
returns-in-Some c = row_leaks c.args.name.now c.args.cells.now c.args.held.now _ c.args.first refl _ c.in-Some.ensures

pub returns-then-some_leaves : goal.returns-then-some_leaves
returns-then-some_leaves c = held_leaks c.args.name.now c.args.cells.now c.args.held.now _ c.args.first refl c.in_default.ensures (sym c.if-some_leaves.ensures)

pub returns : goal.returns
returns c = none_leaks c.args.name.now c.args.cells.now c.args.held.now _ c.args.first refl c.in_default.ensures (sym c.if-some_leaves.ensures)
