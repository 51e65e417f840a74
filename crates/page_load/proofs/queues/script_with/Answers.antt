use Rattle.std.proofs.Common.{subst}
use Rattle.js_tree.specs.Trees.{program_of, trees}
use Rattle.widget_meaning.specs.Alone.{call_parts}
use Rattle.page_load.specs.Opening.{IsHanded}
use Rattle.page_load.proofs.Growing.{no_program, none_handed, one_handed}
use Rattle.page_load.proofs.queues.script_with.Goals as goal

pub returns-then-at-codes : goal.returns-then-at-codes
returns-then-at-codes c = no_program c.args.codes.now c.args.n c.if-at-codes.true

pub returns-in-Some : goal.returns-in-Some
returns-in-Some c =
    let t = c.tree.result.now in
    one_handed c.args.codes.now c.args.n c.index-codes-at.result t c.if-at-codes.false c.index-codes-at.is c.tree.ensures c.in-Some.handed.name c.in-Some.handed.fun
    (subst (IsHanded (trees t) (call_parts (program_of t))) c.in-Some.is c.in_ok-handed.ensures)

pub returns-in-None : goal.returns-in-None
returns-in-None c =
    let t = c.tree.result.now in
    none_handed c.args.codes.now c.args.n c.index-codes-at.result t c.if-at-codes.false c.index-codes-at.is c.tree.ensures
    (subst (IsHanded (trees t) (call_parts (program_of t))) c.in-None.is c.in_ok-handed.ensures)
