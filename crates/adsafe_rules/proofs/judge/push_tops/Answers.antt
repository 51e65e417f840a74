use Rattle.std.proofs.Common.{◌<◌, ◌++◌, length, arith, sym, ap, ◌∙◌}
use Rattle.std.specs.Prelude.{map}
use Rattle.js_tree.specs.Trees.{trees}
use Rattle.js_tree.specs.Forest.{IsStmt}
use Rattle.node_rules.specs.Hoisting.{stmt_spot}
use Rattle.adsafe_rules.specs.Program.{tops}
use Rattle.node_rules.specs.Work.{at_depth, stmt_ids}
use Rattle.adsafe_rules.proofs.Starting.{none_of, cut_is, all_rest, pushes_none, pushes_stmts, tops_open, tops_all}
use Rattle.adsafe_rules.proofs.judge.push_tops.Goals as goal

pub returns-then-list-eq0 : goal.returns-then-list-eq0
returns-then-list-eq0 c =
    let f = trees c.args.tree.now in
    pushes_none f 0 _ c.args.work.now.items (ap (λ l. tops c.args.scope.now (map (stmt_spot f) l)) (none_of c.args.list.now c.if-list-eq0.true))

pub returns-in_ok-push_stmts : goal.returns-in_ok-push_stmts
returns-in_ok-push_stmts c =
    let f = trees c.args.tree.now in
    let ids = c.args.list.now in
    let lt : 0 < length ids = omega (arith, c.if-list-eq0.false) in
    tops_open f c.args.scope.now ids _ lt _ _ _ (sym c.is_opening.ensures ∙ c.if-is_opening.true) c.in_ok-push_opening.ensures
    (pushes_stmts f _ _ _ (all_rest (IsStmt f) ids c.requires)
    (c.in_ok-push_stmts.ensures ∙ ap (λ l. c.push_opening.new.work.items ++ map (at_depth 0) (stmt_ids l)) (cut_is ids)))

pub returns-in_ok-push_stmts-2 : goal.returns-in_ok-push_stmts-2
returns-in_ok-push_stmts-2 c =
    let f = trees c.args.tree.now in
    let ids = c.args.list.now in
    let lt : 0 < length ids = omega (arith, c.if-list-eq0.false) in
    tops_all f c.args.scope.now ids _ lt c.args.work.now.items c.push_stmts-else-is_opening.new.work.items c.args.work.now.items (sym c.is_opening.ensures ∙ c.if-is_opening.false) (pushes_stmts f ids _ _ c.requires c.in_ok-push_stmts-2.ensures)
