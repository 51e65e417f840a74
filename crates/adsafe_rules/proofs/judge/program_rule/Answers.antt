use Rattle.std.proofs.Common.{◌<◌, length, arith, None, refl, sym, subst}
use Rattle.std.specs.Prelude.{map}
use Rattle.first_breach.specs.Breaches.{Nothing}
use Rattle.first_breach.specs.Narrowing.{Narrows}
use Rattle.first_breach.proofs.Narrowing.{narrows_both}
use Rattle.js_tree.specs.Trees.{trees}
use Rattle.node_rules.specs.Hoisting.{stmt_spot}
use Rattle.adsafe_rules.specs.Openings.{ProgramRows}
use Rattle.adsafe_rules.proofs.Starting.{none_of, first_at, hit_narrows}
use Rattle.adsafe_rules.proofs.judge.program_rule.Goals as goal

pub returns-then-list-eq0 : goal.returns-then-list-eq0
returns-then-list-eq0 c =
    let f = trees c.args.tree.now in
    subst (λ l. Narrows (ProgramRows c.args.scope.now (map (stmt_spot f) l)) None Nothing c.offer.result) (sym (none_of c.args.list.now c.if-list-eq0.true))
    (hit_narrows 2 _ _ _ _ refl c.offer.ensures)

pub returns : goal.returns
returns c =
    let f = trees c.args.tree.now in
    let lt : 0 < length c.args.list.now = omega (arith, c.if-list-eq0.false) in
    subst (λ l. Narrows (ProgramRows c.args.scope.now (map (stmt_spot f) l)) None Nothing c.second_rule.result) (sym (first_at c.args.list.now _ lt))
    (narrows_both c.opening_rule-best.ensures c.second_rule.ensures)
