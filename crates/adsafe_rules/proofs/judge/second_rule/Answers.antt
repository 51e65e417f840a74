use Rattle.std.proofs.Common.{◌<◌, length, arith, sym, subst}
use Rattle.std.specs.Prelude.{map}
use Rattle.first_breach.specs.Breaches.{Nothing}
use Rattle.first_breach.specs.Narrowing.{Narrows}
use Rattle.first_breach.proofs.Narrowing.{narrows_none}
use Rattle.js_tree.specs.Trees.{trees}
use Rattle.node_rules.specs.Hoisting.{stmt_spot}
use Rattle.adsafe_rules.specs.Openings.{SecondRow}
use Rattle.adsafe_rules.proofs.Starting.{no_rest, rest_at, hit_narrows}
use Rattle.adsafe_rules.proofs.judge.second_rule.Goals as goal

pub returns-then-list-lt2 : goal.returns-then-list-lt2
returns-then-list-lt2 c =
    let f = trees c.args.tree.now in
    subst (λ l. Narrows (SecondRow (map (stmt_spot f) l)) c.args.best Nothing c.args.best) (sym (no_rest c.args.list.now c.if-list-lt2.true))
    (narrows_none Nothing c.args.best (λ r p h. h))

pub returns : goal.returns
returns c =
    let f = trees c.args.tree.now in
    let lt : 1 < length c.args.list.now = omega (arith, c.if-list-lt2.false) in
    subst (λ l. Narrows (SecondRow (map (stmt_spot f) l)) c.args.best Nothing c.offer.result) (sym (rest_at c.args.list.now _ lt))
    (hit_narrows 2 _ _ _ _ c.stmt_at.ensures c.offer.ensures)
