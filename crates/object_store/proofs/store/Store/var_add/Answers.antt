use Rattle.std.proofs.Common.{◌≡◌, ℤ, rules, subst}
use mir.Val.{of_z, to_z}
use mir.Syntax.{w64}
use Rattle.std.specs.Prelude.{IfSome}
use Rattle.object_store.specs.Calls.{IsAdded}
use Rattle.object_store.proofs.Adding.{add_grows, add_others, add_own}
use Rattle.object_store.proofs.store.Store.var_add.Goals as goal

pub returns-clause-own : goal.returns-clause-own
returns-clause-own c =
    let same : to_z w64 (of_z w64 c.args.by) ≡ c.args.by = search rules in
    let some = subst (λ (y : ℤ). IfSome c.add_in.result (λ z. IsAdded c.args.self.now c.add_in.new.self c.args.scope c.args.name.now y z)) same c.add_in.ensures.some in
    add_own c.args.self.now c.links_are_older.ensures c.bunches_have_nodes.ensures c.args.scope c.args.name.now c.args.by c.add_in.new.self c.add_in.result c.requires.scope some

pub returns-clause-others : goal.returns-clause-others
returns-clause-others c =
    let same : to_z w64 (of_z w64 c.args.by) ≡ c.args.by = search rules in
    let some = subst (λ (y : ℤ). IfSome c.add_in.result (λ z. IsAdded c.args.self.now c.add_in.new.self c.args.scope c.args.name.now y z)) same c.add_in.ensures.some in
    add_others c.args.self.now c.links_are_older.ensures c.bunches_have_nodes.ensures c.args.scope c.args.name.now c.args.by c.add_in.new.self c.add_in.result c.requires.scope some c.add_in.ensures.none

pub returns-clause-grows : goal.returns-clause-grows
returns-clause-grows c =
    let same : to_z w64 (of_z w64 c.args.by) ≡ c.args.by = search rules in
    let some = subst (λ (y : ℤ). IfSome c.add_in.result (λ z. IsAdded c.args.self.now c.add_in.new.self c.args.scope c.args.name.now y z)) same c.add_in.ensures.some in
    add_grows c.args.self.now c.links_are_older.ensures c.bunches_have_nodes.ensures c.args.scope c.args.name.now c.args.by c.add_in.new.self c.add_in.result some c.add_in.ensures.none
