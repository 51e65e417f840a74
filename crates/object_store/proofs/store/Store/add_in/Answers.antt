use Rattle.std.proofs.Common.{◌≡◌, ◌+ℤ◌, Some, ap, rules, sym, ◌∙◌}
use mir.Val.{of_z, to_z}
use mir.Syntax.{w64}
use Rattle.store_cells.specs.declared.value.Value.TheVariants as value
use Rattle.store_cells.specs.declared.value.Number.TheVariants as number
use Rattle.std.specs.Option.{option_map}
use Rattle.store_table.specs.declared.table.Spot.{Spot}
use Rattle.object_store.specs.Calls.{is_number}
use Rattle.object_store.proofs.Adding.{added}
use Rattle.object_store.proofs.Removes.{closed_variable, from_scope, shape_same}
use Rattle.object_store.proofs.store.Store.add_in.Goals as goal

pub set_variable-requires-clause-variable : goal.set_variable-requires-clause-variable
set_variable-requires-clause-variable c =
    let s = c.self in
    record {
      from = c.args.scope;
      scope = from_scope c.args.self.now s.inside.names s.inside.cells.items s.inside.kept.items s.view_is s.invariant c.args.name.now c.args.scope c.requires.scope;
      found = sym c.holder.ensures.first ∙ ap (option_map (λ (s : Spot). s.cell)) c.in_ok-spot.was;
    }

pub invariant_of-self : goal.invariant_of-self
invariant_of-self c =
    let s = c.self in
    let held = sym c.holder.ensures.first ∙ ap (option_map (λ (s : Spot). s.cell)) c.in_ok-spot.was in
    shape_same s.inside.names s.inside.cells.items c.set_variable.new.cells.items s.inside.raws.entries s.inside.kept.items s.invariant c.set_variable.ensures.base (closed_variable c.args.self.now s.inside.names s.inside.cells.items s.inside.kept.items s.view_is s.invariant c.args.name.now c.args.scope c.in_ok-n.n c.in_ok-spot.spot.cell _ c.set_variable.new.cells.items (from_scope c.args.self.now s.inside.names s.inside.cells.items s.inside.kept.items s.view_is s.invariant c.args.name.now c.args.scope c.requires.scope) held c.set_variable.ensures) c.set_variable.ensures.heads

pub returns-clause-some : goal.returns-clause-some
returns-clause-some c =
    let s = c.self in
    let z = to_z w64 (of_z w64 c.in_ok-z.z) in
    let same_z : z ≡ c.in_ok-z.z = search rules in
    let same_by : to_z w64 (of_z w64 c.args.by) ≡ c.args.by = search rules in
    let sum = to_z w64 (of_z w64 c.in_ok-sum.sum) in
    let same_sum : sum ≡ c.in_ok-sum.sum = search rules in
    let held = sym c.holder.ensures.first ∙ ap (option_map (λ (s : Spot). s.cell)) c.in_ok-spot.was in
    let own = sym c.own.ensures ∙ c.in_ok-z.ensures ∙ ap (λ y. Some (value.Num (number.Whole y))) (sym same_z) in
    added c.args.self.now s.inside.names s.inside.cells.items s.inside.kept.items s.view_is s.invariant c.args.name.now c.args.scope c.in_ok-n.n c.in_ok-spot.spot.cell c.in_ok-n.ensures.found.0 held c.cell.result.now z c.args.by sum c.set_variable.new.cells.items c.cell.ensures own
    (same_sum ∙ c.in_ok-sum.ensures.0 ∙ ap (λ y. z +ℤ y) same_by)
    (ap (λ y. is_number (z +ℤ y)) (sym same_by) ∙ c.in_ok-sum.ensures.1)
    c.set_variable.ensures
