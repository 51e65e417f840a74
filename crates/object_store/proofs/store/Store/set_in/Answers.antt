use Rattle.std.proofs.Common.{sym, ap, ◌∙◌, is_some}
use Rattle.std.specs.Option.{option_map}
use Rattle.store_table.specs.declared.table.Spot.{Spot}
use Rattle.object_store.proofs.Removes.{shape_same, var_found_none, var_done_none, unknown, unheld, held_is, from_scope, var_written, closed_variable}
use Rattle.object_store.proofs.store.Store.set_in.Goals as goal

pub returns-in_default-clause-found : goal.returns-in_default-clause-found
returns-in_default-clause-found c = let s = c.self in var_found_none c.args.self.now s.inside.names s.inside.cells.items s.inside.kept.items s.view_is s.invariant c.args.name.now c.args.scope (unknown c.args.self.now s.inside.names s.inside.cells.items s.inside.kept.items s.view_is s.invariant c.args.name.now c.args.scope c.in_default.ensures.found)

pub returns-in_default-clause-done : goal.returns-in_default-clause-done
returns-in_default-clause-done c = let s = c.self in var_done_none c.args.self.now s.inside.names s.inside.cells.items s.inside.kept.items s.view_is s.invariant c.args.name.now c.args.scope c.args.value (unknown c.args.self.now s.inside.names s.inside.cells.items s.inside.kept.items s.view_is s.invariant c.args.name.now c.args.scope c.in_default.ensures.found)

pub returns-in_default-holder-clause-found : goal.returns-in_default-holder-clause-found
returns-in_default-holder-clause-found c =
    let s = c.self in
    var_found_none c.args.self.now s.inside.names s.inside.cells.items s.inside.kept.items s.view_is s.invariant c.args.name.now c.args.scope (unheld c.args.self.now s.inside.names s.inside.cells.items s.inside.kept.items s.view_is s.invariant c.args.name.now c.args.scope c.in-Some.n c.in-Some.ensures.found.0 (sym c.holder.ensures.first ∙ ap (option_map (λ (s : Spot). s.cell)) c.in_default-holder.is))

pub returns-in_default-holder-clause-done : goal.returns-in_default-holder-clause-done
returns-in_default-holder-clause-done c =
    let s = c.self in
    var_done_none c.args.self.now s.inside.names s.inside.cells.items s.inside.kept.items s.view_is s.invariant c.args.name.now c.args.scope c.args.value (unheld c.args.self.now s.inside.names s.inside.cells.items s.inside.kept.items s.view_is s.invariant c.args.name.now c.args.scope c.in-Some.n c.in-Some.ensures.found.0 (sym c.holder.ensures.first ∙ ap (option_map (λ (s : Spot). s.cell)) c.in_default-holder.is))

pub set_variable-requires-clause-variable : goal.set_variable-requires-clause-variable
set_variable-requires-clause-variable c =
    let s = c.self in
    record {
      from = c.args.scope;
      scope = from_scope c.args.self.now s.inside.names s.inside.cells.items s.inside.kept.items s.view_is s.invariant c.args.name.now c.args.scope c.requires.scope;
      found = sym c.holder.ensures.first ∙ ap (option_map (λ (s : Spot). s.cell)) c.in-Some-holder.is;
    }

pub invariant_of-self : goal.invariant_of-self
invariant_of-self c =
    let s = c.self in
    let held = sym c.holder.ensures.first ∙ ap (option_map (λ (s : Spot). s.cell)) c.in-Some-holder.is in
    shape_same s.inside.names s.inside.cells.items c.set_variable.new.cells.items s.inside.raws.entries s.inside.kept.items s.invariant c.set_variable.ensures.base (closed_variable c.args.self.now s.inside.names s.inside.cells.items s.inside.kept.items s.view_is s.invariant c.args.name.now c.args.scope c.in-Some.n c.in-Some-holder.spot.cell _ c.set_variable.new.cells.items (from_scope c.args.self.now s.inside.names s.inside.cells.items s.inside.kept.items s.view_is s.invariant c.args.name.now c.args.scope c.requires.scope) held c.set_variable.ensures) c.set_variable.ensures.heads

pub returns-clause-found : goal.returns-clause-found
returns-clause-found c =
    let s = c.self in
    ap is_some (sym (ap (option_map (λ (s : Spot). s.cell)) c.in-Some-holder.is) ∙ c.holder.ensures.first ∙ held_is c.args.self.now s.inside.names s.inside.cells.items s.inside.kept.items s.view_is s.invariant c.args.name.now c.args.scope c.in-Some.n c.in-Some.ensures.found.0)

pub returns-clause-done : goal.returns-clause-done
returns-clause-done c =
    let s = c.self in
    var_written c.args.self.now s.inside.names s.inside.cells.items s.inside.kept.items s.view_is s.invariant c.args.name.now c.args.scope c.args.value c.in-Some.n c.in-Some-holder.spot.cell c.set_variable.new.cells.items c.in-Some.ensures.found.0 (sym c.holder.ensures.first ∙ ap (option_map (λ (s : Spot). s.cell)) c.in-Some-holder.is) c.set_variable.ensures
