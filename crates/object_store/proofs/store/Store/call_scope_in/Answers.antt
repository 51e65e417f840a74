use Rattle.std.proofs.Common.{ap, length, refl, subst, sym, ◌+◌, ◌∙◌}
use Rattle.store_cells.specs.declared.cell.Head.{Head}
use Rattle.store_cells.specs.Cells.{is_array}
use Rattle.store_cells.specs.Lists.{changed}
use Rattle.store_cells.specs.Numbered.{heads}
use Rattle.store_cells.specs.Shape.{Grew, IsOrdered}
use Rattle.store_cells.specs.Costs.{cost_refusal, paid}
use Rattle.store_cells.specs.First.{first_values}
use Rattle.store_cells.specs.Born.{filled_cell}
use Rattle.store_cells.proofs.Filled.{scope_ordered}
use Rattle.store_cells.proofs.Makes.{own_scope, scopes_in_store}
use Rattle.std.proofs.lemmas.List.{length-map}
use Rattle.object_store.proofs.Fills.{grew_adds, grew_shape, refs_in_store}
use Rattle.object_store.proofs.store.Store.call_scope_in.Goals as goal

pub add_scope-requires-clause-ordered : goal.add_scope-requires-clause-ordered
add_scope-requires-clause-ordered c =
    let s = c.self in
    let cs = s.inside.cells.items in
    subst (λ (h : Head). IsOrdered (heads cs) (length cs) h) (sym c.scope_head-head.ensures) (scope_ordered (heads cs) (length cs) c.args.w c.args.outer (sym (length-map cs (λ d. d.head))) (scopes_in_store c.args.self.now s.inside.names s.inside.cells.items s.inside.kept.items s.view_is s.invariant c.args.outer c.requires.outer))

pub add_scope-requires-clause-other : goal.add_scope-requires-clause-other
add_scope-requires-clause-other c = ap (λ (h : Head). is_array h.form) c.scope_head-head.ensures

pub add_scope-requires-clause-refs : goal.add_scope-requires-clause-refs
add_scope-requires-clause-refs c = let s = c.self in refs_in_store c.args.self.now s.inside.names s.inside.cells.items s.inside.kept.items s.view_is s.invariant (first_values c.args.first.now) c.requires.pairs.refs

pub add_scope-requires-clause-distinct : goal.add_scope-requires-clause-distinct
add_scope-requires-clause-distinct c = c.requires.pairs.distinct

pub returns-clause-ok : goal.returns-clause-ok
returns-clause-ok c =
    let s = c.self in
    let grew = subst (λ (h : Head). Grew s.inside.names s.inside.cells.items c.add_scope.new.names c.add_scope.new.cells.items (filled_cell h (first_values c.args.first.now)) h) c.scope_head-head.ensures c.in_ok-id.ensures.ok.1 in
    grew_adds c.args.self.now s.inside.names s.inside.cells.items s.inside.kept.items s.view_is s.invariant c.add_scope.new.names c.add_scope.new.cells.items c.pay.new.kept.items c.args.w 0 (length (first_values c.args.first.now) + 1) _ _ grew (c.pay.ensures.done ∙ ap (λ n. changed s.inside.kept.items c.args.w (paid 0 n 0)) (c.in_ok-slots.ensures.count ∙ c.call_slots.ensures)) c.in_ok-id.id c.in_ok-id.ensures.ok.0 (ap (λ n. cost_refusal s.inside.kept.items c.args.w 0 n) (sym c.call_slots.ensures) ∙ c.in_ok-slots.ensures.ok)

pub invariant_of-self-2 : goal.invariant_of-self-2
invariant_of-self-2 c =
    let s = c.self in
    let grew = subst (λ (h : Head). Grew s.inside.names s.inside.cells.items c.add_scope.new.names c.add_scope.new.cells.items (filled_cell h (first_values c.args.first.now)) h) c.scope_head-head.ensures c.in_ok-id.ensures.ok.1 in
    grew_shape c.args.self.now s.inside.names s.inside.cells.items s.inside.kept.items s.view_is s.invariant c.add_scope.new.names c.add_scope.new.cells.items c.pay.new.kept.items c.args.w 0 c.in_ok-slots.slots _ _ grew c.pay.ensures.done c.requires.widget refl refl (own_scope c.args.w) c.pay.ensures.within
