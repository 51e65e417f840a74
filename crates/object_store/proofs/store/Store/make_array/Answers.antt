use Rattle.std.proofs.Common.{ap, arith, length, refl, subst, sym, ◌<◌, ◌∙◌, if◌then◌else◌}
use Rattle.store_cells.specs.declared.cell.Head.{Head}
use Rattle.store_cells.specs.declared.kind.Form.TheVariants as form
use Rattle.store_cells.specs.Lists.{changed}
use Rattle.store_cells.specs.Numbered.{heads}
use Rattle.store_cells.specs.Shape.{Grew, IsOrdered}
use Rattle.store_cells.specs.Costs.{paid}
use Rattle.store_cells.specs.Bunches.{array_pairs}
use Rattle.store_cells.specs.Born.{filled_cell}
use Rattle.store_cells.proofs.Makes.{own_visible}
use Rattle.object_store.proofs.Fills.{array_few, array_ordered, array_up, elements_in_store, grew_adds, grew_shape}
use Rattle.object_store.proofs.store.Store.make_array.Goals as goal

pub head_on-head-requires-clause-at : goal.head_on-head-requires-clause-at
head_on-head-requires-clause-at c =
    let s = c.self in
    let up : 3 < length s.inside.cells.items = array_up s.inside.names s.inside.cells.items s.inside.kept.items s.invariant in
    omega (arith, up)

pub head_on-head-requires-clause-few : goal.head_on-head-requires-clause-few
head_on-head-requires-clause-few c =
    let s = c.self in
    array_few s.inside.names s.inside.cells.items s.inside.kept.items s.invariant

pub add_array-requires-clause-ordered : goal.add_array-requires-clause-ordered
add_array-requires-clause-ordered c =
    let s = c.self in
    let cs = s.inside.cells.items in
    subst (λ (h : Head). IsOrdered (heads cs) (length cs) h) (sym c.head_on-head.ensures) (array_ordered s.inside.names cs s.inside.kept.items s.invariant c.args.w c.counts_of-number.result.cells c.requires.widget c.counts_of-number.ensures.cells)

pub add_array-requires-clause-refs : goal.add_array-requires-clause-refs
add_array-requires-clause-refs c = let s = c.self in elements_in_store c.args.self.now s.inside.names s.inside.cells.items s.inside.kept.items s.view_is s.invariant c.args.values.now c.requires.refs

pub returns-clause-ok : goal.returns-clause-ok
returns-clause-ok c =
    let s = c.self in
    let grew = subst (λ (h : Head). Grew s.inside.names s.inside.cells.items c.add_array.new.names c.add_array.new.cells.items (filled_cell h (array_pairs c.args.values.now)) h) c.head_on-head.ensures c.in_ok-id.ensures.ok.1 in
    grew_adds c.args.self.now s.inside.names s.inside.cells.items s.inside.kept.items s.view_is s.invariant c.add_array.new.names c.add_array.new.cells.items c.pay.new.kept.items c.args.w 1 (length c.args.values.now) _ _ grew (c.pay.ensures.done ∙ ap (λ n. changed s.inside.kept.items c.args.w (paid 1 n 0)) c.in_ok-slots.ensures.count) c.in_ok-id.id c.in_ok-id.ensures.ok.0 c.in_ok-slots.ensures.ok

pub invariant_of-self-2 : goal.invariant_of-self-2
invariant_of-self-2 c =
    let s = c.self in
    let grew = subst (λ (h : Head). Grew s.inside.names s.inside.cells.items c.add_array.new.names c.add_array.new.cells.items (filled_cell h (array_pairs c.args.values.now)) h) c.head_on-head.ensures c.in_ok-id.ensures.ok.1 in
    grew_shape c.args.self.now s.inside.names s.inside.cells.items s.inside.kept.items s.view_is s.invariant c.add_array.new.names c.add_array.new.cells.items c.pay.new.kept.items c.args.w 1 c.in_ok-slots.slots _ _ grew c.pay.ensures.done c.requires.widget refl refl (λ v. ap (λ b. if b then 1 else 0) (own_visible c.args.w v form.Array refl)) c.pay.ensures.within
