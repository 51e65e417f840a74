use Rattle.std.proofs.Common.{ap, arith, length, refl, subst, sym, ◌<◌, ◌∙◌, if◌then◌else◌}
use Rattle.store_cells.specs.declared.cell.Head.{Head}
use Rattle.store_cells.specs.declared.kind.Form.TheVariants as form
use Rattle.store_cells.specs.Cells.{is_array}
use Rattle.store_cells.specs.Lists.{changed}
use Rattle.store_cells.specs.Numbered.{heads}
use Rattle.store_cells.specs.Shape.{Grew, IsOrdered, links_at}
use Rattle.store_cells.specs.Costs.{paid}
use Rattle.store_cells.specs.Born.{filled_cell}
use Rattle.store_cells.proofs.Makes.{bunch_in_store, length_in_store, links_in_store, new_ordered, own_visible, scope_in_store}
use Rattle.object_store.proofs.Fills.{grew_adds, grew_shape, refs_in_store}
use Rattle.object_store.proofs.store.Store.make_object.Goals as goal

pub head_on-head-requires-clause-at : goal.head_on-head-requires-clause-at
head_on-head-requires-clause-at c =
    let s = c.self in
    omega (arith, c.requires.up.within, length_in_store c.args.self.now s.inside.names s.inside.cells.items s.inside.kept.items s.view_is s.invariant)

pub head_on-head-requires-clause-few : goal.head_on-head-requires-clause-few
head_on-head-requires-clause-few c =
    let s = c.self in
    let lt : c.args.up < length s.inside.cells.items = omega (arith, c.requires.up.within, length_in_store c.args.self.now s.inside.names s.inside.cells.items s.inside.kept.items s.view_is s.invariant) in
    omega (arith, c.requires.up.few, links_in_store c.args.self.now s.inside.names s.inside.cells.items s.inside.kept.items s.view_is s.invariant c.args.up lt)

pub add_filled-requires-clause-ordered : goal.add_filled-requires-clause-ordered
add_filled-requires-clause-ordered c =
    let s = c.self in
    let cs = s.inside.cells.items in
    subst (λ (h : Head). IsOrdered (heads cs) (length cs) h) (sym c.head_on-head.ensures) (let lt : c.args.up < length cs = omega (arith, c.requires.up.within, length_in_store c.args.self.now s.inside.names s.inside.cells.items s.inside.kept.items s.view_is s.invariant) in
    let few : links_at (heads cs) c.args.up < 100 = omega (arith, c.requires.up.few, links_in_store c.args.self.now s.inside.names s.inside.cells.items s.inside.kept.items s.view_is s.invariant c.args.up lt) in
    new_ordered s.inside.names cs s.inside.kept.items s.invariant c.args.w c.args.up c.counts_of-number.result.cells form.Object lt (scope_in_store c.args.self.now s.inside.names s.inside.cells.items s.inside.kept.items s.view_is s.invariant c.args.up _ c.requires.up.object) (bunch_in_store c.args.self.now s.inside.names s.inside.cells.items s.inside.kept.items s.view_is s.invariant c.args.up _ c.requires.up.unbunched) few refl tt c.requires.widget c.counts_of-number.ensures.cells)

pub add_filled-requires-clause-other : goal.add_filled-requires-clause-other
add_filled-requires-clause-other c = ap (λ (h : Head). is_array h.form) c.head_on-head.ensures

pub add_filled-requires-clause-refs : goal.add_filled-requires-clause-refs
add_filled-requires-clause-refs c = let s = c.self in refs_in_store c.args.self.now s.inside.names s.inside.cells.items s.inside.kept.items s.view_is s.invariant c.args.pairs.now c.requires.pairs.refs

pub add_filled-requires-clause-distinct : goal.add_filled-requires-clause-distinct
add_filled-requires-clause-distinct c = c.requires.pairs.distinct

pub returns-clause-ok : goal.returns-clause-ok
returns-clause-ok c =
    let s = c.self in
    let grew = subst (λ (h : Head). Grew s.inside.names s.inside.cells.items c.add_filled.new.names c.add_filled.new.cells.items (filled_cell h c.args.pairs.now) h) c.head_on-head.ensures c.in_ok-id.ensures.ok.1 in
    grew_adds c.args.self.now s.inside.names s.inside.cells.items s.inside.kept.items s.view_is s.invariant c.add_filled.new.names c.add_filled.new.cells.items c.pay.new.kept.items c.args.w 1 (length c.args.pairs.now) _ _ grew (c.pay.ensures.done ∙ ap (λ n. changed s.inside.kept.items c.args.w (paid 1 n 0)) c.in_ok-slots.ensures.count) c.in_ok-id.id c.in_ok-id.ensures.ok.0 c.in_ok-slots.ensures.ok

pub invariant_of-self-2 : goal.invariant_of-self-2
invariant_of-self-2 c =
    let s = c.self in
    let grew = subst (λ (h : Head). Grew s.inside.names s.inside.cells.items c.add_filled.new.names c.add_filled.new.cells.items (filled_cell h c.args.pairs.now) h) c.head_on-head.ensures c.in_ok-id.ensures.ok.1 in
    grew_shape c.args.self.now s.inside.names s.inside.cells.items s.inside.kept.items s.view_is s.invariant c.add_filled.new.names c.add_filled.new.cells.items c.pay.new.kept.items c.args.w 1 c.in_ok-slots.slots _ _ grew c.pay.ensures.done c.requires.widget refl refl (λ v. ap (λ b. if b then 1 else 0) (own_visible c.args.w v form.Object refl)) c.pay.ensures.within
