use Rattle.std.proofs.Common.{◌<◌, ◌+◌, sym, ◌∙◌, ap, arith, subst, length, refl, List, if◌then◌else◌}
use Rattle.store_cells.specs.declared.cell.Head.{Head}
use Rattle.store_cells.specs.Numbered.{NumberedCell, heads, first_numbered, plain, own_head}
use Rattle.store_cells.specs.declared.counts.Counts.{Counts}
use Rattle.store_cells.specs.Cells.{is_bunch, node_in}
use Rattle.store_cells.specs.Shape.{IsOrdered, IsWellFormed, links_at}
use Rattle.store_cells.specs.Born.{new_cell}
use Rattle.store_cells.specs.Costs.{cost_refusal}
use Rattle.store_cells.proofs.Makes.{first_fine, bunch_in_store, links_in_store, scope_in_store, scopes_in_store, length_in_store, new_ordered, first_plain, added_cells, added_heads, added_closed, made_is, kept_in_store, own_visible, visible_no_node}
use Rattle.store_cells.proofs.Adds.{shape_added}
use Rattle.object_store.proofs.store.Store.make_on.Goals as goal

pub head_on-head-requires-clause-few : goal.head_on-head-requires-clause-few
head_on-head-requires-clause-few c =
    let s = c.self in
    let lt : c.args.up < length s.inside.cells.items = omega (arith, c.requires.up, length_in_store c.args.self.now s.inside.names s.inside.cells.items s.inside.kept.items s.view_is s.invariant) in
    omega (arith, c.requires.few, links_in_store c.args.self.now s.inside.names s.inside.cells.items s.inside.kept.items s.view_is s.invariant c.args.up lt)

pub add-requires-clause-ordered : goal.add-requires-clause-ordered
add-requires-clause-ordered c =
    let s = c.self in
    let lt : c.args.up < length s.inside.cells.items = omega (arith, c.requires.up, length_in_store c.args.self.now s.inside.names s.inside.cells.items s.inside.kept.items s.view_is s.invariant) in
    let no_scope = scope_in_store c.args.self.now s.inside.names s.inside.cells.items s.inside.kept.items s.view_is s.invariant c.args.up _ c.requires.object in
    let few : links_at (heads s.inside.cells.items) c.args.up < 100 = omega (arith, c.requires.few, links_in_store c.args.self.now s.inside.names s.inside.cells.items s.inside.kept.items s.view_is s.invariant c.args.up lt) in
    let is = ap (λ (x : NumberedCell). x.head) c.in_ok-cell.ensures ∙ c.head_on-head.ensures in
    subst (λ (h : Head). IsOrdered (heads s.inside.cells.items) (length s.inside.cells.items) h) (sym is) (new_ordered s.inside.names s.inside.cells.items s.inside.kept.items s.invariant c.args.w c.args.up c.counts_of-number.result.cells c.args.form lt no_scope (bunch_in_store c.args.self.now s.inside.names s.inside.cells.items s.inside.kept.items s.view_is s.invariant c.args.up _ c.requires.unbunched) few c.requires.form.visible (scopes_in_store c.args.self.now s.inside.names s.inside.cells.items s.inside.kept.items s.view_is s.invariant _ c.requires.form.scope) c.requires.widget c.counts_of-number.ensures.cells)

pub add-requires-clause-fine : goal.add-requires-clause-fine
add-requires-clause-fine c =
    let s = c.self in subst (λ (x : NumberedCell). IsWellFormed s.inside.names (length s.inside.cells.items + 1) x) (sym c.in_ok-cell.ensures) (first_fine s.inside.names (length s.inside.cells.items + 1) s.invariant.base.table s.invariant.base.words c.head_on-head.result)

pub returns-clause-ok : goal.returns-clause-ok
returns-clause-ok c =
    let s = c.self in
    let added = c.in_ok-id.ensures.ok in
    let is = c.in_ok-cell.ensures ∙ ap first_numbered c.head_on-head.ensures in
    let cells = added_cells c.args.self.now s.inside.names s.inside.cells.items s.inside.kept.items s.view_is s.invariant c.add.new.cells.items c.in_ok-cell.cell (new_cell c.args.w c.args.form c.args.up) added.items (ap (plain s.inside.names) is ∙ first_plain s.inside.names s.invariant.base.table s.invariant.base.words (heads s.inside.cells.items) c.args.w c.counts_of-number.result.cells c.args.up c.args.form) in record {
      paid = ap (λ (ks : List Counts). cost_refusal ks c.args.w 1 0) (kept_in_store c.args.self.now s.inside.names s.inside.cells.items s.inside.kept.items s.view_is s.invariant) ∙ c.in_ok-afford.ensures.ok;
      place = added.place ∙ sym (length_in_store c.args.self.now s.inside.names s.inside.cells.items s.inside.kept.items s.view_is s.invariant);
      done = made_is c.args.self.now s.inside.names s.inside.cells.items s.inside.kept.items s.view_is s.invariant s.inside.names c.add.new.cells.items c.pay.new.kept.items c.args.w 1 0 (new_cell c.args.w c.args.form c.args.up) cells c.pay.ensures.done;
    }

pub invariant_of-self-2 : goal.invariant_of-self-2
invariant_of-self-2 c =
    let s = c.self in
    let added = c.in_ok-id.ensures.ok in
    let is = ap (λ (x : NumberedCell). x.head) c.in_ok-cell.ensures ∙ c.head_on-head.ensures in
    shape_added s.inside.names s.inside.names s.inside.cells.items c.add.new.cells.items s.inside.raws.entries s.inside.kept.items c.pay.new.kept.items c.in_ok-cell.cell.head c.args.w 1 0 s.invariant c.requires.widget added.base
    (added_closed c.args.self.now s.inside.names s.inside.cells.items s.inside.kept.items s.view_is s.invariant c.add.new.cells.items s.inside.names (plain s.inside.names c.in_ok-cell.cell) (ap (λ (h : Head). is_bunch h.form) is ∙ c.requires.form.no_bunch) (added_cells c.args.self.now s.inside.names s.inside.cells.items s.inside.kept.items s.view_is s.invariant c.add.new.cells.items c.in_ok-cell.cell (plain s.inside.names c.in_ok-cell.cell) added.items refl)) (added_heads c.args.self.now s.inside.names s.inside.cells.items s.inside.kept.items s.view_is s.invariant c.add.new.cells.items c.in_ok-cell.cell added.items)
    (ap (λ (h : Head). node_in h.form) is ∙ visible_no_node c.args.form c.requires.form.visible) (λ v. ap (λ b. if b then 1 else 0) (ap (own_head v) is ∙ own_visible c.args.w v c.args.form c.requires.form.visible)) c.pay.ensures.within c.pay.ensures.done
