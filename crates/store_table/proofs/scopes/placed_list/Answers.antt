use Rattle.std.proofs.Common.{◌≡◌, ◌<◌, ◌∙◌, ◌++◌, ◌∷◌, [], ap, get_or, length, refl, subst}
use Rattle.store_cells.specs.Numbered.{named}
use Rattle.store_cells.proofs.Elements.{grown_then}
use Rattle.store_table.proofs.Scoped.{known_one, named_one, placed_more}
use Rattle.store_table.proofs.scopes.placed_list.Goals as goal

pub loop-name-preserved : goal.loop-name-preserved
loop-name-preserved c =
    let names = c.args.names.now.items in
    let i = c.loop-name.name-index in
    let x = c.name-item.result in
    let lt = subst (λ l. i < length l) c.deref-name-items.ensures.value c.loop-name-test.true in
    let is = subst (λ l. x ≡ get_or l i x) c.deref-name-items.ensures.value c.name-item.is in
    let h = c.loop-name.invariant in
    let old = c.loop-name.table in
    let new = c.number_of.new.names in
    let n = c.in_ok-n.n in
    let v = c.in_ok-first_value.field-0 in
    let es = c.loop-name.list.items in
    let after = c.push_reserved.new.self.items in
    let push = c.push_reserved.ensures.items ∙ ap (λ l. l ++ (n, v) ∷ []) c.reserve.ensures.items in
    let more = named_one old new x.text n c.in_ok-n.ensures.new es after v h.2 push in (
      c.number_of.ensures.table,
      grown_then c.args.table.now old new h.1 c.number_of.ensures.grown,
      known_one old new x.text n c.in_ok-n.ensures.new es after v h.2 push,
      placed_more names c.args.args.now i x (named old es) (named new after) x.text v lt is more refl c.in_ok-first_value.ensures h.3,
    )
