use Rattle.std.proofs.Common.{◌≡◌, ◌++◌, ◌∷◌, [], List, ap, arith, length, sym, subst, ◌∙◌}
use Rattle.std.specs.Prelude.{OnOk}
use Rattle.plain_tree.specs.Plains.{unplaced_all}
use Rattle.page_build.specs.Layout.{IsLaidOut, Lot, each_tree}
use Rattle.page_plan.specs.Pages.{PagePiece, Place, piece_of}
use Rattle.page_load.specs.Laying.{LaysOut}
use Rattle.page_load.proofs.Lots.{markup_ok, markup_lays_ok}
use Rattle.page_load.proofs.laying.lay_piece.Goals as goal

pub returns-in-Html-clause-laid : goal.returns-in-Html-clause-laid
returns-in-Html-clause-laid c =
    let e = c.lay_markup.ensures in
    markup_ok c.args.slots.now c.args.base.now.roots.items c.args.base.now.store c.lay_markup.new.store c.args.base.now.page c.lay_markup.new.page c.lay_markup.result c.requires.few e.away e.home e.raws e.kept e.standing e.same e.confined c.requires.laid

pub returns-in-Html-clause-lays : goal.returns-in-Html-clause-lays
returns-in-Html-clause-lays c =
    let p = c.args.base.now.page in
    let q = c.lay_markup.new.page in
    markup_lays_ok p q c.args.base.now.roots.items c.lay_markup.result c.in-Html.content c.args.piece.now c.in-Html.is
    (subst (λ (ps : List _). OnOk c.lay_markup.result ((lots : List Lot) → IsLaidOut p lots → IsLaidOut q (lots ++ each_tree (unplaced_all ps)))) c.deref.ensures.value c.lay_markup.ensures.lots)

pub lay_slot-requires-clause-there : goal.lay_slot-requires-clause-there
lay_slot-requires-clause-there c = omega (arith, c.is_next.ensures.there c.if-not-is_next.false, c.len.ensures)

pub returns-else-not-is_next-clause-lays : goal.returns-else-not-is_next-clause-lays
returns-else-not-is_next-clause-lays c =
    let next : c.in-Slot.number ≡ length c.args.base.now.roots.items = omega (arith, c.is_next.ensures.next c.if-not-is_next.false, c.len.ensures) in
    subst (λ p. OnOk c.lay_slot.result ((pieces : List PagePiece) → LaysOut c.args.base.now.page c.args.base.now.roots.items pieces → LaysOut c.lay_slot.new.base.page c.lay_slot.new.base.roots.items (pieces ++ p ∷ [])))
    (ap Place (sym next) ∙ sym (ap piece_of c.in-Slot.is))
    c.lay_slot.ensures.lays
