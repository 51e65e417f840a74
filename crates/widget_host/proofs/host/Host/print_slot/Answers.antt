use Rattle.std.proofs.Common.{◌≡◌, ◌<◌, List, Some, arith, length, subst, sym, ℕ}
use Rattle.std.specs.Prelude.{slice_get}
use Rattle.std.proofs.lemmas.List.{length-map}
use Rattle.std.proofs.lemmas.Result.{on_err_weaker, on_ok_weaker}
use Rattle.page_output.specs.Printing.{Prints, PrintsPart}
use Rattle.slot_picks.specs.declared.slots.Slot.{Slot}
use Rattle.widget_host.specs.Housed.{IsHoused, chains}
use Rattle.widget_host.proofs.Placed.{life_here, node_here, shown_here, some_here}
use Rattle.widget_host.proofs.Printed.{spot_shows}
use Rattle.widget_host.proofs.host.Host.print_slot.Goals as goal

pub index-requires : goal.index-requires
unfolding chains
index-requires c = omega (arith, c.requires.there, length-map c.args.self.now.slots.items (λ (x : Slot). x.lives.items))

pub present-v-requires : goal.present-v-requires
unfolding IsHoused
present-v-requires c =
    subst (λ (vs : List ℕ). 0 < length vs) (sym c.deref.ensures.value) (some_here c.args.self.now c.requires.housed.0 c.args.w c.index.result.now c.requires.there c.index.ensures)

pub index-requires-2 : goal.index-requires-2
unfolding IsHoused
index-requires-2 c =
    let first : slice_get c.index.result.now.lives.items 0 ≡ Some c.present-v.result = subst (λ (vs : List ℕ). slice_get vs 0 ≡ Some c.present-v.result) c.deref.ensures.value c.present-v.ensures in
    let there = life_here c.args.self.now c.requires.housed.0 c.args.w c.index.result.now c.requires.there c.index.ensures c.present-v.result first in
    omega (arith, there, c.args.self.now.lives.places.ok.0)

pub print-requires : goal.print-requires
unfolding IsHoused
print-requires c =
    let first : slice_get c.index.result.now.lives.items 0 ≡ Some c.present-v.result = subst (λ (vs : List ℕ). slice_get vs 0 ≡ Some c.present-v.result) c.deref.ensures.value c.present-v.ensures in
    node_here c.args.self.now c.requires.housed.0 c.args.w c.index.result.now c.requires.there c.index.ensures c.present-v.result first c.index-2.result.now c.index-2.ensures

pub returns-clause-ok : goal.returns-clause-ok
unfolding IsHoused
returns-clause-ok c =
    let first : slice_get c.index.result.now.lives.items 0 ≡ Some c.present-v.result = subst (λ (vs : List ℕ). slice_get vs 0 ≡ Some c.present-v.result) c.deref.ensures.value c.present-v.ensures in
    on_ok_weaker c.print.result (λ printed.
    shown_here c.args.self.now c.requires.housed.0 c.args.w c.index.result.now c.requires.there c.index.ensures c.present-v.result first c.index-2.result.now c.index-2.ensures
    (λ t. Prints t c.args.out.now.items c.print.new.out.items)
    (λ name home end lot is. subst (λ t. Prints t c.args.out.now.items c.print.new.out.items) (spot_shows c.args.self.now.lives.shared.page c.index-2.result.now.root name home end lot is) printed)) c.print.ensures.ok

pub returns-clause-part : goal.returns-clause-part
unfolding IsHoused
returns-clause-part c =
    let first : slice_get c.index.result.now.lives.items 0 ≡ Some c.present-v.result = subst (λ (vs : List ℕ). slice_get vs 0 ≡ Some c.present-v.result) c.deref.ensures.value c.present-v.ensures in
    on_err_weaker c.print.result (λ printed.
    shown_here c.args.self.now c.requires.housed.0 c.args.w c.index.result.now c.requires.there c.index.ensures c.present-v.result first c.index-2.result.now c.index-2.ensures
    (λ t. PrintsPart t c.args.out.now.items c.print.new.out.items)
    (λ name home end lot is. subst (λ t. PrintsPart t c.args.out.now.items c.print.new.out.items) (spot_shows c.args.self.now.lives.shared.page c.index-2.result.now.root name home end lot is) printed)) c.print.ensures.part
