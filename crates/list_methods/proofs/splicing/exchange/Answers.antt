use Rattle.std.proofs.Common.{[], ◌+◌, ◌≤◌, ◌∙◌, ap, arith, length, sym}
use Rattle.std.proofs.lemmas.Result.{IfOk-weaker, on_err_weaker}
use Rattle.store_cells.specs.declared.counts.TheConstants.{SLOT_LIMIT}
use Rattle.widget_meaning.specs.OwnState.{cell_at}
use Rattle.widget_meaning.specs.ListChanges.{new_indexes}
use Rattle.js_image.specs.Image.{all_seen, image}
use Rattle.js_image.specs.Plans.{paid_plan}
use Rattle.js_image.proofs.Units.{kept_then}
use Rattle.list_methods.specs.Arrays.{number}
use Rattle.list_methods.specs.Parts.{exchanged, filled_after}
use Rattle.list_methods.proofs.Arrays.{length_seen, number_stays}
use Rattle.list_methods.proofs.Exchanges.{exchange_cells, exchange_rest, exchange_slots}
use Rattle.list_methods.proofs.Fills.{paid_array}
use Rattle.list_methods.proofs.Lists.{all_seen_stay, all_stay}
use Rattle.list_methods.proofs.Meeting.{ends_after}
use Rattle.list_methods.proofs.splicing.exchange.Goals as goal

pub new_indexes-fresh-requires : goal.new_indexes-fresh-requires
new_indexes-fresh-requires c = c.requires.array.held.0

pub returns-then-paid-ge-CELL_LIMIT-clause-native : goal.returns-then-paid-ge-CELL_LIMIT-clause-native
returns-then-paid-ge-CELL_LIMIT-clause-native c = exchange_cells c.args.w.index c.args.store.now c.args.array c.counts-paid.result c.counts-paid.ensures.paid c.counts-paid.ensures.units c.args.taken.items c.args.left.now c.if-paid-ge-CELL_LIMIT.true

pub returns-then-saturating_add-paid-clause-native : goal.returns-then-saturating_add-paid-clause-native
returns-then-saturating_add-paid-clause-native c = exchange_slots c.args.w.index c.args.store.now c.args.array c.counts-paid.result c.counts-paid.ensures.paid c.counts-paid.ensures.units c.args.taken.items c.args.left.now c.if-paid-ge-CELL_LIMIT.false c.new_indexes-fresh.result
    (λ fs r. c.new_indexes-fresh.ensures fs r c.args.w.index c.args.array.len c.requires.array.held (length_seen c.args.w.index c.args.store.now c.args.array c.requires.array fs r) ∙ ap (new_indexes (cell_at (image fs r c.args.w.index c.args.store.now) (number c.args.w.index c.args.store.now c.args.array))) c.in-Ok.ensures.1)
    (omega (arith, c.if-saturating_add-paid.true, c.counts-paid.ensures.slots))

pub give_taken-requires-clause-array : goal.give_taken-requires-clause-array
give_taken-requires-clause-array c = paid_array c.args.w.index c.args.store.now c.args.array c.requires.array c.pay_slots.new.store c.pay_slots.ensures.kept c.new_indexes-fresh.result (λ fs r k. c.pay_slots.ensures.plan fs r k ∙ ap (λ p. paid_plan p k (image fs r c.args.w.index c.pay_slots.new.store)) c.in-Done.is)

pub give_taken-requires-clause-taken : goal.give_taken-requires-clause-taken
give_taken-requires-clause-taken c = all_stay c.args.w.index c.args.store.now.cells c.pay_slots.new.store.cells (c.pay_slots.ensures.kept []).grows c.args.taken.items c.requires.taken

pub give_taken-requires-clause-left : goal.give_taken-requires-clause-left
give_taken-requires-clause-left c = all_stay c.args.w.index c.args.store.now.cells c.pay_slots.new.store.cells (c.pay_slots.ensures.kept []).grows c.args.left.now c.requires.left

pub returns-in-Done-clause-native : goal.returns-in-Done-clause-native
returns-in-Done-clause-native c =
    let w = c.args.w.index in
    let old = c.args.store.now in
    let mid = c.pay_slots.new.store in
    let n = number w old c.args.array in
    let taken = c.args.taken.items in
    let left = c.args.left.now in
    let grows = (c.pay_slots.ensures.kept []).grows in
    let fits : c.counts-paid.result.slots + (length taken + c.new_indexes-fresh.result) ≤ SLOT_LIMIT = omega (arith, c.if-saturating_add-paid.false, c.counts-paid.ensures.slots) in
    IfOk-weaker c.give_taken.result _ _ (λ o h. ends_after w old mid c.give_taken.new.store (λ d s. exchanged n (all_seen w old.cells taken) (all_seen w old.cells left) s) (λ d s. filled_after (number w mid c.args.array) (all_seen w mid.cells taken) (all_seen w mid.cells left) s) o
    (λ fs r d.
    exchange_rest w old c.args.array c.counts-paid.result c.counts-paid.ensures.paid c.counts-paid.ensures.units taken left c.if-paid-ge-CELL_LIMIT.false c.new_indexes-fresh.result
    (λ gs q. c.new_indexes-fresh.ensures gs q w c.args.array.len c.requires.array.held (length_seen w old c.args.array c.requires.array gs q) ∙ ap (new_indexes (cell_at (image gs q w old) n)) c.in-Ok.ensures.1)
    c.requires.array fits fs r
    ∙ c.pay_slots.ensures.plan fs r (filled_after n (all_seen w old.cells taken) (all_seen w old.cells left))
    ∙ ap (λ p. paid_plan p (filled_after n (all_seen w old.cells taken) (all_seen w old.cells left)) (image fs r w mid)) c.in-Done.is
    ∙ (λ j. filled_after (sym (number_stays w old mid c.args.array c.requires.array grows) j) (sym (all_seen_stay w old.cells mid.cells grows taken c.requires.taken) j) (sym (all_seen_stay w old.cells mid.cells grows left c.requires.left) j) (image fs r w mid)))
    c.pay_slots.ensures.kept h) c.give_taken.ensures.native

pub returns-in-Done-clause-memory : goal.returns-in-Done-clause-memory
returns-in-Done-clause-memory c = on_err_weaker c.give_taken.result (λ kept fs. kept_then fs c.args.w.index c.args.store.now c.pay_slots.new.store c.give_taken.new.store (c.pay_slots.ensures.kept fs) (kept fs)) c.give_taken.ensures.memory
