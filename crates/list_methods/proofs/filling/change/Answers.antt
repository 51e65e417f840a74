use Rattle.std.proofs.Common.{[], ap, ◌∙◌}
use Rattle.widget_meaning.specs.ListChanges.{new_indexes}
use Rattle.widget_meaning.specs.OwnState.{cell_at}
use Rattle.js_image.specs.Image.{image}
use Rattle.js_image.specs.Plans.{paid_plan}
use Rattle.list_methods.specs.Arrays.{number}
use Rattle.list_methods.proofs.Arrays.{length_seen}
use Rattle.list_methods.proofs.Fills.{change_ends, change_stops, paid_array}
use Rattle.list_methods.proofs.Lists.{all_stay}
use Rattle.js_image.proofs.Units.{kept_then}
use Rattle.list_methods.proofs.Meeting.{on_err}
use Rattle.list_methods.proofs.filling.change.Goals as goal

pub new_indexes-fresh-requires : goal.new_indexes-fresh-requires
new_indexes-fresh-requires c = c.requires.array.held.0

pub returns-in-Stop-clause-native : goal.returns-in-Stop-clause-native
returns-in-Stop-clause-native c = change_stops c.args.w.index c.args.store.now c.pay_slots.new.store c.args.array c.new_indexes-fresh.result c.in-Stop.cause (λ fs r k. c.pay_slots.ensures.plan fs r k ∙ ap (λ p. paid_plan p k (image fs r c.args.w.index c.pay_slots.new.store)) c.in-Stop.is) c.pay_slots.ensures.kept c.args.values.now c.args.given (λ fs r. c.new_indexes-fresh.ensures fs r c.args.w.index c.args.array.len c.requires.array.held (length_seen c.args.w.index c.args.store.now c.args.array c.requires.array fs r) ∙ ap (new_indexes (cell_at (image fs r c.args.w.index c.args.store.now) (number c.args.w.index c.args.store.now c.args.array))) c.in-Ok.ensures.1)

pub fill-requires-clause-array : goal.fill-requires-clause-array
fill-requires-clause-array c = paid_array c.args.w.index c.args.store.now c.args.array c.requires.array c.pay_slots.new.store c.pay_slots.ensures.kept c.new_indexes-fresh.result (λ fs r k. c.pay_slots.ensures.plan fs r k ∙ ap (λ p. paid_plan p k (image fs r c.args.w.index c.pay_slots.new.store)) c.in-Done.is)

pub fill-requires-clause-values : goal.fill-requires-clause-values
fill-requires-clause-values c = all_stay c.args.w.index c.args.store.now.cells c.pay_slots.new.store.cells (c.pay_slots.ensures.kept []).grows c.args.values.now c.requires.values

pub returns-in_ok-fill-in-Done-clause-native : goal.returns-in_ok-fill-in-Done-clause-native
returns-in_ok-fill-in-Done-clause-native c = change_ends c.args.w.index c.args.store.now c.args.array c.requires.array c.pay_slots.new.store c.pay_slots.ensures.kept c.new_indexes-fresh.result (λ fs r k. c.pay_slots.ensures.plan fs r k ∙ ap (λ p. paid_plan p k (image fs r c.args.w.index c.pay_slots.new.store)) c.in-Done.is) c.fill.new.store c.args.values.now c.args.given c.requires.values c.requires.given (λ fs r. c.new_indexes-fresh.ensures fs r c.args.w.index c.args.array.len c.requires.array.held (length_seen c.args.w.index c.args.store.now c.args.array c.requires.array fs r) ∙ ap (new_indexes (cell_at (image fs r c.args.w.index c.args.store.now) (number c.args.w.index c.args.store.now c.args.array))) c.in-Ok.ensures.1) c.fill.ensures.kept c.in_ok-fill-in-Done.ensures.done

pub returns-in_err-fill-in-Done-clause-memory : goal.returns-in_err-fill-in-Done-clause-memory
returns-in_err-fill-in-Done-clause-memory c = on_err c.from_residual.result _ (λ fs. kept_then fs c.args.w.index c.args.store.now c.pay_slots.new.store c.fill.new.store (c.pay_slots.ensures.kept fs) (c.fill.ensures.kept fs))
