use Rattle.std.proofs.Common.{[], ◌∙◌, ap, subst, sym}
use Rattle.js_image.specs.Image.{image}
use Rattle.js_image.specs.Plans.{paid_plan}
use Rattle.js_image.proofs.Units.{kept_then}
use Rattle.list_methods.proofs.Fills.{paid_array, push_ends, push_stops}
use Rattle.list_methods.proofs.Lists.{all_stay}
use Rattle.std.proofs.Common.{◌+◌}
use Rattle.js_image.specs.Image.{all_seen}
use Rattle.js_values.specs.declared.outcome.NativeOut.TheVariants as native
use Rattle.native_common.specs.Refines.{Ends}
use Rattle.list_methods.specs.Arrays.{number}
use Rattle.list_methods.specs.Parts.{put_last}
use Rattle.list_methods.proofs.Meeting.{on_err}
use Rattle.list_methods.proofs.ends.put_last.Goals as goal

pub returns-in-Stop-clause-native : goal.returns-in-Stop-clause-native
returns-in-Stop-clause-native c = push_stops c.args.w.index c.args.store.now c.pay_slots.new.store c.args.array c.count_of-count.result c.in-Stop.cause (λ fs r k. c.pay_slots.ensures.plan fs r k ∙ ap (λ p. paid_plan p k (image fs r c.args.w.index c.pay_slots.new.store)) c.in-Stop.is) c.pay_slots.ensures.kept c.args.args.now c.count_of-count.ensures

pub push_all-requires-clause-array : goal.push_all-requires-clause-array
push_all-requires-clause-array c = paid_array c.args.w.index c.args.store.now c.args.array c.requires.array c.pay_slots.new.store c.pay_slots.ensures.kept c.count_of-count.result (λ fs r k. c.pay_slots.ensures.plan fs r k ∙ ap (λ p. paid_plan p k (image fs r c.args.w.index c.pay_slots.new.store)) c.in-Done.is)

pub push_all-requires-clause-values : goal.push_all-requires-clause-values
push_all-requires-clause-values c = all_stay c.args.w.index c.args.store.now.cells c.pay_slots.new.store.cells (c.pay_slots.ensures.kept []).grows c.args.args.now c.requires.args

pub returns-in_err-push_all-in-Done-clause-memory : goal.returns-in_err-push_all-in-Done-clause-memory
returns-in_err-push_all-in-Done-clause-memory c = on_err c.from_residual.result _ (λ fs. kept_then fs c.args.w.index c.args.store.now c.pay_slots.new.store c.push_all.new.store (c.pay_slots.ensures.kept fs) (c.push_all.ensures.kept fs))

pub returns-in_ok-push_all-in-Done-clause-native : goal.returns-in_ok-push_all-in-Done-clause-native
returns-in_ok-push_all-in-Done-clause-native c =
    subst (λ v. Ends c.args.w.index c.args.store.now c.push_all.new.store (λ d s. put_last (number c.args.w.index c.args.store.now c.args.array) c.args.array.len (all_seen c.args.w.index c.args.store.now.cells c.args.args.now) s) (native.Value v)) (sym c.number_value.ensures)
    (push_ends c.args.w.index c.args.store.now c.args.array c.requires.array c.pay_slots.new.store c.pay_slots.ensures.kept c.count_of-count.result (λ fs r k. c.pay_slots.ensures.plan fs r k ∙ ap (λ p. paid_plan p k (image fs r c.args.w.index c.pay_slots.new.store)) c.in-Done.is) c.push_all.new.store c.args.args.now (c.args.array.len + c.count_of-count.result) c.requires.args c.count_of-count.ensures (ap (λ m. c.args.array.len + m) c.count_of-count.ensures) c.push_all.ensures.kept c.in_ok-push_all-in-Done.ensures.done)
