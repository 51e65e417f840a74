use Rattle.std.proofs.Common.{◌∙◌, ap, arith, length, sym}
use Rattle.std.specs.Prelude.{slice_range}
use Rattle.widget_meaning.specs.Costs.{give}
use Rattle.widget_meaning.specs.NativeForms.{elements, make_array}
use Rattle.js_image.specs.Image.{all_seen, image}
use Rattle.native_common.proofs.Meeting.{ok_ends_same}
use Rattle.list_methods.specs.Arrays.{number}
use Rattle.list_methods.proofs.Lists.{part_fine, part_seen}
use Rattle.list_methods.proofs.copying.between.Goals as goal

pub part-requires : goal.part-requires
part-requires c = omega (arith, c.requires.end, ap length c.deref.ensures.value, c.in_ok-all.ensures.len)

pub give_array-requires : goal.give_array-requires
give_array-requires c = part_fine c.args.w.index c.args.store.now.cells c.in_ok-all.all.items c.in_ok-values.values.items c.args.from c.args.to (c.in_ok-values.ensures ∙ ap (λ l. slice_range l c.args.from c.args.to) c.deref.ensures.value) c.in_ok-all.ensures.fine

pub returns-clause-native : goal.returns-clause-native
returns-clause-native c = ok_ends_same c.args.w.index c.args.store.now c.give_array.new.store (λ d s. make_array (slice_range (elements s (number c.args.w.index c.args.store.now c.args.array) c.args.array.len) c.args.from c.args.to) 0 s give) (λ d s. make_array (all_seen c.args.w.index c.args.store.now.cells c.in_ok-values.values.items) 0 s give) c.give_array.result
    (λ fs r d. ap (λ l. make_array l 0 (image fs r c.args.w.index c.args.store.now) give) (sym (part_seen c.args.w.index c.args.store.now.cells c.in_ok-all.all.items c.in_ok-values.values.items c.args.from c.args.to (c.in_ok-values.ensures ∙ ap (λ l. slice_range l c.args.from c.args.to) c.deref.ensures.value)
    ∙ ap (λ l. slice_range l c.args.from c.args.to) (c.in_ok-all.ensures.seen fs r)))) c.give_array.ensures.native
