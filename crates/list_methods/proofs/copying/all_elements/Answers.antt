use Rattle.std.proofs.Common.{◌++◌, ◌∙◌, ap, sym}
use Rattle.std.specs.List.{flat_map}
use Rattle.widget_meaning.specs.Costs.{give}
use Rattle.widget_meaning.specs.NativeForms.{elements, make_array}
use Rattle.widget_meaning.specs.ListChanges.{array_elements}
use Rattle.js_image.specs.Image.{all_seen, image}
use Rattle.native_common.proofs.Meeting.{ok_ends_same}
use Rattle.list_methods.specs.Arrays.{number}
use Rattle.list_methods.proofs.copying.all_elements.Goals as goal

pub push_arguments-requires-clause-values : goal.push_arguments-requires-clause-values
push_arguments-requires-clause-values c = c.in_ok-values.ensures.fine

pub give_array-requires : goal.give_array-requires
give_array-requires c = c.in_ok-push_arguments.ensures.fine

pub returns-clause-native : goal.returns-clause-native
returns-clause-native c = ok_ends_same c.args.w.index c.args.store.now c.give_array.new.store (λ d s. make_array (elements s (number c.args.w.index c.args.store.now c.args.array) c.args.array.len ++ flat_map (array_elements s) (all_seen c.args.w.index c.args.store.now.cells c.args.args.now)) 0 s give) (λ d s. make_array (all_seen c.args.w.index c.args.store.now.cells c.push_arguments.new.values.items) 0 s give) c.give_array.result
    (λ fs r d. ap (λ l. make_array l 0 (image fs r c.args.w.index c.args.store.now) give) (sym (c.in_ok-push_arguments.ensures.more fs r ∙ ap (λ l. l ++ flat_map (array_elements (image fs r c.args.w.index c.args.store.now)) (all_seen c.args.w.index c.args.store.now.cells c.args.args.now)) (c.in_ok-values.ensures.seen fs r)))) c.give_array.ensures.native
