use Rattle.std.proofs.Common.{refl}
use Rattle.std.proofs.lemmas.Result.{IfOk-weaker}
use Rattle.widget_meaning.specs.ListChanges.{list_extra}
use Rattle.js_image.specs.Image.{all_seen}
use Rattle.list_methods.specs.Arrays.{number}
use Rattle.list_methods.proofs.Meeting.{refines_taken, refines_wanting}
use Rattle.std.proofs.Common.{◌++◌}
use Rattle.std.specs.List.{flat_map}
use Rattle.widget_meaning.specs.Costs.{give}
use Rattle.widget_meaning.specs.NativeForms.{elements, make_array}
use Rattle.widget_meaning.specs.ListChanges.{array_elements}
use Rattle.list_methods.proofs.copying.concat.Goals as goal

pub returns-in-Ok-clause-native : goal.returns-in-Ok-clause-native
returns-in-Ok-clause-native c = IfOk-weaker c.all_elements.result _ _ (λ o h. refines_taken c.args.w.index c.args.store.now c.all_elements.new.store (λ s. list_extra c.args.array.len (all_seen c.args.w.index c.args.store.now.cells c.args.args.now) s) c.extra-asked.result c.extra-asked.ensures (λ d s. make_array (elements s (number c.args.w.index c.args.store.now c.args.array) c.args.array.len ++ flat_map (array_elements s) (all_seen c.args.w.index c.args.store.now.cells c.args.args.now)) 0 s give) c.args.meter.now c.take.new.meter o c.in-Ok.ensures.ok h) c.all_elements.ensures.native

pub returns-in-Err-clause-native : goal.returns-in-Err-clause-native
returns-in-Err-clause-native c = refines_wanting c.args.w.index c.args.store.now c.args.store.now (λ s. list_extra c.args.array.len (all_seen c.args.w.index c.args.store.now.cells c.args.args.now) s) c.extra-asked.result c.extra-asked.ensures (λ d s. make_array (elements s (number c.args.w.index c.args.store.now c.args.array) c.args.array.len ++ flat_map (array_elements s) (all_seen c.args.w.index c.args.store.now.cells c.args.args.now)) 0 s give) c.args.meter.now c.take.new.meter c.in-Err.ensures.err c.in-Err.ensures.same refl
