use Rattle.permitted_table.specs.declared.native.NativeId.TheVariants as native
use Rattle.widget_meaning.specs.Natives.{run_native}
use Rattle.js_image.specs.declared.outcome.Fault.TheVariants as fault
use Rattle.js_image.specs.Image.{all_seen}
use Rattle.native_common.specs.Receivers.{receiver}
use Rattle.list_methods.proofs.Calls.{answered, no_receiver}
use Rattle.list_methods.proofs.Meeting.{thrown}
use Rattle.list_methods.proofs.calling.call.Goals as goal

pub returns-in_default-clause-native : goal.returns-in_default-clause-native
returns-in_default-clause-native c =
    let w = c.args.w.index in
    let old = c.args.store.now in
    let vs = all_seen w old.cells c.args.args.now in
    thrown w old (run_native c.args.which (receiver w old.cells c.args.this.now) vs) fault.E3 c.args.meter.now
    (λ fs r d. no_receiver w old c.args.this.now c.array_of.result c.array_of.ensures.plan c.args.which c.requires.part vs fs r d c.in_default.is)

pub returns-in-List-clause-native : goal.returns-in-List-clause-native
returns-in-List-clause-native c = answered c.args.w.index c.args.store.now c.of_array.new.store c.args.this.now c.array_of.result c.array_of.ensures.plan c.args.which c.requires.part (all_seen c.args.w.index c.args.store.now.cells c.args.args.now) c.in-Some.array c.in-Some.is (native.List c.in-List.method) c.in-List.is c.args.meter.now c.of_array.new.meter c.of_array.result c.of_array.ensures.native

pub returns-in-Prototype-clause-native : goal.returns-in-Prototype-clause-native
returns-in-Prototype-clause-native c = answered c.args.w.index c.args.store.now c.to_string.new.store c.args.this.now c.array_of.result c.array_of.ensures.plan c.args.which c.requires.part (all_seen c.args.w.index c.args.store.now.cells c.args.args.now) c.in-Some.array c.in-Some.is (native.Prototype c.in-Prototype.field-0) c.in-Prototype.is c.args.meter.now c.to_string.new.meter c.to_string.result c.to_string.ensures.native
