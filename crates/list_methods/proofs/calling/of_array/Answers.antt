use Rattle.permitted_table.specs.declared.native.ListNative.TheVariants as method
use Rattle.js_image.specs.Image.{all_seen}
use Rattle.list_methods.specs.Arrays.{number}
use Rattle.list_methods.proofs.Calls.{of_method}
use Rattle.list_methods.proofs.calling.of_array.Goals as goal

pub returns-in-ListConcat-clause-native : goal.returns-in-ListConcat-clause-native
returns-in-ListConcat-clause-native c = of_method c.args.w.index c.args.store.now c.concat.new.store (number c.args.w.index c.args.store.now c.args.array) c.args.array.len (all_seen c.args.w.index c.args.store.now.cells c.args.args.now) c.args.meter.now c.concat.new.meter c.concat.result c.args.method method.ListConcat c.in-ListConcat.is c.concat.ensures.native

pub returns-in-Join-clause-native : goal.returns-in-Join-clause-native
returns-in-Join-clause-native c = of_method c.args.w.index c.args.store.now c.join.new.store (number c.args.w.index c.args.store.now c.args.array) c.args.array.len (all_seen c.args.w.index c.args.store.now.cells c.args.args.now) c.args.meter.now c.join.new.meter c.join.result c.args.method method.Join c.in-Join.is c.join.ensures.native

pub returns-in-Pop-clause-native : goal.returns-in-Pop-clause-native
returns-in-Pop-clause-native c = of_method c.args.w.index c.args.store.now c.pop.new.store (number c.args.w.index c.args.store.now c.args.array) c.args.array.len (all_seen c.args.w.index c.args.store.now.cells c.args.args.now) c.args.meter.now c.pop.new.meter c.pop.result c.args.method method.Pop c.in-Pop.is c.pop.ensures.native

pub returns-in-Shift-clause-native : goal.returns-in-Shift-clause-native
returns-in-Shift-clause-native c = of_method c.args.w.index c.args.store.now c.shift.new.store (number c.args.w.index c.args.store.now c.args.array) c.args.array.len (all_seen c.args.w.index c.args.store.now.cells c.args.args.now) c.args.meter.now c.shift.new.meter c.shift.result c.args.method method.Shift c.in-Shift.is c.shift.ensures.native

pub returns-in-Push-clause-native : goal.returns-in-Push-clause-native
returns-in-Push-clause-native c = of_method c.args.w.index c.args.store.now c.push.new.store (number c.args.w.index c.args.store.now c.args.array) c.args.array.len (all_seen c.args.w.index c.args.store.now.cells c.args.args.now) c.args.meter.now c.push.new.meter c.push.result c.args.method method.Push c.in-Push.is c.push.ensures.native

pub returns-in-Unshift-clause-native : goal.returns-in-Unshift-clause-native
returns-in-Unshift-clause-native c = of_method c.args.w.index c.args.store.now c.unshift.new.store (number c.args.w.index c.args.store.now c.args.array) c.args.array.len (all_seen c.args.w.index c.args.store.now.cells c.args.args.now) c.args.meter.now c.unshift.new.meter c.unshift.result c.args.method method.Unshift c.in-Unshift.is c.unshift.ensures.native

pub returns-in-Reverse-clause-native : goal.returns-in-Reverse-clause-native
returns-in-Reverse-clause-native c = of_method c.args.w.index c.args.store.now c.reverse.new.store (number c.args.w.index c.args.store.now c.args.array) c.args.array.len (all_seen c.args.w.index c.args.store.now.cells c.args.args.now) c.args.meter.now c.reverse.new.meter c.reverse.result c.args.method method.Reverse c.in-Reverse.is c.reverse.ensures.native

pub returns-in-Sort-clause-native : goal.returns-in-Sort-clause-native
returns-in-Sort-clause-native c = of_method c.args.w.index c.args.store.now c.sort.new.store (number c.args.w.index c.args.store.now c.args.array) c.args.array.len (all_seen c.args.w.index c.args.store.now.cells c.args.args.now) c.args.meter.now c.sort.new.meter c.sort.result c.args.method method.Sort c.in-Sort.is c.sort.ensures.native

pub returns-in-ListSlice-clause-native : goal.returns-in-ListSlice-clause-native
returns-in-ListSlice-clause-native c = of_method c.args.w.index c.args.store.now c.slice.new.store (number c.args.w.index c.args.store.now c.args.array) c.args.array.len (all_seen c.args.w.index c.args.store.now.cells c.args.args.now) c.args.meter.now c.slice.new.meter c.slice.result c.args.method method.ListSlice c.in-ListSlice.is c.slice.ensures.native

pub returns-in-Splice-clause-native : goal.returns-in-Splice-clause-native
returns-in-Splice-clause-native c = of_method c.args.w.index c.args.store.now c.splice.new.store (number c.args.w.index c.args.store.now c.args.array) c.args.array.len (all_seen c.args.w.index c.args.store.now.cells c.args.args.now) c.args.meter.now c.splice.new.meter c.splice.result c.args.method method.Splice c.in-Splice.is c.splice.ensures.native

pub returns-in-ForEach-clause-native : goal.returns-in-ForEach-clause-native
returns-in-ForEach-clause-native c = of_method c.args.w.index c.args.store.now c.args.store.now (number c.args.w.index c.args.store.now c.args.array) c.args.array.len (all_seen c.args.w.index c.args.store.now.cells c.args.args.now) c.args.meter.now c.over.new.meter c.over.result c.args.method method.ForEach c.in-ForEach.is c.over.ensures.native

pub returns-in-MapNative-clause-native : goal.returns-in-MapNative-clause-native
returns-in-MapNative-clause-native c = of_method c.args.w.index c.args.store.now c.args.store.now (number c.args.w.index c.args.store.now c.args.array) c.args.array.len (all_seen c.args.w.index c.args.store.now.cells c.args.args.now) c.args.meter.now c.over-in-MapNative.new.meter c.over-in-MapNative.result c.args.method method.MapNative c.in-MapNative.is c.over-in-MapNative.ensures.native

pub returns-in-FilterNative-clause-native : goal.returns-in-FilterNative-clause-native
returns-in-FilterNative-clause-native c = of_method c.args.w.index c.args.store.now c.args.store.now (number c.args.w.index c.args.store.now c.args.array) c.args.array.len (all_seen c.args.w.index c.args.store.now.cells c.args.args.now) c.args.meter.now c.over-in-FilterNative.new.meter c.over-in-FilterNative.result c.args.method method.FilterNative c.in-FilterNative.is c.over-in-FilterNative.ensures.native
