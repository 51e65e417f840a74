use Rattle.std.proofs.Common.{[], sym}
use Rattle.widget_meaning.specs.NativeForms.{elements}
use Rattle.widget_meaning.specs.ListNatives.{call_each}
use Rattle.store_cells.specs.declared.value.Value.TheVariants as value
use Rattle.js_image.specs.Image.{image, seen}
use Rattle.js_values.specs.Answers.{gathered}
use Rattle.js_values.specs.declared.outcome.NativeOut.TheVariants as native
use Rattle.js_values.specs.declared.outcome.Plan.TheVariants as calls
use Rattle.native_common.proofs.Meeting.{ends_here}
use Rattle.list_methods.specs.Arrays.{number}
use Rattle.list_methods.proofs.over.gather.Goals as goal

pub returns : goal.returns
returns c = record {
  native = ends_here c.args.w.index c.args.store.now (λ d s. call_each (seen c.args.w.index c.args.store.now.cells (value.Ref c.args.func)) (elements s (number c.args.w.index c.args.store.now c.args.calls.array) c.args.calls.array.len) 0 [] d s (gathered c.args.calls.keep (elements s (number c.args.w.index c.args.store.now c.args.calls.array) c.args.calls.array.len))) (native.Call (calls.Gather c.args.func c.in_ok-items.items c.args.calls.keep))
      (λ fs r node d. λ j. call_each (seen c.args.w.index c.args.store.now.cells (value.Ref c.args.func)) (sym (c.in_ok-items.ensures.seen fs r) j) 0 [] d (image fs r c.args.w.index c.args.store.now) (gathered c.args.calls.keep (sym (c.in_ok-items.ensures.seen fs r) j)))
      (c.requires.func, c.in_ok-items.ensures.fine);
}
