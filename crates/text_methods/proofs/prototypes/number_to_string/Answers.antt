use Rattle.std.proofs.Common.{ap, ◌∙◌}
use Rattle.store_cells.specs.declared.value.Value.{Value as StoreValue}
use Rattle.store_cells.specs.declared.value.Value.TheVariants as value
use Rattle.widget_meaning.specs.PrototypeNatives as prototypes
use Rattle.js_image.specs.Image.{image, seen}
use Rattle.js_values.specs.Operands.{plain}
use Rattle.native_common.specs.Receivers.{receiver}
use Rattle.js_image.specs.declared.outcome.Fault.TheVariants as fault
use Rattle.native_common.proofs.Meeting.{ok_refines_same}
use Rattle.plain_natives.proofs.Exits.{throws}
use Rattle.text_methods.proofs.RadixPlans.{no_number, of_number}
use Rattle.text_methods.proofs.prototypes.number_to_string.Goals as goal

pub returns-in-Num-clause-native : goal.returns-in-Num-clause-native
returns-in-Num-clause-native c =
    let w = c.args.w.index in let old = c.args.store.now in let x = seen w old.cells c.args.radix.now in
    ok_refines_same w old c.in_radix.new.store (λ d s. prototypes.number_to_string (receiver w old.cells c.args.this.now) x s) (λ d s. prototypes.in_radix (plain (value.Num c.in-Num.n)) x s) c.in_radix.result c.args.meter.now c.in_radix.new.meter
    (λ fs r d. ap (λ (v : StoreValue). prototypes.number_to_string (receiver w old.cells v) x (image fs r w old)) c.in-Num.is ∙ of_number w old.cells c.in-Num.n x (image fs r w old))
    c.in_radix.ensures.native

pub returns-in_default-clause-native : goal.returns-in_default-clause-native
returns-in_default-clause-native c =
    let w = c.args.w.index in let old = c.args.store.now in let x = seen w old.cells c.args.radix.now in
    throws w old (λ d s. prototypes.number_to_string (receiver w old.cells c.args.this.now) x s) fault.E3 c.args.meter.now
    (λ fs r d. no_number w old.cells c.args.this.now c.in_default.not-Num x (image fs r w old))
