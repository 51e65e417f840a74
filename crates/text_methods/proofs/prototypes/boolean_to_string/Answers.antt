use Rattle.std.proofs.Common.{ℕ, List, sym, ap, ◌∙◌}
use Rattle.store_cells.specs.declared.value.Value.{Value as StoreValue}
use Rattle.widget_meaning.specs.Values as meaning
use Rattle.widget_meaning.specs.Values.{to_text}
use Rattle.widget_meaning.specs.Costs.{give}
use Rattle.widget_meaning.specs.Costs as costs
use Rattle.widget_meaning.specs.PrototypeNatives as prototypes
use Rattle.js_image.specs.Image.{image, seen}
use Rattle.js_image.specs.declared.outcome.Fault.TheVariants as fault
use Rattle.js_values.specs.declared.outcome.NativeOut.TheVariants as native
use Rattle.native_common.proofs.Meeting.{ends_here, ends_same}
use Rattle.text_methods.proofs.RadixPlans.{no_truth}
use Rattle.native_common.specs.Receivers.{receiver}
use Rattle.text_methods.proofs.prototypes.boolean_to_string.Goals as goal

pub returns-in_ok-text-in-Bool-clause-native : goal.returns-in_ok-text-in-Bool-clause-native
returns-in_ok-text-in-Bool-clause-native c =
    ends_same c.args.w.index c.args.store.now c.make_text.new.store (λ d s. prototypes.boolean_to_string (receiver c.args.w.index c.args.store.now.cells c.args.this.now) s) (λ d s. costs.make_text c.in_ok-text-in-Bool.text s (give (meaning.Text c.in_ok-text-in-Bool.text))) c.make_text.result
    (λ fs r d. ap (λ (x : StoreValue). prototypes.boolean_to_string (receiver c.args.w.index c.args.store.now.cells x) (image fs r c.args.w.index c.args.store.now)) c.in-Bool.is
    ∙ ap (λ (u : List ℕ). costs.make_text u (image fs r c.args.w.index c.args.store.now) (give (meaning.Text u))) (sym (c.in_ok-text-in-Bool.ensures c.args.w.index c.args.store.now.cells ∙ ap (λ (x : StoreValue). to_text (seen c.args.w.index c.args.store.now.cells x)) c.in-Bool.is)))
    c.make_text.ensures

pub returns-in_default-clause-native : goal.returns-in_default-clause-native
returns-in_default-clause-native c =
    let w = c.args.w.index in let old = c.args.store.now in
    ends_here w old (λ d s. prototypes.boolean_to_string (receiver w old.cells c.args.this.now) s) (native.Throw fault.E3)
    (λ fs r node d. no_truth w old.cells c.args.this.now c.in_default.not-Bool (image fs r w old)) tt
