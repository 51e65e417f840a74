use Rattle.std.proofs.Common.{ℕ, List, refl, sym, ap, ◌∙◌}
use Rattle.widget_meaning.specs.Values as meaning
use Rattle.widget_meaning.specs.Costs.{give}
use Rattle.widget_meaning.specs.Costs as costs
use Rattle.widget_meaning.specs.NativeForms as forms
use Rattle.widget_meaning.specs.PrototypeNatives as prototypes
use Rattle.js_image.specs.Image.{image}
use Rattle.native_common.proofs.Meeting.{ends_same}
use Rattle.std.specs.Prelude.{codes}
use Rattle.native_common.specs.Receivers.{receiver}
use Rattle.text_methods.proofs.Receivers.{on_object_is}
use Rattle.text_methods.proofs.prototypes.object_to_string.Goals as goal

pub returns-clause-native : goal.returns-clause-native
returns-clause-native c =
    ends_same c.args.w.index c.args.store.now c.make_text.new.store (λ d s. forms.on_object (receiver c.args.w.index c.args.store.now.cells c.args.this.now) s (λ v. prototypes.give_made (codes "[object Object]") s)) (λ d s. costs.make_text c.in_ok-text.text s (give (meaning.Text c.in_ok-text.text))) c.make_text.result
    (λ fs r d. on_object_is c.args.w.index c.args.store.now.cells c.args.this.now (sym c.is_plain_call.ensures ∙ c.if-is_plain_call.false) (sym (c.is_object.ensures.object c.args.w.index c.args.store.now.cells) ∙ c.if-not-is_object.false) (image fs r c.args.w.index c.args.store.now) (λ v. prototypes.give_made (codes "[object Object]") (image fs r c.args.w.index c.args.store.now)) (prototypes.give_made (codes "[object Object]") (image fs r c.args.w.index c.args.store.now)) (λ v. refl)
    ∙ ap (λ (u : List ℕ). costs.make_text u (image fs r c.args.w.index c.args.store.now) (give (meaning.Text u))) (sym c.in_ok-text.ensures))
    c.make_text.ensures
