use Rattle.widget_meaning.specs.Costs.{give}
use Rattle.widget_meaning.specs.NativeForms.{on_text}
use Rattle.widget_meaning.specs.Values.{Text}
use Rattle.js_image.specs.Image.{image}
use Rattle.js_image.specs.declared.outcome.Fault.TheVariants as fault
use Rattle.js_values.specs.declared.outcome.NativeOut.TheVariants as native
use Rattle.native_common.proofs.Meeting.{ends_here}
use Rattle.native_common.specs.Receivers.{receiver}
use Rattle.text_methods.proofs.Receivers.{no_text, text_given}
use Rattle.text_methods.proofs.prototypes.text_to_string.Goals as goal

pub returns-in_ok-same-in-Text : goal.returns-in_ok-same-in-Text
returns-in_ok-same-in-Text c = λ w s. text_given w s c.args.this.now c.in-Text.t c.in_ok-same-in-Text.same c.in-Text.is c.in_ok-same-in-Text.ensures

pub returns-in_default : goal.returns-in_default
returns-in_default c = λ w s.
    ends_here w s (λ d u. on_text (receiver w s.cells c.args.this.now) u (λ t. give (Text t) u)) (native.Throw fault.E3)
    (λ fs r node d. no_text w s.cells c.args.this.now c.in_default.not-Text (image fs r w s) (λ t. give (Text t) (image fs r w s))) tt
