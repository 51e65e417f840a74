use Rattle.std.proofs.Common.{ap, sym, ◌∙◌}
use Rattle.std.proofs.lemmas.Result.{IfOk-weaker}
use Rattle.widget_meaning.specs.Styles.{style_value}
use Rattle.native_image.proofs.Styled.{bad_style, style_none, style_read}
use Rattle.bunch_read.proofs.styles.style_property.Goals as goal

pub returns-in-Ok : goal.returns-in-Ok
returns-in-Ok c = IfOk-weaker c.value_in.result _ _ (λ t e. e ∙ ap (λ ps. style_value ps c.args.name.now) (c.deref.ensures.value ∙ sym (style_read c.args.style.now c.in-Ok.pairs.items c.in-Ok.ensures.style))) c.value_in.ensures

pub returns-in-Err-BadStyle : goal.returns-in-Err-BadStyle
returns-in-Err-BadStyle c = IfOk-weaker c.word.result _ _ (λ t e. e ∙ ap (λ ps. style_value ps c.args.name.now) (sym (style_none c.args.style.now (λ pairs h. bad_style c.in-Err-BadStyle.field-0 c.in-Err-BadStyle.field-0-0 c.in-Err-BadStyle.field-0-is (c.in-Err-BadStyle.ensures.only pairs h))))) c.word.ensures
