use Rattle.std.proofs.Common.{sym, ◌∙◌}
use Rattle.native_image.proofs.Styled.{bad_style, style_none, style_read}
use Rattle.bunch_attributes.proofs.styles.read_pairs.Goals as goal

pub returns-in-Ok : goal.returns-in-Ok
returns-in-Ok c = sym (style_read c.args.text.now c.in-Ok.pairs.items c.in-Ok.ensures.style)

pub returns-in-Err-BadStyle : goal.returns-in-Err-BadStyle
returns-in-Err-BadStyle c = c.new.ensures.items ∙ sym (style_none c.args.text.now (λ pairs h. bad_style c.in-Err-BadStyle.field-0 c.in-Err-BadStyle.field-0-0 c.in-Err-BadStyle.field-0-is (c.in-Err-BadStyle.ensures.only pairs h)))
