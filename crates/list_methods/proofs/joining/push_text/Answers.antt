use Rattle.std.proofs.Common.{◌∙◌, ◌++◌, ap, append-nil, sym}
use Rattle.widget_meaning.specs.ListNatives.{joined_text}
use Rattle.js_image.specs.Image.{seen}
use Rattle.list_methods.proofs.joining.push_text.Goals as goal

pub returns-in-Undefined : goal.returns-in-Undefined
returns-in-Undefined c = λ w cells. sym (append-nil c.args.units.now.items) ∙ ap (λ v. c.args.units.now.items ++ joined_text (seen w cells v)) (sym c.in-Undefined.is)

pub returns-in-Null : goal.returns-in-Null
returns-in-Null c = λ w cells. sym (append-nil c.args.units.now.items) ∙ ap (λ v. c.args.units.now.items ++ joined_text (seen w cells v)) (sym c.in-Null.is)
