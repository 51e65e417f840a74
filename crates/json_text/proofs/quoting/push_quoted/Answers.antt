use Rattle.std.proofs.Common.{ap, ◌∙◌}
use Rattle.std.proofs.lemmas.Result.{IfOk-weaker}
use Rattle.widget_meaning.specs.JsonTexts.{quoted_text, write}
use Rattle.json_text.proofs.Written.{write_quoted}
use Rattle.json_text.proofs.quoting.push_quoted.Goals as goal

pub returns : goal.returns
returns c = IfOk-weaker c.push_inside.result _ _ (λ p h.
    h ∙ write_quoted c.args.out.now.items c.push.new.self.items c.units-units.result.now c.in_quotes.ensures c.in_ok-push.ensures.items
    ∙ ap (λ us. write c.args.out.now.items (quoted_text us)) c.units-units.ensures) c.push_inside.ensures
