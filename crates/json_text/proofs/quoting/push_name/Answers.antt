use Rattle.std.proofs.Common.{◌++◌, refl, ap, ◌∙◌}
use Rattle.std.proofs.lemmas.Result.{IfOk-weaker}
use Rattle.widget_meaning.specs.JsonTexts.{write}
use Rattle.json_text.specs.Names.{comma, name_text}
use Rattle.json_text.proofs.Written.{write_name}
use Rattle.json_text.proofs.quoting.push_name.Goals as goal

pub returns : goal.returns
returns c = IfOk-weaker c.push_inside.result _ _ (λ p h.
    let old = c.args.out.now.items in
    let us = c.units-units.result.now in
    h ∙ write_name old c.extend_from_slice.new.self.items us (comma c.args.first) (name_text c.args.first us) c.in_quotes.ensures
    (c.in_ok-extend_from_slice.ensures.items ∙ ap (λ l. old ++ l) c.opening.ensures) refl
    ∙ ap (λ n. write old (name_text c.args.first n)) c.units-units.ensures) c.push_inside.ensures
