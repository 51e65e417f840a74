use Rattle.style_text.proofs.PrintedForm.{behind_parts}
use Rattle.style_text.proofs.form.behind_pair.Goals as goal

pub returns : goal.returns
returns c = λ text front h.
    behind_parts front text _ _ _ _ _ c.separator.ensures
    (c.behind_next.ensures text _ (c.behind_next-rest-3.ensures text _ (c.behind_next-rest-2.ensures text _ (c.behind_next-rest.ensures text front h))))
