use Rattle.style_text.proofs.PrintedForm.{form_spelled, form_other}
use Rattle.style_text.proofs.laws.form_of_style.Goals as goal

pub returns : goal.returns
returns c = record { spelled = form_spelled; other = form_other }
