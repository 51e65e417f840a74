use Rattle.std.proofs.Common.{subst}
use Rattle.style_text.specs.Separated.{IsBehind}
use Rattle.style_text.proofs.PrintedForm.{behind_more}
use Rattle.style_text.proofs.form.behind_next.Goals as goal

pub returns-in-Some : goal.returns-in-Some
returns-in-Some c = λ text front h. behind_more front text c.args.next.now c.in-Some.text _ (subst (λ o. IsBehind front text o) c.in-Some.is h) c.behind.ensures
