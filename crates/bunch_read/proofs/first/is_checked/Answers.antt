use Rattle.std.proofs.Common.{ap, ◌∙◌}
use Rattle.std.specs.Prelude.{is_some}
use Rattle.bunch_read.proofs.Reading.{some_mapped}
use Rattle.bunch_read.proofs.first.is_checked.Goals as goal

pub returns : goal.returns
returns c = λ s there. c.is_some.ensures ∙ some_mapped _ c.first_found.result ∙ ap is_some (c.first_found.ensures s there)
