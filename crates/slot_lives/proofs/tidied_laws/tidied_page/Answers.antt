use Rattle.slot_lives.proofs.Paged.{one_report}
use Rattle.slot_lives.proofs.tidied_laws.tidied_page.Goals as goal

pub returns : goal.returns
returns c = one_report
