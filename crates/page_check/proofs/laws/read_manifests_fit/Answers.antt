use Rattle.page_check.proofs.Fitting.{read_is_fit}
use Rattle.page_check.proofs.laws.read_manifests_fit.Goals as goal

pub returns : goal.returns
returns c = read_is_fit
