use Rattle.manifest_reader.proofs.VersionLemmas.{agree, same}
use Rattle.manifest_reader.proofs.laws.versions_agree.Goals as goal

pub returns : goal.returns
returns c = record { reads = agree; same = same }
