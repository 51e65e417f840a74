use Rattle.manifest_reader.proofs.SameLemmas.{one_manifest}
use Rattle.manifest_reader.proofs.laws.one_manifest.Goals as goal

pub returns : goal.returns
returns c = one_manifest
