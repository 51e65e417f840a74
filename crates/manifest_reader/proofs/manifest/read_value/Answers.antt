use Rattle.serde_json.specs.View.{view}
use Rattle.manifest_reader.proofs.ManifestLemmas.{pass_manifest, pass_fault}
use Rattle.manifest_reader.proofs.manifest.read_value.Goals as goal

pub returns-in-Ok-clause-ok : goal.returns-in-Ok-clause-ok
returns-in-Ok-clause-ok c = pass_manifest (view c.args.value.now) c.in-Ok.shape c.fill.result c.in-Ok.ensures.ok c.fill.ensures.ok

pub returns-in-Ok-clause-err : goal.returns-in-Ok-clause-err
returns-in-Ok-clause-err c = pass_fault (view c.args.value.now) c.in-Ok.shape c.fill.result c.in-Ok.ensures.ok c.fill.ensures.err
