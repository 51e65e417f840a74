use Rattle.run_steps.proofs.Coming.{some_manifest, some_files, some_items, some_bytes}
use Rattle.run_steps.proofs.laws.some_step.Goals as goal

pub returns : goal.returns
returns c = record { manifest = some_manifest; files = some_files; items = some_items; bytes = some_bytes }
