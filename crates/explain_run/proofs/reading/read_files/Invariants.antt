use Rattle.std.proofs.Common.{◌≡◌, ◌≤◌, length, take, All, IfSome}
use Rattle.slot_check.specs.Verdicts.{sources_of, IsSmall}
use Rattle.run_steps.specs.Page.{texts, file_limit}
use Rattle.explain_run.specs.Page.{AreRead}
use Rattle.explain_run.proofs.reading.read_files.Given as goal

abbrev pub invariant-names : goal.invariant-names
invariant-names g l = record {
  same : g.F.Files.told l.files ≡ g.F.Files.told l.fn.files;
  count : g.F.Files.faults l.fn.files ≤ g.F.Files.faults l.files;
  ok : IfSome (g.F.Files.told l.fn.files) (λ m. AreRead m file_limit (texts (take l.name-index l.names)) (sources_of l.sources.items));
  many : length l.sources.items ≡ l.name-index;
  small : All IsSmall l.sources.items;
}
