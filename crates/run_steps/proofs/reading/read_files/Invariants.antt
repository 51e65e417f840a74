use Rattle.std.proofs.Common.{◌≡◌, length, take, All, IfSome, IsSomeAnd}
use Rattle.slot_check.specs.Verdicts.{sources_of, IsSmall}
use Rattle.run_steps.specs.Page.{texts, file_limit, AreRead}
use Rattle.run_steps.specs.Reading.{ReadsFiles, ComesThrough}
use Rattle.run_steps.proofs.reading.read_files.Given as goal

abbrev pub invariant-names : goal.invariant-names
invariant-names g l = record {
  reads : ReadsFiles g.F.Files.told g.F.Files.calm g.F.Files.faults l.fn.files l.files ⊥ (IsSomeAnd (g.F.Files.told l.fn.files) (λ m. ComesThrough m file_limit (texts l.names)));
  ok : IfSome (g.F.Files.told l.fn.files) (λ m. AreRead m file_limit (texts (take l.name-index l.names)) (sources_of l.sources.items));
  many : length l.sources.items ≡ l.name-index;
  small : All IsSmall l.sources.items;
}
