use Rattle.std.proofs.Common.{◌≡◌, ◌++◌, map, take}
use Rattle.slot_check.specs.Verdicts.{sources_of}
use Rattle.adhost_run.proofs.playing.push_bytes.Given as goal

abbrev pub invariant-sources : goal.invariant-sources
invariant-sources l = map (λ f. f.now) l.files.items ≡ map (λ f. f.now) l.initial.files.items ++ map (λ s. s.bytes) (sources_of (take l.source-index l.sources))
