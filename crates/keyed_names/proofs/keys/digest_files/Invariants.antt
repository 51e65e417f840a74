use Rattle.std.proofs.Common.{map, take}
use Rattle.std.specs.List.{flat_map}
use Rattle.sha2.specs.Hashers.{Holds256}
use Rattle.keyed_names.specs.Keying.{framed}
use Rattle.keyed_names.proofs.keys.digest_files.Given as goal

abbrev pub invariant-each : goal.invariant-each
invariant-each l = Holds256 l.hasher (flat_map framed (map (λ file. file.now) (take l.file-index l.files)))
