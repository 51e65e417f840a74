use Rattle.std.proofs.Common.{◌≡◌, drop}
use Rattle.std.specs.List.{list_any}
use Rattle.std.specs.Str.{bytes_eq}
use Rattle.reach_cert.specs.Blocks.{words_of}
use Rattle.reach_cert.proofs.first_line.is_used.Given as goal

abbrev pub invariant-each : goal.invariant-each
invariant-each l = list_any (λ name. bytes_eq name l.word) (words_of l.names) ≡ list_any (λ name. bytes_eq name l.word) (words_of (drop l.name-index l.names))
