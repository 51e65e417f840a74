use Rattle.std.proofs.Common.{◌≡◌, drop}
use Rattle.std.specs.List.{list_any}
use Rattle.std.specs.Str.{bytes_eq}
use Rattle.style_text.proofs.property.found_in.Given as goal

abbrev pub invariant-loop-word : goal.invariant-loop-word
invariant-loop-word l = list_any (λ row. bytes_eq l.units row.now) l.table ≡ list_any (λ row. bytes_eq l.units row.now) (drop l.word-index l.table)
