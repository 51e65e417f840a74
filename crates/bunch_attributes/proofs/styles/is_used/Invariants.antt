use Rattle.std.proofs.Common.{◌≡◌, drop}
use Rattle.std.specs.List.{list_any}
use Rattle.std.specs.Str.{bytes_eq}
use Rattle.style_text.specs.Styles.{Pair}
use Rattle.bunch_attributes.proofs.styles.is_used.Given as goal

-- what was passed over has another name
abbrev pub invariant-each : goal.invariant-each
invariant-each l = list_any (λ (q : Pair). bytes_eq q.0 l.name) l.pairs ≡ list_any (λ (q : Pair). bytes_eq q.0 l.name) (drop l.pair-index l.pairs)
