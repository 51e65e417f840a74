use Rattle.std.proofs.Common.{◌≡◌, ℕ, List, Bool, drop, map, ◌&&◌, not}
use Rattle.std.specs.List.{list_any}
use Rattle.code_units.specs.Words.{begins_with}
use Rattle.style_text.proofs.property.fits_in.Given as goal

-- what is still to come decides
abbrev pub invariant-words : goal.invariant-words
invariant-words l = (used : List ℕ → Bool) → l.marks ≡ map (λ row. used row.now) l.table → list_any (λ row. begins_with row.now l.front && not (used row.now)) l.table ≡ list_any (λ row. begins_with row.now l.front && not (used row.now)) (drop l.i l.table)
