use Rattle.std.proofs.Common.{◌≡◌, ℕ, List, Bool, ◌++◌, ◌||◌, map, take, drop}
use Rattle.std.specs.Str.{bytes_eq}
use Rattle.style_text.proofs.property.mark_in.Given as goal

-- the marks before the place are new, and the others old
abbrev pub invariant-words : goal.invariant-words
invariant-words l = (used : List ℕ → Bool) → l.initial.marks ≡ map (λ row. used row.now) l.table → l.marks ≡ map (λ row. used row.now || bytes_eq l.units row.now) (take l.i l.table) ++ map (λ row. used row.now) (drop l.i l.table)
