-- Laws of what the natives use.
use Rattle.std.specs.Prelude.{◌≡◌, ◌≤◌, ℕ, List, [], ◌∷◌, ◌++◌, length, map}
use Rattle.std.specs.List.{join_by}
use Rattle.std.specs.List.Sorted.{IsPermutation, IsSortedBy, IsStableBy}
use Rattle.widget_meaning.specs.Values.{Value}
use Rattle.widget_meaning.specs.TextNatives.{pieces}
use Rattle.widget_meaning.specs.ListChanges.{is_before, sorted}

-- a text stands nowhere in another
abbrev pub StandsNowhere : List ℕ → List ℕ → Type 0
StandsNowhere x t = (before rest : List ℕ) → ¬ (t ≡ before ++ (x ++ rest))

-- right behind a piece a text stands for the first time
abbrev pub StandsFirstBehind : List ℕ → List ℕ → Type 0
StandsFirstBehind x p = (before rest : List ℕ) → p ++ x ≡ before ++ (x ++ rest) → length p ≤ length before

-- of pieces in order: behind each but the last the text stands for the first time, and in the last nowhere
abbrev pub AreFirstPieces : List ℕ → List (List ℕ) → Type 0
AreFirstPieces x [] = ⊥
AreFirstPieces x (p ∷ []) = StandsNowhere x p
AreFirstPieces x (p ∷ (q ∷ ps)) = StandsFirstBehind x p × AreFirstPieces x (q ∷ ps)

-- pieces, joined by what stood between them, are the text, cut as early as can be, and by the empty text into units
pub record SplitLaws : Type 0 where
  pub joins : (x t : List ℕ) → join_by (λ p. p) x (pieces x t) ≡ t
  pub first_pieces : (x : ℕ) (xs t : List ℕ) → AreFirstPieces (x ∷ xs) (pieces (x ∷ xs) t)
  pub units : (t : List ℕ) → pieces [] t ≡ map (λ u. u ∷ []) t

-- what `sort` leaves: the same elements, none before one that it comes before, and those of one text in their old order
pub record SortLaws (vs : List Value) : Type 0 where
  pub same : IsPermutation vs (sorted vs)
  pub rising : IsSortedBy is_before (sorted vs)
  pub stable : IsStableBy is_before vs (sorted vs)
