-- Pairs one after the other.
use Rattle.std.specs.Prelude.{◌≡◌, ◌≢◌, ℕ, Bool, List, [], ◌++◌, codes, if◌then◌else◌, Option, MatchOption}
use Rattle.std.specs.Borrow.{Bor}
use Rattle.style_text.specs.Styles.{Pair, print_pair}

-- a pair, behind a separator where it is not the first
abbrev pub separated : Bool → Pair → List ℕ
separated first pair = (if first then [] else codes "; ") ++ print_pair pair

-- what stands in a text behind its front, or it has another front
abbrev pub IsBehind : List ℕ → List ℕ → Option (Bor (List ℕ)) → Type 0
IsBehind front text rest = MatchOption rest ((more : List ℕ) → text ≢ front ++ more) (λ r. text ≡ front ++ r.now)
