-- The words of the command line.
use Rattle.std.proofs.Common.{◌≡◌, ℕ, List, [], ◌∷◌, subst}
use Rattle.run_steps.specs.Request.{IsCount, slice_limit}
use Rattle.live_lines.specs.Outcome.{IsLiveForm}

second : (name word other last : List ℕ) → name ∷ word ∷ [] ≡ other ∷ last ∷ [] → last ≡ word
second name word other last e = cc

-- the second word is no slice
pub no_slice : (name word : List ℕ) → ((n : ℕ) → IsCount slice_limit word n → ⊥) → IsLiveForm (name ∷ word ∷ []) → ⊥
no_slice name word none form = none form.asks.slice (subst (λ w. IsCount slice_limit w form.asks.slice) (second name word form.name form.asks.word form.asks.are) form.asks.count)
