-- The names that are listed.
use Rattle.std.proofs.Common.{◌≡◌, ℕ, List, ◌∙◌}
use Rattle.std.specs.Prelude.{Result, Ok, Err, IfOk}

-- the same list
pub keys_seen : {X E : Type 0} (r : Result X E) (items : X → List (List ℕ)) {a b : List (List ℕ)} → a ≡ b → IfOk r (λ k. items k ≡ a) → IfOk r (λ k. items k ≡ b)
keys_seen (Ok k) items e h = h ∙ e
keys_seen (Err x) items e h = tt
