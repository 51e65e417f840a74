-- Each token of a text is one of its bytes.
use Rattle.std.proofs.Common.{◌≡◌, ℕ, zero, suc, ◌<◌, List, [], ◌∷◌, length, get_or, refl, arith}
use Rattle.std.specs.Prelude.{All}
use Rattle.js_tokens.specs.declared.token.Token.{Token}
use Rattle.js_tokens.specs.Lexes.{Lexes, IsTokenOf}

-- an element does not depend on what stands for those past the end
same_element : (ts : List Token) (i : ℕ) (d e : Token) → i < length ts → get_or ts i d ≡ get_or ts i e
same_element [] i d e lt = absurd (omega (arith, lt))
same_element (t ∷ ts) zero d e lt = refl
same_element (t ∷ ts) (suc i) d e lt = same_element ts i d e (omega (arith, lt))

pub lexes_tokens : (bytes : List ℕ) (ts : List Token) → Lexes bytes ts → All (IsTokenOf bytes) ts
lexes_tokens bytes ts h = λ i d lt. record { tokens = ts; lexes = h; is_in = (i, lt, same_element ts i _ d lt) }
