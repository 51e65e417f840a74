-- One more turn of the scanner.
use Rattle.std.proofs.Common.{◌≡◌, ℕ, List, [], ◌∷◌, ◌++◌, length, subst, sym, append_assoc, append-nil}
use Rattle.js_tokens.specs.declared.token.Token.{Token}
use Rattle.js_tokens.specs.declared.token.TokenKind.{TokenKind}
use Rattle.js_tokens.specs.Lexes.{Reads, FirstBad}
use Rattle.js_tokens.specs.Lexes.Reads.{done, token}
use Rattle.js_tokens.specs.Lexes.FirstBad.{bad, past_token}
use Rattle.js_tokens.specs.Characters.{is_blank}
use Rattle.js_tokens.specs.Cursor.{from, IsPlace, IsEnd}
use Rattle.js_tokens.specs.Scan as scan
use Rattle.js_tokens.specs.Scan.{after_run, Found, found}
use Rattle.js_tokens.proofs.Slices.{place_from}
use Rattle.js_tokens.proofs.Fronts.{IsGap, IsToken, Means, blanks_gap, found_means}

-- the tokens up to a place
pub record SoFar (text : List ℕ) (place : ℕ) (list : List Token) : Type 0 where
  pub is_place : IsPlace text place
  pub reads : (ts : List Token) → Reads (length text) (from text place) ts → Reads (length text) (from text 0) (list ++ ts)
  pub fails : (p : List ℕ) → FirstBad (from text place) p → FirstBad (from text 0) p

means : (text : List ℕ) (place : ℕ) (f : Found) → found (from text place) ≡ f → Means (from text place) f
means text place f e = subst (Means (from text place)) e (found_means (from text place))

pub at_gap : (text : List ℕ) (place next : ℕ) (list : List Token) → found (from text place) ≡ scan.Gap (from text next) → IsPlace text next → SoFar text place list → SoFar text next list
at_gap text place next list e p so =
    let gap = means text place (scan.Gap (from text next)) e in
    record { is_place = p; reads = λ ts h. so.reads ts (gap.reads (length text) ts h); fails = λ q h. so.fails q (gap.fails q h) }

pub at_blanks : (text : List ℕ) (place next : ℕ) (list : List Token) → IsEnd text place (after_run is_blank (from text place)) next → SoFar text place list → SoFar text next list
at_blanks text place next list e so =
    let gap = subst (IsGap (from text place)) e.rest_is (blanks_gap (from text place)) in
    record { is_place = e.place; reads = λ ts h. so.reads ts (gap.reads (length text) ts h); fails = λ q h. so.fails q (gap.fails q h) }

token_reads : (text : List ℕ) (place next : ℕ) (k : TokenKind) (ts : List Token) → IsPlace text place → IsPlace text next → IsToken k (from text place) (from text next) → Reads (length text) (from text next) ts → Reads (length text) (from text place) (record { kind = k; from = place; to = next } ∷ ts)
token_reads text place next k ts p q t h =
    let a = place_from text place p in
    let b = place_from text next q in
    subst (λ l. Reads (length text) (from text place) (l ∷ ts)) (λ i. record { kind = k; from = a i; to = b i }) (token t.spelled t.longest t.apart h)

pub at_token : (text : List ℕ) (place next : ℕ) (k : TokenKind) (list : List Token) → found (from text place) ≡ scan.Token k (from text next) → IsPlace text next → SoFar text place list → SoFar text next (list ++ record { kind = k; from = place; to = next } ∷ [])
at_token text place next k list e p so =
    let t = means text place (scan.Token k (from text next)) e in
    record {
      is_place = p;
      reads = λ ts h. subst (Reads (length text) (from text 0)) (sym (append_assoc list (record { kind = k; from = place; to = next } ∷ []) ts)) (so.reads _ (token_reads text place next k ts so.is_place p t h));
      fails = λ q h. so.fails q (past_token t.spelled t.longest t.apart h);
    }

pub at_end : (text : List ℕ) (place : ℕ) (list : List Token) → found (from text place) ≡ scan.End → SoFar text place list → Reads (length text) (from text 0) list
at_end text place list e so =
    let ended : from text place ≡ [] = means text place scan.End e in
    subst (Reads (length text) (from text 0)) (append-nil list) (so.reads [] (subst (λ cs. Reads (length text) cs []) (sym ended) done))

pub at_bad : (text : List ℕ) (place at : ℕ) (list : List Token) → found (from text place) ≡ scan.Bad (from text at) → SoFar text place list → FirstBad (from text 0) (from text at)
at_bad text place at list e so = so.fails _ (bad (means text place (scan.Bad (from text at)) e))
