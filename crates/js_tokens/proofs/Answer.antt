-- The answer of the scanner.
use Rattle.std.proofs.Common.{◌≡◌, ℕ, ◌-◌, List, [], ◌∷◌, length, take, inl, inr, Result, Ok, Err, IfOk, IfErr, MatchResult, refl, ap, ◌∙◌, subst, sym}
use Rattle.std.specs.Str.{IsUtf8, IsValidUpTo, chars}
use Rattle.std.proofs.lemmas.Bool.{cases_order}
use Rattle.js_tokens.specs.declared.token.Token.{Token}
use Rattle.js_tokens.specs.declared.token.TokenFault.{TokenFault}
use Rattle.js_tokens.specs.declared.token.TokenFault.TheVariants as fault
use Rattle.js_tokens.specs.Lexes.{Lexes, Reads, FirstBad, BadPlace, IsFault, size}
use Rattle.js_tokens.specs.Lexes.BadPlace.{ill_formed, bad_token}
use Rattle.js_tokens.specs.Cursor.{from}
use Rattle.js_tokens.specs.Pieces.{IsScanFault}
use Rattle.js_tokens.proofs.Readings.{reads_once, bad_not, first_once}
use Rattle.js_tokens.proofs.Slices.{place_from}

from_start : (text : List ℕ) → from text 0 ≡ chars text
unfolding from
from_start text = refl

lexes : (text bytes : List ℕ) (ts : List Token) → text ≡ bytes → IsUtf8 bytes → Reads (length text) (from text 0) ts → Lexes bytes ts
lexes text bytes ts same utf8 h = (utf8, subst (λ b. Reads (length b) (chars b) ts) same (subst (λ cs. Reads (length text) cs ts) (from_start text) h))

is_fault : (text bytes : List ℕ) (e : TokenFault) → text ≡ bytes → IsUtf8 bytes → IsScanFault text e → IsFault bytes e
is_fault text bytes fault.Memory same utf8 h = tt
is_fault text bytes (fault.BadToken at) same utf8 h =
    let first : FirstBad (chars text) (from text at) = subst (λ cs. FirstBad cs (from text at)) (from_start text) (h.1) in
    let place = place_from text at (h.0) in
    bad_token (from text at) utf8 (subst (λ b. FirstBad (chars b) (from text at)) same first) (sym place ∙ ap (λ b. length b - size (from text at)) same)

whole_length : (bytes : List ℕ) → take (length bytes) bytes ≡ bytes
whole_length [] = refl
whole_length (b ∷ bs) = ap (λ l. b ∷ l) (whole_length bs)

not_both : (bytes : List ℕ) (at : ℕ) → IsValidUpTo bytes at → IsUtf8 bytes → ⊥
not_both bytes at v u = v.longest (length bytes) v.short (subst IsUtf8 (sym (whole_length bytes)) u)

-- a text with a bad place has no reading
pub no_reading : (bytes : List ℕ) (at : ℕ) (ts : List Token) → BadPlace bytes at → Lexes bytes ts → ⊥
no_reading bytes at ts (ill_formed v) l = not_both bytes at v (l.0)
no_reading bytes at ts (bad_token place u first e) l = bad_not first (l.1)

-- a text has one reading
pub one_reading : (bytes : List ℕ) (ts us : List Token) → Lexes bytes ts → Lexes bytes us → ts ≡ us
one_reading bytes ts us l m = reads_once (l.1) (m.1)

one_fault : (bytes : List ℕ) (at other : ℕ) → IsValidUpTo bytes at → IsValidUpTo bytes other → at ≡ other
one_fault bytes at other v w =
    elim (cases_order at other) [
      | inl e ↦ e
      | inr (inl lt) ↦ absurd (v.longest other lt w.front)
      | inr (inr lt) ↦ absurd (w.longest at lt v.front)
    ]

-- a text has one bad place
pub one_place : (bytes : List ℕ) (at other : ℕ) → BadPlace bytes at → BadPlace bytes other → at ≡ other
one_place bytes at other (ill_formed v) (ill_formed w) = one_fault bytes at other v w
one_place bytes at other (ill_formed v) (bad_token place u first e) = absurd (not_both bytes at v u)
one_place bytes at other (bad_token place u first e) (ill_formed v) = absurd (not_both bytes other v u)
one_place bytes at other (bad_token place u first e) (bad_token here v second f) = e ∙ ap (λ p. length bytes - size p) (first_once first second) ∙ sym f

-- a value that is answered is a reading, and an error has its cause
module _ {A : Type 0} (items : A → List Token) (text bytes : List ℕ) (same : text ≡ bytes) (utf8 : IsUtf8 bytes) where
  pub found_answer : (r : Result A TokenFault) → IfOk r (λ v. Reads (length text) (from text 0) (items v)) → IfOk r (λ v. Lexes bytes (items v))
  found_answer (Ok v) h = lexes text bytes (items v) same utf8 h
  found_answer (Err e) h = tt

  pub place_answer : (r : Result A TokenFault) → IfErr r (λ e. IsScanFault text e) → IfErr r (λ e. IsFault bytes e)
  place_answer (Ok v) h = tt
  place_answer (Err e) h = is_fault text bytes e same utf8 h

  error_only : (e : TokenFault) (ts : List Token) → Lexes bytes ts → IsFault bytes e → e ≡ fault.Memory
  error_only fault.Memory ts l h = refl
  error_only (fault.BadToken at) ts l h = absurd (no_reading bytes at ts h l)

  pub only_answer : (r : Result A TokenFault) → IfOk r (λ v. Lexes bytes (items v)) → IfErr r (λ e. IsFault bytes e) → (ts : List Token) → Lexes bytes ts → MatchResult r (λ v. items v ≡ ts) (λ e. e ≡ fault.Memory)
  only_answer (Ok v) h g ts l = reads_once (h.1) (l.1)
  only_answer (Err e) h g ts l = error_only e ts l g
