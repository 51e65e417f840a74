-- One more turn of the loops.
use Rattle.std.proofs.Common.{◌≡◌, ℕ, ◌<◌, ◌≤◌, List, ◌∷◌, Bool, true, false, Option, Some, None, MatchOption, refl, ap, ◌∙◌, sym, arith}
use Rattle.std.specs.Prelude.{nat_eq}
use Rattle.js_tokens.specs.Characters.{is_line_end}
use Rattle.js_tokens.specs.Lexes.{Backslash, part_of, is_escape}
use Rattle.js_tokens.specs.Cursor.{from, IsPlace}
use Rattle.js_tokens.specs.Scan.{after_string, first_bad, string_step, bad_step, is_backslash, noted}
use Rattle.js_tokens.specs.Pieces.{IsPairEnd}

-- the first bad escape of a string, read up to a place
abbrev pub BadSoFar : List ℕ → ℕ → ℕ → ℕ → Option ℕ → Type 0
BadSoFar text at quote place bad = MatchOption bad (first_bad quote false (from text at) ≡ first_bad quote false (from text place))
    (λ b. (first_bad quote false (from text at) ≡ Some (from text b)) × IsPlace text b)

-- a string, read up to a place
pub record StringSoFar (text : List ℕ) (at quote place : ℕ) (bad : Option ℕ) : Type 0 where
  pub later : at ≤ place
  pub is_place : IsPlace text place
  pub rest : after_string quote false (from text at) ≡ after_string quote false (from text place)
  pub first : BadSoFar text at quote place bad

backslash : (q c : ℕ) → nat_eq c q ≡ false → is_line_end c ≡ false → c ≡ 92 → part_of q c ≡ Backslash
backslash q c a b e = let is : nat_eq c 92 ≡ true = ap (λ x. nat_eq x 92) e in rw (a, b, is) refl

rest_more : (q c : ℕ) (cs ds rest : List ℕ) → cs ≡ c ∷ ds → part_of q c ≡ Backslash → after_string q true ds ≡ after_string q false rest → after_string q false cs ≡ after_string q false rest
rest_more q c cs ds rest e p h = ap (after_string q false) e ∙ ap (λ x. string_step x ds (after_string q (is_backslash x) ds)) p ∙ h

bad_more : (text : List ℕ) (at q c place next after : ℕ) (bad : Option ℕ) (good : Bool) → from text place ≡ c ∷ from text next → part_of q c ≡ Backslash → is_escape (from text next) ≡ good → IsPlace text place → first_bad q true (from text next) ≡ first_bad q false (from text after) → BadSoFar text at q place bad → BadSoFar text at q after (noted bad good place)
bad_more text at q c place next after (Some b) good e p g here h so = so
bad_more text at q c place next after None true e p g here h so =
    so ∙ ap (first_bad q false) e ∙ ap (λ x. bad_step x (is_escape (from text next)) (c ∷ from text next) (first_bad q (is_backslash x) (from text next))) p
    ∙ ap (λ x. bad_step Backslash x (c ∷ from text next) (first_bad q true (from text next))) g ∙ h
bad_more text at q c place next after None false e p g here h so = (
  so ∙ ap (first_bad q false) e ∙ ap (λ x. bad_step x (is_escape (from text next)) (c ∷ from text next) (first_bad q (is_backslash x) (from text next))) p
      ∙ ap (λ x. bad_step Backslash x (c ∷ from text next) (first_bad q true (from text next))) g ∙ ap Some (sym e),
  here,
)

pub string_more : (text : List ℕ) (at q c place next after : ℕ) (bad : Option ℕ) → from text place ≡ c ∷ from text next → place < next → nat_eq c q ≡ false → is_line_end c ≡ false → c ≡ 92 → IsPairEnd text next (Some after) → StringSoFar text at q place bad → StringSoFar text at q after (noted bad (is_escape (from text next)) place)
string_more text at q c place next after bad e lt a b is pair so =
    let p = backslash q c a b is in
    record {
      later = let x = so.later in let y = pair.0 in omega (arith, x, y, lt);
      is_place = pair.1;
      rest = so.rest ∙ rest_more q c (from text place) (from text next) (from text after) e p (pair.2 q);
      first = bad_more text at q c place next after bad (is_escape (from text next)) e p refl so.is_place (pair.3 q) so.first;
    }
