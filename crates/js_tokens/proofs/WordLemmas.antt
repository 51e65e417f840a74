-- Reserved words by their lengths.
use Rattle.std.proofs.Common.{◌≡◌, ℕ, List, [], ◌∷◌, Bool, true, false, length, refl, ap, ◌∙◌, sym}
use Rattle.std.specs.Prelude.{nat_eq, ◌||◌, if◌then◌else◌}
use Rattle.std.specs.List.{list_any, list_all}
use Rattle.std.specs.Str.{bytes_eq}
use Rattle.std.proofs.lemmas.Bool.{cond_both, eq-eqb, false_from_ne_true, both_ways}
use Rattle.std.proofs.lemmas.Slice.Eq.{bytes_eq-Decides}
use Rattle.js_tokens.specs.Words.{reserved_words, is_reserved}
use Rattle.js_tokens.proofs.Marks.{any_of, all_pass}

-- the words of this length
abbrev pub of_length : ℕ → List (List ℕ) → List (List ℕ)
of_length n [] = []
of_length n (w ∷ ws) = if nat_eq (length w) n then w ∷ of_length n ws else of_length n ws

other_length : (w v : List ℕ) → nat_eq (length v) (length w) ≡ false → bytes_eq w v ≡ false
other_length w v e = false_from_ne_true (bytes_eq w v) (λ h. both_ways (nat_eq (length v) (length w)) e (eq-eqb (length v) (length w) (ap length (sym ((bytes_eq-Decides w v).0 h)))))

any_length : (w : List ℕ) (ws : List (List ℕ)) → list_any (bytes_eq w) (of_length (length w) ws) ≡ list_any (bytes_eq w) ws
any_length w [] = refl
any_length w (v ∷ ws) =
    cond_both (nat_eq (length v) (length w)) (v ∷ of_length (length w) ws) (of_length (length w) ws) (λ vs. list_any (bytes_eq w) vs ≡ (bytes_eq w v || list_any (bytes_eq w) ws))
    (λ e. ap (λ b. bytes_eq w v || b) (any_length w ws))
    (λ e. any_length w ws ∙ ap (λ b. b || list_any (bytes_eq w) ws) (sym (other_length w v e)))

pub reserved_at : (w : List ℕ) (n : ℕ) → length w ≡ n → list_any (bytes_eq w) (of_length n reserved_words) ≡ is_reserved w
unfolding is_reserved
reserved_at w n e = ap (λ k. list_any (bytes_eq w) (of_length k reserved_words)) (sym e) ∙ any_length w reserved_words

abbrev pub is_length : ℕ → Bool
is_length n = nat_eq n 2 || nat_eq n 3 || nat_eq n 4 || nat_eq n 5 || nat_eq n 6 || nat_eq n 7 || nat_eq n 8 || nat_eq n 9 || nat_eq n 10 || nat_eq n 12

all_lengths : list_all (λ w. is_length (length w)) reserved_words ≡ true
unfolding reserved_words
all_lengths = refl

pub no_length : (w : List ℕ) → is_length (length w) ≡ false → is_reserved w ≡ false
unfolding is_reserved
no_length w e = false_from_ne_true _ (λ h. both_ways (is_length (length w)) e (any_of (λ v. is_length (length v) ≡ true) reserved_words (all_pass (λ v. is_length (length v)) reserved_words all_lengths) w h))
