-- Marks of one byte and longer ones.
use Rattle.std.proofs.Common.{◌≡◌, ℕ, List, [], ◌∷◌, length, get_or, true, false, refl, ap, ◌∙◌, sym, arith}
use Rattle.std.specs.Prelude.{nat_eq, if◌then◌else◌}
use Rattle.std.specs.Str.{bytes_eq}
use Rattle.std.proofs.lemmas.Bool.{cond_both, false_from_ne_true, both_ways}
use Rattle.std.proofs.lemmas.Slice.Eq.{bytes_eq-Decides}
use Rattle.js_grammar.specs.declared.Sign.{Sign}
use Rattle.js_cursor.specs.Signs.{look_up}

-- the rows of more or fewer than one byte
abbrev pub long : List (List ℕ × Sign) → List (List ℕ × Sign)
long [] = []
long (row ∷ rows) = if nat_eq (length row.0) 1 then long rows else row ∷ long rows

other_length : (s t : List ℕ) → nat_eq (length t) 1 ≡ true → nat_eq (length s) 1 ≡ false → bytes_eq s t ≡ false
other_length s t one other = false_from_ne_true (bytes_eq s t) (λ h. both_ways (nat_eq (length s) 1) other (ap (λ l. nat_eq (length l) 1) ((bytes_eq-Decides s t).0 h) ∙ one))

pub look_up_long : (rows : List (List ℕ × Sign)) (s : List ℕ) → nat_eq (length s) 1 ≡ false → look_up (long rows) s ≡ look_up rows s
look_up_long [] s other = refl
look_up_long (row ∷ rows) s other =
    cond_both (nat_eq (length row.0) 1) (long rows) (row ∷ long rows) (λ l. look_up l s ≡ look_up (row ∷ rows) s)
    (λ one. look_up_long rows s other ∙ sym (ap (λ b. if b then row.1 else look_up rows s) (other_length s row.0 one other)))
    (λ _. ap (λ x. if bytes_eq s row.0 then row.1 else x) (look_up_long rows s other))

pub one_byte : (s : List ℕ) → length s ≡ 1 → s ≡ get_or s 0 0 ∷ []
one_byte [] e = absurd (omega (arith, e))
one_byte (b ∷ []) e = refl
one_byte (b ∷ c ∷ s) e = absurd (omega (arith, e))
