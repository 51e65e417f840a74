-- Flags of the numbers of a list.
use Rattle.std.proofs.Common.{◌≡◌, ℕ, zero, suc, ◌+◌, ◌<◌, Bool, true, false, not, ◌||◌, List, [], ◌∷◌, length, take, nat_eq, slice_get, slice_set, slice_index, unwrap_or, refl, sym, ◌∙◌, ap, arith}
use Rattle.std.proofs.lemmas.Grind.{common_steps}
use Rattle.std.proofs.lemmas.List.Folds.{list_any_more}
use Rattle.std.specs.List.{list_all, list_any}

-- flags that are all false
pub all_false : (flags : List Bool) (w : ℕ) → list_all not flags ≡ true → unwrap_or (slice_get flags w) false ≡ false
all_false [] w none = refl
all_false (true ∷ flags) w none = cc
all_false (false ∷ flags) zero none = refl
all_false (false ∷ flags) (suc w) none = all_false flags w none

-- one flag more
flag_set : (flags : List Bool) (v w : ℕ) → v < length flags → unwrap_or (slice_get (slice_set flags v true) w) false ≡ (unwrap_or (slice_get flags w) false || nat_eq w v)
flag_set [] v w within = absurd (omega arith)
flag_set (b ∷ flags) zero zero within = grind (arith, common_steps)
flag_set (b ∷ flags) zero (suc w) within = grind (arith, common_steps)
flag_set (b ∷ flags) (suc v) zero within = grind (arith, common_steps)
flag_set (b ∷ flags) (suc v) (suc w) within = grind (arith, common_steps, flag_set flags v w (omega arith))

-- the flags of a list up to a number, after it
pub flags_more : (flags : List Bool) (xs : List ℕ) (i w : ℕ) → i < length xs → slice_index xs i < length flags → unwrap_or (slice_get flags w) false ≡ list_any (nat_eq w) (take i xs) → unwrap_or (slice_get (slice_set flags (slice_index xs i) true) w) false ≡ list_any (nat_eq w) (take (i + 1) xs)
flags_more flags xs i w within fits so_far =
    flag_set flags (slice_index xs i) w fits ∙ ap (λ b. b || nat_eq w (slice_index xs i)) so_far ∙ sym (list_any_more (nat_eq w) xs i 0 within)
