-- Words between spaces.
use Rattle.std.proofs.Common.{◌≡◌, ◌≢◌, ℕ, ◌+◌, ◌<◌, ◌≤◌, List, [], ◌∷◌, Bool, true, false, not, ◌||◌, refl, sym, ap, ◌∙◌, length, take, drop, get_or, cond, arith, eqb, eqb-true, subst, ⊎_elim}
use Rattle.std.proofs.lemmas.Bool.{cases_Bool, cases_lt}
use Rattle.std.proofs.lemmas.List.{at_drop_more, at_drop_all, take_all}
use Rattle.std.proofs.lemmas.List.Splits.{slice_split_first}
use Rattle.std.specs.Prelude.{◌==◌}
use Rattle.std.specs.List.{list_any, onto_first, position_or_len}
use Rattle.std.specs.Str.{bytes_eq}
use Rattle.query_grammar.specs.Filters.{words}

abbrev is_space : ℕ → Bool
is_space u = u == 32

no_space : (u : ℕ) → u ≢ 32 → is_space u ≡ false
no_space u ne = ⊎_elim (λ e. absurd (ne (eqb-true u 32 e))) (λ e. e) (cases_Bool (eqb u 32))

pub not_yet : (us : List ℕ) (i : ℕ) → i < length us → get_or us i 0 ≢ 32 → position_or_len is_space us ≡ i + position_or_len is_space (drop i us) → position_or_len is_space us ≡ (i + 1) + position_or_len is_space (drop (i + 1) us)
not_yet us i lt ne h =
    let here = at_drop_more (position_or_len is_space) us i 0 lt in
    let one : position_or_len is_space (get_or us i 0 ∷ drop (i + 1) us) ≡ 1 + position_or_len is_space (drop (i + 1) us) = rw (no_space (get_or us i 0) ne) refl in
    omega (arith, h, here, one)

pub found_here : (us : List ℕ) (i : ℕ) → i < length us → get_or us i 0 ≡ 32 → position_or_len is_space us ≡ i + position_or_len is_space (drop i us) → i ≡ position_or_len is_space us
found_here us i lt e h =
    let here = at_drop_more (position_or_len is_space) us i 0 lt in
    let one : position_or_len is_space (get_or us i 0 ∷ drop (i + 1) us) ≡ 0 = rw e refl in
    omega (arith, h, here, one)

pub nowhere : (us : List ℕ) (i : ℕ) → length us ≤ i → i ≤ length us → position_or_len is_space us ≡ i + position_or_len is_space (drop i us) → length us ≡ position_or_len is_space us
nowhere us i ge le h =
    let none = at_drop_all (position_or_len is_space) us i ge in
    omega (arith, h, none)

-- without a space it is one word
pub whole : (us : List ℕ) → length us ≡ position_or_len is_space us → words us ≡ us ∷ []
whole [] h = refl
whole (u ∷ us) h = by_test (is_space u) (λ e. whole us e) h
  where
    by_test : (b : Bool) → (length us ≡ position_or_len is_space us → words us ≡ us ∷ []) → length (u ∷ us) ≡ cond (not b) (1 + position_or_len is_space us) 0 → cond b ([] ∷ words us) (onto_first u (words us)) ≡ (u ∷ us) ∷ []
    by_test true more h = absurd (omega (arith, h))
    by_test false more h = ap (onto_first u) (more (omega (arith, h)))

-- the first word, and the others
pub parts : (us : List ℕ) (end : ℕ) → end ≡ position_or_len is_space us → end < length us → words us ≡ take end us ∷ words (drop (end + 1) us)
parts us end e lt = subst (λ n. words us ≡ take n us ∷ words (drop (n + 1) us)) (sym e) (slice_split_first is_space us 0 (omega (arith, lt, e)))

-- the first word is met
pub word_met : (w us : List ℕ) (end : ℕ) → end ≡ position_or_len is_space us → end ≤ length us → bytes_eq w (take end us) ≡ true → true ≡ list_any (bytes_eq w) (words us)
word_met w us end e le h = ⊎_elim
    (λ lt. sym (ap (list_any (bytes_eq w)) (parts us end e lt) ∙ ap (λ b. b || list_any (bytes_eq w) (words (drop (end + 1) us))) h))
    (λ ge. sym (ap (list_any (bytes_eq w)) (whole us (omega (arith, ge, le, e))) ∙ ap (λ b. b || false) (ap (bytes_eq w) (sym (take_all end us ge)) ∙ h)))
    (cases_lt end (length us))

pub last_word : (w us : List ℕ) (end : ℕ) → end ≡ position_or_len is_space us → end ≡ length us → bytes_eq w (take end us) ≡ false → false ≡ list_any (bytes_eq w) (words us)
last_word w us end e same h = sym (ap (list_any (bytes_eq w)) (whole us (omega (arith, same, e))) ∙ ap (λ b. b || false) (ap (bytes_eq w) (sym (take_all end us (omega (arith, same)))) ∙ h))

pub next_word : (w us : List ℕ) (end : ℕ) → end ≡ position_or_len is_space us → end < length us → bytes_eq w (take end us) ≡ false → list_any (bytes_eq w) (words us) ≡ list_any (bytes_eq w) (words (drop (end + 1) us))
next_word w us end e lt h = ap (list_any (bytes_eq w)) (parts us end e lt) ∙ ap (λ b. b || list_any (bytes_eq w) (words (drop (end + 1) us))) h
