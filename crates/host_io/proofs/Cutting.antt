-- Lines of bytes.
use Rattle.std.proofs.Common.{◌≡◌, ◌≢◌, ℕ, zero, suc, ◌+◌, ◌-◌, ◌<◌, ◌≤◌, Bool, false, List, [], ◌∷◌, ◌++◌, Some, option_map, cond, length, take, drop, get_or, refl, sym, ap, subst, ◌∙◌, arith, eq-eqb, ne_eqb, take_all, take-append-drop, drop_of_length-le}
use Rattle.std.proofs.lemmas.List.{drop_more, drop-drop}
use Rattle.std.proofs.lemmas.List.Elements.{All-head, All-tail}
use Rattle.std.specs.Prelude.{◌==◌}
use Rattle.std.specs.List.{slice_get}
use Rattle.host_io.specs.Lines.{onto_first, lines_of, IsLine}

pub ended : (line rest : List ℕ) → IsLine line → lines_of (line ++ 10 ∷ rest) ≡ line ∷ lines_of rest
ended [] rest all = ap (λ t. cond t ([] ∷ lines_of rest) (onto_first 10 (lines_of rest))) (eq-eqb 10 10 refl)
ended (b ∷ line) rest all =
    let more = lines_of (line ++ 10 ∷ rest) in
    ap (λ t. cond t ([] ∷ more) (onto_first b more)) (ne_eqb b 10 (All-head (λ y. y ≢ 10) b line all))
    ∙ ap (onto_first b) (ended line rest (All-tail (λ y. y ≢ 10) b line all))

pub last : (line : List ℕ) → IsLine line → line ≢ [] → lines_of line ≡ line ∷ []
last [] all some = absurd (some refl)
last (b ∷ []) all some = ap (λ t. cond t ([] ∷ []) (onto_first b [])) (ne_eqb b 10 (All-head (λ y. y ≢ 10) b [] all))
last (b ∷ c ∷ line) all some =
    let more = lines_of (c ∷ line) in
    ap (λ t. cond t ([] ∷ more) (onto_first b more)) (ne_eqb b 10 (All-head (λ y. y ≢ 10) b (c ∷ line) all))
    ∙ ap (onto_first b) (last (c ∷ line) (All-tail (λ y. y ≢ 10) b (c ∷ line) all) (λ e. cc))

-- ## A cut at a line feed, or at the end

-- a cut at a line feed
cut_feed : (bytes : List ℕ) (n : ℕ) → n < length bytes → get_or bytes n 0 ≡ 10 → bytes ≡ take n bytes ++ 10 ∷ drop (n + 1) bytes
cut_feed bytes n within feed =
    sym (take-append-drop n bytes) ∙ ap (λ l. take n bytes ++ l) (drop_more bytes n 0 within ∙ ap (λ b. b ∷ drop (n + 1) bytes) feed)

-- a list of some length is not empty
not_empty : (bytes : List ℕ) → 0 < length bytes → bytes ≢ []
not_empty [] some = λ e. omega arith
not_empty (b ∷ bytes) some = λ e. cc

-- the first line is what stands before the first line feed, or all
first_line : (bytes : List ℕ) (n : ℕ) → n ≤ length bytes → IsLine (take n bytes) → (n < length bytes → get_or bytes n 0 ≡ 10) → 0 < length bytes → lines_of bytes ≡ take n bytes ∷ lines_of (drop (n + 1) bytes)
first_line bytes n within line feed some = by_gap (length bytes - n) refl
  where
    by_gap : (gap : ℕ) → length bytes - n ≡ gap → lines_of bytes ≡ take n bytes ∷ lines_of (drop (n + 1) bytes)
    by_gap zero is =
        let all : take n bytes ≡ bytes = take_all n bytes (omega arith) in
        let none : drop (n + 1) bytes ≡ [] = drop_of_length-le bytes {i = n + 1} (omega arith) in
        last bytes (subst IsLine all line) (not_empty bytes some)
        ∙ sym (ap (λ l. l ∷ lines_of (drop (n + 1) bytes)) all ∙ ap (λ l. bytes ∷ lines_of l) none)
    by_gap (suc gap) is =
        let here : n < length bytes = omega arith in
        ap lines_of (cut_feed bytes n here (feed here)) ∙ ended (take n bytes) (drop (n + 1) bytes) line

-- ## Lines in memory, from a place on

lines_there : (bytes rest : List ℕ) (at n : ℕ) → rest ≡ drop at bytes → n ≤ length rest → IsLine (take n rest) → (n < length rest → get_or rest n 0 ≡ 10) → 0 < length rest
    → lines_of (drop at bytes) ≡ take n rest ∷ lines_of (drop (at + n + 1) bytes)
lines_there bytes rest at n is within line feed some =
    let next : at + (n + 1) ≡ at + n + 1 = omega arith in
    ap lines_of (sym is) ∙ first_line rest n within line feed some
    ∙ ap (λ l. take n rest ∷ lines_of l) (ap (drop (n + 1)) is ∙ drop-drop (n + 1) at bytes ∙ ap (λ k. drop k bytes) next)

pub mem_line : (bytes rest line : List ℕ) (at n max : ℕ) → rest ≡ drop at bytes → n ≤ length rest → IsLine (take n rest) → (n < length rest → get_or rest n 0 ≡ 10) → 0 < length rest
    → line ≡ take (max + 1) (take n rest) → Some line ≡ option_map (take (max + 1)) (slice_get (lines_of (drop at bytes)) 0)
mem_line bytes rest line at n max is within plain feed some held =
    ap Some held ∙ sym (ap (λ ls. option_map (take (max + 1)) (slice_get ls 0)) (lines_there bytes rest at n is within plain feed some))

pub mem_rest : (bytes rest : List ℕ) (at n : ℕ) → rest ≡ drop at bytes → n ≤ length rest → IsLine (take n rest) → (n < length rest → get_or rest n 0 ≡ 10) → 0 < length rest
    → lines_of (drop (at + n + 1) bytes) ≡ drop 1 (lines_of (drop at bytes))
mem_rest bytes rest at n is within line feed some = sym (ap (drop 1) (lines_there bytes rest at n is within line feed some))

pub some_length : (bytes : List ℕ) (none : Bool) → none ≡ (length bytes == 0) → none ≡ false → 0 < length bytes
some_length [] none is some = let never : ⊥ = cc in absurd never
some_length (b ∷ bytes) none is some = omega arith

-- ## Nothing

pub no_length : (bytes : List ℕ) → length bytes ≡ 0 → bytes ≡ []
no_length [] none = refl
no_length (b ∷ bytes) none = absurd (omega arith)
