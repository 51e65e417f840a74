-- No two lists of files are one message.
use Rattle.std.proofs.Common.{◌≡◌, ℕ, ◌<◌, ◌^◌, List, [], ◌∷◌, ◌++◌, length, take, drop, refl, sym, ap, ◌∙◌, append_assoc, w64}
use Rattle.std.specs.Hash.{le_bytes}
use Rattle.std.specs.Int.{from_le_bytes}
use Rattle.std.specs.List.{AllByRecursion}
use Rattle.std.proofs.Math.Seq.{take-append_seam, drop-append_seam}
use Rattle.std.proofs.lemmas.Nat.{from_le_bytes-to_le_bytes_8}
use Rattle.keyed_names.specs.Keying.{message, IsShort}

-- two fronts of one length
fronts : (xs ys zs ws : List ℕ) → length xs ≡ length ys → xs ++ zs ≡ ys ++ ws → (xs ≡ ys) × (zs ≡ ws)
fronts xs ys zs ws same e = (
  sym (take-append_seam xs zs) ∙ (λ i. take (same i) (e i)) ∙ take-append_seam ys ws,
  sym (drop-append_seam xs zs) ∙ (λ i. drop (same i) (e i)) ∙ drop-append_seam ys ws,
)

eight : (n : ℕ) → length (le_bytes 8 n) ≡ 8
unfolding le_bytes
eight n = refl

-- a length is read from its bytes
one_length : (m n : ℕ) → m < 2 ^ 64 → n < 2 ^ 64 → le_bytes 8 m ≡ le_bytes 8 n → m ≡ n
unfolding le_bytes
one_length m n small fits e = sym (from_le_bytes-to_le_bytes_8 m small) ∙ ap (from_le_bytes w64) e ∙ from_le_bytes-to_le_bytes_8 n fits

some_bytes : (n : ℕ) (us : List ℕ) → [] ≡ le_bytes 8 n ++ us → ⊥
unfolding le_bytes
some_bytes n us e = cc

pub one_list : (xs ys : List (List ℕ)) → AllByRecursion IsShort xs → AllByRecursion IsShort ys → message xs ≡ message ys → xs ≡ ys
one_list [] [] a b e = refl
one_list [] (y ∷ ys) a b e = absurd (some_bytes (length y) (y ++ message ys) (e ∙ append_assoc (le_bytes 8 (length y)) y (message ys)))
one_list (x ∷ xs) [] a b e = absurd (some_bytes (length x) (x ++ message xs) (sym e ∙ append_assoc (le_bytes 8 (length x)) x (message xs)))
one_list (x ∷ xs) (y ∷ ys) a b e =
    let whole = sym (append_assoc (le_bytes 8 (length x)) x (message xs)) ∙ e ∙ append_assoc (le_bytes 8 (length y)) y (message ys) in
    let lengths = fronts (le_bytes 8 (length x)) (le_bytes 8 (length y)) (x ++ message xs) (y ++ message ys) (eight (length x) ∙ sym (eight (length y))) whole in
    let files = fronts x y (message xs) (message ys) (one_length (length x) (length y) a.0 b.0 lengths.0) lengths.1 in
    let rest = one_list xs ys a.1 b.1 files.1 in
    λ i. files.0 i ∷ rest i
