-- What is held after a piece more.
use Rattle.std.proofs.Common.{◌≡◌, ℕ, ◌+◌, List, [], ◌∷◌, ◌++◌, take, drop, Option, Some, None, refl, zero, suc, ap, sym, ◌∙◌, append_assoc, arith, ◌-◌, length, length-drop}
use Rattle.std.proofs.lemmas.List.{take_rest}
use Rattle.std.proofs.lemmas.Grind.{common_steps}
use Rattle.host_io.specs.Sink.{with_bytes}

pub with_bytes-with_bytes : (o : Option (List ℕ)) (a b : List ℕ) → with_bytes (with_bytes o a) b ≡ with_bytes o (a ++ b)
with_bytes-with_bytes None a b = refl
with_bytes-with_bytes (Some held) a b = ap Some (append_assoc held a b)

pub take_more : (n m : ℕ) (xs : List ℕ) → take n xs ++ take m (drop n xs) ≡ take (n + m) xs
take_more zero m xs = let e : 0 + m ≡ m = omega arith in ap (λ k. take k xs) (sym e)
take_more (suc n) m [] = grind (arith, common_steps)
take_more (suc n) m (x ∷ xs) =
    let e : suc n + m ≡ suc (n + m) = omega arith in
    ap (λ rest. x ∷ rest) (take_more n m xs) ∙ ap (λ k. take k (x ∷ xs)) (sym e)

pub written_more : (old mid new : Option (List ℕ)) (n m : ℕ) (xs : List ℕ) → mid ≡ with_bytes old (take n xs) → new ≡ with_bytes mid (take m (drop n xs)) → new ≡ with_bytes old (take (n + m) xs)
written_more old mid new n m xs before piece =
    piece ∙ ap (λ o. with_bytes o (take m (drop n xs))) before ∙ with_bytes-with_bytes old (take n xs) (take m (drop n xs)) ∙ ap (λ bytes. with_bytes old bytes) (take_more n m xs)

pub piece_len : (at : ℕ) (xs : List ℕ) → length (take (length xs - at) (drop at xs)) ≡ length xs - at
piece_len at xs = ap length (take_rest xs at) ∙ length-drop at xs

pub piece_more : (old mid new : Option (List ℕ)) (at n : ℕ) (xs : List ℕ) → mid ≡ with_bytes old (take at xs) → new ≡ with_bytes mid (take n (take (length xs - at) (drop at xs))) → new ≡ with_bytes old (take (at + n) xs)
piece_more old mid new at n xs before piece = written_more old mid new at n xs before (piece ∙ ap (λ p. with_bytes mid (take n p)) (take_rest xs at))
