-- Nodes at places.
use Rattle.std.proofs.Common.{◌≡◌, ℕ, ◌+◌, ◌<◌, ◌≤◌, List, [], ◌∷◌, ◌++◌, Bool, true, false, refl, sym, ap, ◌∙◌, length, drop, map, get_or, cond, append_assoc}
use Rattle.std.proofs.lemmas.List.{at_drop_more, at_drop_all, append-nil}
use Rattle.std.specs.Prelude.{◌==◌, ◌%◌}
use Rattle.std.specs.List.{filter, enumerate_from}

abbrev pub placed : ℕ → ℕ → List ℕ → List ℕ
placed r i ns = map (λ p. p.1) (filter (λ p. p.0 % 2 == r) (enumerate_from i ns))

placed_first : (r i x : ℕ) (ns : List ℕ) → placed r i (x ∷ ns) ≡ cond (i % 2 == r) (x ∷ []) [] ++ placed r (i + 1) ns
placed_first r i x ns = by_test (i % 2 == r)
  where
    by_test : (b : Bool) → map (λ p. p.1) (cond b ((i, x) ∷ filter (λ p. p.0 % 2 == r) (enumerate_from (i + 1) ns)) (filter (λ p. p.0 % 2 == r) (enumerate_from (i + 1) ns))) ≡ cond b (x ∷ []) [] ++ placed r (i + 1) ns
    by_test true = refl
    by_test false = refl

pub placed_more : (r : ℕ) (xs : List ℕ) (i x : ℕ) (old new all : List ℕ) → i < length xs → x ≡ get_or xs i x → new ≡ old ++ cond (i % 2 == r) (x ∷ []) [] → old ++ placed r i (drop i xs) ≡ all → new ++ placed r (i + 1) (drop (i + 1) xs) ≡ all
placed_more r xs i x old new all lt e en inv =
    ap (λ l. l ++ placed r (i + 1) (drop (i + 1) xs)) en ∙ append_assoc old (cond (i % 2 == r) (x ∷ []) []) (placed r (i + 1) (drop (i + 1) xs))
    ∙ ap (λ l. old ++ l) (sym (placed_first r i x (drop (i + 1) xs)) ∙ ap (λ y. placed r i (y ∷ drop (i + 1) xs)) e ∙ sym (at_drop_more (placed r i) xs i x lt))
    ∙ inv

pub placed_done : (r : ℕ) (xs : List ℕ) (i : ℕ) (old all : List ℕ) → length xs ≤ i → old ++ placed r i (drop i xs) ≡ all → old ≡ all
placed_done r xs i old all le inv = sym (append-nil old) ∙ ap (λ l. old ++ l) (sym (at_drop_all (placed r i) xs i le)) ∙ inv
