-- Properties that stand before.
use Rattle.std.proofs.Common.{◌≡◌, ℕ, zero, suc, ◌+◌, ◌<◌, List, [], ◌∷◌, ◌++◌, Bool, true, false, refl, sym, ap, ◌∙◌, not, ◌&&◌, ◌||◌, length, map, take, drop, get_or, set, arith, add-one}
use Rattle.std.specs.List.{list_any}
use Rattle.std.specs.Str.{bytes_eq}
use Rattle.std.proofs.lemmas.Slice.Eq.{bytes_eq-Decides}
use Rattle.style_text.specs.Styles.{Pair, is_used}

-- a word that is in a list and has no mark
pub free_any : (us : List ℕ) (used : List ℕ → Bool) (ws : List (List ℕ)) → list_any (λ w. bytes_eq us w && not (used w)) ws ≡ (list_any (bytes_eq us) ws && not (used us))
free_any us used [] = refl
free_any us used (w ∷ ws) = by_test (bytes_eq us w) refl (free_any us used ws)
  where
    twice : (b : Bool) → (not b || (list_any (bytes_eq us) ws && not b)) ≡ not b
    twice true = elim (list_any (bytes_eq us) ws) as (λ a. (false || (a && false)) ≡ false) [ true ↦ refl | false ↦ refl ]
    twice false = refl

    by_test : (b : Bool) → bytes_eq us w ≡ b → list_any (λ v. bytes_eq us v && not (used v)) ws ≡ (list_any (bytes_eq us) ws && not (used us)) → ((b && not (used w)) || list_any (λ v. bytes_eq us v && not (used v)) ws) ≡ ((b || list_any (bytes_eq us) ws) && not (used us))
    by_test false e more = more
    by_test true e more =
        ap (λ v. not (used v) || list_any (λ v. bytes_eq us v && not (used v)) ws) (sym ((bytes_eq-Decides us w).0 e))
        ∙ ap (λ a. not (used us) || a) more ∙ twice (used us)

used_more : (ps : List Pair) (n v w : List ℕ) → (is_used ps w || bytes_eq n w) ≡ is_used (ps ++ (n, v) ∷ []) w
unfolding is_used
used_more [] n v w = elim (bytes_eq n w) as (λ b. b ≡ (b || false)) [ true ↦ refl | false ↦ refl ]
used_more (p ∷ ps) n v w = elim (bytes_eq p.0 w) as (λ b. ((b || is_used ps w) || bytes_eq n w) ≡ (b || is_used (ps ++ (n, v) ∷ []) w)) [
  | true ↦ refl
  | false ↦ used_more ps n v w
]

-- one more pair
pub marks_more : (ps : List Pair) (n v : List ℕ) (ws : List (List ℕ)) → map (λ w. is_used ps w || bytes_eq n w) ws ≡ map (is_used (ps ++ (n, v) ∷ [])) ws
marks_more ps n v [] = refl
marks_more ps n v (w ∷ ws) = ap (λ b. b ∷ map (λ w. is_used ps w || bytes_eq n w) ws) (used_more ps n v w) ∙ ap (λ l. is_used (ps ++ (n, v) ∷ []) w ∷ l) (marks_more ps n v ws)

-- marks that are written one after the other
module _ {R : Type 0} (old new : R → Bool) where
  pub mark_read : (table : List R) (i : ℕ) (r : R) → i < length table → r ≡ get_or table i r → get_or (map new (take i table) ++ map old (drop i table)) i false ≡ old r
  mark_read [] i r lt e = absurd (omega (arith, lt))
  mark_read (t ∷ ts) zero r lt e = ap old (sym e)
  mark_read (t ∷ ts) (suc i) r lt e = mark_read ts i r (omega (arith, lt)) e

  written : (table : List R) (i : ℕ) (r : R) → i < length table → r ≡ get_or table i r → set (map new (take i table) ++ map old (drop i table)) i (new r) ≡ map new (take (suc i) table) ++ map old (drop (suc i) table)
  written [] i r lt e = absurd (omega (arith, lt))
  written (t ∷ ts) zero r lt e = ap (λ x. new x ∷ map old ts) e
  written (t ∷ ts) (suc i) r lt e = ap (λ l. new t ∷ l) (written ts i r (omega (arith, lt)) e)

  pub mark_written : (table : List R) (marks : List Bool) (i : ℕ) (r : R) (b : Bool) → i < length table → r ≡ get_or table i r → marks ≡ map new (take i table) ++ map old (drop i table) → b ≡ new r → set marks i b ≡ map new (take (i + 1) table) ++ map old (drop (i + 1) table)
  mark_written table marks i r b lt e m eb = ap (λ l. set l i b) m ∙ ap (set (map new (take i table) ++ map old (drop i table)) i) eb ∙ rw add-one (written table i r lt e)
