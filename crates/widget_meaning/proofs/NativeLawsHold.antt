-- The laws of what the natives use.
use Rattle.std.proofs.Common.{◌≡◌, ℕ, suc, zero, ◌-◌, ◌<◌, ◌≤◌, Bool, true, false, List, [], ◌∷◌, ◌++◌, length, drop, refl, ap, sym, ◌∙◌, append_assoc, arith}
use Rattle.std.specs.Prelude.{map, flat_map, nat_eq}
use Rattle.std.specs.List.{join_by, starts_with, onto_first}
use Rattle.std.proofs.lemmas.Bool.Decides.{Decides-eqb}
use Rattle.std.proofs.lemmas.Slice.Eq.{starts_is}
use Rattle.std.proofs.lemmas.Bool.{false≢true}
use Rattle.std.proofs.lemmas.List.{append-nil}
use Rattle.widget_meaning.specs.TextNatives.{pieces, pieces_from, cut_here}
use Rattle.widget_meaning.specs.NativeLaws.{SplitLaws, StandsNowhere, StandsFirstBehind, AreFirstPieces}

abbrev joined : List ℕ → List (List ℕ) → List ℕ
joined x ps = join_by (λ p. p) x ps

between : (x : List ℕ) (ps : List (List ℕ)) → 0 < length ps → flat_map (λ p. x ++ p) ps ≡ x ++ joined x ps
between x [] h = absurd (omega (arith, h))
between x (p ∷ ps) h = append_assoc x p (flat_map (λ p. x ++ p) ps)

one_more : (x : List ℕ) (u : ℕ) (ps : List (List ℕ)) → 0 < length ps → joined x (onto_first u ps) ≡ u ∷ joined x ps
one_more x u [] h = absurd (omega (arith, h))
one_more x u (p ∷ ps) h = refl

some_cut : (b : Bool) (x : List ℕ) (u : ℕ) (after : ℕ → List (List ℕ)) → 0 < length (after 0) → 0 < length (cut_here b x u after)
some_cut true x u after h = omega arith
some_cut false x u after h = first (after 0) h
  where
    first : (ps : List (List ℕ)) → 0 < length ps → 0 < length (onto_first u ps)
    first [] g = omega arith
    first (p ∷ ps) g = omega arith

some_pieces : (x : List ℕ) (k : ℕ) (t : List ℕ) → 0 < length (pieces_from x k t)
some_pieces x k [] = omega arith
some_pieces x zero (u ∷ us) = some_cut (starts_with nat_eq (u ∷ us) x) x u (λ k. pieces_from x k us) (some_pieces x 0 us)
some_pieces x (suc k) (u ∷ us) = some_pieces x k us

one_less : (n : ℕ) → suc n - 1 ≡ n
one_less n = omega arith

cut_joins : (b : Bool) (y : ℕ) (ys : List ℕ) (u : ℕ) (us : List ℕ) (after : ℕ → List (List ℕ)) → b ≡ starts_with nat_eq (u ∷ us) (y ∷ ys) → ((k : ℕ) → joined (y ∷ ys) (after k) ≡ drop k us) → ((k : ℕ) → 0 < length (after k)) → joined (y ∷ ys) (cut_here b (y ∷ ys) u after) ≡ u ∷ us
cut_joins true y ys u us after b after_joins some =
    rw (between (y ∷ ys) (after (suc (length ys) - 1)) (some (suc (length ys) - 1)))
    (rw (after_joins (suc (length ys) - 1))
    (rw (one_less (length ys)) (sym ((starts_is Decides-eqb (u ∷ us) (y ∷ ys) true b).0 refl))))
cut_joins false y ys u us after b after_joins some = rw (one_more (y ∷ ys) u (after 0) (some 0)) (ap (λ r. u ∷ r) (after_joins 0))

pieces_join : (y : ℕ) (ys : List ℕ) (k : ℕ) (t : List ℕ) → joined (y ∷ ys) (pieces_from (y ∷ ys) k t) ≡ drop k t
pieces_join y ys zero [] = refl
pieces_join y ys (suc k) [] = refl
pieces_join y ys zero (u ∷ us) = cut_joins (starts_with nat_eq (u ∷ us) (y ∷ ys)) y ys u us (λ k. pieces_from (y ∷ ys) k us) refl (λ k. pieces_join y ys k us) (λ k. some_pieces (y ∷ ys) k us)
pieces_join y ys (suc k) (u ∷ us) = pieces_join y ys k us

units : (t : List ℕ) → flat_map (λ p. [] ++ p) (map (λ u. u ∷ []) t) ≡ t
units [] = refl
units (u ∷ us) = ap (λ r. u ∷ r) (units us)

joins : (x t : List ℕ) → joined x (pieces x t) ≡ t
joins [] [] = refl
joins [] (u ∷ us) = ap (λ r. u ∷ r) (units us)
joins (y ∷ ys) t = pieces_join y ys 0 t

-- each piece ends where the text stands for the first time
no_units : (u : ℕ) (us : List ℕ) → [] ≡ u ∷ us → ⊥
no_units u us e = omega (arith, ap length e)

nowhere_in_none : (y : ℕ) (ys : List ℕ) → StandsNowhere (y ∷ ys) []
nowhere_in_none y ys [] rest e = no_units y (ys ++ rest) e
nowhere_in_none y ys (b ∷ bs) rest e = no_units b (bs ++ (y ∷ ys ++ rest)) e

first_behind_none : (x : List ℕ) → StandsFirstBehind x []
first_behind_none x before rest e = omega arith

-- where it does not stand in front, it stands nowhere in front of the rest
in_front : (x us rest : List ℕ) → us ≡ x ++ rest → starts_with nat_eq us x ≡ true
in_front x us rest e = (starts_is Decides-eqb us x (starts_with nat_eq us x) refl).1 rest e

not_in_front : (x us rest : List ℕ) → starts_with nat_eq us x ≡ false → us ≡ x ++ rest → ⊥
not_in_front x us rest f e = false≢true (sym f ∙ in_front x us rest e)

tails : (u b : ℕ) (us bs : List ℕ) → u ∷ us ≡ b ∷ bs → us ≡ bs
tails u b us bs e = ap (drop 1) e

whole_piece : (p us : List ℕ) → p ++ [] ≡ us → us ≡ p
whole_piece p us e = sym e ∙ append-nil p

longer_nowhere : (y : ℕ) (ys : List ℕ) (u : ℕ) (us p : List ℕ) → starts_with nat_eq (u ∷ us) (y ∷ ys) ≡ false → us ≡ p → StandsNowhere (y ∷ ys) p → StandsNowhere (y ∷ ys) (u ∷ p)
longer_nowhere y ys u us p f e h [] rest g = not_in_front (y ∷ ys) (u ∷ us) rest f (ap (λ r. u ∷ r) e ∙ g)
longer_nowhere y ys u us p f e h (b ∷ bs) rest g = h bs rest (tails u b p (bs ++ (y ∷ ys ++ rest)) g)

regrouped : (x p q r : List ℕ) → p ++ ((x ++ q) ++ r) ≡ (p ++ x) ++ (q ++ r)
regrouped x p q r = ap (λ l. p ++ l) (append_assoc x q r) ∙ sym (append_assoc p x (q ++ r))

longer_first : (y : ℕ) (ys : List ℕ) (u : ℕ) (us p q r : List ℕ) → starts_with nat_eq (u ∷ us) (y ∷ ys) ≡ false → us ≡ p ++ ((y ∷ ys ++ q) ++ r)
    → StandsFirstBehind (y ∷ ys) p → StandsFirstBehind (y ∷ ys) (u ∷ p)
longer_first y ys u us p q r f e h [] rest g =
    absurd (not_in_front (y ∷ ys) (u ∷ us) (rest ++ (q ++ r)) f
    (ap (λ l. u ∷ l) (e ∙ regrouped (y ∷ ys) p q r) ∙ (ap (λ l. l ++ (q ++ r)) g ∙ append_assoc (y ∷ ys) rest (q ++ r))))
longer_first y ys u us p q r f e h (b ∷ bs) rest g =
    let n : length p ≤ length bs = h bs rest (tails u b (p ++ (y ∷ ys)) (bs ++ (y ∷ ys ++ rest)) g) in
    omega (arith, n)

longer : (y : ℕ) (ys : List ℕ) (u : ℕ) (us : List ℕ) (ps : List (List ℕ)) → starts_with nat_eq (u ∷ us) (y ∷ ys) ≡ false → joined (y ∷ ys) ps ≡ us → AreFirstPieces (y ∷ ys) ps → AreFirstPieces (y ∷ ys) (onto_first u ps)
longer y ys u us [] f e h = absurd h
longer y ys u us (p ∷ []) f e h = longer_nowhere y ys u us p f (whole_piece p us e) h
longer y ys u us (p ∷ (q ∷ ps)) f e h = (longer_first y ys u us p q (flat_map (λ p. (y ∷ ys) ++ p) ps) f (sym e) h.0, h.1)

behind_none : (x : List ℕ) (ps : List (List ℕ)) → AreFirstPieces x ps → AreFirstPieces x ([] ∷ ps)
behind_none x [] h = absurd h
behind_none x (p ∷ ps) h = (first_behind_none x, h)

cut_first : (b : Bool) (y : ℕ) (ys : List ℕ) (u : ℕ) (us : List ℕ) (after : ℕ → List (List ℕ)) → starts_with nat_eq (u ∷ us) (y ∷ ys) ≡ b
    → joined (y ∷ ys) (after 0) ≡ us → ((k : ℕ) → AreFirstPieces (y ∷ ys) (after k)) → AreFirstPieces (y ∷ ys) (cut_here b (y ∷ ys) u after)
cut_first true y ys u us after e j h = behind_none (y ∷ ys) (after (suc (length ys) - 1)) (h (suc (length ys) - 1))
cut_first false y ys u us after e j h = longer y ys u us (after 0) e j (h 0)

first_pieces : (y : ℕ) (ys : List ℕ) (k : ℕ) (t : List ℕ) → AreFirstPieces (y ∷ ys) (pieces_from (y ∷ ys) k t)
first_pieces y ys zero [] = nowhere_in_none y ys
first_pieces y ys (suc k) [] = nowhere_in_none y ys
first_pieces y ys zero (u ∷ us) =
    cut_first (starts_with nat_eq (u ∷ us) (y ∷ ys)) y ys u us (λ k. pieces_from (y ∷ ys) k us) refl (pieces_join y ys 0 us) (λ k. first_pieces y ys k us)
first_pieces y ys (suc k) (u ∷ us) = first_pieces y ys k us

pub split_laws : SplitLaws
split_laws = record { joins = joins; first_pieces = λ x xs t. first_pieces x xs 0 t; units = λ t. refl }
