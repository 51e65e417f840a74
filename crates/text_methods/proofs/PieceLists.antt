-- The pieces of a text, as a walk makes them.
use Rattle.std.proofs.Common.{◌≡◌, ℕ, zero, suc, ◌+◌, ◌-◌, ◌<◌, ◌≤◌, List, [], ◌∷◌, ◌++◌, length, map, take, drop, get_or, true, false, Some, None, refl, sym, ap, ◌∙◌, arith, nat_eq, append_assoc, length-drop}
use Rattle.std.specs.List.{onto_first, starts_with}
use Rattle.std.proofs.lemmas.List.{drop_all, drop_more, get_or-drop, take_all, take_more, drop-drop}
use Rattle.text_search.specs.Places.{IsFirst, NoneFrom}
use Rattle.widget_meaning.specs.TextNatives.{cut_here, pieces, pieces_from}

-- these units stand before the first piece
abbrev pub front : List ℕ → List (List ℕ) → List (List ℕ)
front [] ps = ps
front (u ∷ us) ps = onto_first u (front us ps)

front_push : (us : List ℕ) (u : ℕ) (ps : List (List ℕ)) → front (us ++ u ∷ []) ps ≡ front us (onto_first u ps)
front_push [] u ps = refl
front_push (v ∷ us) u ps = ap (onto_first v) (front_push us u ps)

front_end : (us : List ℕ) (ps : List (List ℕ)) → front us ([] ∷ ps) ≡ us ∷ ps
front_end [] ps = refl
front_end (u ∷ us) ps = ap (onto_first u) (front_end us ps)

-- units that are passed over
passed : (x : List ℕ) (k : ℕ) (us : List ℕ) → k ≤ length us → pieces_from x k us ≡ pieces_from x 0 (drop k us)
passed x zero us le = refl
passed x (suc k) [] le = absurd (omega (arith, le))
passed x (suc k) (u ∷ us) le = passed x k us (omega (arith, le))

module _ (t x : List ℕ) where
  -- the units of the piece that a walk is in
  abbrev pub piece : ℕ → ℕ → List ℕ
  piece start at = take (at - start) (drop start t)

  -- what is to come
  abbrev pub rest : ℕ → ℕ → List (List ℕ)
  rest start at = front (piece start at) (pieces_from x 0 (drop at t))

  unit : ℕ → ℕ
  unit at = get_or t at 0

  opened : (at : ℕ) → at < length t → drop at t ≡ unit at ∷ drop (at + 1) t
  unfolding unit
  opened at lt = drop_more t at 0 lt

  longer : (start at : ℕ) → start ≤ at → at < length t → piece start (at + 1) ≡ piece start at ++ unit at ∷ []
  unfolding unit
  longer start at le lt =
      let e : (at + 1) - start ≡ (at - start) + 1 = omega (arith, le) in
      let f : start + (at - start) ≡ at = omega (arith, le) in
      ap (λ n. take n (drop start t)) e
      ∙ take_more (drop start t) (at - start) 0 (omega (arith, length-drop start t, le, lt))
      ∙ ap (λ u. piece start at ++ u ∷ []) (get_or-drop start t (at - start) 0 ∙ ap (λ n. get_or t n 0) f)

  -- a unit of the piece
  walked : (start at : ℕ) → start ≤ at → at < length t → starts_with nat_eq (drop at t) x ≡ false → rest start (at + 1) ≡ rest start at
  walked start at le lt nay =
      ap (λ us. front us (pieces_from x 0 (drop (at + 1) t))) (longer start at le lt)
      ∙ front_push (piece start at) (unit at) (pieces_from x 0 (drop (at + 1) t))
      ∙ sym (ap (λ us. front (piece start at) (pieces_from x 0 us)) (opened at lt)
      ∙ ap (λ b. front (piece start at) (cut_here b x (unit at) (λ k. pieces_from x k (drop (at + 1) t)))) (sym (ap (λ us. starts_with nat_eq us x) (opened at lt)) ∙ nay))

  pub none_yet : (at : ℕ) → rest at at ≡ pieces_from x 0 (drop at t)
  none_yet at = let e : at - at ≡ 0 = omega arith in ap (λ n. front (take n (drop at t)) (pieces_from x 0 (drop at t))) e

  -- units at none of which the text stands
  skipped : (start n : ℕ) → start + n ≤ length t → NoneFrom t x start (start + n) → rest start (start + n) ≡ rest start start
  skipped start zero le none = let e : start + zero ≡ start = omega arith in ap (rest start) e
  skipped start (suc n) le none =
      let e : start + suc n ≡ (start + n) + 1 = omega arith in
      ap (rest start) e
      ∙ walked start (start + n) (omega arith) (omega (arith, le)) (none (start + n) (omega arith) (omega arith))
      ∙ skipped start n (omega (arith, le)) (λ k more fewer. none k more (omega (arith, fewer)))

  -- the same up to a place
  skipped_to : (start at : ℕ) → start ≤ at → at ≤ length t → NoneFrom t x start at → rest start at ≡ rest start start
  skipped_to start at le within none =
      let e : start + (at - start) ≡ at = omega (arith, le) in
      sym (ap (rest start) e)
      ∙ skipped start (at - start) (omega (arith, le, within)) (λ k more fewer. none k more (omega (arith, fewer, le)))

  -- the text ends a piece
  cut : (start at : ℕ) → at < length t → 0 < length x → starts_with nat_eq (drop at t) x ≡ true → length x ≤ length (drop at t) → rest start at ≡ piece start at ∷ rest (at + length x) (at + length x)
  cut start at lt filled sure fits =
      let e : at + 1 + (length x - 1) ≡ at + length x = omega (arith, filled) in
      ap (λ us. front (piece start at) (pieces_from x 0 us)) (opened at lt)
      ∙ ap (λ b. front (piece start at) (cut_here b x (unit at) (λ k. pieces_from x k (drop (at + 1) t)))) (sym (ap (λ us. starts_with nat_eq us x) (opened at lt)) ∙ sure)
      ∙ front_end (piece start at) (pieces_from x (length x - 1) (drop (at + 1) t))
      ∙ ap (λ ps. piece start at ∷ ps) (passed x (length x - 1) (drop (at + 1) t) (omega (arith, length-drop (at + 1) t, length-drop at t, fits, filled))
      ∙ ap (pieces_from x 0) (drop-drop (length x - 1) (at + 1) t ∙ ap (λ n. drop n t) e)
      ∙ sym (none_yet (at + length x)))

  -- where it stands first a piece ends
  pub cut_first : (start at : ℕ) → 0 < length x → IsFirst t x start (Some at) → rest start start ≡ piece start at ∷ rest (at + length x) (at + length x)
  cut_first start at filled first =
      let within : at + length x ≤ length t = first.1.within in
      sym (skipped_to start at first.0 (omega (arith, within)) first.2)
      ∙ cut start at (omega (arith, within, filled)) filled first.1.here (omega (arith, within, length-drop at t))

  -- the last piece
  pub cut_last : (start : ℕ) → start ≤ length t → IsFirst t x start None → rest start start ≡ drop start t ∷ []
  cut_last start le none =
      sym (skipped_to start (length t) le (omega arith) (λ k more fewer. none k more (omega (arith, fewer))))
      ∙ ap (λ us. front (piece start (length t)) (pieces_from x 0 us)) (drop_all (length t) t (omega arith))
      ∙ front_end (piece start (length t)) []
      ∙ ap (λ us. us ∷ []) (take_all (length t - start) (drop start t) (omega (arith, length-drop start t, le)))

  -- a piece more
  pub pushed : (parts : List (List ℕ)) (p : List ℕ) (ps all : List (List ℕ)) → parts ++ (p ∷ ps) ≡ all → (parts ++ p ∷ []) ++ ps ≡ all
  pushed parts p ps all h = append_assoc parts (p ∷ []) ps ∙ h

-- a part of one unit
pub one_unit : (t : List ℕ) (i : ℕ) → i < length t → take ((i + 1) - i) (drop i t) ≡ get_or t i 0 ∷ []
one_unit t i lt =
    let e : (i + 1) - i ≡ 1 = omega arith in
    ap (λ n. take n (drop i t)) e ∙ ap (take 1) (drop_more t i 0 lt)

-- the empty text stands between all units
pub no_separator : (x t : List ℕ) → length x ≡ 0 → pieces x t ≡ map (λ u. u ∷ []) t
no_separator [] t e = refl
no_separator (u ∷ us) t e = absurd (omega (arith, e))

-- any other is looked for
pub some_separator : (x t : List ℕ) → 0 < length x → pieces x t ≡ pieces_from x 0 t
some_separator [] t lt = absurd (omega (arith, lt))
some_separator (u ∷ us) t lt = refl
