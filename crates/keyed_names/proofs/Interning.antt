-- A name and its number.
use Rattle.std.proofs.Common.{◌≡◌, ℕ, ◌<◌, Bool, true, false, if◌then◌else◌, eqb, List, [], ◌∷◌, ◌++◌, length, position, slice_get, Option, Some, None, get_or, refl, sym, ap, ◌∙◌, subst, inl, inr, true≢false, ◌≤◌, arith, length-append}
use Rattle.std.specs.List.{list_any}
use Rattle.std.specs.Str.{bytes_eq}
use Rattle.std.proofs.lemmas.Option.{slice_get-get_or}
use Rattle.std.proofs.lemmas.List.{get_or_push}
use Rattle.std.proofs.lemmas.List.Folds.{list_any_at}
use Rattle.std.proofs.lemmas.List.Quantifiers.{position-Some}
use Rattle.std.proofs.lemmas.Slice.Eq.{bytes_eq-Decides}
use Rattle.std.proofs.lemmas.Option.{slice_get_within, get_or_from_slice_get}
use Rattle.std.proofs.lemmas.Map.Keys.{apart_from_distinct, any_passes_from_place}
use Rattle.std.proofs.lemmas.Bool.Decides.{same_from_decides, Decides-eqb, eqb_tells, leb_tells}
use Rattle.std.proofs.Math.ListN.{get_or-append}
use Rattle.std.specs.Prelude.{MatchOption}
use Rattle.keyed_names.specs.Interned.{Interns, interned, IsTable, AreDistinct}

-- where the first equal name is
pub found_at : (names : List (List ℕ)) (name : List ℕ) (n : ℕ) → position (bytes_eq name) names ≡ Some n → (slice_get names n ≡ Some name) × (n < length names)
found_at names name n at =
    let p = position-Some (bytes_eq name) names n name at in
    let same : get_or names n name ≡ name = sym ((bytes_eq-Decides name (get_or names n name)).0 p.1) in
    (slice_get-get_or names n name p.0 ∙ ap Some same, p.0)

pub interns_new : (keys names new : List (List ℕ)) (name copy : List ℕ) (n : ℕ) → keys ≡ names → new ≡ interned keys copy → copy ≡ name → list_any (bytes_eq name) names ≡ false → n ≡ length keys → Interns names new name n
interns_new keys names new name copy n view is same none len =
    let is : new ≡ interned names name = is ∙ (λ i. interned (view i) (same i)) in
    let all : new ≡ names ++ name ∷ [] = is ∙ ap (λ b. if b then names else names ++ name ∷ []) none in
    let len : n ≡ length names = len ∙ ap length view in
    let lt : n < length (names ++ name ∷ []) = omega (arith, length-append names (name ∷ [])) in
    let at : slice_get (names ++ name ∷ []) n ≡ Some name = slice_get-get_or (names ++ name ∷ []) n name lt ∙ ap Some (get_or_push names name name n (sym len)) in
    record {
      table = is;
      found = ap (λ l. slice_get l n) all ∙ at;
      within = subst (λ l. n < length l) (sym all) lt;
    }

-- two places of a table with one text are one place
same_place : (names : List (List ℕ)) (i j : ℕ) → AreDistinct names → i < length names → j < length names → get_or names i [] ≡ get_or names j [] → i ≡ j
same_place names i j distinct li lj same =
    let yes : bytes_eq (get_or names i []) (get_or names j []) ≡ true = (bytes_eq-Decides (get_or names i []) (get_or names j [])).1 same in
    let back : bytes_eq (get_or names j []) (get_or names i []) ≡ true = (bytes_eq-Decides (get_or names j []) (get_or names i [])).1 (sym same) in
    elim (eqb_tells i j) [
      | inl h ↦ h.1
      | inr h ↦ elim (leb_tells i j) [
        | inl g ↦ absurd (true≢false (sym yes ∙ apart_from_distinct bytes_eq names i j [] distinct (omega (arith, g.1, h.1)) lj))
        | inr g ↦ absurd (true≢false (sym back ∙ apart_from_distinct bytes_eq names j i [] distinct g.1 li))
      ]
    ]

-- a number and its text are told alike
pub same_test : (names : List (List ℕ)) (name : List ℕ) (n : ℕ) → IsTable names → slice_get names n ≡ Some name → (k : ℕ) → k < length names → eqb n k ≡ bytes_eq name (get_or names k [])
same_test names name n table at k lt =
    let within = slice_get_within names n name at in
    let here : get_or names n [] ≡ name = get_or_from_slice_get names n name [] at in
    let tells = bytes_eq-Decides name (get_or names k []) in
    same_from_decides (eqb n k) (bytes_eq name (get_or names k [])) (Decides-eqb n k) (
      (λ h. same_place names n k table.distinct within lt (here ∙ tells.0 h)),
      (λ e. tells.1 (sym here ∙ ap (λ j. get_or names j []) e)),
    )

-- a name that is not interned is none of the texts
pub none_test : (names : List (List ℕ)) (name : List ℕ) → list_any (bytes_eq name) names ≡ false → (k : ℕ) → k < length names → bytes_eq name (get_or names k []) ≡ false
none_test names name at k lt = by (bytes_eq name (get_or names k [])) refl
  where
    by : (b : Bool) → bytes_eq name (get_or names k []) ≡ b → b ≡ false
    by false e = refl
    by true e = absurd (true≢false (sym (list_any_at (bytes_eq name) names k [] lt e) ∙ at))

-- numbers keep their texts when a name is interned
pub stays : (old new : List (List ℕ)) (name : List ℕ) → new ≡ interned old name → (k : ℕ) → k < length old → get_or new k [] ≡ get_or old k []
stays old new name is k lt = ap (λ l. get_or l k []) is ∙ by (list_any (bytes_eq name) old)
  where
    by : (b : Bool) → get_or (if b then old else old ++ name ∷ []) k [] ≡ get_or old k []
    by true = refl
    by false = get_or-append old (name ∷ []) [] k lt

pub longer : (old new : List (List ℕ)) (name : List ℕ) → new ≡ interned old name → length old ≤ length new
longer old new name is = subst (λ l. length old ≤ length l) (sym is) (by (list_any (bytes_eq name) old))
  where
    by : (b : Bool) → length old ≤ length (if b then old else old ++ name ∷ [])
    by true = omega arith
    by false = omega (arith, length-append old (name ∷ []))

-- a number that a look-up gave
pub interns_same : (names : List (List ℕ)) (name : List ℕ) (o : Option ℕ) (n : ℕ) → MatchOption o (list_any (bytes_eq name) names ≡ false) (λ m. (slice_get names m ≡ Some name) × (m < length names)) → o ≡ Some n → Interns names names name n
interns_same names name None n h e = absurd (none_some e)
  where
    none_some : {X : Type 0} {x : X} → None ≡ Some x → ⊥
    none_some e = cc
interns_same names name (Some m) n h e =
    let eq : m ≡ n = cc in
    let yes : list_any (bytes_eq name) names ≡ true = any_passes_from_place (bytes_eq name) names m name h.0 ((bytes_eq-Decides name name).1 refl) in
    record {
      table = ap (λ b. if b then names else names ++ name ∷ []) (sym yes);
      found = ap (λ k. slice_get names k) (sym eq) ∙ h.0;
      within = subst (λ k. k < length names) eq h.1;
    }
