-- What is said again, saying by saying.
use Rattle.std.proofs.Common.{◌≡◌, ℕ, Bool, true, false, ◌||◌, not, List, [], ◌∷◌, refl, sym, ap, ◌∙◌, subst, inl, inr, ◌⊎◌, Option, length, ◌<◌, ◌+◌, ◌≤◌, get_or, drop}
use Rattle.std.specs.Str.{bytes_eq}
use Rattle.std.proofs.lemmas.List.{at_drop_more, at_drop_all}
use Rattle.std.proofs.Common.{cond}
use Rattle.std.specs.Ordering.{nat_cmp, is_eq}
use Rattle.std.specs.Cmp.Lexicographic.{slice_cmp, nat_list_eq_equiv}
use Rattle.std.proofs.lemmas.Map.Text.{is_eq-slice_cmp}
use Rattle.first_breach.specs.declared.Breach.{Breach}
use Rattle.first_breach.specs.Lists.{In, here, later}
use Rattle.first_breach.specs.Breaches.{Nothing, One, If, Either, Each}
use Rattle.first_breach.specs.Narrowing.{Narrows}
use Rattle.first_breach.proofs.Members.{in_none}
use Rattle.first_breach.proofs.Narrowing.{narrows_then, narrows_beside, narrows_none}
use Rattle.markup_rules.specs.declared.repeats.Saying.{Saying}
use Rattle.markup_rules.specs.Rows.{Twice}

-- what is still to be found behind what was seen: a saying that was seen, or one that comes twice
abbrev pub StillTwice : ℕ → (List ℕ → Bool) → List Saying → ℕ → ℕ → Type 0
StillTwice rule seen rest = Either (Each (λ t. If (seen t.text) (One rule t.at)) rest) (Twice rule rest)

-- one text more is seen
abbrev pub with_text : (List ℕ → Bool) → List ℕ → List ℕ → Bool
with_text seen k t = seen t || bytes_eq t k

or_left : (a b : Bool) → a ≡ true → (a || b) ≡ true
or_left a b e = ap (λ x. x || b) e

or_right : (a b : Bool) → b ≡ true → (a || b) ≡ true
or_right true b e = refl
or_right false b e = e

or_split : (a b : Bool) → (a || b) ≡ true → (a ≡ true) ⊎ (b ≡ true)
or_split true b e = inl refl
or_split false b e = inr e

not_back : (a b : Bool) → a ≡ not b → not a ≡ b
not_back true true e = sym e
not_back true false e = refl
not_back false true e = refl
not_back false false e = sym e

module _ (rule : ℕ) (seen : List ℕ → Bool) (x : Saying) (rest : List Saying) where
  split_more : (r p : ℕ) → StillTwice rule seen (x ∷ rest) r p → If (seen x.text) (One rule x.at) r p ⊎ StillTwice rule (with_text seen x.text) rest r p
  split_more r p (inl h) = by h.item h.is_in h.broken
    where
      by : (t : Saying) → In t (x ∷ rest) → If (seen t.text) (One rule t.at) r p → If (seen x.text) (One rule x.at) r p ⊎ StillTwice rule (with_text seen x.text) rest r p
      by _ here b = inl b
      by t (later i) b = inr (inl (record { item = t; is_in = i; broken = record { passed = or_left _ _ b.passed; broken = b.broken } }))
  split_more r p (inr (inl h)) = inr (inl (record { item = h.item; is_in = h.is_in; broken = record { passed = or_right (seen h.item.text) (bytes_eq h.item.text x.text) h.broken.passed; broken = h.broken.broken } }))
  split_more r p (inr (inr h)) = inr (inr h)

  left_more : (r p : ℕ) → If (seen x.text) (One rule x.at) r p → StillTwice rule seen (x ∷ rest) r p
  left_more r p h = inl (record { item = x; is_in = here; broken = h })

  right_more : (r p : ℕ) → StillTwice rule (with_text seen x.text) rest r p → StillTwice rule seen (x ∷ rest) r p
  right_more r p (inl h) = elim (or_split (seen h.item.text) (bytes_eq h.item.text x.text) h.broken.passed) [
    | inl e ↦ inl (record { item = h.item; is_in = later h.is_in; broken = record { passed = e; broken = h.broken.broken } })
    | inr e ↦ inr (inl (record { item = h.item; is_in = h.is_in; broken = record { passed = e; broken = h.broken.broken } }))
  ]
  right_more r p (inr h) = inr (inr h)

-- one saying more
pub again_more : {C : ℕ → ℕ → Type 0} {a b c : Option Breach} (rule : ℕ) (seen : List ℕ → Bool) (x : Saying) (rest : List Saying) → Narrows C a (StillTwice rule seen (x ∷ rest)) b → Narrows (If (seen x.text) (One rule x.at)) b Nothing c → Narrows C a (StillTwice rule (with_text seen x.text) rest) c
again_more rule seen x rest s t = narrows_then s (narrows_beside t (split_more rule seen x rest) (left_more rule seen x rest) (right_more rule seen x rest))

pub again_step : {C : ℕ → ℕ → Type 0} {a b c : Option Breach} (rule : ℕ) (old new : List ℕ → Bool) (xs : List Saying) (i : ℕ) (x : Saying) (copy : List ℕ) (is_new : Bool) → i < length xs → x ≡ get_or xs i x → copy ≡ x.text → is_new ≡ not (old copy) → ((t : List ℕ) → new t ≡ with_text old copy t) → Narrows C a (StillTwice rule old (drop i xs)) b → Narrows (If (not is_new) (One rule x.at)) b Nothing c → Narrows C a (StillTwice rule new (drop (i + 1) xs)) c
again_step {C} {a} {b} {c} rule old new xs i x copy is_new lt is same fresh keys s t =
    let rest = drop (i + 1) xs in
    let e : drop i xs ≡ x ∷ rest = at_drop_more (λ l. l) xs i x lt ∙ ap (λ y. y ∷ rest) (sym is) in
    let hit : not is_new ≡ old x.text = not_back is_new (old x.text) (fresh ∙ ap (λ y. not (old y)) same) in
    let k : new ≡ with_text old x.text = (λ i t. (keys t ∙ ap (λ y. with_text old y t) same) i) in
    subst (λ l. Narrows C a (StillTwice rule l rest) c) (sym k)
    (again_more rule old x rest (subst (λ l. Narrows C a (StillTwice rule old l) b) e s) (subst (λ h. Narrows (If h (One rule x.at)) b Nothing c) hit t))

-- at the end nothing is left
pub again_end : {C : ℕ → ℕ → Type 0} {a b : Option Breach} (rule : ℕ) (seen : List ℕ → Bool) (xs : List Saying) (i : ℕ) → length xs ≤ i → Narrows C a (StillTwice rule seen (drop i xs)) b → Narrows C a Nothing b
again_end {C} {a} {b} rule seen xs i le s =
    narrows_then (subst (λ l. Narrows C a (StillTwice rule seen l) b) (at_drop_all (λ l. l) xs i le) s)
    (narrows_none (StillTwice rule seen []) b (λ r p h. elim h [ inl j ↦ in_none j.is_in | inr j ↦ j ]))

-- an ordered set with one text more
pub one_more : (old : List ℕ → Bool) (k t : List ℕ) (new : Bool) → new ≡ cond (is_eq (slice_cmp nat_cmp k t)) true (old t) → new ≡ with_text old k t
one_more old k t new e = e ∙ ap (λ b. cond b true (old t)) (is_eq-slice_cmp k t) ∙ by (old t) (bytes_eq k t) (bytes_eq t k) (both k t)
  where
    both : (a b : List ℕ) → bytes_eq a b ≡ bytes_eq b a
    both a b = nat_list_eq_equiv.symm a b

    by : (o b d : Bool) → b ≡ d → cond b true o ≡ (o || d)
    by true true d e = refl
    by false true d e = e
    by true false d e = refl
    by false false d e = e
