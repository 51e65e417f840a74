-- What stands in the slots of a page of pieces, and the slots of a page that is loaded.
use Rattle.std.proofs.Common.{◌≡◌, ◌≢◌, ℕ, zero, suc, ◌+◌, ◌<◌, ◌≤◌, List, [], ◌∷◌, Bool, true, false, not, ◌&&◌, ◌||◌, if◌then◌else◌, refl, sym, ap, ◌∙◌, subst, length, map, Option, None, Some, option_map, arith, eqb, eqb-true, eq-eqb}
use Rattle.std.specs.Prelude.{slice_get, slice_index_or}
use Rattle.std.proofs.lemmas.List.{append-nil}
use Rattle.std.proofs.lemmas.Option.{get_or_from_slice_get, slice_get-map}
use Rattle.page_nodes.specs.Entries.{at, body, distinct, listed}
use Rattle.page_tree.specs.declared.page.Page.{Page}
use Rattle.page_tree.specs.Pages.{nodes}
use Rattle.page_build.specs.Standing.{AreSpots, Child, Fixed, InSlot, IsLaidBy, IsStanding, filled, has_slot}
use Rattle.page_build.proofs.Pieces.{spots_of_laid}
use Rattle.page_plan.specs.Pages.{PagePiece}
use Rattle.life_laws.specs.Chains.{listed as has_one}
use Rattle.slot_picks.specs.declared.lives.Place.{Place as PlaceOf}
use Rattle.slot_picks.specs.Places.{roots_of}
use Rattle.slot_picks.specs.Lives.{is_present, present_of}
use Rattle.page_load.specs.Laying.{LaysOut}
use Rattle.page_load.specs.Lives.{HaveRoots}
use Rattle.page_load.specs.Loads.{singles}

no_true : false ≡ true → ⊥
no_true e = cc

none_some : {A : Type 0} {a : A} → None ≡ Some a → ⊥
none_some e = cc

some_some : {A : Type 0} (a b : A) → Some a ≡ Some b → a ≡ b
some_some a b e = cc

or_right : (a : Bool) {b : Bool} → b ≡ true → (a || b) ≡ true
or_right true e = refl
or_right false e = e

or_left : {a : Bool} (b : Bool) → a ≡ true → (a || b) ≡ true
or_left {a = true} b e = refl
or_left {a = false} b e = absurd (no_true e)

and_right : (a : Bool) {b : Bool} → (not a && b) ≡ true → b ≡ true
and_right true e = absurd (no_true e)
and_right false e = e

and_left : {a : Bool} (b : Bool) → (not a && b) ≡ true → a ≡ false
and_left {a = true} b e = absurd (no_true e)
and_left {a = false} b e = refl

-- ## The children of `body`

-- the page of pieces with all of its slots
pub laid_by : (p : Page) (roots : List ℕ) (pieces : List PagePiece) → LaysOut p roots pieces → IsLaidBy p roots pieces
laid_by p roots pieces h = subst (λ r. IsLaidBy p r pieces) (append-nil roots) (h.laid [])

pub spots_are : (p : Page) (roots : List ℕ) (pieces : List PagePiece) → LaysOut p roots pieces → AreSpots p roots
spots_are p roots pieces h = spots_of_laid p roots pieces (laid_by p roots pieces h) h.places

-- what stands in a slot is a child
slot_listed : (spots : List ℕ) (w : ℕ) (cs : List Child) → has_slot w cs ≡ true → listed (slice_index_or spots w body) (filled cs spots) ≡ true
slot_listed spots w [] e = absurd (no_true e)
slot_listed spots w (Fixed n ∷ cs) e = or_right (eqb n (slice_index_or spots w body)) (slot_listed spots w cs e)
slot_listed spots w (InSlot u ∷ cs) e = by (slot_listed spots w cs) (eqb u w) refl e
  where
    by : (has_slot w cs ≡ true → listed (slice_index_or spots w body) (filled cs spots) ≡ true) → (b : Bool) → eqb u w ≡ b → (if b then true else has_slot w cs) ≡ true → listed (slice_index_or spots w body) (filled (InSlot u ∷ cs) spots) ≡ true
    by more true g t = or_left (listed (slice_index_or spots w body) (filled cs spots)) (eq-eqb (slice_index_or spots u body) (slice_index_or spots w body) (ap (λ v. slice_index_or spots v body) (eqb-true u w g)))
    by more false g t = or_right (eqb (slice_index_or spots u body) (slice_index_or spots w body)) (more t)

-- no node stands in two
slots_differ : (spots : List ℕ) (w u : ℕ) → w ≢ u → slice_index_or spots w body ≡ slice_index_or spots u body → (cs : List Child) → distinct (filled cs spots) ≡ true → has_slot w cs ≡ true → has_slot u cs ≡ true → ⊥
slots_differ spots w u ne same [] once e f = no_true e
slots_differ spots w u ne same (Fixed n ∷ cs) once e f = slots_differ spots w u ne same cs (and_right (listed n (filled cs spots)) once) e f
slots_differ spots w u ne same (InSlot z ∷ cs) once e f = by (slots_differ spots w u ne same cs) (eqb z w) refl e (eqb z u) refl f
  where
    -- it is not among the others
    lone : (x : ℕ) → slice_index_or spots z body ≡ x → listed x (filled cs spots) ≡ true → ⊥
    lone x here there = no_true (sym (and_left (distinct (filled cs spots)) once) ∙ ap (λ y. listed y (filled cs spots)) here ∙ there)

    by : (distinct (filled cs spots) ≡ true → has_slot w cs ≡ true → has_slot u cs ≡ true → ⊥) → (b : Bool) → eqb z w ≡ b → (if b then true else has_slot w cs) ≡ true → (c : Bool) → eqb z u ≡ c → (if c then true else has_slot u cs) ≡ true → ⊥
    by more true g t true h r = ne (sym (eqb-true z w g) ∙ eqb-true z u h)
    by more true g t false h r = lone (slice_index_or spots u body) (ap (λ v. slice_index_or spots v body) (eqb-true z w g) ∙ same) (slot_listed spots u cs r)
    by more false g t true h r = lone (slice_index_or spots w body) (ap (λ v. slice_index_or spots v body) (eqb-true z u h) ∙ sym same) (slot_listed spots w cs t)
    by more false g t false h r = more (and_right (listed (slice_index_or spots z body) (filled cs spots)) once) t r

pub spots_differ : (p : Page) (spots : List ℕ) → AreSpots p spots → (w u : ℕ) → w < length spots → u < length spots → slice_index_or spots w body ≡ slice_index_or spots u body → w ≡ u
spots_differ p spots h w u low lower same = by (eqb w u) refl
  where
    by : (b : Bool) → eqb w u ≡ b → w ≡ u
    by true e = eqb-true w u e
    by false e = absurd (slots_differ spots w u (λ g. no_true (sym e ∙ eq-eqb w u g)) same h.children (sym (ap distinct h.are) ∙ p.arena.sound.once body) (h.slots w low) (h.slots u lower))

-- what stands under `body` is not `body`
pub not_body : (p : Page) (n : ℕ) → IsStanding p n → n ≢ body
not_body p n h e = none_some (sym p.arena.sound.top ∙ ap (λ x. (at (nodes p) x).parent) (sym e) ∙ h.under)

-- ## Slots with one life each

-- the life that is present in one of them
pub single_at : (u n w v : ℕ) → slice_get (map present_of (singles u n)) w ≡ Some v → (v ≡ u + w) × (w < n)
single_at u zero w v e = absurd (none_some e)
single_at u (suc n) zero v e = (let same = some_some u v e in omega (arith, same), omega arith)
single_at u (suc n) (suc w) v e = let it = single_at (u + 1) n w v e in (omega (arith, it.0), omega (arith, it.1))

pub single_present : (u n v : ℕ) → u ≤ v → v < u + n → is_present v (singles u n) ≡ true
single_present u zero v le lt = absurd (omega (arith, le, lt))
single_present u (suc n) v le lt = by (eqb u v) refl (λ ne. single_present (u + 1) n v (omega (arith, le, ne)) (omega (arith, lt)))
  where
    by : (b : Bool) → eqb u v ≡ b → ((u ≡ v → ⊥) → is_present v (singles (u + 1) n) ≡ true) → (b || is_present v (singles (u + 1) n)) ≡ true
    by true e f = refl
    by false e f = f (λ g. no_true (sym e ∙ eq-eqb u v g))

pub single_listed : (u n v : ℕ) → has_one v (singles u n) ≡ true → v < u + n
single_listed u zero v e = absurd (no_true e)
single_listed u (suc n) v e = by (single_listed (u + 1) n v) (eqb u v) refl e
  where
    by : (has_one v (singles (u + 1) n) ≡ true → v < (u + 1) + n) → (b : Bool) → eqb u v ≡ b → (if (if b then true else false) then true else has_one v (singles (u + 1) n)) ≡ true → v < u + suc n
    by more true g t = let here = eqb-true u v g in omega (arith, here)
    by more false g t = let later = more t in omega (arith, later)

-- the nodes that stand in them
spots_from : (rs : List ℕ) (u n : ℕ) (xs : List ℕ) → length xs ≡ n → ((i : ℕ) → i < n → slice_index_or rs (u + i) body ≡ slice_index_or xs i body) → map (λ lives. slice_index_or rs (present_of lives) body) (singles u n) ≡ xs
spots_from rs u zero [] long are = refl
spots_from rs u zero (x ∷ xs) long are = absurd (omega (arith, long))
spots_from rs u (suc n) [] long are = absurd (omega (arith, long))
spots_from rs u (suc n) (x ∷ xs) long are =
    let here : slice_index_or rs u body ≡ x = ap (λ v. slice_index_or rs v body) (first u) ∙ are 0 (omega arith) in
    let more = spots_from rs (u + 1) n xs (omega (arith, long)) (λ i lt. ap (λ v. slice_index_or rs v body) (next u i) ∙ are (suc i) (omega (arith, lt))) in
    λ j. here j ∷ more j
  where
    first : (u : ℕ) → u ≡ u + 0
    first u = omega arith

    next : (u i : ℕ) → (u + 1) + i ≡ u + suc i
    next u i = omega arith

root_is : (roots : List ℕ) (places : List PlaceOf) → HaveRoots roots places → (i : ℕ) → i < length places → slice_index_or (roots_of places) i body ≡ slice_index_or roots i body
root_is roots places h i lt = by (slice_get places i) refl
  where
    there : (n : ℕ) (xs : List PlaceOf) → n < length xs → slice_get xs n ≡ None → ⊥
    there n [] lt e = omega (arith, lt)
    there zero (x ∷ xs) lt e = none_some (sym e)
    there (suc n) (x ∷ xs) lt e = there n xs (omega (arith, lt)) e

    by : (o : Option PlaceOf) → slice_get places i ≡ o → slice_index_or (roots_of places) i body ≡ slice_index_or roots i body
    by None e = absurd (there i places lt e)
    by (Some a) e = get_or_from_slice_get (roots_of places) i a.root body (slice_get-map (λ (x : PlaceOf). x.root) places i ∙ ap (option_map (λ (x : PlaceOf). x.root)) e) ∙ h i a e

pub spots_of_singles : (roots : List ℕ) (places : List PlaceOf) → HaveRoots roots places → length roots ≤ length places → map (λ lives. slice_index_or (roots_of places) (present_of lives) body) (singles 0 (length roots)) ≡ roots
spots_of_singles roots places h few = spots_from (roots_of places) 0 (length roots) roots refl (λ i lt. ap (λ v. slice_index_or (roots_of places) v body) (front i) ∙ root_is roots places h i (omega (arith, lt, few)))
  where
    front : (i : ℕ) → 0 + i ≡ i
    front i = omega arith

-- a node of the list
pub root_there : (roots : List ℕ) (n v : ℕ) → n ≡ slice_index_or roots v body → v < length roots → slice_get roots v ≡ Some n
root_there roots n v e lt = by roots v lt ∙ ap Some (sym e)
  where
    by : (xs : List ℕ) (i : ℕ) → i < length xs → slice_get xs i ≡ Some (slice_index_or xs i body)
    by [] i lt = absurd (omega (arith, lt))
    by (x ∷ xs) zero lt = refl
    by (x ∷ xs) (suc i) lt = by xs i (omega (arith, lt))

pub root_past : (roots : List ℕ) (v : ℕ) → length roots ≤ v → slice_index_or roots v body ≡ body
root_past [] v le = refl
root_past (x ∷ xs) zero le = absurd (omega (arith, le))
root_past (x ∷ xs) (suc v) le = root_past xs v (omega (arith, le))
