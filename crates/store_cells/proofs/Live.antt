-- A table with holes, without them.
use Rattle.std.proofs.Common.{◌≡◌, ℕ, zero, suc, ◌+◌, ◌-◌, ◌<◌, ◌≤◌, List, [], ◌∷◌, ◌++◌, length, get_or, set, take, drop, refl, sym, ap, ◌∙◌, subst, Option, Some, None, arith, Bool, true, false, eqb, cond, if◌then◌else◌, true≢false, slice_get, is_some, length-append, position}
use Rattle.std.specs.Prelude.{IfSome, option_to_list, ◌&&◌, ◌||◌, unwrap_or}
use Rattle.std.specs.Cmp.{nat_eq_equiv}
use Rattle.std.specs.List.{AllByRecursion, IsDistinct, list_any, swap_remove}
use Rattle.std.specs.Map.{keys_of, lookup, remove_entry}
use Rattle.std.specs.Option.{option_and_then, option_map, option_map_or}
use Rattle.std.proofs.lemmas.Bool.Decides.{nat_tests}
use Rattle.std.proofs.lemmas.Map.Keys.{IsDistinct-head, IsDistinct-tail}
use Rattle.std.proofs.lemmas.Map.Made.{IsDistinct-keys_filter}
use Rattle.std.proofs.lemmas.Option.{slice_get-get_or, unwrap_or-slice_get}
use Rattle.indexmap.specs.IndexMap.{insert_entry}
use Rattle.indexmap.proofs.MapLemmas.{index-first, some_index}
use Rattle.indexmap.proofs.RemoveLemmas.{own_first}
use Rattle.code_units.specs.Indices.{index_of}
use Rattle.store_cells.specs.declared.pairs.TheConstants.{FIRST_HOLE}
use Rattle.store_cells.specs.declared.value.Value.{Value}
use Rattle.store_cells.specs.Numbered.{live, name_at}
use Rattle.store_cells.specs.Holes.{IsFull, is_name, listed_in, listed_name, listed_names, place_key}
use Rattle.store_cells.specs.Shape.{Known}
use Rattle.store_cells.proofs.Entries.{lookup_filter}
use Rattle.store_cells.proofs.Lists.{none_some, some_same}

same_number : (n m : ℕ) → eqb n m ≡ true → n ≡ m
same_number n m e = grind (arith, nat_tests, e)

eqb_self : (n : ℕ) → eqb n n ≡ true
eqb_self n = grind (arith, nat_tests)

differ_flip : (a b : ℕ) → eqb a b ≡ false → eqb b a ≡ false
differ_flip a b e = grind (arith, nat_tests, e)

module _ (n : ℕ) where
  apart : {X : Type 0} (m : ℕ) → is_name n ≡ true → eqb n m ≡ true → is_name m ≡ false → X
  apart m h g f = absurd (true≢false (sym h ∙ ap is_name (same_number n m g) ∙ f))

  other : {X : Type 0} (m : ℕ) → is_name n ≡ false → eqb n m ≡ true → is_name m ≡ true → X
  other m h g f = absurd (true≢false (sym f ∙ ap is_name (sym (same_number n m g)) ∙ h))

  -- what is found
  pub live_lookup : (es : List (ℕ × Value)) → is_name n ≡ true → lookup (eqb n) es ≡ lookup (eqb n) (live es)
  live_lookup es h = sym (lookup_filter n is_name es h)

  pub live_none : (es : List (ℕ × Value)) → is_name n ≡ false → None ≡ lookup (eqb n) (live es)
  live_none [] h = refl
  live_none (e ∷ es) h = by (is_name e.0) refl (eqb n e.0) refl (live_none es h)
    where
      by : (b : Bool) → is_name e.0 ≡ b → (d : Bool) → eqb n e.0 ≡ d → None ≡ lookup (eqb n) (live es) → None ≡ lookup (eqb n) (cond b (e ∷ live es) (live es))
      by true f true g rest = other e.0 h g f
      by true f false g rest = rest ∙ sym (ap (λ b. cond b (Some e.1) (lookup (eqb n) (live es))) g)
      by false f d g rest = rest

  -- a name is written
  pub live_insert : (v : Value) (es : List (ℕ × Value)) → is_name n ≡ true → live (insert_entry eqb es n v) ≡ insert_entry eqb (live es) n v
  live_insert v [] h = ap (λ b. cond b ((n, v) ∷ []) []) h
  live_insert v (e ∷ es) h = by (eqb n e.0) refl (is_name e.0) refl (live_insert v es h)
    where
      by : (d : Bool) → eqb n e.0 ≡ d → (b : Bool) → is_name e.0 ≡ b → live (insert_entry eqb es n v) ≡ insert_entry eqb (live es) n v
          → live (if d then (e.0, v) ∷ es else e ∷ insert_entry eqb es n v) ≡ insert_entry eqb (cond b (e ∷ live es) (live es)) n v
      by true g true f rest = ap (λ b. cond b ((e.0, v) ∷ live es) (live es)) f ∙ sym (ap (λ d. if d then (e.0, v) ∷ live es else e ∷ insert_entry eqb (live es) n v) g)
      by true g false f rest = apart e.0 h g f
      by false g true f rest =
          ap (λ b. cond b (e ∷ live (insert_entry eqb es n v)) (live (insert_entry eqb es n v))) f
          ∙ ap (λ l. e ∷ l) rest
          ∙ sym (ap (λ d. if d then (e.0, v) ∷ live es else e ∷ insert_entry eqb (live es) n v) g)
      by false g false f rest = ap (λ b. cond b (e ∷ live (insert_entry eqb es n v)) (live (insert_entry eqb es n v))) f ∙ rest

  -- a name is taken out
  pub live_remove : (es : List (ℕ × Value)) → is_name n ≡ true → live (remove_entry (eqb n) es) ≡ remove_entry (eqb n) (live es)
  live_remove [] h = refl
  live_remove (e ∷ es) h = by (eqb n e.0) refl (is_name e.0) refl (live_remove es h)
    where
      by : (d : Bool) → eqb n e.0 ≡ d → (b : Bool) → is_name e.0 ≡ b → live (remove_entry (eqb n) es) ≡ remove_entry (eqb n) (live es)
          → live (cond d es (e ∷ remove_entry (eqb n) es)) ≡ remove_entry (eqb n) (cond b (e ∷ live es) (live es))
      by true g true f rest = sym (ap (λ d. cond d (live es) (e ∷ remove_entry (eqb n) (live es))) g)
      by true g false f rest = apart e.0 h g f
      by false g true f rest =
          ap (λ b. cond b (e ∷ live (remove_entry (eqb n) es)) (live (remove_entry (eqb n) es))) f
          ∙ ap (λ l. e ∷ l) rest
          ∙ sym (ap (λ d. cond d (live es) (e ∷ remove_entry (eqb n) (live es))) g)
      by false g false f rest = ap (λ b. cond b (e ∷ live (remove_entry (eqb n) es)) (live (remove_entry (eqb n) es))) f ∙ rest

  pub live_without : (es : List (ℕ × Value)) → is_name n ≡ false → live es ≡ remove_entry (eqb n) (live es)
  live_without [] h = refl
  live_without (e ∷ es) h = by (is_name e.0) refl (eqb n e.0) refl (live_without es h)
    where
      by : (b : Bool) → is_name e.0 ≡ b → (d : Bool) → eqb n e.0 ≡ d → live es ≡ remove_entry (eqb n) (live es) → cond b (e ∷ live es) (live es) ≡ remove_entry (eqb n) (cond b (e ∷ live es) (live es))
      by true f true g rest = other e.0 h g f
      by true f false g rest = ap (λ l. e ∷ l) rest ∙ sym (ap (λ d. cond d (live es) (e ∷ remove_entry (eqb n) (live es))) g)
      by false f d g rest = rest

  pub full_insert : (holes : ℕ) (v : Value) (es : List (ℕ × Value)) → is_name n ≡ true → IsFull holes es → IsFull holes (insert_entry eqb es n v)
  full_insert holes v es h full = λ none. live_insert v es h ∙ ap (λ l. insert_entry eqb l n v) (full none)

  pub full_remove : (holes : ℕ) (es : List (ℕ × Value)) → is_name n ≡ true → IsFull holes es → IsFull holes (remove_entry (eqb n) es)
  full_remove holes es h full = λ none. live_remove es h ∙ ap (remove_entry (eqb n)) (full none)

pub live_live : (es : List (ℕ × Value)) → live (live es) ≡ live es
live_live [] = refl
live_live (e ∷ es) = by (is_name e.0) refl (live_live es)
  where
    by : (b : Bool) → is_name e.0 ≡ b → live (live es) ≡ live es → live (cond b (e ∷ live es) (live es)) ≡ cond b (e ∷ live es) (live es)
    by true f rest = ap (λ b. cond b (e ∷ live (live es)) (live (live es))) f ∙ ap (λ l. e ∷ l) rest
    by false f rest = rest

pub live_distinct : (es : List (ℕ × Value)) → IsDistinct eqb (keys_of es) → IsDistinct eqb (keys_of (live es))
live_distinct es h = IsDistinct-keys_filter eqb (λ e. is_name e.0) es h

-- a name by its number
name_none : (names : List (List ℕ)) (k : ℕ) → None ≡ slice_get names k → [] ≡ get_or names k []
name_none names k e = ap (λ (o : Option (List ℕ)). unwrap_or o []) e ∙ unwrap_or-slice_get names k []

name_some : (names : List (List ℕ)) (k : ℕ) (t : List ℕ) → Some t ≡ slice_get names k → t ≡ get_or names k []
name_some names k t e = ap (λ (o : Option (List ℕ)). unwrap_or o []) e ∙ unwrap_or-slice_get names k []

-- names and holes
pub name_is : (n : ℕ) → n < FIRST_HOLE → is_name n ≡ true
name_is n lt = grind (arith, nat_tests, lt)

pub hole_is : (n : ℕ) → FIRST_HOLE ≤ n → is_name n ≡ false
hole_is n le = grind (arith, nat_tests, le)

-- a name that stands at a place
pub stands_first : (n k place : ℕ) (v : Value) (es : List (ℕ × Value)) → IsDistinct eqb (keys_of es) → slice_get es place ≡ Some (k, v) → eqb k n ≡ true → position (eqb n) (keys_of es) ≡ Some place
stands_first n k place v es distinct at same = index-first (eqb n) es place (own_first eqb nat_eq_equiv es place n v distinct (at ∙ ap (λ m. Some (m, v)) (same_number k n same)))

pub place_held : (n : ℕ) (o : Option ℕ) (es : List (ℕ × Value)) → is_name n ≡ true → o ≡ position (eqb n) (keys_of es) → is_some o ≡ is_some (lookup (eqb n) (live es))
place_held n o es name is = ap is_some is ∙ some_index (eqb n) es ∙ ap is_some (live_lookup n es name)

-- pairs of names have no holes
pub known_live : (es : List (ℕ × Value)) → Known FIRST_HOLE es → live es ≡ es
known_live [] h = refl
known_live (e ∷ es) h = ap (λ b. cond b (e ∷ live es) (live es)) (name_is e.0 h.0) ∙ ap (λ l. e ∷ l) (known_live es h.1)

-- a name that is there
pub held_name : (n : ℕ) (es : List (ℕ × Value)) → is_some (lookup (eqb n) (live es)) ≡ true → is_name n ≡ true
held_name n es h = by (is_name n) refl
  where
    by : (b : Bool) → is_name n ≡ b → b ≡ true
    by true f = refl
    by false f = absurd (true≢false (sym h ∙ ap is_some (sym (live_none n es f))))

pub held_there : (n : ℕ) (es : List (ℕ × Value)) → is_some (lookup (eqb n) (live es)) ≡ true → lookup (eqb n) es ≡ None → ⊥
held_there n es h e = true≢false (sym h ∙ ap is_some (sym (live_lookup n es (held_name n es h)) ∙ e))

-- a table after a write
pub written_live : (n : ℕ) (v : Value) (es after : List (ℕ × Value)) → is_name n ≡ true → after ≡ insert_entry eqb es n v → live after ≡ insert_entry eqb (live es) n v
written_live n v es after h e = ap live e ∙ live_insert n v es h

pub written_full : (holes n : ℕ) (v : Value) (es after : List (ℕ × Value)) → is_name n ≡ true → after ≡ insert_entry eqb es n v → IsFull holes es → IsFull holes after
written_full holes n v es after h e full = subst (IsFull holes) (sym e) (full_insert n holes v es h full)

-- a new number goes last
pub insert_last : (n : ℕ) (v : Value) (es : List (ℕ × Value)) → lookup (eqb n) es ≡ None → insert_entry eqb es n v ≡ es ++ (n, v) ∷ []
insert_last n v [] h = refl
insert_last n v (e ∷ es) h = by (eqb n e.0) h (insert_last n v es)
  where
    by : (b : Bool) → cond b (Some e.1) (lookup (eqb n) es) ≡ None → (lookup (eqb n) es ≡ None → insert_entry eqb es n v ≡ es ++ (n, v) ∷ []) → (if b then (e.0, v) ∷ es else e ∷ insert_entry eqb es n v) ≡ e ∷ (es ++ (n, v) ∷ [])
    by true g rest = absurd (none_some (sym g))
    by false g rest = ap (λ l. e ∷ l) (rest g)

-- the last of a table goes to a place
set_more : (es : List (ℕ × Value)) (x y : ℕ × Value) (i : ℕ) → i < length es → set (es ++ x ∷ []) i y ≡ set es i y ++ x ∷ []
set_more [] x y i lt = absurd (omega (arith, lt))
set_more (e ∷ es) x y zero lt = refl
set_more (e ∷ es) x y (suc i) lt = ap (λ l. e ∷ l) (set_more es x y i (omega (arith, lt)))

last_is : (es : List (ℕ × Value)) (x d : ℕ × Value) → get_or (es ++ x ∷ []) (length es) d ≡ x
last_is [] x d = refl
last_is (e ∷ es) x d = last_is es x d

take_first : (es : List (ℕ × Value)) (x : ℕ × Value) → take (length es) (es ++ x ∷ []) ≡ es
take_first [] x = refl
take_first (e ∷ es) x = ap (λ l. e ∷ l) (take_first es x)

set_length : (es : List (ℕ × Value)) (y : ℕ × Value) (i : ℕ) → length (set es i y) ≡ length es
set_length [] y i = refl
set_length (e ∷ es) y zero = refl
set_length (e ∷ es) y (suc i) = ap suc (set_length es y i)

swap_last : (es : List (ℕ × Value)) (x d : ℕ × Value) (i : ℕ) → i < length es → swap_remove (es ++ x ∷ []) i d ≡ set es i x
swap_last es x d i lt =
    let n : length (es ++ x ∷ []) - 1 ≡ length es = omega (arith, length-append es (x ∷ [])) in
    (λ j. take (n j) (set (es ++ x ∷ []) i (get_or (es ++ x ∷ []) (n j) d)))
    ∙ ap (λ y. take (length es) (set (es ++ x ∷ []) i y)) (last_is es x d)
    ∙ ap (take (length es)) (set_more es x x i lt)
    ∙ ap (λ k. take k (set es i x ++ x ∷ [])) (sym (set_length es x i))
    ∙ take_first (set es i x) x

-- a hole in the place of a name
at_place : (n : ℕ) (es : List (ℕ × Value)) (i m : ℕ) → option_map (λ (e : ℕ × Value). e.0) (slice_get es i) ≡ Some n → AllByRecursion (λ y. eqb m y ≡ false) (keys_of es) → eqb m n ≡ false
at_place n [] i m e h = absurd (none_some e)
at_place n (x ∷ es) zero m e h = ap (eqb m) (sym (some_same x.0 n e)) ∙ h.0
at_place n (x ∷ es) (suc i) m e h = at_place n es i m e h.1

set_live : (n hole : ℕ) (u : Value) (es : List (ℕ × Value)) (i : ℕ) → option_map (λ (e : ℕ × Value). e.0) (slice_get es i) ≡ Some n → is_name n ≡ true → is_name hole ≡ false → IsDistinct eqb (keys_of es) → live (set es i (hole, u)) ≡ remove_entry (eqb n) (live es)
set_live n hole u [] i at h f distinct = absurd (none_some at)
set_live n hole u (e ∷ es) zero at h f distinct =
    let same : e.0 ≡ n = some_same e.0 n at in
    ap (λ b. cond b ((hole, u) ∷ live es) (live es)) f
    ∙ sym (
    ap (λ b. remove_entry (eqb n) (cond b (e ∷ live es) (live es))) (ap is_name same ∙ h)
    ∙ ap (λ d. cond d (live es) (e ∷ remove_entry (eqb n) (live es))) (ap (eqb n) same ∙ eqb_self n))
set_live n hole u (e ∷ es) (suc i) at h f distinct = by (is_name e.0) (set_live n hole u es i at h f (IsDistinct-tail eqb e.0 (keys_of es) distinct))
  where
    differs : eqb n e.0 ≡ false
    differs = differ_flip e.0 n (at_place n es i e.0 at (IsDistinct-head eqb e.0 (keys_of es) distinct))

    by : (b : Bool) → live (set es i (hole, u)) ≡ remove_entry (eqb n) (live es) → cond b (e ∷ live (set es i (hole, u))) (live (set es i (hole, u))) ≡ remove_entry (eqb n) (cond b (e ∷ live es) (live es))
    by true rest = ap (λ l. e ∷ l) rest ∙ sym (ap (λ d. cond d (live es) (e ∷ remove_entry (eqb n) (live es))) differs)
    by false rest = rest

place_within : (n : ℕ) (es : List (ℕ × Value)) (i : ℕ) → option_map (λ (e : ℕ × Value). e.0) (slice_get es i) ≡ Some n → i < length es
place_within n [] i e = absurd (none_some e)
place_within n (x ∷ es) zero e = omega arith
place_within n (x ∷ es) (suc i) e = omega (arith, place_within n es i e)

pub dug_live : (n hole : ℕ) (u : Value) (es more after : List (ℕ × Value)) (i : ℕ) (d : ℕ × Value) → option_map (λ (e : ℕ × Value). e.0) (slice_get es i) ≡ Some n → is_name n ≡ true → is_name hole ≡ false → lookup (eqb hole) es ≡ None → IsDistinct eqb (keys_of es)
    → more ≡ insert_entry eqb es hole u → after ≡ swap_remove more i d → live after ≡ remove_entry (eqb n) (live es)
dug_live n hole u es more after i d at h f none distinct e g =
    ap live (g ∙ ap (λ l. swap_remove l i d) (e ∙ insert_last hole u es none) ∙ swap_last es (hole, u) d i (place_within n es i at))
    ∙ set_live n hole u es i at h f distinct

get_more : (es : List (ℕ × Value)) (x : ℕ × Value) (i : ℕ) → i < length es → slice_get (es ++ x ∷ []) i ≡ slice_get es i
get_more [] x i lt = absurd (omega (arith, lt))
get_more (e ∷ es) x zero lt = refl
get_more (e ∷ es) x (suc i) lt = get_more es x i (omega (arith, lt))

pub dug_found : (n hole : ℕ) (u : Value) (es more after : List (ℕ × Value)) (i : ℕ) (o : Option (ℕ × Value)) → option_map (λ (e : ℕ × Value). e.0) (slice_get es i) ≡ Some n → is_name n ≡ true → is_name hole ≡ false → lookup (eqb hole) es ≡ None → IsDistinct eqb (keys_of es)
    → more ≡ insert_entry eqb es hole u → o ≡ slice_get more i → IfSome o (λ d. after ≡ swap_remove more i d) → live after ≡ remove_entry (eqb n) (live es)
dug_found n hole u es more after i (Some d) at h f none distinct e there g = dug_live n hole u es more after i d at h f none distinct e g
dug_found n hole u es more after i None at h f none distinct e there g =
    let is : slice_get more i ≡ slice_get es i = ap (λ l. slice_get l i) (e ∙ insert_last hole u es none) ∙ get_more es (hole, u) i (place_within n es i at) in
    absurd (none_some (ap (option_map (λ (e : ℕ × Value). e.0)) (there ∙ is) ∙ at))

-- the pairs from a place on
pub first_pair : (es : List (ℕ × Value)) (k : ℕ) → option_map_or (λ (e : ℕ × Value). is_name e.0) (slice_get es k) false ≡ true → slice_get es k ≡ slice_get (live (drop k es)) 0
first_pair [] k h = absurd (true≢false (sym h))
first_pair (e ∷ es) zero h = sym (ap (λ b. slice_get (cond b (e ∷ live es) (live es)) 0) h)
first_pair (e ∷ es) (suc k) h = first_pair es k h

pub next_pair : (es : List (ℕ × Value)) (k left : ℕ) → option_map_or (λ (e : ℕ × Value). is_name e.0) (slice_get es k) false ≡ true → slice_get (live (drop (suc k) es)) left ≡ slice_get (live (drop k es)) (suc left)
next_pair [] k left h = absurd (true≢false (sym h))
next_pair (e ∷ es) zero left h = sym (ap (λ b. slice_get (cond b (e ∷ live es) (live es)) (suc left)) h)
next_pair (e ∷ es) (suc k) left h = next_pair es k left h

pub next_hole : (es : List (ℕ × Value)) (k : ℕ) → option_map_or (λ (e : ℕ × Value). is_name e.0) (slice_get es k) false ≡ false → k < length es → live (drop (suc k) es) ≡ live (drop k es)
next_hole [] k h lt = absurd (omega (arith, lt))
next_hole (e ∷ es) zero h lt = sym (ap (λ b. cond b (e ∷ live es) (live es)) h)
next_hole (e ∷ es) (suc k) h lt = next_hole es k h (omega (arith, lt))

pub past_all : (es : List (ℕ × Value)) (k left : ℕ) → k ≡ length es → slice_get es k ≡ slice_get (live (drop k es)) left
past_all [] zero left e = refl
past_all [] (suc k) left e = absurd (omega (arith, e))
past_all (x ∷ es) zero left e = absurd (omega (arith, e))
past_all (x ∷ es) (suc k) left e = past_all es k left (omega (arith, e))

-- the listed names, place by place
abbrev pub before : {X : Type 0} → ℕ → List X → List X
before zero xs = []
before (suc k) [] = []
before (suc k) (x ∷ xs) = x ∷ before k xs

before_all : {X : Type 0} (xs : List X) → before (length xs) xs ≡ xs
before_all [] = refl
before_all (x ∷ xs) = ap (λ l. x ∷ l) (before_all xs)

module _ (names : List (List ℕ)) (array : Bool) where
  abbrev list : List (ℕ × Value) → List (List ℕ)
  list es = listed_names names array es

  one : (t : List ℕ) → cond (listed_in array t) (t ∷ []) [] ≡ option_to_list (if listed_in array t then Some t else None)
  one t = by (listed_in array t)
    where
      by : (b : Bool) → cond b (t ∷ []) [] ≡ option_to_list (if b then Some t else None)
      by true = refl
      by false = refl

  first : (e : ℕ × Value) (b : Bool) → (b ≡ true → e.0 < length names) → list (cond b (e ∷ []) []) ≡ option_to_list (option_and_then (λ t. if listed_in array t then Some t else None) (if b then slice_get names e.0 else None))
  first e true lt = one (name_at names e.0) ∙ ap (λ (o : Option (List ℕ)). option_to_list (option_and_then (λ t. if listed_in array t then Some t else None) o)) (sym (slice_get-get_or names e.0 [] (lt refl)))
  first e false lt = refl

  known_first : (n : ℕ) (e : ℕ × Value) (es : List (ℕ × Value)) (b : Bool) → Known n (cond b (e ∷ es) es) → b ≡ true → e.0 < n
  known_first n e es true h g = h.0
  known_first n e es false h g = absurd (true≢false (sym g))

  known_rest : (n : ℕ) (e : ℕ × Value) (es : List (ℕ × Value)) (b : Bool) → Known n (cond b (e ∷ es) es) → Known n es
  known_rest n e es true h = h.1
  known_rest n e es false h = h

  more : (es : List (ℕ × Value)) (k : ℕ) → Known (length names) (live es) → k < length es → list (live (before (suc k) es)) ≡ list (live (before k es)) ++ option_to_list (place_key names array es k)
  more [] k known lt = absurd (omega (arith, lt))
  more (e ∷ es) zero known lt = first e (is_name e.0) (known_first (length names) e (live es) (is_name e.0) known)
  more (e ∷ es) (suc k) known lt = by (is_name e.0) (more es k (known_rest (length names) e (live es) (is_name e.0) known) (omega (arith, lt)))
    where
      by : (b : Bool) → list (live (before (suc k) es)) ≡ list (live (before k es)) ++ option_to_list (place_key names array es k)
          → list (cond b (e ∷ live (before (suc k) es)) (live (before (suc k) es))) ≡ list (cond b (e ∷ live (before k es)) (live (before k es))) ++ option_to_list (place_key names array es k)
      by true rest = pick (listed_in array (name_at names e.0))
        where
          pick : (d : Bool) → cond d (name_at names e.0 ∷ list (live (before (suc k) es))) (list (live (before (suc k) es))) ≡ cond d (name_at names e.0 ∷ list (live (before k es))) (list (live (before k es))) ++ option_to_list (place_key names array es k)
          pick true = ap (λ l. name_at names e.0 ∷ l) rest
          pick false = rest
      by false rest = rest

  -- one place more
  pub listing_more : (es : List (ℕ × Value)) (k : ℕ) → Known (length names) (live es) → k < length es → list (live (before (k + 1) es)) ≡ list (live (before k es)) ++ option_to_list (place_key names array es k)
  listing_more es k known lt = let e : k + 1 ≡ suc k = omega arith in ap (λ n. list (live (before n es))) e ∙ more es k known lt

  pub listing_end : (es : List (ℕ × Value)) (k : ℕ) → length es ≡ k → list (live (before k es)) ≡ list (live es)
  listing_end es k e = ap (λ n. list (live (before n es))) (sym e) ∙ ap (λ l. list (live l)) (before_all es)

  pub count_more : (es : List (ℕ × Value)) (k n m : ℕ) → Known (length names) (live es) → k < length es → n ≡ length (list (live (before k es))) → m ≡ length (option_to_list (place_key names array es k)) → n + m ≡ length (list (live (before (k + 1) es)))
  count_more es k n m known lt e f = omega (arith, e, f, length-append (list (live (before k es))) (option_to_list (place_key names array es k)), ap length (listing_more es k known lt))

-- a search and a count among the pairs of a table
module _ (p : ℕ × Value → Bool) where
  abbrev pub Passes : List (ℕ × Value) → ℕ → Bool
  Passes es k = option_map_or (λ e. is_name e.0 && p e) (slice_get es k) false

  both : (a b : Bool) → (a && b) ≡ true → (a ≡ true) × (b ≡ true)
  both true b h = (refl, h)
  both false b h = absurd (true≢false (sym h))

  pub any_there : (es : List (ℕ × Value)) (k : ℕ) → Passes es k ≡ true → true ≡ list_any p (live es)
  any_there [] k h = absurd (true≢false (sym h))
  any_there (e ∷ es) zero h =
      let d = both (is_name e.0) (p e) h in
      sym (ap (λ b. list_any p (cond b (e ∷ live es) (live es))) d.0 ∙ ap (λ b. b || list_any p (live es)) d.1)
  any_there (e ∷ es) (suc k) h = by (is_name e.0) (any_there es k h)
    where
      by : (b : Bool) → true ≡ list_any p (live es) → true ≡ list_any p (cond b (e ∷ live es) (live es))
      by true rest = pick (p e)
        where
          pick : (c : Bool) → true ≡ (c || list_any p (live es))
          pick true = refl
          pick false = rest
      by false rest = rest

  pub any_none : (es : List (ℕ × Value)) → ((k : ℕ) → k < length es → Passes es k ≡ false) → false ≡ list_any p (live es)
  any_none [] h = refl
  any_none (e ∷ es) h = by (is_name e.0) (h 0 (omega arith)) (any_none es (λ k lt. h (suc k) (omega (arith, lt))))
    where
      by : (b : Bool) → (b && p e) ≡ false → false ≡ list_any p (live es) → false ≡ list_any p (cond b (e ∷ live es) (live es))
      by true g rest = rest ∙ sym (ap (λ c. c || list_any p (live es)) g)
      by false g rest = rest

-- the number of a listed name
module _ (names : List (List ℕ)) (array : Bool) (k : ℕ) where
  abbrev kept : List ℕ → Option (List ℕ)
  kept name = if listed_in array name then Some name else None

  named_key : k < FIRST_HOLE → listed_name names array k ≡ option_and_then kept (slice_get names k)
  named_key lt = ap (λ b. option_and_then kept (if b then slice_get names k else None)) (name_is k lt)

  pub key_hole : FIRST_HOLE ≤ k → None ≡ listed_name names array k
  key_hole le = sym (ap (λ b. option_and_then kept (if b then slice_get names k else None)) (hole_is k le))

  pub key_listed : k < FIRST_HOLE → option_map_or (listed_in array) (slice_get names k) false ≡ true → (slice_get names k ≡ listed_name names array k) × (true ≡ is_some (listed_name names array k))
  key_listed lt h = let both = by (slice_get names k) h in (both.0 ∙ sym (named_key lt), both.1 ∙ ap is_some (sym (named_key lt)))
    where
      by : (o : Option (List ℕ)) → option_map_or (listed_in array) o false ≡ true → (o ≡ option_and_then kept o) × (true ≡ is_some (option_and_then kept o))
      by None h = absurd (true≢false (sym h))
      by (Some t) h = (sym (ap (λ b. if b then Some t else None) h), sym (ap (λ b. is_some (if b then Some t else None)) h))

  pub key_unlisted : k < FIRST_HOLE → option_map_or (listed_in array) (slice_get names k) false ≡ false → None ≡ listed_name names array k
  key_unlisted lt h = by (slice_get names k) h ∙ sym (named_key lt)
    where
      by : (o : Option (List ℕ)) → option_map_or (listed_in array) o false ≡ false → None ≡ option_and_then kept o
      by None h = refl
      by (Some t) h = sym (ap (λ b. if b then Some t else None) h)

-- how many there are
pub count_none : (o : Option (List ℕ)) → false ≡ is_some o → 0 ≡ length (option_to_list o)
count_none None e = refl
count_none (Some t) e = absurd (true≢false (sym e))

pub count_one : (o : Option (List ℕ)) → true ≡ is_some o → 1 ≡ length (option_to_list o)
count_one None e = absurd (true≢false e)
count_one (Some t) e = refl

-- the index of the name with a number
pub index_by : (names : List (List ℕ)) (k : ℕ) → option_and_then index_of (slice_get names k) ≡ index_of (name_at names k)
index_by names k = by (slice_get names k) refl
  where
    by : (o : Option (List ℕ)) → slice_get names k ≡ o → option_and_then index_of o ≡ index_of (name_at names k)
    by None e = ap index_of (name_none names k (sym e))
    by (Some t) e = ap index_of (name_some names k t (sym e))
