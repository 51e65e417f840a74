-- Two values that a widget may hold are the same where they are the same in the store.
use Rattle.std.proofs.Common.{◌≡◌, ℕ, zero, suc, ◌+◌, ◌<◌, ◌≤◌, List, [], ◌∷◌, length, refl, sym, ap, ◌∙◌, subst, Option, Some, None, arith, Bool, true, false, if◌then◌else◌, slice_get, take}
use Rattle.std.specs.Prelude.{◌&&◌, ◌||◌, ◌-◌, nat_eq, slice_index_or}
use Rattle.std.specs.List.{count_by}
use Rattle.std.specs.Option.{option_map_or}
use Rattle.std.proofs.Common.{Ordering, Less, Equal, Greater}
use Rattle.std.specs.Ordering.{MatchOrdering, nat_cmp}
use Rattle.std.proofs.lemmas.Bool.Decides.{nat_tests}
use Rattle.std.proofs.lemmas.Cmp.{ranked}
use Rattle.permitted_table.specs.declared.native.HostEntry.{HostEntry}
use Rattle.permitted_table.specs.declared.native.HostEntry.TheVariants as entry
use Rattle.permitted_table.specs.Table.{entries, entry_number}
use Rattle.store_cells.specs.declared.value.Value.{Value as StoreValue}
use Rattle.store_cells.specs.declared.value.Value.TheVariants as value
use Rattle.store_cells.specs.declared.value.Number.TheVariants as number
use Rattle.store_cells.specs.Lists.{count_before}
use Rattle.store_cells.specs.Cells.{PlainCell, is_visible, own_count}
use Rattle.store_cells.specs.Host.{is_permitted_cell}
use Rattle.store_cells.proofs.Lists.{count_step}
use Rattle.object_store.specs.Owned as store
use Rattle.object_store.specs.Owned.{visible_at}
use Rattle.widget_meaning.specs.Values as meaning
use Rattle.widget_meaning.specs.Values.{Value}
use Rattle.widget_meaning.specs.Operators.{is_same}
use Rattle.js_image.specs.Image.{entry_at, meant, seen}
use Rattle.js_image.specs.Held.{IsFine, IsHeld}
use Rattle.js_image.proofs.Hosts.{permitted_two}
use Rattle.js_values.specs.Operands.{is_equal, plain}

false_true : false ≡ true → ⊥
false_true h = cc

none_some : {A : Type 0} {a : A} → None ≡ Some a → ⊥
none_some h = cc

some_same : {A : Type 0} (a b : A) → Some a ≡ Some b → a ≡ b
some_same a b e = cc

-- an earlier one has a smaller number
count_less : {X : Type 0} (p : X → Bool) (xs : List X) (j i : ℕ) (x : X) → j < i → slice_get xs j ≡ Some x → p x ≡ true → count_before p xs j < count_before p xs i
count_less p [] j i x lt at mine = absurd (none_some at)
count_less p (y ∷ xs) j zero x lt at mine = absurd (omega (arith, lt))
count_less p (y ∷ xs) zero (suc i) x lt at mine = subst (λ n. 0 < n) (sym (count_step p y (take i xs) ∙ ap (λ b. if b then suc (count_by p (take i xs)) else count_by p (take i xs)) (ap p (some_same y x at) ∙ mine))) (omega arith)
count_less p (y ∷ xs) (suc j) (suc i) x lt at mine = subst (λ m. m < count_by p (y ∷ take i xs)) (sym (count_step p y (take j xs))) (subst (λ n. (if p y then suc (count_by p (take j xs)) else count_by p (take j xs)) < n) (sym (count_step p y (take i xs))) (by (p y) (count_less p xs j i x (omega (arith, lt)) at mine)))
  where
    by : (b : Bool) → count_before p xs j < count_before p xs i → (if b then suc (count_before p xs j) else count_before p xs j) < (if b then suc (count_before p xs i) else count_before p xs i)
    by true h = omega (arith, h)
    by false h = h

-- whether numbers count up from one
abbrev counts_up : ℕ → List HostEntry → Bool
counts_up n [] = true
counts_up n (e ∷ es) = nat_eq (entry_number e) n && counts_up (suc n) es

all_count : counts_up 0 entries ≡ true
all_count = refl

first_is : (a b : Bool) → (a && b) ≡ true → a ≡ true
first_is true b g = refl
first_is false b g = g

second_is : (a b : Bool) → (a && b) ≡ true → b ≡ true
second_is true b g = g
second_is false b g = absurd (false_true g)

number_at : (es : List HostEntry) (n i : ℕ) → counts_up n es ≡ true → i < length es → entry_number (slice_index_or es i entry.ObjectPrototype) ≡ n + i
number_at [] n i h lt = absurd (omega (arith, lt))
number_at (e ∷ es) n zero h lt = grind (arith, nat_tests, first_is (nat_eq (entry_number e) n) (counts_up (suc n) es) h)
number_at (e ∷ es) n (suc i) h lt = number_at es (suc n) i (second_is (nat_eq (entry_number e) n) (counts_up (suc n) es) h) (omega (arith, lt)) ∙ more n i
  where
    more : (n i : ℕ) → suc n + i ≡ n + suc i
    more n i = omega arith

-- the entry of a permitted cell has the cell's place, from 2
entry_is : (i : ℕ) → is_permitted_cell i ≡ true → entry_number (entry_at i) ≡ i - 2
entry_is i h = number_at entries 0 (i - 2) all_count (omega (arith, (permitted_two i h).0, (permitted_two i h).1)) ∙ none (i - 2)
  where
    none : (n : ℕ) → 0 + n ≡ n
    none n = omega arith

self : (n : ℕ) → nat_eq n n ≡ true
self n = grind (arith, nat_tests)

-- an object is none of the primitives
not_left : (b : Bool) (n i : ℕ) (v : Value) → meaning.is_object v ≡ false → is_same (meant (if b then store.Own n else store.Other i)) v ≡ false
not_left b n i (meaning.Own m) h = absurd (false_true (sym h))
not_left b n i (meaning.Host e) h = absurd (false_true (sym h))
not_left true n i v h = refl
not_left false n i v h = refl

not_right : (b : Bool) (n i : ℕ) (v : Value) → meaning.is_object v ≡ false → is_same v (meant (if b then store.Own n else store.Other i)) ≡ false
not_right b n i (meaning.Own m) h = absurd (false_true (sym h))
not_right b n i (meaning.Host e) h = absurd (false_true (sym h))
not_right true n i v h = refl
not_right false n i v h = refl

module _ (w : ℕ) (cells : List PlainCell) where
  visible_there : (i : ℕ) → visible_at w cells i ≡ true → (c : PlainCell) × (slice_get cells i ≡ Some c) × (is_visible w c ≡ true)
  visible_there i h = by (slice_get cells i) refl h
    where
      by : (o : Option PlainCell) → slice_get cells i ≡ o → option_map_or (is_visible w) o false ≡ true → (c : PlainCell) × (slice_get cells i ≡ Some c) × (is_visible w c ≡ true)
      by None e g = absurd (false_true g)
      by (Some c) e g = (c, e, g)

  -- own cells count up
  own_less : (i j : ℕ) → visible_at w cells i ≡ true → i < j → own_count w cells i < own_count w cells j
  own_less i j h lt = let c = visible_there i h in count_less (is_visible w) cells i j c.0 lt c.1 c.2

  own_same : (i j : ℕ) → visible_at w cells i ≡ true → visible_at w cells j ≡ true → nat_eq i j ≡ nat_eq (own_count w cells i) (own_count w cells j)
  own_same i j h g = by (nat_cmp i j) (ranked i j (nat_cmp i j) refl)
    where
      by : (o : Ordering) → MatchOrdering o (i < j) (i ≡ j) (j < i) → nat_eq i j ≡ nat_eq (own_count w cells i) (own_count w cells j)
      by Less lt = grind (arith, nat_tests, lt, own_less i j h lt)
      by Equal e = subst (λ k. nat_eq i k ≡ nat_eq (own_count w cells i) (own_count w cells k)) e (self i ∙ sym (self (own_count w cells i)))
      by Greater gt = grind (arith, nat_tests, gt, own_less j i g gt)

  -- one of a widget's cells and another
  differ : (i j : ℕ) → visible_at w cells i ≡ true → visible_at w cells j ≡ false → nat_eq i j ≡ false
  differ i j h g = by (nat_eq i j) refl
    where
      same : nat_eq i j ≡ true → i ≡ j
      same e = grind (arith, nat_tests, e)

      by : (b : Bool) → nat_eq i j ≡ b → b ≡ false
      by false e = refl
      by true e = absurd (false_true (sym g ∙ ap (visible_at w cells) (sym (same e)) ∙ h))

  flipped : (i j : ℕ) → nat_eq i j ≡ nat_eq j i
  flipped i j = grind (arith, nat_tests)

  host_same : (i j : ℕ) → is_permitted_cell i ≡ true → is_permitted_cell j ≡ true → nat_eq i j ≡ nat_eq (entry_number (entry_at i)) (entry_number (entry_at j))
  host_same i j h g =
      less i j (permitted_two i h).0 (permitted_two j g).0
      ∙ ap (λ n. nat_eq n (j - 2)) (sym (entry_is i h))
      ∙ ap (nat_eq (entry_number (entry_at i))) (sym (entry_is j g))
    where
      less : (i j : ℕ) → 2 ≤ i → 2 ≤ j → nat_eq i j ≡ nat_eq (i - 2) (j - 2)
      less i j h g = grind (arith, nat_tests, h, g)

  refs : (i j : ℕ) → IsHeld w cells i → IsHeld w cells j → nat_eq i j ≡ is_same (seen w cells (value.Ref i)) (seen w cells (value.Ref j))
  refs i j h g = by (visible_at w cells i) (visible_at w cells j) refl refl h.1 g.1
    where
      by : (b d : Bool) → visible_at w cells i ≡ b → visible_at w cells j ≡ d → (b || is_permitted_cell i) ≡ true → (d || is_permitted_cell j) ≡ true
          → nat_eq i j ≡ is_same (meant (if b then store.Own (own_count w cells i) else store.Other i)) (meant (if d then store.Own (own_count w cells j) else store.Other j))
      by true true e f p q = own_same i j e f
      by true false e f p q = differ i j e f
      by false true e f p q = flipped i j ∙ differ j i f e
      by false false e f p q = host_same i j p q

  pub same_is : (a b : StoreValue) → IsFine w cells a → IsFine w cells b → is_equal a b ≡ is_same (seen w cells a) (seen w cells b)
  same_is (value.Ref i) (value.Ref j) f g = refs i j f g
  same_is (value.Ref i) (value.Num number.NaN) f g = sym (not_left (visible_at w cells i) (own_count w cells i) i meaning.NaN refl)
  same_is (value.Ref i) (value.Num (number.Whole y)) f g = sym (not_left (visible_at w cells i) (own_count w cells i) i (meaning.Num y) refl)
  same_is (value.Ref i) b f g = sym (not_left (visible_at w cells i) (own_count w cells i) i (plain b) refl)
  same_is (value.Num number.NaN) (value.Ref j) f g = sym (not_right (visible_at w cells j) (own_count w cells j) j meaning.NaN refl)
  same_is (value.Num (number.Whole x)) (value.Ref j) f g = sym (not_right (visible_at w cells j) (own_count w cells j) j (meaning.Num x) refl)
  same_is a (value.Ref j) f g = sym (not_right (visible_at w cells j) (own_count w cells j) j (plain a) refl)
  same_is (value.Num number.NaN) (value.Num number.NaN) f g = refl
  same_is (value.Num number.NaN) (value.Num (number.Whole y)) f g = refl
  same_is (value.Num (number.Whole x)) (value.Num number.NaN) f g = refl
  same_is (value.Num (number.Whole x)) (value.Num (number.Whole y)) f g = refl
  same_is (value.Num number.NaN) b f g = refl
  same_is (value.Num (number.Whole x)) b f g = refl
  same_is a (value.Num number.NaN) f g = refl
  same_is a (value.Num (number.Whole y)) f g = refl
  same_is a b f g = refl
