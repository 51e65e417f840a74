-- The theorem of reach.
use Rattle.std.proofs.Common.{◌≡◌, ℕ, zero, suc, Bool, true, false, ◌&&◌, ◌||◌, not, List, [], ◌∷◌, ◌++◌, map, length, refl, sym, subst, append_assoc, Some, None, nat_lt, ltb-true, lit<}
use Rattle.std.specs.Prelude.{slice_get}
use Rattle.std.specs.List.{Contains, AllByRecursion, flat_map}
use Rattle.std.specs.Str.{bytes_eq}
use Rattle.std.proofs.lemmas.List.Elements.{All-contains, All-from_recursion}
use Rattle.std.proofs.lemmas.Slice.Eq.{bytes_eq-Decides}
use Rattle.reach_cert.specs.declared.cert.Ref.{Ref}
use Rattle.reach_cert.specs.declared.cert.Ref.TheVariants.{Host, Raw, Global, Cell}
use Rattle.reach_cert.specs.declared.cert.RowKind.TheVariants.{Object}
use Rattle.reach_cert.specs.Certs.{Row, Slot, Refused, Shown}
use Rattle.reach_cert.specs.Walks.{HasWidget, Leads, begins, goes_on, IsOwn, leaves, some_leaves, slot_leaks, leaks, first_from, first_leak, IsConfined, KeepsIn}

-- ## No line leaks

abbrev AllFalse : List Bool → Type 0
AllFalse = AllByRecursion (λ leak. leak ≡ false)

no_first : (n : ℕ) (xs : List Bool) → first_from n xs ≡ None → AllFalse xs
no_first n [] e = tt
no_first n (true ∷ xs) e = cc
no_first n (false ∷ xs) e = (refl, no_first (suc n) xs e)

module _ {X : Type 0} (P : X → Type 0) where
  front : (xs ys : List X) → AllByRecursion P (xs ++ ys) → AllByRecursion P xs
  front [] ys h = tt
  front (x ∷ xs) ys h = (h.0, front xs ys (h.1))

  back : (xs ys : List X) → AllByRecursion P (xs ++ ys) → AllByRecursion P ys
  back [] ys h = h
  back (x ∷ xs) ys h = back xs ys (h.1)

  contained : (xs : List X) (x : X) → AllByRecursion P xs → Contains xs x → P x
  contained xs x h c = All-contains P xs x (All-from_recursion P xs h) c

  at_place : (xs : List X) (k : ℕ) (x : X) → AllByRecursion P xs → slice_get xs k ≡ Some x → P x
  at_place [] k x h e = cc
  at_place (y ∷ xs) zero x h e = let same : y ≡ x = cc in subst P same (h.0)
  at_place (y ∷ xs) (suc k) x h e = at_place xs k x (h.1) e

unmapped : {X Y : Type 0} (P : Y → Type 0) (f : X → Y) (xs : List X) → AllByRecursion P (map f xs) → AllByRecursion (λ x. P (f x)) xs
unmapped P f [] h = tt
unmapped P f (x ∷ xs) h = (h.0, unmapped P f xs (h.1))

each_slot : (slots : List Slot) (rest : List Bool) → AllFalse (flat_map slot_leaks slots ++ rest) → AllByRecursion (λ slot. AllFalse (slot_leaks slot)) slots
each_slot [] rest h = tt
each_slot (slot ∷ slots) rest h =
    let split = subst AllFalse (append_assoc (slot_leaks slot) (flat_map slot_leaks slots) rest) h in
    (front _ (slot_leaks slot) (flat_map slot_leaks slots ++ rest) split, each_slot slots rest (back _ (slot_leaks slot) (flat_map slot_leaks slots ++ rest) split))

none_leave : (name : List ℕ) (count : ℕ) (refs : List Ref) → some_leaves name count refs ≡ false → AllByRecursion (λ ref. leaves name count ref ≡ false) refs
none_leave name count [] e = tt
none_leave name count (ref ∷ refs) e = by (leaves name count ref) (some_leaves name count refs) e (λ f. none_leave name count refs f)
  where
    by : (a b : Bool) → a || b ≡ false → (b ≡ false → AllByRecursion (λ r. leaves name count r ≡ false) refs) → (a ≡ false) × AllByRecursion (λ r. leaves name count r ≡ false) refs
    by true b f more = cc
    by false b f more = (refl, more f)

-- ## What does not leave is the widget's own

pub both_hold : (a b : Bool) → not (a && b) ≡ false → (a ≡ true) × (b ≡ true)
both_hold true true e = (refl, refl)
both_hold true false e = cc
both_hold false b e = cc

own : (slots : List Slot) (name : List ℕ) (rows : List Row) (held : List Ref) (ref : Ref) → HasWidget slots name rows held → leaves name (length rows) ref ≡ false → IsOwn slots name ref
own slots name rows held Host there e = tt
own slots name rows held Raw there e = cc
own slots name rows held Global there e = cc
own slots name rows held (Cell other number) there e =
    let both = both_hold (bytes_eq other name) (nat_lt number (length rows)) e in
    ((bytes_eq-Decides other name).0 (both.0), record { rows = rows; held = held; there = there; within = ltb-true number (length rows) (both.1) })

module _ (slots : List Slot) (confined : IsConfined slots) where
  slots_hold : AllByRecursion (λ slot. AllFalse (slot_leaks slot)) slots
  unfolding first_leak
  slots_hold = each_slot slots (false ∷ []) (no_first 1 (leaks slots) confined).1

  module _ (name : List ℕ) (rows : List Row) (held : List Ref) (there : HasWidget slots name rows held) where
    lines_hold : AllFalse (map (λ row. some_leaves name (length rows) row.refs) rows ++ some_leaves name (length rows) held ∷ [])
    lines_hold = (contained (λ slot. AllFalse (slot_leaks slot)) slots (Shown name rows held) slots_hold there).1

    held_stays : (ref : Ref) → Contains held ref → IsOwn slots name ref
    held_stays ref c =
        let last = back _ (map (λ row. some_leaves name (length rows) row.refs) rows) (some_leaves name (length rows) held ∷ []) lines_hold in
        own slots name rows held ref there (contained (λ r. leaves name (length rows) r ≡ false) held ref (none_leave name (length rows) held (last.0)) c)

    row_stays : (number : ℕ) (row : Row) (ref : Ref) → slice_get rows number ≡ Some row → Contains row.refs ref → IsOwn slots name ref
    row_stays number row ref at c =
        let f : Row → Bool = λ r. some_leaves name (length rows) r.refs in
        let each = unmapped (λ leak. leak ≡ false) f rows (front _ (map f rows) (some_leaves name (length rows) held ∷ []) lines_hold) in
        let stays = at_place (λ r. f r ≡ false) rows number row each at in
        own slots name rows held ref there (contained (λ r. leaves name (length rows) r ≡ false) row.refs ref (none_leave name (length rows) row.refs stays) c)

  pub walks_stay : (name : List ℕ) (ref : Ref) → Leads slots name ref → IsOwn slots name ref
  walks_stay name ref (begins {rows = rows} {held = held} there c) = held_stays name rows held there ref c
  walks_stay name ref (goes_on {other = other} {number = number} {rows = rows} {held = held} {row = row} walk there at c) =
      let own_cell = walks_stay name (Cell other number) walk in
      subst (λ n. IsOwn slots n ref) (own_cell.0) (row_stays other rows held there number row ref at c)

-- ## Confined where each slot keeps in

joined : {X : Type 0} (P : X → Type 0) (xs ys : List X) → AllByRecursion P xs → AllByRecursion P ys → AllByRecursion P (xs ++ ys)
joined P [] ys h g = g
joined P (x ∷ xs) ys h g = (h.0, joined P xs ys (h.1) g)

mapped : {X Y : Type 0} (P : Y → Type 0) (f : X → Y) (xs : List X) → AllByRecursion (λ x. P (f x)) xs → AllByRecursion P (map f xs)
mapped P f [] h = tt
mapped P f (x ∷ xs) h = (h.0, mapped P f xs (h.1))

none_first : (n : ℕ) (xs : List Bool) → AllFalse xs → first_from n xs ≡ None
none_first n [] h = refl
none_first n (b ∷ xs) h = rw (h.0) (none_first (suc n) xs (h.1))

lines_false : (slot : Slot) → KeepsIn slot → AllFalse (slot_leaks slot)
lines_false (Refused name) k = (refl, tt)
lines_false (Shown name rows held) k =
    let f : Row → Bool = λ row. some_leaves name (length rows) row.refs in
    (refl, joined (λ leak. leak ≡ false) (map f rows) (some_leaves name (length rows) held ∷ []) (mapped (λ leak. leak ≡ false) f rows (k.0)) (k.1, tt))

slots_false : (slots : List Slot) → AllByRecursion KeepsIn slots → AllFalse (flat_map slot_leaks slots ++ false ∷ [])
slots_false [] h = (refl, tt)
slots_false (slot ∷ slots) h =
    subst AllFalse (sym (append_assoc (slot_leaks slot) (flat_map slot_leaks slots) (false ∷ [])))
    (joined (λ leak. leak ≡ false) (slot_leaks slot) (flat_map slot_leaks slots ++ false ∷ []) (lines_false slot (h.0)) (slots_false slots (h.1)))

pub kept_is_confined : (slots : List Slot) → AllByRecursion KeepsIn slots → IsConfined slots
unfolding first_leak
kept_is_confined slots h = none_first 1 (leaks slots) (refl, slots_false slots h)

keeps : (slot : Slot) → AllFalse (slot_leaks slot) → KeepsIn slot
keeps (Refused name) h = tt
keeps (Shown name rows held) h =
    let f : Row → Bool = λ row. some_leaves name (length rows) row.refs in
    let last = some_leaves name (length rows) held ∷ [] in
    (unmapped (λ leak. leak ≡ false) f rows (front (λ leak. leak ≡ false) (map f rows) last (h.1)), (back (λ leak. leak ≡ false) (map f rows) last (h.1)).0)

all_keep : (slots : List Slot) → AllByRecursion (λ slot. AllFalse (slot_leaks slot)) slots → AllByRecursion KeepsIn slots
all_keep [] h = tt
all_keep (slot ∷ slots) h = (keeps slot (h.0), all_keep slots (h.1))

pub confined_is_kept : (slots : List Slot) → IsConfined slots → AllByRecursion KeepsIn slots
confined_is_kept slots confined = all_keep slots (slots_hold slots confined)

-- ## A walk to a node

abbrev row : Row
row = record { kind = Object; refs = Raw ∷ [] }

abbrev pub leaking : List Slot
leaking = Shown (65 ∷ 95 ∷ []) (row ∷ []) (Cell (65 ∷ 95 ∷ []) 0 ∷ []) ∷ []

pub leaks_raw : Leads leaking (65 ∷ 95 ∷ []) Raw
leaks_raw =
    goes_on {other = 65 ∷ 95 ∷ []} {number = 0} {rows = row ∷ []} {held = Cell (65 ∷ 95 ∷ []) 0 ∷ []} {row = row}
    (begins {rows = row ∷ []} {held = Cell (65 ∷ 95 ∷ []) 0 ∷ []} (0, lit< tt, refl) (0, lit< tt, refl)) (0, lit< tt, refl) refl (0, lit< tt, refl)
