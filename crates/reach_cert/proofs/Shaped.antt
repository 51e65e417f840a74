-- A confined certificate is of the stated shape.
use Rattle.std.proofs.Common.{◌≡◌, ℕ, ◌^◌, ◌<◌, ◌≤◌, true, false, ◌&&◌, List, [], ◌∷◌, map, length, ap, ◌∙◌, refl, arith, nat_lt, nat_le, ltb-true, lt-ltb, length-append}
use Rattle.std.proofs.lemmas.List.{length-map}
use Rattle.std.specs.Prelude.{not}
use Rattle.std.specs.List.{AllByRecursion, IsDistinct, flat_map, list_all}
use Rattle.std.specs.Str.{bytes_eq}
use Rattle.std.proofs.lemmas.Bool.Decides.{nat_tests}
use Rattle.std.proofs.lemmas.Slice.Eq.{bytes_eq-Decides}
use Rattle.code_units.proofs.Signs.{and_both}
use Rattle.reach_cert.specs.declared.cert.Ref.{Ref}
use Rattle.reach_cert.specs.declared.cert.Ref.TheVariants.{Host, Raw, Global, Cell}
use Rattle.reach_cert.specs.Certs.{Row, Slot, Refused, Shown, cert_lines}
use Rattle.reach_cert.specs.Shape.{IsCert, are_distinct, is_name, is_ref, is_row, is_slot, is_used, slot_name}
use Rattle.reach_cert.specs.Walks.{IsConfined, KeepsIn, leaves, slot_leaks, some_leaves}
use Rattle.reach_cert.proofs.Leaks.{lines_count}
use Rattle.reach_cert.proofs.Sound.{or_false, other_way}
use Rattle.reach_cert.proofs.Walking.{both_hold, confined_is_kept}

-- ## Lines

module _ (name : List ℕ) (count : ℕ) (good : is_name name ≡ true) (few : count ≤ 2 ^ 32) where
  ref_good : (ref : Ref) → leaves name count ref ≡ false → is_ref ref ≡ true
  ref_good Host e = refl
  ref_good Raw e = cc
  ref_good Global e = cc
  ref_good (Cell other number) e =
      let both = both_hold (bytes_eq other name) (nat_lt number count) e in
      let same : other ≡ name = (bytes_eq-Decides other name).0 (both.0) in
      let low : number < count = ltb-true number count (both.1) in
      let named : is_name other ≡ true = ap is_name same ∙ good in
      (λ i. named i && lt-ltb number (2 ^ 32) (omega (arith, low, few)) i)

  refs_good : (refs : List Ref) → some_leaves name count refs ≡ false → list_all is_ref refs ≡ true
  refs_good [] e = refl
  refs_good (ref ∷ refs) e =
      let both = or_false (leaves name count ref) (some_leaves name count refs) e in
      (λ i. ref_good ref (both.0) i && refs_good refs (both.1) i)

  rows_good : (rows : List Row) → AllByRecursion (λ row. some_leaves name count row.refs ≡ false) rows → list_all is_row rows ≡ true
  rows_good [] h = refl
  rows_good (row ∷ rows) h = (λ i. refs_good row.refs (h.0) i && rows_good rows (h.1) i)

-- ## Slots

slot_good : (slot : Slot) → KeepsIn slot → is_name (slot_name slot) ≡ true → length (slot_leaks slot) ≤ 2 ^ 32 → is_slot slot ≡ true
slot_good (Refused name) keeps good few = good
slot_good (Shown name rows held) keeps good few =
    let size = length-append (map (λ row. some_leaves name (length rows) row.refs) rows) (some_leaves name (length rows) held ∷ []) in
    let few_rows : length rows ≤ 2 ^ 32 = omega (arith, size, few, length-map rows (λ row. some_leaves name (length rows) row.refs)) in
    let small : nat_le (length rows) (2 ^ 32) ≡ true = grind (arith, nat_tests, few_rows) in
    (λ i. ((good i && small i) && rows_good name (length rows) good few_rows rows (keeps.0) i) && refs_good name (length rows) good few_rows held (keeps.1) i)

slots_good : (slots : List Slot) → AllByRecursion KeepsIn slots → list_all is_name (map slot_name slots) ≡ true → length (flat_map slot_leaks slots) ≤ 2 ^ 32 → list_all is_slot slots ≡ true
slots_good [] keeps good few = refl
slots_good (slot ∷ slots) keeps good few =
    let both = and_both (is_name (slot_name slot)) (list_all is_name (map slot_name slots)) good in
    let size = length-append (slot_leaks slot) (flat_map slot_leaks slots) in
    (λ i. slot_good slot (keeps.0) (both.0) (omega (arith, size, few)) i && slots_good slots (keeps.1) (both.1) (omega (arith, size, few)) i)

-- ## Names

unused : (slots : List Slot) (name : List ℕ) → AllByRecursion (λ other. bytes_eq name other ≡ false) (map slot_name slots) → is_used slots name ≡ false
unused [] name h = refl
unused (slot ∷ slots) name h = rw (other_way name (slot_name slot) (h.0)) (unused slots name (h.1))

apart : (slots : List Slot) → IsDistinct bytes_eq (map slot_name slots) → are_distinct slots ≡ true
unfolding IsDistinct
apart [] h = refl
apart (slot ∷ slots) h = (λ i. not (unused slots (slot_name slot) (h.0) i) && apart slots (h.1) i)

pub shaped : (slots : List Slot) → IsConfined slots → length slots ≤ 16 → list_all is_name (map slot_name slots) ≡ true → IsDistinct bytes_eq (map slot_name slots) → length (cert_lines slots) < 4294967295 → IsCert slots
shaped slots confined few good distinct lines =
    record {
      few = few;
      distinct = apart slots distinct;
      good = slots_good slots (confined_is_kept slots confined) good (omega (arith, lines_count slots, lines));
    }
