-- The names of a page, and of its files.
use Rattle.std.proofs.Common.{◌≡◌, ℕ, suc, ◌≤◌, List, [], ◌∷◌, length, map, Bool, true, false, refl, ap, arith, length-append}
use Rattle.std.specs.Prelude.{nat_le, ◌&&◌}
use Rattle.std.specs.Str.{bytes_eq}
use Rattle.std.proofs.lemmas.Bool.Decides.{nat_tests}
use Rattle.manifest_shape.specs.Distinct.{distinct}
use Rattle.manifest_shape.specs.Slots.{are_slots, most_slots}
use Rattle.manifest_reader.specs.declared.entry.Entry.{Entry}
use Rattle.manifest_reader.specs.declared.entry.Entry.TheVariants as entry
use Rattle.manifest_reader.specs.declared.entry.Manifest.{Manifest}
use Rattle.manifest_reader.specs.Page.{part_of}
use Rattle.page_check.specs.Runs.{slots_named}
use Rattle.page_check.specs.Fits.{IsFit}
use Rattle.run_steps.specs.Page.{texts, slot_names, slot_files, files_named}

-- there is a name for each file of a slot
pub slots_even : (es : List Entry) → length (slot_names es) ≡ length (slot_files es)
slots_even [] = refl
slots_even (entry.Html content ∷ es) = slots_even es
slots_even (entry.Slot name file fuel ∷ es) = ap suc (slots_even es)

pub names_within : (manifest : Manifest) (names : List (List ℕ)) (count : ℕ) → names ≡ slot_names manifest.entries.items → count ≡ length (files_named manifest) → length names ≤ count
names_within manifest names count same many =
    omega (arith, ap length same, many, slots_even manifest.entries.items, length-append (slot_files manifest.entries.items) (texts manifest.libs.items))

-- the names and the fuel of the slots, and their names
pub first_names : (es : List Entry) → map (λ (n : List ℕ × ℕ). n.0) (slots_named (map part_of es)) ≡ slot_names es
first_names [] = refl
first_names (entry.Html content ∷ es) = first_names es
first_names (entry.Slot name file fuel ∷ es) = ap (λ ns. name ∷ ns) (first_names es)

pub as_many_named : (es : List Entry) → length (slots_named (map part_of es)) ≡ length (slot_names es)
as_many_named [] = refl
as_many_named (entry.Html content ∷ es) = as_many_named es
as_many_named (entry.Slot name file fuel ∷ es) = ap suc (as_many_named es)

-- ## A page that a host may load

and_first : (a b : Bool) → (a && b) ≡ true → a ≡ true
and_first true b is = refl
and_first false b is = is

few_slots : (names : List (List ℕ)) → are_slots names ≡ true → length names ≤ most_slots
few_slots names are = let e : nat_le (length names) most_slots ≡ true = and_first (nat_le (length names) most_slots) (distinct bytes_eq names) are in grind (arith, nat_tests)

-- it has few slots
pub few_fit : (manifest : Manifest) → IsFit manifest → length (slot_names manifest.entries.items) ≤ 16
few_fit manifest fit =
    let few = few_slots (map (λ (n : List ℕ × ℕ). n.0) (slots_named (map part_of manifest.entries.items))) fit.slots in
    omega (arith, few, ap length (first_names manifest.entries.items))
