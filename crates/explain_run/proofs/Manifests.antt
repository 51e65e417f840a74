-- The slots of a manifest are few, and of distinct names.
use Rattle.std.proofs.Common.{◌≡◌, ℕ, suc, ◌≤◌, List, [], ◌∷◌, length, Bool, true, false, Result, Ok, Err, IfOk, refl, ap, arith, length-append}
use Rattle.std.specs.Prelude.{nat_le, ◌&&◌}
use Rattle.std.specs.Str.{bytes_eq}
use Rattle.std.proofs.lemmas.Bool.Decides.{nat_tests}
use Rattle.manifest_shape.specs.Distinct.{distinct}
use Rattle.manifest_shape.specs.Slots.{are_slots, most_slots}
use Rattle.manifest_reader.specs.declared.entry.Entry.{Entry}
use Rattle.manifest_reader.specs.declared.entry.Entry.TheVariants as entry
use Rattle.manifest_reader.specs.declared.entry.Manifest.{Manifest}
use Rattle.manifest_reader.specs.Manifest.{ReadsManifest}
use Rattle.run_steps.specs.Page.{texts, slot_names, slot_files, files_named, HasSlots}
use Rattle.run_steps.proofs.Manifests.{has_slots}
use Rattle.explain_run.specs.declared.reading.NotTold.{NotTold}

pub ok_slots : (bytes : List ℕ) (r : Result Manifest NotTold) → IfOk r (ReadsManifest bytes) → IfOk r HasSlots
ok_slots bytes (Ok m) is = has_slots bytes m is
ok_slots bytes (Err e) is = is

and_first : (a b : Bool) → (a && b) ≡ true → a ≡ true
and_first true b is = refl
and_first false b is = is

pub few_slots : (names : List (List ℕ)) → are_slots names ≡ true → length names ≤ most_slots
few_slots names are = let e : nat_le (length names) most_slots ≡ true = and_first (nat_le (length names) most_slots) (distinct bytes_eq names) are in grind (arith, nat_tests)

-- there is a name for each file of a slot
slots_even : (es : List Entry) → length (slot_names es) ≡ length (slot_files es)
slots_even [] = refl
slots_even (entry.Html content ∷ es) = slots_even es
slots_even (entry.Slot name file fuel ∷ es) = ap suc (slots_even es)

pub names_within : (manifest : Manifest) (names : List (List ℕ)) (count : ℕ) → names ≡ slot_names manifest.entries.items → count ≡ length (files_named manifest) → length names ≤ count
names_within manifest names count same many =
    omega (arith, ap length same, many, slots_even manifest.entries.items, length-append (slot_files manifest.entries.items) (texts manifest.libs.items))
