-- Bytes are one manifest, as far as it names slots and files; and it has few slots, of distinct names.
use Rattle.std.proofs.Common.{◌≡◌, ℕ, List, [], ◌∷◌, ◌++◌, map, Option, Result, Ok, Err, IfOk, refl, sym, ap, ◌∙◌}
use Rattle.std.specs.Prelude.{string_bytes}
use Rattle.std.specs.List.{flat_map}
use Rattle.serde_json.specs.Data.{Data}
use Rattle.json_shapes.specs.Each.{Each, none_left, one_each}
use Rattle.json_shapes.specs.Json.{judged_version}
use Rattle.manifest_shape.specs.declared.slot.PageEntry.{PageEntry}
use Rattle.manifest_shape.specs.declared.slot.PageEntry.TheVariants as shaped
use Rattle.manifest_shape.specs.Slots.{IsEntry, entry_names, names_in, are_slots}
use Rattle.manifest_shape.proofs.PageLemmas.{named_entry}
use Rattle.manifest_reader.specs.declared.entry.Entry.{Entry}
use Rattle.manifest_reader.specs.declared.entry.Entry.TheVariants as entry
use Rattle.manifest_reader.specs.declared.entry.Manifest.{Manifest}
use Rattle.manifest_reader.specs.Page.{Part, Markup, Widget, part_of, IsFilled}
use Rattle.manifest_reader.specs.Manifest.{ReadsManifest}
use Rattle.manifest_reader.proofs.SameLemmas.{one_manifest}
use Rattle.run_steps.specs.declared.reading.NoReport.{NoReport}
use Rattle.run_steps.specs.Page.{IsManifest, texts, slot_names, slot_files, files_named, parts, HasSlots}

-- the name and the file of a slot, of its plain data
abbrev pub part_name : Part → List (List ℕ)
part_name (Markup trees) = []
part_name (Widget name file fuel) = name ∷ []

abbrev part_file : Part → List (List ℕ)
part_file (Markup trees) = []
part_file (Widget name file fuel) = file ∷ []

pub names_by_parts : (es : List Entry) → slot_names es ≡ flat_map part_name (map part_of es)
names_by_parts [] = refl
names_by_parts (entry.Html content ∷ es) = names_by_parts es
names_by_parts (entry.Slot name file fuel ∷ es) = ap (λ ns. name ∷ ns) (names_by_parts es)

files_by_parts : (es : List Entry) → slot_files es ≡ flat_map part_file (map part_of es)
files_by_parts [] = refl
files_by_parts (entry.Html content ∷ es) = files_by_parts es
files_by_parts (entry.Slot name file fuel ∷ es) = ap (λ ns. string_bytes file ∷ ns) (files_by_parts es)

-- two readings have the same parts and channels, and name the same slots and files
pub record SameFiles (m n : Manifest) : Type 0 where
  pub parts : parts m ≡ parts n
  pub channels : m.channels.items ≡ n.channels.items
  pub names : slot_names m.entries.items ≡ slot_names n.entries.items
  pub files : files_named m ≡ files_named n

pub manifest_once : (bytes : List ℕ) (m n : Manifest) → ReadsManifest bytes m → ReadsManifest bytes n → SameFiles m n
manifest_once bytes m n a b =
    let same = one_manifest bytes m n a b in
    let files : slot_files m.entries.items ≡ slot_files n.entries.items = files_by_parts m.entries.items ∙ ap (flat_map part_file) same.entries ∙ sym (files_by_parts n.entries.items) in
    record {
      parts = same.entries;
      channels = same.channels;
      names = names_by_parts m.entries.items ∙ ap (flat_map part_name) same.entries ∙ sym (names_by_parts n.entries.items);
      files = ap (λ x. x ++ texts m.libs.items) files ∙ ap (λ x. slot_files n.entries.items ++ x) same.libs;
    }

-- the names of the slots are those in the JSON value
names_filled : (version : ℕ) (given : Option ℕ) (ds : List Data) (es : List PageEntry) (ps : List Part) → Each (IsEntry version) ds es → Each (IsFilled given) es ps → names_in ds ≡ flat_map part_name ps
names_filled version given ds es ps none_left none_left = refl
names_filled version given ds es ps (one_each {x = d} {y = e} {xs = ds1} {ys = es1} is rest) (one_each {x = f} {y = p} {xs = fs1} {ys = ps1} also others) =
    ap (λ ns. ns ++ names_in ds1) (named_entry version d e is ∙ one e p also) ∙ ap (λ ns. part_name p ++ ns) (names_filled version given ds1 es1 ps1 rest others)
  where
    one : (a : PageEntry) (b : Part) → IsFilled given a b → entry_names a ≡ part_name b
    one (shaped.Html text) (Markup trees) is = refl
    one (shaped.Html text) (Widget name file fuel) is = absurd is
    one (shaped.Slot slot) (Markup trees) is = absurd is
    one (shaped.Slot slot) (Widget name file fuel) is = ap (λ n. n ∷ []) (sym is.0)

pub has_slots : (bytes : List ℕ) (m : Manifest) → ReadsManifest bytes m → HasSlots m
has_slots bytes m reads =
    let shape = reads.is.shape in
    let whole = reads.is.is in
    let same : slot_names m.entries.items ≡ names_in whole.page =
    names_by_parts m.entries.items ∙ sym (names_filled (judged_version reads.value) shape.fuel whole.page shape.entries.items (parts m) whole.each reads.is.filled.entries.each) in
    ap are_slots same ∙ whole.slots

pub ok_slots : (bytes : List ℕ) (r : Result Manifest NoReport) → IfOk r (ReadsManifest bytes) → IfOk r HasSlots
ok_slots bytes (Ok m) is = has_slots bytes m is
ok_slots bytes (Err e) is = is

-- a manifest that was read is one
pub ok_reads : (bytes : List ℕ) (r : Result Manifest NoReport) → IfOk r (ReadsManifest bytes) → IfOk r IsManifest
ok_reads bytes (Ok m) is = record { bytes = bytes; reads = is }
ok_reads bytes (Err e) is = is
