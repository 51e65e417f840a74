-- Every manifest that is read is fit.
use Rattle.std.proofs.Common.{◌≡◌, ℕ, ◌<◌, ◌≤◌, List, [], ◌∷◌, ◌++◌, length, map, All, Option, Some, None, IfSome, refl, sym, ap, subst, ◌∙◌, arith}
use Rattle.std.specs.Prelude.{string_bytes, option_and_then, position, codes, slice_get}
use Rattle.std.specs.List.{IsDistinct}
use Rattle.std.specs.Str.{bytes_eq}
use Rattle.std.proofs.lemmas.List.{length-map}
use Rattle.std.proofs.lemmas.List.Quantifiers.{position-Some}
use Rattle.serde_json.specs.Data.{Data}
use Rattle.serde_json.specs.Find.{get, as_str}
use Rattle.json_shapes.specs.Each.{Each, none_left, one_each}
use Rattle.json_shapes.specs.Json.{judged_version}
use Rattle.json_shapes.proofs.EachLemmas.{each_length}
use Rattle.manifest_shape.specs.declared.slot.PageEntry.{PageEntry}
use Rattle.manifest_shape.specs.declared.slot.PageEntry.TheVariants as shaped
use Rattle.manifest_shape.specs.Slots.{IsEntry, IsFuel, entry_names, names_in, are_slots, most_fuel}
use Rattle.manifest_shape.specs.Manifest.{IsChannel, IsChannels, AreChannels}
use Rattle.manifest_shape.specs.Manifest as shapes
use Rattle.manifest_shape.proofs.PageLemmas.{named_entry}
use Rattle.manifest_reader.specs.declared.entry.Manifest.{Manifest}
use Rattle.manifest_reader.specs.Page.{Part, Markup, Widget, part_of, fuel_of, IsFilled}
use Rattle.manifest_reader.specs.Manifest.{ReadsManifest}
use Rattle.plain_tree.specs.Trees.{height}
use Rattle.page_plan.specs.Loadable.{most_high, IsLoadableChannel, AreLoadableChannels}
use Rattle.page_check.specs.Runs.{slots_named}
use Rattle.page_check.specs.Fits.{markup_of, IsFit}
use Rattle.page_check.proofs.Heights.{spelled_low}
use Rattle.page_check.proofs.Lists.{all_none, all_more, distinct_is}

-- ## Slots

abbrev name_in : List ℕ × ℕ → List ℕ
name_in n = n.0

-- the names of the slots are those in the JSON value
names_filled : (version : ℕ) (given : Option ℕ) (ds : List Data) (es : List PageEntry) (ps : List Part) → Each (IsEntry version) ds es → Each (IsFilled given) es ps → names_in ds ≡ map name_in (slots_named ps)
names_filled version given ds es ps none_left none_left = refl
names_filled version given ds es ps (one_each {x = d} {y = e} {xs = ds1} {ys = es1} is rest) (one_each {x = f} {y = p} {xs = fs1} {ys = ps1} also others) =
    ap (λ ns. ns ++ names_in ds1) (named_entry version d e is) ∙ ap (λ ns. entry_names e ++ ns) (names_filled version given ds1 es1 ps1 rest others) ∙ one e p also
  where
    one : (a : PageEntry) (b : Part) → IsFilled given a b → entry_names a ++ map name_in (slots_named ps1) ≡ map name_in (slots_named (b ∷ ps1))
    one (shaped.Html text) (Markup trees) is = refl
    one (shaped.Html text) (Widget name file fuel) is = absurd is
    one (shaped.Slot slot) (Markup trees) is = absurd is
    one (shaped.Slot slot) (Widget name file fuel) is = ap (λ n. n ∷ map name_in (slots_named ps1)) (sym is.0)

-- fuel within its bounds
abbrev Bounded : ℕ → Type 0
Bounded n = (1 ≤ n) × (n ≤ most_fuel)

given_bounded : (o : Option Data) (fuel : Option ℕ) → IsFuel o fuel → IfSome fuel Bounded
given_bounded None fuel is = subst (λ f. IfSome f Bounded) (sym is) tt
given_bounded (Some d) fuel is = subst (λ f. IfSome f Bounded) (sym is.1) (is.3, is.4)

used_bounded : (own given : Option ℕ) → IfSome own Bounded → IfSome given Bounded → Bounded (fuel_of own given)
used_bounded None None a b = (omega arith, omega arith)
used_bounded None (Some n) a b = b
used_bounded (Some n) given a b = a

fuel_bounded : (version : ℕ) (given : Option ℕ) (ds : List Data) (es : List PageEntry) (ps : List Part) → IfSome given Bounded → Each (IsEntry version) ds es → Each (IsFilled given) es ps → All (λ (n : List ℕ × ℕ). Bounded n.1) (slots_named ps)
fuel_bounded version given ds es ps usual none_left none_left = all_none (λ (n : List ℕ × ℕ). Bounded n.1)
fuel_bounded version given ds es ps usual (one_each {x = d} {y = e} {xs = ds1} {ys = es1} is rest) (one_each {x = f} {y = p} {xs = fs1} {ys = ps1} also others) =
    one e p is also (fuel_bounded version given ds1 es1 ps1 usual rest others)
  where
    one : (a : PageEntry) (b : Part) → IsEntry version d a → IsFilled given a b → All (λ (n : List ℕ × ℕ). Bounded n.1) (slots_named ps1) → All (λ (n : List ℕ × ℕ). Bounded n.1) (slots_named (b ∷ ps1))
    one (shaped.Html text) (Markup trees) is also behind = behind
    one (shaped.Html text) (Widget name file fuel) is also behind = absurd also
    one (shaped.Slot slot) (Markup trees) is also behind = absurd also
    one (shaped.Slot slot) (Widget name file fuel) is also behind =
        all_more (λ (n : List ℕ × ℕ). Bounded n.1) (name, fuel) (slots_named ps1) (subst Bounded (sym also.2) (used_bounded slot.fuel given (given_bounded (get (codes "fuel") d) slot.fuel is.fuel) usual)) behind

-- ## Markup

all_low : (given : Option ℕ) (es : List PageEntry) (ps : List Part) → Each (IsFilled given) es ps → All (λ part. height (markup_of part) ≤ most_high) ps
all_low given es ps none_left = all_none (λ part. height (markup_of part) ≤ most_high)
all_low given es ps (one_each {x = e} {y = p} {xs = es1} {ys = ps1} is rest) = all_more (λ part. height (markup_of part) ≤ most_high) p ps1 (one e p is) (all_low given es1 ps1 rest)
  where
    one : (a : PageEntry) (b : Part) → IsFilled given a b → height (markup_of b) ≤ most_high
    one (shaped.Html text) (Markup trees) is = spelled_low (string_bytes text) trees is.spells
    one (shaped.Html text) (Widget name file fuel) is = absurd is
    one (shaped.Slot slot) (Markup trees) is = absurd is
    one (shaped.Slot slot) (Widget name file fuel) is = omega arith

-- ## Channels

named_within : (names : List (List ℕ)) (o : Option (List ℕ)) (n : ℕ) → option_and_then (λ text. position (λ name. bytes_eq name text) names) o ≡ Some n → n < length names
named_within names None n is = absurd (no is)
  where
    no : None ≡ Some n → ⊥
    no e = cc
named_within names (Some text) n is = (position-Some (λ name. bytes_eq name text) names n [] is).0

each_within : (names : List (List ℕ)) (ds : List Data) (cs : List (ℕ × ℕ)) → Each (IsChannel names) ds cs → All (IsLoadableChannel (length names)) cs
each_within names ds cs none_left = all_none (IsLoadableChannel (length names))
each_within names ds cs (one_each {x = d} {y = c} {xs = ds1} {ys = cs1} is rest) =
    all_more (IsLoadableChannel (length names)) c cs1 (record { from = named_within names (option_and_then as_str (slice_get is.ends 0)) c.0 is.from; to = named_within names (option_and_then as_str (slice_get is.ends 1)) c.1 is.to; apart = is.apart }) (each_within names ds1 cs1 rest)

no_channels : (many : ℕ) → AreLoadableChannels many []
unfolding IsDistinct
no_channels many = record { few = omega arith; distinct = tt; each = all_none (IsLoadableChannel many) }

channels_fit : (names : List (List ℕ)) (o : Option Data) (cs : List (ℕ × ℕ)) → IsChannels names o cs → AreLoadableChannels (length names) cs
channels_fit names None cs is = subst (AreLoadableChannels (length names)) (sym is) (no_channels (length names))
channels_fit names (Some d) cs is =
    let are : AreChannels names is.0 cs = is.2 in
    record {
      few = omega (arith, are.few, each_length (IsChannel names) is.0 cs are.each);
      distinct = distinct_is shapes.same_channel cs are.distinct;
      each = each_within names is.0 cs are.each;
    }

-- ## All

pub read_is_fit : (bytes : List ℕ) (manifest : Manifest) → ReadsManifest bytes manifest → IsFit manifest
read_is_fit bytes manifest reads =
    let shape = reads.is.shape in
    let whole = reads.is.is in
    let filled = reads.is.filled.entries in
    let version = judged_version reads.value in
    let parts = map part_of manifest.entries.items in
    let names : names_in whole.page ≡ map name_in (slots_named parts) = names_filled version shape.fuel whole.page shape.entries.items parts whole.each filled.each in
    let many : length (names_in whole.page) ≡ length (slots_named parts) = ap length names ∙ length-map (slots_named parts) name_in in
    let usual : IfSome shape.fuel Bounded = given_bounded (get (codes "fuel") reads.value) shape.fuel whole.rest.fuel_is in
    record {
      slots = sym (ap are_slots names) ∙ whole.slots;
      fuel = fuel_bounded version shape.fuel whole.page shape.entries.items parts usual whole.each filled.each;
      low = all_low shape.fuel shape.entries.items parts filled.each;
      few = filled.nodes;
      channels = subst (λ n. AreLoadableChannels n manifest.channels.items) many (subst (AreLoadableChannels (length (names_in whole.page))) (sym reads.is.filled.channels) (channels_fit (names_in whole.page) (get (codes "channels") reads.value) shape.channels.items whole.rest.channels_are));
    }
