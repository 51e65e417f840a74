-- A manifest from its parts, and its faults.
use Rattle.std.proofs.Common.{◌≡◌, ℕ, true, List, length, take, codes, Some, MatchOption, sym, subst, arith}
use Rattle.std.proofs.lemmas.List.{take_all}
use Rattle.serde_json.specs.Data.{Data}
use Rattle.json_shapes.specs.Each.{Each}
use Rattle.json_shapes.specs.Look.{list_at}
use Rattle.manifest_shape.specs.Slots.{IsEntry, names_in, are_slots}
use Rattle.json_shapes.specs.Json.{judged_version}
use Rattle.manifest_shape.specs.Manifest.{AreGoodEntries, IsLongestGoodPage, IsPageFault, IsManifestFault}
use Rattle.json_shapes.specs.declared.fault.ShapeFault.{ShapeFault}
use Rattle.json_shapes.specs.declared.fault.ShapeFault.TheVariants.{NotJson, BadShape, TooMany, Memory}
use Rattle.manifest_shape.specs.declared.slot.PageEntry.{PageEntry}

same_page : (key : List ℕ) (d : Data) (ds es : List Data) → Some ds ≡ list_at key d → list_at key d ≡ Some es → ds ≡ es
same_page key d ds es left right = cc

all_good : (version : ℕ) (ds : List Data) (entries : List PageEntry) → Each (IsEntry version) ds entries → are_slots (names_in ds) ≡ true → AreGoodEntries version ds (length ds)
all_good version ds entries each slots =
    let all : ds ≡ take (length ds) ds = sym (take_all (length ds) ds (omega arith)) in
    record { within = omega arith; entries = entries; each = subst (λ es. Each (IsEntry version) es entries) all each; slots = subst (λ es. are_slots (names_in es) ≡ true) all slots }

-- a fault of the page is one of the manifest
pub pass_page_fault : (d : Data) (ds : List Data) (fault : ShapeFault) → Some ds ≡ list_at (codes "page") d → IsPageFault (judged_version d) ds fault → IsManifestFault d fault
pass_page_fault d ds NotJson list is = absurd is
pass_page_fault d ds (TooMany n) list is = absurd is
pass_page_fault d ds Memory list is = tt
pass_page_fault d ds (BadShape item) list is =
    record {
      no_manifest = λ manifest whole.
          (let same = same_page (codes "page") d ds whole.page list whole.list in
          let good = all_good (judged_version d) ds manifest.entries.items (subst (λ es. Each (IsEntry (judged_version d)) es manifest.entries.items) (sym same) whole.each) (subst (λ es. are_slots (names_in es) ≡ true) (sym same) whole.slots) in
          let all = is.1.longest (length ds) good in
          let some = is.0 in
          omega arith);
      place = subst (λ o. MatchOption o (item ≡ 0) (λ page. IsLongestGoodPage (judged_version d) page item)) list is.1;
    }
