-- Entries of a page by their shape and by their markup.
use Rattle.std.proofs.Common.{◌≡◌, ℕ, zero, suc, ◌≤◌, true, false, Bool, List, [], ◌∷◌, ◌++◌, length, map, take, drop, codes, Option, Some, None, option_and_then, if◌then◌else◌, nat_eq, sum_by, string_bytes, refl, sym, ap, subst, ◌∙◌, arith}
use Rattle.std.proofs.lemmas.List.{take-map, take-take, length-map}
use Rattle.std.proofs.lemmas.List.Sums.{sum_by-cons}
use Rattle.std.proofs.lemmas.Grind.{common_steps, flat_map-append}
use Rattle.plain_tree.specs.Trees.{Trees, End, size}
use Rattle.plain_tree.specs.Plains.{Places}
use Rattle.serde_json.specs.Data.{Data}
use Rattle.serde_json.specs.Find.{get, as_str}
use Rattle.json_shapes.specs.Each.{Each, none_left, one_each}
use Rattle.json_shapes.specs.Keys.{has_only}
use Rattle.manifest_shape.specs.Slots.{IsEntry, names_in, are_slots, name_list, slot_name}
use Rattle.manifest_shape.specs.Manifest as shaped
use Rattle.manifest_shape.specs.declared.slot.PageEntry.{PageEntry}
use Rattle.manifest_shape.specs.declared.slot.PageEntry.TheVariants.{Html, Slot}
use Rattle.json_shapes.proofs.EachLemmas.{each_take}
use Rattle.json_shapes.proofs.KeyLemmas.{has_key}
use Rattle.manifest_shape.proofs.DistinctLemmas.{slots_front}
use Rattle.manifest_reader.specs.Page.{Part, Markup, Widget, nodes_of, fuel_of, IsFilled, AreFilled}
use Rattle.manifest_reader.specs.Html.{entry_text, html_text, IsHtmlOf, AreHtml, IsLongestHtml}
use Rattle.manifest_reader.specs.Manifest.{AreGoodEntries, IsLongestGoodPage}

-- a slot has no markup
without : (two : Bool) (d : Data) (o : Option Data) → get (codes "html") d ≡ o → has_only (if two then codes "widget" ∷ codes "file" ∷ codes "fuel" ∷ [] else codes "widget" ∷ codes "file" ∷ []) d ≡ true → html_text d ≡ None
without two d None found only = ap (λ o. option_and_then as_str o) found
without true d (Some e) found only = let h = has_key (codes "widget" ∷ codes "file" ∷ codes "fuel" ∷ []) (codes "html") d e only found in cc
without false d (Some e) found only = let h = has_key (codes "widget" ∷ codes "file" ∷ []) (codes "html") d e only found in cc

pub text_of : (version : ℕ) (d : Data) (e : PageEntry) → IsEntry version d e → html_text d ≡ entry_text e
text_of version d (Html text) is = is.html
text_of version d (Slot slot) is = without (nat_eq version 2) d (get (codes "html") d) refl is.keys

-- the texts of values are those of their entries
pub texts_of : (version : ℕ) (ds : List Data) (es : List PageEntry) → Each (IsEntry version) ds es → map html_text ds ≡ map entry_text es
texts_of version [] [] none_left = refl
texts_of version [] (e ∷ es) each = elim each [ ]
texts_of version (d ∷ ds) [] each = elim each [ ]
texts_of version (d ∷ ds) (e ∷ es) (one_each first rest) =
    ap (λ t. t ∷ map html_text ds) (text_of version d e first) ∙ ap (λ ts. entry_text e ∷ ts) (texts_of version ds es rest)

-- an entry whose markup was read
record IsRead (e : PageEntry) (trees : Trees Places) : Type 0 where
  part : Part
  filled : IsFilled None e part
  nodes : nodes_of part ≡ size trees

read_part : (e : PageEntry) (trees : Trees Places) → IsHtmlOf (entry_text e) trees → IsRead e trees
read_part (Html text) trees is = record { part = Markup trees; filled = is; nodes = refl }
read_part (Slot slot) trees is = record { part = Widget slot.name (string_bytes slot.file) (fuel_of slot.fuel None); filled = (refl, refl, refl); nodes = sym (ap size is) }

record AreRead (es : List PageEntry) (trees : List (Trees Places)) : Type 0 where
  parts : List Part
  each : Each (IsFilled None) es parts
  nodes : sum_by nodes_of parts ≡ sum_by size trees

read_parts : (es : List PageEntry) (trees : List (Trees Places)) → Each IsHtmlOf (map entry_text es) trees → AreRead es trees
read_parts [] [] none_left = record { parts = []; each = none_left; nodes = refl }
read_parts [] (t ∷ ts) each = elim each [ ]
read_parts (e ∷ es) [] each = elim each [ ]
read_parts (e ∷ es) (t ∷ ts) (one_each first rest) =
    let here = read_part e t first in
    let later = read_parts es ts rest in
    let same = here.nodes in
    let others = later.nodes in
    let left = sum_by-cons nodes_of here.part later.parts in
    let right = sum_by-cons size t ts in
    record { parts = here.part ∷ later.parts; each = one_each here.filled later.each; nodes = omega arith }

-- the trees of an entry
pub record HasTrees (e : PageEntry) (part : Part) : Type 0 where
  pub trees : Trees Places
  pub html : IsHtmlOf (entry_text e) trees
  pub nodes : size trees ≡ nodes_of part

pub tree_of : (given : Option ℕ) (e : PageEntry) (part : Part) → IsFilled given e part → HasTrees e part
tree_of given (Html text) (Markup trees) is = record { trees = trees; html = is; nodes = refl }
tree_of given (Html text) (Widget name file fuel) is = absurd is
tree_of given (Slot slot) (Markup trees) is = absurd is
tree_of given (Slot slot) (Widget name file fuel) is = record { trees = End; html = refl; nodes = refl }

record HaveTrees (es : List PageEntry) (parts : List Part) : Type 0 where
  trees : List (Trees Places)
  each : Each IsHtmlOf (map entry_text es) trees
  nodes : sum_by size trees ≡ sum_by nodes_of parts

trees_of : (given : Option ℕ) (es : List PageEntry) (parts : List Part) → Each (IsFilled given) es parts → HaveTrees es parts
trees_of given [] [] none_left = record { trees = []; each = none_left; nodes = refl }
trees_of given [] (p ∷ ps) each = elim each [ ]
trees_of given (e ∷ es) [] each = elim each [ ]
trees_of given (e ∷ es) (p ∷ ps) (one_each first rest) =
    let here = tree_of given e p first in
    let later = trees_of given es ps rest in
    let same = here.nodes in
    let others = later.nodes in
    let left = sum_by-cons size here.trees later.trees in
    let right = sum_by-cons nodes_of p ps in
    record { trees = here.trees ∷ later.trees; each = one_each here.html later.each; nodes = omega arith }

-- markup of good entries
filled_html : (given : Option ℕ) (es : List PageEntry) (parts : List Part) → AreFilled given es parts → AreHtml (map entry_text es)
filled_html given es parts are =
    let all = trees_of given es parts are.each in
    let same = all.nodes in
    let few = are.nodes in
    record { trees = all.trees; each = all.each; nodes = omega arith }

front_texts : (version : ℕ) (page : List Data) (n : ℕ) (es : List PageEntry) → Each (IsEntry version) (take n page) es → take n (map html_text page) ≡ map entry_text es
front_texts version page n es each = take-map html_text n page ∙ texts_of version (take n page) es each

good_html : (version : ℕ) (page : List Data) (m : ℕ) → AreGoodEntries version page m → AreHtml (take m (map html_text page))
good_html version page m good =
    subst AreHtml (sym (front_texts version page m good.shape.entries good.shape.each)) (filled_html good.given good.shape.entries good.parts good.filled)

-- entries of good shape and with good markup
good_both : (version : ℕ) (page : List Data) (n : ℕ) → shaped.AreGoodEntries version page n → AreHtml (take n (map html_text page)) → AreGoodEntries version page n
good_both version page n good html =
    let all = read_parts good.entries html.trees (subst (λ ts. Each IsHtmlOf ts html.trees) (front_texts version page n good.entries good.each) html.each) in
    let same = all.nodes in
    let few = html.nodes in
    record { shape = good; given = None; parts = all.parts; filled = record { each = all.each; nodes = omega arith } }

take_front : (ds : List Data) (a b : ℕ) → a ≤ b → take b ds ≡ take a ds ++ drop a (take b ds)
take_front ds zero b le = refl
take_front [] (suc a) zero le = refl
take_front [] (suc a) (suc b) le = refl
take_front (d ∷ ds) (suc a) zero le = absurd (omega arith)
take_front (d ∷ ds) (suc a) (suc b) le = ap (λ rest. d ∷ rest) (take_front ds a b (omega arith))

-- the slots of fewer entries
fewer_slots : (ds : List Data) (a b : ℕ) → a ≤ b → are_slots (names_in (take b ds)) ≡ true → are_slots (names_in (take a ds)) ≡ true
fewer_slots ds a b le all =
    let parts : names_in (take b ds) ≡ names_in (take a ds) ++ names_in (drop a (take b ds)) = ap names_in (take_front ds a b le) ∙ flat_map-append (λ e. name_list (slot_name e)) (take a ds) (drop a (take b ds)) in
    slots_front (names_in (take a ds)) (names_in (drop a (take b ds))) (sym (ap are_slots parts) ∙ all)

-- fewer entries of good shape
fewer : (version : ℕ) (page : List Data) (n k : ℕ) → n ≤ k → shaped.AreGoodEntries version page k → shaped.AreGoodEntries version page n
fewer version page n k le good =
    let all = good.within in
    record {
      within = omega arith;
      entries = take n good.entries;
      each = subst (λ ds. Each (IsEntry version) ds (take n good.entries)) (take-take n k page le) (each_take (IsEntry version) (take k page) good.entries n good.each);
      slots = fewer_slots page n k le good.slots;
    }

-- the longest front whose shape and whose markup are good
pub longest_both : (version : ℕ) (page : List Data) (k n : ℕ) → shaped.IsLongestGoodPage version page k → IsLongestHtml (take k (map html_text page)) n → IsLongestGoodPage version page n
longest_both version page k n shape html =
    let whole = shape.good.within in
    let texts = map html_text page in
    let seen : length texts ≡ length page = length-map page html_text in
    let front : length (take k texts) ≡ k = grind (arith, common_steps) in
    let inside = html.within in
    let same : take n (take k texts) ≡ take n texts = take-take n k texts (omega arith) in
    record {
      good = good_both version page n (fewer version page n k (omega arith) shape.good) (subst AreHtml same html.good);
      longest = λ m good.
          (let few = shape.longest m good.shape in
          let back : take m (take k texts) ≡ take m texts = take-take m k texts few in
          html.longest m (omega arith) (subst AreHtml (sym back) (good_html version page m good)));
    }
