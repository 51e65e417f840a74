-- A manifest by its shape, and its faults.
use Rattle.std.proofs.Common.{◌≡◌, ℕ, ◌<◌, true, List, length, map, take, codes, Some, MatchOption, Result, Ok, Err, IfOk, IfErr, sym, ap, subst, ◌∙◌, arith}
use Rattle.std.proofs.lemmas.List.{take_all, take-map, length-map}
use Rattle.serde_json.specs.Data.{Data}
use Rattle.json_shapes.specs.Each.{Each}
use Rattle.json_shapes.specs.Look.{list_at}
use Rattle.manifest_shape.specs.Slots.{IsEntry, names_in, are_slots}
use Rattle.json_shapes.specs.Json.{IsJson, judged_version}
use Rattle.manifest_shape.specs.Manifest as shaped
use Rattle.json_shapes.specs.declared.fault.ShapeFault.{ShapeFault}
use Rattle.json_shapes.specs.declared.fault.ShapeFault.TheVariants.{NotJson, BadShape, TooMany, Memory}
use Rattle.manifest_shape.specs.declared.manifest.ManifestShape.{ManifestShape}
use Rattle.manifest_reader.specs.Html.{entry_text, html_text, IsLongestHtml, IsHtmlFault}
use Rattle.manifest_reader.specs.Manifest.{IsOfShape, IsManifest, AreGoodEntries, IsLongestGoodPage, IsBadManifest, IsValueFault}
use Rattle.manifest_reader.specs.declared.entry.Manifest.{Manifest}
use Rattle.manifest_reader.proofs.PageLemmas.{texts_of, longest_both}

-- bytes have one value
pub one_value : (bytes : List ℕ) (d e : Data) → IsJson bytes d → IsJson bytes e → d ≡ e
one_value bytes d e left right = let l = left.value in let r = right.value in cc

pub same_page : (key : List ℕ) (d : Data) (ds es : List Data) → list_at key d ≡ Some ds → list_at key d ≡ Some es → ds ≡ es
same_page key d ds es left right = cc

pub whole : (d : Data) (shape : ManifestShape) (manifest : Manifest) → shaped.IsManifest d shape → IsOfShape shape manifest → IsManifest d manifest
whole d shape manifest is filled = record { shape = shape; is = is; filled = filled }

-- all entries of a manifest are good
whole_page : (d : Data) (page : List Data) (shape : ManifestShape) → list_at (codes "page") d ≡ Some page → shaped.IsManifest d shape → shaped.AreGoodEntries (judged_version d) page (length page)
whole_page d page shape list is =
    let same = same_page (codes "page") d is.page page is.list list in
    let all : page ≡ take (length page) page = sym (take_all (length page) page (omega arith)) in
    record {
      within = omega arith;
      entries = shape.entries.items;
      each = subst (λ ds. Each (IsEntry (judged_version d)) ds shape.entries.items) (same ∙ all) is.each;
      slots = subst (λ ds. are_slots (names_in ds) ≡ true) (same ∙ all) is.slots;
    }

whole_good : (d : Data) (page : List Data) (manifest : Manifest) → list_at (codes "page") d ≡ Some page → IsManifest d manifest → AreGoodEntries (judged_version d) page (length page)
unfolding whole_page
whole_good d page manifest list is =
    record { shape = whole_page d page is.shape list is.is; given = is.shape.fuel; parts = _; filled = is.filled.entries }

-- markup that may not be there, in a manifest of good shape
bad_markup : (d : Data) (shape : ManifestShape) (item : ℕ) → shaped.IsManifest d shape → item < length (map entry_text shape.entries.items) → IsLongestHtml (map entry_text shape.entries.items) item → IsBadManifest d item
bad_markup d shape item is less html =
    let version = judged_version d in
    let page = is.page in
    let texts = map html_text page in
    let same : texts ≡ map entry_text shape.entries.items = texts_of version page shape.entries.items is.each in
    let seen : length texts ≡ length page = length-map page html_text in
    let here : length texts ≡ length (map entry_text shape.entries.items) = ap length same in
    let good = whole_page d page shape is.list is in
    let all : take (length page) texts ≡ texts = take_all (length page) texts (omega arith) in
    let longest = longest_both version page (length page) item record { good = good; longest = λ m front. front.within } (subst (λ ts. IsLongestHtml ts item) (sym (all ∙ same)) html) in
    record {
      no_manifest = λ manifest other. (let full = longest.longest (length page) (whole_good d page manifest is.list other) in absurd (omega arith));
      place = subst (λ o. MatchOption o (item ≡ 0) (λ page. IsLongestGoodPage version page item)) (sym is.list) longest;
    }

pub html_fault : (d : Data) (shape : ManifestShape) (fault : ShapeFault) → shaped.IsManifest d shape → IsHtmlFault (map entry_text shape.entries.items) fault → IsValueFault d fault
html_fault d shape NotJson shaped_so is = absurd is
html_fault d shape (TooMany items) shaped_so is = absurd is
html_fault d shape Memory shaped_so is = tt
html_fault d shape (BadShape item) shaped_so is = bad_markup d shape item shaped_so is.0 is.1

-- the page of a value that is refused for its shape
pub shape_at : (d : Data) (page : List Data) (k : ℕ) → list_at (codes "page") d ≡ Some page → shaped.IsBadManifest d k → shaped.IsLongestGoodPage (judged_version d) page k
shape_at d page k list bad = subst (λ o. MatchOption o (k ≡ 0) (λ page. shaped.IsLongestGoodPage (judged_version d) page k)) list bad.place

-- a manifest that is refused for its shape, with the number of entries whose markup is good
pub lowered : (d : Data) (page : List Data) (k n : ℕ) → list_at (codes "page") d ≡ Some page → shaped.IsBadManifest d k → IsLongestHtml (map html_text (take k page)) n → IsBadManifest d n
lowered d page k n list bad html =
    let longest = longest_both (judged_version d) page k n (shape_at d page k list bad) (subst (λ ts. IsLongestHtml ts n) (sym (take-map html_text k page)) html) in
    record {
      no_manifest = λ manifest is. bad.no_manifest is.shape is.is;
      place = subst (λ o. MatchOption o (n ≡ 0) (λ page. IsLongestGoodPage (judged_version d) page n)) (sym list) longest;
    }

-- what comes of a shape
pub pass_manifest : (d : Data) (shape : ManifestShape) (r : Result Manifest ShapeFault) → shaped.IsManifest d shape → IfOk r (IsOfShape shape) → IfOk r (IsManifest d)
pass_manifest d shape (Ok manifest) shaped_so is = whole d shape manifest shaped_so is
pass_manifest d shape (Err fault) shaped_so is = tt

pub pass_fault : (d : Data) (shape : ManifestShape) (r : Result Manifest ShapeFault) → shaped.IsManifest d shape → IfErr r (IsHtmlFault (map entry_text shape.entries.items)) → IfErr r (IsValueFault d)
pass_fault d shape (Ok manifest) shaped_so is = tt
pass_fault d shape (Err fault) shaped_so is = html_fault d shape fault shaped_so is
