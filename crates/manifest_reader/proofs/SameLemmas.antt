-- A value is one manifest at most.
use Rattle.std.proofs.Common.{◌≡◌, ℕ, List, [], ◌∷◌, map, String, Global, string_bytes, codes, Option, Some, None, sym, ap, subst, ◌∙◌}
use Rattle.serde_json.specs.Data.{Data}
use Rattle.serde_json.specs.Find.{get, as_str}
use Rattle.markup_grammar.proofs.Answers.{one_reading}
use Rattle.plain_tree.specs.Trees.{Trees}
use Rattle.plain_tree.specs.Plains.{Places}
use Rattle.json_shapes.specs.Each.{Each, none_left, one_each}
use Rattle.manifest_shape.specs.Slots.{IsEntry, IsFuel, names_in}
use Rattle.json_shapes.specs.Json.{judged_version}
use Rattle.manifest_shape.specs.Manifest.{IsLib, IsLibs, IsChannel, IsChannels, slot_in}
use Rattle.manifest_shape.specs.declared.slot.PageEntry.{PageEntry}
use Rattle.manifest_shape.specs.declared.slot.PageEntry.TheVariants.{Html, Slot}
use Rattle.json_shapes.proofs.EachLemmas.{each_same}
use Rattle.manifest_reader.specs.Page.{Part, Markup, Widget, part_of, fuel_of, IsPageMarkup, IsFilled}
use Rattle.manifest_reader.specs.Manifest.{IsManifest, ReadsManifest}
use Rattle.manifest_reader.specs.Same.{IsSame}
use Rattle.manifest_reader.specs.declared.entry.Manifest.{Manifest}
use Rattle.manifest_reader.proofs.PageLemmas.{text_of}
use Rattle.manifest_reader.proofs.ManifestLemmas.{one_value, same_page}

one_fuel : (o : Option Data) (a b : Option ℕ) → IsFuel o a → IsFuel o b → a ≡ b
one_fuel None a b left right = left ∙ sym right
one_fuel (Some d) a b left right = left.1 ∙ sym left.2 ∙ right.2 ∙ sym right.1

-- a value is this entry of a page
record IsPart (version : ℕ) (given : Option ℕ) (d : Data) (part : Part) : Type 0 where
  entry : PageEntry
  shape : IsEntry version d entry
  filled : IsFilled given entry part

one_markup : (one other : List ℕ) (a b : Trees Places) → one ≡ other → IsPageMarkup one a → IsPageMarkup other b → a ≡ b
one_markup one other a b same left right = one_reading other a b (subst (λ text. IsPageMarkup text a) same left).spells right.spells

one_widget : (n m f g : List ℕ) (u v : ℕ) → n ≡ m → f ≡ g → u ≡ v → Widget n f u ≡ Widget m g v
one_widget n m f g u v name file fuel = cc

one_part : (version : ℕ) (given : Option ℕ) (d : Data) (e f : PageEntry) (p q : Part) → IsEntry version d e → IsFilled given e p → IsEntry version d f → IsFilled given f q → p ≡ q
one_part version given d (Html a) (Html b) (Markup x) (Markup y) left p right q =
    let same : string_bytes a ≡ string_bytes b = (let l = left.html in let r = right.html in cc) in
    ap Markup (one_markup (string_bytes a) (string_bytes b) x y same p q)
one_part version given d (Html a) (Html b) (Markup x) (Widget n f u) left p right q = absurd q
one_part version given d (Html a) (Html b) (Widget n f u) y left p right q = absurd p
one_part version given d (Html a) (Slot t) x y left p right q =
    let l = text_of version d (Html a) left in let r = text_of version d (Slot t) right in cc
one_part version given d (Slot s) (Html b) x y left p right q =
    let l = text_of version d (Slot s) left in let r = text_of version d (Html b) right in cc
one_part version given d (Slot s) (Slot t) (Widget n f u) (Widget m g v) left p right q =
    let names : s.name ≡ t.name = (let l = left.name in let r = right.name in cc) in
    let files : string_bytes s.file ≡ string_bytes t.file = (let l = left.file in let r = right.file in cc) in
    let fuels : s.fuel ≡ t.fuel = one_fuel _ s.fuel t.fuel left.fuel right.fuel in
    one_widget n m f g u v (p.0 ∙ names ∙ sym q.0) (p.1 ∙ files ∙ sym q.1) (p.2 ∙ ap (λ o. fuel_of o given) fuels ∙ sym q.2)
one_part version given d (Slot s) (Slot t) (Widget n f u) (Markup y) left p right q = absurd q
one_part version given d (Slot s) (Slot t) (Markup x) y left p right q = absurd p

as_parts : (version : ℕ) (given : Option ℕ) (ds : List Data) (es : List PageEntry) (ps : List Part) → Each (IsEntry version) ds es → Each (IsFilled given) es ps → Each (IsPart version given) ds ps
as_parts version given [] [] [] none_left none_left = none_left
as_parts version given [] [] (p ∷ ps) each filled = elim filled [ ]
as_parts version given [] (e ∷ es) ps each filled = elim each [ ]
as_parts version given (d ∷ ds) [] ps each filled = elim each [ ]
as_parts version given (d ∷ ds) (e ∷ es) [] each filled = elim filled [ ]
as_parts version given (d ∷ ds) (e ∷ es) (p ∷ ps) (one_each here rest) (one_each fills others) =
    one_each (record { entry = e; shape = here; filled = fills }) (as_parts version given ds es ps rest others)

one_list : (version : ℕ) (given : Option ℕ) (ds : List Data) (ps qs : List Part) → Each (IsPart version given) ds ps → Each (IsPart version given) ds qs → ps ≡ qs
one_list version given ds ps qs left right =
    each_same (IsPart version given) ds ps qs (λ d p q is other. one_part version given d is.entry other.entry p q is.shape is.filled other.shape other.filled) left right

abbrev IsName : Data → List ℕ → Type 0
IsName d name = as_str d ≡ Some name

as_names : (ds : List Data) (libs : List (String Global)) → Each IsLib ds libs → Each IsName ds (map string_bytes libs)
as_names [] [] none_left = none_left
as_names [] (l ∷ libs) each = elim each [ ]
as_names (d ∷ ds) [] each = elim each [ ]
as_names (d ∷ ds) (l ∷ libs) (one_each first rest) = one_each first (as_names ds libs rest)

one_some : {X : Type 0} (o : Option X) (x y : X) → o ≡ Some x → o ≡ Some y → x ≡ y
one_some o x y left right = cc

one_libs : (o : Option Data) (a b : List (String Global)) → IsLibs o a → IsLibs o b → map string_bytes a ≡ map string_bytes b
one_libs None a b left right = ap (map string_bytes) (left ∙ sym right)
one_libs (Some d) a b left right =
    let same : left.0 ≡ right.0 = one_some _ left.0 right.0 left.1 right.1 in
    each_same IsName right.0 (map string_bytes a) (map string_bytes b) (λ e x y l r. one_some (as_str e) x y l r)
    (subst (λ ds. Each IsName ds (map string_bytes a)) same (as_names left.0 a left.2.each)) (as_names right.0 b right.2.each)

both : (a b : ℕ × ℕ) → a.0 ≡ b.0 → a.1 ≡ b.1 → a ≡ b
both (a, x) (b, y) first second = cc

one_channel : (names : List (List ℕ)) (d : Data) (a b : ℕ × ℕ) → IsChannel names d a → IsChannel names d b → a ≡ b
one_channel names d a b left right =
    let same : left.ends ≡ right.ends = one_some _ left.ends right.ends left.list right.list in
    both a b
    (one_some _ a.0 b.0 (subst (λ ends. slot_in names 0 ends ≡ Some a.0) same left.from) right.from)
    (one_some _ a.1 b.1 (subst (λ ends. slot_in names 1 ends ≡ Some a.1) same left.to) right.to)

one_channels : (names : List (List ℕ)) (o : Option Data) (a b : List (ℕ × ℕ)) → IsChannels names o a → IsChannels names o b → a ≡ b
one_channels names None a b left right = left ∙ sym right
one_channels names (Some d) a b left right =
    let same : left.0 ≡ right.0 = one_some _ left.0 right.0 left.1 right.1 in
    each_same (IsChannel names) right.0 a b (λ e x y l r. one_channel names e x y l r) (subst (λ ds. Each (IsChannel names) ds a) same left.2.each) right.2.each

one_of_value : (d : Data) (m n : Manifest) → IsManifest d m → IsManifest d n → IsSame m n
one_of_value d m n left right =
    let version = judged_version d in
    let s = left.shape in
    let t = right.shape in
    let same : left.is.page ≡ right.is.page = same_page (codes "page") d left.is.page right.is.page left.is.list right.is.list in
    let names : names_in left.is.page ≡ names_in right.is.page = ap names_in same in
    let fuels : s.fuel ≡ t.fuel = one_fuel _ s.fuel t.fuel left.is.rest.fuel_is right.is.rest.fuel_is in
    let mine : Each (IsPart version s.fuel) left.is.page (map part_of m.entries.items) = as_parts version s.fuel left.is.page s.entries.items (map part_of m.entries.items) left.is.each left.filled.entries.each in
    let theirs : Each (IsPart version t.fuel) right.is.page (map part_of n.entries.items) = as_parts version t.fuel right.is.page t.entries.items (map part_of n.entries.items) right.is.each right.filled.entries.each in
    let moved : Each (IsPart version t.fuel) right.is.page (map part_of m.entries.items) = subst (λ given. Each (IsPart version given) right.is.page (map part_of m.entries.items)) fuels (subst (λ ds. Each (IsPart version s.fuel) ds (map part_of m.entries.items)) same mine) in
    record {
      entries = one_list version t.fuel right.is.page (map part_of m.entries.items) (map part_of n.entries.items) moved theirs;
      libs = ap (map string_bytes) left.filled.libs ∙ one_libs _ s.libs.items t.libs.items left.is.rest.libs_are right.is.rest.libs_are ∙ sym (ap (map string_bytes) right.filled.libs);
      channels = left.filled.channels ∙ one_channels (names_in right.is.page) _ s.channels.items t.channels.items (subst (λ ns. IsChannels ns (get (codes "channels") d) s.channels.items) names left.is.rest.channels_are) right.is.rest.channels_are ∙ sym right.filled.channels;
    }

pub one_manifest : (bytes : List ℕ) (one other : Manifest) → ReadsManifest bytes one → ReadsManifest bytes other → IsSame one other
one_manifest bytes one other left right =
    one_of_value right.value one other (subst (λ d. IsManifest d one) (one_value bytes left.value right.value left.json right.json) left.is) right.is
