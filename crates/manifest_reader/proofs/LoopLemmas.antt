-- Walks over the entries of a page.
use Rattle.std.proofs.Common.{◌≡◌, ℕ, ◌+◌, ◌<◌, ◌≤◌, List, [], ◌∷◌, ◌++◌, length, map, take, get_or, Option, sum_by, refl, sym, ap, subst, ◌∙◌, arith}
use Rattle.std.proofs.lemmas.Grind.{common_steps}
use Rattle.std.proofs.lemmas.List.{length-map, take_more, take_all, map-append}
use Rattle.std.proofs.lemmas.List.Sums.{sum_by_push}
use Rattle.std.proofs.Math.ListN.{get_or-map}
use Rattle.plain_tree.specs.Trees.{Trees, size}
use Rattle.plain_tree.specs.Plains.{Places}
use Rattle.serde_json.specs.View.{view}
use Rattle.serde_json.specs.declared.value.Value.{Value}
use Rattle.json_shapes.specs.Each.{Each, none_left}
use Rattle.manifest_shape.specs.declared.slot.PageEntry.{PageEntry}
use Rattle.json_shapes.proofs.EachLemmas.{each_more, each_length}
use Rattle.manifest_reader.specs.Page.{part_of, nodes_of, node_limit, IsFilled, AreFilled}
use Rattle.manifest_reader.specs.Html.{entry_text, html_text, IsHtmlOf, IsLongestHtml}
use Rattle.manifest_reader.specs.declared.entry.Entry.{Entry}
use Rattle.manifest_reader.proofs.HtmlLemmas.{HtmlSoFar, no_html_yet, html_more, html_stops}
use Rattle.manifest_reader.proofs.PageLemmas.{tree_of}

-- the texts of values
abbrev pub texts : List Value → List (Option (List ℕ))
texts vs = map html_text (map view vs)

texts_length : (vs : List Value) → length (texts vs) ≡ length vs
texts_length vs = length-map (map view vs) html_text ∙ length-map vs view

text_at_place : (vs : List Value) (i : ℕ) (v : Value) → v ≡ get_or vs i v → html_text (view v) ≡ get_or (texts vs) i (html_text (view v))
text_at_place vs i v is = sym (get_or-map html_text (map view vs) i (view v) ∙ ap html_text (get_or-map view vs i v ∙ ap view (sym is)))

pub value_more : (vs : List Value) (i : ℕ) (v : Value) (room left : ℕ) → i < length vs → v ≡ get_or vs i v → HtmlSoFar (texts vs) i room → ((trees : Trees Places) × IsHtmlOf (html_text (view v)) trees × (left + size trees ≡ room)) → HtmlSoFar (texts vs) (i + 1) left
value_more vs i v room left within is so_far read =
    let seen = texts_length vs in
    html_more (texts vs) i (html_text (view v)) room left read.0 (omega arith) (text_at_place vs i v is) so_far read.1 read.2

pub value_stops : (vs : List Value) (i : ℕ) (v : Value) (room : ℕ) → i < length vs → v ≡ get_or vs i v → HtmlSoFar (texts vs) i room → ((trees : Trees Places) → IsHtmlOf (html_text (view v)) trees → room < size trees) → IsLongestHtml (texts vs) i
value_stops vs i v room within is so_far bad =
    let seen = texts_length vs in
    html_stops (texts vs) i (html_text (view v)) room (omega arith) (text_at_place vs i v is) so_far bad

-- the first i entries are these, and so many nodes may follow
pub record EntriesSoFar (given : Option ℕ) (es : List PageEntry) (i : ℕ) (read : List Entry) (room : ℕ) : Type 0 where
  pub each : Each (IsFilled given) (take i es) (map part_of read)
  pub nodes : sum_by nodes_of (map part_of read) + room ≡ node_limit
  pub html : HtmlSoFar (map entry_text es) i room

pub no_entry_yet : (given : Option ℕ) (es : List PageEntry) (read : List Entry) → read ≡ [] → EntriesSoFar given es 0 read node_limit
no_entry_yet given es read none =
    subst (λ r. EntriesSoFar given es 0 r node_limit) (sym none) (record { each = none_left; nodes = refl; html = no_html_yet (map entry_text es) })

entry_text_at : (es : List PageEntry) (i : ℕ) (e : PageEntry) → e ≡ get_or es i e → entry_text e ≡ get_or (map entry_text es) i (entry_text e)
entry_text_at es i e is = sym (get_or-map entry_text es i e ∙ ap entry_text (sym is))

-- one entry more
pub entry_more : (given : Option ℕ) (es : List PageEntry) (i : ℕ) (e : PageEntry) (read new : List Entry) (next : Entry) (room left : ℕ) → i < length es → e ≡ get_or es i e → EntriesSoFar given es i read room → IsFilled given e (part_of next) → left + nodes_of (part_of next) ≡ room → new ≡ read ++ next ∷ [] → EntriesSoFar given es (i + 1) new left
entry_more given es i e read new next room left within is so_far filled rest pushed =
    let more : take (i + 1) es ≡ take i es ++ e ∷ [] = take_more es i e within ∙ ap (λ w. take i es ++ w ∷ []) (sym is) in
    let parts : map part_of new ≡ map part_of read ++ part_of next ∷ [] = ap (map part_of) pushed ∙ map-append part_of read (next ∷ []) in
    let sum = ap (sum_by nodes_of) parts ∙ sum_by_push nodes_of (map part_of read) (part_of next) in
    let before = so_far.nodes in
    let seen = length-map es entry_text in
    let tree = tree_of given e (part_of next) filled in
    let same = tree.nodes in
    record {
      each = subst (λ ps. Each (IsFilled given) (take (i + 1) es) ps) (sym parts) (subst (λ ds. Each (IsFilled given) ds (map part_of read ++ part_of next ∷ [])) (sym more) (each_more (IsFilled given) (take i es) (map part_of read) e (part_of next) so_far.each filled));
      nodes = omega arith;
      html = html_more (map entry_text es) i (entry_text e) room left tree.trees (omega arith) (entry_text_at es i e is) so_far.html tree.html (omega arith);
    }

-- the place where they stop
pub entry_stops : (given : Option ℕ) (es : List PageEntry) (i n : ℕ) (e : PageEntry) (read : List Entry) (room : ℕ) → i < length es → e ≡ get_or es i e → EntriesSoFar given es i read room → n ≡ length read → ((trees : Trees Places) → IsHtmlOf (entry_text e) trees → room < size trees) → (n < length (map entry_text es)) × IsLongestHtml (map entry_text es) n
entry_stops given es i n e read room within is so_far place bad =
    let seen = length-map es entry_text in
    let equal = each_length (IsFilled given) (take i es) (map part_of read) so_far.each in
    let mapped = length-map read part_of in
    let short : length (take i es) ≡ i = grind (arith, common_steps) in
    let same : i ≡ n = omega arith in
    (omega arith, subst (IsLongestHtml (map entry_text es)) same (html_stops (map entry_text es) i (entry_text e) room (omega arith) (entry_text_at es i e is) so_far.html bad))

-- all of them
pub entries_whole : (given : Option ℕ) (es : List PageEntry) (i : ℕ) (read : List Entry) (room : ℕ) → length es ≤ i → EntriesSoFar given es i read room → AreFilled given es (map part_of read)
entries_whole given es i read room whole so_far =
    let before = so_far.nodes in
    record { each = subst (λ ds. Each (IsFilled given) ds (map part_of read)) (take_all i es whole) so_far.each; nodes = omega arith }
