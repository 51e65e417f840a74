-- The Bunch methods that read. The extra is the number of nodes, unless said.
use Rattle.std.specs.Prelude.{ℕ, pos, ◌+◌, ◌*◌, List, [], ◌∷◌, length, map, Bool, true, false, not, ◌&&◌, if◌then◌else◌, codes, Option, Some, None, is_some, unwrap_or}
use Rattle.std.specs.List.{filter, sum_by, range_with_len, fold, filter_map}
use Rattle.permitted_table.specs.declared.native.ReadNative.{ReadNative}
use Rattle.permitted_table.specs.declared.native.ReadNative.TheVariants.{Query, GetValue, GetValues, GetStyle, GetClass, GetTitle, GetCheck, Explode, Count, GetParent, GetTagName, GetMark}
use Rattle.widget_meaning.specs.Values.{Value, Undefined, Truth, Num, Text, Own, E9, to_text, nth, E4}
use Rattle.widget_meaning.specs.Trees.{parent, subtree}
use Rattle.widget_meaning.specs.OwnState.{State, kept_at, new_array, new_bunch, with_new_cell}
use Rattle.widget_meaning.specs.Plan.{Plan, charge}
use Rattle.widget_meaning.specs.Costs.{pay, cost, make_text, throw, give, want}
use Rattle.widget_meaning.specs.NativeForms.{want_primitives, on_bunch, make_bunch, give_texts, numbered_pairs}
use Rattle.style_text.specs.Styles.{is_listed}
use Rattle.widget_meaning.specs.Styles.{style_pairs, style_value}
use Rattle.widget_meaning.specs.PageForms.{want_all, attribute, texts_of, tag_of, is_input, is_text_node, once, next_node}
use Rattle.query_grammar.specs.declared.query.Hunter.{Hunter}
use Rattle.query_grammar.specs.declared.query.Hunter.TheVariants as hunter
use Rattle.query_grammar.specs.Steps.{Step}
use Rattle.widget_meaning.specs.Queries.{read_query, finds}

-- a text that is made and given, with this extra
abbrev pub give_page_text : ℕ → List ℕ → State → Plan
give_page_text extra t s = charge extra s (make_text t s (give (Text t)))

-- whether a hunter is `+`
abbrev pub is_next : Hunter → Bool
is_next (hunter.Next tag) = true
is_next h = false

-- the starts of a query: no protected nodes where the first step's hunter is `+`
abbrev pub starts : State → List Step → List ℕ → List ℕ
starts s [] ns = ns
starts s (q ∷ qs) ns = if is_next q.hunter then filter (λ n. not (kept_at s n).is_protected) ns else ns

-- what a query of these steps finds, or E9 where the text is no query
abbrev pub query_steps : Option (List Step) → List ℕ → State → Plan
query_steps None ns s = throw E9 s
query_steps (Some qs) ns s = charge (length qs * next_node s) s (make_bunch (finds s (starts s qs ns) qs) s give)

-- `q(query)`: the Bunch found; the extra is the steps times the nodes that the widget has had
abbrev pub query : List ℕ → Value → State → Plan
query ns v s = want_primitives (v ∷ []) s (query_steps (read_query (to_text v)) ns s)

-- the value of a node: an `input` its attribute or empty, a text node its text, an element its text content
abbrev pub value_of : State → ℕ → List ℕ
value_of s n = if is_input s n then unwrap_or (attribute s n (codes "value")) [] else texts_of (subtree n s.own.forest)

-- `getValues()`: the extra is the number of nodes and the units
abbrev pub get_values : List ℕ → State → Plan
get_values ns s = charge (length ns + sum_by length (map (value_of s) ns)) s (give_texts (map (value_of s) ns) s)

-- an attribute of the first node
abbrev pub first_found : State → List ℕ → List ℕ → Option (List ℕ)
first_found s [] x = None
first_found s (n ∷ ns) x = attribute s n x

-- the same, or empty
abbrev pub first_attribute : State → List ℕ → List ℕ → List ℕ
first_attribute s ns x = unwrap_or (first_found s ns x) []

-- `getStyle(p)`: E4 for a property that is not listed
abbrev pub get_style : List ℕ → Value → State → Plan
get_style ns p s =
    want_primitives (p ∷ []) s (want E4 (is_listed (to_text p)) s
    (give_page_text (length ns) (style_value (style_pairs (first_attribute s ns (codes "style"))) (to_text p)) s))

-- whether the first node has `checked`
abbrev pub is_checked : State → List ℕ → Bool
is_checked s ns = is_some (first_found s ns (codes "checked"))

-- the objects from this number on, one for each node
abbrev pub bunches_from : ℕ → List ℕ → List Value
bunches_from m ns = map Own (range_with_len m (length ns))

-- a new Bunch of one node
abbrev pub with_bunch : State → ℕ → State
with_bunch s n = with_new_cell s (new_bunch (n ∷ []))

-- the array and its Bunches
abbrev pub exploded : List ℕ → State → State
exploded ns s =
    fold with_bunch (with_new_cell s
    (new_array (length ns) (numbered_pairs 0 (bunches_from (length s.own.heap + 1) ns)))) ns

-- `explode()`, at one cost: an array of Bunches of one node; the array is born first
abbrev pub explode : List ℕ → State → Plan
explode ns s =
    charge (length ns) s
    (pay (cost 0 (length ns + 1) (3 * length ns) 0) s (λ t. give (Own (length t.own.heap)) (exploded ns t)))

-- whether a node has a parent and is not protected
abbrev pub has_open_parent : State → ℕ → Bool
has_open_parent s n = is_some (parent n s.own.forest) && not (kept_at s n).is_protected

-- `getParent()`: the parents, first seen first; E10 where a node is protected or has no parent
abbrev pub get_parent : List ℕ → State → Plan
get_parent ns s =
    want_all (has_open_parent s) ns s
    (charge (length ns) s (make_bunch (once [] (filter_map (λ n. parent n s.own.forest) ns)) s give))

-- the first node's mark, or empty
abbrev pub first_mark : State → List ℕ → List ℕ
first_mark s [] = []
first_mark s (n ∷ ns) = (kept_at s n).mark

-- the value of the first node
abbrev pub first_value : State → List ℕ → Option (List ℕ)
first_value s [] = None
first_value s (n ∷ ns) = Some (value_of s n)

-- the first node's tag, or `#text`
abbrev pub first_tag : State → List ℕ → Option (List ℕ)
first_tag s [] = None
first_tag s (n ∷ ns) = Some (if is_text_node s n then codes "#text" else tag_of s n)

-- ## Methods that show a text of the first node

-- the text that a method shows; where there is none, undefined
abbrev pub shown : ReadNative → State → List ℕ → Option (List ℕ)
shown GetValue s ns = first_value s ns
shown GetClass s ns = Some (first_attribute s ns (codes "class"))
shown GetTitle s ns = Some (first_attribute s ns (codes "title"))
shown GetTagName s ns = first_tag s ns
shown GetMark s ns = Some (first_mark s ns)
shown w s ns = None

-- the extra of such a method: of `getValue()` the number of nodes and the units
abbrev pub shown_extra : ReadNative → State → List ℕ → ℕ
shown_extra GetValue s ns = length ns + length (unwrap_or (first_value s ns) [])
shown_extra w s ns = length ns

-- a text that is shown is made and given with this extra; undefined costs no more
abbrev pub give_found : ℕ → Option (List ℕ) → State → Plan
give_found extra None s = give Undefined s
give_found extra (Some t) s = give_page_text extra t s

-- what such a method gives
abbrev pub show : ReadNative → List ℕ → State → Plan
show w ns s = give_found (shown_extra w s ns) (shown w s ns) s

-- each method on its nodes; the others show a text
abbrev pub read_method : ReadNative → List ℕ → List Value → State → Plan
read_method Query ns vs s = query ns (nth 0 vs) s
read_method GetValues ns vs s = get_values ns s
read_method GetStyle ns vs s = get_style ns (nth 0 vs) s
read_method GetCheck ns vs s = charge (length ns) s (give (Truth (is_checked s ns)) s)
read_method Explode ns vs s = explode ns s
read_method Count ns vs s = charge (length ns) s (give (Num (pos (length ns))) s)
read_method GetParent ns vs s = get_parent ns s
read_method w ns vs s = show w ns s

-- a method of a Bunch that reads
abbrev pub read_native : ReadNative → Option Value → List Value → ℕ → State → Plan
read_native w this vs d s = on_bunch this s (λ ns. read_method w ns vs s)
