-- The natives of `dom`: they work on the root of the running widget and ignore the receiver.
use Rattle.std.specs.Prelude.{ℕ, List, [], ◌∷◌, length, ◌&&◌, codes, Option, map, sum_by}
use Rattle.std.specs.List.{list_all}
use Rattle.permitted_table.specs.declared.native.DomNative.{DomNative}
use Rattle.permitted_table.specs.declared.native.DomNative.TheVariants.{DomQuery, DomAppend, DomTag, DomText}
use Rattle.widget_meaning.specs.Values.{Value, Undefined, Own, to_text, nth, E4}
use Rattle.plain_tree.specs.Tags.{is_listed_tag}
use Rattle.plain_tree.specs.Words.{is_plain_words}
use Rattle.plain_tree.specs.Trees.{Label, TextOf, ElementOf, size}
use Rattle.widget_meaning.specs.OwnState.{State, new_bunch, with_new_cell}
use Rattle.widget_meaning.specs.Plan.{Plan, charge}
use Rattle.widget_meaning.specs.Costs.{pay, cost, give, want}
use Rattle.widget_meaning.specs.NativeForms.{want_primitives}
use Rattle.widget_meaning.specs.Trees.{subtrees}
use Rattle.widget_meaning.specs.PageForms.{root, want_all, want_bunch, with_node, next_node}
use Rattle.widget_meaning.specs.BunchReads.{query}
use Rattle.widget_meaning.specs.BunchWrites.{is_target, appended}

-- a new node and the Bunch of it: a node, a cell and two slots, and the units of its texts; no extra
abbrev pub give_node : Label → ℕ → State → Plan
give_node l units s =
    pay (cost units 1 2 1) s
    (λ t. give (Own (length t.own.heap)) (with_new_cell (with_node l t) (new_bunch (next_node t ∷ []))))

-- the text of an argument that may be absent
abbrev pub given_text : Value → List (List ℕ)
given_text Undefined = []
given_text v = to_text v ∷ []

-- `dom.tag(name, type)`: an element of a listed tag, with the `type` that is given
abbrev pub dom_tag : List ℕ → List (List ℕ) → State → Plan
dom_tag tag types s =
    want E4 (is_listed_tag tag && list_all is_plain_words types) s
    (give_node (ElementOf tag (map (λ t. (codes "type", t)) types)) (sum_by length types) s)

-- nodes become the last children of the root, and a new Bunch of it is given
abbrev pub append_to_root : List ℕ → State → Plan
append_to_root ms s =
    charge (size (subtrees ms s.own.forest)) s (pay (cost 0 1 2 0) s
    (λ t. give (Own (length t.own.heap)) (with_new_cell (appended (root ∷ []) ms t) (new_bunch (root ∷ [])))))

-- `dom.append(b)`
abbrev pub dom_append : Value → State → Plan
dom_append v s = want_bunch v s (λ ms. want_all (is_target s ms) (root ∷ []) s (append_to_root ms s))

-- the natives of `dom`
abbrev pub dom_native : DomNative → Option Value → List Value → ℕ → State → Plan
dom_native DomQuery this vs d s = query (root ∷ []) (nth 0 vs) s
dom_native DomAppend this vs d s = dom_append (nth 0 vs) s
dom_native DomTag this vs d s =
    want_primitives (nth 0 vs ∷ nth 1 vs ∷ []) s (dom_tag (to_text (nth 0 vs)) (given_text (nth 1 vs)) s)
dom_native DomText this vs d s =
    want_primitives (nth 0 vs ∷ []) s (give_node (TextOf (to_text (nth 0 vs))) (length (to_text (nth 0 vs))) s)
