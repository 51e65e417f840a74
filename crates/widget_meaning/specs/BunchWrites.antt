-- The Bunch methods that change. The extra is the number of nodes, unless said; each gives the Bunch.
use Rattle.std.specs.Prelude.{ℕ, ◌+◌, ◌-◌, ◌*◌, List, [], ◌∷◌, ◌++◌, length, Bool, true, not, ◌&&◌, ◌||◌, nat_eq, nat_le, nat_lt, if◌then◌else◌, codes, Option, Some, None, unwrap_or}
use Rattle.std.specs.List.{filter, list_all, count_by, fold}
use Rattle.std.specs.Str.{bytes_eq}
use Rattle.std.specs.Option.{option_map_or}
use Rattle.widget_meaning.specs.Limits.{max_node_depth}
use Rattle.permitted_table.specs.declared.native.WriteNative.{WriteNative}
use Rattle.permitted_table.specs.declared.native.WriteNative.TheVariants.{Append, Remove, Empty, Replace, SetValue, SetStyle, SetClass, SetTitle, SetCheck, SetEnabled, Focus, Blur, On, Off, Fire, Each, SetMark, Protect}
use Rattle.widget_meaning.specs.Values.{Value, Undefined, Own, E10, is_true, to_text, nth, E4}
use Rattle.plain_tree.specs.Words.{is_plain_words, is_event_type}
use Rattle.plain_tree.specs.Trees.{End, Node, Label, TextOf, height, size}
use Rattle.tree_ops.specs.Labels.{with_attribute, attribute_of}
use Rattle.widget_meaning.specs.Trees.{Trees, label_of, parent, children, tops, has, numbered, grafted, subtree, subtrees, detached, moved, depth_of, copied}
use Rattle.widget_meaning.specs.OwnState.{State, Kept, kept_at, with_own, with_forest, with_kept}
use Rattle.widget_meaning.specs.Plan.{Plan, Do, Call, charge, and_then, after}
use Rattle.widget_meaning.specs.Costs.{pay, cost, slots_cost, give, or_throw, want}
use Rattle.widget_meaning.specs.NativeForms.{want_primitives, want_function, on_bunch}
use Rattle.widget_meaning.specs.Dispatch.{dispatch}
use Rattle.style_text.specs.Styles.{is_listed, is_value, print_style}
use Rattle.query_grammar.specs.Finds.{has_number}
use Rattle.widget_meaning.specs.PageForms.{root, want_all, want_one, want_bunch, is_void, is_input, is_field, is_text_node, is_element, is_tag, tree_units, next_node, with_room, with_label}
use Rattle.widget_meaning.specs.BunchReads.{bunches_from, with_bunch}
use Rattle.widget_meaning.specs.Styles.{with_property, style_pairs}

-- the extra, and then what a method that costs nothing does; it gives the Bunch
abbrev pub alter : ℕ → Value → State → (State → State) → Plan
alter extra b s f = charge extra s (give b (f s))

-- the same with a cost
abbrev pub alter_for : ℕ → ℕ → ℕ → Value → State → (State → State) → Plan
alter_for extra units nodes b s f = charge extra s (pay (cost units 0 0 nodes) s (λ t. give b (f t)))

-- the same to each node, where it costs nothing
abbrev pub alter_each : (State → ℕ → State) → List ℕ → Value → State → Plan
alter_each f ns b s = alter (length ns) b s (λ t. fold f t ns)

-- ## The tree

-- whether a node is not the root
abbrev pub is_no_root : ℕ → Bool
is_no_root n = not (nat_eq n root)

-- whether a node may go under a target: it is no root, stands not at or above it, and nothing becomes too deep
abbrev pub is_allowed_under : State → ℕ → ℕ → Bool
is_allowed_under s t n =
    is_no_root n && not (has t (subtree n s.own.forest))
    && nat_le (depth_of t s.own.forest + height (subtree n s.own.forest)) max_node_depth

-- whether a target takes all of these nodes
abbrev pub is_target : State → List ℕ → ℕ → Bool
is_target s ms t = not (is_text_node s t) && not (is_void s t) && list_all (is_allowed_under s t) ms

-- copies of trees, the last children of a target
abbrev pub with_copies : ℕ → List ℕ → State → State
with_copies t ms s =
    let us : Trees = numbered (next_node s) (copied (subtrees ms s.own.forest)) in
    with_room (size us) (with_forest s (grafted t None us s.own.forest))

-- each target but the last gets copies, the last the nodes themselves
abbrev pub appended : List ℕ → List ℕ → State → State
appended [] ms s = s
appended (t ∷ []) ms s = with_forest s (fold (moved t None) s.own.forest ms)
appended (t ∷ u ∷ ts) ms s = appended (u ∷ ts) ms (with_copies t ms s)

-- the trees are appended: the extra is the targets times their nodes; the copies cost their nodes and units
abbrev pub append_trees : List ℕ → List ℕ → Trees → Value → State → Plan
append_trees ns ms us b s =
    alter_for (length ns * size us) ((length ns - 1) * tree_units us) ((length ns - 1) * size us) b s (appended ns ms)

-- `append(b)`: without a target the root may not be among the nodes either
abbrev pub append : List ℕ → Value → Value → State → Plan
append ns v b s = want_bunch v s (λ ms.
    want_all (is_target s ms) ns s (want_all is_no_root ms s (append_trees ns ms (subtrees ms s.own.forest) b s)))

-- `remove()`: the root cannot be taken out
abbrev pub remove : List ℕ → Value → State → Plan
remove ns b s = want_all is_no_root ns s (alter_each (λ t n. with_forest t (detached t.own.forest n)) ns b s)

-- all children of a node become trees of their own
abbrev pub emptied : State → ℕ → State
emptied s n = with_forest s (fold detached s.own.forest (tops (children n s.own.forest)))

-- `replace(b)`: one node with a parent, which does not stand in b, is detached, and those of b come in its place
abbrev pub replace : List ℕ → Value → Value → State → Plan
replace ns v b s = want_one ns s (λ n. want_bunch v s (λ ms. or_throw E10 (parent n s.own.forest) s (λ p.
    want E10 (not (has_number ms n) && is_target s ms p) s
    (alter 1 b s (λ t. with_forest t (detached (fold (moved p (Some n)) t.own.forest ms) n))))))

-- ## Labels

-- the label of a node changed, where it is there
abbrev pub relabel : (Label → Label) → State → ℕ → State
relabel f s n = option_map_or (λ l. with_label s n (f l)) (label_of n s.own.forest) s

-- a new text node as the last child of a node; none of the empty text
abbrev pub with_text_node : ℕ → List ℕ → State → State
with_text_node n [] s = s
with_text_node n (u ∷ us) s =
    with_room 1 (with_forest s (grafted n None (Node (next_node s) (TextOf (u ∷ us)) End End) s.own.forest))

-- a node with a value: an `input` gets the attribute, a text node the text, an element a text node for its children
abbrev pub valued : List ℕ → State → ℕ → State
valued t s n =
    if is_input s n then relabel (with_attribute (codes "value") (Some t)) s n
    else if is_text_node s n then with_label s n (TextOf t)
    else with_text_node n t (emptied s n)

-- whether a node gets a new text node for the value
abbrev pub has_new_text : State → List ℕ → ℕ → Bool
has_new_text s t n = nat_lt 0 (length t) && is_element s n && not (is_input s n)

-- whether a node takes the value
abbrev pub is_value_target : State → List ℕ → ℕ → Bool
is_value_target s t n =
    not (is_tag (codes "br" ∷ codes "hr" ∷ codes "img" ∷ []) s n)
    && (not (has_new_text s t n) || nat_lt (depth_of n s.own.forest) max_node_depth)

-- `value(v)`
abbrev pub set_value : List ℕ → List ℕ → Value → State → Plan
set_value ns t b s =
    want_all (is_value_target s t) ns s
    (alter_for (length ns) (length ns * length t) (count_by (has_new_text s t) ns) b s
    (λ u. fold (valued t) u ns))

-- a label whose style is this, with a property set; where there is none, an empty value makes none
abbrev pub with_style : Option (List ℕ) → List ℕ → List ℕ → Label → Label
with_style None p [] l = l
with_style style p v l =
    with_attribute (codes "style") (Some (print_style (with_property (option_map_or style_pairs style []) p v))) l

-- a label with a property of its style set; an attribute whose last property is taken out stays where it stands
abbrev pub styled : List ℕ → List ℕ → Label → Label
styled p v l = with_style (attribute_of (codes "style") l) p v l

-- `style(p, v)`
abbrev pub set_style : List ℕ → List ℕ → List ℕ → Value → State → Plan
set_style ns p v b s =
    want E4 (is_listed p && (nat_eq (length v) 0 || is_value v)) s
    (want_all (is_element s) ns s
    (alter_for (length ns) (length ns * length v) 0 b s (λ t. fold (relabel (styled p v)) t ns)))

-- `klass(v)` and `title(v)`
abbrev pub set_attribute : List ℕ → List ℕ → List ℕ → Value → State → Plan
set_attribute ns x v b s =
    want_all (is_element s) ns s
    (alter_for (length ns) (length ns * length v) 0 b s (λ t. fold (relabel (with_attribute x (Some v))) t ns))

-- `check(v)` and `enable(v)`, by the truth of v: an attribute whose value is its name is set or taken out
abbrev pub set_flag : (ℕ → Bool) → List ℕ → List ℕ → Bool → Value → State → Plan
set_flag test ns x is_set b s =
    want_all test ns s (alter_each (relabel (with_attribute x (if is_set then Some x else None))) ns b s)

-- ## The focus

-- with another focus
abbrev pub with_focus : Option ℕ → State → State
with_focus o s = with_own s (record s.own { focus = o })

-- `focus()`: of one node
abbrev pub focus : List ℕ → Value → State → Plan
focus ns b s = want_one ns s (λ n. alter (length ns) b s (with_focus (Some n)))

-- the focus, unless it is among these nodes
abbrev pub left_focus : Option ℕ → List ℕ → Option ℕ
left_focus None ns = None
left_focus (Some n) ns = if has_number ns n then None else Some n

-- `blur()`: of any nodes
abbrev pub blur : List ℕ → Value → State → Plan
blur ns b s = alter (length ns) b s (λ t. with_focus (left_focus t.own.focus ns) t)

-- ## What is kept with nodes

-- what is kept with a node changed
abbrev pub change_kept : (Kept → Kept) → State → ℕ → State
change_kept f s n = with_kept s n (f (kept_at s n))

-- one more handler
abbrev pub with_handler : List ℕ → Value → Kept → Kept
with_handler t (Own f) k = record k { handlers = k.handlers ++ record { kind = t; func = f } ∷ [] }
with_handler t v k = k

-- `on(t, f)`: each handler costs a slot
abbrev pub listen : List ℕ → List ℕ → Value → Value → State → Plan
listen ns t f b s =
    want E4 (is_event_type t) s
    (want_function f s (charge (length ns) s
    (pay (slots_cost (length ns)) s (λ u. give b (fold (change_kept (with_handler t f)) u ns)))))

-- `off(t)`: the handlers of the type are taken out, or all
abbrev pub hush : List ℕ → Value → Value → State → Plan
hush ns Undefined b s = alter_each (change_kept (λ k. record k { handlers = [] })) ns b s
hush ns v b s =
    want_primitives (v ∷ []) s (want E4 (is_event_type (to_text v)) s
    (alter_each (change_kept
    (λ k. record k { handlers = filter (λ h. not (bytes_eq h.kind (to_text v))) k.handlers })) ns b s))

-- ## Calls

-- a dispatch to each node in order
abbrev pub fired : List ℕ → List ℕ → Value → ℕ → State → Plan
fired t [] b d s = give b s
fired t (n ∷ ns) b d s = and_then (dispatch t n Undefined d s) (after (λ v u. fired t ns b d u))

-- `fire(t)`
abbrev pub fire : List ℕ → List ℕ → Value → ℕ → State → Plan
fire ns t b d s = want E4 (is_event_type t) s (charge (length ns) s (fired t ns b d s))

-- a call with each Bunch in order
abbrev pub each_called : Value → List Value → Value → ℕ → State → Plan
each_called f [] b d s = give b s
each_called f (v ∷ vs) b d s = Do (Call f None (v ∷ []) d) s (after (λ w t. each_called f vs b d t))

-- `each(f)`: the Bunches are made before the first call
abbrev pub each : List ℕ → Value → Value → ℕ → State → Plan
each ns f b d s =
    want_function f s (charge (length ns) s (pay (cost 0 (length ns) (2 * length ns) 0) s
    (λ t. each_called f (bunches_from (length t.own.heap) ns) b d (fold with_bunch t ns))))

-- ## The methods

-- each method on its nodes; the Bunch itself is given
abbrev pub write_method : WriteNative → List ℕ → Value → List Value → ℕ → State → Plan
write_method Append ns b vs d s = append ns (nth 0 vs) b s
write_method Remove ns b vs d s = remove ns b s
write_method Empty ns b vs d s = alter_each emptied ns b s
write_method Replace ns b vs d s = replace ns (nth 0 vs) b s
write_method SetValue ns b vs d s = want_primitives (nth 0 vs ∷ []) s (set_value ns (to_text (nth 0 vs)) b s)
write_method SetStyle ns b vs d s =
    want_primitives (nth 0 vs ∷ nth 1 vs ∷ []) s (set_style ns (to_text (nth 0 vs)) (to_text (nth 1 vs)) b s)
write_method SetClass ns b vs d s =
    want_primitives (nth 0 vs ∷ []) s
    (want E4 (is_plain_words (to_text (nth 0 vs))) s (set_attribute ns (codes "class") (to_text (nth 0 vs)) b s))
write_method SetTitle ns b vs d s =
    want_primitives (nth 0 vs ∷ []) s (set_attribute ns (codes "title") (to_text (nth 0 vs)) b s)
write_method SetCheck ns b vs d s = set_flag (is_input s) ns (codes "checked") (is_true (nth 0 vs)) b s
write_method SetEnabled ns b vs d s = set_flag (is_field s) ns (codes "disabled") (not (is_true (nth 0 vs))) b s
write_method Focus ns b vs d s = focus ns b s
write_method Blur ns b vs d s = blur ns b s
write_method On ns b vs d s = want_primitives (nth 0 vs ∷ []) s (listen ns (to_text (nth 0 vs)) (nth 1 vs) b s)
write_method Off ns b vs d s = hush ns (nth 0 vs) b s
write_method Fire ns b vs d s = want_primitives (nth 0 vs ∷ []) s (fire ns (to_text (nth 0 vs)) b d s)
write_method Each ns b vs d s = each ns (nth 0 vs) b d s
write_method SetMark ns b vs d s =
    want_primitives (nth 0 vs ∷ []) s (alter_each (change_kept (λ k. record k { mark = to_text (nth 0 vs) })) ns b s)
write_method Protect ns b vs d s = alter_each (change_kept (λ k. record k { is_protected = true })) ns b s

-- a method of a Bunch that changes, which gives its receiver back
abbrev pub write_native : WriteNative → Option Value → List Value → ℕ → State → Plan
write_native w this vs d s = on_bunch this s (λ ns. write_method w ns (unwrap_or this Undefined) vs d s)
