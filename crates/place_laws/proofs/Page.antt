-- The natives of the page run alike, and so each native.
use Rattle.std.proofs.Common.{◌≡◌, ℕ, ◌+◌, ◌*◌, length, map, List, [], ◌∷◌, Bool, true, false, Option, Some, None, refl, sym, ap, subst}
use Rattle.std.specs.Prelude.{not, ◌&&◌, if◌then◌else◌, codes, unwrap_or}
use Rattle.std.specs.List.{fold, filter, list_all}
use Rattle.std.specs.Option.{option_map_or}
use Rattle.std.specs.Str.{bytes_eq}
use Rattle.permitted_table.specs.declared.native.NativeId.{NativeId}
use Rattle.plain_tree.specs.Trees.{Label, TextOf, size}
use Rattle.plain_tree.specs.Words.{is_event_type, is_plain_words}
use Rattle.query_grammar.specs.Finds.{has_number}
use Rattle.query_grammar.specs.Steps.{Step}
use Rattle.tree_ops.specs.Labels.{with_attribute}
use Rattle.style_text.specs.Styles.{is_listed}
use Rattle.widget_meaning.specs.Styles.{style_pairs, style_value}
use Rattle.plain_tree.specs.Tags.{is_listed_tag}
use Rattle.widget_meaning.specs.Values.{Value, Undefined, Truth, Text, Own, Is, E4, E9, E10, is_true, to_text, nth}
use Rattle.widget_meaning.specs.Trees.{Trees, label_of, parent, subtrees, detached, moved as moved_to}
use Rattle.widget_meaning.specs.OwnState.{State, Kept, bunch_nodes, kind_of, with_new_cell, new_array, new_bunch, with_forest}
use Rattle.widget_meaning.specs.Costs.{cost, slots_cost, give, want, or_throw}
use Rattle.widget_meaning.specs.Plan.{Plan, Call}
use Rattle.widget_meaning.specs.Queries.{read_query, finds}
use Rattle.widget_meaning.specs.NativeForms.{numbered_pairs, make_bunch}
use Rattle.permitted_table.specs.declared.native.ReadNative.{ReadNative}
use Rattle.permitted_table.specs.declared.native.ReadNative.TheVariants.{Query, GetValue, GetValues, GetStyle, GetCheck, Explode, Count, GetParent}
use Rattle.permitted_table.specs.declared.native.WriteNative.{WriteNative}
use Rattle.permitted_table.specs.declared.native.WriteNative.TheVariants.{Append, Remove, Empty, Replace, SetValue, SetStyle, SetClass, SetTitle, SetCheck, SetEnabled, Focus, Blur, On, Off, Fire, Each, SetMark, Protect}
use Rattle.permitted_table.specs.declared.native.DomNative.{DomNative}
use Rattle.permitted_table.specs.declared.native.DomNative.TheVariants.{DomQuery, DomAppend, DomTag, DomText}
use Rattle.permitted_table.specs.declared.native.NativeId.TheVariants as native
use Rattle.widget_meaning.specs.PageForms.{root, next_node, with_node, want_all, is_input, is_field, is_element, is_text_node, want_one, want_bunch, with_label}
use Rattle.widget_meaning.specs.BunchReads.{starts, bunches_from, query, read_native, give_page_text, query_steps, value_of, get_values, first_attribute, get_style, is_checked, explode, has_open_parent, get_parent, shown, shown_extra, give_found, show, read_method, exploded, with_bunch}
use Rattle.widget_meaning.specs.BunchWrites.{is_no_root, is_target, appended, write_native, alter, alter_for, append_trees, append, remove, replace, is_value_target, set_value, styled, set_style, set_attribute, set_flag, with_focus, focus, left_focus, blur, with_handler, listen, hush, fired, fire, each_called, each, write_method, with_copies, emptied, relabel, with_text_node, valued, alter_each, change_kept}
use Rattle.widget_meaning.specs.DomNatives.{dom_native, give_node, given_text, dom_tag, append_to_root, dom_append}
use Rattle.widget_meaning.specs.Natives.{run_native}
use Rattle.widget_meaning.specs.Dispatch.{bubble}
use Rattle.place_laws.proofs.Near.{N, bare, itself, moved, born, births, bunch_bare}
use Rattle.place_laws.proofs.Alike.{Alike, ended, gave, got, job, value, chain, charged, paid, made_text, faulted, found, wanted}
use Rattle.place_laws.proofs.Forms.{dispatch_a, bubble_a}
use Rattle.place_laws.proofs.Natives.{want_primitives_a, want_function_a, on_bunch_a, make_bunch_a, give_texts_a, global_native_a, math_native_a, text_native_a}
use Rattle.place_laws.proofs.Lists.{list_native_a, prototype_native_a}
use Rattle.place_laws.proofs.Adsafe.{adsafe_native_a}

-- ## What is read of the page

attribute_bare : (s : State) (ns x : List ℕ) → first_attribute (bare s) ns x ≡ first_attribute s ns x
attribute_bare s [] x = refl
attribute_bare s (n ∷ ns) x = refl

checked_bare : (s : State) (ns : List ℕ) → is_checked (bare s) ns ≡ is_checked s ns
checked_bare s [] = refl
checked_bare s (n ∷ ns) = refl

starts_bare : (s : State) (qs : List Step) (ns : List ℕ) → starts (bare s) qs ns ≡ starts s qs ns
starts_bare s [] ns = refl
starts_bare s (q ∷ qs) ns = refl

-- ## What is changed

-- a change that does not look at functions
abbrev Stable : (State → ℕ → State) → Type 0
Stable f = (t : State) (n : ℕ) → f (bare t) n ≡ bare (f t n)

each_kept : (f : State → ℕ → State) → Stable f → (ns : List ℕ) (t y : State) → N t y → N (fold f t ns) (fold f y ns)
each_kept f same [] t y e = e
each_kept f same (n ∷ ns) t y e = each_kept f same ns (f t n) (f y n) (moved (λ z. N (f t n) (f z n)) t y e (record { same = same t n }))

bunches_kept : (ns : List ℕ) (t y : State) → N t y → N (fold with_bunch t ns) (fold with_bunch y ns)
bunches_kept [] t y e = e
bunches_kept (n ∷ ns) t y e = bunches_kept ns (with_bunch t n) (with_bunch y n) (born t y (new_bunch (n ∷ [])) e)

exploded_kept : (ns : List ℕ) (t : State) → N (exploded ns t) (exploded ns (bare t))
exploded_kept ns t = subst (λ m. N (exploded ns t) (fold with_bunch (with_new_cell (bare t) (new_array (length ns) (numbered_pairs 0 (bunches_from (m + 1) ns)))) ns)) (sym (births t))
    (bunches_kept ns _ _ (born t (bare t) (new_array (length ns) (numbered_pairs 0 (bunches_from (length t.own.heap + 1) ns))) (itself t)))

copies_same : (t : ℕ) (ms : List ℕ) (s : State) → with_copies t ms (bare s) ≡ bare (with_copies t ms s)
copies_same t ms s = refl

appended_kept : (ns ms : List ℕ) (s z : State) → N s z → N (appended ns ms s) (appended ns ms z)
appended_kept [] ms s z e = e
appended_kept (t ∷ []) ms s z e = moved (λ y. N (appended (t ∷ []) ms s) (appended (t ∷ []) ms y)) s z e (record { same = refl })
appended_kept (t ∷ u ∷ ts) ms s z e = appended_kept (u ∷ ts) ms (with_copies t ms s) (with_copies t ms z) (moved (λ y. N (with_copies t ms s) (with_copies t ms y)) s z e (record { same = copies_same t ms s }))

label_same : (l : Option Label) (n : ℕ) (f : Label → Label) (s : State) → option_map_or (λ v. with_label (bare s) n (f v)) l (bare s) ≡ bare (option_map_or (λ v. with_label s n (f v)) l s)
label_same None n f s = refl
label_same (Some l) n f s = refl

relabel_same : (f : Label → Label) → Stable (relabel f)
relabel_same f s n = label_same (label_of n s.own.forest) n f s

text_node_same : (n : ℕ) (t : List ℕ) (s : State) → with_text_node n t (bare s) ≡ bare (with_text_node n t s)
text_node_same n [] s = refl
text_node_same n (u ∷ us) s = refl

either_same : (b : Bool) (p q p' q' : State) → p' ≡ bare p → q' ≡ bare q → (if b then p' else q') ≡ bare (if b then p else q)
either_same true p q p' q' h k = h
either_same false p q p' q' h k = k

valued_same : (t : List ℕ) → Stable (valued t)
valued_same t s n =
    either_same (is_input s n) _ _ _ _ (relabel_same (with_attribute (codes "value") (Some t)) s n)
    (either_same (is_text_node s n) _ _ _ _ refl (text_node_same n t (emptied s n)))

pub want_bunch_a : (x0 : Value) (x1 z1 : State) (x2 z2 : List ℕ → Plan) → N x1 z1 → ((y0 : List ℕ) → Alike (x2 y0) (z2 y0)) → Alike (want_bunch x0 x1 x2) (want_bunch x0 z1 z2)
want_bunch_a v s s' k k' near f0 = moved (λ y. Alike (want_bunch v s k) (want_bunch v y k')) s s' near
    (subst (λ (o : Option (List ℕ)). Alike (want_bunch v s k) (or_throw E4 o (bare s) k')) (sym (bunch_bare s v)) (found E4 (bunch_nodes (kind_of s v)) s (bare s) k k' (itself s) f0))

pub want_all_a : (x0 : (ℕ → Bool)) (x1 : List ℕ) (x2 z2 : State) (x3 z3 : Plan) → N x2 z2 → Alike x3 z3 → Alike (want_all x0 x1 x2 x3) (want_all x0 x1 z2 z3)
want_all_a test ns s s' p p' near f0 = wanted E10 (list_all test ns) s s' p p' near f0

pub want_one_a : (x0 : List ℕ) (x1 z1 : State) (x2 z2 : ℕ → Plan) → N x1 z1 → ((y0 : ℕ) → Alike (x2 y0) (z2 y0)) → Alike (want_one x0 x1 x2) (want_one x0 z1 z2)
want_one_a [] s s' k k' near f0 = faulted E4 s s' near
want_one_a (n ∷ []) s s' k k' near f0 = f0 n
want_one_a (n ∷ m ∷ ns) s s' k k' near f0 = faulted E4 s s' near

pub give_page_text_a : (x0 : ℕ) (x1 : List ℕ) (x2 z2 : State) → N x2 z2 → Alike (give_page_text x0 x1 x2) (give_page_text x0 x1 z2)
give_page_text_a extra t s s' near = charged extra s s' _ _ near (made_text t s s' _ _ near (λ v y u. ended (Is (Text t)) v y u))

found_a : (qs : List Step) (ns : List ℕ) (s : State) → Alike (make_bunch (finds s (starts s qs ns) qs) s give) (make_bunch (finds (bare s) (starts (bare s) qs ns) qs) (bare s) give)
found_a qs ns s = subst (λ (ms : List ℕ). Alike (make_bunch (finds s (starts s qs ns) qs) s give) (make_bunch (finds (bare s) ms qs) (bare s) give)) (sym (starts_bare s qs ns))
    (make_bunch_a (finds s (starts s qs ns) qs) s (bare s) give give (itself s) (λ v t y u. ended (Is v) t y u))

pub query_steps_a : (x0 : Option (List Step)) (x1 : List ℕ) (x2 z2 : State) → N x2 z2 → Alike (query_steps x0 x1 x2) (query_steps x0 x1 z2)
query_steps_a None ns s s' near = faulted E9 s s' near
query_steps_a (Some qs) ns s s' near = moved (λ y. Alike (query_steps (Some qs) ns s) (query_steps (Some qs) ns y)) s s' near
    (charged (length qs * next_node s) s (bare s) _ _ (itself s) (found_a qs ns s))

pub query_a : (x0 : List ℕ) (x1 : Value) (x2 z2 : State) → N x2 z2 → Alike (query x0 x1 x2) (query x0 x1 z2)
query_a ns v s s' near = want_primitives_a (v ∷ []) s s' _ _ near (query_steps_a (read_query (to_text v)) ns s s' near)

pub get_values_a : (x0 : List ℕ) (x1 z1 : State) → N x1 z1 → Alike (get_values x0 x1) (get_values x0 z1)
get_values_a ns s s' near = moved (λ y. Alike (get_values ns s) (get_values ns y)) s s' near (charged _ s (bare s) _ _ (itself s) (give_texts_a (map (value_of s) ns) s (bare s) (itself s)))

pub get_style_a : (x0 : List ℕ) (x1 : Value) (x2 z2 : State) → N x2 z2 → Alike (get_style x0 x1 x2) (get_style x0 x1 z2)
get_style_a ns p s s' near = want_primitives_a (p ∷ []) s s' _ _ near (wanted E4 (is_listed (to_text p)) s s' _ _ near
    (moved (λ y. Alike (give_page_text (length ns) (style_value (style_pairs (first_attribute s ns (codes "style"))) (to_text p)) s) (give_page_text (length ns) (style_value (style_pairs (first_attribute y ns (codes "style"))) (to_text p)) y)) s s' near
    (subst (λ (t : List ℕ). Alike (give_page_text (length ns) (style_value (style_pairs (first_attribute s ns (codes "style"))) (to_text p)) s) (give_page_text (length ns) (style_value (style_pairs t) (to_text p)) (bare s))) (sym (attribute_bare s ns (codes "style")))
    (give_page_text_a (length ns) _ s (bare s) (itself s)))))

pub explode_a : (x0 : List ℕ) (x1 z1 : State) → N x1 z1 → Alike (explode x0 x1) (explode x0 z1)
explode_a ns s s' near = charged (length ns) s s' _ _ near (paid (cost 0 (length ns + 1) (3 * length ns) 0) s s' _ _ near (λ t y u.
    moved (λ z. Alike (give (Own (length t.own.heap)) (exploded ns t)) (give (Own (length z.own.heap)) (exploded ns z))) t y u
    (gave _ _ _ _ (ap (λ n. Is (Own n)) (births t)) (exploded_kept ns t))))

pub get_parent_a : (x0 : List ℕ) (x1 z1 : State) → N x1 z1 → Alike (get_parent x0 x1) (get_parent x0 z1)
get_parent_a ns s s' near = moved (λ y. Alike (get_parent ns s) (get_parent ns y)) s s' near
    (want_all_a (has_open_parent s) ns s (bare s) _ _ (itself s) (charged (length ns) s (bare s) _ _ (itself s) (make_bunch_a _ s (bare s) give give (itself s) (λ v t y u. ended (Is v) t y u))))

give_found_a : (x0 : ℕ) (x1 : Option (List ℕ)) (x2 z2 : State) → N x2 z2 → Alike (give_found x0 x1 x2) (give_found x0 x1 z2)
give_found_a extra None s s' near = ended (Is Undefined) s s' near
give_found_a extra (Some t) s s' near = give_page_text_a extra t s s' near

-- no method that shows a text looks at functions; one is named, and `w` are all others
show_bare : (w : ReadNative) (ns : List ℕ) (s : State) → Alike (show w ns s) (show w ns (bare s))
show_bare GetValue [] s = give_found_a (shown_extra GetValue s []) (shown GetValue s []) s (bare s) (itself s)
show_bare GetValue (n ∷ ns) s = give_found_a (shown_extra GetValue s (n ∷ ns)) (shown GetValue s (n ∷ ns)) s (bare s) (itself s)
show_bare w [] s = give_found_a (shown_extra w s []) (shown w s []) s (bare s) (itself s)
show_bare w (n ∷ ns) s = give_found_a (shown_extra w s (n ∷ ns)) (shown w s (n ∷ ns)) s (bare s) (itself s)

show_a : (w : ReadNative) (ns : List ℕ) (s s' : State) → N s s' → Alike (show w ns s) (show w ns s')
show_a w ns s s' near = moved (λ y. Alike (show w ns s) (show w ns y)) s s' near (show_bare w ns s)

pub read_method_a : (x0 : ReadNative) (x1 : List ℕ) (x2 : List Value) (x3 z3 : State) → N x3 z3 → Alike (read_method x0 x1 x2 x3) (read_method x0 x1 x2 z3)
read_method_a Query ns vs s s' near = query_a ns (nth 0 vs) s s' near
read_method_a GetValues ns vs s s' near = get_values_a ns s s' near
read_method_a GetStyle ns vs s s' near = get_style_a ns (nth 0 vs) s s' near
read_method_a GetCheck ns vs s s' near = charged (length ns) s s' _ _ near (got (λ t. Truth (is_checked t ns)) (λ t. ap Truth (checked_bare t ns)) s s' near)
read_method_a Explode ns vs s s' near = explode_a ns s s' near
read_method_a Count ns vs s s' near = charged (length ns) s s' _ _ near (ended _ s s' near)
read_method_a GetParent ns vs s s' near = get_parent_a ns s s' near
read_method_a w ns vs s s' near = show_a w ns s s' near

pub read_native_a : (x0 : ReadNative) (x1 : Option Value) (x2 : List Value) (x3 : ℕ) (x4 z4 : State) → N x4 z4 → Alike (read_native x0 x1 x2 x3 x4) (read_native x0 x1 x2 x3 z4)
read_native_a w this vs d s s' near = on_bunch_a this s s' _ _ near (λ ns. read_method_a w ns vs s s' near)

pub alter_a : (x0 : ℕ) (x1 : Value) (x2 z2 : State) (x3 z3 : State → State) → N x2 z2 → ((y0 w0 : State) → N y0 w0 → N (x3 y0) (z3 w0)) → Alike (alter x0 x1 x2 x3) (alter x0 x1 z2 z3)
alter_a extra b s s' f f' near f0 = charged extra s s' _ _ near (ended (Is b) (f s) (f' s') (f0 s s' near))

pub alter_for_a : (x0 : ℕ) (x1 : ℕ) (x2 : ℕ) (x3 : Value) (x4 z4 : State) (x5 z5 : State → State) → N x4 z4 → ((y0 w0 : State) → N y0 w0 → N (x5 y0) (z5 w0)) → Alike (alter_for x0 x1 x2 x3 x4 x5) (alter_for x0 x1 x2 x3 z4 z5)
alter_for_a extra units nodes b s s' f f' near f0 = charged extra s s' _ _ near (paid (cost units 0 0 nodes) s s' _ _ near (λ t y u. ended (Is b) (f t) (f' y) (f0 t y u)))

pub alter_each_a : (f : State → ℕ → State) (ns : List ℕ) (b : Value) (s s' : State) → Stable f → N s s' → Alike (alter_each f ns b s) (alter_each f ns b s')
alter_each_a f ns b s s' same near = alter_a (length ns) b s s' (λ t. fold f t ns) (λ t. fold f t ns) near (λ t y u. each_kept f same ns t y u)

each_change_a : (f : Kept → Kept) (ns : List ℕ) (b : Value) (s s' : State) → N s s' → Alike (alter_each (change_kept f) ns b s) (alter_each (change_kept f) ns b s')
each_change_a f ns b s s' near = alter_each_a (change_kept f) ns b s s' (λ t n. refl) near

pub append_trees_a : (x0 : List ℕ) (x1 : List ℕ) (x2 : Trees) (x3 : Value) (x4 z4 : State) → N x4 z4 → Alike (append_trees x0 x1 x2 x3 x4) (append_trees x0 x1 x2 x3 z4)
append_trees_a ns ms us b s s' near = alter_for_a _ _ _ b s s' (appended ns ms) (appended ns ms) near (λ t y u. appended_kept ns ms t y u)

pub append_a : (x0 : List ℕ) (x1 : Value) (x2 : Value) (x3 z3 : State) → N x3 z3 → Alike (append x0 x1 x2 x3) (append x0 x1 x2 z3)
append_a ns v b s s' near = want_bunch_a v s s' _ _ near (λ ms. moved (λ y.
    Alike (want_all (is_target s ms) ns s (want_all is_no_root ms s (append_trees ns ms (subtrees ms s.own.forest) b s)))
    (want_all (is_target y ms) ns y (want_all is_no_root ms y (append_trees ns ms (subtrees ms y.own.forest) b y)))) s s' near
    (want_all_a (is_target s ms) ns s (bare s) _ _ (itself s) (want_all_a is_no_root ms s (bare s) _ _ (itself s) (append_trees_a ns ms (subtrees ms s.own.forest) b s (bare s) (itself s)))))

pub remove_a : (x0 : List ℕ) (x1 : Value) (x2 z2 : State) → N x2 z2 → Alike (remove x0 x1 x2) (remove x0 x1 z2)
remove_a ns b s s' near = want_all_a is_no_root ns s s' _ _ near (alter_each_a (λ t n. with_forest t (detached t.own.forest n)) ns b s s' (λ t n. refl) near)

pub replace_a : (x0 : List ℕ) (x1 : Value) (x2 : Value) (x3 z3 : State) → N x3 z3 → Alike (replace x0 x1 x2 x3) (replace x0 x1 x2 z3)
replace_a ns v b s s' near = want_one_a ns s s' _ _ near (λ n. want_bunch_a v s s' _ _ near (λ ms. moved (λ y.
    Alike (or_throw E10 (parent n s.own.forest) s (λ p. want E10 (not (has_number ms n) && is_target s ms p) s (alter 1 b s (λ t. with_forest t (detached (fold (moved_to p (Some n)) t.own.forest ms) n)))))
    (or_throw E10 (parent n y.own.forest) y (λ p. want E10 (not (has_number ms n) && is_target y ms p) y (alter 1 b y (λ t. with_forest t (detached (fold (moved_to p (Some n)) t.own.forest ms) n)))))) s s' near
    (found E10 (parent n s.own.forest) s (bare s) _ _ (itself s) (λ p. wanted E10 _ s (bare s) _ _ (itself s)
    (alter_a 1 b s (bare s) (λ t. with_forest t (detached (fold (moved_to p (Some n)) t.own.forest ms) n)) (λ t. with_forest t (detached (fold (moved_to p (Some n)) t.own.forest ms) n)) (itself s)
    (λ t y u. moved (λ z. N (with_forest t (detached (fold (moved_to p (Some n)) t.own.forest ms) n)) (with_forest z (detached (fold (moved_to p (Some n)) z.own.forest ms) n))) t y u (record { same = refl })))))))

pub set_value_a : (x0 : List ℕ) (x1 : List ℕ) (x2 : Value) (x3 z3 : State) → N x3 z3 → Alike (set_value x0 x1 x2 x3) (set_value x0 x1 x2 z3)
set_value_a ns t b s s' near = moved (λ y. Alike (set_value ns t b s) (set_value ns t b y)) s s' near
    (want_all_a (is_value_target s t) ns s (bare s) _ _ (itself s) (alter_for_a _ _ _ b s (bare s) (λ u. fold (valued t) u ns) (λ u. fold (valued t) u ns) (itself s) (λ u y e. each_kept (valued t) (valued_same t) ns u y e)))

relabelled_a : (ns : List ℕ) (many : ℕ) (f : Label → Label) (b : Value) (s : State)
    → Alike (alter_for (length ns) (length ns * many) 0 b s (λ t. fold (relabel f) t ns)) (alter_for (length ns) (length ns * many) 0 b (bare s) (λ t. fold (relabel f) t ns))
relabelled_a ns many f b s = alter_for_a _ _ _ b s (bare s) (λ t. fold (relabel f) t ns) (λ t. fold (relabel f) t ns) (itself s) (λ t y u. each_kept (relabel f) (relabel_same f) ns t y u)

pub set_style_a : (x0 : List ℕ) (x1 : List ℕ) (x2 : List ℕ) (x3 : Value) (x4 z4 : State) → N x4 z4 → Alike (set_style x0 x1 x2 x3 x4) (set_style x0 x1 x2 x3 z4)
set_style_a ns p v b s s' near = wanted E4 _ s s' _ _ near (moved (λ y.
    Alike (want_all (is_element s) ns s (alter_for (length ns) (length ns * length v) 0 b s (λ t. fold (relabel (styled p v)) t ns)))
    (want_all (is_element y) ns y (alter_for (length ns) (length ns * length v) 0 b y (λ t. fold (relabel (styled p v)) t ns)))) s s' near
    (want_all_a (is_element s) ns s (bare s) _ _ (itself s) (relabelled_a ns (length v) (styled p v) b s)))

pub set_attribute_a : (x0 : List ℕ) (x1 : List ℕ) (x2 : List ℕ) (x3 : Value) (x4 z4 : State) → N x4 z4 → Alike (set_attribute x0 x1 x2 x3 x4) (set_attribute x0 x1 x2 x3 z4)
set_attribute_a ns x v b s s' near = moved (λ y. Alike (set_attribute ns x v b s) (set_attribute ns x v b y)) s s' near
    (want_all_a (is_element s) ns s (bare s) _ _ (itself s) (relabelled_a ns (length v) (with_attribute x (Some v)) b s))

set_flag_a : (test : ℕ → Bool) (ns x : List ℕ) (is_set : Bool) (b : Value) (s s' : State) → N s s' → Alike (set_flag test ns x is_set b s) (set_flag test ns x is_set b s')
set_flag_a test ns x is_set b s s' near = want_all_a test ns s s' _ _ near (alter_each_a (relabel (with_attribute x (if is_set then Some x else None))) ns b s s' (relabel_same _) near)

pub focus_a : (x0 : List ℕ) (x1 : Value) (x2 z2 : State) → N x2 z2 → Alike (focus x0 x1 x2) (focus x0 x1 z2)
focus_a ns b s s' near = want_one_a ns s s' _ _ near (λ n. alter_a (length ns) b s s' (with_focus (Some n)) (with_focus (Some n)) near (λ t y u. moved (λ z. N (with_focus (Some n) t) (with_focus (Some n) z)) t y u (record { same = refl })))

pub blur_a : (x0 : List ℕ) (x1 : Value) (x2 z2 : State) → N x2 z2 → Alike (blur x0 x1 x2) (blur x0 x1 z2)
blur_a ns b s s' near = alter_a (length ns) b s s' (λ t. with_focus (left_focus t.own.focus ns) t) (λ t. with_focus (left_focus t.own.focus ns) t) near
    (λ t y u. moved (λ z. N (with_focus (left_focus t.own.focus ns) t) (with_focus (left_focus z.own.focus ns) z)) t y u (record { same = refl }))

pub listen_a : (x0 : List ℕ) (x1 : List ℕ) (x2 : Value) (x3 : Value) (x4 z4 : State) → N x4 z4 → Alike (listen x0 x1 x2 x3 x4) (listen x0 x1 x2 x3 z4)
listen_a ns t f b s s' near = wanted E4 (is_event_type t) s s' _ _ near (want_function_a f s s' _ _ near (charged (length ns) s s' _ _ near (paid (slots_cost (length ns)) s s' _ _ near (λ u y e.
    ended (Is b) _ _ (each_kept (change_kept (with_handler t f)) (λ v n. refl) ns u y e)))))

pub hush_a : (x0 : List ℕ) (x1 : Value) (x2 : Value) (x3 z3 : State) → N x3 z3 → Alike (hush x0 x1 x2 x3) (hush x0 x1 x2 z3)
hush_a ns Undefined b s s' near = each_change_a (λ k. record k { handlers = [] }) ns b s s' near
hush_a ns v b s s' near = want_primitives_a (v ∷ []) s s' _ _ near (wanted E4 (is_event_type (to_text v)) s s' _ _ near
    (each_change_a (λ k. record k { handlers = filter (λ h. not (bytes_eq h.kind (to_text v))) k.handlers }) ns b s s' near))

pub fired_a : (x0 : List ℕ) (x1 : List ℕ) (x2 : Value) (x3 : ℕ) (x4 z4 : State) → N x4 z4 → Alike (fired x0 x1 x2 x3 x4) (fired x0 x1 x2 x3 z4)
fired_a t [] b d s s' near = ended (Is b) s s' near
fired_a t (n ∷ ns) b d s s' near = chain _ _ _ _ (dispatch_a t n Undefined d s s' near) (λ o v y u. value o v y _ _ u (λ w. fired_a t ns b d v y u))

pub fire_a : (x0 : List ℕ) (x1 : List ℕ) (x2 : Value) (x3 : ℕ) (x4 z4 : State) → N x4 z4 → Alike (fire x0 x1 x2 x3 x4) (fire x0 x1 x2 x3 z4)
fire_a ns t b d s s' near = wanted E4 (is_event_type t) s s' _ _ near (charged (length ns) s s' _ _ near (fired_a t ns b d s s' near))

pub each_called_a : (x0 : Value) (x1 : List Value) (x2 : Value) (x3 : ℕ) (x4 z4 : State) → N x4 z4 → Alike (each_called x0 x1 x2 x3 x4) (each_called x0 x1 x2 x3 z4)
each_called_a f [] b d s s' near = ended (Is b) s s' near
each_called_a f (v ∷ vs) b d s s' near = job (Call f None (v ∷ []) d) s s' _ _ near (λ o t y u. value o t y _ _ u (λ w. each_called_a f vs b d t y u))

pub each_a : (x0 : List ℕ) (x1 : Value) (x2 : Value) (x3 : ℕ) (x4 z4 : State) → N x4 z4 → Alike (each x0 x1 x2 x3 x4) (each x0 x1 x2 x3 z4)
each_a ns f b d s s' near = want_function_a f s s' _ _ near (charged (length ns) s s' _ _ near (paid (cost 0 (length ns) (2 * length ns) 0) s s' _ _ near (λ t y u. moved (λ z.
    Alike (each_called f (bunches_from (length t.own.heap) ns) b d (fold with_bunch t ns)) (each_called f (bunches_from (length z.own.heap) ns) b d (fold with_bunch z ns))) t y u
    (subst (λ n. Alike (each_called f (bunches_from (length t.own.heap) ns) b d (fold with_bunch t ns)) (each_called f (bunches_from n ns) b d (fold with_bunch (bare t) ns))) (sym (births t))
    (each_called_a f (bunches_from (length t.own.heap) ns) b d _ _ (bunches_kept ns t (bare t) (itself t)))))))

pub write_method_a : (x0 : WriteNative) (x1 : List ℕ) (x2 : Value) (x3 : List Value) (x4 : ℕ) (x5 z5 : State) → N x5 z5 → Alike (write_method x0 x1 x2 x3 x4 x5) (write_method x0 x1 x2 x3 x4 z5)
write_method_a Append ns b vs d s s' near = append_a ns (nth 0 vs) b s s' near
write_method_a Remove ns b vs d s s' near = remove_a ns b s s' near
write_method_a Empty ns b vs d s s' near = alter_each_a emptied ns b s s' (λ t n. refl) near
write_method_a Replace ns b vs d s s' near = replace_a ns (nth 0 vs) b s s' near
write_method_a SetValue ns b vs d s s' near = want_primitives_a (nth 0 vs ∷ []) s s' _ _ near (set_value_a ns (to_text (nth 0 vs)) b s s' near)
write_method_a SetStyle ns b vs d s s' near = want_primitives_a (nth 0 vs ∷ nth 1 vs ∷ []) s s' _ _ near (set_style_a ns (to_text (nth 0 vs)) (to_text (nth 1 vs)) b s s' near)
write_method_a SetClass ns b vs d s s' near = want_primitives_a (nth 0 vs ∷ []) s s' _ _ near (wanted E4 (is_plain_words (to_text (nth 0 vs))) s s' _ _ near (set_attribute_a ns (codes "class") (to_text (nth 0 vs)) b s s' near))
write_method_a SetTitle ns b vs d s s' near = want_primitives_a (nth 0 vs ∷ []) s s' _ _ near (set_attribute_a ns (codes "title") (to_text (nth 0 vs)) b s s' near)
write_method_a SetCheck ns b vs d s s' near = moved (λ y. Alike (set_flag (is_input s) ns (codes "checked") (is_true (nth 0 vs)) b s) (set_flag (is_input y) ns (codes "checked") (is_true (nth 0 vs)) b y)) s s' near (set_flag_a (is_input s) ns (codes "checked") (is_true (nth 0 vs)) b s (bare s) (itself s))
write_method_a SetEnabled ns b vs d s s' near = moved (λ y. Alike (set_flag (is_field s) ns (codes "disabled") (not (is_true (nth 0 vs))) b s) (set_flag (is_field y) ns (codes "disabled") (not (is_true (nth 0 vs))) b y)) s s' near (set_flag_a (is_field s) ns (codes "disabled") (not (is_true (nth 0 vs))) b s (bare s) (itself s))
write_method_a Focus ns b vs d s s' near = focus_a ns b s s' near
write_method_a Blur ns b vs d s s' near = blur_a ns b s s' near
write_method_a On ns b vs d s s' near = want_primitives_a (nth 0 vs ∷ []) s s' _ _ near (listen_a ns (to_text (nth 0 vs)) (nth 1 vs) b s s' near)
write_method_a Off ns b vs d s s' near = hush_a ns (nth 0 vs) b s s' near
write_method_a Fire ns b vs d s s' near = want_primitives_a (nth 0 vs ∷ []) s s' _ _ near (fire_a ns (to_text (nth 0 vs)) b d s s' near)
write_method_a Each ns b vs d s s' near = each_a ns (nth 0 vs) b d s s' near
write_method_a SetMark ns b vs d s s' near = want_primitives_a (nth 0 vs ∷ []) s s' _ _ near (each_change_a (λ k. record k { mark = to_text (nth 0 vs) }) ns b s s' near)
write_method_a Protect ns b vs d s s' near = each_change_a (λ k. record k { is_protected = true }) ns b s s' near

pub write_native_a : (x0 : WriteNative) (x1 : Option Value) (x2 : List Value) (x3 : ℕ) (x4 z4 : State) → N x4 z4 → Alike (write_native x0 x1 x2 x3 x4) (write_native x0 x1 x2 x3 z4)
write_native_a w this vs d s s' near = on_bunch_a this s s' _ _ near (λ ns. write_method_a w ns (unwrap_or this Undefined) vs d s s' near)

pub give_node_a : (x0 : Label) (x1 : ℕ) (x2 z2 : State) → N x2 z2 → Alike (give_node x0 x1 x2) (give_node x0 x1 z2)
give_node_a l units s s' near = paid (cost units 1 2 1) s s' _ _ near (λ t y u. moved (λ z.
    Alike (give (Own (length t.own.heap)) (with_new_cell (with_node l t) (new_bunch (next_node t ∷ [])))) (give (Own (length z.own.heap)) (with_new_cell (with_node l z) (new_bunch (next_node z ∷ []))))) t y u
    (gave _ _ _ _ (ap (λ n. Is (Own n)) (births t)) (born (with_node l t) (with_node l (bare t)) (new_bunch (next_node t ∷ [])) (record { same = refl }))))

pub dom_tag_a : (x0 : List ℕ) (x1 : List (List ℕ)) (x2 z2 : State) → N x2 z2 → Alike (dom_tag x0 x1 x2) (dom_tag x0 x1 z2)
dom_tag_a tag types s s' near = wanted E4 (is_listed_tag tag && list_all is_plain_words types) s s' _ _ near (give_node_a _ _ s s' near)

pub append_to_root_a : (x0 : List ℕ) (x1 z1 : State) → N x1 z1 → Alike (append_to_root x0 x1) (append_to_root x0 z1)
append_to_root_a ms s s' near = moved (λ y. Alike (append_to_root ms s) (append_to_root ms y)) s s' near
    (charged (size (subtrees ms s.own.forest)) s (bare s) _ _ (itself s) (paid (cost 0 1 2 0) s (bare s) _ _ (itself s) (λ t y u. moved (λ z.
    Alike (give (Own (length t.own.heap)) (with_new_cell (appended (root ∷ []) ms t) (new_bunch (root ∷ [])))) (give (Own (length z.own.heap)) (with_new_cell (appended (root ∷ []) ms z) (new_bunch (root ∷ []))))) t y u
    (gave _ _ _ _ (ap (λ n. Is (Own n)) (births t)) (born _ _ (new_bunch (root ∷ [])) (appended_kept (root ∷ []) ms t (bare t) (itself t)))))))

pub dom_append_a : (x0 : Value) (x1 z1 : State) → N x1 z1 → Alike (dom_append x0 x1) (dom_append x0 z1)
dom_append_a v s s' near = want_bunch_a v s s' _ _ near (λ ms. moved (λ y. Alike (want_all (is_target s ms) (root ∷ []) s (append_to_root ms s)) (want_all (is_target y ms) (root ∷ []) y (append_to_root ms y))) s s' near
    (want_all_a (is_target s ms) (root ∷ []) s (bare s) _ _ (itself s) (append_to_root_a ms s (bare s) (itself s))))

pub dom_native_a : (x0 : DomNative) (x1 : Option Value) (x2 : List Value) (x3 : ℕ) (x4 z4 : State) → N x4 z4 → Alike (dom_native x0 x1 x2 x3 x4) (dom_native x0 x1 x2 x3 z4)
dom_native_a DomQuery this vs d s s' near = query_a (root ∷ []) (nth 0 vs) s s' near
dom_native_a DomAppend this vs d s s' near = dom_append_a (nth 0 vs) s s' near
dom_native_a DomTag this vs d s s' near = want_primitives_a (nth 0 vs ∷ nth 1 vs ∷ []) s s' _ _ near (dom_tag_a (to_text (nth 0 vs)) (given_text (nth 1 vs)) s s' near)
dom_native_a DomText this vs d s s' near = want_primitives_a (nth 0 vs ∷ []) s s' _ _ near (give_node_a (TextOf (to_text (nth 0 vs))) (length (to_text (nth 0 vs))) s s' near)

pub run_native_a : (x0 : NativeId) (x1 : Option Value) (x2 : List Value) (x3 : ℕ) (x4 z4 : State) → N x4 z4 → Alike (run_native x0 x1 x2 x3 x4) (run_native x0 x1 x2 x3 z4)
run_native_a (native.Global w) this vs d s s' near = global_native_a w this vs d s s' near
run_native_a (native.Math w) this vs d s s' near = math_native_a w this vs d s s' near
run_native_a (native.Prototype w) this vs d s s' near = prototype_native_a w this vs d s s' near
run_native_a (native.Text w) this vs d s s' near = text_native_a w this vs s s' near
run_native_a (native.List w) this vs d s s' near = list_native_a w this vs d s s' near
run_native_a (native.Adsafe w) this vs d s s' near = adsafe_native_a w this vs d s s' near
run_native_a (native.Dom w) this vs d s s' near = dom_native_a w this vs d s s' near
run_native_a (native.Read w) this vs d s s' near = read_native_a w this vs d s s' near
run_native_a (native.Write w) this vs d s s' near = write_native_a w this vs d s s' near
run_native_a native.Bubble this vs d s s' near = moved (λ y. Alike (bubble s.dispatches s) (bubble y.dispatches y)) s s' near (bubble_a s.dispatches s (bare s) (itself s))
