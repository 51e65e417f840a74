-- The natives of the page keep an invariant, and so each native.

use Rattle.widget_meaning.specs.NativeForms.{numbered_pairs}
use Rattle.std.proofs.Common.{sym, ap, ◌∙◌, subst}
use Rattle.std.proofs.lemmas.List.{length-append, length-replicate, length-set}
use Rattle.std.specs.Str.{bytes_eq}
use Rattle.std.specs.Prelude.{not, replicate, ℕ, ◌+◌, List, [], ◌∷◌, Bool, true, false, if◌then◌else◌, codes, Option, Some, None, length}
use Rattle.std.specs.List.{fold, filter}
use Rattle.std.specs.Option.{option_map_or}
use Rattle.permitted_table.specs.declared.native.NativeId.{NativeId}
use Rattle.widget_meaning.specs.Values.{Value, Undefined, Own, E4, E10, to_text, nth}
use Rattle.plain_tree.specs.Trees.{Label, TextOf, End, Node, size}
use Rattle.plain_tree.specs.Words.{is_event_type}
use Rattle.tree_ops.specs.Trees.{relabelled}
use Rattle.widget_meaning.specs.Trees.{Trees, label_of, tops, children, parent, subtrees, grafted, numbered, copied, with_detached, detached, moved}
use Rattle.widget_meaning.specs.OwnState.{State, with_new_cell, new_array, new_bunch, Kept, nothing_kept, kept_at, with_forest}
use Rattle.widget_meaning.specs.Costs.{cost, give, with_counts}
use Rattle.widget_meaning.specs.Plan.{Plan}
use Rattle.permitted_table.specs.declared.native.ReadNative.{ReadNative}
use Rattle.permitted_table.specs.declared.native.ReadNative.TheVariants.{Query, GetValues, GetStyle, GetCheck, Explode, Count, GetParent}
use Rattle.permitted_table.specs.declared.native.WriteNative.{WriteNative}
use Rattle.permitted_table.specs.declared.native.WriteNative.TheVariants.{Append, Remove, Empty, Replace, SetValue, SetStyle, SetClass, SetTitle, SetCheck, SetEnabled, Focus, Blur, On, Off, Fire, Each, SetMark, Protect}
use Rattle.permitted_table.specs.declared.native.DomNative.{DomNative}
use Rattle.permitted_table.specs.declared.native.DomNative.TheVariants.{DomQuery, DomAppend, DomTag, DomText}
use Rattle.permitted_table.specs.declared.native.NativeId.TheVariants as native
use Rattle.widget_meaning.specs.PageForms.{root, next_node, with_room, with_node, want_all, is_input, is_text_node, want_one, want_bunch, with_label}
use Rattle.query_grammar.specs.Steps.{Step}
use Rattle.widget_meaning.specs.BunchReads.{bunches_from, query, read_native, give_page_text, query_steps, get_values, get_style, explode, get_parent, shown, shown_extra, give_found, read_method, exploded, with_bunch}
use Rattle.widget_meaning.specs.BunchWrites.{appended, write_native, alter, alter_for, append_trees, append, remove, replace, set_value, set_style, set_attribute, set_flag, focus, blur, listen, hush, fired, fire, each_called, each, write_method, with_copies, emptied, relabel, with_text_node, valued, alter_each, change_kept}
use Rattle.widget_meaning.specs.DomNatives.{dom_native, give_node, dom_tag, append_to_root, dom_append}
use Rattle.widget_meaning.specs.Natives.{run_native}
use Rattle.widget_meaning.specs.Ways.{Way, ByValue}
use Rattle.widget_meaning.specs.Keeps.{Invariant, Keeps}
use Rattle.widget_meaning.proofs.Keeping.{job, value, chain, charged, paid, made_text, faulted, R, found, wanted, born, paged, gave}
use Rattle.widget_meaning.proofs.KeepingAdsafe.{adsafe_native_r}
use Rattle.widget_meaning.proofs.KeepingForms.{dispatch_r, bubble_r}
use Rattle.widget_meaning.proofs.KeepingNatives.{give_texts_r, global_native_r, make_bunch_r, math_native_r, on_bunch_r, want_function_r, want_primitives_r}
use Rattle.widget_meaning.proofs.KeepingLists.{list_native_r, prototype_native_r}
use Rattle.widget_meaning.proofs.KeepingTexts.{text_native_r}
use Rattle.tree_ops.specs.Labels.{with_attribute}

module _ (inv : Invariant) (many : ℕ) where
  -- changes of the page and of notes are not looked at
  fold_kept : (f : State → ℕ → State) → ((t : State) (n : ℕ) → R inv many t → R inv many (f t n)) → (ns : List ℕ) (s : State) → R inv many s → R inv many (fold f s ns)
  fold_kept f k [] s hr = hr
  fold_kept f k (n ∷ ns) s hr = fold_kept f k ns (f s n) (k s n hr)

  bunches_kept : (s : State) (ns : List ℕ) → R inv many s → R inv many (fold with_bunch s ns)
  bunches_kept s ns hr = fold_kept with_bunch (λ t n k. born inv many t.own.counts t.own.timers t.own.clock t.own.heap t.own.scopes t.own.forest (length t.own.kept) (new_bunch (n ∷ [])) k tt) ns s hr

  exploded_kept : (ns : List ℕ) (s : State) → R inv many s → R inv many (exploded ns s)
  exploded_kept ns s hr = bunches_kept (with_new_cell s _) ns (born inv many s.own.counts s.own.timers s.own.clock s.own.heap s.own.scopes s.own.forest (length s.own.kept) (new_array (length ns) (numbered_pairs 0 (bunches_from (length s.own.heap + 1) ns))) hr tt)

  -- the page changes
  with_page : (s : State) (g : Trees) → R inv many s → inv.pages.Page g (length s.own.kept) → R inv many (with_forest s g)
  with_page s g hr q = paged inv many s.own.counts s.own.timers s.own.clock s.own.heap s.own.scopes s.own.forest (length s.own.kept) g (length s.own.kept) hr q

  roomy : (s : State) (g : Trees) (n : ℕ) → R inv many s → inv.pages.Page g (length s.own.kept + n) → R inv many (with_room n (with_forest s g))
  roomy s g n hr q =
      paged inv many s.own.counts s.own.timers s.own.clock s.own.heap s.own.scopes s.own.forest (length s.own.kept) g _ hr
      (subst (inv.pages.Page g) (sym (length-append s.own.kept (replicate n nothing_kept) ∙ ap (λ m. length s.own.kept + m) (length-replicate n nothing_kept))) q)

  all_put : (p k : ℕ) (next : Option ℕ) (ms : List ℕ) (ts : Trees) → inv.pages.Page ts k → inv.pages.Page (fold (moved p next) ts ms) k
  all_put p k next [] ts h = h
  all_put p k next (m ∷ ms) ts h = all_put p k next ms (moved p next ts m) (inv.pages.put ts k p m next h)

  all_freed : (k : ℕ) (ms : List ℕ) (ts : Trees) → inv.pages.Page ts k → inv.pages.Page (fold detached ts ms) k
  all_freed k [] ts h = h
  all_freed k (m ∷ ms) ts h = all_freed k ms (detached ts m) (inv.pages.freed ts k m h)

  copies_kept : (t : ℕ) (ms : List ℕ) (s : State) → R inv many s → R inv many (with_copies t ms s)
  copies_kept t ms s hr =
      let us : Trees = copied (subtrees ms s.own.forest) in
      roomy s (grafted t None (numbered (length s.own.kept) us) s.own.forest) (size (numbered (length s.own.kept) us)) hr
      (inv.pages.grown s.own.forest us (length s.own.kept) t None hr.page)

  appended_kept : (ns ms : List ℕ) (s : State) → R inv many s → R inv many (appended ns ms s)
  appended_kept [] ms s hr = hr
  appended_kept (t ∷ []) ms s hr = with_page s (fold (moved t None) s.own.forest ms) hr (all_put t (length s.own.kept) None ms s.own.forest hr.page)
  appended_kept (t ∷ u ∷ ts) ms s hr = appended_kept (u ∷ ts) ms (with_copies t ms s) (copies_kept t ms s hr)

  replaced_kept : (p n : ℕ) (ms : List ℕ) (s : State) → R inv many s → R inv many (with_forest s (detached (fold (moved p (Some n)) s.own.forest ms) n))
  replaced_kept p n ms s hr =
      let g : Trees = fold (moved p (Some n)) s.own.forest ms in
      with_page s (detached g n) hr (inv.pages.freed g (length s.own.kept) n (all_put p (length s.own.kept) (Some n) ms s.own.forest hr.page))

  removed_kept : (s : State) (n : ℕ) → R inv many s → R inv many (with_forest s (detached s.own.forest n))
  removed_kept s n hr = with_page s (detached s.own.forest n) hr (inv.pages.freed s.own.forest (length s.own.kept) n hr.page)

  emptied_kept : (s : State) (n : ℕ) → R inv many s → R inv many (emptied s n)
  emptied_kept s n hr = with_page s _ hr (all_freed (length s.own.kept) (tops (children n s.own.forest)) s.own.forest hr.page)

  one_label_kept : (s : State) (n : ℕ) (l : Label) → R inv many s → R inv many (with_label s n l)
  one_label_kept s n l hr = with_page s (relabelled n l s.own.forest) hr (inv.pages.labelled s.own.forest (length s.own.kept) n l hr.page)

  label_kept : (l : Option Label) (n : ℕ) (f : Label → Label) (s : State) → R inv many s → R inv many (option_map_or (λ v. with_label s n (f v)) l s)
  label_kept None n f s hr = hr
  label_kept (Some l) n f s hr = one_label_kept s n (f l) hr

  relabel_kept : (f : Label → Label) (s : State) (n : ℕ) → R inv many s → R inv many (relabel f s n)
  relabel_kept f s n hr = label_kept (label_of n s.own.forest) n f s hr

  each_relabelled_kept : (f : Label → Label) (ns : List ℕ) (s : State) → R inv many s → R inv many (fold (relabel f) s ns)
  each_relabelled_kept f ns s hr = fold_kept (relabel f) (relabel_kept f) ns s hr

  text_node_kept : (n : ℕ) (t : List ℕ) (s : State) → R inv many s → R inv many (with_text_node n t s)
  text_node_kept n [] s hr = hr
  text_node_kept n (u ∷ us) s hr =
      roomy s (grafted n None (Node (length s.own.kept) (TextOf (u ∷ us)) End End) s.own.forest) 1 hr
      (inv.pages.grown s.own.forest (Node 0 (TextOf (u ∷ us)) End End) (length s.own.kept) n None hr.page)

  node_kept : (l : Label) (s : State) → R inv many s → R inv many (with_node l s)
  node_kept l s hr = roomy s (with_detached (Node (length s.own.kept) l End End) s.own.forest) 1 hr (inv.pages.added s.own.forest (length s.own.kept) l hr.page)

  either_kept : (b : Bool) (p q : State) → R inv many p → R inv many q → R inv many (if b then p else q)
  either_kept true p q h k = h
  either_kept false p q h k = k

  valued_kept : (t : List ℕ) (s : State) (n : ℕ) → R inv many s → R inv many (valued t s n)
  valued_kept t s n hr =
      either_kept (is_input s n) _ _ (relabel_kept (with_attribute (codes "value") (Some t)) s n hr)
      (either_kept (is_text_node s n) _ _ (one_label_kept s n (TextOf t) hr) (text_node_kept n t (emptied s n) (emptied_kept s n hr)))

  each_valued_kept : (t ns : List ℕ) (s : State) → R inv many s → R inv many (fold (valued t) s ns)
  each_valued_kept t ns s hr = fold_kept (valued t) (valued_kept t) ns s hr

  changed_kept : (f : Kept → Kept) (s : State) (n : ℕ) → R inv many s → R inv many (change_kept f s n)
  changed_kept f s n hr =
      paged inv many s.own.counts s.own.timers s.own.clock s.own.heap s.own.scopes s.own.forest (length s.own.kept) s.own.forest _ hr
      (subst (inv.pages.Page s.own.forest) (sym (length-set s.own.kept n (f (kept_at s n)))) hr.page)

  each_changed_kept : (f : Kept → Kept) (ns : List ℕ) (s : State) → R inv many s → R inv many (fold (change_kept f) s ns)
  each_changed_kept f ns s hr = fold_kept (change_kept f) (changed_kept f) ns s hr

  pub want_bunch_r : (way : Way) (x0 : Value) (x1 : State) (x2 : (List ℕ → Plan)) → R inv many x1 → ((y0 : List ℕ) → Keeps inv many way (x2 y0)) → Keeps inv many way (want_bunch x0 x1 x2)
  want_bunch_r way v s k hr f0 = search (found)

  pub want_all_r : (way : Way) (x0 : (ℕ → Bool)) (x1 : List ℕ) (x2 : State) (x3 : Plan) → R inv many x2 → Keeps inv many way x3 → Keeps inv many way (want_all x0 x1 x2 x3)
  want_all_r way test ns s p hr f0 = search (wanted)

  pub want_one_r : (way : Way) (x0 : List ℕ) (x1 : State) (x2 : (ℕ → Plan)) → R inv many x1 → ((y0 : ℕ) → Keeps inv many way (x2 y0)) → Keeps inv many way (want_one x0 x1 x2)
  want_one_r way (n ∷ []) s k hr f0 = search
  want_one_r way ns s k hr f0 = search (faulted)

  pub give_page_text_r : (x0 : ℕ) (x1 : List ℕ) (x2 : State) → R inv many x2 → Keeps inv many ByValue (give_page_text x0 x1 x2)
  give_page_text_r extra t s hr = search (charged, made_text, gave)

  pub query_steps_r : (x0 : Option (List Step)) (x1 : List ℕ) (x2 : State) → R inv many x2 → Keeps inv many ByValue (query_steps x0 x1 x2)
  query_steps_r None ns s hr = search (faulted)
  query_steps_r (Some qs) ns s hr = search (charged, make_bunch_r, gave)

  pub query_r : (x0 : List ℕ) (x1 : Value) (x2 : State) → R inv many x2 → Keeps inv many ByValue (query x0 x1 x2)
  query_r ns v s hr = search (want_primitives_r, query_steps_r)

  pub get_values_r : (x0 : List ℕ) (x1 : State) → R inv many x1 → Keeps inv many ByValue (get_values x0 x1)
  get_values_r ns s hr = search (charged, give_texts_r)

  pub get_style_r : (x0 : List ℕ) (x1 : Value) (x2 : State) → R inv many x2 → Keeps inv many ByValue (get_style x0 x1 x2)
  get_style_r ns p s hr = search (want_primitives_r, wanted, give_page_text_r)

  pub explode_r : (x0 : List ℕ) (x1 : State) → R inv many x1 → Keeps inv many ByValue (explode x0 x1)
  explode_r ns s hr = search (charged, paid, gave, exploded_kept)

  pub get_parent_r : (x0 : List ℕ) (x1 : State) → R inv many x1 → Keeps inv many ByValue (get_parent x0 x1)
  get_parent_r ns s hr = search (want_all_r, charged, make_bunch_r, gave)

  pub give_found_r : (x0 : ℕ) (x1 : Option (List ℕ)) (x2 : State) → R inv many x2 → Keeps inv many ByValue (give_found x0 x1 x2)
  give_found_r extra None s hr = search (gave)
  give_found_r extra (Some t) s hr = search (give_page_text_r)

  pub read_method_r : (x0 : ReadNative) (x1 : List ℕ) (x2 : List Value) (x3 : State) → R inv many x3 → Keeps inv many ByValue (read_method x0 x1 x2 x3)
  read_method_r Query ns vs s hr = search (query_r)
  read_method_r GetValues ns vs s hr = search (get_values_r)
  read_method_r GetStyle ns vs s hr = search (get_style_r)
  read_method_r GetCheck ns vs s hr = search (charged, gave)
  read_method_r Explode ns vs s hr = search (explode_r)
  read_method_r Count ns vs s hr = search (charged, gave)
  read_method_r GetParent ns vs s hr = search (get_parent_r)
  read_method_r w ns vs s hr = give_found_r (shown_extra w s ns) (shown w s ns) s hr

  pub read_native_r : (x0 : ReadNative) (x1 : Option Value) (x2 : List Value) (x3 : ℕ) (x4 : State) → R inv many x4 → Keeps inv many ByValue (read_native x0 x1 x2 x3 x4)
  read_native_r w this vs d s hr = search (on_bunch_r, read_method_r)

  pub alter_r : (x0 : ℕ) (x1 : Value) (x2 : State) (x3 : (State → State)) → R inv many x2 → ((y0 : State) → R inv many y0 → R inv many (x3 y0)) → Keeps inv many ByValue (alter x0 x1 x2 x3)
  alter_r extra b s f hr f0 = search (charged, gave)

  pub alter_for_r : (x0 : ℕ) (x1 : ℕ) (x2 : ℕ) (x3 : Value) (x4 : State) (x5 : (State → State)) → R inv many x4 → ((y0 : State) → R inv many y0 → R inv many (x5 y0)) → Keeps inv many ByValue (alter_for x0 x1 x2 x3 x4 x5)
  alter_for_r extra units nodes b s f hr f0 = search (charged, paid, gave)

  pub alter_each_r : (x0 : (State → ℕ → State)) (x1 : List ℕ) (x2 : Value) (x3 : State) → R inv many x3 → ((y0 : State) (y1 : ℕ) → R inv many y0 → R inv many (x0 y0 y1)) → Keeps inv many ByValue (alter_each x0 x1 x2 x3)
  alter_each_r f ns b s hr f0 = alter_r (length ns) b s (λ t. fold f t ns) hr (λ t k. fold_kept f f0 ns t k)

  each_change_r : (f : Kept → Kept) (ns : List ℕ) (b : Value) (s : State) → R inv many s → Keeps inv many ByValue (alter_each (change_kept f) ns b s)
  each_change_r f ns b s hr = alter_each_r (change_kept f) ns b s hr (changed_kept f)

  pub append_trees_r : (x0 : List ℕ) (x1 : List ℕ) (x2 : Trees) (x3 : Value) (x4 : State) → R inv many x4 → Keeps inv many ByValue (append_trees x0 x1 x2 x3 x4)
  append_trees_r ns ms us b s hr = search (alter_for_r, appended_kept)

  pub append_r : (x0 : List ℕ) (x1 : Value) (x2 : Value) (x3 : State) → R inv many x3 → Keeps inv many ByValue (append x0 x1 x2 x3)
  append_r ns v b s hr = search (want_bunch_r, want_all_r, append_trees_r)

  pub remove_r : (x0 : List ℕ) (x1 : Value) (x2 : State) → R inv many x2 → Keeps inv many ByValue (remove x0 x1 x2)
  remove_r ns b s hr = want_all_r ByValue _ ns s _ hr (alter_each_r (λ t n. with_forest t (detached t.own.forest n)) ns b s hr removed_kept)

  pub replace_r : (x0 : List ℕ) (x1 : Value) (x2 : Value) (x3 : State) → R inv many x3 → Keeps inv many ByValue (replace x0 x1 x2 x3)
  replace_r ns v b s hr =
      want_one_r ByValue ns s _ hr (λ n. want_bunch_r ByValue v s _ hr (λ ms. found inv many ByValue E10 (parent n s.own.forest) s _ hr (λ p. wanted inv many ByValue E10 _ s _ hr
      (alter_r 1 b s (λ t. with_forest t (detached (fold (moved p (Some n)) t.own.forest ms) n)) hr (replaced_kept p n ms)))))

  pub set_value_r : (x0 : List ℕ) (x1 : List ℕ) (x2 : Value) (x3 : State) → R inv many x3 → Keeps inv many ByValue (set_value x0 x1 x2 x3)
  set_value_r ns t b s hr = search (want_all_r, alter_for_r, each_valued_kept)

  pub set_style_r : (x0 : List ℕ) (x1 : List ℕ) (x2 : List ℕ) (x3 : Value) (x4 : State) → R inv many x4 → Keeps inv many ByValue (set_style x0 x1 x2 x3 x4)
  set_style_r ns p v b s hr = search (wanted, want_all_r, alter_for_r, each_relabelled_kept)

  pub set_attribute_r : (x0 : List ℕ) (x1 : List ℕ) (x2 : List ℕ) (x3 : Value) (x4 : State) → R inv many x4 → Keeps inv many ByValue (set_attribute x0 x1 x2 x3 x4)
  set_attribute_r ns x v b s hr = search (want_all_r, alter_for_r, each_relabelled_kept)

  pub set_flag_r : (x0 : (ℕ → Bool)) (x1 : List ℕ) (x2 : List ℕ) (x3 : Bool) (x4 : Value) (x5 : State) → R inv many x5 → Keeps inv many ByValue (set_flag x0 x1 x2 x3 x4 x5)
  set_flag_r test ns x is_set b s hr = search (want_all_r, alter_each_r, relabel_kept)

  pub focus_r : (x0 : List ℕ) (x1 : Value) (x2 : State) → R inv many x2 → Keeps inv many ByValue (focus x0 x1 x2)
  focus_r ns b s hr = search (want_one_r, alter_r)

  pub blur_r : (x0 : List ℕ) (x1 : Value) (x2 : State) → R inv many x2 → Keeps inv many ByValue (blur x0 x1 x2)
  blur_r ns b s hr = search (alter_r)

  pub listen_r : (x0 : List ℕ) (x1 : List ℕ) (x2 : Value) (x3 : Value) (x4 : State) → R inv many x4 → Keeps inv many ByValue (listen x0 x1 x2 x3 x4)
  listen_r ns t f b s hr = search (wanted, want_function_r, charged, paid, gave, each_changed_kept) depth 8 fits 4000

  pub hush_r : (x0 : List ℕ) (x1 : Value) (x2 : Value) (x3 : State) → R inv many x3 → Keeps inv many ByValue (hush x0 x1 x2 x3)
  hush_r ns Undefined b s hr = each_change_r (λ k. record k { handlers = [] }) ns b s hr
  hush_r ns v b s hr =
      want_primitives_r inv many ByValue (v ∷ []) s _ hr (wanted inv many ByValue E4 (is_event_type (to_text v)) s _ hr
      (each_change_r (λ k. record k { handlers = filter (λ h. not (bytes_eq h.kind (to_text v))) k.handlers }) ns b s hr))

  pub fired_r : (x0 : List ℕ) (x1 : List ℕ) (x2 : Value) (x3 : ℕ) (x4 : State) → R inv many x4 → Keeps inv many ByValue (fired x0 x1 x2 x3 x4)
  fired_r t [] b d s hr = gave inv many ByValue _ s hr
  fired_r t (n ∷ ns) b d s hr = chain inv many ByValue _ _ (dispatch_r inv many t n Undefined d s hr) (λ o u v e. value inv many ByValue o u _ v e (λ w. fired_r t ns b d u v))

  pub fire_r : (x0 : List ℕ) (x1 : List ℕ) (x2 : Value) (x3 : ℕ) (x4 : State) → R inv many x4 → Keeps inv many ByValue (fire x0 x1 x2 x3 x4)
  fire_r ns t b d s hr = search (wanted, charged, fired_r)

  pub each_called_r : (x0 : Value) (x1 : List Value) (x2 : Value) (x3 : ℕ) (x4 : State) → R inv many x4 → Keeps inv many ByValue (each_called x0 x1 x2 x3 x4)
  each_called_r f [] b d s hr = gave inv many ByValue _ s hr
  each_called_r f (v ∷ vs) b d s hr = job inv many ByValue _ s _ hr tt (λ o t u e. value inv many ByValue o t _ u e (λ w. each_called_r f vs b d t u))

  pub each_r : (x0 : List ℕ) (x1 : Value) (x2 : Value) (x3 : ℕ) (x4 : State) → R inv many x4 → Keeps inv many ByValue (each x0 x1 x2 x3 x4)
  each_r ns f b d s hr = search (want_function_r, charged, paid, each_called_r, bunches_kept) depth 8 fits 4000

  pub write_method_r : (x0 : WriteNative) (x1 : List ℕ) (x2 : Value) (x3 : List Value) (x4 : ℕ) (x5 : State) → R inv many x5 → Keeps inv many ByValue (write_method x0 x1 x2 x3 x4 x5)
  write_method_r Append ns b vs d s hr = search (append_r)
  write_method_r Remove ns b vs d s hr = search (remove_r)
  write_method_r Empty ns b vs d s hr = alter_each_r emptied ns b s hr emptied_kept
  write_method_r Replace ns b vs d s hr = search (replace_r)
  write_method_r SetValue ns b vs d s hr = search (want_primitives_r, set_value_r)
  write_method_r SetStyle ns b vs d s hr = search (want_primitives_r, set_style_r)
  write_method_r SetClass ns b vs d s hr = search (want_primitives_r, wanted, set_attribute_r)
  write_method_r SetTitle ns b vs d s hr = search (want_primitives_r, set_attribute_r)
  write_method_r SetCheck ns b vs d s hr = search (set_flag_r)
  write_method_r SetEnabled ns b vs d s hr = search (set_flag_r)
  write_method_r Focus ns b vs d s hr = search (focus_r)
  write_method_r Blur ns b vs d s hr = search (blur_r)
  write_method_r On ns b vs d s hr = search (want_primitives_r, listen_r)
  write_method_r Off ns b vs d s hr = search (hush_r)
  write_method_r Fire ns b vs d s hr = search (want_primitives_r, fire_r)
  write_method_r Each ns b vs d s hr = search (each_r)
  write_method_r SetMark ns b vs d s hr =
      want_primitives_r inv many ByValue (nth 0 vs ∷ []) s _ hr (each_change_r (λ k. record k { mark = to_text (nth 0 vs) }) ns b s hr)
  write_method_r Protect ns b vs d s hr = each_change_r (λ k. record k { is_protected = true }) ns b s hr

  pub write_native_r : (x0 : WriteNative) (x1 : Option Value) (x2 : List Value) (x3 : ℕ) (x4 : State) → R inv many x4 → Keeps inv many ByValue (write_native x0 x1 x2 x3 x4)
  write_native_r w this vs d s hr = search (on_bunch_r, write_method_r)

  pub give_node_r : (x0 : Label) (x1 : ℕ) (x2 : State) → R inv many x2 → Keeps inv many ByValue (give_node x0 x1 x2)
  give_node_r l units s hr =
      paid inv many ByValue (cost units 1 2 1) s (λ t. give (Own (length t.own.heap)) (with_new_cell (with_node l t) (new_bunch (next_node t ∷ [])))) hr
      (λ a u. let t : State = with_node l (with_counts s a) in
      gave inv many ByValue (Own (length s.own.heap)) (with_new_cell t (new_bunch (length s.own.kept ∷ [])))
      (born inv many a s.own.timers s.own.clock s.own.heap s.own.scopes t.own.forest (length t.own.kept) (new_bunch (length s.own.kept ∷ [])) (node_kept l (with_counts s a) u) tt))

  pub dom_tag_r : (x0 : List ℕ) (x1 : List (List ℕ)) (x2 : State) → R inv many x2 → Keeps inv many ByValue (dom_tag x0 x1 x2)
  dom_tag_r tag v s hr = search (wanted, give_node_r)

  pub append_to_root_r : (x0 : List ℕ) (x1 : State) → R inv many x1 → Keeps inv many ByValue (append_to_root x0 x1)
  append_to_root_r ms s hr =
      charged inv many ByValue (size (subtrees ms s.own.forest)) s _ hr
      (paid inv many ByValue (cost 0 1 2 0) s (λ t. give (Own (length t.own.heap)) (with_new_cell (appended (root ∷ []) ms t) (new_bunch (root ∷ [])))) hr
      (λ a u. let t : State = appended (root ∷ []) ms (with_counts s a) in
      gave inv many ByValue (Own (length s.own.heap)) (with_new_cell t (new_bunch (root ∷ [])))
      (born inv many a s.own.timers s.own.clock s.own.heap s.own.scopes t.own.forest (length s.own.kept) (new_bunch (root ∷ [])) (appended_kept (root ∷ []) ms (with_counts s a) u) tt)))

  pub dom_append_r : (x0 : Value) (x1 : State) → R inv many x1 → Keeps inv many ByValue (dom_append x0 x1)
  dom_append_r v s hr = search (want_bunch_r, want_all_r, append_to_root_r)

  pub dom_native_r : (x0 : DomNative) (x1 : Option Value) (x2 : List Value) (x3 : ℕ) (x4 : State) → R inv many x4 → Keeps inv many ByValue (dom_native x0 x1 x2 x3 x4)
  dom_native_r DomQuery this vs d s hr = search (query_r)
  dom_native_r DomAppend this vs d s hr = search (dom_append_r)
  dom_native_r DomTag this vs d s hr = search (want_primitives_r, dom_tag_r)
  dom_native_r DomText this vs d s hr = search (want_primitives_r, give_node_r)

  pub run_native_r : (x0 : NativeId) (x1 : Option Value) (x2 : List Value) (x3 : ℕ) (x4 : State) → R inv many x4 → Keeps inv many ByValue (run_native x0 x1 x2 x3 x4)
  run_native_r (native.Global w) this vs d s hr = search (global_native_r)
  run_native_r (native.Math w) this vs d s hr = search (math_native_r)
  run_native_r (native.Prototype w) this vs d s hr = search (prototype_native_r)
  run_native_r (native.Text w) this vs d s hr = search (text_native_r)
  run_native_r (native.List w) this vs d s hr = search (list_native_r)
  run_native_r (native.Adsafe w) this vs d s hr = search (adsafe_native_r)
  run_native_r (native.Dom w) this vs d s hr = search (dom_native_r)
  run_native_r (native.Read w) this vs d s hr = search (read_native_r)
  run_native_r (native.Write w) this vs d s hr = search (write_native_r)
  run_native_r native.Bubble this vs d s hr = search (bubble_r)
