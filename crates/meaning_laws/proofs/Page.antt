-- The natives of the page keep what is there, and so does each native.
use Rattle.meaning_laws.proofs.Values.{text_told, told, also, own_value, units_told, numbered_names, undefined_is, truth_is, num_is, text_is, no_values, more_values, nth_is, no_value, or_undefined, numbered_are, value_end, call_job}
use Rattle.meaning_laws.proofs.Units.{made_is, units_tested}
use Rattle.meaning_laws.specs.There.{OfCount, Sizes, Grows, Told, CellFits, ValueIs, ValuesAre, MaybeIs, NodeIs, NodesAre, OfNode, CellIs, KeptIs}
use Rattle.widget_meaning.specs.Limits.{past_numbers, max_node_depth, max_slots}
use Rattle.widget_meaning.specs.Values.{E3, Value, Undefined, Own, Is, E4, E10, to_text, nth, Null, Truth, NaN, Num, Text, Host, is_true, is_object}
use Rattle.widget_meaning.specs.OwnState.{Kind, Object, Array, Function, Bunch, cell_at, State, with_new_cell, new_array, new_bunch, Kept, nothing_kept, kept_at, with_forest, Cell, Handler, bunch_nodes, kind_of}
use Rattle.widget_meaning.specs.NativeForms.{on_bunch, numbered_pairs}
use Rattle.std.specs.Prelude.{pos, not, replicate, ℕ, ◌+◌, List, [], ◌∷◌, Bool, true, false, if◌then◌else◌, codes, Option, Some, None, length, map, unwrap_or, ◌-◌, ◌*◌, ◌&&◌, ◌||◌, nat_eq, sum_by}
use Rattle.std.specs.Str.{bytes_eq}
use Rattle.std.specs.List.{fold, filter, AllByRecursion, range_with_len, count_by, list_all, list_any}
use Rattle.std.specs.Option.{option_map_or}
use Rattle.permitted_table.specs.declared.native.NativeId.{NativeId}
use Rattle.permitted_table.specs.declared.native.NativeId.TheVariants as native
use Rattle.plain_tree.specs.Trees.{Label, TextOf, End, Node, size, Attribute}
use Rattle.plain_tree.specs.Words.{is_event_type, is_plain_words}
use Rattle.widget_meaning.specs.Trees.{Trees, label_of, tops, children, parent, subtrees, grafted, numbered, copied, with_detached, detached, moved, subtree}
use Rattle.widget_meaning.specs.Costs.{cost, give, with_counts, want}
use Rattle.widget_meaning.specs.Plan.{Plan}
use Rattle.permitted_table.specs.declared.native.ReadNative.{ReadNative}
use Rattle.permitted_table.specs.declared.native.ReadNative.TheVariants.{Query, GetValue, GetValues, GetStyle, GetCheck, Explode, Count, GetParent}
use Rattle.permitted_table.specs.declared.native.WriteNative.{WriteNative}
use Rattle.permitted_table.specs.declared.native.WriteNative.TheVariants.{Append, Remove, Empty, Replace, SetValue, SetStyle, SetClass, SetTitle, SetCheck, SetEnabled, Focus, Blur, On, Off, Fire, Each, SetMark, Protect}
use Rattle.permitted_table.specs.declared.native.DomNative.{DomNative}
use Rattle.permitted_table.specs.declared.native.DomNative.TheVariants.{DomQuery, DomAppend, DomTag, DomText}
use Rattle.widget_meaning.specs.PageForms.{root, next_node, with_room, with_node, is_input, is_text_node, want_one, want_bunch, with_label, is_field, tree_units, is_element, attribute, tag_of, texts_of}
use Rattle.query_grammar.specs.Steps.{Step}
use Rattle.widget_meaning.specs.BunchReads.{bunches_from, query, read_native, give_page_text, query_steps, get_values, get_style, explode, get_parent, read_method, exploded, with_bunch, value_of, has_open_parent, first_found, first_attribute, first_value, first_tag, first_mark, shown, shown_extra, give_found}
use Rattle.widget_meaning.specs.BunchWrites.{appended, write_native, alter, alter_for, append_trees, append, remove, replace, set_value, set_style, set_attribute, set_flag, focus, blur, listen, hush, fired, fire, each_called, each, write_method, with_copies, emptied, relabel, with_text_node, valued, alter_each, change_kept, styled, with_handler, with_focus, left_focus, is_target, has_new_text, is_no_root, is_value_target}
use Rattle.widget_meaning.specs.DomNatives.{dom_native, give_node, dom_tag, append_to_root, dom_append, given_text}
use Rattle.widget_meaning.specs.Natives.{run_native}
use Rattle.tree_ops.specs.Labels.{with_attribute}
use Rattle.std.proofs.Common.{◌≡◌, ◌<◌, ◌≤◌, ◌++◌, ◌∙◌, suc, refl, sym, ap, subst, arith, zero}
use Rattle.std.proofs.lemmas.List.{length-map, length-append, length-replicate}
use Rattle.query_grammar.specs.Finds.{has_number}
use Rattle.style_text.specs.Styles.{is_listed, is_value}
use Rattle.plain_tree.specs.Tags.{is_listed_tag}
use Rattle.widget_meaning.specs.Queries.{read_query}
use Rattle.widget_meaning.specs.NodeLaws.{IsPage}
use Rattle.widget_meaning.proofs.Times.{relabelled_once, moved_once, detached_once, grown_once, born_once}
use Rattle.meaning_laws.proofs.Each.{each_both, each_filtered, each_mapped, each_made, each_in_range}
use Rattle.meaning_laws.proofs.Natives.{numbered_length, give_texts_r, global_native_r, make_bunch_r, math_native_r, on_bunch_r, want_function_r, want_primitives_r}
use Rattle.meaning_laws.proofs.Levels.{low_detached, height_relabelled}
use Rattle.meaning_laws.proofs.Low.{IsLow, MayTake, low_put, low_copies, takes_still, target_takes, targets_take, both_true}
use Rattle.meaning_laws.proofs.Written.{IsReady, IsOpen, low_text, low_new, open_freed, open_other, ready_valued, all_ready}
use Rattle.meaning_laws.specs.Texts.{AreUnits, AreAllUnits, MaybeUnits, IsText, LabelHasTexts, PageHasTexts}
use Rattle.widget_meaning.specs.Styles.{style_pairs}
use Rattle.meaning_laws.proofs.Styles.{style_pairs_are, style_value_is}
use Rattle.meaning_laws.proofs.Labels.{MaybeLabel, attribute_set, attribute_found, tag_found, or_empty, styled_is, page_grafted, page_subtree, page_behind, page_freed, page_all_freed, page_all_moved, page_relabelled, page_numbered, page_copied, page_subtrees, label_is, texts_are}
use Rattle.meaning_laws.proofs.Nodes.{query_finds, parents_are, nodes_below}
use Rattle.meaning_laws.proofs.Steps.{stands, wants, higher, ended_at, paged, page_later, roomy, room_grows, rekept, focused, R, Stands, Keeps, ended, job, value, chain, charged, paid, made_text, faulted, wanted, found, lowered, born_then}
use Rattle.meaning_laws.proofs.Forms.{Hosted, bunch_hosted, array_hosted, all_born, with_more, more_grows, array_is, bunch_cell, bunch_is, dispatch_r, bubble_r}
use Rattle.meaning_laws.proofs.Lists.{list_native_r, prototype_native_r}
use Rattle.meaning_laws.proofs.Texts.{text_native_r}
use Rattle.meaning_laws.proofs.Adsafe.{adsafe_native_r}
use Rattle.meaning_laws.proofs.Later.{told_later, value_later, values_later, nodes_later}

module _ (m : Sizes) where
  pub fold_kept : (f : State → ℕ → State) → ((t : State) (n : ℕ) → R m t → R m (f t n)) → (ns : List ℕ) (s : State) → R m s → R m (fold f s ns)
  fold_kept f k [] s hr = hr
  fold_kept f k (n ∷ ns) s hr = fold_kept f k ns (f s n) (k s n hr)

  -- ## The page
  with_page : (s : State) (g : Trees) → R m s → IsPage g m.nodes → IsLow g → (PageHasTexts s.own.forest → PageHasTexts g) → R m (with_forest s g)
  with_page s g h q l w = paged m s.own.heap s.own.scopes s.own.kept s.own.timers s.own.forest s.own.focus s.own.counts.slots g h q l (also m w h.there.labels)

  all_put : (p k : ℕ) (next : Option ℕ) (ms : List ℕ) (ts : Trees) → IsPage ts k → IsPage (fold (moved p next) ts ms) k
  all_put p k next [] ts h = h
  all_put p k next (n ∷ ms) ts h = all_put p k next ms (moved p next ts n) (moved_once ts k p n next h)

  all_freed : (k : ℕ) (ms : List ℕ) (ts : Trees) → IsPage ts k → IsPage (fold detached ts ms) k
  all_freed k [] ts h = h
  all_freed k (n ∷ ms) ts h = all_freed k ms (detached ts n) (detached_once ts k n h)

  all_low : (ms : List ℕ) (ts : Trees) → IsLow ts → IsLow (fold detached ts ms)
  all_low [] ts h = h
  all_low (n ∷ ms) ts h = all_low ms (detached ts n) (low_detached n (max_node_depth + 1) ts h)

  put_kept : (p : ℕ) (ms : List ℕ) (s : State) → R m s → MayTake ms s.own.forest p → R m (with_forest s (fold (moved p None) s.own.forest ms))
  put_kept p ms s h t = with_page s _ h (all_put p m.nodes None ms s.own.forest h.there.page) (low_put p t.depth None ms s.own.forest h.there.low t.within t.each) (page_all_moved p None ms s.own.forest)

  replaced_kept : (p n : ℕ) (ms : List ℕ) (s : State) → R m s → MayTake ms s.own.forest p → R m (with_forest s (detached (fold (moved p (Some n)) s.own.forest ms) n))
  replaced_kept p n ms s h t = with_page s _ h (detached_once _ m.nodes n (all_put p m.nodes (Some n) ms s.own.forest h.there.page))
      (low_detached n (max_node_depth + 1) _ (low_put p t.depth (Some n) ms s.own.forest h.there.low t.within t.each)) (λ w. page_freed n _ (page_all_moved p (Some n) ms s.own.forest w))

  removed_kept : (s : State) (n : ℕ) → R m s → R m (with_forest s (detached s.own.forest n))
  removed_kept s n h = with_page s _ h (detached_once s.own.forest m.nodes n h.there.page) (low_detached n (max_node_depth + 1) s.own.forest h.there.low) (page_freed n s.own.forest)

  emptied_kept : (s : State) (n : ℕ) → R m s → R m (emptied s n)
  emptied_kept s n h = with_page s _ h (all_freed m.nodes (tops (children n s.own.forest)) s.own.forest h.there.page) (all_low (tops (children n s.own.forest)) s.own.forest h.there.low) (page_all_freed (tops (children n s.own.forest)) s.own.forest)

  one_label_kept : (s : State) (n : ℕ) (l : Label) → R m s → Told m (LabelHasTexts l) → R m (with_label s n l)
  one_label_kept s n l h k = paged m s.own.heap s.own.scopes s.own.kept s.own.timers s.own.forest s.own.focus s.own.counts.slots _ h (relabelled_once s.own.forest m.nodes n l h.there.page) (subst (λ x. x ≤ max_node_depth + 1) (sym (height_relabelled n l s.own.forest)) h.there.low)
      (record { holds = λ e. page_relabelled n l s.own.forest (k.holds e) (h.there.labels.holds e) })

  label_kept : (l : Option Label) (n : ℕ) (f : Label → Label) (s : State) → R m s → Told m (MaybeLabel l) → Told m ((v : Label) → LabelHasTexts v → LabelHasTexts (f v)) → R m (option_map_or (λ v. with_label s n (f v)) l s)
  label_kept None n f s hr hl hf = hr
  label_kept (Some l) n f s hr hl hf = one_label_kept s n (f l) hr (record { holds = λ e. hf.holds e l (hl.holds e) })

  pub relabel_kept : (f : Label → Label) (s : State) (n : ℕ) → R m s → Told m ((v : Label) → LabelHasTexts v → LabelHasTexts (f v)) → R m (relabel f s n)
  relabel_kept f s n hr hf = label_kept (label_of n s.own.forest) n f s hr (also m (label_is n s.own.forest) hr.there.labels) hf

  -- what a page gives
  label_told : (s : State) (n : ℕ) → R m s → Told m (MaybeLabel (label_of n s.own.forest))
  label_told s n hr = also m (label_is n s.own.forest) hr.there.labels

  attribute_told : (s : State) (n : ℕ) (x : List ℕ) → R m s → Told m (AreUnits (unwrap_or (attribute s n x) []))
  attribute_told s n x hr = also m (λ q. or_empty (attribute s n x) (attribute_found x (label_of n s.own.forest) q)) (label_told s n hr)

  tag_told : (s : State) (n : ℕ) → R m s → Told m (AreUnits (tag_of s n))
  tag_told s n hr = also m (λ q. or_empty _ (tag_found (label_of n s.own.forest) q)) (label_told s n hr)

  value_told : (s : State) (n : ℕ) → R m s → Told m (AreUnits (value_of s n))
  value_told s n hr = by (is_input s n)
    where
      by : (b : Bool) → Told m (AreUnits (if b then unwrap_or (attribute s n (codes "value")) [] else texts_of (subtree n s.own.forest)))
      by true = attribute_told s n (codes "value") hr
      by false = also m (λ q. texts_are (subtree n s.own.forest) (page_subtree n s.own.forest q)) hr.there.labels

  found_told : (s : State) (ns : List ℕ) (x : List ℕ) → R m s → Told m (MaybeUnits (first_found s ns x))
  found_told s [] x hr = told m tt
  found_told s (n ∷ ns) x hr = also m (attribute_found x (label_of n s.own.forest)) (label_told s n hr)

  first_told : (s : State) (ns : List ℕ) (x : List ℕ) → R m s → Told m (AreUnits (first_attribute s ns x))
  first_told s ns x hr = also m (or_empty (first_found s ns x)) (found_told s ns x hr)

  first_value_told : (s : State) (ns : List ℕ) → R m s → Told m (MaybeUnits (first_value s ns))
  first_value_told s [] hr = told m tt
  first_value_told s (n ∷ ns) hr = value_told s n hr

  mark_told : (s : State) (ns : List ℕ) → R m s → Told m (AreUnits (first_mark s ns))
  mark_told s [] hr = told m tt
  mark_told s (n ∷ ns) hr = (hr.there.kept n).mark

  tag_text_told : (s : State) (n : ℕ) → R m s → Told m (AreUnits (if is_text_node s n then codes "#text" else tag_of s n))
  tag_text_told s n hr = by (is_text_node s n)
    where
      by : (b : Bool) → Told m (AreUnits (if b then codes "#text" else tag_of s n))
      by true = told m (units_tested (codes "#text") refl)
      by false = tag_told s n hr

  first_tag_told : (s : State) (ns : List ℕ) → R m s → Told m (MaybeUnits (first_tag s ns))
  first_tag_told s [] hr = told m tt
  first_tag_told s (n ∷ ns) hr = tag_text_told s n hr

  -- one method is named, and `w` are all others
  shown_told : (w : ReadNative) (s : State) (ns : List ℕ) → R m s → Told m (MaybeUnits (shown w s ns))
  shown_told GetValue s ns hr = search (first_value_told)
  shown_told w s ns hr = search (found_told, first_told, first_tag_told, mark_told, told)

  changed_kept : (f : Kept → Kept) (s : State) (n : ℕ) → R m s → ((k : Kept) → KeptIs m k → KeptIs m (f k)) → R m (change_kept f s n)
  changed_kept f s n h q = rekept m s.own.heap s.own.scopes s.own.kept s.own.timers s.own.forest s.own.focus s.own.counts.slots n (f (kept_at s n)) h (q (kept_at s n) (h.there.kept n))

  handler_kept : (t : List ℕ) (f : Value) (k : Kept) → ValueIs m f → KeptIs m k → KeptIs m (with_handler t f k)
  handler_kept t (Own i) k h q = record { handlers = each_both {A = Handler} (λ x. x.func < m.objects) k.handlers _ q.handlers (h.born, tt); mark = q.mark }
  handler_kept t Undefined k h q = q
  handler_kept t Null k h q = q
  handler_kept t (Truth b) k h q = q
  handler_kept t NaN k h q = q
  handler_kept t (Num z) k h q = q
  handler_kept t (Text x) k h q = q
  handler_kept t (Host e) k h q = q

  left_kept : (o : Option ℕ) (ns : List ℕ) → OfNode m o → OfNode m (left_focus o ns)
  left_kept None ns h = tt
  left_kept (Some n) ns h = by (has_number ns n)
    where
      by : (b : Bool) → OfNode m (if b then None else Some n)
      by true = tt
      by false = h

  -- new nodes
  room_page : (s : State) (g : Trees) (k : ℕ) → IsPage g (length s.own.kept + k) → IsPage g (length (s.own.kept ++ replicate k nothing_kept))
  room_page s g k q = subst (IsPage g) (sym (length-append s.own.kept (replicate k nothing_kept) ∙ ap (λ i. length s.own.kept + i) (length-replicate k nothing_kept))) q

  now_page : (s : State) → R m s → IsPage s.own.forest (length s.own.kept)
  now_page s h = page_later s.own.forest m.nodes (length s.own.kept) h.wide.nodes h.there.page

  room_stands : (s : State) (g : Trees) (k : ℕ) → R m s → IsPage g (length s.own.kept + k) → IsLow g → Told m (PageHasTexts g) → Stands m (with_room k (with_forest s g))
  room_stands s g k h q l w = record { size = _; grows = room_grows m s.own.heap s.own.scopes s.own.kept s.own.timers s.own.forest s.own.focus s.own.counts.slots k h; fine = roomy m s.own.heap s.own.scopes s.own.kept s.own.timers s.own.forest s.own.focus s.own.counts.slots g k h (room_page s g k q) l w }

  copies_stand : (t : ℕ) (ms : List ℕ) (s : State) → R m s → MayTake ms s.own.forest t → Stands m (with_copies t ms s)
  copies_stand t ms s h k =
      let us : Trees = copied (subtrees ms s.own.forest) in
      room_stands s (grafted t None (numbered (length s.own.kept) us) s.own.forest) (size (numbered (length s.own.kept) us)) h
      (grown_once s.own.forest us (length s.own.kept) t None (now_page s h)) (low_copies t (length s.own.kept) ms s.own.forest h.there.low k)
      (also m (λ q. page_grafted t None (numbered (length s.own.kept) us) s.own.forest (page_numbered (length s.own.kept) us (page_copied (subtrees ms s.own.forest) (page_subtrees ms s.own.forest q))) q) h.there.labels)

  text_node_stands : (n : ℕ) (t : List ℕ) (s : State) → R m s → IsOpen t n s.own.forest → Told m (AreUnits t) → Stands m (with_text_node n t s)
  text_node_stands n [] s h w ht = stands m s h
  text_node_stands n (u ∷ us) s h w ht =
      room_stands s (grafted n None (Node (length s.own.kept) (TextOf (u ∷ us)) End End) s.own.forest) 1 h
      (grown_once s.own.forest (Node 0 (TextOf (u ∷ us)) End End) (length s.own.kept) n None (now_page s h)) (low_text n (length s.own.kept) (u ∷ us) s.own.forest h.there.low w)
      (record { holds = λ e. page_grafted n None (Node (length s.own.kept) (TextOf (u ∷ us)) End End) s.own.forest (ht.holds e, (tt, tt)) (h.there.labels.holds e) })

  node_kept : (l : Label) (s : State) → R m s → Told m (LabelHasTexts l) → R (record { objects = m.objects; nodes = length (s.own.kept ++ replicate 1 nothing_kept); texts = m.texts }) (with_node l s)
  node_kept l s h hl = roomy m s.own.heap s.own.scopes s.own.kept s.own.timers s.own.forest s.own.focus s.own.counts.slots (with_detached (Node (length s.own.kept) l End End) s.own.forest) 1 h
      (room_page s _ 1 (born_once s.own.forest (length s.own.kept) l (now_page s h))) (low_new (length s.own.kept) l s.own.forest h.there.low)
      (record { holds = λ e. page_behind (Node (length s.own.kept) l End End) s.own.forest (hl.holds e, (tt, tt)) (h.there.labels.holds e) })

  -- by the label that a node has: an `input`, a text node, another element
  valued_at : (t : List ℕ) (s : State) (n : ℕ) → R m s → IsReady t n s.own.forest → Told m (AreUnits t) → Stands m (valued t s n)
  valued_at t s n h r ht = by_own (is_input s n) (is_text_node s n) refl refl
    where
      by_own : (b c : Bool) → is_input s n ≡ b → is_text_node s n ≡ c
          → Stands m (if b then relabel (with_attribute (codes "value") (Some t)) s n else if c then with_label s n (TextOf t) else with_text_node n t (emptied s n))
      by_own true c x y = stands m _ (relabel_kept (with_attribute (codes "value") (Some t)) s n h (also m (λ q v k. attribute_set (codes "value") (Some t) v q k) ht))
      by_own false true x y = stands m _ (one_label_kept s n (TextOf t) h ht)
      by_own false false x y = text_node_stands n t (emptied s n) (emptied_kept s n h) (open_freed t n (tops (children n s.own.forest)) s.own.forest (open_other t s n (h.there.page.once n) r x y)) ht

appended_kept : (m : Sizes) (ns ms : List ℕ) (s : State) → R m s → AllByRecursion (MayTake ms s.own.forest) ns → NodesAre m ns → NodesAre m ms → Stands m (appended ns ms s)
appended_kept m [] ms s h t hn hm = stands m s h
appended_kept m (p ∷ []) ms s h t hn hm = stands m _ (put_kept m p ms s h t.0)
appended_kept m (p ∷ q ∷ ns) ms s h t hn hm = let z : Stands m (with_copies p ms s) = copies_stand m p ms s h t.0 in
    higher m z.size _ z.grows (appended_kept z.size (q ∷ ns) ms (with_copies p ms s) z.fine
    (all_take (q ∷ ns) t.1 (nodes_below m s h (q ∷ ns) hn.each.1)) (nodes_later m z.size (q ∷ ns) z.grows (record { each = hn.each.1 })) (nodes_later m z.size ms z.grows hm))
  where
    all_take : (us : List ℕ) → AllByRecursion (MayTake ms s.own.forest) us → AllByRecursion (λ n. n < length s.own.kept) us → AllByRecursion (MayTake ms (with_copies p ms s).own.forest) us
    all_take [] a b = tt
    all_take (u ∷ us) a b = (takes_still u p (length s.own.kept) ms (copied (subtrees ms s.own.forest)) s.own.forest b.0 (nodes_below m s h ms hm.each) t.0 a.0, all_take us a.1 b.1)

each_valued : (m : Sizes) (t ns : List ℕ) (s : State) → R m s → AllByRecursion (λ n. IsReady t n s.own.forest) ns → NodesAre m ns → Told m (AreUnits t) → Stands m (fold (valued t) s ns)
each_valued m t [] s h r hn ht = stands m s h
each_valued m t (n ∷ ns) s h r hn ht = let z : Stands m (valued t s n) = valued_at m t s n h r.0 ht in
    higher m z.size _ z.grows (each_valued z.size t ns (valued t s n) z.fine (all_ready ns r.1 (nodes_below m s h ns hn.each.1)) (nodes_later m z.size ns z.grows (record { each = hn.each.1 })) (told_later m z.size _ z.grows ht))
  where
    all_ready : (us : List ℕ) → AllByRecursion (λ i. IsReady t i s.own.forest) us → AllByRecursion (λ i. i < length s.own.kept) us → AllByRecursion (λ i. IsReady t i (valued t s n).own.forest) us
    all_ready [] a b = tt
    all_ready (u ∷ us) a b = (ready_valued t s n u b.0 a.0, all_ready us a.1 b.1)

-- ## Bunches of one node each

abbrev pub bunches : List ℕ → List Cell
bunches ns = map (λ n. new_bunch (n ∷ [])) ns

bunches_fold : (ns : List ℕ) (s : State) → fold with_bunch s ns ≡ fold with_new_cell s (bunches ns)
bunches_fold [] s = refl
bunches_fold (n ∷ ns) s = bunches_fold ns (with_bunch s n)

bunch_values : (m : Sizes) (a n : ℕ) → a + n ≤ m.objects → ValuesAre m (map Own (range_with_len a n))
bunch_values m a n h = record { each = each_mapped (λ i. i < m.objects) (ValueIs m) Own (λ i q. own_value m i q) _ (each_in_range (λ i. i < m.objects) a n (λ i k l. omega (arith, h, l))) }

bunches_are : (m : Sizes) (ns : List ℕ) → NodesAre m ns → AllByRecursion (CellIs m) (bunches ns)
bunches_are m ns h = each_mapped (NodeIs m) (CellIs m) (λ n. new_bunch (n ∷ [])) (λ n q. bunch_cell m (n ∷ []) (record { each = (q, tt) })) ns h.each

bunches_hosted : (ns : List ℕ) → AllByRecursion Hosted (bunches ns)
bunches_hosted ns = each_made Hosted (λ n. new_bunch (n ∷ [])) (λ n. bunch_hosted (n ∷ [])) ns

bunches_fit : (k : ℕ) (ns : List ℕ) → AllByRecursion (CellFits k) (bunches ns)
bunches_fit k ns = each_made (CellFits k) (λ n. new_bunch (n ∷ [])) (λ n. record { room = omega arith; len = tt; count = omega arith }) ns

bunches_kept : (m : Sizes) (ns : List ℕ) (s : State) → R m s → NodesAre (with_more m s (length (bunches ns))) ns → R (with_more m s (length (bunches ns))) (fold with_bunch s ns)
bunches_kept m ns s h q = subst (λ t. R (with_more m s (length (bunches ns))) t) (sym (bunches_fold ns s))
    (all_born m (bunches ns) s h (bunches_are _ ns q) (bunches_hosted ns) (bunches_fit s.own.counts.slots ns))

range_length : (a n : ℕ) → length (range_with_len a n) ≡ n
range_length a zero = refl
range_length a (suc n) = ap suc (range_length (a + 1) n)

exploded_kept : (m : Sizes) (ns : List ℕ) (s : State) → R m s → NodesAre (with_more m s (length (bunches ns) + 1)) ns → length ns ≤ s.own.counts.slots → length ns ≤ max_slots → R (with_more m s (length (bunches ns) + 1)) (exploded ns s)
exploded_kept m ns s h q l z =
    let n : Sizes = with_more m s (length (bunches ns) + 1) in
    let c : Cell = new_array (length ns) (numbered_pairs 0 (bunches_from (length s.own.heap + 1) ns)) in
    let array_fits : CellFits s.own.counts.slots c = record { room = omega (arith, l, numbered_length 0 (bunches_from (length s.own.heap + 1) ns), length-map (range_with_len (length s.own.heap + 1) (length ns)) Own, range_length (length s.own.heap + 1) (length ns)); len = omega (arith, z); count = tt } in
    let one : suc (length (bunches ns)) ≡ length (bunches ns) + 1 = omega arith in
    subst (λ t. R n t) (sym (bunches_fold ns (with_new_cell s c)))
    (subst (λ k. AllByRecursion (CellIs (with_more m s k)) (c ∷ bunches ns) → R (with_more m s k) (fold with_new_cell s (c ∷ bunches ns))) one
    (λ e. all_born m (c ∷ bunches ns) s h e (array_hosted _ _, bunches_hosted ns) (array_fits, bunches_fit s.own.counts.slots ns))
    (array_is n _ _ (numbered_are n 0 _ (bunch_values n (length s.own.heap + 1) (length ns) (omega (arith, length-map ns (λ i. new_bunch (i ∷ [])))))) (numbered_names n 0 _), bunches_are n ns q))

pub want_bunch_r : (m : Sizes) (x0 : Value) (x1 : State) (x2 : (List ℕ → Plan)) → R m x1 → ((y0 : List ℕ) → NodesAre m y0 → Keeps m (x2 y0)) → Keeps m (want_bunch x0 x1 x2)
want_bunch_r m v s k hr f0 = found m E4 (bunch_nodes (kind_of s v)) s k hr (λ ns e. f0 ns (bunch_is m s v ns hr e))

pub want_one_r : (m : Sizes) (x0 : List ℕ) (x1 : State) (x2 : (ℕ → Plan)) → R m x1 → NodesAre m x0 → ((y0 : ℕ) → NodeIs m y0 → Keeps m (x2 y0)) → Keeps m (want_one x0 x1 x2)
want_one_r m (n ∷ []) s k hr hn f0 = f0 n hn.each.0
want_one_r m [] s k hr hn f0 = search (faulted)
want_one_r m (n ∷ i ∷ ns) s k hr hn f0 = search (faulted)

pub give_page_text_r : (m : Sizes) (x0 : ℕ) (x1 : List ℕ) (x2 : State) → R m x2 → Told m (AreUnits x1) → Keeps m (give_page_text x0 x1 x2)
give_page_text_r m extra t s hr ht = charged m _ s _ hr (made_text m t s (give (Text t)) hr (λ a u due e. ended m (Is (Text t)) (with_counts s a) u (value_end m _ (text_is m t (also m (λ q. made_is t q e) ht)))))

pub query_steps_r : (m : Sizes) (x0 : Option (List Step)) (x1 : List ℕ) (x2 : State) → R m x2 → NodesAre m x1 → Keeps m (query_steps x0 x1 x2)
query_steps_r m None ns s hr hn = search (faulted)
query_steps_r m (Some qs) ns s hr hn = charged m _ s _ hr (make_bunch_r m _ s give hr (query_finds m s hr qs ns hn) (λ n g v t u w. ended n (Is v) t u (value_end n v w)))

pub query_r : (m : Sizes) (x0 : List ℕ) (x1 : Value) (x2 : State) → R m x2 → NodesAre m x0 → Keeps m (query x0 x1 x2)
query_r m ns v s hr hn = wanted m E4 (not (list_any is_object (v ∷ []))) s _ hr (λ _. query_steps_r m (read_query (to_text v)) ns s hr hn)

pub get_values_r : (m : Sizes) (x0 : List ℕ) (x1 : State) → R m x1 → Keeps m (get_values x0 x1)
get_values_r m ns s hr = charged m _ s _ hr (give_texts_r m (map (value_of s) ns) s hr (record { holds = λ e. each_made AreUnits (value_of s) (λ n. (value_told m s n hr).holds e) ns }))

pub get_style_r : (m : Sizes) (x0 : List ℕ) (x1 : Value) (x2 : State) → R m x2 → Keeps m (get_style x0 x1 x2)
get_style_r m ns p s hr = wanted m E4 (not (list_any is_object (p ∷ []))) s _ hr (λ _. wanted m E4 (is_listed (to_text p)) s _ hr (λ e. give_page_text_r m _ _ s hr (told m (style_value_is (style_pairs (first_attribute s ns (codes "style"))) (to_text p) (style_pairs_are (first_attribute s ns (codes "style")))))))

third : (k n a : ℕ) → k + 3 * n ≤ a → n ≤ a
third k n a h = omega (arith, h)

far_third : (k n a : ℕ) → k + 3 * n ≤ a → a ≤ max_slots → n ≤ max_slots
far_third k n a h l = omega (arith, h, l)

pub explode_r : (m : Sizes) (x0 : List ℕ) (x1 : State) → R m x1 → NodesAre m x0 → Keeps m (explode x0 x1)
explode_r m ns s hr hn = charged m _ s _ hr (paid m _ s (λ t. give (Own (length t.own.heap)) (exploded ns t)) hr (λ a u due.
    let n : Sizes = with_more m s (length (bunches ns) + 1) in
    let g : Grows m n = more_grows m s (length (bunches ns) + 1) hr in
    lowered m n _ g (ended n _ (exploded ns (with_counts s a)) (exploded_kept m ns (with_counts s a) u (nodes_later m n ns g hn) (third s.own.counts.slots (length ns) a.slots due.more) (far_third s.own.counts.slots (length ns) a.slots due.more due.most)) (value_end n _ (own_value n _ (omega arith))))))

pub get_parent_r : (m : Sizes) (x0 : List ℕ) (x1 : State) → R m x1 → Keeps m (get_parent x0 x1)
get_parent_r m ns s hr = wanted m E10 (list_all (has_open_parent s) ns) s _ hr (λ _. charged m _ s _ hr (make_bunch_r m _ s give hr (parents_are m s hr ns) (λ n g v t u w. ended n (Is v) t u (value_end n v w))))

pub give_found_r : (m : Sizes) (x0 : ℕ) (x1 : Option (List ℕ)) (x2 : State) → R m x2 → Told m (MaybeUnits x1) → Keeps m (give_found x0 x1 x2)
give_found_r m extra None s hr ht = ended m _ s hr (value_end m _ (undefined_is m))
give_found_r m extra (Some t) s hr ht = give_page_text_r m extra t s hr ht

counted_number : (n : ℕ) → n ≤ max_slots → n < past_numbers
counted_number n h = omega (arith, h)

count_of : (k : Kind) (ns : List ℕ) → OfCount k → bunch_nodes (Some k) ≡ Some ns → length ns ≤ max_slots
count_of (Bunch us) ns h e = subst (λ xs. length xs ≤ max_slots) (same us ns e) h
  where
    same : (xs ys : List ℕ) → Some xs ≡ Some ys → xs ≡ ys
    same xs ys i = cc
count_of Object ns h e = cc
count_of (Array n) ns h e = cc
count_of (Function f o) ns h e = cc

bunch_count : (m : Sizes) (s : State) → R m s → (v : Value) (ns : List ℕ) → bunch_nodes (kind_of s v) ≡ Some ns → length ns ≤ max_slots
bunch_count m s hr Undefined ns e = cc
bunch_count m s hr Null ns e = cc
bunch_count m s hr (Truth b) ns e = cc
bunch_count m s hr NaN ns e = cc
bunch_count m s hr (Num z) ns e = cc
bunch_count m s hr (Text t) ns e = cc
bunch_count m s hr (Host h) ns e = cc
bunch_count m s hr (Own n) ns e = count_of (cell_at s n).kind ns (hr.there.fits n).count e

pub read_method_r : (m : Sizes) (x0 : ReadNative) (x1 : List ℕ) (x2 : List Value) (x3 : State) → R m x3 → NodesAre m x1 → length x1 ≤ max_slots → Keeps m (read_method x0 x1 x2 x3)
read_method_r m Query ns vs s hr hn hc = query_r m ns (nth 0 vs) s hr hn
read_method_r m GetValues ns vs s hr hn hc = get_values_r m ns s hr
read_method_r m GetStyle ns vs s hr hn hc = get_style_r m ns (nth 0 vs) s hr
read_method_r m GetCheck ns vs s hr hn hc = charged m _ s _ hr (ended m _ s hr (value_end m _ (truth_is m _)))
read_method_r m Explode ns vs s hr hn hc = explode_r m ns s hr hn
read_method_r m Count ns vs s hr hn hc = charged m _ s _ hr (ended m _ s hr (value_end m _ (num_is m (pos (length ns)) (told m (counted_number (length ns) hc)))))
read_method_r m GetParent ns vs s hr hn hc = get_parent_r m ns s hr
read_method_r m w ns vs s hr hn hc = give_found_r m (shown_extra w s ns) (shown w s ns) s hr (shown_told m w s ns hr)

read_on : (m : Sizes) (w : ReadNative) (this : Option Value) (vs : List Value) (s : State) → R m s → Keeps m (on_bunch this s (λ ns. read_method w ns vs s))
read_on m w None vs s hr = faulted m E3 s hr
read_on m w (Some v) vs s hr = found m E3 (bunch_nodes (kind_of s v)) s (λ ns. read_method w ns vs s) hr (λ ns e. read_method_r m w ns vs s hr (bunch_is m s v ns hr e) (bunch_count m s hr v ns e))

pub read_native_r : (m : Sizes) (x0 : ReadNative) (x1 : Option Value) (x2 : List Value) (x3 : ℕ) (x4 : State) → R m x4 → Keeps m (read_native x0 x1 x2 x3 x4)
read_native_r m w this vs d s hr = read_on m w this vs s hr

pub alter_r : (m : Sizes) (extra : ℕ) (b : Value) (s : State) (f : State → State) → R m s → ValueIs m b → ((t : State) → R m t → Stands m (f t)) → Keeps m (alter extra b s f)
alter_r m extra b s f hr hb f0 = charged m _ s _ hr (ended_at m (Is b) (f s) (f0 s hr) (λ n g. value_end n b (value_later m n b g hb)))

pub alter_for_r : (m : Sizes) (extra units nodes : ℕ) (b : Value) (s : State) (f : State → State) → R m s → ValueIs m b → ((t : State) → R m t → Stands m (f t)) → Keeps m (alter_for extra units nodes b s f)
alter_for_r m extra units nodes b s f hr hb f0 = charged m _ s _ hr (paid m (cost units 0 0 nodes) s (λ t. give b (f t)) hr (λ a u due. ended_at m (Is b) (f (with_counts s a)) (f0 (with_counts s a) u) (λ n g. value_end n b (value_later m n b g hb))))

pub append_trees_r : (m : Sizes) (ns ms : List ℕ) (us : Trees) (b : Value) (s : State) → R m s → ValueIs m b → AllByRecursion (MayTake ms s.own.forest) ns → NodesAre m ns → NodesAre m ms → Keeps m (append_trees ns ms us b s)
append_trees_r m ns ms us b s hr hb q hn hm = charged m (length ns * size us) s _ hr (paid m (cost ((length ns - 1) * tree_units us) 0 0 ((length ns - 1) * size us)) s (λ t. give b (appended ns ms t)) hr
    (λ a u due. ended_at m (Is b) (appended ns ms (with_counts s a)) (appended_kept m ns ms (with_counts s a) u q hn hm) (λ n g. value_end n b (value_later m n b g hb))))

pub alter_each_r : (m : Sizes) (f : State → ℕ → State) (ns : List ℕ) (b : Value) (s : State) → R m s → ValueIs m b → ((t : State) (n : ℕ) → R m t → R m (f t n)) → Keeps m (alter_each f ns b s)
alter_each_r m f ns b s hr hb f0 = alter_r m (length ns) b s (λ t. fold f t ns) hr hb (λ t u. stands m _ (fold_kept m f f0 ns t u))

each_change_r : (m : Sizes) (f : Kept → Kept) (ns : List ℕ) (b : Value) (s : State) → R m s → ValueIs m b → ((k : Kept) → KeptIs m k → KeptIs m (f k)) → Keeps m (alter_each (change_kept f) ns b s)
each_change_r m f ns b s hr hb q = alter_each_r m (change_kept f) ns b s hr hb (λ t n u. changed_kept m f t n u q)

pub append_r : (m : Sizes) (x0 : List ℕ) (x1 : Value) (x2 : Value) (x3 : State) → R m x3 → ValueIs m x2 → NodesAre m x0 → Keeps m (append x0 x1 x2 x3)
append_r m ns v b s hr h2 hn = want_bunch_r m v s _ hr (λ ms hm. wanted m E10 (list_all (is_target s ms) ns) s _ hr (λ e. wanted m E10 (list_all is_no_root ms) s _ hr (λ _. append_trees_r m ns ms (subtrees ms s.own.forest) b s hr h2 (targets_take s m.nodes ms ns hr.there.page e) hn hm)))

pub remove_r : (m : Sizes) (x0 : List ℕ) (x1 : Value) (x2 : State) → R m x2 → ValueIs m x1 → Keeps m (remove x0 x1 x2)
remove_r m ns b s hr h1 = wanted m E10 (list_all is_no_root ns) s _ hr (λ _. alter_each_r m (λ t n. with_forest t (detached t.own.forest n)) ns b s hr h1 (λ t n u. removed_kept m t n u))

pub replace_r : (m : Sizes) (x0 : List ℕ) (x1 : Value) (x2 : Value) (x3 : State) → R m x3 → ValueIs m x2 → NodesAre m x0 → Keeps m (replace x0 x1 x2 x3)
replace_r m ns v b s hr h2 hn = want_one_r m ns s _ hr hn (λ n k. want_bunch_r m v s _ hr (λ ms hm. found m E10 (parent n s.own.forest) s (λ p. want E10 (not (has_number ms n) && is_target s ms p) s (alter 1 b s (λ t. with_forest t (detached (fold (moved p (Some n)) t.own.forest ms) n)))) hr (λ p e. wanted m E10 (not (has_number ms n) && is_target s ms p) s _ hr (λ x.
    charged m 1 s _ hr (ended m (Is b) (with_forest s (detached (fold (moved p (Some n)) s.own.forest ms) n))
    (replaced_kept m p n ms s hr (target_takes s m.nodes p ms hr.there.page (both_true (not (has_number ms n)) (is_target s ms p) x).1)) (value_end m b h2))))))

pub set_value_r : (m : Sizes) (x0 : List ℕ) (x1 : List ℕ) (x2 : Value) (x3 : State) → R m x3 → ValueIs m x2 → NodesAre m x0 → Told m (AreUnits x1) → Keeps m (set_value x0 x1 x2 x3)
set_value_r m ns t b s hr h2 hn ht = wanted m E10 (list_all (is_value_target s t) ns) s _ hr (λ e. charged m (length ns) s _ hr (paid m (cost (length ns * length t) 0 0 (count_by (has_new_text s t) ns)) s (λ u. give b (fold (valued t) u ns)) hr
    (λ a u due. ended_at m (Is b) (fold (valued t) (with_counts s a) ns) (each_valued m t ns (with_counts s a) u (all_ready s t ns (λ n. hr.there.page.once n) e) hn ht) (λ n g. value_end n b (value_later m n b g h2)))))

pub set_style_r : (m : Sizes) (x0 : List ℕ) (x1 : List ℕ) (x2 : List ℕ) (x3 : Value) (x4 : State) → R m x4 → ValueIs m x3 → Told m (AreUnits x1) → Told m (AreUnits x2) → Keeps m (set_style x0 x1 x2 x3 x4)
set_style_r m ns p v b s hr h3 hp hv = wanted m E4 (is_listed p && (nat_eq (length v) 0 || is_value v)) s _ hr (λ e. wanted m E10 (list_all (is_element s) ns) s _ hr (λ _. alter_for_r m (length ns) (length ns * length v) 0 b s (λ t. fold (relabel (styled p v)) t ns) hr h3 (λ t u. stands m _ (fold_kept m (relabel (styled p v)) (λ z n y. relabel_kept m (styled p v) z n y (record { holds = λ e l k. styled_is p v l (hp.holds e) (hv.holds e) k })) ns t u))))

pub set_attribute_r : (m : Sizes) (x0 : List ℕ) (x1 : List ℕ) (x2 : List ℕ) (x3 : Value) (x4 : State) → R m x4 → ValueIs m x3 → Told m (AreUnits x2) → Keeps m (set_attribute x0 x1 x2 x3 x4)
set_attribute_r m ns x v b s hr h3 hv = wanted m E10 (list_all (is_element s) ns) s _ hr (λ _. alter_for_r m (length ns) (length ns * length v) 0 b s (λ t. fold (relabel (with_attribute x (Some v))) t ns) hr h3 (λ t u. stands m _ (fold_kept m (relabel (with_attribute x (Some v))) (λ z n y. relabel_kept m (with_attribute x (Some v)) z n y (record { holds = λ e l k. attribute_set x (Some v) l (hv.holds e) k })) ns t u)))

flag_is : (x : List ℕ) (b : Bool) → AreUnits x → MaybeUnits (if b then Some x else None)
flag_is x true h = h
flag_is x false h = tt

pub set_flag_r : (m : Sizes) (x0 : (ℕ → Bool)) (x1 : List ℕ) (x2 : List ℕ) (x3 : Bool) (x4 : Value) (x5 : State) → R m x5 → ValueIs m x4 → AreUnits x2 → Keeps m (set_flag x0 x1 x2 x3 x4 x5)
set_flag_r m test ns x is_set b s hr h4 hx = wanted m E10 (list_all test ns) s _ hr (λ _. alter_each_r m (relabel (with_attribute x (if is_set then Some x else None))) ns b s hr h4
    (λ z n y. relabel_kept m (with_attribute x (if is_set then Some x else None)) z n y (told m (λ l k. attribute_set x (if is_set then Some x else None) l (flag_is x is_set hx) k))))

pub focus_r : (m : Sizes) (x0 : List ℕ) (x1 : Value) (x2 : State) → R m x2 → ValueIs m x1 → NodesAre m x0 → Keeps m (focus x0 x1 x2)
focus_r m ns b s hr h1 hn = want_one_r m ns s _ hr hn (λ n k. alter_r m (length ns) b s (with_focus (Some n)) hr h1 (λ t u. stands m _ (focused m t.own.heap t.own.scopes t.own.kept t.own.timers t.own.forest t.own.focus t.own.counts.slots (Some n) u k)))

pub blur_r : (m : Sizes) (x0 : List ℕ) (x1 : Value) (x2 : State) → R m x2 → ValueIs m x1 → Keeps m (blur x0 x1 x2)
blur_r m ns b s hr h1 = alter_r m (length ns) b s (λ t. with_focus (left_focus t.own.focus ns) t) hr h1 (λ t u. stands m _ (focused m t.own.heap t.own.scopes t.own.kept t.own.timers t.own.forest t.own.focus t.own.counts.slots (left_focus t.own.focus ns) u (left_kept m t.own.focus ns u.there.focused)))

pub listen_r : (m : Sizes) (x0 : List ℕ) (x1 : List ℕ) (x2 : Value) (x3 : Value) (x4 : State) → R m x4 → ValueIs m x2 → ValueIs m x3 → Keeps m (listen x0 x1 x2 x3 x4)
listen_r m ns t f b s hr h2 h3 = wanted m E4 (is_event_type t) s _ hr (λ e. want_function_r m f s _ hr (charged m _ s _ hr (paid m _ s (λ u. give b (fold (change_kept (with_handler t f)) u ns)) hr (λ a u due. ended m (Is b) (fold (change_kept (with_handler t f)) (with_counts s a) ns)
    (fold_kept m (change_kept (with_handler t f)) (λ z n y. changed_kept m (with_handler t f) z n y (λ k q. handler_kept m t f k h2 q)) ns (with_counts s a) u) (value_end m b h3)))))

pub hush_r : (m : Sizes) (x0 : List ℕ) (x1 : Value) (x2 : Value) (x3 : State) → R m x3 → ValueIs m x2 → Keeps m (hush x0 x1 x2 x3)
hush_r m ns Undefined b s hr h2 = each_change_r m (λ k. record k { handlers = [] }) ns b s hr h2 (λ k q. record { handlers = tt; mark = q.mark })
hush_r m ns v b s hr h2 = want_primitives_r m (v ∷ []) s _ hr (wants m E4 (is_event_type (to_text v)) s _ hr
    (each_change_r m (λ k. record k { handlers = filter (λ h. not (bytes_eq h.kind (to_text v))) k.handlers }) ns b s hr h2
    (λ k q. record { handlers = each_filtered {A = Handler} (λ x. x.func < m.objects) _ k.handlers q.handlers; mark = q.mark })))

pub fired_r : (m : Sizes) (x0 : List ℕ) (x1 : List ℕ) (x2 : Value) (x3 : ℕ) (x4 : State) → R m x4 → ValueIs m x2 → NodesAre m x1 → Told m (IsText x0) → Keeps m (fired x0 x1 x2 x3 x4)
fired_r m t [] b d s hr h2 hn ht = ended m (Is b) s hr (value_end m b h2)
fired_r m t (n ∷ ns) b d s hr h2 hn ht = chain m _ _ (dispatch_r m t n Undefined d s hr (undefined_is m) hn.each.0 ht)
    (λ k g o u v q. value k o u _ v q (λ w z. fired_r k t ns b d u v (value_later m k b g h2) (nodes_later m k ns g (record { each = hn.each.1 })) (told_later m k _ g ht)))

pub fire_r : (m : Sizes) (x0 : List ℕ) (x1 : List ℕ) (x2 : Value) (x3 : ℕ) (x4 : State) → R m x4 → ValueIs m x2 → NodesAre m x0 → Told m (IsText x1) → Keeps m (fire x0 x1 x2 x3 x4)
fire_r m ns t b d s hr h2 hn ht = wanted m E4 (is_event_type t) s _ hr (λ e. charged m _ s _ hr (fired_r m t ns b d s hr h2 hn ht))

pub each_called_r : (m : Sizes) (x0 : Value) (x1 : List Value) (x2 : Value) (x3 : ℕ) (x4 : State) → R m x4 → ValueIs m x0 → ValuesAre m x1 → ValueIs m x2 → Keeps m (each_called x0 x1 x2 x3 x4)
each_called_r m f [] b d s hr h0 h1 h2 = ended m (Is b) s hr (value_end m b h2)
each_called_r m f (v ∷ vs) b d s hr h0 h1 h2 = job m _ s _ hr (call_job m f None (v ∷ []) d h0 (no_value m) (more_values m v [] h1.each.0 (no_values m)))
    (λ n g o t u q. value n o t _ u q (λ w z. each_called_r n f vs b d t u (value_later m n f g h0) (values_later m n vs g (record { each = h1.each.1 })) (value_later m n b g h2)))

pub each_r : (m : Sizes) (x0 : List ℕ) (x1 : Value) (x2 : Value) (x3 : ℕ) (x4 : State) → R m x4 → ValueIs m x1 → ValueIs m x2 → NodesAre m x0 → Keeps m (each x0 x1 x2 x3 x4)
each_r m ns f b d s hr h1 h2 hn = want_function_r m f s _ hr (charged m _ s _ hr (paid m _ s (λ t. each_called f (bunches_from (length t.own.heap) ns) b d (fold with_bunch t ns)) hr (λ a u due.
    let n : Sizes = with_more m s (length (bunches ns)) in
    let g : Grows m n = more_grows m s (length (bunches ns)) hr in
    lowered m n _ g (each_called_r n f (bunches_from (length s.own.heap) ns) b d (fold with_bunch (with_counts s a) ns) (bunches_kept m ns (with_counts s a) u (nodes_later m n ns g hn))
    (value_later m n f g h1) (bunch_values n (length s.own.heap) (length ns) (omega (arith, length-map ns (λ i. new_bunch (i ∷ []))))) (value_later m n b g h2)))))

pub write_method_r : (m : Sizes) (x0 : WriteNative) (x1 : List ℕ) (x2 : Value) (x3 : List Value) (x4 : ℕ) (x5 : State) → R m x5 → ValueIs m x2 → ValuesAre m x3 → NodesAre m x1 → Keeps m (write_method x0 x1 x2 x3 x4 x5)
write_method_r m Append ns b vs d s hr h2 h3 hn = append_r m ns (nth 0 vs) b s hr h2 hn
write_method_r m Remove ns b vs d s hr h2 h3 hn = remove_r m ns b s hr h2
write_method_r m Empty ns b vs d s hr h2 h3 hn = alter_each_r m emptied ns b s hr h2 (emptied_kept m)
write_method_r m Replace ns b vs d s hr h2 h3 hn = replace_r m ns (nth 0 vs) b s hr h2 hn
write_method_r m SetValue ns b vs d s hr h2 h3 hn = wanted m E4 (not (list_any is_object (nth 0 vs ∷ []))) s _ hr (λ _. set_value_r m ns (to_text (nth 0 vs)) b s hr h2 hn (units_told m (nth 0 vs) (nth_is m 0 vs h3)))
write_method_r m SetStyle ns b vs d s hr h2 h3 hn = wanted m E4 (not (list_any is_object (nth 0 vs ∷ nth 1 vs ∷ []))) s _ hr (λ _. set_style_r m ns (to_text (nth 0 vs)) (to_text (nth 1 vs)) b s hr h2 (units_told m (nth 0 vs) (nth_is m 0 vs h3)) (units_told m (nth 1 vs) (nth_is m 1 vs h3)))
write_method_r m SetClass ns b vs d s hr h2 h3 hn = wanted m E4 (not (list_any is_object (nth 0 vs ∷ []))) s _ hr (λ _. wanted m E4 (is_plain_words (to_text (nth 0 vs))) s _ hr (λ e. set_attribute_r m ns (codes "class") (to_text (nth 0 vs)) b s hr h2 (units_told m (nth 0 vs) (nth_is m 0 vs h3))))
write_method_r m SetTitle ns b vs d s hr h2 h3 hn = wanted m E4 (not (list_any is_object (nth 0 vs ∷ []))) s _ hr (λ _. set_attribute_r m ns (codes "title") (to_text (nth 0 vs)) b s hr h2 (units_told m (nth 0 vs) (nth_is m 0 vs h3)))
write_method_r m SetCheck ns b vs d s hr h2 h3 hn = set_flag_r m (is_input s) ns (codes "checked") (is_true (nth 0 vs)) b s hr h2 (units_tested (codes "checked") refl)
write_method_r m SetEnabled ns b vs d s hr h2 h3 hn = set_flag_r m (is_field s) ns (codes "disabled") (not (is_true (nth 0 vs))) b s hr h2 (units_tested (codes "disabled") refl)
write_method_r m Focus ns b vs d s hr h2 h3 hn = focus_r m ns b s hr h2 hn
write_method_r m Blur ns b vs d s hr h2 h3 hn = blur_r m ns b s hr h2
write_method_r m On ns b vs d s hr h2 h3 hn = wanted m E4 (not (list_any is_object (nth 0 vs ∷ []))) s _ hr (λ _. listen_r m ns (to_text (nth 0 vs)) (nth 1 vs) b s hr (nth_is m 1 vs h3) h2)
write_method_r m Off ns b vs d s hr h2 h3 hn = hush_r m ns (nth 0 vs) b s hr h2
write_method_r m Fire ns b vs d s hr h2 h3 hn = wanted m E4 (not (list_any is_object (nth 0 vs ∷ []))) s _ hr (λ _. fire_r m ns (to_text (nth 0 vs)) b d s hr h2 hn (text_told m (nth 0 vs) (nth_is m 0 vs h3)))
write_method_r m Each ns b vs d s hr h2 h3 hn = each_r m ns (nth 0 vs) b d s hr (nth_is m 0 vs h3) h2 hn
write_method_r m SetMark ns b vs d s hr h2 h3 hn = wanted m E4 (not (list_any is_object (nth 0 vs ∷ []))) s _ hr (λ _. each_change_r m (λ k. record k { mark = to_text (nth 0 vs) }) ns b s hr h2 (λ k q. record { handlers = q.handlers; mark = (units_told m (nth 0 vs) (nth_is m 0 vs h3)) }))
write_method_r m Protect ns b vs d s hr h2 h3 hn = each_change_r m (λ k. record k { is_protected = true }) ns b s hr h2 (λ k q. record { handlers = q.handlers; mark = q.mark })

pub write_native_r : (m : Sizes) (x0 : WriteNative) (x1 : Option Value) (x2 : List Value) (x3 : ℕ) (x4 : State) → R m x4 → MaybeIs m x1 → ValuesAre m x2 → Keeps m (write_native x0 x1 x2 x3 x4)
write_native_r m w this vs d s hr h1 h2 = on_bunch_r m this s _ hr (λ ns hn. write_method_r m w ns (unwrap_or this Undefined) vs d s hr (or_undefined m this h1) h2 hn)

pub give_node_r : (m : Sizes) (x0 : Label) (x1 : ℕ) (x2 : State) → R m x2 → Told m (LabelHasTexts x0) → Keeps m (give_node x0 x1 x2)
give_node_r m l units s hr hl = paid m (cost units 1 2 1) s (λ t. give (Own (length t.own.heap)) (with_new_cell (with_node l t) (new_bunch (next_node t ∷ [])))) hr (λ a u due.
    let t : State = with_counts s a in
    let ks : List Kept = s.own.kept ++ replicate 1 nothing_kept in
    let n : Sizes = record { objects = m.objects; nodes = length ks; texts = m.texts } in
    lowered m n _ (room_grows m s.own.heap s.own.scopes s.own.kept s.own.timers s.own.forest s.own.focus a.slots 1 u)
    (born_then n (new_bunch (length s.own.kept ∷ [])) (with_node l t) give (node_kept m l t u hl)
    (bunch_cell n _ (record { each = (record { born = omega (arith, length-append s.own.kept (replicate 1 nothing_kept)) }, tt) })) tt (record { room = omega arith; len = tt; count = omega arith })
    (λ k g v y z w. ended k (Is v) y z (value_end k v w))))

pub dom_tag_r : (m : Sizes) (x0 : List ℕ) (x1 : List (List ℕ)) (x2 : State) → R m x2 → Told m (AreUnits x0) → Told m (AreAllUnits x1) → Keeps m (dom_tag x0 x1 x2)
dom_tag_r m tag v s hr ht hv = wanted m E4 (is_listed_tag tag && list_all is_plain_words v) s _ hr (λ e. give_node_r m _ (sum_by length v) s hr
    (record { holds = λ i. (ht.holds i, each_mapped {A = List ℕ} {B = Attribute} AreUnits (λ a. AreUnits a.1) (λ t. (codes "type", t)) (λ t q. q) v (hv.holds i)) }))

given_told : (m : Sizes) (v : Value) → ValueIs m v → Told m (AreAllUnits (given_text v))
given_told m Undefined h = told m tt
given_told m Null h = also m (λ q. (q, tt)) (units_told m Null h)
given_told m (Truth b) h = also m (λ q. (q, tt)) (units_told m (Truth b) h)
given_told m NaN h = also m (λ q. (q, tt)) (units_told m NaN h)
given_told m (Num z) h = also m (λ q. (q, tt)) (units_told m (Num z) h)
given_told m (Text t) h = also m (λ q. (q, tt)) (units_told m (Text t) h)
given_told m (Own n) h = also m (λ q. (q, tt)) (units_told m (Own n) h)
given_told m (Host x) h = also m (λ q. (q, tt)) (units_told m (Host x) h)

pub append_to_root_r : (m : Sizes) (x0 : List ℕ) (x1 : State) → R m x1 → MayTake x0 x1.own.forest root → Keeps m (append_to_root x0 x1)
append_to_root_r m ms s hr ht = charged m (size (subtrees ms s.own.forest)) s _ hr
    (paid m (cost 0 1 2 0) s (λ t. give (Own (length t.own.heap)) (with_new_cell (appended (root ∷ []) ms t) (new_bunch (root ∷ [])))) hr
    (λ a u due. born_then m (new_bunch (root ∷ [])) (appended (root ∷ []) ms (with_counts s a)) give (put_kept m root ms (with_counts s a) u ht) (bunch_cell m _ (record { each = (hr.there.root, tt) })) tt (record { room = omega arith; len = tt; count = omega arith })
    (λ k g v y z w. ended k (Is v) y z (value_end k v w))))

pub dom_append_r : (m : Sizes) (x0 : Value) (x1 : State) → R m x1 → Keeps m (dom_append x0 x1)
dom_append_r m v s hr = want_bunch_r m v s _ hr (λ ms hm. wanted m E10 (list_all (is_target s ms) (root ∷ [])) s _ hr (λ e. append_to_root_r m ms s hr (targets_take s m.nodes ms (root ∷ []) hr.there.page e).0))

pub dom_native_r : (m : Sizes) (x0 : DomNative) (x1 : Option Value) (x2 : List Value) (x3 : ℕ) (x4 : State) → R m x4 → ValuesAre m x2 → Keeps m (dom_native x0 x1 x2 x3 x4)
dom_native_r m DomQuery this vs d s hr h3 = query_r m (root ∷ []) (nth 0 vs) s hr (record { each = (hr.there.root, tt) })
dom_native_r m DomAppend this vs d s hr h3 = dom_append_r m (nth 0 vs) s hr
dom_native_r m DomTag this vs d s hr h3 = wanted m E4 (not (list_any is_object (nth 0 vs ∷ nth 1 vs ∷ []))) s _ hr (λ _. dom_tag_r m (to_text (nth 0 vs)) (given_text (nth 1 vs)) s hr (units_told m (nth 0 vs) (nth_is m 0 vs h3)) (given_told m (nth 1 vs) (nth_is m 1 vs h3)))
dom_native_r m DomText this vs d s hr h3 = wanted m E4 (not (list_any is_object (nth 0 vs ∷ []))) s _ hr (λ _. give_node_r m (TextOf (to_text (nth 0 vs))) (length (to_text (nth 0 vs))) s hr (units_told m (nth 0 vs) (nth_is m 0 vs h3)))

pub run_native_r : (m : Sizes) (x0 : NativeId) (x1 : Option Value) (x2 : List Value) (x3 : ℕ) (x4 : State) → R m x4 → MaybeIs m x1 → ValuesAre m x2 → Keeps m (run_native x0 x1 x2 x3 x4)
run_native_r m (native.Global w) this vs d s hr h1 h2 = global_native_r m w this vs d s hr h2
run_native_r m (native.Math w) this vs d s hr h1 h2 = math_native_r m w this vs d s hr h2
run_native_r m (native.Prototype w) this vs d s hr h1 h2 = prototype_native_r m w this vs d s hr h1
run_native_r m (native.Text w) this vs d s hr h1 h2 = text_native_r m w this vs s hr h1 h2
run_native_r m (native.List w) this vs d s hr h1 h2 = list_native_r m w this vs d s hr h1 h2
run_native_r m (native.Adsafe w) this vs d s hr h1 h2 = adsafe_native_r m w this vs d s hr h2
run_native_r m (native.Dom w) this vs d s hr h1 h2 = dom_native_r m w this vs d s hr h2
run_native_r m (native.Read w) this vs d s hr h1 h2 = read_native_r m w this vs d s hr
run_native_r m (native.Write w) this vs d s hr h1 h2 = write_native_r m w this vs d s hr h1 h2
run_native_r m native.Bubble this vs d s hr h1 h2 = bubble_r m s.dispatches s hr
