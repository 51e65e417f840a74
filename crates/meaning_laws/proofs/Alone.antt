-- What is there stays there over turns, items and the load.
use Rattle.std.proofs.Common.{◌≡◌, ◌∙◌, refl, ℕ, zero, suc, ◌+◌, ◌<◌, ◌≤◌, List, [], ◌∷◌, length, Bool, true, false, sym, subst, arith}
use Rattle.std.specs.Prelude.{codes, nat_lt, nat_le, nat_eq, if◌then◌else◌, Option, Some, None, replicate, slice_get, slice_index_or}
use Rattle.std.specs.List.{AllByRecursion, fold}
use Rattle.std.proofs.lemmas.List.{length-replicate}
use Rattle.js_tree.specs.Plain.{Stmts, Fun}
use Rattle.plain_tree.specs.Trees.{Label, TextOf, ElementOf, Node, size, height, End as NoTrees}
use Rattle.tree_ops.specs.Labels.{with_attribute}
use Rattle.widget_meaning.specs.Limits.{max_units, max_node_depth}
use Rattle.widget_meaning.specs.Values.{Normal, Is, Refers, Return, Break, Continue, Throw, Stop}
use Rattle.widget_meaning.specs.Trees.{Trees, relabelled, label_of, node_at, child_at, first_children}
use Rattle.widget_meaning.specs.OwnState.{OwnState, State, Timer, plain_object, nothing_kept}
use Rattle.widget_meaning.specs.Plan.{Plan, End, Ended, Stopped, OutOfFuel, Job, Ret, Do, Out}
use Rattle.widget_meaning.specs.Meaning.{run_plan, meaning}
use Rattle.widget_meaning.specs.Turns.{begun, turn, end_turn, noted, note_text}
use Rattle.widget_meaning.specs.Dispatch.{nearest, dispatch}
use Rattle.widget_meaning.specs.Items.{Event, Item, Occurs, Advance, item, item_at, live_item, occurs, if_heard, with_value, event_value, due_turns, unless_stopped, on_due, next_due, sooner, without_due, timer_turn, timer_plan, without_timer, resting}
use Rattle.widget_meaning.specs.Alone.{Content, alone_from, beginning, loaded, load_library, library_turn, library_plan, go_turn, go_plan, call_parts}
use Rattle.widget_meaning.proofs.Times.{relabelled_once, times_numbered}
use Rattle.meaning_laws.specs.There.{CellFits, Sizes, sizes_with, Grows, Told, ValueIs, NodeIs, OfNode, CellIs, KeptIs, IsBelow, IsShort, IsThereWith, JobIs, cell_in, OfEnd}
use Rattle.meaning_laws.specs.Texts.{MaybeText, MaybeUnits, LabelHasTexts, StmtsHaveTexts, ContentHasTexts, ItemHasTexts}
use Rattle.meaning_laws.proofs.Scripts.{PartsHaveTexts, parts_are}
use Rattle.meaning_laws.proofs.Labels.{MaybeLabel, attribute_set, label_is, page_relabelled, page_numbered}
use Rattle.meaning_laws.proofs.Later.{same_size, completion_later}
use Rattle.meaning_laws.proofs.Levels.{height_numbered, height_relabelled}
use Rattle.meaning_laws.proofs.Values.{told, own_value, undefined_is, text_is, no_pairs}
use Rattle.meaning_laws.proofs.Steps.{R, Keeps, ended, job, there_later, there_paid, plain_is}
use Rattle.meaning_laws.proofs.Nodes.{InTrees, page_in, tops_in}
use Rattle.meaning_laws.proofs.Forms.{dispatch_r}
use Rattle.meaning_laws.proofs.Jobs.{Comes, run_keeps, timer_plan_r, library_plan_r, go_plan_r}

module _ (texts : Bool) where
  fine : (s : State) → IsThereWith texts s.own → R (sizes_with texts s.own) s
  fine s h = record { there = h; wide = same_size (sizes_with texts s.own) }

  wide : (m : Sizes) (r : Out) → m.texts ≡ texts → (h : Comes m r) → Grows h.size (sizes_with texts r.state.own)
  wide m r e h = record { objects = h.fine.wide.objects; nodes = h.fine.wide.nodes; texts = sym h.grows.texts ∙ e }

  at_rest : (m : Sizes) (r : Out) → m.texts ≡ texts → Comes m r → IsThereWith texts r.state.own
  at_rest m r e h = let s : State = r.state in
      there_later h.size (sizes_with texts s.own) s.own.heap s.own.scopes s.own.kept s.own.timers s.own.forest s.own.focus s.own.counts.slots (wide m r e h) h.fine.there

  end_later : (m n : Sizes) (e : End) → Grows m n → OfEnd m e → OfEnd n e
  end_later m n (Ended o) g h = completion_later m n o g h
  end_later m n (Stopped c) g h = tt
  end_later m n OutOfFuel g h = tt

  comes : (j : Job) (s : State) (g : ℕ) → IsThereWith texts s.own → JobIs (sizes_with texts s.own) j → Comes (sizes_with texts s.own) (meaning j s g)
  comes j s g h q = run_keeps (sizes_with texts s.own) g (Do j s Ret) (job (sizes_with texts s.own) j s Ret (fine s h) q (λ n e o t u w. ended n o t u w))

  pub job_keeps : (j : Job) (s : State) (g : ℕ) → IsThereWith texts s.own → JobIs (sizes_with texts s.own) j → IsThereWith texts (meaning j s g).state.own
  job_keeps j s g h q = at_rest (sizes_with texts s.own) (meaning j s g) refl (comes j s g h q)

  pub job_ends : (j : Job) (s : State) (g : ℕ) → IsThereWith texts s.own → JobIs (sizes_with texts s.own) j → OfEnd (sizes_with texts (meaning j s g).state.own) (meaning j s g).how
  job_ends j s g h q = let c : Comes (sizes_with texts s.own) (meaning j s g) = comes j s g h q in end_later c.size (sizes_with texts (meaning j s g).state.own) (meaning j s g).how (wide (sizes_with texts s.own) (meaning j s g) refl c) c.end

  -- ## Turns

  choose : (b : Bool) (o p : OwnState) → IsThereWith texts o → IsThereWith texts p → IsThereWith texts (if b then o else p)
  choose true o p h k = h
  choose false o p h k = k

  noted_r : (t : List ℕ) (o : OwnState) → IsThereWith texts o → IsThereWith texts (noted t o)
  noted_r t o h = choose (nat_lt max_units (o.counts.units + (length t + 1))) _ _ h
      (there_paid (sizes_with texts o) o.heap o.scopes o.kept o.timers o.forest o.focus o.counts.slots (o.counts.slots + 0) (omega arith) h)

  end_r : (e : End) (s : State) (o : OwnState) → IsThereWith texts o → IsThereWith texts (end_turn e s o)
  end_r (Ended (Throw v)) s o h = noted_r (note_text s v) o h
  end_r (Ended Normal) s o h = h
  end_r (Ended (Is v)) s o h = h
  end_r (Ended (Refers r)) s o h = h
  end_r (Ended (Return v)) s o h = h
  end_r (Ended Break) s o h = h
  end_r (Ended Continue) s o h = h
  end_r (Stopped c) s o h = h
  end_r OutOfFuel s o h = h

  turn_r : (k : State → Plan) (o : OwnState) → Keeps (sizes_with texts o) (k (begun o)) → IsThereWith texts (turn k o)
  turn_r k o f =
      let h : IsThereWith texts (run_plan o.grant (k (begun o))).state.own = at_rest (sizes_with texts o) (run_plan o.grant (k (begun o))) refl (run_keeps (sizes_with texts o) o.grant (k (begun o)) f) in
      end_r (run_plan o.grant (k (begun o))).how (run_plan o.grant (k (begun o))).state _ h

  -- ## Items

  abbrev OfTimer : Sizes → Option Timer → Type 0
  OfTimer m None = Unit {0}
  OfTimer m (Some t) = t.func < m.objects

  due_is : (m : Sizes) (limit : ℕ) (ts : List Timer) → AllByRecursion (λ t. t.func < m.objects) ts → OfTimer m (next_due limit ts)
  due_is m limit [] h = tt
  due_is m limit (t ∷ ts) h = by (nat_le t.due limit) (next_due limit ts) (due_is m limit ts h.1)
    where
      either : (b : Bool) (u : Timer) → u.func < m.objects → OfTimer m (if b then Some t else Some u)
      either true u k = h.0
      either false u k = k

      by : (b : Bool) (o : Option Timer) → OfTimer m o → OfTimer m (sooner (if b then Some t else None) o)
      by true None k = h.0
      by true (Some u) k = either (nat_le t.due u.due) u k
      by false None k = k
      by false (Some u) k = k

  left_are : (m : Sizes) (d : ℕ) (ts : List Timer) → AllByRecursion (λ t. t.func < m.objects) ts → AllByRecursion (λ t. t.func < m.objects) (without_due d ts)
  left_are m d [] h = tt
  left_are m d (t ∷ ts) h = by (nat_eq t.due d) (left_are m d ts h.1)
    where
      by : (b : Bool) → AllByRecursion (λ u. u.func < m.objects) (without_due d ts) → AllByRecursion (λ u. u.func < m.objects) (if b then ts else t ∷ without_due d ts)
      by true k = h.1
      by false k = (h.0, k)

  without_r : (t : Timer) (o : OwnState) → IsThereWith texts o → IsThereWith texts (without_timer t o)
  without_r t o h = record {
    objects = h.objects;
    older = h.older;
    chains = h.chains;
    scopes = h.scopes;
    kept = h.kept;
    timers = left_are (sizes_with texts o) t.due o.timers h.timers;
    page = h.page;
    low = h.low;
    focused = h.focused;
    labels = h.labels;
    fits = h.fits;
    lib = h.lib;
    root = h.root;
  }

  unless_r : (c : Option Stop) (o : OwnState) (f : OwnState → OwnState) → IsThereWith texts o → ((p : OwnState) → IsThereWith texts p → IsThereWith texts (f p)) → IsThereWith texts (unless_stopped c o f)
  unless_r None o f h k = k o h
  unless_r (Some c) o f h k = h

  due_r : (t : Option Timer) (limit : ℕ) (o : OwnState) (f : OwnState → OwnState) → OfTimer (sizes_with texts o) t → IsThereWith texts o → ((p : OwnState) → IsThereWith texts p → IsThereWith texts (f p)) → IsThereWith texts (on_due t limit o f)
  due_r None limit o f q h k = h
  due_r (Some t) limit o f q h k = k (timer_turn t o) (turn_r (timer_plan t) (without_timer t o) (timer_plan_r (sizes_with texts o) t (begun (without_timer t o)) (fine (begun (without_timer t o)) (without_r t o h)) q))

  dues_r : (n limit : ℕ) (o : OwnState) → IsThereWith texts o → IsThereWith texts (due_turns n limit o)
  dues_r zero limit o h = h
  dues_r (suc n) limit o h = unless_r o.stop o (λ p. on_due (next_due limit p.timers) limit p (due_turns n limit)) h
      (λ p k. due_r (next_due limit p.timers) limit p (due_turns n limit) (due_is (sizes_with texts p) limit p.timers k.timers) k (dues_r n limit))

  labelled : (o : OwnState) (n : ℕ) (l : Label) → IsThereWith texts o → (texts ≡ true → LabelHasTexts l) → IsThereWith texts (record o { forest = relabelled n l o.forest })
  labelled o n l h k = record {
    objects = h.objects;
    older = h.older;
    chains = h.chains;
    scopes = h.scopes;
    kept = h.kept;
    timers = h.timers;
    page = relabelled_once o.forest (length o.kept) n l h.page;
    low = subst (λ x. x ≤ max_node_depth + 1) (sym (height_relabelled n l o.forest)) h.low;
    focused = h.focused;
    labels = record { holds = λ e. page_relabelled n l o.forest (k e) (h.labels.holds e) };
    fits = h.fits;
    lib = h.lib;
    root = h.root;
  }

  maybe_units : (o : Option (List ℕ)) → MaybeText o → MaybeUnits o
  maybe_units None h = tt
  maybe_units (Some t) h = h.0

  value_r : (l : Option Label) (n : ℕ) (v : Option (List ℕ)) (o : OwnState) → IsThereWith texts o → (texts ≡ true → MaybeLabel l) → (texts ≡ true → MaybeUnits v) → IsThereWith texts (with_value l n v o)
  value_r None n v o h hl hv = h
  value_r (Some (TextOf t)) n v o h hl hv = h
  value_r (Some (ElementOf tag attrs)) n None o h hl hv = h
  value_r (Some (ElementOf tag attrs)) n (Some v) o h hl hv = choose _ _ o (labelled o n (with_attribute (codes "value") (Some v) (ElementOf tag attrs)) h (λ e. attribute_set (codes "value") (Some v) (ElementOf tag attrs) (hv e) (hl e))) h

  heard_r : (x : Option (ℕ × List ℕ)) (k : State → Plan) (o : OwnState) → IsThereWith texts o → Keeps (sizes_with texts o) (k (begun o)) → IsThereWith texts (if_heard x k o)
  heard_r None k o h f = h
  heard_r (Some x) k o h f = turn_r k o f

  event_is : (m : Sizes) (v : Option (List ℕ)) → Told m (MaybeText v) → ValueIs m (event_value v)
  event_is m None h = undefined_is m
  event_is m (Some t) h = text_is m t h

  -- the number of the node at a path
  module _ (P : ℕ → Type 0) where
    child_in : (i : ℕ) (ts : Trees) → InTrees P ts → InTrees P (child_at i ts)
    child_in i NoTrees h = tt
    child_in zero (Node n l ks ts) h = (h.0, (h.1.0, tt))
    child_in (suc i) (Node n l ks ts) h = child_in i ts h.1.1

    below_in : (ts : Trees) → InTrees P ts → InTrees P (first_children ts)
    below_in NoTrees h = tt
    below_in (Node n l ks ts) h = h.1.0

    path_in : (path : List ℕ) (ts : Trees) → InTrees P ts → InTrees P (fold (λ t i. child_at i (first_children t)) ts path)
    path_in [] ts h = h
    path_in (i ∷ path) ts h = path_in path (child_at i (first_children ts)) (child_in i (first_children ts) (below_in ts h))

  abbrev OfFirst : (ℕ → Type 0) → Option ℕ → Type 0
  OfFirst P None = Unit {0}
  OfFirst P (Some n) = P n

  first_in : (P : ℕ → Type 0) (ns : List ℕ) → AllByRecursion P ns → OfFirst P (slice_get ns 0)
  first_in P [] h = tt
  first_in P (n ∷ ns) h = h.0

  target_is : (o : OwnState) (path : List ℕ) → IsThereWith texts o → OfNode (sizes_with texts o) (node_at o.forest path)
  target_is o path h = by (node_at o.forest path) (first_in (λ i. i < length o.kept) _ (tops_in (λ i. i < length o.kept) _ (path_in (λ i. i < length o.kept) path (child_at 0 o.forest)
      (child_in (λ i. i < length o.kept) 0 o.forest (page_in (sizes_with texts o) (resting o) (fine (resting o) h))))))
    where
      by : (x : Option ℕ) → OfFirst (λ i. i < length o.kept) x → OfNode (sizes_with texts o) x
      by None k = tt
      by (Some n) k = record { born = k }

  same_kept : (l : Option Label) (n : ℕ) (v : Option (List ℕ)) (o : OwnState) (i : ℕ) → NodeIs (sizes_with texts o) i → NodeIs (sizes_with texts (with_value l n v o)) i
  same_kept None n v o i h = h
  same_kept (Some (TextOf t)) n v o i h = h
  same_kept (Some (ElementOf tag attrs)) n None o i h = h
  same_kept (Some (ElementOf tag attrs)) n (Some v) o i h = by _
    where
      by : (b : Bool) → NodeIs (sizes_with texts (if b then record o { forest = relabelled n (with_attribute (codes "value") (Some v) (ElementOf tag attrs)) o.forest } else o)) i
      by true = h
      by false = h

  occurs_r : (e : Event) (n : Option ℕ) (o : OwnState) → OfNode (sizes_with texts o) n → IsThereWith texts o → (texts ≡ true → ItemHasTexts (Occurs e)) → IsThereWith texts (occurs e n o)
  occurs_r e None o q h k = h
  occurs_r e (Some n) o q h k =
      let p : OwnState = with_value (label_of n o.forest) n e.value o in
      let i : IsThereWith texts p = value_r (label_of n o.forest) n e.value o h (λ z. label_is n o.forest (h.labels.holds z)) (λ z. maybe_units e.value (k z).1) in
      heard_r (nearest (resting p) (Some n) e.kind) (dispatch e.kind n (event_value e.value) 0) p i
      (dispatch_r (sizes_with texts p) e.kind n (event_value e.value) 0 (begun p) (fine (begun p) i) (event_is (sizes_with texts p) e.value (record { holds = λ z. (k z).1 }))
      (same_kept (label_of n o.forest) n e.value o n q) (record { holds = λ z. (k z).0 }))

  live_r : (o : OwnState) (i : Item) → IsThereWith texts o → (texts ≡ true → ItemHasTexts i) → IsThereWith texts (live_item o i)
  live_r o (Occurs e) h k = occurs_r e (node_at o.forest e.path) o (target_is o e.path h) h k
  live_r o (Advance d) h k = dues_r _ _ o h

  item_r : (c : Option Stop) (o : OwnState) (i : Item) → IsThereWith texts o → (texts ≡ true → ItemHasTexts i) → IsThereWith texts (item_at c o i)
  item_r None o i h k = live_r o i h k
  item_r (Some c) o (Occurs e) h k = h
  item_r (Some c) o (Advance d) h k = h

  pub items_r : (o : OwnState) (is : List Item) → IsThereWith texts o → (texts ≡ true → AllByRecursion ItemHasTexts is) → IsThereWith texts (alone_from o is)
  items_r o [] h k = h
  items_r o (i ∷ is) h k = items_r (item o i) is (item_r o.stop o i h (λ z. (k z).0)) (λ z. (k z).1)

  -- ## The load

  library_r : (x : Option (List ℕ × Fun)) (o : OwnState) → IsThereWith texts o → (texts ≡ true → PartsHaveTexts x) → IsThereWith texts (library_turn x o)
  library_r None o h k = h
  library_r (Some (x, f)) o h k = turn_r (library_plan x f) o (library_plan_r (sizes_with texts o) x f (begun o) (fine (begun o) h) (record { holds = λ z. (k z).0 }) (record { holds = λ z. (k z).1 }))

  go_r : (x : Option (List ℕ × Fun)) (o : OwnState) → IsThereWith texts o → (texts ≡ true → PartsHaveTexts x) → IsThereWith texts (go_turn x o)
  go_r None o h k = h
  go_r (Some (x, f)) o h k = turn_r (go_plan f) o (go_plan_r (sizes_with texts o) f (begun o) (fine (begun o) h) (record { holds = λ z. (k z).1 }))

  libraries_r : (ls : List Stmts) (o : OwnState) → IsThereWith texts o → (texts ≡ true → AllByRecursion StmtsHaveTexts ls) → IsThereWith texts (fold load_library o ls)
  libraries_r [] o h k = h
  libraries_r (l ∷ ls) o h k = libraries_r ls (load_library o l) (unless_r o.stop o (library_turn (call_parts l)) h (λ p i. library_r (call_parts l) p i (λ z. parts_are l (k z).0))) (λ z. (k z).1)

  -- the widget before its first turn
  module _ (w : Content) (grant : ℕ) (some : 1 ≤ size w.root) (lows : height w.root ≤ max_node_depth + 1) (content : texts ≡ true → ContentHasTexts w) where
    nothing_names : (n : ℕ) → KeptIs (sizes_with texts (beginning w grant)) (slice_index_or (replicate (size w.root) nothing_kept) n nothing_kept)
    nothing_names n = by (size w.root) n
      where
        by : (k i : ℕ) → KeptIs (sizes_with texts (beginning w grant)) (slice_index_or (replicate k nothing_kept) i nothing_kept)
        by zero i = record { handlers = tt; mark = told (sizes_with texts (beginning w grant)) tt }
        by (suc k) zero = record { handlers = tt; mark = told (sizes_with texts (beginning w grant)) tt }
        by (suc k) (suc i) = by k i

    begins : IsThereWith texts (beginning w grant)
    begins = record {
      objects = λ n. one n;
      older = λ n. old n;
      chains = λ n. short n;
      scopes = λ n. no_pairs (sizes_with texts (beginning w grant));
      kept = nothing_names;
      timers = tt;
      page = record {
        once = λ n. (times_numbered n 0 w.root).once;
        there = λ n h. (times_numbered n 0 w.root).past (omega (arith, h, length-replicate (size w.root) nothing_kept));
      };
      focused = tt;
      labels = record { holds = λ e. page_numbered 0 w.root (content e).page };
      fits = λ n. plain_fits n;
      low = subst (λ x. x ≤ max_node_depth + 1) (sym (height_numbered 0 w.root)) lows;
      lib = own_value (sizes_with texts (beginning w grant)) 0 (omega arith);
      root = record { born = omega (arith, some, length-replicate (size w.root) nothing_kept) };
    }
      where
        plain_fits : (n : ℕ) → CellFits 0 (cell_in (plain_object [] ∷ []) n)
        plain_fits zero = record { room = omega arith; len = tt; count = tt }
        plain_fits (suc n) = record { room = omega arith; len = tt; count = tt }

        one : (n : ℕ) → CellIs (sizes_with texts (beginning w grant)) (cell_in (plain_object [] ∷ []) n)
        one zero = plain_is (sizes_with texts (beginning w grant)) [] (no_pairs (sizes_with texts (beginning w grant))) (told (sizes_with texts (beginning w grant)) tt)
        one (suc n) = plain_is (sizes_with texts (beginning w grant)) [] (no_pairs (sizes_with texts (beginning w grant))) (told (sizes_with texts (beginning w grant)) tt)

        old : (n : ℕ) → IsBelow n (cell_in (plain_object [] ∷ []) n).prototype
        old zero = tt
        old (suc n) = tt

        short : (n : ℕ) → IsShort 100 (plain_object [] ∷ []) (Some (cell_in (plain_object [] ∷ []) n).prototype)
        short zero = tt
        short (suc n) = tt

    pub loaded_r : IsThereWith texts (loaded w grant)
    loaded_r =
        let o : OwnState = fold load_library (beginning w grant) w.libraries in
        unless_r o.stop o (go_turn (call_parts w.script)) (libraries_r w.libraries (beginning w grant) begins (λ e. (content e).libraries)) (λ p k. go_r (call_parts w.script) p k (λ e. parts_are w.script (content e).script))
