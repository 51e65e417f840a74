-- The counts only rise, and stay within their limits.
use Rattle.std.proofs.Common.{◌≡◌, ℕ, zero, suc, ◌+◌, ◌≤◌, List, [], ◌∷◌, length, Bool, true, false, refl, arith}
use Rattle.std.specs.Prelude.{nat_lt, if◌then◌else◌, Option, Some, None}
use Rattle.std.specs.List.{fold}
use Rattle.js_tree.specs.Plain.{Stmts, Fun}
use Rattle.std.proofs.lemmas.Bool.{ltb-false}
use Rattle.widget_meaning.specs.Limits.{max_units, max_nodes}
use Rattle.widget_meaning.specs.Values.{Normal, Is, Refers, Return, Break, Continue, Throw, Stop}
use Rattle.plain_tree.specs.Trees.{size, Label, TextOf, ElementOf}
use Rattle.widget_meaning.specs.Trees.{label_of, node_at}
use Rattle.widget_meaning.specs.OwnState.{Amounts, OwnState, State, Timer}
use Rattle.widget_meaning.specs.Plan.{Plan, End, Ended, Stopped, OutOfFuel, Job, Eval, Target, Exec, Pass, Call, RunNative, Hear}
use Rattle.widget_meaning.specs.Meaning.{run_plan}
use Rattle.widget_meaning.specs.Turns.{begun, turn, end_turn, noted, note_text}
use Rattle.widget_meaning.specs.Dispatch.{nearest, dispatch}
use Rattle.widget_meaning.specs.Items.{Event, Item, Occurs, Advance, item, item_at, live_item, stopped_item, occurs, if_heard, with_value, event_value, due_turns, unless_stopped, on_due, next_due, timer_turn, timer_plan, without_timer, resting}
use Rattle.widget_meaning.specs.Alone.{Content, alone_from, beginning, loaded, load_library, library_turn, library_plan, go_turn, go_plan, call_parts}
use Rattle.widget_meaning.specs.Ways.{ByValue}
use Rattle.widget_meaning.specs.Keeps.{Invariant, HoldsOf, JobOf, Keeps, FitsLimits}
use Rattle.widget_meaning.specs.Counts.{Risen, CountLaws}
use Rattle.widget_meaning.proofs.Keeping.{none, no_links, no_pages}
use Rattle.widget_meaning.proofs.KeepingRuns.{run_keeps, job_keeps}
use Rattle.widget_meaning.proofs.KeepingForms.{dispatch_r}
use Rattle.widget_meaning.proofs.KeepingJobs.{timer_plan_r, library_plan_r, go_plan_r}

at_least : (m n k : ℕ) → m ≤ n → m ≤ n + k
at_least m n k h = omega arith

-- counts that are risen
abbrev counting : Amounts → Invariant
counting start = record {
  Holds = λ c ts clock. Risen start c;
  paid = λ c cost ts clock h f. record {
    units = at_least start.units c.units cost.units h.units;
    cells = at_least start.cells c.cells cost.cells h.cells;
    slots = at_least start.slots c.slots cost.slots h.slots;
    nodes = at_least start.nodes c.nodes cost.nodes h.nodes;
    within = f;
  };
  started = λ c ts clock t h l d. h;
  links = no_links;
  pages = no_pages;
}

fine_counts : (start : Amounts) (s : State) → Risen start s.own.counts → HoldsOf (counting start) 0 s
fine_counts start s h = record { holds = h; linked = tt; page = tt; wide = none (length s.own.scopes) }

module _ (start : Amounts) where
  -- a turn
  unless : (b : Bool) (o p : OwnState) → Risen start o.counts → (b ≡ false → Risen start p.counts) → Risen start (if b then o else p).counts
  unless true o p h f = h
  unless false o p h f = f refl

  grown : (m n k : ℕ) → m ≤ n → m ≤ n + k
  grown m n k h = omega arith

  plus_zero : (m n : ℕ) → m ≤ n → m + 0 ≤ n
  plus_zero m n h = omega arith

  noted_r : (t : List ℕ) (o : OwnState) → Risen start o.counts → Risen start (noted t o).counts
  noted_r t o h = unless (nat_lt max_units (o.counts.units + (length t + 1))) _ _ h (λ e. record {
    units = grown start.units o.counts.units (length t + 1) h.units;
    cells = grown start.cells o.counts.cells 0 h.cells;
    slots = grown start.slots o.counts.slots 0 h.slots;
    nodes = grown start.nodes o.counts.nodes 0 h.nodes;
    within = record {
      units = ltb-false max_units (o.counts.units + (length t + 1)) e;
      cells = plus_zero o.counts.cells _ h.within.cells;
      slots = plus_zero o.counts.slots _ h.within.slots;
      nodes = plus_zero o.counts.nodes _ h.within.nodes;
    };
  })

  end_r : (e : End) (s : State) (o : OwnState) → Risen start o.counts → Risen start (end_turn e s o).counts
  end_r (Ended (Throw v)) s o h = noted_r (note_text s v) o h
  end_r (Ended Normal) s o h = h
  end_r (Ended (Is v)) s o h = h
  end_r (Ended (Refers r)) s o h = h
  end_r (Ended (Return v)) s o h = h
  end_r (Ended Break) s o h = h
  end_r (Ended Continue) s o h = h
  end_r (Stopped c) s o h = h
  end_r OutOfFuel s o h = h

  turn_r : (k : State → Plan) (o : OwnState) → Keeps (counting start) 0 ByValue (k (begun o)) → Risen start (turn k o).counts
  turn_r k o f = end_r (run_plan o.grant (k (begun o))).how (run_plan o.grant (k (begun o))).state _ (run_keeps (counting start) 0 ByValue o.grant (k (begun o)) f).holds

  -- items
  unless_r : (c : Option Stop) (o : OwnState) (f : OwnState → OwnState) → Risen start o.counts → ((p : OwnState) → Risen start p.counts → Risen start (f p).counts) → Risen start (unless_stopped c o f).counts
  unless_r None o f h k = k o h
  unless_r (Some c) o f h k = h

  due_r : (t : Option Timer) (limit : ℕ) (o : OwnState) (f : OwnState → OwnState) → Risen start o.counts → ((p : OwnState) → Risen start p.counts → Risen start (f p).counts) → Risen start (on_due t limit o f).counts
  due_r None limit o f h k = h
  due_r (Some t) limit o f h k = k (timer_turn t o) (turn_r (timer_plan t) (without_timer t o) (timer_plan_r (counting start) 0 t (begun (without_timer t o)) (fine_counts start (begun (without_timer t o)) h)))

  dues_r : (n limit : ℕ) (o : OwnState) → Risen start o.counts → Risen start (due_turns n limit o).counts
  dues_r zero limit o h = h
  dues_r (suc n) limit o h = unless_r o.stop o (λ p. on_due (next_due limit p.timers) limit p (due_turns n limit)) h (λ p k. due_r (next_due limit p.timers) limit p (due_turns n limit) k (dues_r n limit))

  choose : (b : Bool) (o p : OwnState) → Risen start o.counts → Risen start p.counts → Risen start (if b then o else p).counts
  choose true o p h k = h
  choose false o p h k = k

  value_r : (l : Option Label) (n : ℕ) (v : Option (List ℕ)) (o : OwnState) → Risen start o.counts → Risen start (with_value l n v o).counts
  value_r None n v o h = h
  value_r (Some (TextOf t)) n v o h = h
  value_r (Some (ElementOf tag attrs)) n None o h = h
  value_r (Some (ElementOf tag attrs)) n (Some v) o h = choose _ _ o h h

  heard_r : (x : Option (ℕ × List ℕ)) (k : State → Plan) (o : OwnState) → Risen start o.counts → Keeps (counting start) 0 ByValue (k (begun o)) → Risen start (if_heard x k o).counts
  heard_r None k o h f = h
  heard_r (Some x) k o h f = turn_r k o f

  occurs_r : (e : Event) (n : Option ℕ) (o : OwnState) → Risen start o.counts → Risen start (occurs e n o).counts
  occurs_r e None o h = h
  occurs_r e (Some n) o h =
      let p : OwnState = with_value (label_of n o.forest) n e.value o in
      let k : Risen start p.counts = value_r (label_of n o.forest) n e.value o h in
      heard_r (nearest (resting p) (Some n) e.kind) (dispatch e.kind n (event_value e.value) 0) p k (dispatch_r (counting start) 0 e.kind n (event_value e.value) 0 (begun p) (fine_counts start (begun p) k))

  live_r : (o : OwnState) (i : Item) → Risen start o.counts → Risen start (live_item o i).counts
  live_r o (Occurs e) h = occurs_r e (node_at o.forest e.path) o h
  live_r o (Advance d) h = dues_r _ _ o h

  stopped_r : (o : OwnState) (i : Item) → Risen start o.counts → Risen start (stopped_item o i).counts
  stopped_r o (Occurs e) h = h
  stopped_r o (Advance d) h = h

  item_r : (c : Option Stop) (o : OwnState) (i : Item) → Risen start o.counts → Risen start (item_at c o i).counts
  item_r None o i h = live_r o i h
  item_r (Some c) o i h = stopped_r o i h

  items_r : (is : List Item) (o : OwnState) → Risen start o.counts → Risen start (alone_from o is).counts
  items_r [] o h = h
  items_r (i ∷ is) o h = items_r is (item o i) (item_r o.stop o i h)

  -- the load
  library_r : (x : Option (List ℕ × Fun)) (o : OwnState) → Risen start o.counts → Risen start (library_turn x o).counts
  library_r None o h = h
  library_r (Some (x, f)) o h = turn_r (library_plan x f) o (library_plan_r (counting start) 0 x f (begun o) (fine_counts start (begun o) h))

  go_r : (x : Option (List ℕ × Fun)) (o : OwnState) → Risen start o.counts → Risen start (go_turn x o).counts
  go_r None o h = h
  go_r (Some (x, f)) o h = turn_r (go_plan f) o (go_plan_r (counting start) 0 f (begun o) (fine_counts start (begun o) h))

  libraries_r : (ls : List Stmts) (o : OwnState) → Risen start o.counts → Risen start (fold load_library o ls).counts
  libraries_r [] o h = h
  libraries_r (l ∷ ls) o h = libraries_r ls (load_library o l) (unless_r o.stop o (library_turn (call_parts l)) h (λ p k. library_r (call_parts l) p k))

  loaded_r : (w : Content) (grant : ℕ) → Risen start (beginning w grant).counts → Risen start (loaded w grant).counts
  loaded_r w grant h =
      let o : OwnState = fold load_library (beginning w grant) w.libraries in
      unless_r o.stop o (go_turn (call_parts w.script)) (libraries_r w.libraries (beginning w grant) h) (λ p k. go_r (call_parts w.script) p k)

self : (n : ℕ) → n ≤ n
self n = omega arith

-- counts are risen from themselves
risen_from : (c : Amounts) → FitsLimits c → Risen c c
risen_from c f = record { units = self c.units; cells = self c.cells; slots = self c.slots; nodes = self c.nodes; within = f }

begins : (w : Content) (grant : ℕ) → size w.root ≤ max_nodes → FitsLimits (beginning w grant).counts
begins w grant h = record { units = omega arith; cells = omega arith; slots = omega arith; nodes = h }

any_job : (c : Amounts) (j : Job) → JobOf (counting c) 0 j
any_job c (Eval e p) = tt
any_job c (Target e p) = tt
any_job c (Exec i p) = tt
any_job c (Pass l p) = tt
any_job c (Call f this vs d) = tt
any_job c (RunNative f this vs d) = tt
any_job c (Hear h) = tt

pub count_laws : CountLaws
count_laws = record {
  jobs = λ j s g w. (job_keeps (counting s.own.counts) 0 j s g (fine_counts s.own.counts s (risen_from s.own.counts w)) (any_job s.own.counts j)).holds;
  items = λ o is w. items_r o.counts is o (risen_from o.counts w);
  whole = λ w grant is h. let a : Amounts = (beginning w grant).counts in (items_r a is (loaded w grant) (loaded_r a w grant (risen_from a (begins w grant h)))).within;
}
