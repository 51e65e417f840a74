-- What objects and scopes, and what the page is, stays so over turns, items and the load.
use Rattle.std.proofs.Common.{ℕ, zero, suc, ◌+◌, ◌≤◌, List, [], ◌∷◌, length, Bool, true, false, arith}
use Rattle.std.specs.Prelude.{codes, nat_lt, if◌then◌else◌, Option, Some, None}
use Rattle.std.specs.List.{fold}
use Rattle.js_tree.specs.Plain.{Stmts, Fun}
use Rattle.tree_ops.specs.Labels.{with_attribute}
use Rattle.widget_meaning.specs.Limits.{max_units}
use Rattle.widget_meaning.specs.Values.{Normal, Is, Refers, Return, Break, Continue, Throw, Stop}
use Rattle.plain_tree.specs.Trees.{Label, TextOf, ElementOf}
use Rattle.widget_meaning.specs.Trees.{Trees, label_of, node_at}
use Rattle.widget_meaning.specs.OwnState.{OwnState, State, Timer, Cell, Scope}
use Rattle.widget_meaning.specs.Plan.{Plan, End, Ended, Stopped, OutOfFuel}
use Rattle.widget_meaning.specs.Meaning.{run_plan}
use Rattle.widget_meaning.specs.Turns.{begun, turn, end_turn, noted, note_text}
use Rattle.widget_meaning.specs.Dispatch.{nearest, dispatch}
use Rattle.widget_meaning.specs.Items.{Event, Item, Occurs, Advance, item, item_at, live_item, occurs, if_heard, with_value, event_value, due_turns, unless_stopped, on_due, next_due, timer_turn, timer_plan, without_timer, resting}
use Rattle.widget_meaning.specs.Alone.{Content, alone_from, beginning, loaded, load_library, library_turn, library_plan, go_turn, go_plan, call_parts}
use Rattle.widget_meaning.specs.Ways.{ByValue}
use Rattle.widget_meaning.specs.Keeps.{Links, Pages, Invariant, HoldsOf, Keeps}
use Rattle.widget_meaning.proofs.KeepingRuns.{run_keeps}
use Rattle.widget_meaning.proofs.KeepingForms.{dispatch_r}
use Rattle.widget_meaning.proofs.KeepingJobs.{timer_plan_r, library_plan_r, go_plan_r}

-- no counts and no timers are looked at
abbrev pub standing : Links → Pages → Invariant
standing lk pg = record {
  Holds = λ c ts clock. Unit {0};
  paid = λ c cost ts clock h f. tt;
  started = λ c ts clock t h l d. tt;
  links = lk;
  pages = pg;
}

from_none : (m n : ℕ) → m ≤ 0 → m ≤ n
from_none m n h = omega arith

-- of an own state
pub record Stands (lk : Links) (pg : Pages) (hs : List Cell) (cs : List Scope) (ts : Trees) (k : ℕ) : Type 0 where
  pub linked : lk.Linked hs cs
  pub page : pg.Page ts k

module _ (lk : Links) (pg : Pages) where
  abbrev inv : Invariant
  inv = standing lk pg

  abbrev pub Of : OwnState → Type 0
  Of o = Stands lk pg o.heap o.scopes o.forest (length o.kept)

  pub fine : (s : State) → Of s.own → HoldsOf inv 0 s
  fine s h = record { holds = tt; linked = h.linked; page = h.page; wide = from_none (lk.asked 0) (length s.own.scopes) (lk.enough 0) }

  -- turns
  choose : (b : Bool) (o p : OwnState) → Of o → Of p → Of (if b then o else p)
  choose true o p h k = h
  choose false o p h k = k

  noted_r : (t : List ℕ) (o : OwnState) → Of o → Of (noted t o)
  noted_r t o h = choose (nat_lt max_units (o.counts.units + (length t + 1))) _ _ h h

  end_r : (e : End) (s : State) (o : OwnState) → Of o → Of (end_turn e s o)
  end_r (Ended (Throw v)) s o h = noted_r (note_text s v) o h
  end_r (Ended Normal) s o h = h
  end_r (Ended (Is v)) s o h = h
  end_r (Ended (Refers r)) s o h = h
  end_r (Ended (Return v)) s o h = h
  end_r (Ended Break) s o h = h
  end_r (Ended Continue) s o h = h
  end_r (Stopped c) s o h = h
  end_r OutOfFuel s o h = h

  turn_r : (k : State → Plan) (o : OwnState) → Keeps inv 0 ByValue (k (begun o)) → Of (turn k o)
  turn_r k o f =
      let h : HoldsOf inv 0 (run_plan o.grant (k (begun o))).state = run_keeps inv 0 ByValue o.grant (k (begun o)) f in
      end_r (run_plan o.grant (k (begun o))).how (run_plan o.grant (k (begun o))).state _ (record { linked = h.linked; page = h.page })

  -- items
  unless_r : (c : Option Stop) (o : OwnState) (f : OwnState → OwnState) → Of o → ((p : OwnState) → Of p → Of (f p)) → Of (unless_stopped c o f)
  unless_r None o f h k = k o h
  unless_r (Some c) o f h k = h

  due_r : (t : Option Timer) (limit : ℕ) (o : OwnState) (f : OwnState → OwnState) → Of o → ((p : OwnState) → Of p → Of (f p)) → Of (on_due t limit o f)
  due_r None limit o f h k = h
  due_r (Some t) limit o f h k = k (timer_turn t o) (turn_r (timer_plan t) (without_timer t o) (timer_plan_r inv 0 t (begun (without_timer t o)) (fine (begun (without_timer t o)) h)))

  dues_r : (n limit : ℕ) (o : OwnState) → Of o → Of (due_turns n limit o)
  dues_r zero limit o h = h
  dues_r (suc n) limit o h = unless_r o.stop o (λ p. on_due (next_due limit p.timers) limit p (due_turns n limit)) h (λ p k. due_r (next_due limit p.timers) limit p (due_turns n limit) k (dues_r n limit))

  value_r : (l : Option Label) (n : ℕ) (v : Option (List ℕ)) (o : OwnState) → Of o → Of (with_value l n v o)
  value_r None n v o h = h
  value_r (Some (TextOf t)) n v o h = h
  value_r (Some (ElementOf tag attrs)) n None o h = h
  value_r (Some (ElementOf tag attrs)) n (Some v) o h =
      choose _ _ o (record { linked = h.linked; page = pg.labelled o.forest (length o.kept) n (with_attribute (codes "value") (Some v) (ElementOf tag attrs)) h.page }) h

  heard_r : (x : Option (ℕ × List ℕ)) (k : State → Plan) (o : OwnState) → Of o → Keeps inv 0 ByValue (k (begun o)) → Of (if_heard x k o)
  heard_r None k o h f = h
  heard_r (Some x) k o h f = turn_r k o f

  occurs_r : (e : Event) (n : Option ℕ) (o : OwnState) → Of o → Of (occurs e n o)
  occurs_r e None o h = h
  occurs_r e (Some n) o h =
      let p : OwnState = with_value (label_of n o.forest) n e.value o in
      let k : Of p = value_r (label_of n o.forest) n e.value o h in
      heard_r (nearest (resting p) (Some n) e.kind) (dispatch e.kind n (event_value e.value) 0) p k (dispatch_r inv 0 e.kind n (event_value e.value) 0 (begun p) (fine (begun p) k))

  live_r : (o : OwnState) (i : Item) → Of o → Of (live_item o i)
  live_r o (Occurs e) h = occurs_r e (node_at o.forest e.path) o h
  live_r o (Advance d) h = dues_r _ _ o h

  item_r : (c : Option Stop) (o : OwnState) (i : Item) → Of o → Of (item_at c o i)
  item_r None o i h = live_r o i h
  item_r (Some c) o (Occurs e) h = h
  item_r (Some c) o (Advance d) h = h

  pub items_r : (o : OwnState) (is : List Item) → Of o → Of (alone_from o is)
  items_r o [] h = h
  items_r o (i ∷ is) h = items_r (item o i) is (item_r o.stop o i h)

  -- the load
  library_r : (x : Option (List ℕ × Fun)) (o : OwnState) → Of o → Of (library_turn x o)
  library_r None o h = h
  library_r (Some (x, f)) o h = turn_r (library_plan x f) o (library_plan_r inv 0 x f (begun o) (fine (begun o) h))

  go_r : (x : Option (List ℕ × Fun)) (o : OwnState) → Of o → Of (go_turn x o)
  go_r None o h = h
  go_r (Some (x, f)) o h = turn_r (go_plan f) o (go_plan_r inv 0 f (begun o) (fine (begun o) h))

  libraries_r : (ls : List Stmts) (o : OwnState) → Of o → Of (fold load_library o ls)
  libraries_r [] o h = h
  libraries_r (l ∷ ls) o h = libraries_r ls (load_library o l) (unless_r o.stop o (library_turn (call_parts l)) h (λ p k. library_r (call_parts l) p k))

  pub loaded_r : (w : Content) (grant : ℕ) → Of (beginning w grant) → Of (loaded w grant)
  loaded_r w grant h =
      let o : OwnState = fold load_library (beginning w grant) w.libraries in
      unless_r o.stop o (go_turn (call_parts w.script)) (libraries_r w.libraries (beginning w grant) h) (λ p k. go_r (call_parts w.script) p k)
