-- The laws of the whole.
use Rattle.std.proofs.Common.{◌≡◌, ℕ, zero, suc, ◌+◌, ◌-◌, ◌*◌, ◌/◌, ◌≤◌, List, [], ◌∷◌, ◌++◌, Bool, true, false, refl, ap, ◌∙◌, arith}
use Rattle.std.specs.Prelude.{nat_lt, if◌then◌else◌, Option, Some, None}
use Rattle.std.specs.List.{fold}
use Rattle.std.specs.Str.{bytes_eq}
use Rattle.js_tree.specs.Plain.{Stmts, Fun}
use Rattle.widget_meaning.specs.Limits.{max_timers, min_delay}
use Rattle.widget_meaning.specs.Values.{Completion, Normal, Is, Refers, Return, Break, Continue, Throw, Stop}
use Rattle.plain_tree.specs.Trees.{Label, TextOf, ElementOf}
use Rattle.widget_meaning.specs.Trees.{node_at, label_of}
use Rattle.widget_meaning.specs.OwnState.{OwnState, State, Timer}
use Rattle.widget_meaning.specs.Plan.{Plan, Ret, Halt, Need, Tick, Do, Out, End, Ended, Stopped, OutOfFuel, and_then}
use Rattle.widget_meaning.specs.Calls.{statements, stmt_list}
use Rattle.widget_meaning.specs.Statements.{caught, finally}
use Rattle.widget_meaning.specs.Meaning.{body, run_plan}
use Rattle.widget_meaning.specs.Compositional.{go_on, then_do}
use Rattle.widget_meaning.specs.Turns.{begun, turn, end_turn}
use Rattle.widget_meaning.specs.Dispatch.{nearest, dispatch}
use Rattle.widget_meaning.specs.Items.{Event, Item, Occurs, Advance, item, item_at, live_item, stopped_item, occurs, if_heard, with_value, due_turns, unless_stopped, on_due, next_due, timer_turn, timer_plan, without_timer, event_value, resting}
use Rattle.widget_meaning.specs.Alone.{Content, Given, Sent, Passed, Swapped, delivered, alone_from, loaded, beginning, load_library, library_turn, go_turn, library_plan, go_plan, call_parts}
use Rattle.widget_meaning.specs.Laws.{IsStop, FuelLaws, StopLaws, StoppedLaws, AloneLaws}
use Rattle.widget_meaning.proofs.Runs.{run_and_then}
use Rattle.widget_meaning.proofs.Parts.{statement_laws}

-- fuel
either : (b : Bool) (r q : Out) (g : ℕ) → r.left ≤ g → q.left ≤ g → (if b then r else q).left ≤ g
either true r q g h k = h
either false r q g h k = k

same : (g : ℕ) → g ≤ g
same g = omega arith

less : (f n : ℕ) → n ≤ f → n ≤ suc f
less f n h = omega arith

left_falls : (g : ℕ) (p : Plan) → (run_plan g p).left ≤ g
left_falls g (Ret o s) = same g
left_falls g (Halt c s) = same g
left_falls g (Need c s p) = either (nat_lt g c) (record { how = OutOfFuel; state = s; left = g }) (run_plan g p) g (same g) (left_falls g p)
left_falls zero (Tick s p) = same zero
left_falls (suc f) (Tick s p) = less f (run_plan f p).left (left_falls f p)
left_falls zero (Do j s k) = same zero
left_falls (suc f) (Do j s k) = less f (run_plan f (and_then (body j s) k)).left (left_falls f (and_then (body j s) k))

-- what the end of a turn keeps
if_spent : (b : Bool) (o p : OwnState) → p.spent ≡ o.spent → (if b then o else p).spent ≡ o.spent
if_spent true o p e = refl
if_spent false o p e = e

if_turns : (b : Bool) (o p : OwnState) → p.turns ≡ o.turns → (if b then o else p).turns ≡ o.turns
if_turns true o p e = refl
if_turns false o p e = e

if_grant : (b : Bool) (o p : OwnState) → p.grant ≡ o.grant → (if b then o else p).grant ≡ o.grant
if_grant true o p e = refl
if_grant false o p e = e

-- of the notes
noted_spent : (b : Bool) (o p q : OwnState) → p.spent ≡ o.spent → q.spent ≡ o.spent → (if b then p else q).spent ≡ o.spent
noted_spent true o p q e f = e
noted_spent false o p q e f = f

noted_turns : (b : Bool) (o p q : OwnState) → p.turns ≡ o.turns → q.turns ≡ o.turns → (if b then p else q).turns ≡ o.turns
noted_turns true o p q e f = e
noted_turns false o p q e f = f

noted_grant : (b : Bool) (o p q : OwnState) → p.grant ≡ o.grant → q.grant ≡ o.grant → (if b then p else q).grant ≡ o.grant
noted_grant true o p q e f = e
noted_grant false o p q e f = f

end_spent : (e : End) (s : State) (o : OwnState) → (end_turn e s o).spent ≡ o.spent
end_spent (Ended (Throw v)) s o = noted_spent _ o _ _ refl refl
end_spent (Ended Normal) s o = refl
end_spent (Ended (Is v)) s o = refl
end_spent (Ended (Refers r)) s o = refl
end_spent (Ended (Return v)) s o = refl
end_spent (Ended Break) s o = refl
end_spent (Ended Continue) s o = refl
end_spent (Stopped c) s o = refl
end_spent OutOfFuel s o = refl

end_turns : (e : End) (s : State) (o : OwnState) → (end_turn e s o).turns ≡ o.turns
end_turns (Ended (Throw v)) s o = noted_turns _ o _ _ refl refl
end_turns (Ended Normal) s o = refl
end_turns (Ended (Is v)) s o = refl
end_turns (Ended (Refers r)) s o = refl
end_turns (Ended (Return v)) s o = refl
end_turns (Ended Break) s o = refl
end_turns (Ended Continue) s o = refl
end_turns (Stopped c) s o = refl
end_turns OutOfFuel s o = refl

end_grant : (e : End) (s : State) (o : OwnState) → (end_turn e s o).grant ≡ o.grant
end_grant (Ended (Throw v)) s o = noted_grant _ o _ _ refl refl
end_grant (Ended Normal) s o = refl
end_grant (Ended (Is v)) s o = refl
end_grant (Ended (Refers r)) s o = refl
end_grant (Ended (Return v)) s o = refl
end_grant (Ended Break) s o = refl
end_grant (Ended Continue) s o = refl
end_grant (Stopped c) s o = refl
end_grant OutOfFuel s o = refl

turn_spent : (k : State → Plan) (o : OwnState) → (turn k o).spent ≡ o.spent + (o.grant - (run_plan o.grant (k (begun o))).left)
turn_spent k o = end_spent (run_plan o.grant (k (begun o))).how (run_plan o.grant (k (begun o))).state _

at_most : (a s g l : ℕ) → a ≡ s + (g - l) → a ≤ s + g
at_most a s g l e = omega arith

pub turn_grant : (k : State → Plan) (o : OwnState) → (turn k o).grant ≡ o.grant
turn_grant k o = end_grant (run_plan o.grant (k (begun o))).how (run_plan o.grant (k (begun o))).state _

pub fuel_laws : FuelLaws
fuel_laws = record {
  left_falls = left_falls;
  spends_what_fell = turn_spent;
  spends_within_grant = λ k o. at_most (turn k o).spent o.spent o.grant (run_plan o.grant (k (begun o))).left (turn_spent k o);
  counts_turns = λ k o. end_turns (run_plan o.grant (k (begun o))).how (run_plan o.grant (k (begun o))).state _;
}

-- stops
stops : (r : Out) (k : Completion → State → Plan) (e : End) → IsStop e → go_on r k e ≡ r
stops r k (Ended o) h = absurd h
stops r k (Stopped c) h = refl
stops r k OutOfFuel h = refl

passes : (g : ℕ) (p : Plan) (k : Completion → State → Plan) → IsStop (run_plan g p).how → run_plan g (and_then p k) ≡ run_plan g p
passes g p k h = run_and_then g p k ∙ stops (run_plan g p) k (run_plan g p).how h

pub stop_laws : StopLaws
stop_laws = record {
  passes = passes;
  not_caught = λ at names a c b p s g h. let q : Plan = statements (stmt_list a) p s in (statement_laws at names p s g).try a c b ∙ (ap (λ r. then_do r (finally b p)) (stops (run_plan g q) (caught c p) (run_plan g q).how h) ∙ stops (run_plan g q) (finally b p) (run_plan g q).how h);
}

-- stopped widgets
pub stopped_laws : StoppedLaws
stopped_laws = record {
  event = λ o c e h. ap (λ x. item_at x o (Occurs e)) h;
  advance = λ o c d h. ap (λ x. item_at x o (Advance d)) h;
}

-- lists of items
fold_parts : {A B : Type 0} (f : B → A → B) (xs ys : List A) (b : B) → fold f b (xs ++ ys) ≡ fold f (fold f b xs) ys
fold_parts f [] ys b = refl
fold_parts f (x ∷ xs) ys b = fold_parts f xs ys (f b x)

if_append : (b : Bool) (i : Item) (xs ys zs : List Item) → xs ≡ ys ++ zs → (if b then i ∷ xs else xs) ≡ (if b then i ∷ ys else ys) ++ zs
if_append true i xs ys zs e = ap (◌∷◌ i) e
if_append false i xs ys zs e = e

parts : (gs hs : List Given) (x : List ℕ) → delivered (gs ++ hs) x ≡ delivered gs x ++ delivered hs x
parts [] hs x = refl
parts (Sent y e ∷ gs) hs x = if_append (bytes_eq y x) (Occurs e) (delivered (gs ++ hs) x) (delivered gs x) (delivered hs x) (parts gs hs x)
parts (Passed d ∷ gs) hs x = ap (◌∷◌ (Advance d)) (parts gs hs x)
parts (Swapped y ∷ gs) hs x = parts gs hs x

-- the grant never changes
choose_grant : (b : Bool) (g : ℕ) (p q : OwnState) → p.grant ≡ g → q.grant ≡ g → (if b then p else q).grant ≡ g
choose_grant true g p q e f = e
choose_grant false g p q e f = f

unless_grant : (c : Option Stop) (o : OwnState) (f : OwnState → OwnState) → (f o).grant ≡ o.grant → (unless_stopped c o f).grant ≡ o.grant
unless_grant None o f h = h
unless_grant (Some c) o f h = refl

due_grant : (t : Option Timer) (limit : ℕ) (o : OwnState) (f : OwnState → OwnState) → ((p : OwnState) → (f p).grant ≡ p.grant) → (on_due t limit o f).grant ≡ o.grant
due_grant None limit o f h = refl
due_grant (Some t) limit o f h = h (timer_turn t o) ∙ turn_grant (timer_plan t) (without_timer t o)

dues_grant : (n limit : ℕ) (o : OwnState) → (due_turns n limit o).grant ≡ o.grant
dues_grant zero limit o = refl
dues_grant (suc n) limit o = unless_grant o.stop o (λ p. on_due (next_due limit p.timers) limit p (due_turns n limit)) (due_grant (next_due limit o.timers) limit o (due_turns n limit) (dues_grant n limit))

value_grant : (l : Option Label) (n : ℕ) (v : Option (List ℕ)) (o : OwnState) → (with_value l n v o).grant ≡ o.grant
value_grant None n v o = refl
value_grant (Some (TextOf t)) n v o = refl
value_grant (Some (ElementOf tag attrs)) n None o = refl
value_grant (Some (ElementOf tag attrs)) n (Some v) o = choose_grant _ o.grant _ o refl refl

heard_grant : (x : Option (ℕ × List ℕ)) (k : State → Plan) (o : OwnState) → (if_heard x k o).grant ≡ o.grant
heard_grant None k o = refl
heard_grant (Some x) k o = turn_grant k o

occurs_grant : (e : Event) (n : Option ℕ) (o : OwnState) → (occurs e n o).grant ≡ o.grant
occurs_grant e None o = refl
occurs_grant e (Some n) o = let p : OwnState = with_value (label_of n o.forest) n e.value o in heard_grant (nearest (resting p) (Some n) e.kind) (dispatch e.kind n (event_value e.value) 0) (with_value (label_of n o.forest) n e.value o) ∙ value_grant (label_of n o.forest) n e.value o

live_grant : (o : OwnState) (i : Item) → (live_item o i).grant ≡ o.grant
live_grant o (Occurs e) = occurs_grant e (node_at o.forest e.path) o
live_grant o (Advance d) = dues_grant (max_timers * (d / min_delay + 2)) (o.clock + d) o

stopped_grant : (o : OwnState) (i : Item) → (stopped_item o i).grant ≡ o.grant
stopped_grant o (Occurs e) = refl
stopped_grant o (Advance d) = refl

item_grant : (c : Option Stop) (o : OwnState) (i : Item) → (item_at c o i).grant ≡ o.grant
item_grant None o i = live_grant o i
item_grant (Some c) o i = stopped_grant o i

items_grant : (is : List Item) (o : OwnState) → (alone_from o is).grant ≡ o.grant
items_grant [] o = refl
items_grant (i ∷ is) o = items_grant is (item o i) ∙ item_grant o.stop o i

library_grant : (x : Option (List ℕ × Fun)) (o : OwnState) → (library_turn x o).grant ≡ o.grant
library_grant None o = refl
library_grant (Some (x, f)) o = turn_grant (library_plan x f) o

go_grant : (x : Option (List ℕ × Fun)) (o : OwnState) → (go_turn x o).grant ≡ o.grant
go_grant None o = refl
go_grant (Some (x, f)) o = turn_grant (go_plan f) o

libraries_grant : (ls : List Stmts) (o : OwnState) → (fold load_library o ls).grant ≡ o.grant
libraries_grant [] o = refl
libraries_grant (l ∷ ls) o = libraries_grant ls (load_library o l) ∙ unless_grant o.stop o (library_turn (call_parts l)) (library_grant (call_parts l) o)

loaded_grant : (w : Content) (grant : ℕ) → (loaded w grant).grant ≡ grant
loaded_grant w grant = let o : OwnState = fold load_library (beginning w grant) w.libraries in unless_grant o.stop o (go_turn (call_parts w.script)) (go_grant (call_parts w.script) o) ∙ libraries_grant w.libraries (beginning w grant)

pub alone_laws : AloneLaws
alone_laws = record {
  goes_on = λ w grant is js. fold_parts item is js (loaded w grant);
  delivered_in_parts = parts;
  keeps_grant = λ w grant is. items_grant is (loaded w grant) ∙ loaded_grant w grant;
}
