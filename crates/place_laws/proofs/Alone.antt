-- A widget by itself comes to the same, but for the places of its functions.
use Rattle.std.proofs.Common.{◌≡◌, ℕ, zero, suc, ◌+◌, ◌-◌, ◌*◌, ◌/◌, Bool, true, false, List, [], ◌∷◌, map, length, Option, Some, None, refl, ap, ◌∙◌}
use Rattle.std.specs.Prelude.{nat_lt, if◌then◌else◌, codes, option_map}
use Rattle.std.specs.List.{fold}
use Rattle.std.specs.Str.{bytes_eq}
use Rattle.js_tree.specs.Plain as tree
use Rattle.js_tree.specs.Plain.{Stmts, Fun}
use Rattle.js_grammar.specs.Unplaced.{unplaced_expr, unplaced_stmts, unplaced_fun}
use Rattle.plain_tree.specs.Trees.{Label, ElementOf}
use Rattle.widget_meaning.specs.Limits.{max_units, max_timers, min_delay}
use Rattle.widget_meaning.specs.Values.{Value, Undefined, Null, Truth, NaN, Num, Text, Own, Host, Normal, Is, Refers, Return, Break, Continue, Throw, Stop}
use Rattle.widget_meaning.specs.Trees.{label_of, node_at}
use Rattle.widget_meaning.specs.OwnState.{OwnState, State, Cell, Timer, lookup}
use Rattle.widget_meaning.specs.Plan.{Plan, Out, End, Ended, Stopped, OutOfFuel}
use Rattle.widget_meaning.specs.Meaning.{run_plan}
use Rattle.widget_meaning.specs.Turns.{named_note, note_text, noted, begun, end_turn, after_turn, turn}
use Rattle.widget_meaning.specs.Dispatch.{nearest, dispatch}
use Rattle.widget_meaning.specs.Items.{Event, Item, Occurs, Advance, with_value, event_value, resting, if_heard, occurs_at, occurs, next_due, timer_plan, without_timer, timer_turn, unless_stopped, on_due, due_turns, live_item, item_at, item}
use Rattle.widget_meaning.specs.Alone.{Content, call_parts, beginning, library_plan, library_turn, go_plan, go_turn, load_library, loaded, alone_from, alone}
use Rattle.place_laws.specs.Bare.{bare_own, bare_content}
use Rattle.place_laws.proofs.Near.{N, bare, itself, cell_bare}
use Rattle.place_laws.proofs.Found.{nearest_bare}
use Rattle.place_laws.proofs.Alike.{Alike}
use Rattle.place_laws.proofs.Forms.{dispatch_a}
use Rattle.place_laws.proofs.Runs.{SameOut, run_a, timer_a, library_a, go_a}

-- ## Turns

note_bare : (s : State) (v : Value) → note_text (bare s) v ≡ note_text s v
note_bare s (Own n) = ap (λ (c : Cell). named_note (lookup c.pairs (codes "name")) (lookup c.pairs (codes "message"))) (cell_bare s n)
note_bare s (Host h) = refl
note_bare s Undefined = refl
note_bare s Null = refl
note_bare s (Truth b) = refl
note_bare s NaN = refl
note_bare s (Num z) = refl
note_bare s (Text t) = refl

either_own : (b : Bool) (p q p' q' : OwnState) → p' ≡ bare_own p → q' ≡ bare_own q → (if b then p' else q') ≡ bare_own (if b then p else q)
either_own true p q p' q' h k = h
either_own false p q p' q' h k = k

noted_bare : (t : List ℕ) (o : OwnState) → noted t (bare_own o) ≡ bare_own (noted t o)
noted_bare t o = either_own (nat_lt max_units (o.counts.units + (length t + 1))) _ _ _ _ refl refl

end_bare : (e : End) (s : State) (o : OwnState) → end_turn e (bare s) (bare_own o) ≡ bare_own (end_turn e s o)
end_bare (Ended (Throw v)) s o = ap (λ t. noted t (bare_own o)) (note_bare s v) ∙ noted_bare (note_text s v) o
end_bare (Ended Normal) s o = refl
end_bare (Ended (Is v)) s o = refl
end_bare (Ended (Refers r)) s o = refl
end_bare (Ended (Return v)) s o = refl
end_bare (Ended Break) s o = refl
end_bare (Ended Continue) s o = refl
end_bare (Stopped c) s o = refl
end_bare OutOfFuel s o = refl

-- the widget after a turn that ends so
abbrev after_of : OwnState → End → State → ℕ → OwnState
after_of o how s left = after_turn o (record { how = how; state = s; left = left })

after_bare : (o : OwnState) (r q : Out) → SameOut r q → after_turn (bare_own o) q ≡ bare_own (after_turn o r)
after_bare o r q same = (λ i. after_of (bare_own o) (same.how i) (same.state.same i) (same.left i)) ∙ end_bare r.how r.state (record r.state.own { turns = o.turns + 1; spent = o.spent + (o.grant - r.left); missed = o.missed; gone = o.gone; stop = o.stop; grant = o.grant })

turn_bare : (k m : State → Plan) → ((s z : State) → N s z → Alike (k s) (m z)) → (o : OwnState) → turn m (bare_own o) ≡ bare_own (turn k o)
turn_bare k m alike o =
    after_bare o (run_plan o.grant (k (begun o))) (run_plan o.grant (m (bare (begun o)))) (run_a o.grant (k (begun o)) (m (bare (begun o))) (alike (begun o) (bare (begun o)) (itself (begun o))))

-- ## Items

value_same : (l : Option Label) (n : ℕ) (v : Option (List ℕ)) (o : OwnState) → with_value l n v (bare_own o) ≡ bare_own (with_value l n v o)
value_same (Some (ElementOf tag attrs)) n (Some v) o = either_own (bytes_eq tag (codes "input")) _ _ _ _ refl refl
value_same l n v o = refl

heard_bare : (r : Option (ℕ × List ℕ)) (k : State → Plan) → ((s z : State) → N s z → Alike (k s) (k z)) → (o : OwnState) → if_heard r k (bare_own o) ≡ bare_own (if_heard r k o)
heard_bare None k alike o = refl
heard_bare (Some f) k alike o = turn_bare k k alike o

at_bare : (e : Event) (n : ℕ) (o : OwnState) → occurs_at e n (bare_own o) ≡ bare_own (occurs_at e n o)
at_bare e n o =
    ap (λ (r : Option (ℕ × List ℕ)). if_heard r (dispatch e.kind n (event_value e.value) 0) (bare_own o)) (nearest_bare (resting o) (Some n) e.kind)
    ∙ heard_bare (nearest (resting o) (Some n) e.kind) (dispatch e.kind n (event_value e.value) 0) (λ s z u. dispatch_a e.kind n (event_value e.value) 0 s z u) o

occurs_bare : (e : Event) (r : Option ℕ) (o : OwnState) → occurs e r (bare_own o) ≡ bare_own (occurs e r o)
occurs_bare e None o = refl
occurs_bare e (Some n) o = ap (occurs_at e n) (value_same (label_of n o.forest) n e.value o) ∙ at_bare e n (with_value (label_of n o.forest) n e.value o)

timer_bare : (t : Timer) (o : OwnState) → timer_turn t (bare_own o) ≡ bare_own (timer_turn t o)
timer_bare t o = turn_bare (timer_plan t) (timer_plan t) (timer_a t) (without_timer t o)

due_bare : (r : Option Timer) (limit : ℕ) (f : OwnState → OwnState) → ((o : OwnState) → f (bare_own o) ≡ bare_own (f o)) → (o : OwnState) → on_due r limit (bare_own o) f ≡ bare_own (on_due r limit o f)
due_bare None limit f same o = refl
due_bare (Some t) limit f same o = ap f (timer_bare t o) ∙ same (timer_turn t o)

unless_bare : (r : Option Stop) (f g : OwnState → OwnState) → ((o : OwnState) → g (bare_own o) ≡ bare_own (f o)) → (o : OwnState) → unless_stopped r (bare_own o) g ≡ bare_own (unless_stopped r o f)
unless_bare None f g same o = same o
unless_bare (Some c) f g same o = refl

turns_bare : (n limit : ℕ) (o : OwnState) → due_turns n limit (bare_own o) ≡ bare_own (due_turns n limit o)
turns_bare zero limit o = refl
turns_bare (suc n) limit o =
    unless_bare o.stop (λ p. on_due (next_due limit p.timers) limit p (due_turns n limit)) (λ p. on_due (next_due limit p.timers) limit p (due_turns n limit))
    (λ p. due_bare (next_due limit p.timers) limit (due_turns n limit) (λ q. turns_bare n limit q) p) o

live_bare : (o : OwnState) (i : Item) → live_item (bare_own o) i ≡ bare_own (live_item o i)
live_bare o (Occurs e) = occurs_bare e (node_at o.forest e.path) o
live_bare o (Advance d) = turns_bare (max_timers * (d / min_delay + 2)) (o.clock + d) o

item_at_bare : (r : Option Stop) (o : OwnState) (i : Item) → item_at r (bare_own o) i ≡ bare_own (item_at r o i)
item_at_bare None o i = live_bare o i
item_at_bare (Some c) o (Occurs e) = refl
item_at_bare (Some c) o (Advance d) = refl

from_bare : (is : List Item) (o : OwnState) → alone_from (bare_own o) is ≡ bare_own (alone_from o is)
from_bare [] o = refl
from_bare (i ∷ is) o = ap (λ x. alone_from x is) (item_at_bare o.stop o i) ∙ from_bare is (item o i)

-- ## The load

abbrev bare_parts : List ℕ × Fun → List ℕ × Fun
bare_parts p = (p.0, unplaced_fun p.1)

parts_bare : (ss : Stmts) → call_parts (unplaced_stmts ss) ≡ option_map bare_parts (call_parts ss)
unfolding unplaced_expr
parts_bare (tree.AndStmt tree.NoStmts (tree.StmtAt a xs (tree.Only (tree.ExprAt b bs (tree.Call callee (tree.AndExpr (tree.AndExpr tree.NoExprs (tree.ExprAt c cs (tree.Str x))) (tree.ExprAt d ds (tree.Function f)))))))) = refl
parts_bare ss = refl

library_bare : (r : Option (List ℕ × Fun)) (o : OwnState) → library_turn (option_map bare_parts r) (bare_own o) ≡ bare_own (library_turn r o)
library_bare None o = refl
library_bare (Some (x, f)) o = turn_bare (library_plan x f) (library_plan x (unplaced_fun f)) (library_a x f) o

go_bare : (r : Option (List ℕ × Fun)) (o : OwnState) → go_turn (option_map bare_parts r) (bare_own o) ≡ bare_own (go_turn r o)
go_bare None o = refl
go_bare (Some (x, f)) o = turn_bare (go_plan f) (go_plan (unplaced_fun f)) (go_a f) o

load_bare : (ss : Stmts) (o : OwnState) → load_library (bare_own o) (unplaced_stmts ss) ≡ bare_own (load_library o ss)
load_bare ss o =
    ap (λ (r : Option (List ℕ × Fun)). unless_stopped o.stop (bare_own o) (library_turn r)) (parts_bare ss)
    ∙ unless_bare o.stop (library_turn (call_parts ss)) (library_turn (option_map bare_parts (call_parts ss))) (library_bare (call_parts ss)) o

loads_bare : (ls : List Stmts) (o : OwnState) → fold load_library (bare_own o) (map unplaced_stmts ls) ≡ bare_own (fold load_library o ls)
loads_bare [] o = refl
loads_bare (l ∷ ls) o = ap (λ x. fold load_library x (map unplaced_stmts ls)) (load_bare l o) ∙ loads_bare ls (load_library o l)

loaded_bare : (w : Content) (grant : ℕ) → loaded (bare_content w) grant ≡ bare_own (loaded w grant)
loaded_bare w grant =
    let o : OwnState = fold load_library (beginning w grant) w.libraries in
    (λ i. unless_stopped (loads_bare w.libraries (beginning w grant) i).stop (loads_bare w.libraries (beginning w grant) i) (go_turn (parts_bare w.script i)))
    ∙ unless_bare o.stop (go_turn (call_parts w.script)) (go_turn (option_map bare_parts (call_parts w.script))) (go_bare (call_parts w.script)) o

pub alone_bare : (w : Content) (grant : ℕ) (is : List Item) → alone (bare_content w) grant is ≡ bare_own (alone w grant is)
alone_bare w grant is = ap (λ o. alone_from o is) (loaded_bare w grant) ∙ from_bare is (loaded w grant)
