-- What a whole run comes to at most.
use Rattle.std.proofs.Common.{◌≡◌, ℕ, zero, suc, ◌+◌, ◌*◌, ◌≤◌, List, [], ◌∷◌, length, Bool, true, false, refl, sym, ap, ◌∙◌, subst, arith, sum_by}
use Rattle.std.specs.Str.{bytes_eq}
use Rattle.std.specs.Prelude.{codes, if◌then◌else◌, Option, Some, None}
use Rattle.std.specs.List.{fold}
use Rattle.std.proofs.Math.Nat.{suc-mul}
use Rattle.std.proofs.lemmas.List.Sums.{sum_by-cons}
use Rattle.js_tree.specs.Plain.{Stmts, Fun}
use Rattle.plain_tree.specs.Trees.{Label, TextOf, ElementOf}
use Rattle.widget_meaning.specs.Values.{Normal, Is, Refers, Return, Break, Continue, Throw, Stop}
use Rattle.tree_ops.specs.Labels.{with_attribute}
use Rattle.widget_meaning.specs.Trees.{label_of, node_at, relabelled}
use Rattle.widget_meaning.specs.OwnState.{OwnState, State, Timer, Amounts}
use Rattle.widget_meaning.specs.Plan.{Plan, End, Ended, Stopped, OutOfFuel}
use Rattle.widget_meaning.specs.Meaning.{run_plan}
use Rattle.widget_meaning.specs.Dispatch.{nearest, dispatch}
use Rattle.widget_meaning.specs.Turns.{begun, turn, end_turn}
use Rattle.widget_meaning.specs.Items.{Event, Item, Occurs, Advance, item, item_at, occurs, if_heard, with_value, event_value, due_turns, unless_stopped, on_due, next_due, timer_turn, timer_plan, without_timer, resting}
use Rattle.widget_meaning.specs.Alone.{Content, alone, alone_from, beginning, loaded, load_library, library_turn, library_plan, go_turn, go_plan, call_parts}
use Rattle.widget_meaning.specs.Ways.{ByValue}
use Rattle.widget_meaning.specs.Keeps.{Invariant, HoldsOf, Keeps}
use Rattle.widget_meaning.specs.Laws.{AreTimers}
use Rattle.widget_meaning.specs.Sums.{turns_of, events_of, time_of, SumLaws}
use Rattle.widget_meaning.proofs.KeepingForms.{dispatch_r}
use Rattle.widget_meaning.proofs.KeepingJobs.{library_plan_r, go_plan_r}
use Rattle.widget_meaning.proofs.LawsHold.{fuel_laws, alone_laws, turn_grant}
use Rattle.widget_meaning.proofs.TimersHold.{IsNext, next_is, next_waits, none_left, are_timers, turn_clock, item_timers, value_timers, load_timers, loaded_timers, libraries_timers}

-- what a state has come to
record Sums (turns events time : ℕ) (o : OwnState) : Type 0 where
  few : o.turns ≤ turns
  within : o.spent ≤ o.turns * o.grant
  told : o.missed + o.gone ≤ events
  at : o.clock ≤ time

more : (n m k l x y : ℕ) (o : OwnState) → n ≤ m → k ≤ l → x ≤ y → Sums n k x o → Sums m l y o
more n m k l x y o a b c h = record {
  few = le (o.turns) n m h.few a;
  within = h.within;
  told = le (o.missed + o.gone) k l h.told b;
  at = le o.clock x y h.at c;
}
  where
    le : (a b c : ℕ) → a ≤ b → b ≤ c → a ≤ c
    le a b c h i = omega arith

self : (n : ℕ) → n ≤ n
self n = omega arith

-- what the end of a turn does not look at
record Skips (f : OwnState → ℕ) : Type 0 where
  notes : (o : OwnState) (u : List (List ℕ)) (c : Amounts) → f (record o { uncaught = u; counts = c }) ≡ f o
  stop : (o : OwnState) (s : Option Stop) → f (record o { stop = s }) ≡ f o

if_kept : (f : OwnState → ℕ) (b : Bool) (p q o : OwnState) → f p ≡ f o → f q ≡ f o → f (if b then p else q) ≡ f o
if_kept f true p q o h k = h
if_kept f false p q o h k = k

end_kept : (f : OwnState → ℕ) → Skips f → (e : End) (s : State) (o : OwnState) → f (end_turn e s o) ≡ f o
end_kept f k (Ended (Throw v)) s o = if_kept f _ _ _ o (k.stop o _) (k.notes o _ _)
end_kept f k (Ended Normal) s o = refl
end_kept f k (Ended (Is v)) s o = refl
end_kept f k (Ended (Refers r)) s o = refl
end_kept f k (Ended (Return v)) s o = refl
end_kept f k (Ended Break) s o = refl
end_kept f k (Ended Continue) s o = refl
end_kept f k (Stopped c) s o = k.stop o _
end_kept f k OutOfFuel s o = k.stop o _

missed_skips : Skips (λ o. o.missed)
missed_skips = record { notes = λ o u c. refl; stop = λ o s. refl }

gone_skips : Skips (λ o. o.gone)
gone_skips = record { notes = λ o u c. refl; stop = λ o s. refl }

turn_missed : (k : State → Plan) (o : OwnState) → (turn k o).missed ≡ o.missed
turn_missed k o = end_kept (λ p. p.missed) missed_skips (run_plan o.grant (k (begun o))).how (run_plan o.grant (k (begun o))).state _

turn_gone : (k : State → Plan) (o : OwnState) → (turn k o).gone ≡ o.gone
turn_gone k o = end_kept (λ p. p.gone) gone_skips (run_plan o.grant (k (begun o))).how (run_plan o.grant (k (begun o))).state _

-- one turn more
one_few : (n m k : ℕ) → n ≡ m + 1 → m ≤ k → n ≤ suc k
one_few n m k e h = omega arith

next_of : (n m : ℕ) → n ≡ m + 1 → n ≡ suc m
next_of n m e = omega arith

spends : (s t g m : ℕ) → s ≤ t + g → t ≤ m → s ≤ m + g
spends s t g m h i = omega arith

same_told : (a b c d e : ℕ) → a ≡ c → b ≡ d → c + d ≤ e → a + b ≤ e
same_told a b c d e h i l = omega arith

turn_sums : (n k x y : ℕ) (p : State → Plan) (o : OwnState) → (turn p o).clock ≤ y → Sums n k x o → Sums (suc n) k y (turn p o)
turn_sums n k x y p o c h =
    let e : (turn p o).turns ≡ suc o.turns = next_of _ _ (fuel_laws.counts_turns p o) in
    let all : (turn p o).turns * (turn p o).grant ≡ o.turns * o.grant + o.grant =
    ap (λ m. m * (turn p o).grant) e ∙ (ap (λ m. suc o.turns * m) (turn_grant p o) ∙ suc-mul o.turns o.grant) in
    record {
      few = one_few (turn p o).turns o.turns n (fuel_laws.counts_turns p o) h.few;
      within = subst (λ m. (turn p o).spent ≤ m) (sym all) (spends (turn p o).spent o.spent o.grant (o.turns * o.grant) (fuel_laws.spends_within_grant p o) h.within);
      told = same_told (turn p o).missed (turn p o).gone o.missed o.gone k (turn_missed p o) (turn_gone p o) h.told;
      at = c;
    }

kept_clock : (a b c : ℕ) → a ≡ b → b ≤ c → a ≤ c
kept_clock a b c e h = omega arith

-- a turn at rest, of a plan that keeps every invariant
rest_sums : (n k x : ℕ) (p : State → Plan) (o : OwnState) → AreTimers o → ((i : Invariant) → HoldsOf i 0 (begun o) → Keeps i 0 ByValue (p (begun o))) → Sums n k x o → Sums (suc n) k x (turn p o)
rest_sums n k x p o a f h = turn_sums n k x x p o (kept_clock (turn p o).clock o.clock x (turn_clock p o a f) h.at) h

-- an advance
unless_sums : (n k x : ℕ) (c : Option Stop) (o : OwnState) (f : OwnState → OwnState) → Sums n k x o → Sums n k x (f o) → Sums n k x (unless_stopped c o f)
unless_sums n k x None o f h i = i
unless_sums n k x (Some c) o f h i = h

later : (n m : ℕ) → n ≤ n + m
later n m = omega arith

shifted : (n m : ℕ) → suc n + m ≤ n + suc m
shifted n m = omega arith

next_sums : (m limit n k : ℕ) (o : OwnState) → AreTimers o → Sums n k limit o
    → ((a b : ℕ) (p : OwnState) → AreTimers p → Sums a b limit p → Sums (a + m) b limit (due_turns m limit p))
    → (r : Option Timer) → IsNext limit o.timers r → Sums (n + suc m) k limit (on_due r limit o (due_turns m limit))
next_sums m limit n k o a h f None i = record {
  few = (more n (n + suc m) k k limit limit o (later n (suc m)) (self k) (self limit) h).few;
  within = h.within;
  told = h.told;
  at = self limit;
}
next_sums m limit n k o a h f (Some t) i =
    let w = next_waits t o 0 (none_left _) a i.1.0 i.1.1 in
    let before : Sums n k limit (without_timer t o) = record { few = h.few; within = h.within; told = h.told; at = i.0 } in
    let after : Sums (suc n) k limit (timer_turn t o) =
    turn_sums n k limit limit (timer_plan t) (without_timer t o) (kept_clock (timer_turn t o).clock t.due limit w.clock_is i.0) before in
    more (suc n + m) (n + suc m) k k limit limit _ (shifted n m) (self k) (self limit)
    (f (suc n) k (timer_turn t o) (are_timers t.due 0 _ (timer_turn t o) w) after)

dues : (m limit n k : ℕ) (o : OwnState) → AreTimers o → Sums n k limit o → Sums (n + m) k limit (due_turns m limit o)
dues zero limit n k o a h = record {
  few = (more n (n + zero) k k limit limit o (later n zero) (self k) (self limit) h).few;
  within = h.within;
  told = h.told;
  at = self limit;
}
dues (suc m) limit n k o a h =
    unless_sums (n + suc m) k limit o.stop o (λ p. on_due (next_due limit p.timers) limit p (due_turns m limit))
    (more n (n + suc m) k k limit limit o (later n (suc m)) (self k) (self limit) h)
    (next_sums m limit n k o a h (λ x y p b g. dues m limit x y p b g) (next_due limit o.timers) (next_is limit o.timers))

-- an item
choose_sums : (n k x : ℕ) (b : Bool) (p o : OwnState) → Sums n k x p → Sums n k x o → Sums n k x (if b then p else o)
choose_sums n k x true p o h i = h
choose_sums n k x false p o h i = i

value_sums : (n k x : ℕ) (l : Option Label) (m : ℕ) (v : Option (List ℕ)) (o : OwnState) → Sums n k x o → Sums n k x (with_value l m v o)
value_sums n k x None m v o h = h
value_sums n k x (Some (TextOf t)) m v o h = h
value_sums n k x (Some (ElementOf tag attrs)) m None o h = h
value_sums n k x (Some (ElementOf tag attrs)) m (Some v) o h =
    let p : OwnState = record o { forest = relabelled m (with_attribute (codes "value") (Some v) (ElementOf tag attrs)) o.forest } in
    choose_sums n k x (bytes_eq tag (codes "input")) p o (record { few = h.few; within = h.within; told = h.told; at = h.at }) h

heard_sums : (n k x : ℕ) (f : Option (ℕ × List ℕ)) (p : State → Plan) (o : OwnState) → AreTimers o → ((i : Invariant) → HoldsOf i 0 (begun o) → Keeps i 0 ByValue (p (begun o))) → Sums n k x o → Sums (suc n) k x (if_heard f p o)
heard_sums n k x None p o a f h = more n (suc n) k k x x o (one_more n) (self k) (self x) h
  where
    one_more : (n : ℕ) → n ≤ suc n
    one_more n = omega arith
heard_sums n k x (Some y) p o a f h = rest_sums n k x p o a f h

one_told : (a b c : ℕ) → a + b ≤ c → a + 1 + b ≤ c + 1
one_told a b c h = omega arith

one_gone : (a b c : ℕ) → a + b ≤ c → a + (b + 1) ≤ c + 1
one_gone a b c h = omega arith

one_turn : (n : ℕ) → suc n ≤ n + 1
one_turn n = omega arith

and_none : (n : ℕ) → n ≤ n + 0
and_none n = omega arith

occurs_sums : (n k x : ℕ) (e : Event) (y : Option ℕ) (o : OwnState) → AreTimers o → Sums n k x o → Sums (n + 1) (k + 1) (x + 0) (occurs e y o)
occurs_sums n k x e None o a h = record {
  few = (more n (n + 1) k k x x o (later n 1) (self k) (self x) h).few;
  within = h.within;
  told = one_told o.missed o.gone k h.told;
  at = (more n n k k x (x + 0) o (self n) (self k) (and_none x) h).at;
}
occurs_sums n k x e (Some m) o a h =
    let p : OwnState = with_value (label_of m o.forest) m e.value o in
    more (suc n) (n + 1) k (k + 1) x (x + 0) _ (one_turn n) (later k 1) (and_none x)
    (heard_sums n k x (nearest (resting p) (Some m) e.kind) (dispatch e.kind m (event_value e.value) 0) p
    (value_timers (label_of m o.forest) m e.value o a) (λ i r. dispatch_r i 0 e.kind m (event_value e.value) 0 (begun p) r)
    (value_sums n k x (label_of m o.forest) m e.value o h))

passed : (a b c d : ℕ) → a ≤ b + d → b ≤ c → a ≤ c + d
passed a b c d h i = omega arith

at_limit : (c d : ℕ) → c ≤ c + d
at_limit c d = omega arith

item_sums : (n k x : ℕ) (c : Option Stop) (o : OwnState) (i : Item) → AreTimers o → Sums n k x o → Sums (n + turns_of i) (k + events_of i) (x + time_of i) (item_at c o i)
item_sums n k x None o (Occurs e) a h = occurs_sums n k x e (node_at o.forest e.path) o a h
item_sums n k x None o (Advance d) a h =
    let now : Sums n k (o.clock + d) o = record { few = h.few; within = h.within; told = h.told; at = at_limit o.clock d } in
    let then_on = dues (turns_of (Advance d)) (o.clock + d) n k o a now in
    record {
      few = then_on.few;
      within = then_on.within;
      told = (more _ (n + turns_of (Advance d)) k (k + 0) _ (o.clock + d) _ (self _) (and_none k) (self _) then_on).told;
      at = passed _ o.clock x d then_on.at h.at;
    }
item_sums n k x (Some c) o (Occurs e) a h = record {
  few = (more n (n + 1) k k x x o (later n 1) (self k) (self x) h).few;
  within = h.within;
  told = one_gone o.missed o.gone k h.told;
  at = (more n n k k x (x + 0) o (self n) (self k) (and_none x) h).at;
}
item_sums n k x (Some c) o (Advance d) a h =
    more n (n + turns_of (Advance d)) k (k + 0) x (x + d) o (later n _) (and_none k) (later x d) h

joined : (n a b c : ℕ) → c ≡ a + b → n + a + b ≤ n + c
joined n a b c e = omega arith

items_sums : (is : List Item) (n k x : ℕ) (o : OwnState) → AreTimers o → Sums n k x o
    → Sums (n + sum_by turns_of is) (k + sum_by events_of is) (x + sum_by time_of is) (alone_from o is)
items_sums [] n k x o a h = more n (n + 0) k (k + 0) x (x + 0) o (and_none n) (and_none k) (and_none x) h
items_sums (i ∷ is) n k x o a h =
    more (n + turns_of i + sum_by turns_of is) _ (k + events_of i + sum_by events_of is) _ (x + time_of i + sum_by time_of is) _ _
    (joined n (turns_of i) (sum_by turns_of is) _ (sum_by-cons turns_of i is))
    (joined k (events_of i) (sum_by events_of is) _ (sum_by-cons events_of i is))
    (joined x (time_of i) (sum_by time_of is) _ (sum_by-cons time_of i is))
    (items_sums is (n + turns_of i) (k + events_of i) (x + time_of i) (item o i) (item_timers o.stop o i a) (item_sums n k x o.stop o i a h))

-- the load
library_sums : (n k x : ℕ) (y : Option (List ℕ × Fun)) (o : OwnState) → AreTimers o → Sums n k x o → Sums (suc n) k x (library_turn y o)
library_sums n k x None o a h = more n (suc n) k k x x o (one_more n) (self k) (self x) h
  where
    one_more : (n : ℕ) → n ≤ suc n
    one_more n = omega arith
library_sums n k x (Some (y, f)) o a h = rest_sums n k x (library_plan y f) o a (λ i r. library_plan_r i 0 y f (begun o) r) h

go_sums : (n k x : ℕ) (y : Option (List ℕ × Fun)) (o : OwnState) → AreTimers o → Sums n k x o → Sums (suc n) k x (go_turn y o)
go_sums n k x None o a h = more n (suc n) k k x x o (one_more n) (self k) (self x) h
  where
    one_more : (n : ℕ) → n ≤ suc n
    one_more n = omega arith
go_sums n k x (Some (y, f)) o a h = rest_sums n k x (go_plan f) o a (λ i r. go_plan_r i 0 f (begun o) r) h

less : (n : ℕ) → n ≤ suc n
less n = omega arith

one_load : (n k x : ℕ) (l : Stmts) (o : OwnState) → AreTimers o → Sums n k x o → Sums (suc n) k x (load_library o l)
one_load n k x l o a h =
    unless_sums (suc n) k x o.stop o (library_turn (call_parts l)) (more n (suc n) k k x x o (less n) (self k) (self x) h) (library_sums n k x (call_parts l) o a h)

libraries_sums : (ls : List Stmts) (n k x : ℕ) (o : OwnState) → AreTimers o → Sums n k x o → Sums (n + length ls) k x (fold load_library o ls)
libraries_sums [] n k x o a h = more n (n + 0) k k x x o (and_none n) (self k) (self x) h
libraries_sums (l ∷ ls) n k x o a h =
    more (suc n + length ls) (n + suc (length ls)) k k x x _ (shifted n (length ls)) (self k) (self x)
    (libraries_sums ls (suc n) k x (load_library o l) (load_timers l o a) (one_load n k x l o a h))

no_units : (g : ℕ) → 0 ≤ 0 * g
no_units g = none_left _

loaded_sums : (w : Content) (grant : ℕ) → Sums (length w.libraries + 1) 0 0 (loaded w grant)
loaded_sums w grant =
    let start : Sums 0 0 0 (beginning w grant) = record { few = self 0; within = no_units grant; told = self 0; at = self 0 } in
    let timers : AreTimers (beginning w grant) = record { few = none_left _; ahead = tt } in
    let o : OwnState = fold load_library (beginning w grant) w.libraries in
    let libraries : Sums (0 + length w.libraries) 0 0 o = libraries_sums w.libraries 0 0 0 (beginning w grant) timers start in
    let n : ℕ = length w.libraries in
    let h : Sums n 0 0 o = more (0 + n) n 0 0 0 0 o (from_zero n) (self 0) (self 0) libraries in
    more (suc n) (n + 1) 0 0 0 0 _ (one_turn n) (self 0) (self 0)
    (unless_sums (suc n) 0 0 o.stop o (go_turn (call_parts w.script)) (more n (suc n) 0 0 0 0 o (less n) (self 0) (self 0) h)
    (go_sums n 0 0 (call_parts w.script) o (libraries_timers w.libraries (beginning w grant) timers) h))
  where
    from_zero : (n : ℕ) → 0 + n ≤ n
    from_zero n = omega arith

pub sum_laws : (w : Content) (grant : ℕ) (is : List Item) → SumLaws w grant is
sum_laws w grant is =
    let h = items_sums is (length w.libraries + 1) 0 0 (loaded w grant) (loaded_timers w grant) (loaded_sums w grant) in
    record {
      turns = h.few;
      spent = subst (λ g. (alone w grant is).spent ≤ (alone w grant is).turns * g) (alone_laws.keeps_grant w grant is) h.within;
      events = from_none _ _ h.told;
      clock = from_none _ _ h.at;
    }
  where
    from_none : (a b : ℕ) → a ≤ 0 + b → a ≤ b
    from_none a b h = omega arith
