-- A queue, as its first work is taken.
use Rattle.std.proofs.Common.{◌≡◌, ℕ, suc, ◌+◌, ◌-◌, ◌*◌, ◌/◌, List, [], ◌∷◌, ◌++◌, Bool, true, false, refl, sym, ap, ◌∙◌, arith, Option, Some, None}
use Rattle.std.specs.Prelude.{if◌then◌else◌}
use Rattle.std.specs.List.{fold}
use Rattle.js_tree.specs.Plain.{Stmts, Fun}
use Rattle.widget_meaning.specs.Limits.{max_timers, min_delay}
use Rattle.widget_meaning.specs.Values.{Stop}
use Rattle.plain_tree.specs.Trees.{Label, TextOf, ElementOf}
use Rattle.widget_meaning.specs.Trees.{label_of, node_at}
use Rattle.widget_meaning.specs.OwnState.{OwnState, State, Timer}
use Rattle.widget_meaning.specs.Plan.{Plan}
use Rattle.widget_meaning.specs.Dispatch.{nearest, dispatch}
use Rattle.widget_meaning.specs.Turns.{turn}
use Rattle.widget_meaning.specs.Items.{Event, Occurs, Advance, item_at, occurs, occurs_at, if_heard, with_value, event_value, resting, timer_plan, next_due, on_due, without_timer, due_turns, unless_stopped}
use Rattle.widget_meaning.specs.Alone.{call_parts, library_plan, go_plan, library_turn, go_turn}
use Rattle.life_laws.specs.Life.{Seen, Turn, Work, Library, Go, Given, Until, work, opens, opening, or_else, first_of, library_opens, go_opens, heard, event_turn, timer_opens, if_live, waiting, started, Same}

-- a work that begins no turn is done
pub passes : (o p : OwnState) (i : Work) (is : List Work) → opening o i ≡ None → p ≡ work o i → p.spent ≡ o.spent → Same (waiting o (i ∷ is)) (waiting p is)
passes o p i is e f s = record {
  begins = ap (λ q. first_of q is) f ∙ sym (ap (λ t. or_else t (first_of (work o i) is)) e);
  due = ap (λ q. fold work q is) f;
  spent = s;
}

-- a work becomes another that does the same
pub becomes : (o : OwnState) (i j : Work) (is : List Work) → opening o i ≡ opening o j → work o i ≡ work o j → Same (waiting o (i ∷ is)) (waiting o (j ∷ is))
becomes o i j is e f = record {
  begins = ap (λ t. or_else t (first_of (work o j) is)) (sym e) ∙ ap (λ q. or_else (opening o i) (first_of q is)) (sym f);
  due = ap (λ q. fold work q is) (sym f);
  spent = refl;
}

folded : (xs ys : List Work) (o : OwnState) → fold work o (xs ++ ys) ≡ fold work (fold work o xs) ys
folded [] ys o = refl
folded (x ∷ xs) ys o = folded xs ys (work o x)

-- a work begins a turn, and what is left of it stays in the queue
pub begins : (o p : OwnState) (k : State → Plan) (i : Work) (rest is : List Work) → opening o i ≡ Some (opens k p) → work o i ≡ fold work (turn k p) rest → p.spent ≡ o.spent → Same (waiting o (i ∷ is)) (started k p (rest ++ is))
begins o p k i rest is e f s = record {
  begins = sym (ap (λ t. or_else t (first_of (work o i) is)) e);
  due = folded rest is (turn k p) ∙ ap (λ q. fold work q is) (sym f);
  spent = (let z : p.spent + (p.grant - p.grant) ≡ p.spent = omega arith in z) ∙ s;
}

pub same_more : (a b c : Seen) → Same a b → Same b c → Same a c
same_more a b c x y = record { begins = y.begins ∙ x.begins; due = y.due ∙ x.due; spent = y.spent ∙ x.spent }

pub same_none : (a : Seen) → Same a a
same_none a = record { begins = refl; due = refl; spent = refl }

-- ## Each work

if_lives : (o : OwnState) (t : Option Turn) → o.stop ≡ None → if_live o.stop t ≡ t
if_lives o t e = ap (λ s. if_live s t) e

if_stops : (o : OwnState) (t : Option Turn) (c : Stop) → o.stop ≡ Some c → if_live o.stop t ≡ None
if_stops o t c e = ap (λ s. if_live s t) e

pub library_begins : (o : OwnState) (ss : Stmts) (x : List ℕ) (f : Fun) (is : List Work) → o.stop ≡ None → call_parts ss ≡ Some (x, f) → Same (waiting o (Library ss ∷ is)) (started (library_plan x f) o is)
library_begins o ss x f is e h = begins o o (library_plan x f) (Library ss) [] is (if_lives o _ e ∙ ap (λ p. library_opens p o) h) (ap (λ s. unless_stopped s o (library_turn (call_parts ss))) e ∙ ap (λ p. library_turn p o) h) refl

pub library_passes : (o : OwnState) (ss : Stmts) (c : Stop) (is : List Work) → o.stop ≡ Some c → Same (waiting o (Library ss ∷ is)) (waiting o is)
library_passes o ss c is e = passes o o (Library ss) is (if_stops o _ c e) (sym (ap (λ s. unless_stopped s o (library_turn (call_parts ss))) e)) refl

pub go_begins : (o : OwnState) (ss : Stmts) (x : List ℕ) (f : Fun) (is : List Work) → o.stop ≡ None → call_parts ss ≡ Some (x, f) → Same (waiting o (Go ss ∷ is)) (started (go_plan f) o is)
go_begins o ss x f is e h = begins o o (go_plan f) (Go ss) [] is (if_lives o _ e ∙ ap (λ p. go_opens p o) h) (ap (λ s. unless_stopped s o (go_turn (call_parts ss))) e ∙ ap (λ p. go_turn p o) h) refl

pub go_passes : (o : OwnState) (ss : Stmts) (c : Stop) (is : List Work) → o.stop ≡ Some c → Same (waiting o (Go ss ∷ is)) (waiting o is)
go_passes o ss c is e = passes o o (Go ss) is (if_stops o _ c e) (sym (ap (λ s. unless_stopped s o (go_turn (call_parts ss))) e)) refl

pub advance_begins : (o : OwnState) (d : ℕ) (is : List Work) → o.stop ≡ None → Same (waiting o (Given (Advance d) ∷ is)) (waiting o (Until (max_timers * (d / min_delay + 2)) (o.clock + d) ∷ is))
advance_begins o d is e = becomes o (Given (Advance d)) (Until (max_timers * (d / min_delay + 2)) (o.clock + d)) is (if_lives o _ e) (ap (λ s. item_at s o (Advance d)) e)

pub advance_passes : (o : OwnState) (d : ℕ) (c : Stop) (is : List Work) → o.stop ≡ Some c → Same (waiting o (Given (Advance d) ∷ is)) (waiting o is)
advance_passes o d c is e = passes o o (Given (Advance d)) is (if_stops o _ c e) (sym (ap (λ s. item_at s o (Advance d)) e)) refl

pub until_over : (o p : OwnState) (limit : ℕ) (is : List Work) → p ≡ record o { clock = limit } → Same (waiting o (Until 0 limit ∷ is)) (waiting p is)
until_over o p limit is e = passes o p (Until 0 limit) is refl e (ap (λ (q : OwnState). q.spent) e)

pub until_stopped : (o : OwnState) (n limit : ℕ) (c : Stop) (is : List Work) → o.stop ≡ Some c → Same (waiting o (Until (suc n) limit ∷ is)) (waiting o is)
until_stopped o n limit c is e = passes o o (Until (suc n) limit) is (if_stops o _ c e) (sym (ap (λ s. unless_stopped s o (λ p. on_due (next_due limit p.timers) limit p (due_turns n limit))) e)) refl

pub until_none : (o p : OwnState) (n limit : ℕ) (is : List Work) → o.stop ≡ None → next_due limit o.timers ≡ None → p ≡ record o { clock = limit } → Same (waiting o (Until (suc n) limit ∷ is)) (waiting p is)
until_none o p n limit is e f g =
    passes o p (Until (suc n) limit) is
    (if_lives o _ e ∙ ap (λ t. timer_opens t o) f)
    (g ∙ sym (ap (λ s. unless_stopped s o (λ p. on_due (next_due limit p.timers) limit p (due_turns n limit))) e ∙ ap (λ t. on_due t limit o (due_turns n limit)) f))
    (ap (λ (q : OwnState). q.spent) g)

pub until_begins : (o : OwnState) (n limit : ℕ) (t : Timer) (is : List Work) → o.stop ≡ None → next_due limit o.timers ≡ Some t → Same (waiting o (Until (suc n) limit ∷ is)) (started (timer_plan t) (without_timer t o) (Until n limit ∷ is))
until_begins o n limit t is e f =
    begins o (without_timer t o) (timer_plan t) (Until (suc n) limit) (Until n limit ∷ []) is
    (if_lives o _ e ∙ ap (λ u. timer_opens u o) f)
    (ap (λ s. unless_stopped s o (λ p. on_due (next_due limit p.timers) limit p (due_turns n limit))) e ∙ ap (λ u. on_due u limit o (due_turns n limit)) f)
    refl

pub event_gone : (o p : OwnState) (e : Event) (c : Stop) (is : List Work) → o.stop ≡ Some c → p ≡ record o { gone = o.gone + 1 } → Same (waiting o (Given (Occurs e) ∷ is)) (waiting p is)
event_gone o p e c is h g = passes o p (Given (Occurs e)) is (if_stops o _ c h) (g ∙ sym (ap (λ s. item_at s o (Occurs e)) h)) (ap (λ (q : OwnState). q.spent) g)

pub event_missed : (o p : OwnState) (e : Event) (is : List Work) → o.stop ≡ None → node_at o.forest e.path ≡ None → p ≡ record o { missed = o.missed + 1 } → Same (waiting o (Given (Occurs e) ∷ is)) (waiting p is)
event_missed o p e is h m g =
    passes o p (Given (Occurs e)) is
    (if_lives o _ h ∙ ap (λ c. event_turn e c o) m)
    (g ∙ sym (ap (λ s. item_at s o (Occurs e)) h ∙ ap (λ c. occurs e c o) m))
    (ap (λ (q : OwnState). q.spent) g)

pub event_unheard : (o p : OwnState) (e : Event) (n : ℕ) (is : List Work) → o.stop ≡ None → node_at o.forest e.path ≡ Some n → p ≡ with_value (label_of n o.forest) n e.value o → nearest (resting p) (Some n) e.kind ≡ None → p.spent ≡ o.spent → Same (waiting o (Given (Occurs e) ∷ is)) (waiting p is)
event_unheard o p e n is h m g silent s =
    passes o p (Given (Occurs e)) is
    (if_lives o _ h ∙ (ap (λ c. event_turn e c o) m ∙ (ap (λ q. heard (nearest (resting q) (Some n) e.kind) e n q) (sym g) ∙ ap (λ f. heard f e n p) silent)))
    (sym (ap (λ s. item_at s o (Occurs e)) h ∙ (ap (λ c. occurs e c o) m ∙ (ap (λ q. occurs_at e n q) (sym g) ∙ ap (λ f. if_heard f (dispatch e.kind n (event_value e.value) 0) p) silent))))
    s

pub event_begins : (o p : OwnState) (e : Event) (n : ℕ) (f : ℕ × List ℕ) (is : List Work) → o.stop ≡ None → node_at o.forest e.path ≡ Some n → p ≡ with_value (label_of n o.forest) n e.value o → nearest (resting p) (Some n) e.kind ≡ Some f → p.spent ≡ o.spent → Same (waiting o (Given (Occurs e) ∷ is)) (started (dispatch e.kind n (event_value e.value) 0) p is)
event_begins o p e n f is h m g found s =
    begins o p (dispatch e.kind n (event_value e.value) 0) (Given (Occurs e)) [] is
    (if_lives o _ h ∙ (ap (λ c. event_turn e c o) m ∙ (ap (λ q. heard (nearest (resting q) (Some n) e.kind) e n q) (sym g) ∙ ap (λ f. heard f e n p) found)))
    (ap (λ s. item_at s o (Occurs e)) h ∙ (ap (λ c. occurs e c o) m ∙ (ap (λ q. occurs_at e n q) (sym g) ∙ ap (λ f. if_heard f (dispatch e.kind n (event_value e.value) 0) p) found)))
    s

-- a value that an `input` gets spends nothing
spent_of : (b : Bool) (p o : OwnState) → p.spent ≡ o.spent → (if b then p else o).spent ≡ o.spent
spent_of true p o e = e
spent_of false p o e = refl

pub value_spent : (l : Option Label) (n : ℕ) (v : Option (List ℕ)) (o : OwnState) → (with_value l n v o).spent ≡ o.spent
value_spent None n v o = refl
value_spent (Some (TextOf t)) n v o = refl
value_spent (Some (ElementOf tag attrs)) n None o = refl
value_spent (Some (ElementOf tag attrs)) n (Some v) o = spent_of _ _ o refl
