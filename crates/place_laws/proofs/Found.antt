-- Variables, references and listening nodes: what is found is the same.
use Rattle.std.proofs.Common.{◌≡◌, ℕ, zero, suc, ◌+◌, List, [], ◌∷◌, length, Option, Some, None, refl, sym, ap, subst, ◌∙◌}
use Rattle.std.specs.Prelude.{option_map}
use Rattle.widget_meaning.specs.Limits.{max_node_depth}
use Rattle.widget_meaning.specs.Values.{Value, Own, Reference, Variable, Property, Found}
use Rattle.widget_meaning.specs.Trees.{parent}
use Rattle.widget_meaning.specs.OwnState.{State, lookup, scope_at, plain_object, new_bunch, with_new_cell}
use Rattle.widget_meaning.specs.Plan.{Place, Hearing}
use Rattle.widget_meaning.specs.Properties.{or_else}
use Rattle.widget_meaning.specs.Scopes.{scope_having, scope_of, value_in, variable, set_in, assign}
use Rattle.widget_meaning.specs.Calls.{with_variable}
use Rattle.widget_meaning.specs.Expressions.{referred}
use Rattle.widget_meaning.specs.Dispatch.{listening, here_or_above, nearest_from, nearest, event_pairs, with_event, with_dispatch}
use Rattle.place_laws.proofs.Near.{N, bare, itself, moved, born, births, get_bare}

having_bare : (m : ℕ) (s : State) (o : Option ℕ) (x : List ℕ) → scope_having m (bare s) o x ≡ scope_having m s o x
having_bare zero s o x = refl
having_bare (suc m) s None x = refl
having_bare (suc m) s (Some i) x = ap (λ (r : Option ℕ). or_else (option_map (λ v. i) (lookup (scope_at s i).pairs x)) (λ _. r)) (having_bare m s (scope_at s i).outer x)

value_bare : (s : State) (o : Option ℕ) (x : List ℕ) → value_in (bare s) o x ≡ value_in s o x
value_bare s None x = refl
value_bare s (Some i) x = refl

pub variable_bare : (s : State) (p : Place) (x : List ℕ) → variable (bare s) p x ≡ variable s p x
variable_bare s p x = ap (λ (o : Option ℕ). value_in (bare s) o x) (having_bare (length s.own.scopes) s p.scope x) ∙ value_bare s (scope_of s p x) x

pub referred_bare : (r : Reference) (p : Place) (s : State) → referred r p (bare s) ≡ referred r p s
referred_bare (Variable x) p s = variable_bare s p x
referred_bare (Property b x) p s = get_bare s b x
referred_bare (Found v) p s = refl

set_bare : (s : State) (o : Option ℕ) (x : List ℕ) (v : Value) → set_in (bare s) o x v ≡ bare (set_in s o x v)
set_bare s None x v = refl
set_bare s (Some i) x v = refl

pub assign_kept : (s z : State) (p : Place) (x : List ℕ) (v : Value) → N s z → N (assign s p x v) (assign z p x v)
assign_kept s z p x v e = moved (λ y. N (assign s p x v) (assign y p x v)) s z e
    (record { same = ap (λ (o : Option ℕ). set_in (bare s) o x v) (having_bare (length s.own.scopes) s p.scope x) ∙ set_bare s (scope_of s p x) x v })

pub variable_kept : (s z : State) (i : ℕ) (xs : List (List ℕ)) (v : Value) → N s z → N (with_variable s i xs v) (with_variable z i xs v)
variable_kept s z i [] v e = e
variable_kept s z i (x ∷ xs) v e = moved (λ y. N (with_variable s i (x ∷ xs) v) (with_variable y i (x ∷ xs) v)) s z e (record { same = refl })

near_bare : (m : ℕ) (s : State) (o : Option ℕ) (kind : List ℕ) → nearest_from m (bare s) o kind ≡ nearest_from m s o kind
near_bare zero s None kind = refl
near_bare zero s (Some n) kind = refl
near_bare (suc m) s None kind = refl
near_bare (suc m) s (Some n) kind = ap (λ (r : Option (ℕ × List ℕ)). here_or_above n (listening s n kind) (λ _. r)) (near_bare m s (parent n s.own.forest) kind)

pub nearest_bare : (s : State) (o : Option ℕ) (kind : List ℕ) → nearest (bare s) o kind ≡ nearest s o kind
nearest_bare s o kind = near_bare (max_node_depth + 1) s o kind

-- the dispatch at a node, by what was born before it
abbrev pub heard_at : List ℕ → ℕ → ℕ → Value → ℕ → List ℕ → ℕ → State → Hearing
heard_at kind target node value f fs d t = record { kind = kind; target = target; node = node; value = value; event = Own (length t.own.heap); first = f; others = fs; depth = d }

pub event_kept : (t : State) (kind : List ℕ) (target node : ℕ) (value : Value) → N (with_dispatch (with_event t kind target node value)) (with_dispatch (with_event (bare t) kind target node value))
event_kept t kind target node value =
    let one : N (with_new_cell t (plain_object (event_pairs kind (length t.own.heap) value))) (with_new_cell (bare t) (plain_object (event_pairs kind (length t.own.heap) value))) = born t (bare t) (plain_object (event_pairs kind (length t.own.heap) value)) (itself t) in
    let two = born _ _ (new_bunch (target ∷ [])) one in
    let three = born _ _ (new_bunch (node ∷ [])) two in
    let all : N (with_event t kind target node value) (with_event (bare t) kind target node value) = subst (λ n. N (with_event t kind target node value) (with_new_cell (with_new_cell (with_new_cell (bare t) (plain_object (event_pairs kind n value))) (new_bunch (target ∷ []))) (new_bunch (node ∷ [])))) (sym (births t)) three in
    record { same = ap with_dispatch all.same }
