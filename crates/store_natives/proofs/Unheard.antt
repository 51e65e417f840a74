-- A room that is not told the numbers of the nodes asks for handlers at none: how its plan ends would hang on them.
use Rattle.std.proofs.Common.{◌≡◌, ℕ, ◌+◌, List, [], ◌∷◌, Bool, true, false, refl, sym, ap, ◌∙◌, map, length, None, arith, cond}
use Rattle.std.specs.Prelude.{nat_lt}
use Rattle.std.specs.Str.{bytes_eq}
use Rattle.std.proofs.lemmas.Slice.Eq.{bytes_eq-Decides}
use Rattle.std.specs.declared.vec.Vec.{Vec}
use Rattle.std.specs.declared.alloc.Global.{Global}
use Rattle.plain_tree.specs.Trees.{End as NoTrees}
use Rattle.store_cells.specs.declared.value.Value.{Value as StoreValue}
use Rattle.widget_meaning.specs.BunchWrites.{fired}
use Rattle.widget_meaning.specs.Costs.{give, sum, with_counts, within}
use Rattle.widget_meaning.specs.Dispatch.{dispatch, event_cost, hear, hear_found, here_or_above, listening, nearest_from, with_dispatch, with_event}
use Rattle.widget_meaning.specs.Limits.{max_cells, max_node_depth, max_nodes, max_slots, max_units}
use Rattle.widget_meaning.specs.OwnState.{Amounts, Handler, State, with_own}
use Rattle.widget_meaning.specs.Plan.{Do, End, Ended, Halt, Hear, Hearing, Job, Out, OutOfFuel, Plan, Ret, Stopped, after, and_then, run}
use Rattle.widget_meaning.specs.Trees.{parent}
use Rattle.widget_meaning.specs.Values as values
use Rattle.widget_meaning.specs.Values.{Completion, Normal, Own, Undefined, Value}
use Rattle.js_image.specs.Image.{Rest}
use Rattle.js_values.specs.Answers.{Answers, Goes}
use Rattle.js_values.specs.declared.outcome.NativeOut.{NativeOut}
use Rattle.js_values.specs.declared.outcome.NativeOut.TheVariants as native
use Rattle.js_values.specs.declared.outcome.Plan.TheVariants as calls

pub no_true : false ≡ true → ⊥
no_true e = cc

-- whether a plan that gets no fuel has an end
abbrev is_ended : End → Bool
is_ended (Ended o) = true
is_ended (Stopped c) = false
is_ended OutOfFuel = false

-- what a job is does not matter
abbrev body : Job → State → Plan
body j s = Ret Normal s

abbrev ends : Plan → Bool
ends p = is_ended (run body 0 p).how

-- what asks for a job once it is paid has no end
asked : (a : Amounts) (s t : State) (j : Job) (m k : Completion → State → Plan) → ends (and_then (within a s (Do j t m)) k) ≡ false
asked a s t j m k = by (nat_lt max_units a.units) (nat_lt max_cells a.cells) (nat_lt max_slots a.slots) (nat_lt max_nodes a.nodes)
  where
    by : (p q r n : Bool) → ends (and_then (cond p (Halt values.Units s) (cond q (Halt values.Cells s) (cond r (Halt values.Slots s) (cond n (Halt values.Nodes s) (Do j t m))))) k) ≡ false
    by true q r n = refl
    by false true r n = refl
    by false false true n = refl
    by false false false true = refl
    by false false false false = refl

-- node 0 listens to a type, and node 1, which has no parent, does not
module _ (kind : List ℕ) (u : State) (here : listening u 0 kind ≡ 0 ∷ []) (silent : listening u 1 kind ≡ []) (top : parent 1 u.own.forest ≡ None) where
  heard : (d : ℕ) → dispatch kind 0 Undefined d u ≡ hear kind 0 Undefined d 0 (0 ∷ []) u
  heard d = ap (λ fs. hear_found (here_or_above 0 fs (λ _. nearest_from max_node_depth u (parent 0 u.own.forest) kind)) kind 0 Undefined d u) here

  unheard : (d : ℕ) → dispatch kind 1 Undefined d u ≡ give Undefined u
  unheard d =
      ap (λ fs. hear_found (here_or_above 1 fs (λ _. nearest_from max_node_depth u (parent 1 u.own.forest) kind)) kind 1 Undefined d u) silent
      ∙ ap (λ o. hear_found (nearest_from max_node_depth u o kind) kind 1 Undefined d u) top

  module _ (last : Value) (d : ℕ) where
    at_first : (ns : List ℕ) → ends (fired kind (0 ∷ ns) last d u) ≡ false
    at_first ns =
        let t : State = with_counts u (sum u.own.counts event_cost) in
        let first : Hearing = record { kind = kind; target = 0; node = 0; value = Undefined; event = Own (length t.own.heap); first = 0; others = []; depth = d } in
        ap (λ p. ends (and_then p (after (λ v x. fired kind ns last d x)))) (heard d)
        ∙ asked (sum u.own.counts event_cost) u (with_dispatch (with_event t kind 0 0 Undefined)) (Hear first) Ret (after (λ v x. fired kind ns last d x))

    at_others : (ns : List ℕ) → fired kind (map (λ _. 1) ns) last d u ≡ give last u
    at_others [] = refl
    at_others (n ∷ ns) = ap (λ p. and_then p (after (λ v t. fired kind (map (λ _. 1) ns) last d t))) (unheard d) ∙ at_others ns

    module _ (p : Plan) (s : State) (before left : ℕ) where
      -- a plan goes on as the calls at these nodes, by what a node is
      abbrev pub GoesOn : List ℕ → (ℕ → ℕ) → Type 0
      GoesOn ns node = (c : ℕ) × (q : Plan) × (before ≡ c + left) × Goes p s c q × (q ≡ fired kind (map node ns) last d u)

      -- so it has an end, and has none
      two_ways : (n : ℕ) (ns : List ℕ) → ((node : ℕ → ℕ) → GoesOn (n ∷ ns) node) → ⊥
      two_ways n ns goes =
          let a = goes (λ _. 0) in
          let b = goes (λ _. 1) in
          let same : a.0 ≡ b.0 = omega (arith, a.2, b.2) in
          let none : is_ended (run body (a.0 + 0) p).how ≡ false = ap (λ (o : Out). is_ended o.how) (a.3.on body 0) ∙ ap ends a.4 ∙ at_first (map (λ _. 0) ns) in
          let some : is_ended (run body (b.0 + 0) p).how ≡ true = ap (λ (o : Out). is_ended o.how) (b.3.on body 0) ∙ ap ends b.4 ∙ ap ends (at_others (n ∷ ns)) in
          no_true (sym none ∙ ap (λ c. is_ended (run body (c + 0) p).how) same ∙ some)

      pub nowhere : (ns : List ℕ) → ((node : ℕ → ℕ) → GoesOn ns node) → ns ≡ []
      nowhere [] goes = refl
      nowhere (n ∷ ns) goes = absurd (two_ways n ns goes)

-- what the store does not hold, where a node listens to a type, and another does not
abbrev pub listener : List ℕ → Rest → Rest
listener kind r = record {
  nodes = r.nodes;
  state = with_own r.state (record r.state.own {
    forest = NoTrees;
    kept = record { handlers = record { kind = kind; func = 0 } ∷ []; mark = []; is_protected = false } ∷ [];
  });
  few = r.few;
}

-- it listens
pub it_listens : (kind : List ℕ) → map (λ (h : Handler). h.func) (cond (bytes_eq kind kind) (record { kind = kind; func = 0 } ∷ []) []) ≡ 0 ∷ []
it_listens kind = ap (λ b. map (λ (h : Handler). h.func) (cond b (record { kind = kind; func = 0 } ∷ []) [])) ((bytes_eq-Decides kind kind).1 refl)

-- An answer that a plan gives whatever numbers the nodes have, in a state where a node listens to a type and another does not.
pub record IsGivenAnyhow (see : StoreValue → Value) (o : NativeOut) (kind : List ℕ) : Type 0 where
  pub depth : ℕ
  pub plan : Plan
  pub from : State
  pub to : State
  pub before : ℕ
  pub left : ℕ
  pub here : listening to 0 kind ≡ 0 ∷ []
  pub silent : listening to 1 kind ≡ []
  pub top : parent 1 to.own.forest ≡ None
  pub answers : (node : ℕ → ℕ) → Answers see node depth plan from o to before left

-- it asks for handlers at no node
pub at_none : (see : StoreValue → Value) (kind : List ℕ) (nodes : Vec ℕ Global) (last : StoreValue) → IsGivenAnyhow see (native.Call (calls.Fire kind nodes last)) kind → nodes.items ≡ []
at_none see kind nodes last g = nowhere kind g.to g.here g.silent g.top (see last) g.depth g.plan g.from g.before g.left nodes.items (λ node. (g.answers node).other (λ x. x))
