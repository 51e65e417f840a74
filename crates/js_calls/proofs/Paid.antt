-- What is known of the state after a cost that was paid.
use Rattle.std.proofs.Common.{◌≡◌, ℕ, Bool, true, false, List, [], ◌∷◌, ◌++◌, length, refl, sym, ap, ◌∙◌, if◌then◌else◌}
use Rattle.std.specs.Prelude.{None, nat_lt, slice_index_or}
use Rattle.widget_meaning.specs.Limits.{max_cells, max_nodes, max_slots, max_units}
use Rattle.widget_meaning.specs.Values.{Value, Own, Completion, Is, StopCause, Units, Cells, Slots, Nodes}
use Rattle.widget_meaning.specs.OwnState.{Amounts, Cell, Scope, State, scope_at, with_new_cell, with_new_scope}
use Rattle.widget_meaning.specs.Plan.{Plan, Ret, Halt}
use Rattle.widget_meaning.specs.Costs.{make, object_cost, pay, scope_cost, sum, with_counts, within}

-- what a plan that ends ends with
record Ends (o p : Completion) (t u : State) : Type 0 where
  how : o ≡ p
  where_it_ends : t ≡ u

ends : (o p : Completion) (t u : State) → Ret o t ≡ Ret p u → Ends o p t u
ends o p t u h = record { how = cc; where_it_ends = cc }

no_stop : (c : StopCause) (s : State) (p : Completion) (u : State) → Halt c s ≡ Ret p u → ⊥
no_stop c s p u h = cc

paid_cases : (a b c d : Bool) (s : State) (o p : Completion) (t u : State)
    → (if a then Halt Units s else if b then Halt Cells s else if c then Halt Slots s else if d then Halt Nodes s else Ret o t) ≡ Ret p u → Ends o p t u
paid_cases true b c d s o p t u h = absurd (no_stop Units s p u h)
paid_cases false true c d s o p t u h = absurd (no_stop Cells s p u h)
paid_cases false false true d s o p t u h = absurd (no_stop Slots s p u h)
paid_cases false false false true s o p t u h = absurd (no_stop Nodes s p u h)
paid_cases false false false false s o p t u h = ends o p t u h

paid : (a : Amounts) (s : State) (o p : Completion) (t u : State) → within a s (Ret o t) ≡ Ret p u → Ends o p t u
paid a s o p t u h = paid_cases (nat_lt max_units a.units) (nat_lt max_cells a.cells) (nat_lt max_slots a.slots) (nat_lt max_nodes a.nodes) s o p t u h

own_same : (m n : ℕ) → Is (Own m) ≡ Is (Own n) → m ≡ n
own_same m n h = cc

last_scope : (cs : List Scope) (c d : Scope) → slice_index_or (cs ++ c ∷ []) (length cs) d ≡ c
last_scope [] c d = refl
last_scope (x ∷ cs) c d = last_scope cs c d

-- a scope that was made has this number, and is what it was made of
pub scope_made : (c : Scope) (s u : State) (n : ℕ) → ((k : ℕ → State → Plan) → pay (scope_cost c) s (λ t. k (length t.own.scopes) (with_new_scope t c)) ≡ k n u) → scope_at u n ≡ c
scope_made c s u n h =
    let a : Amounts = sum s.own.counts (scope_cost c) in
    let t : State = with_counts s a in
    let e : Ends (Is (Own (length s.own.scopes))) (Is (Own n)) (with_new_scope t c) u = paid a s _ _ _ _ (h (λ m v. Ret (Is (Own m)) v)) in
    (λ i. slice_index_or (ap (λ (v : State). v.own.scopes) (sym e.where_it_ends) i) (sym (own_same (length s.own.scopes) n e.how) i) (record { outer = None; pairs = [] }))
    ∙ last_scope s.own.scopes c (record { outer = None; pairs = [] })

-- an object that was made leaves the scopes
pub scopes_stay : (c : Cell) (s u : State) (v : Value) → ((k : Value → State → Plan) → make c 0 s k ≡ k v u) → u.own.scopes ≡ s.own.scopes
scopes_stay c s u v h =
    let a : Amounts = sum s.own.counts (object_cost 0) in
    let e : Ends (Is (Own (length s.own.heap))) (Is v) (with_new_cell (with_counts s a) c) u = paid a s _ _ _ _ (h (λ m w. Ret (Is m) w)) in
    ap (λ (w : State). w.own.scopes) (sym e.where_it_ends)
