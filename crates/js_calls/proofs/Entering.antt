-- A function is entered: its scope is made, then its declared functions, and its body runs.
use Rattle.std.proofs.Common.{◌≡◌, ℕ, suc, ◌+◌, ◌<◌, ◌≤◌, Bool, true, false, List, length, refl, sym, ap, ◌∙◌, Option, Some, arith, if◌then◌else◌}
use Rattle.std.specs.Prelude.{nat_lt}
use Rattle.std.proofs.lemmas.Bool.Decides.{nat_tests}
use Rattle.js_tree.specs.declared.nodes.FunId.{FunId}
use Rattle.js_tree.specs.Plain.{Fun, FunAt, Funs, Stmts}
use Rattle.js_tree.specs.Lists.{fun_list}
use Rattle.js_tree.specs.Forest.{Forest, fun_at}
use Rattle.widget_meaning.specs.Limits.{max_depth}
use Rattle.widget_meaning.specs.Values.{Value, Depth}
use Rattle.widget_meaning.specs.OwnState.{Function, Scope, State, with_new_scope}
use Rattle.widget_meaning.specs.Plan.{Halt, Plan}
use Rattle.widget_meaning.specs.Costs.{pay, scope_cost}
use Rattle.widget_meaning.specs.Scopes.{call_scope, without_name}
use Rattle.widget_meaning.specs.Calls.{call_body, declare, enter, enter_scope}
use Rattle.js_flow.specs.Parts.{body_of, funs_of}
use Rattle.js_calls.specs.Called.{declared_at}

-- a function without its name has the same parts
same_funs : (g : Fun) → funs_of (without_name g) ≡ funs_of g
same_funs (FunAt at places name params body funs) = refl

same_body : (g : Fun) → body_of (without_name g) ≡ body_of g
same_body (FunAt at places name params body funs) = refl

pub declared_funs : (f : Forest) (id : FunId) (b : Bool) → funs_of (declared_at f id b) ≡ funs_of (fun_at f id)
declared_funs f id true = same_funs (fun_at f id)
declared_funs f id false = refl

pub declared_body : (f : Forest) (id : FunId) (b : Bool) → body_of (declared_at f id b) ≡ body_of (fun_at f id)
declared_body f id true = same_body (fun_at f id)
declared_body f id false = refl

-- what comes after the scope
abbrev pub then_declare : Funs → Stmts → ℕ → ℕ → State → Plan
then_declare funs body d n t = declare (fun_list funs) n t (call_body body (record { scope = Some n; depth = d }))

unpacked : (g : Fun) (o : Option ℕ) (f : Value) (vs : List Value) (d : ℕ) (s : State)
    → enter_scope g o f vs d s ≡ pay (scope_cost (call_scope g o f vs)) s (λ t. then_declare (funs_of g) (body_of g) d (length t.own.scopes) (with_new_scope t (call_scope g o f vs)))
unpacked (FunAt at places name params body funs) o f vs d s = refl

pub too_deep : (g : Fun) (o : Option ℕ) (f : Value) (vs : List Value) (n : ℕ) (s : State) → 200 ≤ n → Halt Depth s ≡ enter (Function g o) f vs (suc n) s
too_deep g o f vs n s h = ap (λ (b : Bool). if b then Halt Depth s else enter_scope g o f vs (suc n) s) (sym over)
  where
    over : nat_lt max_depth (suc n) ≡ true
    over = grind (arith, nat_tests, h)

pub entered : (g : Fun) (funs : Funs) (body : Stmts) (o : Option ℕ) (f : Value) (vs : List Value) (n d : ℕ) (s : State) (c : Scope) (q : Plan)
    → n < 200 → d ≡ n + 1 → funs_of g ≡ funs → body_of g ≡ body → call_scope g o f vs ≡ c
    → pay (scope_cost c) s (λ t. then_declare funs body d (length t.own.scopes) (with_new_scope t c)) ≡ q → q ≡ enter (Function g o) f vs (suc n) s
entered g funs body o f vs n d s c q lt deep e b same h =
    sym h
    ∙ (λ i. pay (scope_cost (sym same i)) s (λ t. then_declare (sym e i) (sym b i) ((deep ∙ one) i) (length t.own.scopes) (with_new_scope t (sym same i))))
    ∙ sym (unpacked g o f vs (suc n) s)
    ∙ ap (λ (b : Bool). if b then Halt Depth s else enter_scope g o f vs (suc n) s) (sym under)
  where
    one : n + 1 ≡ suc n
    one = omega arith

    under : nat_lt max_depth (suc n) ≡ false
    under = grind (arith, nat_tests, lt)
