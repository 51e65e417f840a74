-- How readings are put together.
use Rattle.std.proofs.Common.{◌≡◌, ℕ, ◌+◌, ◌<◌, ◌≤◌, List, refl, ap, sym, subst, ◌∙◌, length, arith}
use Rattle.std.specs.Prelude.{Result, Ok, Err}
use Rattle.js_tree.specs.declared.nodes.ExprId.{ExprId}
use Rattle.js_tree.specs.declared.nodes.StmtId.{StmtId}
use Rattle.js_tree.specs.Plain.{Expr, Stmt}
use Rattle.js_tree.specs.Forest.{Forest, Keeps, expr_at, size}
use Rattle.js_grammar.specs.Grammar.{Token}
use Rattle.js_grammar.specs.Machine.{Frame, State, Gives, Did}
use Rattle.js_cursor.specs.declared.refusal.Refusal.{Refusal}
use Rattle.js_cursor.specs.declared.refusal.Refusal.TheVariants as refusal
use Rattle.js_cursor.specs.Reads.{goes, Refuses, MadeExpr, MadeStmt}
use Rattle.js_descent.specs.Rows.{IsReady, Reads, ReadsExpr, ReadsStmt, ReadsOne}

pub keeps_same : (f : Forest) → Keeps f f
keeps_same f = record { exprs = λ i lt. (lt, refl); stmts = λ i lt. (lt, refl); funs = λ i lt. (lt, refl) }

pub keeps_then : (a b c : Forest) → Keeps a b → Keeps b c → Keeps a c
keeps_then a b c h g = record {
  exprs = λ i lt. let x = h.exprs i lt in let y = g.exprs i (x.0) in (y.0, y.1 ∙ x.1);
  stmts = λ i lt. let x = h.stmts i lt in let y = g.stmts i (x.0) in (y.0, y.1 ∙ x.1);
  funs = λ i lt. let x = h.funs i lt in let y = g.funs i (x.0) in (y.0, y.1 ∙ x.1);
}

-- refused further on
pub refuses_before : (start start' : List Frame → State) (g : List Frame → List Frame) (ts : List Token) (at at' : ℕ) (e : Refusal) → ((k : List Frame) → goes ts (start k) at ≡ goes ts (start' (g k)) at') → Refuses start' ts at' e → Refuses start ts at e
refuses_before start start' g ts at at' (refusal.Syntax place) go h = (h.0, λ k. go k ∙ h.1 (g k))
refuses_before start start' g ts at at' (refusal.TooDeep place) go h = (h.0, λ k. go k ∙ h.1 (g k))
refuses_before start start' g ts at at' refusal.Memory go h = tt

-- one reading after another
pub reads_then : {start : List Frame → State} {left left' : List Frame → List Frame} {ts : List Token} {at mid next : ℕ} {a b c : Forest} {x y : ExprId} → Reads start left ts at a b x mid → Reads (λ k. Gives (expr_at b x) (left k)) left' ts mid b c y next → Reads start left' ts at a c y next
reads_then {a} {b} {c} h g = record {
  in_text = g.in_text;
  later = omega (arith, h.later, g.later);
  few = omega (arith, h.few, g.few);
  kept = keeps_then a b c h.kept g.kept;
  is_in = g.is_in;
  leads = λ k. h.leads k ∙ g.leads k;
}

pub refuses_then : {start : List Frame → State} {left : List Frame → List Frame} {ts : List Token} {at mid : ℕ} {a b : Forest} {x : ExprId} (e : Refusal) → Reads start left ts at a b x mid → Refuses (λ k. Gives (expr_at b x) (left k)) ts mid e → Refuses start ts at e
refuses_then {start} {left} {ts} {at} {mid} {a} {b} {x} e h g = refuses_before start (λ k. Gives (expr_at b x) (left k)) (λ k. k) ts at mid e h.leads g

pub ready_next : {start : List Frame → State} {left : List Frame → List Frame} {ts : List Token} {at next : ℕ} {a b : Forest} {x : ExprId} (d : ℕ) → IsReady ts at d a → Reads start left ts at a b x next → IsReady ts next d b
ready_next d h g = record { in_text = g.in_text; shallow = h.shallow; short = h.short; few = omega (arith, h.few, g.few) }

-- the same, with more to come
pub reads_in : {start : List Frame → State} {left : List Frame → List Frame} {ts : List Token} {at next : ℕ} {a b : Forest} {x : ExprId} (g : List Frame → List Frame) → Reads start left ts at a b x next → Reads (λ k. start (g k)) (λ k. left (g k)) ts at a b x next
reads_in g h = record { in_text = h.in_text; later = h.later; few = h.few; kept = h.kept; is_in = h.is_in; leads = λ k. h.leads (g k) }

-- an expression is added at the end
pub ends_made : (start : List Frame → State) (left : List Frame → List Frame) (ts : List Token) (at next : ℕ) (a b c : Forest) (e : Expr) (result : Result (ExprId × ℕ) Refusal) → next < length ts → at < next → size b + 1 + at ≤ size a + next → Keeps a b → ((k : List Frame) → goes ts (start k) at ≡ goes ts (Gives e (left k)) next) → MadeExpr b c e next result → ReadsExpr start left ts at a c result
ends_made start left ts at next a b c e (Ok x) in_text later few kept leads h =
    let adds = h.0 in
    subst (λ n. Reads start left ts at a c (x.0) n) (sym (h.1)) (record {
      in_text = in_text;
      later = later;
      few = omega (arith, few, adds.sized);
      kept = keeps_then a b c kept adds.kept;
      is_in = adds.is_in;
      leads = λ k. leads k ∙ ap (λ y. goes ts (Gives y (left k)) next) (sym adds.here);
    })
ends_made start left ts at next a b c e (Err f) in_text later few kept leads h = subst (λ g. Refuses start ts at g) (sym h) tt

-- a statement is added at the end
pub stmt_made : (start : List Frame → State) (ts : List Token) (at next : ℕ) (a b c : Forest) (s : Stmt) (result : Result (StmtId × ℕ) Refusal) → next < length ts → at < next → size b + 1 + at ≤ size a + next → Keeps a b → ((k : List Frame) → goes ts (start k) at ≡ goes ts (Did s k) next) → MadeStmt b c s next result → ReadsOne start ts at a c result
stmt_made start ts at next a b c s (Ok x) in_text later few kept leads h =
    let adds = h.0 in
    subst (λ n. ReadsStmt start ts at a c (x.0) n) (sym (h.1)) (record {
      in_text = in_text;
      later = later;
      few = omega (arith, few, adds.sized);
      kept = keeps_then a b c kept adds.kept;
      is_in = adds.is_in;
      leads = λ k. leads k ∙ ap (λ y. goes ts (Did y k) next) (sym adds.here);
    })
stmt_made start ts at next a b c s (Err f) in_text later few kept leads h = subst (λ g. Refuses start ts at g) (sym h) tt
