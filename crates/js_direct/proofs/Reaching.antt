-- Targets by their nodes, and what a step of an object waits for.
use Rattle.std.proofs.Common.{◌≡◌, ℕ, zero, suc, ◌+◌, ◌-◌, ◌≤◌, List, [], ◌∷◌, refl, sym, ap, ◌∙◌, subst, arith}
use Rattle.std.specs.Global.{Box}
use Rattle.std.specs.Prelude.{IfOk, Result, Ok, Err, ◌++◌}
use Rattle.js_tree.specs.Forest.{AreExprParts, Forest, expr_at, plain_expr, plain_form}
use Rattle.js_tree.specs.Plain.{expr_names, expr_place}
use Rattle.js_tree.specs.declared.nodes.Expr.{Expr}
use Rattle.js_tree.specs.declared.nodes.Expr.TheVariants as expr
use Rattle.js_tree.specs.declared.nodes.ExprId.{ExprId}
use Rattle.js_tree.specs.declared.nodes.StepOp.{StepOp}
use Rattle.store_cells.specs.declared.value.Value.{Value}
use Rattle.store_cells.specs.declared.value.Value.TheVariants as value
use Rattle.store_cells.specs.Cells.{Cells, PlainCell}
use Rattle.widget_meaning.specs.Values as meaning
use Rattle.widget_meaning.specs.OwnState.{State}
use Rattle.widget_meaning.specs.Plan as plan
use Rattle.widget_meaning.specs.Plan.{Plan, Ret, after, and_then, on_value}
use Rattle.widget_meaning.specs.Calls.{to_primitive}
use Rattle.widget_meaning.specs.Expressions.{expression, step_converted, target}
use Rattle.widget_meaning.specs.Meaning.{body}
use Rattle.widget_meaning.proofs.Runs.{and_then_ret}
use Rattle.js_image.specs.Image.{image, seen}
use Rattle.js_image.specs.Held.{IsFine}
use Rattle.js_values.specs.Operands.{IsPrimitive, plain}
use Rattle.js_flow.specs.declared.frame.Frame.{Frame}
use Rattle.js_flow.specs.declared.frame.Frame.TheVariants as frame
use Rattle.js_flow.specs.declared.frame.FormFrame.TheVariants as form
use Rattle.js_flow.specs.declared.frame.CallFrame.TheVariants as call
use Rattle.js_flow.specs.declared.job.Completion.{Completion}
use Rattle.js_flow.specs.declared.job.Completion.TheVariants as completion
use Rattle.js_flow.specs.declared.job.Next.{Next}
use Rattle.js_flow.specs.declared.job.Next.TheVariants as next
use Rattle.js_flow.specs.declared.job.Place.{Place}
use Rattle.js_flow.specs.declared.job.Reference.{Reference}
use Rattle.js_flow.specs.Parts.{forest_at}
use Rattle.js_flow.specs.Views.{completion_of, place_of, reference_of}
use Rattle.js_flow.specs.Frames.{next_plan}
use Rattle.js_flow.specs.Fine.{FineFrames, FineReference, IsPlace}
use Rattle.js_flow.specs.Free.{frames_free, next_free}
use Rattle.js_direct.specs.declared.run.Ended.{Ended}
use Rattle.js_direct.specs.declared.run.Ended.TheVariants as ended
use Rattle.js_direct.specs.declared.run.Run.{Run}
use Rattle.js_direct.specs.Comes.{Comes, ComesTo, FineWith, came, ended_as, outward}
use Rattle.js_expressions.proofs.Passing.{IsAbrupt}
use Rattle.js_direct.proofs.Reducing.{after_each, counts, ends, starts, under}
use Rattle.js_direct.proofs.Parts.{came_end}
use Rattle.js_direct.proofs.FormFrames.{other_abrupt, other_end}

module _ (fs : List Forest) (code : ℕ) (f : Forest) (id : ExprId) (node : Expr) (here : f ≡ forest_at fs code)
    (same : plain_expr f node (expr_place (expr_at f id)) (expr_names (expr_at f id)) ≡ expr_at f id) where
  pub node_same : plain_expr (forest_at fs code) node (expr_place (expr_at (forest_at fs code) id)) (expr_names (expr_at (forest_at fs code) id)) ≡ expr_at (forest_at fs code) id
  node_same = subst (λ (g : Forest). plain_expr g node (expr_place (expr_at g id)) (expr_names (expr_at g id)) ≡ expr_at g id) here same

  -- a target by its node
  pub at_target : (p : plan.Place) (s : State) → body (plan.Target (expr_at (forest_at fs code) id) p) s ≡ target (plain_form (forest_at fs code) node) p s
  at_target p s = sym (ap (λ e. body (plan.Target e p) s) node_same)

  -- an expression
  pub at_eval : (p : plan.Place) (s : State) → body (plan.Eval (expr_at (forest_at fs code) id) p) s ≡ expression (plain_form (forest_at fs code) node) p s
  at_eval p s = sym (ap (λ e. body (plan.Eval e p) s) node_same)

pub parts_at : (fs : List Forest) (code : ℕ) (f : Forest) (node form : Expr) → f ≡ forest_at fs code → node ≡ form → AreExprParts f node → AreExprParts (forest_at fs code) form
parts_at fs code f node form here is h = subst (λ (e : Expr). AreExprParts (forest_at fs code) e) is (subst (λ (g : Forest). AreExprParts g node) here h)

-- an expression that stands where a target may be
pub found_form : (f : Forest) (node : Expr) (p : plan.Place) (s : State) → ((x : List ℕ) → node ≡ expr.Name x → ⊥) → ((e : ExprId) (x : List ℕ) → node ≡ expr.Dot e x → ⊥) → ((a b : ExprId) → node ≡ expr.Sub a b → ⊥)
    → target (plain_form f node) p s ≡ and_then (expression (plain_form f node) p s) (after (λ v t. Ret (meaning.Refers (meaning.Found v)) t))
found_form f (expr.Name x) p s a b c = absurd (a x refl)
found_form f (expr.Dot e x) p s a b c = absurd (b e x refl)
found_form f (expr.Sub e i) p s a b c = absurd (c e i refl)
found_form f _ p s a b c = refl

-- a primitive is the same in each store
pub seen_plain : (w : ℕ) (cells : List PlainCell) (v : Value) → IsPrimitive v → seen w cells v ≡ plain v
seen_plain w cells value.Undefined h = refl
seen_plain w cells value.Null h = refl
seen_plain w cells (value.Bool b) h = refl
seen_plain w cells (value.Num n) h = refl
seen_plain w cells (value.Text t) h = refl
seen_plain w cells (value.Ref i) h = absurd h

pub fine_plain : (w : ℕ) (cells : List PlainCell) (v : Value) → IsPrimitive v → IsFine w cells v
fine_plain w cells value.Undefined h = tt
fine_plain w cells value.Null h = tt
fine_plain w cells (value.Bool b) h = tt
fine_plain w cells (value.Num n) h = tt
fine_plain w cells (value.Text t) h = tt
fine_plain w cells (value.Ref i) h = absurd h

-- a step of an object waits for its conversion
module _ (fs : List Forest) (w : ℕ) (s : Cells) (op : StepOp) (v : Value) (p : Place) (of : Box Reference) where
  abbrev waiting : List Frame
  waiting = frame.Call (call.ToPrimitive p.depth) ∷ frame.Form (form.StepConverted op of p) ∷ []

  abbrev converts : State → Plan
  converts t = and_then (to_primitive (seen w s.cells v) p.depth t) (step_converted op (reference_of w s.cells of.value) (place_of w s.cells p))

  pub converted : (had has : Run) (how : Ended) (u : Value) → how ≡ ended.Left → has.units ≡ had.units → has.next ≡ next.Give (completion.Is v) → has.waits.items ≡ waiting
      → IsFine w s.cells v → FineReference w s.cells of.value → IsPlace fs w s.cells p → Comes fs w s s 4 converts had has how u
  converted had has how u is units following waits fine held at = subst (λ (h : Ended). Comes fs w s s 4 converts had has h u) (sym is) (record {
    units = omega (arith, units);
    reduces = λ r. counts 0 _ _ _ (omega (arith, units)) (goes (image fs r w s));
    fine = (subst (λ (n : Next). FineWith fs w s.cells n) (sym following) fine, subst (λ (frames : List Frame). FineFrames fs w s.cells frames) (sym waits) (tt, ((held, at), tt)));
    near = omega (arith, units, ap next_free following, ap frames_free waits);
  })
    where
      goes : (t : State) → converts t ≡ came fs w s.cells ended.Left (ended_as ended.Left u) has t
      goes t =
          (λ i. and_then (to_primitive (seen w s.cells v) p.depth t) (λ a x. sym (and_then_ret (step_converted op (reference_of w s.cells of.value) (place_of w s.cells p) a x)) i))
          ∙ (λ i. and_then (next_plan fs w s.cells (sym following i) t) (outward fs w s.cells (sym waits i)))

-- the same by the clauses of `wait`: the conversion waits first, and then the step
pub converted_ok : {E : Type 0} (result : Result Ended E) (op : StepOp) (v v1 : Value) (p : Place) (of : Box Reference) (x : Reference) (had first mid has : Run) (u : Value)
    → had.waits.items ≡ [] → first.units ≡ had.units → first.waits ≡ had.waits → first.next ≡ next.Give (completion.Is v1) → v1 ≡ v → of.value ≡ x
    → mid.waits.items ≡ first.waits.items ++ frame.Call (call.ToPrimitive p.depth) ∷ [] → mid.next ≡ first.next → mid.units ≡ first.units
    → IfOk result (λ h. h ≡ ended.Left) → IfOk result (λ h. has.waits.items ≡ mid.waits.items ++ frame.Form (form.StepConverted op of p) ∷ []) → IfOk result (λ h. has.next ≡ mid.next) → IfOk result (λ h. has.units ≡ mid.units)
    → IfOk result (λ how. (fs : List Forest) (w : ℕ) (s : Cells) → IsFine w s.cells v → FineReference w s.cells x → IsPlace fs w s.cells p
    → Comes fs w s s 4 (λ t. and_then (to_primitive (seen w s.cells v) p.depth t) (step_converted op (reference_of w s.cells x) (place_of w s.cells p))) had has how u)
converted_ok (Err e) op v v1 p of x had first mid has u none units0 waits0 next0 same refers waits1 next1 units1 left waits following units = tt
converted_ok (Ok how) op v v1 p of x had first mid has u none units0 waits0 next0 same refers waits1 next1 units1 left waits following units = λ fs w s fine held at.
    subst (λ (y : Reference). Comes fs w s s 4 (λ t. and_then (to_primitive (seen w s.cells v) p.depth t) (step_converted op (reference_of w s.cells y) (place_of w s.cells p))) had has how u) refers
    (converted fs w s op v p of had has how u left (units ∙ (units1 ∙ units0)) (following ∙ (next1 ∙ (next0 ∙ ap (λ y. next.Give (completion.Is y)) same)))
    (waits ∙ (ap (λ l. l ++ frame.Form (form.StepConverted op of p) ∷ []) (waits1 ∙ ap (λ l. l ++ frame.Call (call.ToPrimitive p.depth) ∷ []) (ap (λ l. l.items) waits0 ∙ none))))
    fine (subst (λ (y : Reference). FineReference w s.cells y) (sym refers) held) at)

pub no_value : (o : meaning.Completion) (s : State) (k : meaning.Value → Plan) → IsAbrupt o → on_value o s k ≡ Ret o s
no_value (meaning.Is v) s k h = absurd h
no_value (meaning.Refers r) s k h = absurd h
no_value meaning.Normal s k h = refl
no_value (meaning.Return v) s k h = refl
no_value meaning.Break s k h = refl
no_value meaning.Continue s k h = refl
no_value (meaning.Throw v) s k h = refl

-- what waits for a part, where no frame has it yet
module _ (fs : List Forest) (w : ℕ) where
  pub goes_on : (s0 s1 s2 : Cells) (n0 n1 n : ℕ) (p : State → Plan) (k0 k1 : meaning.Completion → State → Plan) (had mid has : Run) (how following : Ended) (v : Value) (a : Completion)
      → Comes fs w s0 s1 n0 p had mid how v → how ≡ ended.Is → k0 ≡ k1
      → ComesTo fs w s1 s2 n1 (k1 (meaning.Is (seen w s1.cells v))) mid has following a → n1 ≤ n
      → ComesTo fs w s0 s2 n (λ s. and_then (p s) k0) had has following a
  goes_on s0 s1 s2 n0 n1 n p k0 k1 had mid has how following v a one is same two le = record {
    units = omega (arith, one.units, two.units);
    reduces = λ r. counts ((had.units - mid.units) + (mid.units - has.units)) _ _ _ (omega (arith, one.units, two.units))
        (after_each (had.units - mid.units) (mid.units - has.units) _ _ _
        (under (had.units - mid.units) (p (image fs r w s0)) _ k0 (one.reduces r))
        (starts (mid.units - has.units) _ _ _
        (λ i. and_then (came fs w s1.cells (is i) (ended_as (is i) v) mid (image fs r w s1)) (same i))
        (two.reduces r)));
    fine = two.fine;
    near = omega (arith, one.units, two.near, le);
  }

  pub goes_past : (s0 s1 : Cells) (n0 n : ℕ) (p : State → Plan) (k : meaning.Completion → State → Plan) (had has : Run) (how : Ended) (v : Value)
      → Comes fs w s0 s1 n0 p had has how v → (how ≡ ended.Is → ⊥) → (how ≡ ended.Left → ⊥) → ((o : meaning.Completion) (t : State) → IsAbrupt o → k o t ≡ Ret o t) → n0 ≤ n
      → Comes fs w s0 s1 n (λ s. and_then (p s) k) had has how v
  goes_past s0 s1 n0 n p k had has how v one value left passes le = record {
    units = one.units;
    reduces = λ r. ends (had.units - has.units) _ _ _ (under (had.units - has.units) (p (image fs r w s0)) _ k (one.reduces r))
        (ap (λ q. and_then q k) (came_end fs w s1.cells how (ended_as how v) has (image fs r w s1) (other_end how left))
        ∙ (passes (completion_of w s1.cells (ended_as how v)) (image fs r w s1) (other_abrupt w s1.cells how v value)
        ∙ sym (came_end fs w s1.cells how (ended_as how v) has (image fs r w s1) (other_end how left))));
    fine = one.fine;
    near = omega (arith, one.near, le);
  }

pub less_one : (n : ℕ) → (n ≡ 0 → ⊥) → (n - 1) + 1 ≡ n
less_one zero h = absurd (h refl)
less_one (suc n) h = omega arith
