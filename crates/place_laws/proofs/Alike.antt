-- Plans that run alike, but for the places of functions: the steps of which plans are made.
use Rattle.std.proofs.Common.{◌≡◌, ℕ, zero, suc, List, map, length, Bool, true, false, refl, sym, ap, subst, Option, Some, None}
use Rattle.std.specs.Prelude.{nat_lt, if◌then◌else◌}
use Rattle.js_grammar.specs.Unplaced.{unplaced_expr, unplaced_optional, unplaced_stmt}
use Rattle.widget_meaning.specs.Limits.{max_cells, max_slots, max_units, max_nodes, max_text}
use Rattle.widget_meaning.specs.Values.{StopCause, Value, Own, Completion, Normal, Is, Refers, Return, Break, Continue, Throw, Reference, Fault}
use Rattle.widget_meaning.specs.OwnState.{Amounts, State, Cell, plain_object, with_new_cell}
use Rattle.widget_meaning.specs.Plan.{Job, Eval, Target, Exec, Pass, Call, RunNative, Hear, Loop, WhileLoop, DoLoop, ForLoop, ForInLoop, Plan, Ret, Halt, Need, Tick, Do, and_then, ticks, charge, on_value, on_reference, on_normal, on_throw}
use Rattle.widget_meaning.specs.Costs.{sum, pay, within, make, make_text, throw, fault_pairs, object_cost, units_cost, or_throw, want, with_counts}
use Rattle.place_laws.specs.Bare.{bare_cell}
use Rattle.place_laws.proofs.Near.{N, bare, itself, moved, born, births}

-- a job without places
abbrev pub bare_loop : Loop → Loop
bare_loop (WhileLoop e b) = WhileLoop (unplaced_expr e) (map unplaced_stmt b)
bare_loop (DoLoop b e) = DoLoop (map unplaced_stmt b) (unplaced_expr e)
bare_loop (ForLoop test next b) = ForLoop (unplaced_optional test) (map unplaced_expr next) (map unplaced_stmt b)
bare_loop (ForInLoop v x y ys b) = ForInLoop v x y ys (map unplaced_stmt b)

abbrev pub bare_job : Job → Job
bare_job (Eval e p) = Eval (unplaced_expr e) p
bare_job (Target e p) = Target (unplaced_expr e) p
bare_job (Exec i p) = Exec (unplaced_stmt i) p
bare_job (Pass l p) = Pass (bare_loop l) p
bare_job (Call f this vs d) = Call f this vs d
bare_job (RunNative w this vs d) = RunNative w this vs d
bare_job (Hear h) = Hear h

-- the second plan is the first one without places
pub data Alike : Plan → Plan → Type 0 where
  ends : {o : Completion} {s z : State} → N s z → Alike (Ret o s) (Ret o z)
  halts : {c : StopCause} {s z : State} → N s z → Alike (Halt c s) (Halt c z)
  needs : {n : ℕ} {s z : State} {p q : Plan} → N s z → Alike p q → Alike (Need n s p) (Need n z q)
  goes : {s z : State} {p q : Plan} → N s z → Alike p q → Alike (Tick s p) (Tick z q)
  asks : {j : Job} {s z : State} {k m : Completion → State → Plan} → N s z → ((o : Completion) (t y : State) → N t y → Alike (k o t) (m o y)) → Alike (Do j s k) (Do (bare_job j) z m)

pub ended : (o : Completion) (s z : State) → N s z → Alike (Ret o s) (Ret o z)
ended o s z e = ends e

-- with another value, which is the same
pub gave : (o q : Completion) (s z : State) → q ≡ o → N s z → Alike (Ret o s) (Ret q z)
gave o q s z same e = subst (λ x. Alike (Ret o s) (Ret x z)) (sym same) (ends e)

-- a value that is read of the state
pub got : (f : State → Value) → ((t : State) → f (bare t) ≡ f t) → (s z : State) → N s z → Alike (Ret (Is (f s)) s) (Ret (Is (f z)) z)
got f same s z e = moved (λ y. Alike (Ret (Is (f s)) s) (Ret (Is (f y)) y)) s z e (gave (Is (f s)) (Is (f (bare s))) s (bare s) (ap Is (same s)) (itself s))

pub halted : (c : StopCause) (s z : State) → N s z → Alike (Halt c s) (Halt c z)
halted c s z e = halts e

pub job : (j : Job) (s z : State) (k m : Completion → State → Plan) → N s z → ((o : Completion) (t y : State) → N t y → Alike (k o t) (m o y)) → Alike (Do j s k) (Do (bare_job j) z m)
job j s z k m e f = asks e f

pub either : (b : Bool) (p q p' q' : Plan) → Alike p p' → Alike q q' → Alike (if b then p else q) (if b then p' else q')
either true p q p' q' h k = h
either false p q p' q' h k = k

pub value : (o : Completion) (s z : State) (k m : Value → Plan) → N s z → ((v : Value) → Alike (k v) (m v)) → Alike (on_value o s k) (on_value o z m)
value (Is v) s z k m e f = f v
value Normal s z k m e f = ends e
value (Refers r) s z k m e f = ends e
value (Return v) s z k m e f = ends e
value Break s z k m e f = ends e
value Continue s z k m e f = ends e
value (Throw v) s z k m e f = ends e

pub reference : (o : Completion) (s z : State) (k m : Reference → Plan) → N s z → ((r : Reference) → Alike (k r) (m r)) → Alike (on_reference o s k) (on_reference o z m)
reference (Refers r) s z k m e f = f r
reference Normal s z k m e f = ends e
reference (Is v) s z k m e f = ends e
reference (Return v) s z k m e f = ends e
reference Break s z k m e f = ends e
reference Continue s z k m e f = ends e
reference (Throw v) s z k m e f = ends e

pub normal : (o : Completion) (s z : State) (p q : Plan) → N s z → Alike p q → Alike (on_normal o s p) (on_normal o z q)
normal Normal s z p q e f = f
normal (Is v) s z p q e f = ends e
normal (Refers r) s z p q e f = ends e
normal (Return v) s z p q e f = ends e
normal Break s z p q e f = ends e
normal Continue s z p q e f = ends e
normal (Throw v) s z p q e f = ends e

pub thrown : (o : Completion) (p q : Plan) (k m : Value → Plan) → Alike p q → ((v : Value) → Alike (k v) (m v)) → Alike (on_throw o p k) (on_throw o q m)
thrown (Throw v) p q k m h f = f v
thrown Normal p q k m h f = h
thrown (Is v) p q k m h f = h
thrown (Refers r) p q k m h f = h
thrown (Return v) p q k m h f = h
thrown Break p q k m h f = h
thrown Continue p q k m h f = h

-- one plan, and then another
pub chain : (p q : Plan) (k m : Completion → State → Plan) → Alike p q → ((o : Completion) (t y : State) → N t y → Alike (k o t) (m o y)) → Alike (and_then p k) (and_then q m)
chain p q k m (ends {o = o} {s = s} {z = z} e) f = f o s z e
chain p q k m (halts e) f = halts e
chain p q k m (needs {p = p1} {q = q1} e h) f = needs e (chain p1 q1 k m h f)
chain p q k m (goes {p = p1} {q = q1} e h) f = goes e (chain p1 q1 k m h f)
chain p q k m (asks {k = k1} {m = m1} e h) f = asks e (λ o t y n. chain (k1 o t) (m1 o y) k m (h o t y n) f)

ticked : (n : ℕ) (s z : State) (p q : Plan) → N s z → Alike p q → Alike (ticks n s p) (ticks n z q)
ticked zero s z p q e f = f
ticked (suc n) s z p q e f = goes e (ticked n s z p q e f)

pub charged : (n : ℕ) (s z : State) (p q : Plan) → N s z → Alike p q → Alike (charge n s p) (charge n z q)
charged n s z p q e f = needs e (ticked n s z p q e f)

-- a cost
fits : (a : Amounts) (s z : State) (p q : Plan) → N s z → Alike p q → Alike (within a s p) (within a z q)
fits a s z p q e f = either (nat_lt max_units a.units) _ _ _ _ (halts e) (either (nat_lt max_cells a.cells) _ _ _ _ (halts e) (either (nat_lt max_slots a.slots) _ _ _ _ (halts e) (either (nat_lt max_nodes a.nodes) _ _ _ _ (halts e) f)))

pub paid : (c : Amounts) (s z : State) (k m : State → Plan) → N s z → ((t y : State) → N t y → Alike (k t) (m y)) → Alike (pay c s k) (pay c z m)
paid c s z k m e f = moved (λ y. Alike (pay c s k) (pay c y m)) s z e
    (fits (sum s.own.counts c) s (bare s) _ _ (itself s) (f (with_counts s (sum s.own.counts c)) (with_counts (bare s) (sum s.own.counts c)) (record { same = refl })))

pub made : (c : Cell) (n : ℕ) (s z : State) (k m : Value → State → Plan) → N s z → ((v : Value) (t y : State) → N t y → Alike (k v t) (m v y)) → Alike (make c n s k) (make (bare_cell c) n z m)
made c n s z k m e f = paid (object_cost n) s z _ _ e (λ t y d. moved (λ x. Alike (k (Own (length t.own.heap)) (with_new_cell t c)) (m (Own (length x.own.heap)) (with_new_cell x (bare_cell c)))) t y d
    (subst (λ n. Alike (k (Own (length t.own.heap)) (with_new_cell t c)) (m (Own n) (with_new_cell (bare t) (bare_cell c)))) (sym (births t))
    (f (Own (length t.own.heap)) (with_new_cell t c) (with_new_cell (bare t) (bare_cell c)) (born t (bare t) c (itself t)))))

pub made_text : (x : List ℕ) (s z : State) (k m : State → Plan) → N s z → ((t y : State) → N t y → Alike (k t) (m y)) → Alike (make_text x s k) (make_text x z m)
made_text x s z k m e f = either (nat_lt max_text (length x)) _ _ _ _ (halts e) (paid (units_cost (length x)) s z k m e f)

pub faulted : (x : Fault) (s z : State) → N s z → Alike (throw x s) (throw x z)
faulted x s z e = made (plain_object (fault_pairs x)) 2 s z (λ v t. Ret (Throw v) t) (λ v t. Ret (Throw v) t) e (λ v t y d. ends d)

pub wanted : (x : Fault) (b : Bool) (s z : State) (p q : Plan) → N s z → Alike p q → Alike (want x b s p) (want x b z q)
wanted x b s z p q e f = either b _ _ _ _ f (faulted x s z e)

pub found : {A : Type 0} (x : Fault) (o : Option A) (s z : State) (k m : A → Plan) → N s z → ((a : A) → Alike (k a) (m a)) → Alike (or_throw x o s k) (or_throw x o z m)
found x None s z k m e f = faulted x s z e
found x (Some a) s z k m e f = f a
