-- Plans that go on by paying for their jobs, their charges and their natives.
use Rattle.std.proofs.Common.{◌≡◌, inl, inr, ℕ, zero, suc, ◌+◌, ◌-◌, ◌<◌, ◌≤◌, List, Option, if◌then◌else◌, refl, sym, ap, ◌∙◌, subst, arith}
use Rattle.permitted_table.specs.declared.native.NativeId.{NativeId}
use Rattle.widget_meaning.specs.Values as meaning
use Rattle.widget_meaning.specs.OwnState.{State}
use Rattle.widget_meaning.specs.Plan.{Plan, Job, Do, Halt, Need, Ret, RunNative, Tick, and_then, charge, ticks}
use Rattle.widget_meaning.specs.Meaning.{body, run_plan}
use Rattle.widget_meaning.specs.Natives.{run_native}
use Rattle.widget_meaning.specs.PlanLaws.{out_of_fuel}
use Rattle.widget_meaning.proofs.PlansHold.{lt_false, plan_laws}
use Rattle.widget_meaning.proofs.Runs.{and_then_assoc}
use Rattle.plan_ends.specs.Ends.{ByValue, Ends, Way, Yields, way_of}
use Rattle.plan_ends.proofs.KeptRows.{body_ends}
use Rattle.plan_ends.proofs.Steps.{joined}
use Rattle.js_values.specs.Answers.{Goes}
use Rattle.js_values.proofs.Answered.{goes_then}
use Rattle.js_flow.specs.Todo.{Strides}
use Rattle.js_direct.specs.Reduces.{Pays, Reduces}

pub starts : (c : ℕ) (p q r : Plan) → p ≡ q → Reduces c q r → Reduces c p r
starts c p q r e h = subst (λ (x : Plan). Reduces c x r) (sym e) h

pub ends : (c : ℕ) (p q r : Plan) → Reduces c p q → q ≡ r → Reduces c p r
ends c p q r h e = subst (λ (x : Plan). Reduces c p x) e h

pub counts : (c d : ℕ) (p q : Plan) → c ≡ d → Reduces c p q → Reduces d p q
counts c d p q e h = subst (λ (n : ℕ). Reduces n p q) e h

-- the same while some units of a charge are owed
owed_starts : (n c : ℕ) (p q r : Plan) → p ≡ q → Pays n c q r → Pays n c p r
owed_starts n c p q r e h = subst (λ (x : Plan). Pays n c x r) (sym e) h

owed_counts : (n c d : ℕ) (p q : Plan) → c ≡ d → Pays n c p q → Pays n d p q
owed_counts n c d p q e h = subst (λ (m : ℕ). Pays n m p q) e h

none : (n : ℕ) → n ≡ 0 + n
none n = omega arith

one : (n k : ℕ) → suc (n + k) ≡ suc n + k
one n k = omega arith

-- before what comes after it
owed_under : (n c : ℕ) (p q : Plan) (k : meaning.Completion → State → Plan) → Pays n c p q → Pays n c (and_then p k) (and_then q k)
owed_under zero zero p q k h = ap (λ x. and_then x k) h
owed_under zero (suc c) p q k (inl h) = inl (record {
  job = h.job;
  state = h.state;
  after = λ o t. and_then (h.after o t) k;
  is = ap (λ x. and_then x k) h.is;
  goes = owed_starts zero c _ _ _ (sym (and_then_assoc (body h.job h.state) h.after k)) (owed_under zero c _ q k h.goes);
})
owed_under zero (suc c) p q k (inr (inl h)) = inr (inl (record {
  owed = h.owed;
  state = h.state;
  rest = and_then h.rest k;
  is = ap (λ x. and_then x k) h.is ∙ plan_laws.charge_first (suc h.owed) h.state h.rest k;
  goes = owed_under h.owed c h.rest q k h.goes;
}))
owed_under zero (suc c) p q k (inr (inr h)) = inr (inr (record {
  which = h.which;
  this = h.this;
  args = h.args;
  depth = h.depth;
  state = h.state;
  after = λ o t. and_then (h.after o t) k;
  is = ap (λ x. and_then x k) h.is;
  owed = h.owed;
  rest = h.rest;
  takes = h.takes;
  ends = h.ends;
  goes = owed_starts h.owed c _ _ _ (sym (and_then_assoc h.rest h.after k)) (owed_under h.owed c _ q k h.goes);
}))
owed_under (suc n) zero p q k h = absurd h
owed_under (suc n) (suc c) p q k h = owed_under n c p q k h

pub under : (c : ℕ) (p q : Plan) (k : meaning.Completion → State → Plan) → Reduces c p q → Reduces c (and_then p k) (and_then q k)
under c p q k h = owed_under zero c p q k h

-- one after the other
owed_after : (n c d : ℕ) (p q r : Plan) → Pays n c p q → Reduces d q r → Pays n (c + d) p r
owed_after zero zero d p q r h m = counts d (0 + d) p r (none d) (starts d p q r h m)
owed_after zero (suc c) d p q r (inl h) m =
    owed_counts zero (suc (c + d)) (suc c + d) p r (one c d) (inl (record { job = h.job; state = h.state; after = h.after; is = h.is; goes = owed_after zero c d _ q r h.goes m }))
owed_after zero (suc c) d p q r (inr (inl h)) m =
    owed_counts zero (suc (c + d)) (suc c + d) p r (one c d)
    (inr (inl (record { owed = h.owed; state = h.state; rest = h.rest; is = h.is; goes = owed_after h.owed c d h.rest q r h.goes m })))
owed_after zero (suc c) d p q r (inr (inr h)) m = owed_counts zero (suc (c + d)) (suc c + d) p r (one c d) (inr (inr (record {
  which = h.which;
  this = h.this;
  args = h.args;
  depth = h.depth;
  state = h.state;
  after = h.after;
  is = h.is;
  owed = h.owed;
  rest = h.rest;
  takes = h.takes;
  ends = h.ends;
  goes = owed_after h.owed c d _ q r h.goes m;
})))
owed_after (suc n) zero d p q r h m = absurd h
owed_after (suc n) (suc c) d p q r h m = owed_counts (suc n) (suc (c + d)) (suc c + d) p r (one c d) (owed_after n c d p q r h m)

pub after_each : (c d : ℕ) (p q r : Plan) → Reduces c p q → Reduces d q r → Reduces (c + d) p r
after_each c d p q r h m = owed_after zero c d p q r h m

-- a job begins
pub begins : (j : Job) (s : State) (k : meaning.Completion → State → Plan) → Reduces 1 (Do j s k) (and_then (body j s) k)
begins j s k = inl (record { job = j; state = s; after = k; is = refl; goes = refl })

-- one unit was paid first
pub paid : (c : ℕ) (j : Job) (s : State) (k : meaning.Completion → State → Plan) (q : Plan) → Reduces c (and_then (body j s) k) q → Reduces (suc c) (Do j s k) q
paid c j s k q h = inl (record { job = j; state = s; after = k; is = refl; goes = h })

-- a charge was paid
owed_all : (n : ℕ) (p : Plan) → Pays n n p p
owed_all zero p = refl
owed_all (suc n) p = owed_all n p

pub charged : (n : ℕ) (s : State) (p : Plan) → 0 < n → Reduces n (charge n s p) p
charged zero s p h = absurd (omega (arith, h))
charged (suc n) s p h = inr (inl (record { owed = n; state = s; rest = p; is = refl; goes = owed_all n p }))

-- a native was carried out: its unit was paid, and what it took
pub carried : (n c : ℕ) (which : NativeId) (this : Option meaning.Value) (args : List meaning.Value) (depth : ℕ) (s : State) (k : meaning.Completion → State → Plan) (rest q : Plan)
    → Goes (run_native which this args depth s) s n rest → Yields ByValue rest → Reduces c (and_then rest k) q → Reduces (suc (n + c)) (Do (RunNative which this args depth) s k) q
carried n c which this args depth s k rest q takes ends h = inr (inr (record {
  which = which;
  this = this;
  args = args;
  depth = depth;
  state = s;
  after = k;
  is = refl;
  owed = n;
  rest = rest;
  takes = takes;
  ends = ends;
  goes = owed_after n n c _ _ q (owed_all n (and_then rest k)) h;
}))

-- ## With so much fuel

-- what is owed is among what is paid
owes : (n c : ℕ) (p q : Plan) → Pays n c p q → n ≤ c
owes zero c p q h = omega arith
owes (suc n) zero p q h = absurd h
owes (suc n) (suc c) p q h = omega (arith, owes n c p q h)

-- a charge that is there: the first of its units
first_paid : (n m : ℕ) (s : State) (p : Plan) → n ≤ m → run_plan (suc m) (charge (suc n) s p) ≡ run_plan m (ticks n s p)
first_paid n m s p le = ap (λ b. if b then out_of_fuel s (suc m) else run_plan (suc m) (ticks (suc n) s p)) (lt_false (suc m) (suc n) (omega (arith, le)))

more : (n k : ℕ) → suc n + k ≡ suc (n + k)
more n k = omega arith

-- units that are there
ticked : (n g : ℕ) (s : State) (p : Plan) → run_plan (n + g) (ticks n s p) ≡ run_plan g p
ticked zero g s p = ap (λ m. run_plan m p) (sym (none g))
ticked (suc n) g s p = ap (λ m. run_plan m (ticks (suc n) s p)) (more n g) ∙ ticked n g s p

owed_runs : (n c g : ℕ) (s : State) (p q : Plan) → Pays n c p q → run_plan (c + g) (ticks n s p) ≡ run_plan g q
owed_runs zero zero g s p q h = ap (λ m. run_plan m p) (sym (none g)) ∙ ap (run_plan g) h
owed_runs zero (suc c) g s p q (inl h) = (λ i. run_plan (more c g i) (h.is i)) ∙ owed_runs zero c g s _ q h.goes
owed_runs zero (suc c) g s p q (inr (inl h)) =
    (λ i. run_plan (more c g i) (h.is i))
    ∙ (first_paid h.owed (c + g) h.state h.rest (omega (arith, owes h.owed c h.rest q h.goes)) ∙ owed_runs h.owed c g h.state h.rest q h.goes)
owed_runs zero (suc c) g s p q (inr (inr h)) =
    (λ i. run_plan (more c g i) (h.is i))
    ∙ (ap (λ m. run_plan m (and_then (run_native h.which h.this h.args h.depth h.state) h.after)) whole
    ∙ (goes_then (run_native h.which h.this h.args h.depth h.state) h.rest h.state h.owed h.after h.takes ((c - h.owed) + g)
    ∙ (sym (ticked h.owed ((c - h.owed) + g) h.state (and_then h.rest h.after))
    ∙ (ap (λ m. run_plan m (ticks h.owed h.state (and_then h.rest h.after))) (sym whole) ∙ owed_runs h.owed c g h.state _ q h.goes))))
  where
    whole : c + g ≡ h.owed + ((c - h.owed) + g)
    whole = omega (arith, owes h.owed c (and_then h.rest h.after) q h.goes)
owed_runs (suc n) zero g s p q h = absurd h
owed_runs (suc n) (suc c) g s p q h = ap (λ m. run_plan m (ticks (suc n) s p)) (more c g) ∙ owed_runs n c g s p q h

-- the state that a plan begins in
abbrev state_of : Plan → State
state_of (Ret o s) = s
state_of (Halt c s) = s
state_of (Need c s p) = s
state_of (Tick s p) = s
state_of (Do j s k) = s

pub runs : (c g : ℕ) (p q : Plan) → Reduces c p q → run_plan (c + g) p ≡ run_plan g q
runs c g p q h = owed_runs zero c g (state_of p) p q h

pub strides : (k c : ℕ) (p q : Plan) → Reduces c p q → c ≤ k → Strides k c p q
strides k c p q h le = record {
  within = λ g l. ap (λ n. run_plan n p) (parted g l) ∙ runs c (g - c) p q h;
  beyond = λ g l m. absurd (omega (arith, le, l, m));
}
  where
    parted : (g : ℕ) → c ≤ g → g ≡ c + (g - c)
    parted g l = omega (arith, l)

-- ## Ends

after_job : (way : Way) (j : Job) (s : State) (k : meaning.Completion → State → Plan) → Yields way (Do j s k) → (o : meaning.Completion) (t : State) → Ends (way_of j) o → Yields way (k o t)
unfolding Yields
after_job way j s k h = h

after_ticks : (way : Way) (n : ℕ) (s : State) (p : Plan) → Yields way (ticks n s p) → Yields way p
unfolding Yields
after_ticks way zero s p h = h
after_ticks way (suc n) s p h = after_ticks way n s p h

after_charge : (way : Way) (n : ℕ) (s : State) (p : Plan) → Yields way (charge n s p) → Yields way p
unfolding Yields
after_charge way n s p h = after_ticks way n s p h

owed_yields : (way : Way) (n c : ℕ) (p q : Plan) → Pays n c p q → Yields way p → Yields way q
owed_yields way zero zero p q h y = subst (λ (x : Plan). Yields way x) h y
owed_yields way zero (suc c) p q (inl h) y =
    owed_yields way zero c _ q h.goes (joined (way_of h.job) way (body h.job h.state) h.after (body_ends h.job h.state)
    (after_job way h.job h.state h.after (subst (λ (x : Plan). Yields way x) h.is y)))
owed_yields way zero (suc c) p q (inr (inl h)) y = owed_yields way h.owed c h.rest q h.goes (after_charge way (suc h.owed) h.state h.rest (subst (λ (x : Plan). Yields way x) h.is y))
owed_yields way zero (suc c) p q (inr (inr h)) y =
    owed_yields way h.owed c _ q h.goes (joined ByValue way h.rest h.after h.ends
    (after_job way (RunNative h.which h.this h.args h.depth) h.state h.after (subst (λ (x : Plan). Yields way x) h.is y)))
owed_yields way (suc n) zero p q h y = absurd h
owed_yields way (suc n) (suc c) p q h y = owed_yields way n c p q h y

pub yields : (way : Way) (c : ℕ) (p q : Plan) → Reduces c p q → Yields way p → Yields way q
yields way c p q h y = owed_yields way zero c p q h y
