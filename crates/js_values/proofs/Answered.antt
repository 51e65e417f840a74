-- How the answer of a native follows from its plan: a charge, and what is left of it.
use Rattle.std.proofs.Common.{◌≡◌, ℕ, zero, suc, ◌+◌, ◌<◌, ◌≤◌, true, false, ap, sym, ◌∙◌, if◌then◌else◌, arith}
use Rattle.std.specs.Prelude.{nat_lt}
use Rattle.std.proofs.lemmas.Bool.Decides.{nat_tests}
use Rattle.store_cells.specs.declared.value.Value.{Value as StoreValue}
use Rattle.widget_meaning.specs.Values.{Value, Completion}
use Rattle.widget_meaning.specs.OwnState.{State}
use Rattle.widget_meaning.specs.Plan.{Plan, Job, Tick, and_then, charge, run, ticks}
use Rattle.widget_meaning.specs.Meaning as meaning
use Rattle.widget_meaning.specs.Meaning.{run_plan}
use Rattle.widget_meaning.specs.Compositional.{then_do}
use Rattle.widget_meaning.proofs.Runs.{run_and_then}
use Rattle.js_values.specs.declared.outcome.NativeOut.{NativeOut}
use Rattle.js_values.specs.declared.outcome.NativeOut.TheVariants as native
use Rattle.js_values.specs.Answers.{Answers, Goes, IsOutOfFuel, Leaves, out_of_fuel}

less_yes : (n m : ℕ) → n < m → nat_lt n m ≡ true
less_yes n m h = grind (arith, nat_tests, h)

less_no : (n m : ℕ) → m ≤ n → nat_lt n m ≡ false
less_no n m h = grind (arith, nat_tests, h)

module _ (body : Job → State → Plan) where
  ticked : (c g : ℕ) (s : State) (q : Plan) → run body (c + g) (ticks c s q) ≡ run body g q
  ticked zero g s q = ap (λ x. run body x q) (omega arith)
  ticked (suc c) g s q = let e : suc c + g ≡ suc (c + g) = omega arith in ap (λ x. run body x (Tick s (ticks c s q))) e ∙ ticked c g s q

  charge_goes : (c g : ℕ) (s : State) (q : Plan) → run body (c + g) (charge c s q) ≡ run body g q
  charge_goes c g s q = ap (λ b. if b then out_of_fuel s (c + g) else run body (c + g) (ticks c s q)) (less_no (c + g) c (omega arith)) ∙ ticked c g s q

  charge_lacks : (c g : ℕ) (s : State) (q : Plan) → g < c → run body g (charge c s q) ≡ out_of_fuel s g
  charge_lacks c g s q lt = ap (λ b. if b then out_of_fuel s g else run body g (ticks c s q)) (less_yes g c lt)

-- a charge
pub charged : (c : ℕ) (s : State) (q : Plan) → Goes (charge c s q) s c q
charged c s q = record { on = λ body g. charge_goes body c g s q; short = λ body g lt. charge_lacks body c g s q lt }

-- nothing is taken
pub nothing_taken : (s : State) (q : Plan) → Goes q s 0 q
nothing_taken s q = record { on = λ body g. let e : 0 + g ≡ g = omega arith in ap (λ x. run body x q) e; short = λ body g lt. absurd (omega (arith, lt)) }

-- and what comes after it
pub goes_then : (p q : Plan) (s : State) (c : ℕ) (k : Completion → State → Plan) → Goes p s c q → (g : ℕ) → run_plan (c + g) (and_then p k) ≡ run_plan g (and_then q k)
goes_then p q s c k h g = run_and_then (c + g) p k ∙ ap (λ o. then_do o k) (h.on meaning.body g) ∙ sym (run_and_then g q k)

module _ (see : StoreValue → Value) (node : ℕ → ℕ) (d : ℕ) (s t : State) where
  no_fuel : (o : NativeOut) (q : Plan) → Leaves see node d o t q → IsOutOfFuel o → ⊥
  no_fuel native.OutOfFuel q h f = h
  no_fuel (native.Value v) q h f = f
  no_fuel (native.Throw e) q h f = f
  no_fuel (native.Call p) q h f = f
  no_fuel (native.Stop c) q h f = f

  -- a charge was taken, and the answer is what is left
  pub charged_answers : (o : NativeOut) (n : ℕ) (q : Plan) (before left : ℕ) → before ≡ n + left → Leaves see node d o t q → Answers see node d (charge n s q) s o t before left
  charged_answers o n q before left e h = record { fuel = λ f. absurd (no_fuel o q h f); other = λ no. (n, q, e, charged n s q, h) }

  -- a charge that is not there
  pub lacking_answers : (n : ℕ) (q : Plan) (before left : ℕ) → before < n → left ≡ before → Answers see node d (charge n s q) s native.OutOfFuel t before left
  lacking_answers n q before left lt e = record { fuel = λ f. (λ body. charge_lacks body n before s q lt, e); other = λ no. absurd (no tt) }

  -- an answer before any charge
  pub free_answers : (o : NativeOut) (q : Plan) (before left : ℕ) → before ≡ left → Leaves see node d o t q → Answers see node d q s o t before left
  free_answers o q before left e h = let z : before ≡ 0 + left = omega (arith, e) in record { fuel = λ f. absurd (no_fuel o q h f); other = λ no. (0, q, z, nothing_taken s q, h) }
