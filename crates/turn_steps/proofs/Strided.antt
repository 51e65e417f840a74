-- Steps together, over what waits, and within a turn.
use Rattle.std.proofs.Common.{◌≡◌, ℕ, zero, suc, refl, ◌+◌, ◌-◌, ◌<◌, ◌≤◌, ap, ◌∙◌, sym, subst, arith, ◌⊎◌, inl, inr}
use Rattle.std.proofs.lemmas.Bool.{cases_lt}
use Rattle.widget_meaning.specs.Values.{Completion}
use Rattle.widget_meaning.specs.OwnState.{State}
use Rattle.widget_meaning.specs.Plan.{Out, OutOfFuel, Plan, and_then}
use Rattle.widget_meaning.specs.Meaning.{run_plan}
use Rattle.widget_meaning.specs.Compositional.{go_on, then_do}
use Rattle.widget_meaning.proofs.Runs.{run_and_then}
use Rattle.js_flow.specs.Todo.{Strides}
use Rattle.life_laws.specs.Life.{Runs, Turn}

-- a want of fuel passes over what comes after
lacking_then : (r : Out) (k : Completion → State → Plan) → r.how ≡ OutOfFuel → then_do r k ≡ r
lacking_then r k e = ap (go_on r k) e

-- what waits for a plan does not change how it goes on
pub strides_over : (n c : ℕ) (p q : Plan) (k : Completion → State → Plan) → Strides n c p q → Strides n c (and_then p k) (and_then q k)
strides_over n c p q k m = record {
  within = λ g h. run_and_then g p k ∙ (ap (λ r. then_do r k) (m.within g h) ∙ sym (run_and_then (g - c) q k));
  beyond = λ g h l.
      let b = m.beyond g h l in
      let same : run_plan g (and_then p k) ≡ run_plan g p = run_and_then g p k ∙ lacking_then (run_plan g p) k b.0 in
      let P : Out → Type 0 = λ r. 0 < r.left in (ap (λ (r : Out). r.how) same ∙ b.0, subst P (sym same) b.1);
}

-- the same plans, said otherwise
pub strides_is : (n c : ℕ) (p q r t : Plan) → r ≡ p → q ≡ t → Strides n c p q → Strides n c r t
strides_is n c p q r t e f m = subst (λ x. Strides n c x t) (sym e) (subst (Strides n c p) f m)

-- a charge that is paid with what was granted
pub begins_within : (n had c : ℕ) → (n ≡ 0 → had ≡ 0) → c ≤ had → (0 < n) ⊎ (c ≡ 0)
begins_within zero had c none less = let e = none refl in inr (omega (arith, e, less))
begins_within (suc n) had c none less = inl (omega arith)

-- steps that go on from a units of k
strides_more : (k a c : ℕ) (t u v : Turn) → Runs k a t u → Strides (k - a) c u.plan v.plan → v.fixed ≡ u.fixed → v.left + c ≡ u.left → Runs k (a + c) t v
strides_more k a c t u v runs strides same_fixed same_left = record {
  fixed = same_fixed ∙ runs.fixed;
  left = let e : u.left + a ≡ t.left = runs.left in omega (arith, e, same_left);
  same = λ g h. runs.same g (omega (arith, h)) ∙ (strides.within (g - a) (omega (arith, h)) ∙ ap (λ n. run_plan n v.plan) (twice g));
  least = λ h l m. below h l m (cases_lt h a);
}
  where
    twice : (g : ℕ) → (g - a) - c ≡ g - (a + c)
    twice g = omega arith

    below : (h : ℕ) → k ≤ h → h < a + c → (h < a) ⊎ (a ≤ h) → 0 < (run_plan h t.plan).left
    below h l m (inl lt) = runs.least h l lt
    below h l m (inr ge) =
        let b = strides.beyond (h - a) (omega (arith, l)) (omega (arith, m, ge)) in
        let P : Out → Type 0 = λ r. 0 < r.left in
        subst P (sym (runs.same h ge)) b.1

-- a turn goes on within a pick, by what is left of s
pub runs_on : (k s : ℕ) (t u v : Turn) → Runs k (s - u.left) t u → Strides (k - (s - u.left)) (u.left - v.left) u.plan v.plan → v.fixed ≡ u.fixed → v.left ≤ u.left → u.left ≤ s → Runs k (s - v.left) t v
runs_on k s t u v runs strides same less within =
    let P : ℕ → Type 0 = λ n. Runs k n t v in
    let sums : (s - u.left) + (u.left - v.left) ≡ s - v.left = omega (arith, less, within) in
    let left : v.left + (u.left - v.left) ≡ u.left = omega (arith, less) in
    subst P sums (strides_more k (s - u.left) (u.left - v.left) t u v runs strides same left)
