-- A plan that is carried out keeps an invariant.
use Rattle.std.proofs.Common.{ℕ, zero, suc, Bool, true, false, length}
use Rattle.std.specs.Prelude.{nat_lt, if◌then◌else◌}
use Rattle.widget_meaning.specs.OwnState.{State}
use Rattle.widget_meaning.specs.Plan.{Plan, Ret, Halt, Need, Tick, Do, Job, and_then, Out, OutOfFuel}
use Rattle.widget_meaning.specs.Meaning.{body, run_plan, meaning}
use Rattle.widget_meaning.specs.Ways.{Way, way_of}
use Rattle.widget_meaning.specs.Keeps.{Invariant, HoldsOf, JobOf, Keeps}
use Rattle.widget_meaning.proofs.Keeping.{chain_later, job, ended}
use Rattle.widget_meaning.proofs.KeepingJobs.{body_r}

module _ (inv : Invariant) (many : ℕ) where
  either_state : (b : Bool) (r q : Out) → HoldsOf inv many r.state → HoldsOf inv many q.state → HoldsOf inv many (if b then r else q).state
  either_state true r q h k = h
  either_state false r q h k = k

  pub run_keeps : (way : Way) (g : ℕ) (p : Plan) → Keeps inv many way p → HoldsOf inv many (run_plan g p).state
  unfolding Keeps
  run_keeps way g (Ret o s) h = h.0
  run_keeps way g (Halt c s) h = h
  run_keeps way g (Need c s p) h = either_state (nat_lt g c) (record { how = OutOfFuel; state = s; left = g }) (run_plan g p) h.0 (run_keeps way g p h.1)
  run_keeps way zero (Tick s p) h = h.0
  run_keeps way (suc f) (Tick s p) h = run_keeps way f p h.1
  run_keeps way zero (Do j s k) h = h.0
  run_keeps way (suc f) (Do j s k) h =
      let n : ℕ = length s.own.scopes in
      let fine : HoldsOf inv n s = record { holds = h.0.holds; linked = h.0.linked; page = h.0.page; wide = inv.links.enough n } in
      run_keeps way f (and_then (body j s) k) (chain_later inv many way (way_of j) n (body j s) k h.0.wide (body_r inv n j s fine h.1.0) h.1.1)

  pub job_keeps : (j : Job) (s : State) (g : ℕ) → HoldsOf inv many s → JobOf inv many j → HoldsOf inv many (meaning j s g).state
  job_keeps j s g h q = run_keeps (way_of j) g (Do j s Ret) (job inv many (way_of j) j s Ret h q (λ o t u e. ended inv many (way_of j) o t u e))
