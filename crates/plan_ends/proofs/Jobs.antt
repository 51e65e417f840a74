-- How jobs end, and plans that are carried out.
use Rattle.std.proofs.Common.{ℕ, zero, suc, Bool, true, false}
use Rattle.std.specs.Prelude.{nat_lt, if◌then◌else◌}
use Rattle.widget_meaning.specs.OwnState.{State}
use Rattle.widget_meaning.specs.Plan.{Plan, Ret, Halt, Need, Tick, Do, Job, and_then, Out, OutOfFuel}
use Rattle.widget_meaning.specs.Meaning.{body, run_plan, meaning}
use Rattle.plan_ends.specs.Ends.{Way, EndsAs, Yields, way_of}
use Rattle.plan_ends.proofs.Steps.{passed, job, joined}
use Rattle.plan_ends.proofs.KeptRows.{body_ends}

either_end : (way : Way) (b : Bool) (r q : Out) → EndsAs way r.how → EndsAs way q.how → EndsAs way (if b then r else q).how
either_end way true r q h k = h
either_end way false r q h k = k

pub run_ends : (way : Way) (p : Plan) (g : ℕ) → Yields way p → EndsAs way (run_plan g p).how
unfolding Yields
run_ends way (Ret o s) g h = h
run_ends way (Halt c s) g h = tt
run_ends way (Need c s p) g h = either_end way (nat_lt g c) (record { how = OutOfFuel; state = s; left = g }) (run_plan g p) tt (run_ends way p g h)
run_ends way (Tick s p) zero h = tt
run_ends way (Tick s p) (suc g) h = run_ends way p g h
run_ends way (Do j s k) zero h = tt
run_ends way (Do j s k) (suc g) h = run_ends way (and_then (body j s) k) g (joined (way_of j) way (body j s) k (body_ends j s) h)

pub job_ends : (j : Job) (s : State) (g : ℕ) → EndsAs (way_of j) (meaning j s g).how
job_ends j s g = run_ends (way_of j) (Do j s Ret) g (job (way_of j) j s Ret (λ o t h. passed (way_of j) o t h))
