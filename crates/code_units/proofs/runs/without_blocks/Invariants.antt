use Rattle.std.proofs.Common.{◌≡◌, ℕ, ◌<◌, ◌≤◌, true, length, get_or}
use Rattle.code_units.specs.Runs.{is_of}
use Rattle.code_units.proofs.runs.without_blocks.Given as goal

abbrev pub invariant-loop-end : goal.invariant-loop-end
invariant-loop-end l = record {
  within : l.end ≤ length l.units;
  same : (k : ℕ) → l.end ≤ k → k < length l.units → is_of l.kind (get_or l.units k 0) ≡ true;
}

abbrev pub decreases-loop-end : goal.decreases-loop-end
decreases-loop-end l = l.end
