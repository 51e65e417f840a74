use Rattle.std.proofs.Common.{◌≡◌, ◌≤◌, ◌+◌, ◌-◌, length}
use Rattle.js_tokens.specs.Cursor.{from, IsPlace}
use Rattle.js_tokens.specs.Runs.{passes}
use Rattle.js_tokens.specs.Scan.{after_run}
use Rattle.js_tokens.proofs.cursor.run_end.Given as goal

abbrev pub invariant-run : goal.invariant-run
invariant-run l = record {
  later : l.at ≤ l.place;
  place : IsPlace l.text l.place;
  same : after_run (passes l.run) (from l.text l.at) ≡ after_run (passes l.run) (from l.text l.place);
}

abbrev pub decreases-run : goal.decreases-run
decreases-run l = length l.text + 1 - l.place
