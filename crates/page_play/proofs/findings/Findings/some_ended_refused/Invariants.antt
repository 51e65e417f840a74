use Rattle.std.proofs.Common.{◌≡◌, false, take}
use Rattle.std.specs.List.{list_any}
use Rattle.page_play.specs.Findings.{is_refused, ended_told}
use Rattle.page_play.proofs.findings.Findings.some_ended_refused.Given as goal

abbrev pub invariant-swaps : goal.invariant-swaps
invariant-swaps l = list_any is_refused (take l.i (ended_told l.self)) ≡ false
