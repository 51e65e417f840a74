use Rattle.std.proofs.Common.{◌≡◌, false, take}
use Rattle.std.specs.List.{list_any}
use Rattle.page_play.specs.Findings.{is_refused, lasts_told}
use Rattle.page_play.proofs.findings.Findings.some_last_refused.Given as goal

abbrev pub invariant-slots : goal.invariant-slots
invariant-slots l = list_any is_refused (take l.w (lasts_told l.self)) ≡ false
