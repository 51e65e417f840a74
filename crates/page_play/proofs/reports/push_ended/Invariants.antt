use Rattle.std.proofs.Common.{◌≡◌, ◌++◌, List, Option, take}
use Rattle.widget_meaning.specs.OwnState.{OwnState}
use Rattle.page_play.specs.Findings.{ended_told, lines_of}
use Rattle.page_play.specs.Told.{AreTold}
use Rattle.page_play.proofs.reports.push_ended.Given as goal

abbrev pub invariant-swaps : goal.invariant-swaps
invariant-swaps l = (owns before : List (Option OwnState)) → AreTold l.findings l.host owns before → l.out.items ≡ l.initial.out.items ++ lines_of (take l.i (ended_told l.findings)) (take l.i before)
