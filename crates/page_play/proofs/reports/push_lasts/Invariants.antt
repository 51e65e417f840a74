use Rattle.std.proofs.Common.{◌≡◌, ◌++◌, List, Option, take}
use Rattle.widget_meaning.specs.OwnState.{OwnState}
use Rattle.page_play.specs.Findings.{lasts_told, lines_of}
use Rattle.page_play.specs.Told.{AreTold}
use Rattle.page_play.proofs.reports.push_lasts.Given as goal

abbrev pub invariant-slots : goal.invariant-slots
invariant-slots l = (owns before : List (Option OwnState)) → AreTold l.findings l.host owns before → l.out.items ≡ l.initial.out.items ++ lines_of (take l.w (lasts_told l.findings)) (take l.w owns)
