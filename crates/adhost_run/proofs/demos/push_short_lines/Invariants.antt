use Rattle.std.proofs.Common.{◌≡◌, ◌++◌, List, Option, take}
use Rattle.widget_meaning.specs.OwnState.{OwnState}
use Rattle.adhost_run.specs.Demo.{short_lines, AreAccepted}
use Rattle.adhost_run.proofs.demos.push_short_lines.Given as goal

abbrev pub invariant-names : goal.invariant-names
invariant-names l = (owns : List (Option OwnState)) → AreAccepted l.names l.host owns → l.out.items ≡ l.initial.out.items ++ short_lines (take l.i l.names) (take l.i owns)
