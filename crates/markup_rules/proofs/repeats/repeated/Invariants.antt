use Rattle.std.proofs.Common.{drop}
use Rattle.std.specs.BTreeSet.{contains}
use Rattle.std.specs.Ordering.{nat_cmp}
use Rattle.std.specs.Cmp.Lexicographic.{slice_cmp}
use Rattle.first_breach.specs.Narrowing.{Narrows}
use Rattle.markup_rules.specs.Rows.{Twice}
use Rattle.markup_rules.proofs.Again.{StillTwice}
use Rattle.markup_rules.proofs.repeats.repeated.Given as goal

abbrev pub invariant-each : goal.invariant-each
invariant-each l = Narrows (Twice l.rule l.sayings) l.fn.best (StillTwice l.rule (λ t. contains (slice_cmp nat_cmp) l.seen t) (drop l.saying-index l.sayings)) l.least
