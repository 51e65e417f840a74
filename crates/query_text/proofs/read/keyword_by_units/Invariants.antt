use Rattle.std.proofs.Common.{◌-◌, length}
use Rattle.query_text.proofs.Reading.{KeywordSoFar}
use Rattle.query_text.proofs.read.keyword_by_units.Given as goal

abbrev pub invariant-keyword : goal.invariant-keyword
invariant-keyword l = KeywordSoFar l.units l.at l.end

abbrev pub decreases-keyword : goal.decreases-keyword
decreases-keyword l = length l.units - l.end
