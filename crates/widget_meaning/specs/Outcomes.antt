-- What came of reading a text.
use Rattle.std.specs.Prelude.{Option, Some, None}
use Rattle.exact_refusals.specs.Judge.{Outcome, Read, Refused, Deeper}

-- what was read, if anything
abbrev pub what_is_read : {Tree : Type 0} → Outcome Tree → Option Tree
what_is_read (Read tree) = Some tree
what_is_read (Refused left) = None
what_is_read (Deeper left) = None
