-- What a fault of the reader says.
use Rattle.std.specs.Prelude.{◌≡◌, ℕ, List}
use Rattle.markup_grammar.specs.Judge.{Outcome, Stuck, Judged, Bad}
use Rattle.markup_grammar.specs.Markup.{BadMarkupPlace}
use Rattle.markup_reader.specs.declared.fault.MarkupFault.{MarkupFault}
use Rattle.markup_reader.specs.declared.fault.MarkupFault.TheVariants as fault

-- the bytes are refused at that place, or memory was wanting
abbrev pub IsMarkupFault : List ℕ → MarkupFault → Type 0
IsMarkupFault bytes (fault.BadMarkup at) = BadMarkupPlace bytes at
IsMarkupFault bytes fault.Memory = Unit {0}

-- the machine is stuck at that place, or memory was wanting
abbrev pub IsStuck : Outcome → MarkupFault → Type 0
IsStuck o (fault.BadMarkup at) = o ≡ Stuck at
IsStuck o fault.Memory = Unit {0}

-- the bytes are refused at that place, or memory was wanting
abbrev pub IsJudged : Judged → MarkupFault → Type 0
IsJudged j (fault.BadMarkup at) = j ≡ Bad at
IsJudged j fault.Memory = Unit {0}
