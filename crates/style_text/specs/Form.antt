-- The printed form of a style.
use Rattle.std.specs.Prelude.{ℕ, List}
use Rattle.exact_refusals.specs.Judge.{Outcome, Read, Refused, Deeper}
use Rattle.style_text.specs.Styles.{Pair, print_style}
use Rattle.style_text.specs.Machine.{begin, goes}

-- of units and of what came of reading them
abbrev pub form_of : List ℕ → Outcome (List Pair) → List ℕ
form_of us (Read pairs) = print_style pairs
form_of us (Refused left) = us
form_of us (Deeper left) = us

-- the pairs that the units spell in their one spelling; units that spell none as they stand
unfoldable pub style_form : List ℕ → List ℕ
style_form us = form_of us (goes us begin 0)
