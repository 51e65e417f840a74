use Rattle.std.proofs.Common.{◌≡◌, drop}
use Rattle.style_text.specs.Styles.{has_word}
use Rattle.style_text.proofs.value.has_word.Given as goal

abbrev pub invariant-loop-at : goal.invariant-loop-at
invariant-loop-at l = has_word l.word l.units ≡ has_word l.word (drop l.at l.units)
