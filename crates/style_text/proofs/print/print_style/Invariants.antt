use Rattle.std.proofs.Common.{◌≡◌, take}
use Rattle.style_text.specs.Styles.{print_style}
use Rattle.style_text.proofs.print.print_style.Given as goal

abbrev pub invariant-pairs : goal.invariant-pairs
invariant-pairs l = l.units.items ≡ print_style (take l.i l.pairs)
