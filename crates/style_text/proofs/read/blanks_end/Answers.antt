use Rattle.std.proofs.Common.{sym, arith}
use Rattle.style_text.specs.Styles.{here}
use Rattle.style_text.proofs.Reading.{blanks_more}
use Rattle.style_text.proofs.read.blanks_end.Goals as goal

pub blanks-init : goal.blanks-init
blanks-init c = record { order = omega arith; inside = c.requires; blanks = here }

pub blanks-preserved : goal.blanks-preserved
blanks-preserved c =
    record { order = omega (arith, c.blanks.invariant.order); inside = omega arith; blanks = blanks_more _ _ _ c.blanks.invariant.blanks c.blanks-test.true (sym c.if-not-is_blank.ensures) }
