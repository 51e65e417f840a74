use Rattle.std.proofs.Common.{◌≡◌, take}
use Rattle.page_play.specs.Swaps.{last_swap}
use Rattle.page_play.proofs.findings.last_swap.Given as goal

abbrev pub invariant-slots : goal.invariant-slots
invariant-slots l = l.last ≡ last_swap l.fn.w (take l.i l.slots)
