use Rattle.std.proofs.Common.{◌≡◌, ◌≤◌, ◌-◌, ◌++◌, length}
use Rattle.widget_meaning.specs.TextNatives.{pieces_from}
use Rattle.text_methods.proofs.PieceLists.{rest}
use Rattle.text_methods.proofs.splitting.pieces_between.Given as goal

abbrev pub invariant-loop-at : goal.invariant-loop-at
invariant-loop-at l = record {
  within : l.start ≤ length l.t;
  made : l.parts.items ++ rest l.t l.fn.x l.start l.start ≡ pieces_from l.fn.x 0 l.t;
}

abbrev pub decreases-loop-at : goal.decreases-loop-at
decreases-loop-at l = length l.t - l.start
