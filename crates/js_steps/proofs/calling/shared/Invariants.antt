use Rattle.std.proofs.Common.{◌≡◌, take}
use Rattle.js_steps.proofs.calling.shared.Given as goal

abbrev pub invariant-loop-value : goal.invariant-loop-value
invariant-loop-value l = l.args.items ≡ take l.value-index l.values
