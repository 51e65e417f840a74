use Rattle.std.proofs.Common.{◌≡◌, ◌+◌, drop, length, sum_by}
use Rattle.native_common.specs.Numbers.{counted}
use Rattle.text_methods.proofs.splitting.units_in.Given as goal

abbrev pub invariant-loop-part : goal.invariant-loop-part
invariant-loop-part l = record {
  small : l.n ≡ counted l.n;
  rest : counted (l.n + sum_by length (drop l.part-index l.parts)) ≡ counted (sum_by length l.parts);
}
