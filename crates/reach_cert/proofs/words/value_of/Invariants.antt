use Rattle.std.proofs.Common.{◌≡◌, ◌≤◌, ◌<◌, ◌^◌, ℕ, take}
use Rattle.std.specs.Fmt.{decimal}
use Rattle.std.specs.Str.Parse.{digits_value}
use Rattle.reach_cert.proofs.words.value_of.Given as goal

abbrev pub invariant-each : goal.invariant-each
invariant-each l = record {
  low : l.value ≤ 2 ^ 32;
  same : (n : ℕ) → n < 2 ^ 32 → decimal n ≡ l.word → l.value ≡ digits_value 10 (take l.byte-index l.word);
}
