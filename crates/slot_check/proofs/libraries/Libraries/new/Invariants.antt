use Rattle.std.proofs.Common.{◌≡◌, take}
use Rattle.slot_check.specs.Sources.{keys_of}
use Rattle.slot_check.specs.Verdicts.{sources_of, AreKnown}
use Rattle.slot_check.proofs.libraries.Libraries.new.Given as goal

abbrev pub invariant-libs : goal.invariant-libs
invariant-libs l = record {
  keyed : l.keys.items ≡ keys_of (sources_of (take l.lib-index l.libs));
  known : AreKnown (sources_of (take l.lib-index l.libs)) l.known.items;
}
