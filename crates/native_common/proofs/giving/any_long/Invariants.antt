use Rattle.std.proofs.Common.{◌≡◌, drop}
use Rattle.std.specs.List.{list_any}
use Rattle.widget_meaning.specs.NativeForms.{is_too_long}
use Rattle.native_common.proofs.giving.any_long.Given as goal

abbrev pub invariant-loop-part : goal.invariant-loop-part
invariant-loop-part l = list_any is_too_long (drop l.part-index l.parts) ≡ list_any is_too_long l.parts
