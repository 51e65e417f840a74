use Rattle.std.proofs.Common.{◌≡◌, drop}
use Rattle.std.specs.List.{list_any}
use Rattle.widget_meaning.specs.NativeForms.{is_too_long}
use Rattle.adsafe_object.proofs.texts.any_long.Given as goal

abbrev pub invariant-loop-text : goal.invariant-loop-text
invariant-loop-text l = list_any is_too_long (drop l.text-index l.texts) ≡ list_any is_too_long l.texts
