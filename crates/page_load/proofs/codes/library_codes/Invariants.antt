use Rattle.std.proofs.Common.{◌≡◌, map}
use Rattle.adsafe_rules.specs.Accepts.{tree_of}
use Rattle.js_names.specs.Code.{tree_in}
use Rattle.page_load.proofs.codes.library_codes.Given as goal

abbrev pub invariant-libs : goal.invariant-libs
invariant-libs l = map tree_in l.codes.items ≡ map tree_of l.yielded
