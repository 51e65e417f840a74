use Rattle.std.proofs.Common.{◌≡◌, [], map, take}
use Rattle.code_units.specs.Utf8.{units_of}
use Rattle.manifest_reader.specs.Page.{part_of, Widget, usual_fuel}
use Rattle.adhost_run.proofs.demos.demo_page.Given as goal

abbrev pub invariant-names : goal.invariant-names
invariant-names l = map part_of l.entries.items ≡ map (λ n. Widget (units_of n.now) [] usual_fuel) (take l.name-index l.names)
