use Rattle.std.proofs.Common.{◌≡◌, map, take}
use Rattle.std.specs.BTreeMap.{get}
use Rattle.std.specs.Ordering.{nat_cmp}
use Rattle.std.specs.Cmp.Lexicographic.{slice_cmp}
use Rattle.js_names.specs.Names.{ArePlaced}
use Rattle.js_names.proofs.gathering.with_places.Given as goal

abbrev pub invariant-names : goal.invariant-names
invariant-names l = record {
  texts : map (λ x. x.text) l.list.items ≡ take l.name-index l.names;
  placed : ArePlaced (get (slice_cmp nat_cmp) l.places) l.list.items;
}
