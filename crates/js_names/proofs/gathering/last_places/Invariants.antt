use Rattle.std.proofs.Common.{◌≡◌, ℕ, List, take}
use Rattle.std.specs.BTreeMap.{get}
use Rattle.std.specs.Ordering.{nat_cmp}
use Rattle.std.specs.Cmp.Lexicographic.{slice_cmp}
use Rattle.js_names.specs.Names.{last_place}
use Rattle.js_names.proofs.gathering.last_places.Given as goal

abbrev pub invariant-params : goal.invariant-params
invariant-params l = (x : List ℕ) → get (slice_cmp nat_cmp) l.places x ≡ last_place (take l.i l.params) x
