use Rattle.std.proofs.Common.{◌≡◌, map, take, Some}
use Rattle.std.specs.Prelude.{slice_get}
use Rattle.js_names.specs.declared.code.Code.{Code}
use Rattle.js_names.specs.Code.{tree_in}
use Rattle.page_load.proofs.codes.libraries_at.Given as goal

abbrev pub invariant-places : goal.invariant-places
invariant-places l = map (λ (c : Code). Some (tree_in c)) l.codes.items ≡ map (slice_get (map tree_in l.libs)) (take l.place-index l.places)
