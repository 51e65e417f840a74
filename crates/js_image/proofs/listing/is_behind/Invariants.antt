use Rattle.std.proofs.Common.{◌≡◌, ◌<◌, ℕ, false, get_or}
use Rattle.js_image.specs.Elements.{is_listed_in}
use Rattle.js_image.proofs.listing.is_behind.Given as goal

abbrev pub invariant-loop-cell : goal.invariant-loop-cell
invariant-loop-cell l = (k : ℕ) → k < l.cell-index → is_listed_in l.store.cells l.name (get_or l.behind.items k 0) ≡ false
