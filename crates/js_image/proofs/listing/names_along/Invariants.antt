use Rattle.std.proofs.Common.{◌≡◌, ◌-◌, ◌<◌, ℕ, List, [], length}
use Rattle.std.specs.Prelude.{IfSome}
use Rattle.std.specs.List.{AllByRecursion, list_any}
use Rattle.widget_meaning.specs.Properties.{is_listed}
use Rattle.js_image.specs.Elements.{is_listed_in, stored_names}
use Rattle.js_image.proofs.listing.names_along.Given as goal

abbrev pub invariant-loop-link : goal.invariant-loop-link
invariant-loop-link l = record {
  within : IfSome l.at (λ i. i < length l.store.cells);
  rest : stored_names (101 - l._link) l.store.cells l.at l.names.items ≡ stored_names 101 l.store.cells l.fn.from [];
  behind : AllByRecursion (λ i. i < length l.store.cells) l.behind.items;
  listed : (y : List ℕ) → is_listed l.names.items y ≡ list_any (is_listed_in l.store.cells y) l.behind.items;
}
