use Rattle.std.proofs.Common.{◌≡◌, List, ◌++◌, drop}
use Rattle.js_tree.specs.Forest.{Forest}
use Rattle.serde_json.specs.View.{items_view, members_view}
use Rattle.serde_json.proofs.Views.{Entry}
use Rattle.widget_meaning.specs.OwnState.{plain_object}
use Rattle.widget_meaning.specs.JsonValues.{items_at, members_at}
use Rattle.js_image.specs.Image.{Rest}
use Rattle.js_image.specs.Held.{IsFine, Kept}
use Rattle.json_text.specs.Building.{Comes}
use Rattle.json_text.proofs.Taking.{AreBelow, HasNames, array_form}
use Rattle.json_text.proofs.building.+building.Given as goal

abbrev pub invariant-build_array-loop-item : goal.invariant-build_array-loop-item
invariant-build_array-loop-item l = record {
  at : l.at ≡ l.item-index;
  kept : (fs : List Forest) → Kept fs l.w.index l.fn.store l.store;
  fine : IsFine l.w.index l.store.cells l.parent;
  comes : (fs : List Forest) (r : Rest) → Comes fs r l.w.index l.fn.store l.store l.parent array_form (AreBelow l.at) (λ m. items_at m l.at (items_view (drop l.item-index l.item-items))) (λ m. items_at m 0 (items_view l.item-items));
}

abbrev pub invariant-build_object-loop-key : goal.invariant-build_object-loop-key
invariant-build_object-loop-key l = (done : List Entry) × record {
  split : l.members.entries ≡ done ++ l.key-iterator;
  kept : (fs : List Forest) → Kept fs l.w.index l.fn.store l.store;
  fine : IsFine l.w.index l.store.cells l.parent;
  comes : (fs : List Forest) (r : Rest) → Comes fs r l.w.index l.fn.store l.store l.parent plain_object (HasNames done) (λ m. members_at m (members_view l.key-iterator)) (λ m. members_at m (members_view l.members.entries));
}
