use Rattle.std.proofs.Common.{◌≡◌, drop, map}
use Rattle.js_tree.specs.Forest.{fun_at}
use Rattle.object_store.specs.Owned.{scope_number}
use Rattle.widget_meaning.specs.OwnState.{State}
use Rattle.widget_meaning.specs.Plan.{Plan}
use Rattle.widget_meaning.specs.Calls.{declare}
use Rattle.js_image.specs.Image.{Rest, image}
use Rattle.js_image.specs.Held.{Kept}
use Rattle.js_names.specs.Code.{trees_of}
use Rattle.js_names.specs.Hoisting.{fun_texts}
use Rattle.js_flow.specs.Parts.{forest_at}
use Rattle.js_calls.specs.Called.{AreNamed}
use Rattle.js_calls.proofs.declaring.declare_all.Given as goal

abbrev pub invariant-list : goal.invariant-list
invariant-list l = record {
  left : (r : Rest) (k : State → Plan)
      → declare (drop l.n (map (fun_at (forest_at (trees_of l.codes.items) l.e.code)) l.list.items)) (scope_number l.w l.store.cells l.e.scope) (image (trees_of l.codes.items) r l.w l.store) k
      ≡ declare (map (fun_at (forest_at (trees_of l.codes.items) l.e.code)) l.list.items) (scope_number l.w l.fn.store.cells l.e.scope) (image (trees_of l.codes.items) r l.w l.fn.store) k;
  named : AreNamed l.w l.store l.e.scope (fun_texts (forest_at (trees_of l.codes.items) l.e.code) l.list.items);
  kept : Kept (trees_of l.codes.items) l.w l.fn.store l.store;
}
