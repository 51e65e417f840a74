use Rattle.std.proofs.Common.{ℕ, map, take}
use Rattle.std.specs.List.{fold}
use Rattle.store_cells.specs.Cells.{Cells}
use Rattle.widget_meaning.specs.BunchWrites.{change_kept}
use Rattle.widget_meaning.specs.OwnState.{State}
use Rattle.page_image.specs.Around.{Shows}
use Rattle.page_image.specs.Image.{number}
use Rattle.native_image.specs.Sound.{HoldsOwn}
use Rattle.bunch_attributes.specs.Kept.{IsFineChange, meant}
use Rattle.bunch_attributes.proofs.keeping.change_all.Given as goal

-- what is kept with those before is changed
abbrev pub invariant-each : goal.invariant-each
invariant-each l = record {
  shown : (g : ℕ → ℕ) (s : State) → Shows l.page l.fn.w.index g l.initial.around s.own → Shows l.page l.fn.w.index g l.around (fold (change_kept (meant g l.change)) s (map (number l.page l.fn.w.index) (take l.node-index l.list))).own;
  holds : (s : Cells) → IsFineChange l.fn.w.index s.cells l.change → HoldsOwn l.fn.w.index s l.page l.initial.around → HoldsOwn l.fn.w.index s l.page l.around;
}
