use Rattle.std.proofs.Common.{◌≡◌, ◌≤◌, ℕ, List, Option, length}
use Rattle.std.specs.Prelude.{slice_get}
use Rattle.widget_meaning.specs.OwnState.{OwnState}
use Rattle.page_plan.specs.Pages.{PagePiece}
use Rattle.page_live.specs.Page.{Shows}
use Rattle.page_live.proofs.Entering.{AreDone}
use Rattle.page_live.proofs.entries.renew.Given as goal

abbrev pub invariant-slots : goal.invariant-slots
invariant-slots l = record {
  within : l.w ≤ length l.written.items;
  many : length l.flags.items ≡ l.w;
  long : length l.written.items ≡ length l.initial.written.items;
  done : (pieces : List PagePiece) (owns : List (Option OwnState)) → Shows l.page pieces owns → AreDone l.page.findings owns l.touched l.w l.initial.written.items l.written.items l.flags.items;
  rest : (u : ℕ) → l.w ≤ u → slice_get l.written.items u ≡ slice_get l.initial.written.items u;
}
