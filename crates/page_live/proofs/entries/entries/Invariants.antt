use Rattle.std.proofs.Common.{◌≡◌, ◌≤◌, List, Option, map, length}
use Rattle.widget_meaning.specs.OwnState.{OwnState}
use Rattle.page_plan.specs.Pages.{PagePiece}
use Rattle.live_text.specs.Answer.{shown}
use Rattle.page_live.specs.Page.{IsEntry, Shows, told_at}
use Rattle.page_live.proofs.Entering.{AreSaid}
use Rattle.page_live.proofs.entries.entries.Given as goal

abbrev pub invariant-slots : goal.invariant-slots
invariant-slots l = record {
  within : l.w ≤ length l.page.findings.names.items;
  many : length l.all.items ≡ l.w;
  each : (pieces : List PagePiece) (owns : List (Option OwnState)) → Shows l.page pieces owns → AreSaid (λ w own s. IsEntry (told_at l.page.findings w) own s) owns (map shown l.all.items);
}
