use Rattle.std.proofs.Common.{ℕ, take}
use Rattle.widget_meaning.specs.OwnState.{State}
use Rattle.page_image.specs.Around.{Shows}
use Rattle.bunch_read.specs.Finding.{Opens}
use Rattle.bunch_read.proofs.finding.open_nodes.Given as goal

-- those that were kept
abbrev pub invariant-each : goal.invariant-each
invariant-each l = (g : ℕ → ℕ) (s : State) → Shows l.page l.w g l.around s.own → Opens l.page l.w s (take l.node-index l.list) l.found.items
