use Rattle.std.proofs.Common.{◌≡◌, ℕ, map, take, true}
use Rattle.std.specs.List.{list_all}
use Rattle.widget_meaning.specs.BunchReads.{has_open_parent}
use Rattle.widget_meaning.specs.OwnState.{State}
use Rattle.page_image.specs.Around.{Shows}
use Rattle.page_image.specs.Image.{number}
use Rattle.bunch_read.proofs.finding.all_open.Given as goal

-- those before are open
abbrev pub invariant-each : goal.invariant-each
invariant-each l = (g : ℕ → ℕ) (s : State) → Shows l.page l.w g l.around s.own → list_all (has_open_parent s) (map (number l.page l.w) (take l.node-index l.list)) ≡ true
