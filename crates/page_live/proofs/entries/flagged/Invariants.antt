use Rattle.std.proofs.Common.{◌≡◌, map, take}
use Rattle.live_text.specs.Answer.{shown}
use Rattle.page_live.specs.Page.{picked}
use Rattle.page_live.proofs.entries.flagged.Given as goal

abbrev pub invariant-entries : goal.invariant-entries
invariant-entries l = map (λ e. shown e.now) l.some.items ≡ picked (take l.i l.flags) (take l.i (map shown l.entries))
