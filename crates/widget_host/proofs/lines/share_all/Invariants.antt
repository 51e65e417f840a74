use Rattle.std.proofs.Common.{◌≡◌, take}
use Rattle.widget_host.proofs.lines.share_all.Given as goal

abbrev pub invariant-texts : goal.invariant-texts
invariant-texts l = l.all.items ≡ take l.text-index l.texts
