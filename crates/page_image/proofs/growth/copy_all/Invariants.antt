use Rattle.std.proofs.Common.{take}
use Rattle.page_image.specs.Copies.{AreCopied}
use Rattle.page_image.specs.Stays.{HostStays}
use Rattle.page_image.proofs.growth.copy_all.Given as goal

-- those before the place are copied
abbrev pub invariant-each : goal.invariant-each
invariant-each l = AreCopied l.initial.page l.page l.widget (take l.node-index l.nodes) l.ids.items × HostStays l.initial.page l.page
