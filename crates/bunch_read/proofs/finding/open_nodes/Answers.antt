use Rattle.std.proofs.Common.{[], sym, subst}
use Rattle.bunch_read.specs.Finding.{Opens}
use Rattle.bunch_read.proofs.Opened.{opens_all, opens_more, opens_none}
use Rattle.bunch_read.proofs.Lists.{element_in}
use Rattle.bunch_read.proofs.finding.open_nodes.Goals as goal

pub keep_open-requires : goal.keep_open-requires
keep_open-requires c = c.requires _ (element_in c.args.list.now c.each.node-index c.each-test.true)

pub each-init : goal.each-init
each-init c = λ g s shows. subst (Opens c.args.page.now c.args.w s []) (sym c.new-found.ensures.items) (opens_none c.args.page.now c.args.w s)

pub each-preserved : goal.each-preserved
each-preserved c = λ g s shows. opens_more c.args.page.now c.args.w s c.args.list.now c.each.found.items _ c.each.node-index c.each-test.true (c.requires _ (element_in c.args.list.now c.each.node-index c.each-test.true)) (c.each.invariant g s shows) (c.in_ok-keep_open.ensures g s shows)

pub returns : goal.returns
returns c = λ g s shows. opens_all c.args.page.now c.args.w s c.args.list.now c.each.found.items c.each.node-index c.each-test.false (c.each.invariant g s shows)
