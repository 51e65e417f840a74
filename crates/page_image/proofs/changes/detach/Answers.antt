use Rattle.page_image.proofs.Calls.{detach_keeps, detach_others}
use Rattle.page_image.proofs.Pages.{is_node, detach_image, not_root}
use Rattle.page_image.proofs.Looks.{some_same}
use Rattle.page_image.proofs.Hosting.{detach_host}
use Rattle.page_image.proofs.changes.detach.Goals as goal

pub detach-requires-clause-node : goal.detach-requires-clause-node
detach-requires-clause-node c = is_node c.args.page.now c.args.widget c.args.node c.requires.own

pub detach-requires-clause-no_root : goal.detach-requires-clause-no_root
detach-requires-clause-no_root c = some_same c.args.page.now c.args.widget c.args.node c.requires.home c.requires.own (not_root c.args.page.now c.args.widget c.args.node c.requires.home c.requires.no_root)

pub returns-clause-image : goal.returns-clause-image
returns-clause-image c = detach_image c.args.page.now c.detach.new.self c.detach.ensures.roots c.args.widget c.requires.home c.args.node c.requires.own c.requires.no_root c.detach.ensures.done

pub returns-clause-kept : goal.returns-clause-kept
returns-clause-kept c = detach_keeps c.args.page.now c.detach.new.self c.detach.ensures.roots c.args.widget c.args.node c.requires.own c.detach.ensures.done

pub returns-clause-others : goal.returns-clause-others
returns-clause-others c = detach_others c.args.page.now c.detach.new.self c.detach.ensures.roots c.args.widget c.args.node c.requires.own c.detach.ensures.done c.detach.ensures.others

pub returns-clause-host : goal.returns-clause-host
returns-clause-host c = detach_host c.args.page.now c.detach.new.self c.args.widget c.args.node c.requires.own (some_same c.args.page.now c.args.widget c.args.node c.requires.home c.requires.own (not_root c.args.page.now c.args.widget c.args.node c.requires.home c.requires.no_root)) c.detach.ensures.done c.detach.ensures.others
