use Rattle.page_image.proofs.Calls.{are_nodes}
use Rattle.page_image.proofs.Detaching.{no_roots, all_image, all_keeps, all_others, others_of_all}
use Rattle.page_image.proofs.Pages.{is_widget, not_root}
use Rattle.page_image.proofs.Looks.{some_same}
use Rattle.page_image.proofs.Hosting.{detach_all_host}
use Rattle.page_image.proofs.changes.detach_all.Goals as goal

pub detach_all-requires-clause-list : goal.detach_all-requires-clause-list
detach_all-requires-clause-list c = are_nodes c.args.page.now c.args.widget c.args.list.items c.requires.own

pub detach_all-requires-clause-no_root : goal.detach_all-requires-clause-no_root
detach_all-requires-clause-no_root c = no_roots c.args.page.now c.args.widget c.requires.home c.args.list.items c.requires.own c.requires.no_root

pub returns-clause-image : goal.returns-clause-image
returns-clause-image c = all_image c.args.page.now c.detach_all.new.self c.detach_all.ensures.roots c.args.widget c.args.list.items c.detach_all.ensures.steps c.requires.home (is_widget c.args.widget c.requires.widget) c.requires.own (λ n l. not_root c.args.page.now c.args.widget n c.requires.home (c.requires.no_root n l))

pub returns-clause-kept : goal.returns-clause-kept
returns-clause-kept c = all_keeps c.args.page.now c.detach_all.new.self c.detach_all.ensures.roots c.args.widget c.args.list.items c.detach_all.ensures.steps

pub returns-clause-others : goal.returns-clause-others
returns-clause-others c = all_others c.args.page.now c.detach_all.new.self c.detach_all.ensures.roots c.args.widget c.args.list.items c.detach_all.ensures.steps c.requires.home (is_widget c.args.widget c.requires.widget) c.requires.own (others_of_all c.args.page.now c.detach_all.new.self c.args.widget c.args.list.items c.requires.own c.detach_all.ensures.others)

pub returns-clause-host : goal.returns-clause-host
returns-clause-host c =
    let old = c.args.page.now in
    let w = c.args.widget in
    detach_all_host old c.detach_all.new.self w c.args.list.items c.requires.own (λ n l. some_same old w n c.requires.home (c.requires.own n l) (not_root old w n c.requires.home (c.requires.no_root n l))) c.detach_all.ensures.steps c.detach_all.ensures.others
