use Rattle.page_image.proofs.Growing.{no_host}
use Rattle.page_image.proofs.Hosting.{host_same}
use Rattle.page_image.proofs.Pages.{all_keep, all_stay, is_node}
use Rattle.native_image.proofs.Added.{copied_of}
use Rattle.native_image.proofs.growing.copy_plain.Goals as goal

pub copy-requires-clause-node : goal.copy-requires-clause-node
copy-requires-clause-node c = is_node c.args.page.now c.args.w.index c.args.node c.requires

pub copy-requires-clause-widget : goal.copy-requires-clause-widget
copy-requires-clause-widget c = no_host c.args.page.now c.args.w.index c.args.node c.requires

pub returns-in-Ok-clause-grown : goal.returns-in-Ok-clause-grown
returns-in-Ok-clause-grown c = copied_of c.args.page.now c.copy.new.self c.copy.ensures.roots c.args.w.index c.args.node c.in-Ok.id c.requires c.in-Ok.ensures.done

pub returns-in-Err-clause-kept : goal.returns-in-Err-clause-kept
returns-in-Err-clause-kept c = all_keep c.args.page.now c.copy.new.self c.copy.ensures.roots c.in-Err.ensures.unchanged

pub returns-in-Err-clause-others : goal.returns-in-Err-clause-others
returns-in-Err-clause-others c = λ v lt ne. all_stay c.args.page.now c.copy.new.self c.copy.ensures.roots c.in-Err.ensures.unchanged v lt

pub returns-in-Err-clause-host : goal.returns-in-Err-clause-host
returns-in-Err-clause-host c = host_same c.args.page.now c.copy.new.self c.in-Err.ensures.unchanged
