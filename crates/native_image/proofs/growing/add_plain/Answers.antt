use Rattle.page_image.proofs.Hosting.{host_same}
use Rattle.page_image.proofs.Pages.{all_keep, all_stay, is_widget}
use Rattle.plain_tree.specs.Plains.{unplaced}
use Rattle.native_image.proofs.Added.{grown_of}
use Rattle.native_image.proofs.growing.add_plain.Goals as goal

pub add-requires-clause-owner : goal.add-requires-clause-owner
add-requires-clause-owner c = is_widget c.args.w.index c.args.w.small

pub add-requires-clause-host : goal.add-requires-clause-host
add-requires-clause-host c = λ e. cc

pub returns-in-Ok-clause-grown : goal.returns-in-Ok-clause-grown
returns-in-Ok-clause-grown c = grown_of c.args.page.now c.add.new.self c.add.ensures.roots c.args.w.index c.args.w.small c.in-Ok.id (unplaced c.args.plain.now) c.in-Ok.ensures.done

pub returns-in-Err-clause-kept : goal.returns-in-Err-clause-kept
returns-in-Err-clause-kept c = all_keep c.args.page.now c.add.new.self c.add.ensures.roots c.in-Err.ensures.unchanged

pub returns-in-Err-clause-others : goal.returns-in-Err-clause-others
returns-in-Err-clause-others c = λ v lt ne. all_stay c.args.page.now c.add.new.self c.add.ensures.roots c.in-Err.ensures.unchanged v lt

pub returns-in-Err-clause-host : goal.returns-in-Err-clause-host
returns-in-Err-clause-host c = host_same c.args.page.now c.add.new.self c.in-Err.ensures.unchanged
