use Rattle.std.proofs.Common.{true}
use Rattle.plain_tree.specs.Trees.{TextOf}
use Rattle.page_image.proofs.Calls.{is_text_there, label_keeps, label_others, text_image}
use Rattle.page_image.proofs.Pages.{is_node}
use Rattle.page_image.proofs.Hosting.{label_host}
use Rattle.page_image.proofs.changes.set_text.Goals as goal

pub set_text-requires-clause-node : goal.set_text-requires-clause-node
set_text-requires-clause-node c = is_node c.args.page.now c.args.widget c.args.node c.requires.own

pub set_text-requires-clause-is_text : goal.set_text-requires-clause-is_text
set_text-requires-clause-is_text c = is_text_there c.args.page.now c.args.widget c.args.node true c.requires.own c.requires.is_text

pub returns-clause-image : goal.returns-clause-image
returns-clause-image c = text_image c.args.page.now c.set_text.new.self c.set_text.ensures.roots c.args.widget c.args.node c.requires.own c.requires.home (TextOf c.args.text) c.set_text.ensures.done

pub returns-clause-kept : goal.returns-clause-kept
returns-clause-kept c = label_keeps c.args.page.now c.set_text.new.self c.set_text.ensures.roots c.args.widget c.args.node c.requires.own (TextOf c.args.text) c.set_text.ensures.done

pub returns-clause-others : goal.returns-clause-others
returns-clause-others c = label_others c.args.page.now c.set_text.new.self c.set_text.ensures.roots c.args.widget c.args.node c.requires.own (TextOf c.args.text) c.set_text.ensures.done c.set_text.ensures.others

pub returns-clause-host : goal.returns-clause-host
returns-clause-host c = label_host c.args.page.now c.set_text.new.self c.args.widget c.args.node c.requires.own (TextOf c.args.text) c.set_text.ensures.done c.set_text.ensures.others
