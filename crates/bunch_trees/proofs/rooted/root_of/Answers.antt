use Rattle.std.proofs.Common.{[]}
use Rattle.page_image.proofs.Pages.{is_widget}
use Rattle.query_grammar.proofs.Numbers.{has_first}
use Rattle.bunch_read.proofs.Calls.{no_root, root_nodes, root_numbers}
use Rattle.bunch_trees.proofs.Roots.{head_number}
use Rattle.bunch_trees.proofs.rooted.root_of.Goals as goal

pub root_of-requires : goal.root_of-requires
root_of-requires c = is_widget c.args.w.index c.args.w.small

pub returns-clause-own : goal.returns-clause-own
returns-clause-own c = (root_nodes c.args.page.now c.args.w.index c.args.w.small c.requires c.root_of.result c.root_of.ensures c.in-Some.root c.in-Some.is).own c.in-Some.root (has_first c.in-Some.root [])

pub returns-clause-first : goal.returns-clause-first
returns-clause-first c = head_number (root_numbers c.args.page.now c.args.w.index c.args.w.small c.requires c.root_of.result c.root_of.ensures c.in-Some.root c.in-Some.is)

pub unreachable-requires : goal.unreachable-requires
unreachable-requires c = no_root c.args.page.now c.args.w.index c.args.w.small c.requires c.root_of.result c.root_of.ensures c.in-None.is
