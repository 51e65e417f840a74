use Rattle.std.proofs.Common.{arith}
use Rattle.page_nodes.specs.Entries.{entries}
use Rattle.page_nodes.proofs.AtOnce.{listed_permuted}
use Rattle.page_nodes.proofs.Detaching.{nodes_same}
use Rattle.page_nodes.proofs.Raised.{raised_cut}
use Rattle.page_nodes.proofs.many.take_many.Goals as goal

pub tidy_all-requires : goal.tidy_all-requires
tidy_all-requires c = nodes_same (entries c.clear_links.new.rows.items) c.clear_links.new.nodes c.sort_unstable.new.self (λ x. listed_permuted x c.clear_links.new.nodes c.sort_unstable.new.self c.sort_unstable.ensures.permutation) c.clear_links.ensures.nodes

pub returns-clause-links : goal.returns-clause-links
returns-clause-links c = raised_cut (entries c.args.rows.now.items) (entries c.clear_links.new.rows.items) _ c.args.nodes.now c.clear_links.new.nodes c.sort_unstable.new.self c.requires.sound c.clear_links.ensures.links (λ x. listed_permuted x c.clear_links.new.nodes c.sort_unstable.new.self c.sort_unstable.ensures.permutation) c.tidy_all.ensures.links

pub returns-clause-room : goal.returns-clause-room
returns-clause-room c = λ t. omega (arith, c.clear_links.ensures.room t, c.tidy_all.ensures.room t)
