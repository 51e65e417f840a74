use Rattle.std.proofs.Common.{rules, ◌∙◌}
use Rattle.page_nodes.specs.Arenas.{nodes_in}
use Rattle.page_nodes.specs.Entries.{entries}
use Rattle.page_nodes.proofs.AtOnce.{cut_of, list_moved, cut_tops, puts_are, puts_stay}
use Rattle.page_nodes.proofs.arena.Arena.put_all.Goals as goal

pub hang_all-requires-clause-tops : goal.hang_all-requires-clause-tops
hang_all-requires-clause-tops c = cut_tops _ _ c.args.news.now (cut_of _ _ c.args.news.now _ (c.deref_mut.ensures.value ∙ search rules) c.take_all.ensures.links)

pub invariant_of-self-2 : goal.invariant_of-self-2
invariant_of-self-2 c = record { sound = (list_moved (nodes_in c.args.self.now) _ _ (entries c.hang_all.new.rows.items) c.args.target c.args.next c.args.news.now c.in_ok-reserve_children.ensures.links c.args.self.now.sound c.requires.target c.requires.news c.requires.may c.requires.away (cut_of _ _ c.args.news.now _ (c.deref_mut.ensures.value ∙ search rules) c.take_all.ensures.links) c.hang_all.ensures).sound }

pub returns-clause-links : goal.returns-clause-links
returns-clause-links c = puts_are _ _ _ _ _ (list_moved (nodes_in c.args.self.now) _ _ (entries c.hang_all.new.rows.items) c.args.target c.args.next c.args.news.now c.in_ok-reserve_children.ensures.links c.args.self.now.sound c.requires.target c.requires.news c.requires.may c.requires.away (cut_of _ _ c.args.news.now _ (c.deref_mut.ensures.value ∙ search rules) c.take_all.ensures.links) c.hang_all.ensures).puts

pub returns-clause-steps : goal.returns-clause-steps
returns-clause-steps c = (list_moved (nodes_in c.args.self.now) _ _ (entries c.hang_all.new.rows.items) c.args.target c.args.next c.args.news.now c.in_ok-reserve_children.ensures.links c.args.self.now.sound c.requires.target c.requires.news c.requires.may c.requires.away (cut_of _ _ c.args.news.now _ (c.deref_mut.ensures.value ∙ search rules) c.take_all.ensures.links) c.hang_all.ensures).puts

pub returns-clause-others : goal.returns-clause-others
returns-clause-others c = puts_stay _ _ _ _ _ (list_moved (nodes_in c.args.self.now) _ _ (entries c.hang_all.new.rows.items) c.args.target c.args.next c.args.news.now c.in_ok-reserve_children.ensures.links c.args.self.now.sound c.requires.target c.requires.news c.requires.may c.requires.away (cut_of _ _ c.args.news.now _ (c.deref_mut.ensures.value ∙ search rules) c.take_all.ensures.links) c.hang_all.ensures).puts
