use Rattle.std.proofs.Common.{sym, subst, ◌∙◌}
use Rattle.page_nodes.specs.Arenas.{nodes_in}
use Rattle.page_nodes.specs.Index.{IsIndex}
use Rattle.page_nodes.proofs.Indexing.{index_other}
use Rattle.page_nodes.proofs.Lists.{match_either}
use Rattle.page_nodes.proofs.index.set_attribute.Goals as goal

pub returns-clause-index : goal.returns-clause-index
returns-clause-index c = match_either c.set_attribute.result _ _ _
    (λ e. index_other (nodes_in c.args.arena.now) (nodes_in c.set_attribute.new.self) c.args.ids.now c.args.node c.args.name.now c.args.value (sym c.is_word.ensures ∙ c.if-is_word.false) e c.requires.index)
    (λ e. subst (λ k. IsIndex k c.args.ids.now) (sym e) c.requires.index)
    c.set_attribute.ensures
