use Rattle.page_build.proofs.Swapped.{exchanges, keeps_nodes, may_be, new_stands, old_spare, others_spare, others_stand, trees_kept}
use Rattle.page_build.proofs.swapping.swap_stands.Goals as goal

pub swap_root-requires-clause-free : goal.swap_root-requires-clause-free
swap_root-requires-clause-free c = may_be c.args.page.now c.args.page.now c.args.old c.args.new c.requires.standing c.requires.spare

pub returns-clause-exchanged : goal.returns-clause-exchanged
returns-clause-exchanged c = exchanges c.args.page.now c.swap_root.new.self c.args.old c.args.new c.requires.standing c.requires.spare c.swap_root.ensures.done c.swap_root.ensures.becomes

pub returns-clause-nodes : goal.returns-clause-nodes
returns-clause-nodes c = keeps_nodes c.args.page.now c.swap_root.new.self c.args.old c.args.new c.requires.standing c.requires.spare c.swap_root.ensures.done c.swap_root.ensures.becomes

pub returns-clause-trees : goal.returns-clause-trees
returns-clause-trees c = trees_kept c.args.page.now c.swap_root.new.self c.args.old c.args.new c.requires.standing c.requires.spare c.swap_root.ensures.done c.swap_root.ensures.becomes

pub returns-clause-standing : goal.returns-clause-standing
returns-clause-standing c = new_stands c.args.page.now c.swap_root.new.self c.args.old c.args.new c.requires.standing c.requires.spare c.swap_root.ensures.done c.swap_root.ensures.becomes

pub returns-clause-spare : goal.returns-clause-spare
returns-clause-spare c = old_spare c.args.page.now c.swap_root.new.self c.args.old c.args.new c.requires.standing c.requires.spare c.swap_root.ensures.done c.swap_root.ensures.becomes

pub returns-clause-others_stand : goal.returns-clause-others_stand
returns-clause-others_stand c = others_stand c.args.page.now c.swap_root.new.self c.args.old c.args.new c.requires.standing c.requires.spare c.swap_root.ensures.done c.swap_root.ensures.becomes

pub returns-clause-others_spare : goal.returns-clause-others_spare
returns-clause-others_spare c = others_spare c.args.page.now c.swap_root.new.self c.args.old c.args.new c.requires.standing c.requires.spare c.swap_root.ensures.done c.swap_root.ensures.becomes
