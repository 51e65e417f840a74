use Rattle.std.proofs.Common.{sym}
use Rattle.plain_tree.specs.Trees.{TextOf}
use Rattle.page_nodes.proofs.Label.{label_written}
use Rattle.page_nodes.proofs.arena.Arena.set_text.Goals as goal

pub invariant_of-self : goal.invariant_of-self
invariant_of-self c = record { sound = (label_written _ _ c.args.node (TextOf c.args.text) c.args.self.now.sound c.requires.node (sym c.requires.is_text) c.set_text.ensures).0 }

pub returns : goal.returns
returns c = (label_written _ _ c.args.node (TextOf c.args.text) c.args.self.now.sound c.requires.node (sym c.requires.is_text) c.set_text.ensures).1
