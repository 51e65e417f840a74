use Rattle.std.proofs.Common.{◌∙◌, arith, ap, length, sym}
use Rattle.std.proofs.lemmas.List.{length-set}
use Rattle.page_nodes.specs.Entries.{body, at}
use Rattle.page_nodes.specs.Arenas.{nodes_in}
use Rattle.page_nodes.proofs.Swap.{swap_written, none_is}
use Rattle.page_nodes.proofs.arena.Arena.swap.Goals as goal

pub swap_child-requires : goal.swap_child-requires
swap_child-requires c = record {
  parent = c.args.self.now.sound.some;
  listed = c.args.self.now.sound.upward _ _ c.requires.under;
  once = c.args.self.now.sound.once body;
  other = λ e. none_is body (sym c.requires.top ∙ ap (λ x. (at (nodes_in c.args.self.now) x).parent) e ∙ c.requires.under);
}

pub set_parent-requires : goal.set_parent-requires
set_parent-requires c = let e = ap length c.swap_child.ensures ∙ length-set (nodes_in c.args.self.now) body _ in omega (arith, e, c.requires.new)

pub set_parent-requires-2 : goal.set_parent-requires-2
set_parent-requires-2 c = let e = ap length c.set_parent.ensures.links ∙ length-set _ c.args.new _ ∙ ap length c.swap_child.ensures ∙ length-set (nodes_in c.args.self.now) body _ in omega (arith, e, c.requires.old)

pub invariant_of-self : goal.invariant_of-self
invariant_of-self c = record { sound = (swap_written (nodes_in c.args.self.now) _ _ _ c.args.old c.args.new c.args.self.now.sound c.requires.old c.requires.new c.requires.under c.requires.top c.requires.other c.swap_child.ensures c.set_parent.ensures.links c.set_parent-2.ensures.links).0 }

pub returns : goal.returns
returns c = (swap_written (nodes_in c.args.self.now) _ _ _ c.args.old c.args.new c.args.self.now.sound c.requires.old c.requires.new c.requires.under c.requires.top c.requires.other c.swap_child.ensures c.set_parent.ensures.links c.set_parent-2.ensures.links).1
