use Rattle.std.proofs.Common.{sym, ◌∙◌}
use Rattle.page_nodes.proofs.Upward.{parent_in, has_itself, below_parent}
use Rattle.page_nodes.proofs.Walk.{nearer, parent_too, within_one, within_none, other_number}
use Rattle.page_nodes.proofs.arena.Arena.is_in_any.Goals as goal

pub up-init : goal.up-init
up-init c = record { is_in = c.requires; above = has_itself _ c.args.self.now.sound _; still = λ t l h. h }

pub up-smaller : goal.up-smaller
up-smaller c = nearer _ c.args.self.now.sound _ _ (sym c.parent_of.ensures ∙ c.in-Some.is)

pub up-preserved : goal.up-preserved
up-preserved c =
    let u = sym c.parent_of.ensures ∙ c.in-Some.is in
    record {
      is_in = parent_in _ c.args.self.now.sound _ _ u;
      above = (below_parent _ c.args.self.now.sound _ _ u).has_too _ c.up.invariant.above;
      still = λ t l h. parent_too _ c.args.self.now.sound _ _ t u (other_number c.up.place t c.args.tops.now (sym c.contains.ensures.value ∙ c.if-contains.false) l) (c.up.invariant.still t l h);
    }

pub returns-then-contains : goal.returns-then-contains
returns-then-contains c = within_one _ c.args.node c.up.place c.args.tops.now c.up.invariant.above (sym c.contains.ensures.value ∙ c.if-contains.true)

pub returns-in-None : goal.returns-in-None
returns-in-None c = within_none _ c.args.self.now.sound c.args.node c.up.place c.args.tops.now (sym c.parent_of.ensures ∙ c.in-None.is) c.up.invariant.still (sym c.contains.ensures.value ∙ c.if-contains.false)
