use Rattle.std.proofs.Common.{sym, ◌∙◌}
use Rattle.page_nodes.proofs.Upward.{parent_in, has_itself, below_parent}
use Rattle.page_nodes.proofs.Walk.{nearer, parent_too, within_one, within_none, other_number, apart_from, number_is}
use Rattle.page_nodes.proofs.arena.Arena.is_in_ordered.Goals as goal

pub up-init : goal.up-init
up-init c = record { is_in = c.requires.node; above = has_itself _ c.args.self.now.sound _; still = λ t l h. h }

pub up-smaller : goal.up-smaller
up-smaller c = nearer _ c.args.self.now.sound _ _ (sym c.parent_of.ensures ∙ c.in-Some.is)

pub up-preserved : goal.up-preserved
up-preserved c =
    let u = sym c.parent_of.ensures ∙ c.in-Some.is in
    record {
      is_in = parent_in _ c.args.self.now.sound _ _ u;
      above = (below_parent _ c.args.self.now.sound _ _ u).has_too _ c.up.invariant.above;
      still = λ t l h. parent_too _ c.args.self.now.sound _ _ t u (other_number c.up.place t c.args.tops.now (sym c.is_listed.ensures ∙ c.if-is_listed.false) l) (c.up.invariant.still t l h);
    }

pub returns-then-is_listed : goal.returns-then-is_listed
returns-then-is_listed c = within_one _ c.args.node c.up.place c.args.tops.now c.up.invariant.above (sym c.is_listed.ensures ∙ c.if-is_listed.true)

pub returns-in-None : goal.returns-in-None
returns-in-None c = within_none _ c.args.self.now.sound c.args.node c.up.place c.args.tops.now (sym c.parent_of.ensures ∙ c.in-None.is) c.up.invariant.still (sym c.is_listed.ensures ∙ c.if-is_listed.false)

pub returns-then-is_number : goal.returns-then-is_number
returns-then-is_number c = apart_from _ c.args.node c.up.place c.args.tops.now c.up.invariant.still (c.requires.apart c.up.place (number_is c.up.place c.args.apart (sym c.is_number.ensures ∙ c.if-is_number.true)))
