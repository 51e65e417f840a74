use Rattle.object_store.proofs.Others.{cost_seen}
use Rattle.object_store.proofs.OwnMade.{cost_own_seen}
use Rattle.store_cells.specs.Cells.{number_in}
use Rattle.store_cells.specs.Costs.{slots_refusal}
use Rattle.object_store.proofs.Charges.{charged_shape, charged_ok, charged_err, charged_same}
use Rattle.object_store.proofs.Growth.{cost_grows}
use Rattle.object_store.proofs.store.Store.charge_slots.Goals as goal

pub invariant_of-self : goal.invariant_of-self
invariant_of-self c =
    let s = c.self in
    charged_shape c.args.self.now s.inside.names s.inside.cells.items s.inside.kept.items s.view_is s.invariant c.charge_slots.new.kept.items c.widget.result _ c.args.n 0 c.widget.ensures (λ ks w. slots_refusal ks w c.args.n) c.charge_slots.result c.charge_slots.ensures.done c.charge_slots.ensures.same c.charge_slots.ensures.within

pub returns-clause-ok : goal.returns-clause-ok
returns-clause-ok c =
    let s = c.self in
    charged_ok c.args.self.now s.inside.names s.inside.cells.items s.inside.kept.items s.view_is s.invariant c.charge_slots.new.kept.items c.widget.result _ c.args.n 0 c.widget.ensures (λ ks w. slots_refusal ks w c.args.n) c.charge_slots.result c.charge_slots.ensures.ok c.charge_slots.ensures.done

pub returns-clause-err : goal.returns-clause-err
returns-clause-err c =
    let s = c.self in
    charged_err c.args.self.now s.inside.names s.inside.cells.items s.inside.kept.items s.view_is s.invariant c.charge_slots.new.kept.items c.widget.result _ c.args.n 0 c.widget.ensures (λ ks w. slots_refusal ks w c.args.n) c.charge_slots.result c.charge_slots.ensures.err

pub returns-clause-same : goal.returns-clause-same
returns-clause-same c =
    let s = c.self in
    charged_same c.args.self.now s.inside.names s.inside.cells.items s.inside.kept.items s.view_is s.invariant c.charge_slots.new.kept.items c.widget.result _ c.args.n 0 c.widget.ensures (λ ks w. slots_refusal ks w c.args.n) c.charge_slots.result c.charge_slots.ensures.same

pub returns-clause-others : goal.returns-clause-others
returns-clause-others c =
    let s = c.self in
    λ v apart. cost_seen c.args.self.now (number_in c.args.owner) v apart c.charge_slots.result (slots_refusal c.args.self.now.kept (number_in c.args.owner) c.args.n) c.args.n 0 _ (charged_ok c.args.self.now s.inside.names s.inside.cells.items s.inside.kept.items s.view_is s.invariant c.charge_slots.new.kept.items c.widget.result _ c.args.n 0 c.widget.ensures (λ ks w. slots_refusal ks w c.args.n) c.charge_slots.result c.charge_slots.ensures.ok c.charge_slots.ensures.done) (charged_same c.args.self.now s.inside.names s.inside.cells.items s.inside.kept.items s.view_is s.invariant c.charge_slots.new.kept.items c.widget.result _ c.args.n 0 c.widget.ensures (λ ks w. slots_refusal ks w c.args.n) c.charge_slots.result c.charge_slots.ensures.same)

pub returns-clause-own : goal.returns-clause-own
returns-clause-own c =
    let s = c.self in
    cost_own_seen c.args.self.now (number_in c.args.owner) c.args.n 0 c.charge_slots.result (slots_refusal c.args.self.now.kept (number_in c.args.owner) c.args.n) _ (charged_ok c.args.self.now s.inside.names s.inside.cells.items s.inside.kept.items s.view_is s.invariant c.charge_slots.new.kept.items c.widget.result _ c.args.n 0 c.widget.ensures (λ ks w. slots_refusal ks w c.args.n) c.charge_slots.result c.charge_slots.ensures.ok c.charge_slots.ensures.done)

pub returns-clause-grows : goal.returns-clause-grows
returns-clause-grows c =
    let s = c.self in
    λ w. cost_grows c.args.self.now w c.charge_slots.result (slots_refusal c.args.self.now.kept (number_in c.args.owner) c.args.n) (number_in c.args.owner) c.args.n 0 _ (charged_ok c.args.self.now s.inside.names s.inside.cells.items s.inside.kept.items s.view_is s.invariant c.charge_slots.new.kept.items c.widget.result _ c.args.n 0 c.widget.ensures (λ ks w. slots_refusal ks w c.args.n) c.charge_slots.result c.charge_slots.ensures.ok c.charge_slots.ensures.done) (charged_same c.args.self.now s.inside.names s.inside.cells.items s.inside.kept.items s.view_is s.invariant c.charge_slots.new.kept.items c.widget.result _ c.args.n 0 c.widget.ensures (λ ks w. slots_refusal ks w c.args.n) c.charge_slots.result c.charge_slots.ensures.same)
