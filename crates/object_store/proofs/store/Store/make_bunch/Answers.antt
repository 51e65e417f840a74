use Rattle.std.proofs.Common.{sym, ◌∙◌, ap, length, List, ◌+◌}
use Rattle.store_cells.specs.declared.counts.Counts.{Counts}
use Rattle.store_cells.specs.Lists.{changed}
use Rattle.store_cells.specs.Costs.{cost_refusal, paid}
use Rattle.store_table.proofs.Births.{bunch_made, bunch_ordered, bunch_shape}
use Rattle.store_cells.proofs.Makes.{kept_in_store, length_in_store}
use Rattle.object_store.proofs.store.Store.make_bunch.Goals as goal

pub add_bunch-requires-clause-ordered : goal.add_bunch-requires-clause-ordered
add_bunch-requires-clause-ordered c = let s = c.self in bunch_ordered s.inside.names s.inside.cells.items s.inside.kept.items s.invariant c.args.w c.counts_of-number.result.cells c.requires.widget c.counts_of-number.ensures.cells

pub returns-clause-ok : goal.returns-clause-ok
returns-clause-ok c =
    let s = c.self in
    let grew = c.in_ok-id.ensures.ok in record {
      paid = ap (λ (ks : List Counts). cost_refusal ks c.args.w 1 (length c.args.nodes.now + 1)) (kept_in_store c.args.self.now s.inside.names s.inside.cells.items s.inside.kept.items s.view_is s.invariant) ∙ c.in_ok-slots.ensures.ok;
      place = grew.0 ∙ sym (length_in_store c.args.self.now s.inside.names s.inside.cells.items s.inside.kept.items s.view_is s.invariant);
      done = bunch_made c.args.self.now s.inside.names s.inside.cells.items s.inside.kept.items s.view_is s.invariant c.args.nodes.now c.add_bunch.new.names c.add_bunch.new.cells.items c.pay.new.kept.items c.args.w (length c.args.nodes.now + 1) _ _ grew.1 (c.pay.ensures.done ∙ ap (λ n. changed s.inside.kept.items c.args.w (paid 1 n 0)) c.in_ok-slots.ensures.count);
    }

pub invariant_of-self-2 : goal.invariant_of-self-2
invariant_of-self-2 c =
    let s = c.self in
    let grew = c.in_ok-id.ensures.ok in
    bunch_shape c.args.self.now s.inside.names s.inside.cells.items s.inside.kept.items s.view_is s.invariant c.args.nodes.now c.add_bunch.new.names c.add_bunch.new.cells.items c.pay.new.kept.items c.args.w _ c.counts_of-number.result.cells c.requires.widget c.requires.distinct c.requires.known grew.1 c.pay.ensures.within c.pay.ensures.done
