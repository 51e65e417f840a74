use Rattle.std.proofs.Common.{refl, length, sym, subst}
use Rattle.std.proofs.lemmas.Option.{slice_get_read, slice_get_past}
use Rattle.store_cells.specs.Costs.{paid}
use Rattle.store_cells.specs.Shape.{AreWithin}
use Rattle.store_cells.proofs.Lists.{changed_past}
use Rattle.store_cells.proofs.Costs.{units_set, within_units}
use Rattle.store_cells.proofs.counts.pay_units.Goals as goal

pub returns-in-Some-clause-done : goal.returns-in-Some-clause-done
returns-in-Some-clause-done c =
    let ks = c.args.kept.now.items in
    units_set ks c.args.w c.args.n c.in-Some.counts.now (slice_get_read ks (length ks) c.args.w c.in-Some.counts.now refl c.in-Some.ensures.item.3.0 c.in-Some.ensures.value)

pub returns-in-Some-clause-within : goal.returns-in-Some-clause-within
returns-in-Some-clause-within c =
    let ks = c.args.kept.now.items in
    subst AreWithin (sym (units_set ks c.args.w c.args.n c.in-Some.counts.now (slice_get_read ks (length ks) c.args.w c.in-Some.counts.now refl c.in-Some.ensures.item.3.0 c.in-Some.ensures.value))) (within_units ks c.args.w c.args.n c.requires.within c.requires.units)

pub returns-in_default-clause-done : goal.returns-in_default-clause-done
returns-in_default-clause-done c =
    let ks = c.args.kept.now.items in
    sym (changed_past ks c.args.w (paid 0 0 c.args.n) (slice_get_past ks c.args.w c.in_default.ensures.item.3))
