use Rattle.std.proofs.Common.{refl, length, sym, subst}
use Rattle.std.proofs.lemmas.Option.{slice_get_read, slice_get_past}
use Rattle.store_cells.specs.Costs.{paid}
use Rattle.store_cells.specs.Shape.{AreWithin}
use Rattle.store_cells.proofs.Lists.{changed_past}
use Rattle.store_cells.proofs.Costs.{paid_set, within_paid, units_le}
use Rattle.store_cells.proofs.counts.pay.Goals as goal

pub returns-in-Some-clause-done : goal.returns-in-Some-clause-done
returns-in-Some-clause-done c =
    let ks = c.args.kept.now.items in
    paid_set ks c.args.w c.args.cells c.args.slots c.in-Some.counts.now (slice_get_read ks (length ks) c.args.w c.in-Some.counts.now refl c.in-Some.ensures.item.3.0 c.in-Some.ensures.value)

pub returns-in-Some-clause-within : goal.returns-in-Some-clause-within
returns-in-Some-clause-within c =
    let ks = c.args.kept.now.items in
    subst AreWithin (sym (paid_set ks c.args.w c.args.cells c.args.slots c.in-Some.counts.now (slice_get_read ks (length ks) c.args.w c.in-Some.counts.now refl c.in-Some.ensures.item.3.0 c.in-Some.ensures.value))) (within_paid ks c.args.w c.args.cells c.args.slots 0 c.requires.within c.requires.cells c.requires.slots (units_le ks c.args.w c.requires.within))

pub returns-in_default-clause-done : goal.returns-in_default-clause-done
returns-in_default-clause-done c =
    let ks = c.args.kept.now.items in
    sym (changed_past ks c.args.w (paid c.args.cells c.args.slots 0) (slice_get_past ks c.args.w c.in_default.ensures.item.3))
