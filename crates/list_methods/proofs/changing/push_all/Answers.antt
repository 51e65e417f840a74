use Rattle.std.proofs.Common.{[], sym}
use Rattle.std.proofs.lemmas.Option.{get_or_from_slice_get}
use Rattle.js_image.proofs.Grown.{fine_stays, held_stays}
use Rattle.js_image.proofs.Units.{kept_then}
use Rattle.list_methods.proofs.Fills.{behind_none, one_behind}
use Rattle.list_methods.proofs.Lists.{one_fine}
use Rattle.list_methods.proofs.Meeting.{kept_here}
use Rattle.list_methods.proofs.changing.push_all.Goals as goal

pub loop-at-init : goal.loop-at-init
loop-at-init c = (λ fs. kept_here fs c.args.w.index c.args.store.now, behind_none c.args.w.index c.args.store.now c.args.array c.requires.array)

pub push_paid-requires-clause-held : goal.push_paid-requires-clause-held
push_paid-requires-clause-held c = held_stays c.args.w.index c.args.store.now.cells c.loop-at.store.cells (c.loop-at.invariant.0 []).grows c.args.array.cell c.requires.array.held

pub push_paid-requires-clause-value : goal.push_paid-requires-clause-value
push_paid-requires-clause-value c = fine_stays c.args.w.index c.args.store.now.cells c.loop-at.store.cells (c.loop-at.invariant.0 []).grows c.in_ok-value.value
    (one_fine c.args.w.index c.args.store.now.cells c.args.values.now c.loop-at.at c.in_ok-value.value c.loop-at-test.true (sym (get_or_from_slice_get c.args.values.now c.loop-at.at c.in_ok-value.value c.in_ok-value.value c.in_ok-value.ensures)) c.requires.values)

pub loop-at-preserved : goal.loop-at-preserved
loop-at-preserved c = (
  λ fs. kept_then fs c.args.w.index c.args.store.now c.loop-at.store c.push_paid.new.store (c.loop-at.invariant.0 fs) (c.push_paid.ensures.kept fs),
  one_behind c.args.w.index c.args.store.now c.args.array c.requires.array c.loop-at.store c.push_paid.new.store c.args.values.now c.loop-at.at c.in_ok-value.value c.loop-at-test.true
      (sym (get_or_from_slice_get c.args.values.now c.loop-at.at c.in_ok-value.value c.in_ok-value.value c.in_ok-value.ensures)) c.requires.values c.loop-at.invariant.0 c.loop-at.invariant.1 c.in_ok-push_paid.ensures.done,
)

pub returns-in_err-push_paid-clause-kept : goal.returns-in_err-push_paid-clause-kept
returns-in_err-push_paid-clause-kept c = λ fs. kept_then fs c.args.w.index c.args.store.now c.loop-at.store c.push_paid.new.store (c.loop-at.invariant.0 fs) (c.push_paid.ensures.kept fs)
