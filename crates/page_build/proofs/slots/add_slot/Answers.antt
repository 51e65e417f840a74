use Rattle.std.proofs.Common.{sym, subst}
use Rattle.page_image.proofs.Results.{if_ok_then, ok_then}
use Rattle.page_build.specs.Homes.{IsPlaced}
use Rattle.page_build.specs.Layout.{IsLot, Own, home_of, lot_of}
use Rattle.page_build.proofs.slots.add_slot.Goals as goal

pub returns-in-Runs-clause-placed : goal.returns-in-Runs-clause-placed
returns-in-Runs-clause-placed c = ok_then c.add_root.result _ _ (λ h. subst (IsPlaced c.add_root.new.page c.args.w) (sym c.in-Runs.is) h) c.add_root.ensures.home

pub returns-in_ok-plain-in-Refused-clause-placed : goal.returns-in_ok-plain-in-Refused-clause-placed
returns-in_ok-plain-in-Refused-clause-placed c = ok_then c.add_markup.result _ _ (λ h. subst (IsPlaced c.add_markup.new.page c.args.w) (sym c.in-Refused.is) (h c.args.w c.requires.widget c.requires.away)) c.add_markup.ensures.away

pub returns-in_ok-plain-in-Refused-clause-others : goal.returns-in_ok-plain-in-Refused-clause-others
returns-in_ok-plain-in-Refused-clause-others c = ok_then c.add_markup.result _ _ (λ h. λ v tree lt ne. h v tree lt) c.add_markup.ensures.home

pub returns-in_ok-plain-in-Refused-clause-away : goal.returns-in_ok-plain-in-Refused-clause-away
returns-in_ok-plain-in-Refused-clause-away c = ok_then c.add_markup.result _ _ (λ h. λ v lt ne. h v lt) c.add_markup.ensures.away

pub returns-in-Runs-clause-lot : goal.returns-in-Runs-clause-lot
returns-in-Runs-clause-lot c =
    if_ok_then c.add_root.result _ _ (λ n e. subst (λ k. IsLot c.add_root.new.page (lot_of c.args.slot.now.name (home_of c.args.w k)) n) (sym c.in-Runs.is) (c.requires.widget, e)) c.add_root.ensures.root

pub returns-in_ok-plain-in-Refused-clause-lot : goal.returns-in_ok-plain-in-Refused-clause-lot
returns-in_ok-plain-in-Refused-clause-lot c =
    if_ok_then c.add_markup.result _ _
    (λ n l. subst (λ k. IsLot c.add_markup.new.page (lot_of c.args.slot.now.name (home_of c.args.w k)) n) (sym c.in-Refused.is) (subst (λ t. IsLot c.add_markup.new.page (Own t) n) c.in_ok-plain-in-Refused.ensures l))
    c.add_markup.ensures.lot
