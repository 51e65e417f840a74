use Rattle.std.proofs.Common.{refl}
use Rattle.slot_picks.specs.declared.lives.Lives.{Lives}
use Rattle.slot_picks.specs.declared.lives.Place.{Place}
use Rattle.page_load.proofs.Arriving.{div_rest, div_seats, host_joins, nothing_same, rest_here, rest_same, seat_none, unborn_seated}
use Rattle.page_load.proofs.joining.add_refused.Goals as goal

pub returns-in_err-place-clause-keeps : goal.returns-in_err-place-clause-keeps
returns-in_err-place-clause-keeps c = rest_here c.args.v c.args.lives.now c.requires.number c.requires.fine c.requires.free c.requires.raws

pub returns-in_err-place-2-clause-keeps : goal.returns-in_err-place-2-clause-keeps
returns-in_err-place-2-clause-keeps c =
    let old = c.args.lives.now in
    let new : Lives = record old { shared = record old.shared { store = c.add_spare_div.new.store; page = c.add_spare_div.new.page } } in
    let e = c.add_spare_div.ensures in
    rest_same c.args.v old new refl refl refl c.requires.number c.requires.fine c.requires.free (e.kept _ c.args.v) (host_joins c.args.v old.shared.page new.shared.page e.page) (e.raws c.requires.raws)
    (nothing_same c.args.v old.shared.store new.shared.store old.shared.page new.shared.page (e.same c.args.v) c.in_err-place-2.ensures.unchanged)

pub returns-clause-comes : goal.returns-clause-comes
returns-clause-comes c =
    let old = c.args.lives.now in
    let a = c.in_ok-place.place in
    let b : Place = record a { life = record a.life { slot = c.args.to }; root = c.in_ok-place-2.field-0 } in
    let e = c.add_spare_div.ensures in
    let ok = c.in_ok-place-2.ensures in
    div_seats c.args.v c.args.to c.args.slot.now.name old _ b refl c.requires.number c.requires.fine c.requires.free refl refl (λ fs. e.kept fs c.args.v) e.page (e.same c.args.v) (e.raws c.requires.raws)
    (unborn_seated a c.args.to c.in_ok-place-2.field-0 c.in_ok-place.ensures.unborn) (record { slot = refl; told = c.in_ok-place.ensures.slot.told }) ok.spare ok.fresh ok.lot

pub returns-clause-keeps : goal.returns-clause-keeps
returns-clause-keeps c =
    let old = c.args.lives.now in
    let a = c.in_ok-place.place in
    let b : Place = record a { life = record a.life { slot = c.args.to }; root = c.in_ok-place-2.field-0 } in
    let e = c.add_spare_div.ensures in
    div_rest c.args.v c.args.to c.args.slot.now.name old _ b refl c.requires.number c.requires.fine c.requires.free refl refl (λ fs. e.kept fs c.args.v) e.page (e.same c.args.v) (e.raws c.requires.raws)
    (unborn_seated a c.args.to c.in_ok-place-2.field-0 c.in_ok-place.ensures.unborn)

pub returns-in_err-place-clause-seat : goal.returns-in_err-place-clause-seat
returns-in_err-place-clause-seat c = seat_none c.from_residual.result c.args.v c.args.lives.now _ refl

pub returns-in_err-place-2-clause-seat : goal.returns-in_err-place-2-clause-seat
returns-in_err-place-2-clause-seat c = seat_none c.from_residual-in_err-place-2.result c.args.v c.args.lives.now _ refl
