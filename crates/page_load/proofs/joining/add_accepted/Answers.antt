use Rattle.std.proofs.Common.{◌≡◌, refl, ap, sym, subst, ◌∙◌}
use Rattle.js_image.specs.Held.{Kept}
use Rattle.js_image.proofs.Units.{kept_then}
use Rattle.object_store.specs.Owned.{owned}
use Rattle.plain_tree.specs.Plains.{unplaced}
use Rattle.page_build.specs.Homes.{HaveRaws}
use Rattle.slot_picks.specs.declared.lives.Lives.{Lives}
use Rattle.page_load.proofs.Arriving.{bare_rest, below_32, life_rest, life_seat, life_seats, nothing_same, page_joins, raws_later, rest_same, seat_none}
use Rattle.page_load.proofs.joining.add_accepted.Goals as goal

pub returns-in_err-place-clause-keeps : goal.returns-in_err-place-clause-keeps
returns-in_err-place-clause-keeps c =
    let old = c.args.lives.now in
    let new : Lives = record old { shared = record old.shared { store = c.add_spare_root.new.store; page = c.add_spare_root.new.page } } in
    let e = c.add_spare_root.ensures in
    rest_same c.args.v old new refl refl refl c.requires.number c.requires.fine c.requires.free (e.kept _ c.args.v) (page_joins c.args.v old new.shared.page c.requires.number c.requires.free e.page) (e.raws c.requires.raws)
    (nothing_same c.args.v old.shared.store new.shared.store old.shared.page new.shared.page (e.same c.args.v) c.in_err-place.ensures.unchanged)

pub returns-in_err-place-clause-seat : goal.returns-in_err-place-clause-seat
returns-in_err-place-clause-seat c = seat_none c.from_residual.result c.args.v c.args.lives.now _ refl

pub returns-in-Err-clause-seat : goal.returns-in-Err-clause-seat
returns-in-Err-clause-seat c = let ok = c.in_ok-place.ensures in life_seat c.args.v c.args.lives.now _ c.args.place c.args.place.life.lib c.in_ok-place.field-0 refl c.requires.ready ok.root ok.spare ok.fresh

pub returns-in-Ok-clause-comes : goal.returns-in-Ok-clause-comes
returns-in-Ok-clause-comes c =
    let old = c.args.lives.now in
    let page = c.add_spare_root.new.page in
    let mid = c.add_spare_root.new.store in
    let e = c.add_spare_root.ensures in
    let ok = c.in_ok-place.ensures in
    let its = c.in-Ok.ensures in
    life_seats c.args.v old _ c.args.place c.in-Ok.lib c.in_ok-place.field-0 refl c.requires.number c.requires.fine c.requires.free refl refl
    (λ fs. kept_then fs c.args.v old.shared.store mid c.make_lib.new.store (e.kept fs c.args.v) (its.kept fs)) (page_joins c.args.v old page c.requires.number c.requires.free e.page)
    (raws_later mid c.make_lib.new.store page c.args.v (its.kept _) (e.raws c.requires.raws)) (unplaced c.args.body.now) ok.home c.requires.ready its.one its.lib ok.root ok.spare ok.fresh

pub returns-in-Ok-clause-keeps : goal.returns-in-Ok-clause-keeps
returns-in-Ok-clause-keeps c =
    let old = c.args.lives.now in
    let page = c.add_spare_root.new.page in
    let mid = c.add_spare_root.new.store in
    let e = c.add_spare_root.ensures in
    let its = c.in-Ok.ensures in
    life_rest c.args.v old _ c.args.place c.in-Ok.lib c.in_ok-place.field-0 refl c.requires.number c.requires.fine c.requires.free refl refl
    (λ fs. kept_then fs c.args.v old.shared.store mid c.make_lib.new.store (e.kept fs c.args.v) (its.kept fs)) (page_joins c.args.v old page c.requires.number c.requires.free e.page)
    (raws_later mid c.make_lib.new.store page c.args.v (its.kept _) (e.raws c.requires.raws)) (unplaced c.args.body.now) c.in_ok-place.ensures.home c.requires.ready its.one its.lib

pub returns-in-Err-clause-keeps : goal.returns-in-Err-clause-keeps
returns-in-Err-clause-keeps c =
    let old = c.args.lives.now in
    let page = c.add_spare_root.new.page in
    let mid = c.add_spare_root.new.store in
    let e = c.add_spare_root.ensures in
    let same : c.make_lib.new.store ≡ mid = c.in-Err.ensures.unchanged in
    bare_rest c.args.v old _ c.args.place c.args.place.life.lib c.in_ok-place.field-0 refl c.requires.number c.requires.fine c.requires.free refl refl
    (λ fs. subst (λ t. Kept fs c.args.v old.shared.store t) (sym same) (e.kept fs c.args.v)) (page_joins c.args.v old page c.requires.number c.requires.free e.page)
    (subst (λ t. HaveRaws t page) (sym same) (e.raws c.requires.raws)) (unplaced c.args.body.now) c.in_ok-place.ensures.home c.requires.ready
    (ap (owned c.args.v) same ∙ e.same c.args.v ∙ c.requires.free.nothing.unpaid (below_32 c.args.v c.requires.number))
