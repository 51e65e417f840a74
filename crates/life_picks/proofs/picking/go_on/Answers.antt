use Rattle.std.proofs.Common.{◌+◌, refl, subst, sym, arith, Option, Some}
use Rattle.native_image.specs.Image.{Outside}
use Rattle.life_laws.specs.Life.{Fixed, fixed}
use Rattle.life_laws.specs.declared.entry.Picked.TheVariants as picked
use Rattle.turn_steps.specs.Moving.{FineRan, IsCutAt, IsEndedAt, RanTo}
use Rattle.life_queue.specs.Turn.{Turn}
use Rattle.life_queue.specs.Fine.{FineLife}
use Rattle.life_queue.specs.Lives.{outside, own_of}
use Rattle.life_picks.specs.Picking.{PicksLife}
use Rattle.life_picks.proofs.Carried.{cut_picks, fine_spent, keeps_close, keeps_ran, keeps_turn, ok_of, ok_on, over_picks}
use Rattle.life_picks.proofs.picking.go_on.Goals as goal

pub run_turn-came-requires-clause-widget : goal.run_turn-came-requires-clause-widget
run_turn-came-requires-clause-widget c = record { confined = c.requires.fine.confined; sound = c.requires.fine.sound }

pub run_turn-came-requires-clause-turn : goal.run_turn-came-requires-clause-turn
run_turn-came-requires-clause-turn c =
    let h = c.args.shared.now in
    let l = c.args.life.now in
    let fine = subst (λ (o : Option Turn). FineLife h l.widget.id.index (record l { turn = o })) c.in-Some.is c.requires.fine in
    record { doing = fine.turn.doing; levels = fine.turn.levels }

pub returns-in_default-came-clause-kept : goal.returns-in_default-came-clause-kept
returns-in_default-came-clause-kept c =
    keeps_ran c.args.shared.now c.run_turn-came.new.shared c.args.life.now (record c.args.life.now { widget = c.run_turn-came.new.widget; turn = c.drop_turn.new.place }) c.run_turn-came.ensures.kept.turn c.run_turn-came.ensures.kept.number c.run_turn-came.ensures.kept.codes refl refl

pub overflow_sub-life : goal.overflow_sub-life
overflow_sub-life c =
    let h = c.args.shared.now in
    let l = c.args.life.now in
    let m = c.run_turn-came.new.shared in
    let u = c.run_turn-came.new.widget in
    let t = c.in-Some.turn in
    let s = c.run_turn-came.new.turn in
    let fine = subst (λ (o : Option Turn). FineLife h l.widget.id.index (record l { turn = o })) c.in-Some.is c.requires.fine in
    let sound = ok_on _ c.run_turn-came.result c.in-Ok.ran c.in-Ok.is c.run_turn-came.ensures.sound in
    let f = fixed (own_of h l.widget.id.index (record l { turn = Some t })) in
    let ran : RanTo c.args.units h m l.widget u t s f (outside l) c.in-Ok.ran = ok_of (λ r. (f : Fixed) (x : Outside) → RanTo c.args.units h m l.widget u t s f x r) c.run_turn-came.result c.in-Ok.ran c.in-Ok.is c.run_turn-came.ensures.ran f (outside l) in
    let at : IsCutAt c.args.units h m l.widget u t s f (outside l) = subst (RanTo c.args.units h m l.widget u t s f (outside l)) c.in-Cut.is ran in
    omega (arith, at.less, fine.turn.left)

pub returns-in-Cut-clause-picked : goal.returns-in-Cut-clause-picked
returns-in-Cut-clause-picked c =
    let h = c.args.shared.now in
    let l = c.args.life.now in
    let m = c.run_turn-came.new.shared in
    let u = c.run_turn-came.new.widget in
    let t = c.in-Some.turn in
    let s = c.run_turn-came.new.turn in
    let fine = subst (λ (o : Option Turn). FineLife h l.widget.id.index (record l { turn = o })) c.in-Some.is c.requires.fine in
    let sound = ok_on _ c.run_turn-came.result c.in-Ok.ran c.in-Ok.is c.run_turn-came.ensures.sound in
    let f = fixed (own_of h l.widget.id.index (record l { turn = Some t })) in
    let ran : RanTo c.args.units h m l.widget u t s f (outside l) c.in-Ok.ran = ok_of (λ r. (f : Fixed) (x : Outside) → RanTo c.args.units h m l.widget u t s f x r) c.run_turn-came.result c.in-Ok.ran c.in-Ok.is c.run_turn-came.ensures.ran f (outside l) in
    let held : FineRan m u.id.index s c.in-Ok.ran = ok_of (FineRan m u.id.index s) c.run_turn-came.result c.in-Ok.ran c.in-Ok.is c.run_turn-came.ensures.fine in
    let at : IsCutAt c.args.units h m l.widget u t s f (outside l) = subst (RanTo c.args.units h m l.widget u t s f (outside l)) c.in-Cut.is ran in
    subst (λ (o : Option Turn). PicksLife h m l.widget.id.index c.args.units (picked.Unfinished (l.records.spent + c.from.result)) (record l { turn = o }) (record l { widget = u; turn = Some s })) (sym c.in-Some.is)
    (cut_picks h m l t u c.args.units c.requires.units c.run_turn-came.ensures.kept.turn c.run_turn-came.ensures.kept.number c.run_turn-came.ensures.kept.codes sound fine s at (subst (FineRan m u.id.index s) c.in-Cut.is held) (l.records.spent + c.from.result) (omega (arith, c.from.ensures)))

pub returns-in-Cut-clause-kept : goal.returns-in-Cut-clause-kept
returns-in-Cut-clause-kept c =
    let h = c.args.shared.now in
    let l = c.args.life.now in
    let m = c.run_turn-came.new.shared in
    let u = c.run_turn-came.new.widget in
    let t = c.in-Some.turn in
    let s = c.run_turn-came.new.turn in
    keeps_ran h m l (record l { widget = u; turn = Some s }) c.run_turn-came.ensures.kept.turn c.run_turn-came.ensures.kept.number c.run_turn-came.ensures.kept.codes refl refl

pub close-requires-clause-left : goal.close-requires-clause-left
close-requires-clause-left c =
    let h = c.args.shared.now in
    let l = c.args.life.now in
    let m = c.run_turn-came.new.shared in
    let u = c.run_turn-came.new.widget in
    let t = c.in-Some.turn in
    let s = c.run_turn-came.new.turn in
    let fine = subst (λ (o : Option Turn). FineLife h l.widget.id.index (record l { turn = o })) c.in-Some.is c.requires.fine in
    let sound = ok_on _ c.run_turn-came.result c.in-Ok.ran c.in-Ok.is c.run_turn-came.ensures.sound in
    let f = fixed (own_of h l.widget.id.index (record l { turn = Some t })) in
    let ran : RanTo c.args.units h m l.widget u t s f (outside l) c.in-Ok.ran = ok_of (λ r. (f : Fixed) (x : Outside) → RanTo c.args.units h m l.widget u t s f x r) c.run_turn-came.result c.in-Ok.ran c.in-Ok.is c.run_turn-came.ensures.ran f (outside l) in
    let at : IsEndedAt c.args.units h m l.widget u t s f (outside l) c.in-Ended.how c.in-Ended.left = subst (RanTo c.args.units h m l.widget u t s f (outside l)) c.in-Ended.is ran in
    let a = record l { turn = c.drop_turn-in-Ended.new.place } in
    omega (arith, at.less, fine.turn.left)

pub close-requires-clause-fine : goal.close-requires-clause-fine
close-requires-clause-fine c =
    let h = c.args.shared.now in
    let l = c.args.life.now in
    let m = c.run_turn-came.new.shared in
    let u = c.run_turn-came.new.widget in
    let t = c.in-Some.turn in
    let s = c.run_turn-came.new.turn in
    let fine = subst (λ (o : Option Turn). FineLife h l.widget.id.index (record l { turn = o })) c.in-Some.is c.requires.fine in
    let sound = ok_on _ c.run_turn-came.result c.in-Ok.ran c.in-Ok.is c.run_turn-came.ensures.sound in
    let f = fixed (own_of h l.widget.id.index (record l { turn = Some t })) in
    let ran : RanTo c.args.units h m l.widget u t s f (outside l) c.in-Ok.ran = ok_of (λ r. (f : Fixed) (x : Outside) → RanTo c.args.units h m l.widget u t s f x r) c.run_turn-came.result c.in-Ok.ran c.in-Ok.is c.run_turn-came.ensures.ran f (outside l) in
    let at : IsEndedAt c.args.units h m l.widget u t s f (outside l) c.in-Ended.how c.in-Ended.left = subst (RanTo c.args.units h m l.widget u t s f (outside l)) c.in-Ended.is ran in
    let a = record l { turn = c.drop_turn-in-Ended.new.place } in
    fine_spent h m a t u c.args.units c.requires.units c.run_turn-came.ensures.kept.turn c.run_turn-came.ensures.kept.number c.run_turn-came.ensures.kept.codes sound fine s c.in-Ended.how c.in-Ended.left at c.drop_turn-in-Ended.ensures

pub close-requires-clause-held : goal.close-requires-clause-held
close-requires-clause-held c =
    let h = c.args.shared.now in
    let l = c.args.life.now in
    let m = c.run_turn-came.new.shared in
    let u = c.run_turn-came.new.widget in
    let t = c.in-Some.turn in
    let s = c.run_turn-came.new.turn in
    let held : FineRan m u.id.index s c.in-Ok.ran = ok_of (FineRan m u.id.index s) c.run_turn-came.result c.in-Ok.ran c.in-Ok.is c.run_turn-came.ensures.fine in
    subst (FineRan m u.id.index s) c.in-Ended.is held

pub returns-in_err-close-in-Ended-clause-kept : goal.returns-in_err-close-in-Ended-clause-kept
returns-in_err-close-in-Ended-clause-kept c =
    let h = c.args.shared.now in
    let l = c.args.life.now in
    let m = c.run_turn-came.new.shared in
    let u = c.run_turn-came.new.widget in
    let t = c.in-Some.turn in
    let s = c.run_turn-came.new.turn in
    let sound = ok_on _ c.run_turn-came.result c.in-Ok.ran c.in-Ok.is c.run_turn-came.ensures.sound in
    let f = fixed (own_of h l.widget.id.index (record l { turn = Some t })) in
    let ran : RanTo c.args.units h m l.widget u t s f (outside l) c.in-Ok.ran = ok_of (λ r. (f : Fixed) (x : Outside) → RanTo c.args.units h m l.widget u t s f x r) c.run_turn-came.result c.in-Ok.ran c.in-Ok.is c.run_turn-came.ensures.ran f (outside l) in
    let at : IsEndedAt c.args.units h m l.widget u t s f (outside l) c.in-Ended.how c.in-Ended.left = subst (RanTo c.args.units h m l.widget u t s f (outside l)) c.in-Ended.is ran in
    let a = record l { turn = c.drop_turn-in-Ended.new.place } in
    keeps_turn l.widget.id.index h c.close.new.shared l a c.close.new.life refl refl refl (keeps_close h m a t u c.args.units c.requires.units c.run_turn-came.ensures.kept.turn c.run_turn-came.ensures.kept.number c.run_turn-came.ensures.kept.codes sound c.close.new.shared c.close.new.life c.close.ensures.kept)

pub returns-in_ok-close-in-Ended-clause-picked : goal.returns-in_ok-close-in-Ended-clause-picked
returns-in_ok-close-in-Ended-clause-picked c =
    let h = c.args.shared.now in
    let l = c.args.life.now in
    let m = c.run_turn-came.new.shared in
    let u = c.run_turn-came.new.widget in
    let t = c.in-Some.turn in
    let s = c.run_turn-came.new.turn in
    let fine = subst (λ (o : Option Turn). FineLife h l.widget.id.index (record l { turn = o })) c.in-Some.is c.requires.fine in
    let sound = ok_on _ c.run_turn-came.result c.in-Ok.ran c.in-Ok.is c.run_turn-came.ensures.sound in
    let f = fixed (own_of h l.widget.id.index (record l { turn = Some t })) in
    let ran : RanTo c.args.units h m l.widget u t s f (outside l) c.in-Ok.ran = ok_of (λ r. (f : Fixed) (x : Outside) → RanTo c.args.units h m l.widget u t s f x r) c.run_turn-came.result c.in-Ok.ran c.in-Ok.is c.run_turn-came.ensures.ran f (outside l) in
    let at : IsEndedAt c.args.units h m l.widget u t s f (outside l) c.in-Ended.how c.in-Ended.left = subst (RanTo c.args.units h m l.widget u t s f (outside l)) c.in-Ended.is ran in
    let a = record l { turn = c.drop_turn-in-Ended.new.place } in
    subst (λ (o : Option Turn). PicksLife h c.close.new.shared l.widget.id.index c.args.units _ (record l { turn = o }) c.close.new.life) (sym c.in-Some.is)
    (over_picks h m a t u c.args.units c.requires.units c.run_turn-came.ensures.kept.turn c.run_turn-came.ensures.kept.number c.run_turn-came.ensures.kept.codes sound fine s c.in-Ended.how c.in-Ended.left at c.drop_turn-in-Ended.ensures
    c.close.new.shared c.close.new.life c.close.ensures.kept c.in_ok-close-in-Ended.ensures.fine c.close.ensures.rest c.close.ensures.queue c.in_ok-close-in-Ended.ensures.own)

pub returns-in_ok-close-in-Ended-clause-kept : goal.returns-in_ok-close-in-Ended-clause-kept
returns-in_ok-close-in-Ended-clause-kept c =
    let h = c.args.shared.now in
    let l = c.args.life.now in
    let m = c.run_turn-came.new.shared in
    let u = c.run_turn-came.new.widget in
    let t = c.in-Some.turn in
    let s = c.run_turn-came.new.turn in
    let sound = ok_on _ c.run_turn-came.result c.in-Ok.ran c.in-Ok.is c.run_turn-came.ensures.sound in
    let f = fixed (own_of h l.widget.id.index (record l { turn = Some t })) in
    let ran : RanTo c.args.units h m l.widget u t s f (outside l) c.in-Ok.ran = ok_of (λ r. (f : Fixed) (x : Outside) → RanTo c.args.units h m l.widget u t s f x r) c.run_turn-came.result c.in-Ok.ran c.in-Ok.is c.run_turn-came.ensures.ran f (outside l) in
    let at : IsEndedAt c.args.units h m l.widget u t s f (outside l) c.in-Ended.how c.in-Ended.left = subst (RanTo c.args.units h m l.widget u t s f (outside l)) c.in-Ended.is ran in
    let a = record l { turn = c.drop_turn-in-Ended.new.place } in
    keeps_turn l.widget.id.index h c.close.new.shared l a c.close.new.life refl refl refl (keeps_close h m a t u c.args.units c.requires.units c.run_turn-came.ensures.kept.turn c.run_turn-came.ensures.kept.number c.run_turn-came.ensures.kept.codes sound c.close.new.shared c.close.new.life c.close.ensures.kept)
