use Rattle.std.proofs.Common.{◌≡◌, ◌+◌, ◌<◌, ◌∷◌, ◌++◌, [], true, length, subst, ◌⊎◌, OnOk, rules}
use Rattle.std.specs.Prelude.{nat_le}
use Rattle.std.specs.Int.{w64}
use Rattle.std.proofs.lemmas.Int.{to_z-of_z}
use mir.Val.{SFits}
use Rattle.widget_meaning.specs.AdsafeNatives.{with_timer}
use Rattle.widget_meaning.specs.Limits.{max_timers}
use Rattle.widget_meaning.specs.Values.{Own}
use Rattle.page_image.proofs.Results.{ok_then, err_then, if_err_then}
use Rattle.event_loop.specs.Around.{timers, clock, RefusesTimer}
use Rattle.event_loop.specs.Timers.{delay}
use Rattle.event_loop.specs.declared.around.LoopFault.TheVariants as fault
use Rattle.page_image.specs.Around.{Shows}
use Rattle.page_image.proofs.States.{later_shows, unstarted_shows, timer_refused, timer_room}
use Rattle.page_image.proofs.around.later.Goals as goal

pub returns-clause-image : goal.returns-clause-image
returns-clause-image c =
    let p = c.args.page.now in
    let w = c.args.widget in
    let old = c.args.around.now in
    let new = c.later.new.self in
    let fits : SFits w64 c.args.ms = search rules in
    λ g s shows. ok_then c.later.result (timers new ≡ timers old ++ record { func = c.args.func; at = clock old + delay c.args.ms } ∷ []) (Shows p w g new (with_timer s (Own (g c.args.func)) c.args.ms).own)
    (later_shows p w g old new s c.args.func c.args.ms c.later.ensures.others shows)
    (subst (λ z. OnOk c.later.result (timers new ≡ timers old ++ record { func = c.args.func; at = clock old + delay z } ∷ [])) (to_z-of_z w64 c.args.ms fits) c.later.ensures.done)

pub returns-clause-room : goal.returns-clause-room
returns-clause-room c = λ g o shows. ok_then c.later.result (length (timers c.args.around.now) < 64) (length o.timers < max_timers)
    (timer_room c.args.page.now c.args.widget g c.args.around.now o shows) c.later.ensures.room

pub returns-clause-refused : goal.returns-clause-refused
returns-clause-refused c = λ g o shows. if_err_then c.later.result (RefusesTimer (timers c.args.around.now)) (λ f. (f ≡ fault.Memory) ⊎ (nat_le max_timers (length o.timers) ≡ true))
    (timer_refused c.args.page.now c.args.widget g c.args.around.now o shows) c.later.ensures.full

pub returns-clause-same : goal.returns-clause-same
returns-clause-same c =
    let p = c.args.page.now in
    let w = c.args.widget in
    let old = c.args.around.now in
    let new = c.later.new.self in
    λ g o shows. err_then c.later.result (timers new ≡ timers old) (Shows p w g new o) (unstarted_shows p w g old new o c.later.ensures.others shows) c.later.ensures.same
