use Rattle.std.proofs.Common.{◌∙◌, List, ap, map, refl, subst, sym, true}
use Rattle.std.specs.List.{IsDistinct}
use Rattle.std.specs.Str.{bytes_eq}
use Rattle.slot_picks.specs.declared.slots.Slot.{Slot}
use Rattle.slot_picks.specs.Lives.{chains_of}
use Rattle.slot_picks.specs.Feeding.{is_last}
use Rattle.slot_picks.proofs.Seen.{seen_same}
use Rattle.widget_host.specs.declared.host.Host.{Host}
use Rattle.widget_host.specs.Housed.{chains, channels, names, seens, told}
use Rattle.widget_host.proofs.Passed.{holds_all}
use Rattle.widget_host.proofs.Rounding.{apart_alike, delivers_now, given_as, host_alike, listed_then, round_as, whole_then}
use Rattle.widget_host.proofs.host.Host.deliver.Goals as goal

pub deliver_posts-requires-clause-apart : goal.deliver_posts-requires-clause-apart
unfolding names
deliver_posts-requires-clause-apart c = subst (λ (ss : List Slot). IsDistinct bytes_eq (map (λ (s : Slot). s.name) ss)) (sym c.deref.ensures.value) c.requires.apart.distinct

pub deliver_posts-requires-clause-told : goal.deliver_posts-requires-clause-told
unfolding told
deliver_posts-requires-clause-told c = c.requires.whole.told

pub returns-in-Ok-clause-delivers : goal.returns-in-Ok-clause-delivers
returns-in-Ok-clause-delivers c =
    let old = c.args.self.now in
    let new : Host = record old { lives = record old.lives { places = c.deliver_posts.new.places } } in
    delivers_now old new refl refl c.in-Ok.ensures.alike c.requires.whole c.in-Ok.delivered
    (given_as old new refl refl c.in-Ok.ensures.alike c.requires.whole c.in-Ok.delivered _ _ c.deref.ensures.value c.deref-2.ensures.value c.in-Ok.ensures.given)

pub returns-in-Ok-clause-more : goal.returns-in-Ok-clause-more
unfolding told
returns-in-Ok-clause-more c = c.in-Ok.ensures.more

pub returns-in-Ok-clause-listed : goal.returns-in-Ok-clause-listed
unfolding channels
returns-in-Ok-clause-listed c =
    let old = c.args.self.now in
    let new : Host = record old { lives = record old.lives { places = c.deliver_posts.new.places } } in
    listed_then old new refl refl c.in-Ok.ensures.alike c.requires.whole c.in-Ok.delivered
    (round_as old new refl refl c.in-Ok.ensures.alike c.requires.whole c.in-Ok.delivered _ _ c.deref.ensures.value c.deref-2.ensures.value c.in-Ok.ensures.round)

pub returns-in-Ok-clause-images : goal.returns-in-Ok-clause-images
unfolding seens
returns-in-Ok-clause-images c = c.deliver_posts.ensures.images c.args.self.now.lives.shared

pub returns-in-Err-clause-images : goal.returns-in-Err-clause-images
unfolding seens
returns-in-Err-clause-images c = c.deliver_posts.ensures.images c.args.self.now.lives.shared

pub returns-in-Ok-clause-others : goal.returns-in-Ok-clause-others
unfolding seens chains
returns-in-Ok-clause-others c = λ v out.
    seen_same c.args.self.now.lives.shared v c.args.self.now.lives.places.items c.deliver_posts.new.places.items
    (c.deliver_posts.ensures.others v (ap (λ (ss : List Slot). is_last v (chains_of ss)) c.deref.ensures.value ∙ out))

pub returns-in-Err-clause-others : goal.returns-in-Err-clause-others
unfolding seens chains
returns-in-Err-clause-others c = λ v out.
    seen_same c.args.self.now.lives.shared v c.args.self.now.lives.places.items c.deliver_posts.new.places.items
    (c.deliver_posts.ensures.others v (ap (λ (ss : List Slot). is_last v (chains_of ss)) c.deref.ensures.value ∙ out))

pub returns-in-Ok-clause-whole : goal.returns-in-Ok-clause-whole
returns-in-Ok-clause-whole c =
    let old = c.args.self.now in
    let new : Host = record old { lives = record old.lives { places = c.deliver_posts.new.places } } in
    whole_then old new refl refl c.in-Ok.ensures.alike c.requires.whole c.in-Ok.ensures.kept c.in-Ok.delivered
    (round_as old new refl refl c.in-Ok.ensures.alike c.requires.whole c.in-Ok.delivered _ _ c.deref.ensures.value c.deref-2.ensures.value c.in-Ok.ensures.round)
    refl refl refl (apart_alike old new refl c.in-Ok.ensures.alike refl c.requires.apart)

pub returns-in-Ok-clause-apart : goal.returns-in-Ok-clause-apart
returns-in-Ok-clause-apart c =
    let old = c.args.self.now in
    let new : Host = record old { lives = record old.lives { places = c.deliver_posts.new.places } } in
    apart_alike old new refl c.in-Ok.ensures.alike refl c.requires.apart

pub returns-in-Ok-clause-stays : goal.returns-in-Ok-clause-stays
returns-in-Ok-clause-stays c =
    let old = c.args.self.now in
    let new : Host = record old { lives = record old.lives { places = c.deliver_posts.new.places } } in
    host_alike old new refl c.in-Ok.ensures.alike refl refl refl refl

pub returns-in-Ok-clause-holds : goal.returns-in-Ok-clause-holds
returns-in-Ok-clause-holds c =
    let old = c.args.self.now in
    let new : Host = record old { lives = record old.lives { places = c.deliver_posts.new.places } } in
    holds_all new (apart_alike old new refl c.in-Ok.ensures.alike refl c.requires.apart).own

pub returns-in-Err-clause-apart : goal.returns-in-Err-clause-apart
returns-in-Err-clause-apart c =
    let old = c.args.self.now in
    let new : Host = record old { lives = record old.lives { places = c.deliver_posts.new.places }; marked = true } in
    apart_alike old new refl c.deliver_posts.ensures.alike refl c.requires.apart

pub returns-in-Err-clause-stays : goal.returns-in-Err-clause-stays
returns-in-Err-clause-stays c =
    let old = c.args.self.now in
    let new : Host = record old { lives = record old.lives { places = c.deliver_posts.new.places }; marked = true } in
    host_alike old new refl c.deliver_posts.ensures.alike refl refl refl refl

pub returns-in-Err-clause-holds : goal.returns-in-Err-clause-holds
returns-in-Err-clause-holds c =
    let old = c.args.self.now in
    let new : Host = record old { lives = record old.lives { places = c.deliver_posts.new.places }; marked = true } in
    holds_all new (apart_alike old new refl c.deliver_posts.ensures.alike refl c.requires.apart).own
