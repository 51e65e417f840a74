use Rattle.std.proofs.Common.{◌≡◌, ◌≤◌, ◌∙◌, ℕ, List, ap, arith, false, length, map, refl, subst, sym, true}
use Rattle.std.specs.declared.alloc.Global.{Global}
use Rattle.std.specs.declared.vec.Vec.{Vec}
use Rattle.std.specs.List.{IsDistinct}
use Rattle.std.specs.Str.{bytes_eq}
use Rattle.std.proofs.lemmas.List.{length-map}
use Rattle.post_rounds.specs.declared.posts.Post.{Post}
use Rattle.post_rounds.specs.declared.posts.PostEvent.{PostEvent}
use Rattle.post_rounds.specs.Events.{values}
use Rattle.post_rounds.specs.News.{all_news}
use Rattle.life_laws.specs.Chains.{Chains}
use Rattle.slot_picks.specs.declared.lives.Place.{Place}
use Rattle.slot_picks.specs.declared.slots.Slot.{Slot}
use Rattle.slot_picks.specs.Lives.{chains_of}
use Rattle.slot_picks.specs.Places.{homes_of, is_accepted}
use Rattle.slot_picks.specs.Feeding.{AreStill, sum_of}
use Rattle.slot_picks.specs.Posting.{fresh_of_lasts}
use Rattle.slot_picks.proofs.Gathering.{events_length, false_true, few_taken, fresh_length, loud_round, map_twice, quiet_round}
use Rattle.slot_picks.proofs.Rounds.{alike_here}
use Rattle.slot_picks.proofs.Seen.{gives_round, images_alike}
use Rattle.slot_picks.proofs.Taken.{keeps_round, takes_more}
use Rattle.slot_picks.proofs.delivering.deliver_posts.Goals as goal

pub all_fresh-requires : goal.all_fresh-requires
all_fresh-requires c =
    record { born = subst (λ (ps : List Place). (born : ℕ) × (born ≤ length ps) × Chains (homes_of ps) born 0 (chains_of c.args.slots.now)) (sym c.deref.ensures.value) c.requires.born }

pub returns-in_err-fresh-clause-alike : goal.returns-in_err-fresh-clause-alike
returns-in_err-fresh-clause-alike c = alike_here c.args.places.now.items

pub returns-in_err-names-clause-alike : goal.returns-in_err-names-clause-alike
returns-in_err-names-clause-alike c = alike_here c.args.places.now.items

pub round-requires-clause-apart : goal.round-requires-clause-apart
round-requires-clause-apart c = subst (λ (ns : List (List ℕ)). IsDistinct bytes_eq ns) (sym (c.deref-2.ensures.value ∙ c.in_ok-names.ensures)) c.requires.apart

pub round-requires-clause-slots : goal.round-requires-clause-slots
round-requires-clause-slots c =
    ap length c.deref-3.ensures.value
    ∙ (fresh_length c.args.places.now.items c.args.slots.now c.in_ok-fresh.fresh.items (c.in_ok-fresh.ensures ∙ ap (λ (ps : List Place). fresh_of_lasts ps (chains_of c.args.slots.now)) c.deref.ensures.value)
    ∙ sym (ap length (c.deref-2.ensures.value ∙ c.in_ok-names.ensures) ∙ length-map c.args.slots.now (λ (s : Slot). s.name)))

pub returns-in_err-events-clause-alike : goal.returns-in_err-events-clause-alike
returns-in_err-events-clause-alike c = alike_here c.args.places.now.items

pub is_quiet-requires-clause-born : goal.is_quiet-requires-clause-born
is_quiet-requires-clause-born c = subst (λ (ps : List Place). (born : ℕ) × (born ≤ length ps) × Chains (homes_of ps) born 0 (chains_of c.args.slots.now)) (sym c.deref-4.ensures.value) c.requires.born

pub is_quiet-requires-clause-events : goal.is_quiet-requires-clause-events
is_quiet-requires-clause-events c =
    ap length c.deref-5.ensures.value
    ∙ (events_length c.args.channels.now c.deref-2.result.now (map (λ (x : Vec Post Global). x.items) c.deref-3.result.now) c.in_ok-events.events.items c.in_ok-events.ensures
    ∙ (ap length (c.deref-2.ensures.value ∙ c.in_ok-names.ensures) ∙ length-map c.args.slots.now (λ (s : Slot). s.name)))

pub returns-then-is_quiet-clause-round : goal.returns-then-is_quiet-clause-round
returns-then-is_quiet-clause-round c =
    let ss = c.args.slots.now in
    let old = c.args.places.now.items in
    let es = map (λ (x : Vec PostEvent Global). values x.items) c.deref-5.result.now in
    quiet_round c.args.channels.now (map (λ (s : Slot). s.name) ss) c.deref-2.result.now (chains_of ss) old old es (map (λ (x : Vec Post Global). x.items) c.deref-3.result.now)
    (ap (map (λ (x : Vec PostEvent Global). values x.items)) c.deref-5.ensures.value ∙ c.in_ok-events.ensures)
    (c.deref-2.ensures.value ∙ c.in_ok-names.ensures)
    (ap (map (λ (x : Vec Post Global). x.items)) c.deref-3.ensures.value ∙ (c.in_ok-fresh.ensures ∙ ap (λ (ps : List Place). fresh_of_lasts ps (chains_of c.args.slots.now)) c.deref.ensures.value))
    (subst (λ (ps : List Place). AreStill (is_accepted ps) (chains_of ss) es) c.deref-4.ensures.value (c.is_quiet.ensures.quiet c.if-is_quiet.true)) refl

pub returns-then-is_quiet-clause-alike : goal.returns-then-is_quiet-clause-alike
returns-then-is_quiet-clause-alike c = alike_here c.args.places.now.items

pub returns-in_err-kind-clause-alike : goal.returns-in_err-kind-clause-alike
returns-in_err-kind-clause-alike c = alike_here c.args.places.now.items

pub give_slots-requires-clause-kind : goal.give_slots-requires-clause-kind
give_slots-requires-clause-kind c = c.in_ok-kind.ensures

pub give_slots-requires-clause-born : goal.give_slots-requires-clause-born
give_slots-requires-clause-born c = c.requires.born

pub give_slots-requires-clause-events : goal.give_slots-requires-clause-events
give_slots-requires-clause-events c =
    ap length c.deref-6.ensures.value
    ∙ (events_length c.args.channels.now c.deref-2.result.now (map (λ (x : Vec Post Global). x.items) c.deref-3.result.now) c.in_ok-events.events.items c.in_ok-events.ensures
    ∙ (ap length (c.deref-2.ensures.value ∙ c.in_ok-names.ensures) ∙ length-map c.args.slots.now (λ (s : Slot). s.name)))

pub give_slots-requires-clause-fresh : goal.give_slots-requires-clause-fresh
give_slots-requires-clause-fresh c = ap length c.deref-7.ensures.value ∙ fresh_length c.args.places.now.items c.args.slots.now c.in_ok-fresh.fresh.items (c.in_ok-fresh.ensures ∙ ap (λ (ps : List Place). fresh_of_lasts ps (chains_of c.args.slots.now)) c.deref.ensures.value)

pub give_slots-requires-clause-room : goal.give_slots-requires-clause-room
give_slots-requires-clause-room c = λ v n at.
    (let ss = c.args.slots.now in
    let old = c.args.places.now.items in
    let fs = c.deref-7.result.now in
    let fresh : map (λ (x : Vec Post Global). x.items) fs ≡ fresh_of_lasts old (chains_of ss) = ap (map (λ (x : Vec Post Global). x.items)) c.deref-7.ensures.value ∙ (c.in_ok-fresh.ensures ∙ ap (λ (ps : List Place). fresh_of_lasts ps (chains_of c.args.slots.now)) c.deref.ensures.value) in
    let sums : sum_of (map (λ (x : Vec Post Global). length x.items) fs) ≡ sum_of (map length (fresh_of_lasts old (chains_of ss))) = ap sum_of (map_twice (λ (x : Vec Post Global). x.items) length fs ∙ ap (map length) fresh) in
    let few = few_taken old (chains_of ss) in
    let slots = length-map ss (λ (s : Slot). s.lives.items) in
    let told : n ≤ 256 = c.requires.told v n at in
    let most : length ss ≤ 16 = c.requires.few in
    omega (arith, sums, few, slots, told, most))

pub returns-in_err-give_slots-clause-alike : goal.returns-in_err-give_slots-clause-alike
returns-in_err-give_slots-clause-alike c = c.give_slots.ensures.alike

pub returns-clause-round : goal.returns-clause-round
returns-clause-round c =
    let ss = c.args.slots.now in
    let old = c.args.places.now.items in
    let fs = c.deref-7.result.now in
    let es = map (λ (x : Vec PostEvent Global). values x.items) c.deref-6.result.now in
    loud_round c.args.channels.now (map (λ (s : Slot). s.name) ss) c.deref-2.result.now (chains_of ss) old c.give_slots.new.places.items es (map (λ (x : Vec Post Global). x.items) fs)
    (ap (map (λ (x : Vec PostEvent Global). values x.items)) c.deref-6.ensures.value
    ∙ (c.in_ok-events.ensures ∙ ap (λ (xs : List (Vec Post Global)). all_news c.args.channels.now c.deref-2.result.now (map (λ (x : Vec Post Global). x.items) xs)) (c.deref-3.ensures.value ∙ sym c.deref-7.ensures.value)))
    (c.deref-2.ensures.value ∙ c.in_ok-names.ensures)
    (ap (map (λ (x : Vec Post Global). x.items)) c.deref-7.ensures.value ∙ (c.in_ok-fresh.ensures ∙ ap (λ (ps : List Place). fresh_of_lasts ps (chains_of c.args.slots.now)) c.deref.ensures.value))
    (map (λ (x : Vec Post Global). length x.items) fs) (map_twice (λ (x : Vec Post Global). x.items) length fs)
    (subst (λ (xs : List (Vec PostEvent Global)). AreStill (is_accepted old) (chains_of ss) (map (λ (x : Vec PostEvent Global). values x.items) xs) → ⊥) (c.deref-5.ensures.value ∙ sym c.deref-6.ensures.value)
    (subst (λ (ps : List Place). AreStill (is_accepted ps) (chains_of ss) (map (λ (x : Vec PostEvent Global). values x.items) c.deref-5.result.now) → ⊥) c.deref-4.ensures.value (c.is_quiet.ensures.loud c.if-is_quiet.false)))
    c.in_ok-give_slots.ensures.given

pub returns-clause-alike : goal.returns-clause-alike
returns-clause-alike c = c.give_slots.ensures.alike

pub returns-then-is_quiet-clause-given : goal.returns-then-is_quiet-clause-given
returns-then-is_quiet-clause-given c =
    let ss = c.args.slots.now in
    let old = c.args.places.now.items in
    gives_round false c.args.channels.now (map (λ (s : Slot). s.name) ss) (chains_of ss) old old (homes_of old) c.requires.born.0 c.requires.born.2
    (length-map ss (λ (s : Slot). s.name) ∙ sym (length-map ss (λ (s : Slot). s.lives.items))) (returns-then-is_quiet-clause-round c)

pub returns-clause-given : goal.returns-clause-given
returns-clause-given c =
    let ss = c.args.slots.now in
    let old = c.args.places.now.items in
    gives_round true c.args.channels.now (map (λ (s : Slot). s.name) ss) (chains_of ss) old c.give_slots.new.places.items (homes_of old) c.requires.born.0 c.requires.born.2
    (length-map ss (λ (s : Slot). s.name) ∙ sym (length-map ss (λ (s : Slot). s.lives.items))) (returns-clause-round c)

pub returns-then-is_quiet-clause-kept : goal.returns-then-is_quiet-clause-kept
returns-then-is_quiet-clause-kept c = c.requires.told

pub returns-then-is_quiet-clause-more : goal.returns-then-is_quiet-clause-more
returns-then-is_quiet-clause-more c = λ e. absurd (false_true e)

pub returns-clause-kept : goal.returns-clause-kept
returns-clause-kept c =
    let ss = c.args.slots.now in
    keeps_round true c.args.channels.now (map (λ (s : Slot). s.name) ss) (chains_of ss) c.args.places.now.items c.give_slots.new.places.items c.requires.born.0 c.requires.born.2 (returns-clause-round c) c.requires.told

pub returns-clause-more : goal.returns-clause-more
returns-clause-more c = λ e.
    (let ss = c.args.slots.now in
    takes_more c.args.channels.now (map (λ (s : Slot). s.name) ss) (chains_of ss) c.args.places.now.items c.give_slots.new.places.items c.requires.born.0 c.requires.born.2 c.requires.born.1 (returns-clause-round c))

pub returns-in_err-fresh-clause-images : goal.returns-in_err-fresh-clause-images
returns-in_err-fresh-clause-images c = λ h. refl

pub returns-in_err-fresh-clause-others : goal.returns-in_err-fresh-clause-others
returns-in_err-fresh-clause-others c = λ v out. refl

pub returns-in_err-names-clause-images : goal.returns-in_err-names-clause-images
returns-in_err-names-clause-images c = λ h. refl

pub returns-in_err-names-clause-others : goal.returns-in_err-names-clause-others
returns-in_err-names-clause-others c = λ v out. refl

pub returns-in_err-events-clause-images : goal.returns-in_err-events-clause-images
returns-in_err-events-clause-images c = λ h. refl

pub returns-in_err-events-clause-others : goal.returns-in_err-events-clause-others
returns-in_err-events-clause-others c = λ v out. refl

pub returns-then-is_quiet-clause-images : goal.returns-then-is_quiet-clause-images
returns-then-is_quiet-clause-images c = λ h. refl

pub returns-then-is_quiet-clause-others : goal.returns-then-is_quiet-clause-others
returns-then-is_quiet-clause-others c = λ v out. refl

pub returns-in_err-kind-clause-images : goal.returns-in_err-kind-clause-images
returns-in_err-kind-clause-images c = λ h. refl

pub returns-in_err-kind-clause-others : goal.returns-in_err-kind-clause-others
returns-in_err-kind-clause-others c = λ v out. refl

pub returns-in_err-give_slots-clause-images : goal.returns-in_err-give_slots-clause-images
returns-in_err-give_slots-clause-images c = λ h. images_alike h 0 c.args.places.now.items c.give_slots.new.places.items c.give_slots.ensures.alike

pub returns-in_err-give_slots-clause-others : goal.returns-in_err-give_slots-clause-others
returns-in_err-give_slots-clause-others c = c.give_slots.ensures.others

pub returns-clause-images : goal.returns-clause-images
returns-clause-images c = λ h. images_alike h 0 c.args.places.now.items c.give_slots.new.places.items c.give_slots.ensures.alike

pub returns-clause-others : goal.returns-clause-others
returns-clause-others c = c.give_slots.ensures.others
