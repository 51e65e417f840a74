-- Lives stay sound in a round, and count no more than there are posts.
use Rattle.std.proofs.Common.{◌≡◌, ℕ, suc, ◌+◌, ◌<◌, ◌≤◌, ◌^◌, Bool, true, false, List, [], ◌∷◌, ◌++◌, map, length, refl, sym, ap, ◌∙◌, subst, arith, Some, inl, inr}
use Rattle.std.specs.Prelude.{slice_get, if◌then◌else◌}
use Rattle.std.specs.List.{AllByRecursion}
use Rattle.std.proofs.lemmas.Bool.Decides.{eqb_tells}
use Rattle.std.proofs.lemmas.List.{length-append, map-append}
use Rattle.js_tree.specs.Forest.{Forest}
use Rattle.life_laws.specs.Life as todo
use Rattle.life_laws.specs.Life.{Seen, image, potentials}
use Rattle.life_laws.specs.Fed.{event_of}
use Rattle.life_laws.specs.Chains.{Chains, last_life}
use Rattle.native_image.specs.declared.handed.Shared.{Shared}
use Rattle.life_queue.specs.declared.life.Work.{Work}
use Rattle.life_queue.specs.declared.life.Work.TheVariants as work
use Rattle.life_queue.specs.Lives.{life_seen, trees_in, work_of, works_of}
use Rattle.life_queue.specs.Fine.{FineLife, FineWork, tally}
use Rattle.slot_picks.specs.declared.lives.Place.{Place}
use Rattle.slot_picks.specs.Places.{FewPlace, FewPlaces, FinePlace, FinePlaces, lent}
use Rattle.slot_picks.specs.Feeding.{events_for, given_events, with_more}
use Rattle.slot_picks.specs.Posting.{AreEvents, HasRound, HaveRound, IsEvent}
use Rattle.slot_picks.proofs.More.{events_none, last_home}
use Rattle.slot_picks.proofs.Seen.{event_works}

-- ## One life

event_fine : (fs : List Forest) (v : List ℕ) (x : Work) → IsEvent v x → FineWork fs x
event_fine fs v (work.Event e) is = tt
event_fine fs v (work.Library c) is = absurd is
event_fine fs v (work.Go c) is = absurd is
event_fine fs v (work.Advance d) is = absurd is
event_fine fs v (work.Until n limit) is = absurd is

events_fine : (fs : List Forest) (q : List Work) (vs : List (List ℕ)) (xs : List Work) → AreEvents vs xs → AllByRecursion (FineWork fs) q → AllByRecursion (FineWork fs) (q ++ xs)
events_fine fs (y ∷ q) vs xs are fine = (fine.0, events_fine fs q vs xs are fine.1)
events_fine fs [] [] [] are fine = tt
events_fine fs [] [] (x ∷ xs) are fine = absurd are
events_fine fs [] (v ∷ vs) [] are fine = absurd are
events_fine fs [] (v ∷ vs) (x ∷ xs) are fine = (event_fine fs v x are.0, events_fine fs [] vs xs are.1 tt)

-- with another queue
abbrev queued_in : Place → Place → Place
queued_in l m = record l { life = record l.life { queue = m.life.queue } }

potentials_append : (q r : List todo.Work) → potentials (q ++ r) ≡ potentials q + potentials r
potentials_append [] r = omega arith
potentials_append (x ∷ q) r = let e = potentials_append q r in omega (arith, e)

events_potential : (vs : List (List ℕ)) → potentials (map (λ value. todo.Given (event_of value)) vs) ≡ length vs
events_potential [] = refl
events_potential (v ∷ vs) = let e = events_potential vs in omega (arith, e)

-- each event is one pick more at most
potentials_given : (vs : List (List ℕ)) (s : Seen) → potentials (given_events vs s).queue ≡ potentials s.queue + length vs
potentials_given vs s = potentials_append s.queue (map (λ value. todo.Given (event_of value)) vs) ∙ ap (λ n. potentials s.queue + n) (events_potential vs)

module _ (h : Shared) (v : ℕ) (vs : List (List ℕ)) (n : ℕ) (l m : Place) (r : HasRound vs n l m) where
  works_more : works_of (lent h l) v (queued_in l m).life ≡ works_of (lent h l) v l.life ++ map (λ value. todo.Given (event_of value)) vs
  works_more = ap (map (work_of (trees_in (lent h l)))) r.events.queue ∙ (map-append (work_of (trees_in (lent h l))) l.life.queue.items r.events.works
      ∙ ap (λ ws. works_of (lent h l) v l.life ++ ws) (event_works (trees_in (lent h l)) vs r.events.works r.events.are))

  tally_more : tally (lent h m) v m.life ≡ tally (lent h l) v l.life + length vs
  tally_more =
      let same : tally (lent h m) v m.life ≡ tally (lent h l) v (queued_in l m).life = ap (λ (p : Place). tally (lent h p) v p.life) r.alike in
      let e : potentials (works_of (lent h l) v (queued_in l m).life) ≡ potentials (works_of (lent h l) v l.life) + length vs = ap potentials works_more ∙ potentials_given vs (life_seen (lent h l) v l.life) in
      omega (arith, same, e)

  fine_more : tally (lent h l) v l.life + length vs < 2 ^ 32 → FineLife (lent h l) v l.life → FineLife (lent h m) v m.life
  fine_more room fine =
      let same : tally (lent h m) v m.life ≡ tally (lent h l) v (queued_in l m).life = ap (λ (p : Place). tally (lent h p) v p.life) r.alike in
      let counted = tally_more in
      subst (λ (p : Place). FineLife (lent h p) v p.life) (sym r.alike) (record {
        number = fine.number;
        confined = fine.confined;
        sound = fine.sound;
        lib = record { held = fine.lib.held; first = fine.lib.first };
        works = subst (AllByRecursion (FineWork (trees_in (lent h l)))) (sym r.events.queue) (events_fine (trees_in (lent h l)) l.life.queue.items vs r.events.works r.events.are fine.works);
        turn = fine.turn;
        counts = record { grant = fine.counts.grant; spent = fine.counts.spent; room = omega (arith, room, counted, same) };
      })

  accepted_more : m.life.accepted ≡ l.life.accepted
  accepted_more = ap (λ (p : Place). p.life.accepted) r.alike

module _ (h : Shared) (v : ℕ) (vs : List (List ℕ)) (n : ℕ) (l m : Place) where
  fine_round : (a : Bool) (most : ℕ) → l.life.accepted ≡ a → HasRound (if a then vs else []) n l m → most + length vs < 2 ^ 32 → FewPlace h most v l → FinePlace h v l → FinePlace h v m
  fine_round true most is r room few fine = λ also. (let count = few is in fine_more h v vs n l m r (omega (arith, room, count)) (fine is))
  fine_round false most is r room few fine = λ also. absurd (let both : true ≡ false = sym also ∙ (accepted_more h v [] n l m r ∙ is) in cc)

  few_round : (a : Bool) (most more : ℕ) → l.life.accepted ≡ a → HasRound (if a then vs else []) n l m → most + length vs ≤ more → FewPlace h most v l → FewPlace h more v m
  few_round true most more is r room few = λ also. (let count = few is in let e = tally_more h v vs n l m r in omega (arith, room, count, e))
  few_round false most more is r room few = λ also. absurd (let both : true ≡ false = sym also ∙ (accepted_more h v [] n l m r ∙ is) in cc)

-- ## All lives

module _ (more : ℕ → List (List ℕ)) (counts : ℕ → ℕ) where
  pub long_round : (v : ℕ) (ls ms : List Place) → HaveRound more counts v ls ms → length ms ≡ length ls
  long_round v [] [] r = refl
  long_round v [] (m ∷ ms) r = absurd r
  long_round v (l ∷ ls) [] r = absurd r
  long_round v (l ∷ ls) (m ∷ ms) r = ap suc (long_round (v + 1) ls ms r.1)

  pub places_round : (h : Shared) (v most size : ℕ) (ls ms : List Place) → ((u : ℕ) → length (more u) ≤ size) → most + size < 2 ^ 32 → HaveRound more counts v ls ms → FewPlaces h most v ls → FinePlaces h v ls → FinePlaces h v ms
  places_round h v most size [] [] small room r few fine = tt
  places_round h v most size [] (m ∷ ms) small room r few fine = absurd r
  places_round h v most size (l ∷ ls) [] small room r few fine = absurd r
  places_round h v most size (l ∷ ls) (m ∷ ms) small room r few fine =
      (let s = small v in fine_round h v (more v) (counts v) l m l.life.accepted most refl r.0 (omega (arith, s, room)) few.0 fine.0, places_round h (v + 1) most size ls ms small room r.1 few.1 fine.1)

  pub counts_round : (h : Shared) (v most size after : ℕ) (ls ms : List Place) → ((u : ℕ) → length (more u) ≤ size) → most + size ≤ after → HaveRound more counts v ls ms → FewPlaces h most v ls → FewPlaces h after v ms
  counts_round h v most size after [] [] small room r few = tt
  counts_round h v most size after [] (m ∷ ms) small room r few = absurd r
  counts_round h v most size after (l ∷ ls) [] small room r few = absurd r
  counts_round h v most size after (l ∷ ls) (m ∷ ms) small room r few =
      (let s = small v in few_round h v (more v) (counts v) l m l.life.accepted most after refl r.0 (omega (arith, s, room)) few.0, counts_round h (v + 1) most size after ls ms small room r.1 few.1)

-- what lives did stays
pub images_more : (f : ℕ → List (List ℕ)) (v : ℕ) (ss : List Seen) → map image (with_more f v ss) ≡ map image ss
images_more f v [] = refl
images_more f v (s ∷ ss) = ap (λ os. image s ∷ os) (images_more f (v + 1) ss)

-- ## How many events

module _ (homes : List ℕ) (born : ℕ) where
  -- and so does a life
  pub few_events : (k m v : ℕ) (cs : List (List ℕ)) (es : List (List (List ℕ))) → Chains homes born k cs → ((i : ℕ) (e : List (List ℕ)) → slice_get es i ≡ Some e → length e ≤ m) → length (events_for cs es v) ≤ m
  few_events k m v [] es h few = omega arith
  few_events k m v (c ∷ cs) [] h few = omega arith
  few_events k m v (c ∷ cs) (e ∷ es) h few = elim (eqb_tells (last_life c) v) as (λ _. length (events_for (c ∷ cs) (e ∷ es) v) ≤ m) [
    | inl same ↦
        (let home : slice_get homes v ≡ Some k = ap (slice_get homes) (sym same.1) ∙ last_home homes born k c h.0 in
        let none = events_none homes born (k + 1) k v cs es h.1 home (omega arith) in
        let is : events_for (c ∷ cs) (e ∷ es) v ≡ e ++ [] = ap (λ b. (if b then e else []) ++ events_for cs es v) same.0 ∙ ap (λ r. e ++ r) none in
        let long = length-append e [] in
        let here = few 0 e refl in
        let size : length (events_for (c ∷ cs) (e ∷ es) v) ≡ length (e ++ []) = ap length is in
        omega (arith, size, long, here))
    | inr other ↦
        (let is : events_for (c ∷ cs) (e ∷ es) v ≡ events_for cs es v = ap (λ b. (if b then e else []) ++ events_for cs es v) other.0 in
        let later = few_events (k + 1) m v cs es h.1 (λ i f at. few (suc i) f at) in
        let size : length (events_for (c ∷ cs) (e ∷ es) v) ≡ length (events_for cs es v) = ap length is in
        omega (arith, size, later))
  ]
