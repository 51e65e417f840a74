-- A host in which a life was born.
use Rattle.std.proofs.Common.{◌≡◌, ◌≢◌, ◌≤◌, ℕ, ◌+◌, ◌<◌, ◌++◌, List, [], ◌∷◌, map, length, Bool, true, false, refl, sym, ap, ◌∙◌, subst, arith, Option, Some, None, if◌then◌else◌, inr, ⊎_elim}
use Rattle.std.specs.Prelude.{Err, Ok, OnErr, OnOk, Result, slice_get, slice_set, slice_index_or}
use Rattle.std.specs.List.{IsDistinct}
use Rattle.std.specs.Str.{bytes_eq}
use Rattle.std.specs.declared.alloc.Global.{Global}
use Rattle.std.specs.declared.vec.Vec.{Vec}
use Rattle.std.proofs.lemmas.List.{length-append, length-map}
use Rattle.std.proofs.lemmas.Option.{get_or_from_slice_get, slice_get-map}
use Rattle.std.specs.Option.{option_map}
use Rattle.js_names.specs.declared.code.Code.{Code}
use Rattle.js_names.specs.Code.{tree_in}
use Rattle.life_laws.specs.Life.{Seen, due, image}
use Rattle.life_laws.specs.Journal.{AllJoined, on_at}
use Rattle.life_laws.specs.Chains.{Chains, Unspent, joins, last_at, last_life, listed}
use Rattle.life_laws.proofs.Giving.{chains_join}
use Rattle.life_laws.proofs.Housing.{joined_swap, rest_swap, unspent_swap}
use Rattle.life_laws.specs.Settled.{flag}
use Rattle.widget_meaning.specs.OwnState.{OwnState}
use Rattle.widget_meaning.specs.Alone.{Content}
use Rattle.page_nodes.specs.Entries.{body}
use Rattle.page_image.specs.Image.{root_of}
use Rattle.page_build.specs.Layout.{IsLot, lot_of}
use Rattle.page_build.specs.Standing.{IsLaidBy}
use Rattle.page_build.proofs.Stands.{laid_older}
use Rattle.slot_picks.specs.Feeding.{sum_of}
use Rattle.slot_picks.specs.declared.lives.Lives.{Lives}
use Rattle.slot_picks.specs.declared.lives.Place.{Place}
use Rattle.slot_picks.specs.declared.slots.Slot.{Slot}
use Rattle.slot_picks.specs.Lives.{AreHoused, AreStanding, FewLives, chains_of, present_of, seens_of, spots_of}
use Rattle.slot_picks.specs.Places.{FewPlaces, accepts_of, codes_of, homes_of, is_accepted, lent, roots_of, seen_at, told_of}
use Rattle.native_image.specs.declared.handed.Shared.{Shared}
use Rattle.slot_picks.specs.QueueLives.{life_seen}
use Rattle.page_load.specs.Joining.{Comes, HasSeat, IsFree, KeepsRest, PageJoins, came, none_came}
use Rattle.page_load.specs.Loads.{HasNothing, IsFirstLife}
use Rattle.page_build.proofs.Coming.{same_joins}
use Rattle.page_tree.specs.declared.page.Page.{Page}
use Rattle.page_plan.specs.Contents.{HasScriptsIn, content_in}
use Rattle.page_plan.specs.declared.SlotContent.{SlotContent}
use Rattle.page_plan.specs.Pages.{PagePiece}
use Rattle.widget_host.specs.declared.host.Host.{Host}
use Rattle.widget_host.specs.Housed.{BearsLife, IsApart, IsLaid, IsWhole, KeepsOthers, LoadsLife, accepts, chains, channels, ends, fuels, homes, journal, libraries, most_after, names, newborn, scripts, seens, shared, spots, swaps, told}
use Rattle.widget_host.proofs.Born.{IsSeated, chains_else, joined_listed, joined_present, same_or, spots_now, standing_born, standing_still}
use Rattle.widget_host.proofs.Sets.{get_here, index_else, index_here, map_set, none_some, set_long, set_same, some_is, within}
use Rattle.widget_host.proofs.Firsts.{seens_long}
use Rattle.widget_host.proofs.Lasts.{last_of_slot}
use Rattle.widget_host.proofs.Shown.{accepts_at}
use Rattle.widget_host.proofs.Reading.{scripts_at}
use Rattle.widget_host.proofs.Staying.{plan_here, scripts_by}

no_true : false ≡ true → ⊥
no_true e = cc

-- ## What a host keeps where a life comes

module _ (old new : Host) (apart : IsApart old) (whole : IsWhole old) (keeps : KeepsRest (newborn old) old.lives new.lives)
    (names_same : map (λ (s : Slot). s.name) new.slots.items ≡ map (λ (s : Slot). s.name) old.slots.items)
    (fuels_same : map (λ (s : Slot). s.fuel) new.slots.items ≡ map (λ (s : Slot). s.fuel) old.slots.items)
    (present : map present_of (chains_of new.slots.items) ≡ map present_of (chains_of old.slots.items))
    (pairs : new.channels ≡ old.channels) (libs : new.libs ≡ old.libs) where
  abbrev v : ℕ
  v = newborn old

  free_flag : is_accepted old.lives.places.items v ≡ false
  unfolding accepts
  free_flag = (whole.free v (omega arith)).0

  pub nothing_there : HasNothing v old.lives.shared.store old.lives.shared.page
  unfolding accepts
  nothing_there = apart.others v free_flag

  flags_now : accepts_of new.lives.places.items ≡ slice_set (accepts_of old.lives.places.items) v keeps.place.life.accepted
  flags_now = ap accepts_of keeps.places ∙ map_set (λ (p : Place). p.life.accepted) old.lives.places.items v keeps.place

  flag_else : (u : ℕ) → u ≢ v → is_accepted new.lives.places.items u ≡ is_accepted old.lives.places.items u
  flag_else u ne = ap (λ fs. slice_index_or fs u false) flags_now ∙ index_else (accepts_of old.lives.places.items) v u keeps.place.life.accepted false ne

  was_none : (u : ℕ) → is_accepted new.lives.places.items u ≡ false → is_accepted old.lives.places.items u ≡ false
  was_none u none = ⊎_elim (λ e. ap (is_accepted old.lives.places.items) e ∙ free_flag) (λ ne. sym (flag_else u ne) ∙ none) (same_or u v)

  pub apart_born : AreStanding new.lives new.slots.items → IsApart new
  unfolding accepts names
  apart_born standing = record {
    twenty = ap length keeps.places ∙ set_long old.lives.places.items v keeps.place ∙ apart.twenty;
    own = keeps.holds apart.own;
    others = λ u none. keeps.nothing u none (apart.others u (was_none u none));
    standing = standing;
    distinct = subst (IsDistinct bytes_eq) (sym names_same) apart.distinct;
  }

  spots_here : spots_of new.lives new.slots.items ≡ spots_of old.lives old.slots.items
  spots_here = spots_now old.lives new.lives old.slots.items new.slots.items v keeps.place (homes_of old.lives.places.items) whole.slots.chains keeps.places present

  laid_here : (xs : List (List ℕ)) (pieces : List PagePiece) → IsLaid old xs pieces → IsLaid new xs pieces
  unfolding IsLaid names spots
  laid_here xs pieces laid = (
    laid.0 ∙ sym names_same,
    laid.1,
    subst (λ ns. IsLaidBy new.lives.shared.page ns pieces) (sym spots_here)
        (laid_older old.lives.shared.page new.lives.shared.page keeps.page.older
        (λ u n lt is. ⊎_elim (λ e. absurd (none_some (sym (nothing_there.away (omega arith)).free ∙ ap (root_of old.lives.shared.page) (sym e) ∙ is))) (λ ne. keeps.page.roots u lt ne ∙ is) (same_or u v)) _ laid.2),
  )

  pub others_kept : KeepsOthers old new
  unfolding accepts scripts channels names fuels journal libraries seens spots shared
  others_kept = record {
    plan = record { channels = ap (λ c. c.items) pairs; libraries = ap (λ (c : Vec Code Global). map tree_in c.items) libs; names = names_same; fuels = fuels_same };
    seens = keeps.seens;
    accepts = λ u ne. flag_else u ne;
    scripts = λ u ne.
        ap (λ cs. scripts_by u cs) (ap codes_of keeps.places ∙ map_set (λ (p : Place). p.codes) old.lives.places.items v keeps.place)
        ∙ scripts_else (codes_of old.lives.places.items) u keeps.place.codes ne;
    journal = ap (λ j. j.items) keeps.journal;
    spots = spots_here;
    page = keeps.page;
    laid = laid_here;
  }
    where
      scripts_else : (cs : List (Vec Code Global)) (u : ℕ) (x : Vec Code Global) → u ≢ v → scripts_by u (slice_set cs v x) ≡ scripts_by u cs
      scripts_else cs u x ne =
          ap (λ ts. slice_index_or ts u []) (map_set (λ (codes : Vec Code Global). map tree_in codes.items) cs v x)
          ∙ index_else (map (λ (codes : Vec Code Global). map tree_in codes.items) cs) v u (map tree_in x.items) [] ne

-- ## The life that came

-- what is seen of a life that comes has spent nothing
seen_unspent : (h : Shared) (v fuel : ℕ) (o : Option Content) (a : Place) → IsFirstLife h v fuel o a → (image (seen_at h v a)).spent ≡ 0
seen_unspent h v fuel None a f = ap (λ b. (image (if b then life_seen (lent h a) v a.life else flag false)).spent) f
seen_unspent h v fuel (Some c) a f = ap (λ b. (image (if b then life_seen (lent h a) v a.life else flag false)).spent) f.accepted ∙ ap (λ (o : OwnState). o.spent) f.shows

-- counts that have room have more room
few_more : (h : Shared) (n m w : ℕ) (ps : List Place) → n ≤ m → FewPlaces h n w ps → FewPlaces h m w ps
few_more h n m w [] le f = tt
few_more h n m w (p ∷ ps) le f = (λ e. let t = f.0 e in omega (arith, le, t), few_more h n m (w + 1) ps le f.1)

module _ (old new : Host) (to : ℕ) (content : SlotContent) (slot : Slot) (is_slot : slice_get old.slots.items to ≡ Some slot) (whole : IsWhole old) (few : swaps old < 4)
    (c : Comes (map tree_in old.libs.items) slot (record { to = to; v = newborn old; content = content }) old.lives new.lives) (keeps : KeepsRest (newborn old) old.lives new.lives)
    (ends_are : new.ends.items ≡ old.ends.items ++ last_at to (chains_of old.slots.items) ∷ []) (joined : chains_of new.slots.items ≡ on_at to (joins (newborn old)) (chains_of old.slots.items))
    (names_same : map (λ (s : Slot). s.name) new.slots.items ≡ map (λ (s : Slot). s.name) old.slots.items)
    (fuels_same : map (λ (s : Slot). s.fuel) new.slots.items ≡ map (λ (s : Slot). s.fuel) old.slots.items)
    (counted : new.given ≡ old.given) (libs : new.libs ≡ old.libs) where
  abbrev n : ℕ
  n = newborn old

  low : n < 20
  low = omega (arith, few)

  here : n < length old.lives.places.items
  here = omega (arith, few, whole.slots.lives.places)

  one_more : swaps new ≡ swaps old + 1
  unfolding ends
  one_more = ap length ends_are ∙ length-append old.ends.items (last_at to (chains_of old.slots.items) ∷ [])

  homes_now : homes_of new.lives.places.items ≡ slice_set (homes_of old.lives.places.items) n to
  homes_now = ap homes_of c.places ∙ map_set (λ (p : Place). p.life.slot) old.lives.places.items n c.place ∙ ap (slice_set (homes_of old.lives.places.items) n) c.home

  told_now : told_of new.lives.places.items ≡ slice_set (told_of old.lives.places.items) n 0
  told_now = ap told_of c.places ∙ map_set (λ (p : Place). p.told) old.lives.places.items n c.place ∙ ap (slice_set (told_of old.lives.places.items) n) c.told

  told_same : told_of new.lives.places.items ≡ told_of old.lives.places.items
  unfolding told
  told_same = told_now ∙ set_same (told_of old.lives.places.items) n 0 0 (let g = length-map old.lives.places.items (λ (p : Place). p.told) in omega (arith, here, g)) (whole.free n (omega arith)).2

  chains_now : Chains (homes_of new.lives.places.items) (16 + swaps new) 0 (chains_of new.slots.items)
  chains_now =
      subst (λ m. Chains (homes_of new.lives.places.items) m 0 (chains_of new.slots.items)) (let e = one_more in omega (arith, e))
      (subst (λ hs. Chains hs (n + 1) 0 (chains_of new.slots.items)) (sym homes_now)
      (subst (Chains (slice_set (homes_of old.lives.places.items) n to) (n + 1) 0) (sym joined)
      (chains_join (homes_of old.lives.places.items) n to 0 to (chains_of old.slots.items) (let g = length-map old.lives.places.items (λ (p : Place). p.life.slot) in omega (arith, here, g)) (omega arith) whole.slots.chains)))

  within_slots : to < length (chains_of old.slots.items)
  within_slots = let lt = within old.slots.items to slot is_slot in let g = length-map old.slots.items (λ (s : Slot). s.lives.items) in omega (arith, lt, g)

  unspent_new : (image (seen_at new.lives.shared n c.place)).spent ≡ 0
  unspent_new = seen_unspent new.lives.shared n slot.fuel (content_in (map tree_in old.libs.items) content) c.place c.life

  pub housed_born : AreHoused (16 + swaps new) new.lives new.slots.items
  housed_born = record {
    lives = c.fine;
    slots = let g = length-map new.slots.items (λ (s : Slot). s.name) in let e = ap length names_same in let f = length-map old.slots.items (λ (s : Slot). s.name) in omega (arith, g, e, f, whole.slots.slots);
    few = let e = one_more in omega (arith, e, few);
    chains = chains_now;
    unspent = subst (λ m. Unspent m (seens_of new.lives)) (let e = one_more in omega (arith, e)) (subst (Unspent (n + 1)) (sym c.seens) (unspent_swap n (seens_of old.lives) (seen_at new.lives.shared n c.place) whole.slots.unspent));
    joined = subst (λ j. AllJoined j.items (seens_of new.lives)) (sym keeps.journal) (joined_swap n (seens_of old.lives) (seens_of new.lives) (seen_at new.lives.shared n c.place) old.lives.journal.items c.seens unspent_new whole.slots.unspent whole.slots.joined);
    rest = rest_swap n to (chains_of old.slots.items) (chains_of new.slots.items) (seens_of old.lives) (seens_of new.lives) (seen_at new.lives.shared n c.place) within_slots joined c.seens whole.slots.rest;
  }

  pub whole_born : IsWhole new
  unfolding accepts ends fuels told
  whole_born = record {
    slots = housed_born;
    room = subst (λ m. FewLives (most_after m + sum_of (told_of new.lives.places.items)) new.lives) (sym counted)
        (subst (λ ts. FewLives (most_after old.given + sum_of ts) new.lives) (sym told_same) (c.few (most_after old.given + sum_of (told_of old.lives.places.items)) (omega arith) whole.room));
    raws = keeps.raws;
    free = λ u past.
        let ne : u ≢ n = λ e. (let f = one_more in absurd (omega (arith, f, e, past))) in
        let was = whole.free u (let f = one_more in omega (arith, f, past)) in (
          ap (λ ps. slice_index_or (accepts_of ps) u false) c.places ∙ ap (λ fs. slice_index_or fs u false) (map_set (λ (p : Place). p.life.accepted) old.lives.places.items n c.place) ∙ index_else (accepts_of old.lives.places.items) n u c.place.life.accepted false ne ∙ was.0,
          ap (λ ps. slice_index_or (roots_of ps) u body) c.places ∙ ap (λ ns. slice_index_or ns u body) (map_set (λ (p : Place). p.root) old.lives.places.items n c.place) ∙ index_else (roots_of old.lives.places.items) n u c.place.root body ne ∙ was.1,
          ap (λ ns. slice_index_or ns u 0) told_same ∙ was.2,
        );
    told = λ u m at. whole.told u m (ap (λ ns. slice_get ns u) (sym told_same) ∙ at);
    fuels = λ w m at. whole.fuels w m (ap (λ ns. slice_get ns w) (sym fuels_same) ∙ at);
    given = subst (λ m. m ≤ 4096) (sym counted) whole.given;
    swaps = let e = one_more in omega (arith, e, few);
  }

  -- the life as its content says
  seen_here : (s : Seen) → slice_get (seens_of new.lives) n ≡ Some s → s ≡ seen_at new.lives.shared n c.place
  seen_here s at = some_is s (seen_at new.lives.shared n c.place) (sym at ∙ ap (λ ss. slice_get ss n) c.seens ∙ get_here (seens_of old.lives) n (seen_at new.lives.shared n c.place) (let g = seens_long old.lives.shared 0 old.lives.places.items in omega (arith, here, g)))

  flag_here : is_accepted new.lives.places.items n ≡ c.place.life.accepted
  flag_here =
      ap (λ ps. slice_index_or (accepts_of ps) n false) c.places
      ∙ ap (λ fs. slice_index_or fs n false) (map_set (λ (p : Place). p.life.accepted) old.lives.places.items n c.place)
      ∙ index_here (accepts_of old.lives.places.items) n c.place.life.accepted false (let g = length-map old.lives.places.items (λ (p : Place). p.life.accepted) in omega (arith, here, g))

  loads_of : (fuel : ℕ) (o : Option Content) → IsFirstLife new.lives.shared n fuel o c.place → LoadsLife new n fuel o
  unfolding accepts seens
  loads_of fuel None f = flag_here ∙ f
  loads_of fuel (Some x) f = (
    flag_here ∙ f.accepted,
    λ s at.
        let is : s ≡ life_seen (lent new.lives.shared c.place) n c.place.life = seen_here s at ∙ ap (λ b. if b then life_seen (lent new.lives.shared c.place) n c.place.life else flag false) f.accepted in
        (ap image is ∙ f.shows, ap due is ∙ f.comes),
  )

  fuel_is : slice_index_or (map (λ (s : Slot). s.fuel) old.slots.items) to 0 ≡ slot.fuel
  fuel_is = get_or_from_slice_get (map (λ (s : Slot). s.fuel) old.slots.items) to slot.fuel 0 (slice_get-map (λ (s : Slot). s.fuel) old.slots.items to ∙ ap (option_map (λ (s : Slot). s.fuel)) is_slot)

  pub life_born : BearsLife to content old new
  unfolding chains ends fuels homes libraries scripts told
  life_born = record {
    ends = ends_are;
    chains = joined;
    homes = homes_now;
    life = subst (λ fuel. LoadsLife new n fuel (content_in (map tree_in old.libs.items) content)) (sym fuel_is) (loads_of slot.fuel (content_in (map tree_in old.libs.items) content) c.life);
    scripts = subst (HasScriptsIn (map tree_in old.libs.items) content) (sym (ap (λ ps. scripts_by n (codes_of ps)) c.places ∙ scripts_at (slice_set old.lives.places.items n c.place) n c.place (get_here old.lives.places.items n c.place here))) c.scripts;
    told = told_now;
  }

-- ## The calls

-- where no life came, or one that is accepted: what stands in the slots
pub standing_failed : (old new : Host) → IsApart old → IsWhole old → swaps old < 4 → (keeps : KeepsRest (newborn old) old.lives new.lives) → HasSeat (newborn old) old.lives new.lives → new.slots ≡ old.slots → AreStanding new.lives new.slots.items
unfolding accepts
standing_failed old new apart whole few keeps seat slots = subst (λ ss. AreStanding new.lives ss.items) (sym slots) (by seat)
  where
    free_at : (b : Place) → slice_get old.lives.places.items (newborn old) ≡ Some b → b.life.accepted ≡ false
    free_at b at = sym (accepts_at old.lives.places.items (newborn old) b at) ∙ (whole.free (newborn old) (omega arith)).0

    by : HasSeat (newborn old) old.lives new.lives → AreStanding new.lives old.slots.items
    by (none_came places) = standing_still old.lives new.lives old.slots.items old.slots.items (newborn old) apart.twenty free_at places keeps.page refl refl apart.standing
    by (came a places is root spare fresh) =
        standing_born old.lives new.lives old.slots.items old.slots.items (newborn old) a (homes_of old.lives.places.items) (omega (arith, few)) apart.twenty whole.slots.chains places keeps.page refl refl (λ u l. inr l)
        (record { root = λ _. root; div = λ no s at. absurd (no_true (sym no ∙ is)); spare = spare; fresh = fresh }) apart.standing
        (newborn old) (let g = ap length places ∙ set_long old.lives.places.items (newborn old) a in omega (arith, few, g, apart.twenty))
        (subst (λ hs. Chains hs (newborn old) 0 (chains_of old.slots.items))
        (sym (ap homes_of places ∙ map_set (λ (p : Place). p.life.slot) old.lives.places.items (newborn old) a))
        (chains_else (homes_of old.lives.places.items) (newborn old) a.life.slot 0 (chains_of old.slots.items) whole.slots.chains))

-- where it came: it waits behind those of its slot, or its number was not kept for want of memory
module _ (old new : Host) (to : ℕ) (content : SlotContent) (slot : Slot) (is_slot : slice_get old.slots.items to ≡ Some slot) (apart : IsApart old) (whole : IsWhole old) (few : swaps old < 4)
    (c : Comes (map tree_in old.libs.items) slot (record { to = to; v = newborn old; content = content }) old.lives new.lives) (keeps : KeepsRest (newborn old) old.lives new.lives)
    (names_same : map (λ (s : Slot). s.name) new.slots.items ≡ map (λ (s : Slot). s.name) old.slots.items) where
  many : length new.lives.places.items ≡ 20
  many = ap length c.places ∙ set_long old.lives.places.items (newborn old) c.place ∙ apart.twenty

  seat : IsSeated old.lives.shared.page new.lives.shared.page old.slots.items (newborn old) c.place
  seat = record {
    root = c.root;
    div = λ no s at. subst (λ (x : Slot). IsLot new.lives.shared.page (lot_of x.name None) c.place.root) (some_is slot s (sym is_slot ∙ ap (slice_get old.slots.items) (sym c.home) ∙ at)) (c.div no);
    spare = c.spare;
    fresh = c.fresh;
  }

  homes_set : homes_of new.lives.places.items ≡ slice_set (homes_of old.lives.places.items) (newborn old) c.place.life.slot
  homes_set = ap homes_of c.places ∙ map_set (λ (p : Place). p.life.slot) old.lives.places.items (newborn old) c.place

  pub standing_joined : chains_of new.slots.items ≡ on_at to (joins (newborn old)) (chains_of old.slots.items) → AreStanding new.lives new.slots.items
  standing_joined joined =
      standing_born old.lives new.lives old.slots.items new.slots.items (newborn old) c.place (homes_of old.lives.places.items) (omega (arith, few)) apart.twenty whole.slots.chains c.places keeps.page names_same
      (ap (map present_of) joined ∙ joined_present to (newborn old) (homes_of old.lives.places.items) (newborn old) 0 (chains_of old.slots.items) whole.slots.chains)
      (λ u l. joined_listed to (newborn old) u (chains_of old.slots.items) (ap (listed u) (sym joined) ∙ l))
      seat apart.standing (newborn old + 1) (omega (arith, few, many))
      (subst (λ hs. Chains hs (newborn old + 1) 0 (chains_of new.slots.items)) (sym (homes_set ∙ ap (slice_set (homes_of old.lives.places.items) (newborn old)) c.home))
      (subst (Chains (slice_set (homes_of old.lives.places.items) (newborn old) to) (newborn old + 1) 0) (sym joined)
      (chains_join (homes_of old.lives.places.items) (newborn old) to 0 to (chains_of old.slots.items) (let g = length-map old.lives.places.items (λ (p : Place). p.life.slot) in omega (arith, few, apart.twenty, g)) (omega arith) whole.slots.chains)))

  pub standing_alone : chains_of new.slots.items ≡ chains_of old.slots.items → AreStanding new.lives new.slots.items
  standing_alone same =
      standing_born old.lives new.lives old.slots.items new.slots.items (newborn old) c.place (homes_of old.lives.places.items) (omega (arith, few)) apart.twenty whole.slots.chains c.places keeps.page names_same
      (ap (map present_of) same)
      (λ u l. inr (ap (listed u) (sym same) ∙ l))
      seat apart.standing (newborn old) (omega (arith, few, many))
      (subst (λ hs. Chains hs (newborn old) 0 (chains_of new.slots.items)) (sym homes_set)
      (subst (Chains (slice_set (homes_of old.lives.places.items) (newborn old) c.place.life.slot) (newborn old) 0) (sym same)
      (chains_else (homes_of old.lives.places.items) (newborn old) c.place.life.slot 0 (chains_of old.slots.items) whole.slots.chains)))

-- ## For the code of the call

-- its place is free
pub free_place : (old : Host) → IsApart old → IsWhole old → IsFree (newborn old) old.lives
unfolding accepts
free_place old apart whole = record {
  refused = λ b at. sym (accepts_at old.lives.places.items (newborn old) b at) ∙ (whole.free (newborn old) (omega arith)).0;
  nothing = apart.others (newborn old) (whole.free (newborn old) (omega arith)).0;
}

-- and the fuel of its turns is within the limit
pub slot_fuel : (old : Host) → IsWhole old → (to : ℕ) (s : Slot) → slice_get old.slots.items to ≡ Some s → s.fuel ≤ 1000000
unfolding fuels
slot_fuel old whole to s at = whole.fuels to s.fuel (slice_get-map (λ (x : Slot). x.fuel) old.slots.items to ∙ ap (option_map (λ (x : Slot). x.fuel)) at)

-- the last life of its slot
pub last_here : (vs : List ℕ) (s : Slot) (ss : List Slot) (to : ℕ) → vs ≡ s.lives.items → slice_get ss to ≡ Some s → last_life vs ≡ last_at to (chains_of ss)
last_here vs s ss to e at = ap last_life e ∙ sym (last_of_slot ss to s at)

-- what came is the life of this number, over the libraries of the host
pub coming_is : (old : Host) (s : Slot) (to n : ℕ) (content : SlotContent) (c d : Lives) (codes : List Code) → n ≡ newborn old → codes ≡ old.libs.items → Comes (map tree_in codes) s (record { to = to; v = n; content = content }) c d
    → Comes (map tree_in old.libs.items) s (record { to = to; v = newborn old; content = content }) c d
coming_is old s to n content c d codes same are h =
    subst (λ v. Comes (map tree_in old.libs.items) s (record { to = to; v = v; content = content }) c d) same
    (subst (λ cs. Comes (map tree_in cs) s (record { to = to; v = n; content = content }) c d) are h)

module _ (old new : Host) (apart : IsApart old) (whole : IsWhole old) (to n : ℕ) (same : n ≡ newborn old) (keeps : KeepsRest (newborn old) old.lives new.lives)
    (names_same : map (λ (s : Slot). s.name) new.slots.items ≡ map (λ (s : Slot). s.name) old.slots.items)
    (fuels_same : map (λ (s : Slot). s.fuel) new.slots.items ≡ map (λ (s : Slot). s.fuel) old.slots.items) where
  present_after : {T E : Type 0} (r : Result T E) → OnOk r (chains_of new.slots.items ≡ on_at to (joins n) (chains_of old.slots.items)) → OnErr r (chains_of new.slots.items ≡ chains_of old.slots.items) → map present_of (chains_of new.slots.items) ≡ map present_of (chains_of old.slots.items)
  present_after (Ok t) joined e = ap (map present_of) joined ∙ joined_present to n (homes_of old.lives.places.items) (newborn old) 0 (chains_of old.slots.items) whole.slots.chains
  present_after (Err t) j still = ap (map present_of) still

  pub join_stays : {T E : Type 0} (r : Result T E) → OnOk r (chains_of new.slots.items ≡ on_at to (joins n) (chains_of old.slots.items)) → OnErr r (chains_of new.slots.items ≡ chains_of old.slots.items) → new.channels ≡ old.channels → new.libs ≡ old.libs → KeepsOthers old new
  join_stays r joined still pairs libs = others_kept old new apart whole keeps names_same fuels_same (present_after r joined still) pairs libs

  pub join_apart_by : {T E : Type 0} (r : Result T E) → OnOk r (chains_of new.slots.items ≡ on_at to (joins n) (chains_of old.slots.items)) → OnErr r (chains_of new.slots.items ≡ chains_of old.slots.items) → new.channels ≡ old.channels → new.libs ≡ old.libs → AreStanding new.lives new.slots.items → IsApart new
  join_apart_by r joined still pairs libs standing = apart_born old new apart whole keeps names_same fuels_same (present_after r joined still) pairs libs standing

standing_after : (old new : Host) (to : ℕ) (content : SlotContent) (slot : Slot) → slice_get old.slots.items to ≡ Some slot → IsApart old → IsWhole old → swaps old < 4 → (made : ℕ) → made ≡ newborn old
    → Comes (map tree_in old.libs.items) slot (record { to = to; v = newborn old; content = content }) old.lives new.lives → KeepsRest (newborn old) old.lives new.lives
    → map (λ (s : Slot). s.name) new.slots.items ≡ map (λ (s : Slot). s.name) old.slots.items
    → {T E : Type 0} (r : Result T E) → OnOk r (chains_of new.slots.items ≡ on_at to (joins made) (chains_of old.slots.items)) → OnErr r (chains_of new.slots.items ≡ chains_of old.slots.items) → AreStanding new.lives new.slots.items
standing_after old new to content slot at apart whole few made same comes keeps names_same (Ok t) joined still =
    standing_joined old new to content slot at apart whole few comes keeps names_same (joined ∙ ap (λ v. on_at to (joins v) (chains_of old.slots.items)) same)
standing_after old new to content slot at apart whole few made same comes keeps names_same (Err e) joined still =
    standing_alone old new to content slot at apart whole few comes keeps names_same still

pub join_apart : (old new : Host) (to : ℕ) (content : SlotContent) (slot : Slot) → slice_get old.slots.items to ≡ Some slot → IsApart old → IsWhole old → swaps old < 4 → (n : ℕ) → n ≡ newborn old
    → Comes (map tree_in old.libs.items) slot (record { to = to; v = newborn old; content = content }) old.lives new.lives → KeepsRest (newborn old) old.lives new.lives
    → map (λ (s : Slot). s.name) new.slots.items ≡ map (λ (s : Slot). s.name) old.slots.items → map (λ (s : Slot). s.fuel) new.slots.items ≡ map (λ (s : Slot). s.fuel) old.slots.items
    → {T E : Type 0} (r : Result T E) → OnOk r (chains_of new.slots.items ≡ on_at to (joins n) (chains_of old.slots.items)) → OnErr r (chains_of new.slots.items ≡ chains_of old.slots.items)
    → new.channels ≡ old.channels → new.libs ≡ old.libs → IsApart new
join_apart old new to content slot at apart whole few n same comes keeps names_same fuels_same r joined still pairs libs =
    join_apart_by old new apart whole to n same keeps names_same fuels_same r joined still pairs libs
    (standing_after old new to content slot at apart whole few n same comes keeps names_same r joined still)

-- ## A host that counts, or is marked

module _ (old mid : Host) (n : ℕ) (m : Bool) where
  abbrev after : Host
  after = record mid { given = n; marked = m }

  pub apart_with : IsApart mid → IsApart after
  unfolding accepts names
  apart_with a = record { twenty = a.twenty; own = a.own; others = a.others; standing = a.standing; distinct = a.distinct }

  pub others_with : KeepsOthers old mid → KeepsOthers old after
  unfolding accepts channels fuels journal libraries names scripts seens shared spots IsLaid
  others_with k = record { plan = record { channels = k.plan.channels; libraries = k.plan.libraries; names = k.plan.names; fuels = k.plan.fuels }; seens = k.seens; accepts = k.accepts; scripts = k.scripts; journal = k.journal; spots = k.spots; page = k.page; laid = k.laid }

  loads_with : (fuel : ℕ) (o : Option Content) → LoadsLife mid (newborn old) fuel o → LoadsLife after (newborn old) fuel o
  unfolding accepts seens
  loads_with fuel None l = l
  loads_with fuel (Some c) l = l

  pub life_with : (to : ℕ) (content : SlotContent) → BearsLife to content old mid → BearsLife to content old after
  unfolding accepts chains ends homes scripts told
  life_with to content b = record { ends = b.ends; chains = b.chains; homes = b.homes; life = loads_with (slice_index_or (fuels old) to 0) (content_in (libraries old) content) b.life; scripts = b.scripts; told = b.told }

pub whole_counted : (h : Host) (m : Bool) → IsWhole h → h.given < 4096 → IsWhole (record h { given = h.given + 1; marked = m })
unfolding accepts ends fuels told
whole_counted h m w room = record {
  slots = w.slots;
  room = few_more h.lives.shared (most_after h.given + sum_of (told_of h.lives.places.items)) (most_after (h.given + 1) + sum_of (told_of h.lives.places.items)) 0 h.lives.places.items (omega arith) w.room;
  raws = w.raws;
  free = w.free;
  told = w.told;
  fuels = w.fuels;
  given = omega (arith, room);
  swaps = w.swaps;
}

-- nothing comes
joins_here : (v : ℕ) (p : Page) → PageJoins v p p
joins_here v p = record {
  older = (same_joins p p (record { same = refl; roots = λ u lt. refl }) v).older;
  top = refl;
  owners = λ u n e. e;
  numbers = λ u n e. refl;
  nodes = λ u ne. refl;
  trees = λ u lt ne. refl;
  roots = λ u lt ne. refl;
  standing = λ n h. h;
  spare = λ n h. h;
  lots = λ lot n h. h;
  spots = λ ns h. h;
}

-- a host keeps what it has
pub others_here : (h : Host) → KeepsOthers h h
unfolding shared
others_here h = record { plan = plan_here h; seens = λ v ne. refl; accepts = λ v ne. refl; scripts = λ v ne. refl; journal = refl; spots = refl; page = joins_here (newborn h) (shared h).page; laid = λ xs pieces laid. laid }
