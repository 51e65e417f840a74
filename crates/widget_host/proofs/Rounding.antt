-- A round of posts in a host.
use Rattle.std.proofs.Common.{◌≡◌, ◌≢◌, ℕ, zero, suc, ◌+◌, ◌<◌, ◌≤◌, Bool, true, false, List, [], ◌∷◌, map, length, refl, sym, ap, ◌∙◌, subst, arith, Option, Some, ne_eqb}
use Rattle.std.specs.Prelude.{slice_get, slice_index_or, nat_eq, if◌then◌else◌, ◌||◌}
use Rattle.std.specs.List.{IsDistinct, range_with_len}
use Rattle.std.specs.Str.{bytes_eq}
use Rattle.std.proofs.lemmas.List.{length-map}
use Rattle.js_names.specs.declared.code.Code.{Code}
use Rattle.js_names.specs.Code.{tree_in}
use Rattle.std.specs.declared.alloc.Global.{Global}
use Rattle.std.specs.declared.vec.Vec.{Vec}
use Rattle.life_laws.specs.Life.{image}
use Rattle.life_laws.specs.Journal.{AllJoined}
use Rattle.life_laws.proofs.Given.{joined_given}
use Rattle.post_rounds.specs.declared.posts.Post.{Post}
use Rattle.post_rounds.specs.News.{all_news, news, news_from}
use Rattle.page_build.specs.Homes.{HaveRaws}
use Rattle.page_build.specs.Standing.{IsLaidBy, PagePasses}
use Rattle.page_nodes.specs.Entries.{body}
use Rattle.life_laws.specs.Fed.{Fed, round}
use Rattle.life_laws.specs.Chains.{Chains, Rest, Unspent, last_life}
use Rattle.life_laws.proofs.Housing.{unspent_given}
use Rattle.native_image.specs.declared.handed.Shared.{Shared}
use Rattle.page_load.specs.Loads.{HasNothing}
use Rattle.slot_picks.specs.declared.lives.Place.{Place}
use Rattle.slot_picks.specs.declared.slots.Slot.{Slot}
use Rattle.slot_picks.specs.Places.{FewPlaces, FinePlaces, OwnPlaces, homes_of, is_accepted, seens_from, told_of}
use Rattle.slot_picks.specs.Lives.{AreStanding, FewLives, FineLives, KeepsSlots, chains_of, seens_of, spots_of}
use Rattle.slot_picks.specs.Feeding as feeding
use Rattle.slot_picks.specs.Feeding.{Delivers, HaveDone, counts_for, events_for, gets, is_last, sum_of, told_more, with_more}
use Rattle.slot_picks.specs.Posting.{AreAlike, GivesRound, HaveRound, IsRound, WereGiven, fresh_of_lasts}
use Rattle.slot_picks.proofs.Taken.{few_news, sum_taken}
use Rattle.slot_picks.proofs.Looping.{others_stay}
use Rattle.slot_picks.proofs.Seen.{seens_round, told_round}
use Rattle.slot_picks.proofs.Sound.{counts_round, few_events, images_more, long_round, places_round}
use Rattle.widget_host.specs.declared.host.Host.{Host}
use Rattle.widget_host.specs.Housed.{IsApart, IsLaid, IsWhole, KeepsHost, accepts, chains, channels, ends, fuels, homes, libraries, most_after, names, scripts, seens, shared, spots, swaps, told}
use Rattle.widget_host.specs.Rounds.{AreFed}
use Rattle.widget_host.proofs.Alike.{accepts_alike, codes_alike, homes_alike, own_alike, roots_alike}
use Rattle.widget_host.proofs.Lasts.{last_each, not_last_any}
use Rattle.widget_host.proofs.Same.{passes_same, slots_same, spots_same, standing_same}
use Rattle.widget_host.proofs.Shown.{accepts_at}
use Rattle.widget_host.proofs.Staying.{scripts_by}
use Rattle.widget_host.proofs.Whole.{sum_few, whole_stays}

-- what a round is to what lives were given
abbrev pub GivesPosts : Bool → Host → Host → Type 0
GivesPosts d old new = (fs : List (Option Fed)) → AreFed old fs → HaveDone (seens old) → Delivers d (channels old) (names old) fs (AreFed new)

-- ## What stays

module _ (old new : Host) (all : new.lives.shared ≡ old.lives.shared) (alike : AreAlike old.lives.places.items new.lives.places.items) (slots : new.slots ≡ old.slots) where
  spots_stay : spots_of new.lives new.slots.items ≡ spots_of old.lives old.slots.items
  spots_stay = subst (λ s. spots_of new.lives s.items ≡ spots_of old.lives old.slots.items) (sym slots) (spots_same old.lives new.lives all alike old.slots.items)

  pub host_alike : new.channels ≡ old.channels → new.libs ≡ old.libs → new.ends ≡ old.ends → KeepsHost old new
  unfolding homes accepts scripts channels ends names fuels libraries spots shared IsLaid
  host_alike pairs libs over = record {
    plan = record {
      channels = ap (λ c. c.items) pairs;
      libraries = ap (λ (c : Vec Code Global). map tree_in c.items) libs;
      names = ap (λ s. map (λ (x : Slot). x.name) s.items) slots;
      fuels = ap (λ s. map (λ (x : Slot). x.fuel) s.items) slots;
    };
    homes = homes_alike old.lives.places.items new.lives.places.items alike;
    accepts = λ v. ap (λ flags. slice_index_or flags v false) (accepts_alike old.lives.places.items new.lives.places.items alike);
    scripts = λ v. ap (scripts_by v) (codes_alike old.lives.places.items new.lives.places.items alike);
    ends = ap (λ c. c.items) over;
    page = subst (λ s. PagePasses old.lives.shared.page new.lives.shared.page (spots_of old.lives old.slots.items) (spots_of new.lives s.items)) (sym slots) (passes_same old.lives new.lives all alike old.slots.items);
    laid = λ xs pieces laid. (
      laid.0 ∙ ap (λ s. map (λ (x : Slot). x.name) s.items) (sym slots),
      laid.1,
      subst (λ ns. IsLaidBy new.lives.shared.page ns pieces) (sym spots_stay) (subst (λ (h : Shared). IsLaidBy h.page (spots_of old.lives old.slots.items) pieces) (sym all) laid.2),
    );
  }

  pub apart_alike : IsApart old → IsApart new
  unfolding accepts names
  apart_alike a = record {
    twenty = sym (length-map new.lives.places.items (λ (p : Place). p.life.slot)) ∙ ap length (homes_alike old.lives.places.items new.lives.places.items alike) ∙ length-map old.lives.places.items (λ (p : Place). p.life.slot) ∙ a.twenty;
    own = subst (λ (h : Shared). OwnPlaces h 0 new.lives.places.items) (sym all) (own_alike old.lives.shared 0 old.lives.places.items new.lives.places.items alike a.own);
    others = λ v none. subst (λ (h : Shared). HasNothing v h.store h.page) (sym all)
        (a.others v (ap (λ flags. slice_index_or flags v false) (sym (accepts_alike old.lives.places.items new.lives.places.items alike)) ∙ none));
    standing = subst (λ s. AreStanding new.lives s.items) (sym slots) (standing_same old.lives new.lives all alike old.slots.items a.standing);
    distinct = subst (λ s. IsDistinct bytes_eq (map (λ (x : Slot). x.name) s.items)) (sym slots) a.distinct;
  }

-- ## Few events

-- no text is longer than each
few_range : (f : ℕ → List (List ℕ)) (m : ℕ) → ((w : ℕ) → length (f w) ≤ m) → (a n i : ℕ) (e : List (List ℕ)) → slice_get (map f (range_with_len a n)) i ≡ Some e → length e ≤ m
few_range f m few a zero i e at = cc
few_range f m few a (suc n) zero e at = let same : f a ≡ e = cc in subst (λ x. length x ≤ m) same (few a)
few_range f m few a (suc n) (suc i) e at = few_range f m few (a + 1) n i e at

none_range : (f : ℕ → List (List ℕ)) → ((w : ℕ) → f w ≡ []) → (a n i : ℕ) → slice_index_or (map f (range_with_len a n)) i [] ≡ []
none_range f none a zero i = refl
none_range f none a (suc n) zero = none a
none_range f none a (suc n) (suc i) = none_range f none (a + 1) n i

no_news : (names : List (List ℕ)) (w s : ℕ) (posts : List (List Post)) → news_from [] names w s posts ≡ []
no_news names w s [] = refl
no_news names w s (p ∷ posts) = no_news names w (s + 1) posts

no_counts : (cs : List (List ℕ)) (ns : List ℕ) (v : ℕ) → is_last v cs ≡ false → counts_for cs ns v ≡ 0
no_counts [] ns v out = refl
no_counts (c ∷ cs) [] v out = refl
no_counts (c ∷ cs) (n ∷ ns) v out = by (nat_eq (last_life c) v) out (no_counts cs ns v)
  where
    by : (b : Bool) → (b || is_last v cs) ≡ false → (is_last v cs ≡ false → counts_for cs ns v ≡ 0) → (if b then n else 0) + counts_for cs ns v ≡ 0
    by true e later = cc
    by false e later = let none = later e in omega (arith, none)

-- a life that is not born is the last one of no slot
not_born : (homes : List ℕ) (born k v : ℕ) (cs : List (List ℕ)) → Chains homes born k cs → born ≤ v → is_last v cs ≡ false
not_born homes born k v [] h past = refl
not_born homes born k v (c ∷ cs) h past =
    let below : last_life c < born = last_each (λ u. u < born) c h.0.some h.0.below in
    ap (λ b. b || is_last v cs) (ne_eqb (last_life c) v (λ e. absurd (omega (arith, below, past, e)))) ∙ not_born homes born (k + 1) v cs h.1 past

-- each last life has its place
lasts_there : (homes : List ℕ) (born k i : ℕ) (cs : List (List ℕ)) (c : List ℕ) → Chains homes born k cs → slice_get cs i ≡ Some c → last_life c < born
lasts_there homes born k i [] c h at = cc
lasts_there homes born k zero (d ∷ cs) c h at = let same : d ≡ c = cc in subst (λ x. last_life x < born) same (last_each (λ u. u < born) d h.0.some h.0.below)
lasts_there homes born k (suc i) (d ∷ cs) c h at = lasts_there homes born (k + 1) i cs c h.1 at

-- of no host more posts are taken than its lives keep
pub told_few : (h : Host) → IsWhole h → sum_of (told h) ≤ 5120
unfolding told
told_few h whole =
    let twenty : length (told_of h.lives.places.items) ≡ 20 = length-map h.lives.places.items (λ (p : Place). p.told) ∙ whole.slots.lives.places in
    let sum = sum_few (told_of h.lives.places.items) whole.told in
    omega (arith, twenty, sum)

-- ## What a round of these posts is to a host

module _ (old new : Host) (all : new.lives.shared ≡ old.lives.shared) (slots : new.slots ≡ old.slots) (alike : AreAlike old.lives.places.items new.lives.places.items) (whole : IsWhole old) where
  abbrev cs : List (List ℕ)
  cs = chains_of old.slots.items

  abbrev ps : List Place
  ps = old.lives.places.items

  abbrev hs : List ℕ
  hs = homes_of ps

  abbrev born : ℕ
  born = 16 + swaps old

  abbrev posts : List (List Post)
  posts = fresh_of_lasts ps cs

  abbrev listed_names : List (List ℕ)
  listed_names = map (λ (s : Slot). s.name) old.slots.items

  abbrev given_events : List (List (List ℕ))
  given_events = all_news old.channels.items listed_names posts

  abbrev counts : ℕ → ℕ
  counts = counts_for cs (map length posts)

  abbrev taken : ℕ
  taken = sum_of (map length posts)

  small : (v : ℕ) → length (events_for cs given_events v) ≤ taken
  small v = few_events hs born 0 taken v cs given_events whole.slots.chains
      (λ i e at. few_range (news old.channels.items listed_names posts) taken (λ w. few_news old.channels.items listed_names w posts) 0 (length listed_names) i e at)

  module _ (few_told : (v n : ℕ) → slice_get (told_of new.lives.places.items) v ≡ Some n → n ≤ 256) (r : HaveRound (events_for cs given_events) counts 0 ps new.lives.places.items) where
    told_now : told_of new.lives.places.items ≡ told_more counts 0 (told_of ps)
    told_now = told_round (events_for cs given_events) counts 0 ps new.lives.places.items r

    seens_now : seens_of new.lives ≡ with_more (gets (is_accepted ps) cs given_events) 0 (seens_of old.lives)
    seens_now = ap (λ (h : Shared). seens_from h 0 new.lives.places.items) all
        ∙ seens_round old.lives.shared (is_accepted ps) (events_for cs given_events) counts 0 ps new.lives.places.items
        (λ k l at. (let e : k ≡ 0 + k = omega arith in subst (λ u. is_accepted ps u ≡ l.life.accepted) e (accepts_at ps k l at))) r

    images_now : map image (seens_of new.lives) ≡ map image (seens_of old.lives)
    images_now = ap (map image) seens_now ∙ images_more (gets (is_accepted ps) cs given_events) 0 (seens_of old.lives)

    others_now : (v : ℕ) → is_last v cs ≡ false → slice_get (seens_of new.lives) v ≡ slice_get (seens_of old.lives) v
    others_now v out = ap (λ ss. slice_get ss v) seens_now ∙ others_stay (is_accepted ps) cs given_events (seens_of old.lives) v out

    sum_now : sum_of (told_of new.lives.places.items) ≡ sum_of (told_of ps) + taken
    sum_now =
        let long : length (map length posts) ≡ length cs = length-map posts length ∙ length-map cs _ in
        let twenty : length (told_of ps) ≡ 20 = length-map ps (λ (p : Place). p.told) ∙ whole.slots.lives.places in
        let sum = sum_taken (told_of ps) cs (map length posts) long (λ i c at. (let e = lasts_there hs born 0 i cs c whole.slots.chains at in omega (arith, e, twenty, whole.slots.few))) in
        let c : sum_of (told_of new.lives.places.items) ≡ sum_of (told_more counts 0 (told_of ps)) = ap sum_of told_now in
        omega (arith, sum, c)

    rest_now : Rest cs (seens_of new.lives)
    rest_now v s out at = whole.slots.rest v s out (sym (others_now v (not_last_any hs born 0 v cs whole.slots.chains out)) ∙ at)

    many : new.ends ≡ old.ends → swaps new ≡ swaps old
    unfolding ends
    many over = ap (λ e. length e.items) over

    bound_now : sum_of (told_of new.lives.places.items) ≤ 5120
    bound_now =
        let twenty : length (told_of new.lives.places.items) ≡ 20 = length-map new.lives.places.items (λ (p : Place). p.told) ∙ long_round (events_for cs given_events) counts 0 ps new.lives.places.items r ∙ whole.slots.lives.places in
        let sum = sum_few (told_of new.lives.places.items) few_told in
        omega (arith, twenty, sum)

    lives_now : new.lives.journal ≡ old.lives.journal → FineLives new.lives
    unfolding told
    lives_now kept = record {
      places = long_round (events_for cs given_events) counts 0 ps new.lives.places.items r ∙ whole.slots.lives.places;
      fine = subst (λ (h : Shared). FinePlaces h 0 new.lives.places.items) (sym all)
          (places_round (events_for cs given_events) counts old.lives.shared 0 (most_after old.given + sum_of (told_of ps)) taken ps new.lives.places.items small (omega (arith, whole.given, sum_now, bound_now)) r whole.room whole.slots.lives.fine);
      short = subst (λ j. length j.items ≤ 65536) (sym kept) whole.slots.lives.short;
    }

    room_now : new.given ≡ old.given → FewLives (most_after new.given + sum_of (told_of new.lives.places.items)) new.lives
    unfolding told
    room_now counted =
        let after : ℕ = most_after new.given + sum_of (told_of new.lives.places.items) in
        subst (λ (h : Shared). FewPlaces h after 0 new.lives.places.items) (sym all)
        (counts_round (events_for cs given_events) counts old.lives.shared 0 (most_after old.given + sum_of (told_of ps)) taken after ps new.lives.places.items small (omega (arith, counted, sum_now)) r whole.room)

    none_now : (v : ℕ) → born ≤ v → slice_index_or (told_of ps) v 0 ≡ 0 → slice_index_or (told_of new.lives.places.items) v 0 ≡ 0
    none_now v past was = ap (λ ns. slice_index_or ns v 0) told_now ∙ by v (told_of ps) 0 v (omega arith) past was
      where
        by : (k : ℕ) (ns : List ℕ) (u w : ℕ) → u + k ≡ w → born ≤ w → slice_index_or ns k 0 ≡ 0 → slice_index_or (told_more counts u ns) k 0 ≡ 0
        by k [] u w e far is = refl
        by zero (n ∷ ns) u w e far is =
            let none : counts u ≡ 0 = no_counts cs (map length posts) u (not_born hs born 0 u cs whole.slots.chains (omega (arith, e, far))) in
            let here : n ≡ 0 = is in
            omega (arith, none, here)
        by (suc k) (n ∷ ns) u w e far is = by k ns (u + 1) w (omega (arith, e)) far is

    pub whole_now : new.lives.journal ≡ old.lives.journal → new.ends ≡ old.ends → new.given ≡ old.given → IsWhole new
    unfolding accepts ends fuels told
    whole_now kept over counted = record {
      slots = record {
        lives = lives_now kept;
        slots = subst (λ s. length s.items ≤ 16) (sym slots) whole.slots.slots;
        few = subst (λ n. 16 + n ≤ 20) (sym (many over)) whole.slots.few;
        chains = subst (λ s. Chains (homes_of new.lives.places.items) (16 + swaps new) 0 (chains_of s.items)) (sym slots)
            (subst (λ xs. Chains xs (16 + swaps new) 0 cs) (sym (homes_alike ps new.lives.places.items alike))
            (subst (λ n. Chains hs (16 + n) 0 cs) (sym (many over)) whole.slots.chains));
        unspent = subst (λ n. Unspent (16 + n) (seens_of new.lives)) (sym (many over)) (unspent_given born (seens_of old.lives) (seens_of new.lives) images_now whole.slots.unspent);
        joined = subst (λ j. AllJoined j.items (seens_of new.lives)) (sym kept) (joined_given old.lives.journal.items (seens_of old.lives) (seens_of new.lives) images_now whole.slots.joined);
        rest = subst (λ s. Rest (chains_of s.items) (seens_of new.lives)) (sym slots) rest_now;
      };
      room = room_now counted;
      raws = subst (λ (h : Shared). HaveRaws h.store h.page) (sym all) whole.raws;
      told = few_told;
      given = subst (λ n. n ≤ 4096) (sym counted) whole.given;
      swaps = subst (λ n. n ≤ 4) (sym (many over)) whole.swaps;
      fuels = λ w n at. whole.fuels w n (ap (λ ns. slice_get ns w) (ap (λ s. map (λ (x : Slot). x.fuel) s.items) (sym slots)) ∙ at);
      free = λ v past.
          let far : born ≤ v = subst (λ n. 16 + n ≤ v) (many over) past in
          let f = whole.free v far in (
            ap (λ flags. slice_index_or flags v false) (accepts_alike ps new.lives.places.items alike) ∙ f.0,
            ap (λ ns. slice_index_or ns v body) (roots_alike ps new.lives.places.items alike) ∙ f.1,
            none_now v far f.2,
          );
    }

  -- ## Where nothing was delivered

  module _ (still : new.lives.places.items ≡ ps) where
    pub seens_still : seens_of new.lives ≡ seens_of old.lives
    seens_still = ap (λ (h : Shared). seens_from h 0 new.lives.places.items) all ∙ ap (seens_from old.lives.shared 0) still

    pub whole_still : new.lives.journal ≡ old.lives.journal → new.ends ≡ old.ends → new.given ≡ old.given → IsApart new → IsWhole new
    whole_still kept over counted apart =
        whole_stays old new (subst (λ s. KeepsSlots old.lives new.lives old.slots.items s.items) (sym slots) (slots_same old.lives new.lives all alike old.slots.items (ap told_of still))) apart over counted
        (record {
          lives = record {
            places = ap length still ∙ whole.slots.lives.places;
            fine = subst (λ (h : Shared). FinePlaces h 0 new.lives.places.items) (sym all) (subst (FinePlaces old.lives.shared 0) (sym still) whole.slots.lives.fine);
            short = subst (λ j. length j.items ≤ 65536) (sym kept) whole.slots.lives.short;
          };
          slots = subst (λ s. length s.items ≤ 16) (sym slots) whole.slots.slots;
          few = whole.slots.few;
          chains = subst (λ s. Chains (homes_of new.lives.places.items) born 0 (chains_of s.items)) (sym slots) (subst (λ qs. Chains (homes_of qs) born 0 cs) (sym still) whole.slots.chains);
          unspent = subst (Unspent born) (sym seens_still) whole.slots.unspent;
          joined = subst (λ j. AllJoined j.items (seens_of new.lives)) (sym kept) (subst (AllJoined old.lives.journal.items) (sym seens_still) whole.slots.joined);
          rest = subst (λ s. Rest (chains_of s.items) (seens_of new.lives)) (sym slots) (subst (Rest cs) (sym seens_still) whole.slots.rest);
        })
        (λ n few. subst (λ (h : Shared). FewPlaces h n 0 new.lives.places.items) (sym all) (subst (FewPlaces old.lives.shared n 0) (sym still) few)) whole

  -- ## Whether something was delivered

  abbrev Round : Bool → Type 0
  Round d = IsRound d old.channels.items listed_names cs ps new.lives.places.items

  -- some channel is there then
  pub listed_now : Round true → old.channels.items ≢ []
  listed_now r none = r.0 (λ w c at yes. none_range (news old.channels.items listed_names posts) (λ u. ap (λ pairs. news_from pairs listed_names u 0 posts) none ∙ no_news listed_names u 0 posts) 0 (length listed_names) w)

  -- what it is to what lives were given
  fed_now : (gs : List (Option Fed)) → WereGiven old.lives.shared cs new.lives.places.items gs → AreFed new gs
  unfolding accepts chains seens told
  fed_now gs given =
      subst (λ s. feeding.AreFed (is_accepted new.lives.places.items) (seens_of new.lives) (told_of new.lives.places.items) (chains_of s.items) gs) (sym slots)
      (subst (λ (h : Shared). feeding.AreFed (is_accepted new.lives.places.items) (seens_from h 0 new.lives.places.items) (told_of new.lives.places.items) cs gs) (sym all) given)

  pub delivers_now : (d : Bool) → GivesRound d old.channels.items listed_names cs ps new.lives.places.items → GivesPosts d old new
  unfolding accepts chains channels names seens told
  delivers_now false g = λ fs fed done. (let d = g old.lives.shared fs done fed in (d.0, fed_now fs d.1))
  delivers_now true g = λ fs fed done. (let d = g old.lives.shared fs done fed in (d.0, fed_now (round old.channels.items listed_names fs) d.1))

  module _ (few_told : (v n : ℕ) → slice_get (told_of new.lives.places.items) v ≡ Some n → n ≤ 256) where
    pub whole_then : (d : Bool) → Round d → new.lives.journal ≡ old.lives.journal → new.ends ≡ old.ends → new.given ≡ old.given → IsApart new → IsWhole new
    whole_then false r kept over counted apart = whole_still r.1 kept over counted apart
    whole_then true r kept over counted apart = whole_now few_told r.1 kept over counted

  pub seens_then : (d : Bool) → Round d → d ≡ false → (seens_of new.lives ≡ seens_of old.lives) × (told_of new.lives.places.items ≡ told_of ps)
  seens_then false r is = (seens_still r.1, ap told_of r.1)
  seens_then true r is = cc

  pub listed_then : (d : Bool) → Round d → d ≡ true → old.channels.items ≢ []
  listed_then false r is = cc
  listed_then true r is = listed_now r

  -- as the call has its slots and channels
  pub round_as : (d : Bool) (ss : List Slot) (pairs : List (ℕ × ℕ)) → ss ≡ old.slots.items → pairs ≡ old.channels.items → IsRound d pairs (map (λ (s : Slot). s.name) ss) (chains_of ss) ps new.lives.places.items → Round d
  round_as d ss pairs e f r = subst (λ qs. IsRound d qs listed_names cs ps new.lives.places.items) f (subst (λ ts. IsRound d pairs (map (λ (s : Slot). s.name) ts) (chains_of ts) ps new.lives.places.items) e r)

  pub given_as : (d : Bool) (ss : List Slot) (pairs : List (ℕ × ℕ)) → ss ≡ old.slots.items → pairs ≡ old.channels.items → GivesRound d pairs (map (λ (s : Slot). s.name) ss) (chains_of ss) ps new.lives.places.items
      → GivesRound d old.channels.items listed_names cs ps new.lives.places.items
  given_as d ss pairs e f g = subst (λ qs. GivesRound d qs listed_names cs ps new.lives.places.items) f (subst (λ ts. GivesRound d pairs (map (λ (s : Slot). s.name) ts) (chains_of ts) ps new.lives.places.items) e g)
