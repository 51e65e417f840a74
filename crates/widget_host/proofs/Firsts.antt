-- The first lives of a page are housed.
use Rattle.std.proofs.Common.{◌≡◌, ℕ, zero, suc, ◌+◌, ◌<◌, ◌≤◌, List, [], ◌∷◌, Bool, true, false, refl, sym, ap, ◌∙◌, subst, length, map, Option, None, Some, arith, if◌then◌else◌, eqb, eq-eqb, leb, leb-true, leb-false}
use Rattle.std.specs.Prelude.{slice_get, slice_index_or, ◌^◌}
use Rattle.std.specs.List.{IsDistinct}
use Rattle.std.specs.Str.{bytes_eq}
use Rattle.std.specs.Option.{option_map}
use Rattle.std.proofs.lemmas.Option.{get_or_from_slice_get, slice_get-map}
use Rattle.std.proofs.lemmas.List.{length-map}
use Rattle.widget_meaning.specs.OwnState.{OwnState}
use Rattle.widget_meaning.specs.Alone.{Content, beginning, loaded}
use Rattle.life_laws.specs.Life.{Seen, due, image, ready}
use Rattle.life_laws.specs.Journal.{AllJoined}
use Rattle.life_laws.specs.Chains.{Chains, Rest, Unspent, listed}
use Rattle.life_laws.specs.Settled.{flag}
use Rattle.native_image.specs.declared.handed.Shared.{Shared}
use Rattle.slot_picks.specs.declared.lives.Place.{Place}
use Rattle.slot_picks.specs.QueueLives.{life_seen}
use Rattle.slot_picks.specs.Places.{FewPlace, FewPlaces, FinePlace, FinePlaces, OwnPlaces, accepts_of, codes_of, homes_of, lent, roots_of, seen_at, seens_from, told_of}
use Rattle.slot_picks.specs.declared.slots.Slot.{Slot}
use Rattle.slot_picks.specs.declared.lives.Lives.{Lives}
use Rattle.slot_picks.specs.Lives.{AreHoused, AreStanding, FewLives, OwnLives, chains_of, seens_of, spots_of}
use Rattle.page_build.specs.Homes.{HaveRaws}
use Rattle.page_build.specs.Standing.{HavePlaces, IsLaidBy}
use Rattle.page_nodes.specs.Entries.{body}
use Rattle.js_names.specs.Code.{tree_in}
use Rattle.page_plan.specs.declared.PageSpec.{PageSpec}
use Rattle.page_plan.specs.declared.SlotSpec.{SlotSpec}
use Rattle.page_plan.specs.Contents.{content_of}
use Rattle.page_plan.specs.Loadable.{names_of}
use Rattle.page_plan.specs.Pages.{piece_of}
use Rattle.slot_picks.specs.Feeding.{sum_of}
use Rattle.page_load.specs.declared.loading.Loaded.{Loaded}
use Rattle.page_load.specs.Loads.{Begins, HasNothing, HasScripts, IsFirstLife, LoadsPage, singles}
use Rattle.widget_host.specs.declared.host.Host.{Host}
use Rattle.widget_host.specs.Housed.{IsApart, IsHoused, IsLaid, Loads, LoadsLife, accepts, chains, channels, ends, fuels, given, homes, journal, libraries, marked, most_after, names, scripts, seens, spots, swaps, told}
use Rattle.widget_host.proofs.Reading.{scripts_at}
use Rattle.widget_host.proofs.Staying.{scripts_by}

no_true : false ≡ true → ⊥
no_true e = cc

none_some : {A : Type 0} {a : A} → None ≡ Some a → ⊥
none_some e = cc

some_some : {A : Type 0} (a b : A) → Some a ≡ Some b → a ≡ b
some_some a b e = cc

within : {X : Type 0} (xs : List X) (n : ℕ) (x : X) → slice_get xs n ≡ Some x → n < length xs
within [] n x at = absurd (none_some at)
within (y ∷ xs) zero x at = omega arith
within (y ∷ xs) (suc n) x at = omega (arith, within xs n x at)

there : {X : Type 0} (xs : List X) (n : ℕ) → n < length xs → (x : X) × (slice_get xs n ≡ Some x)
there [] n lt = absurd (omega (arith, lt))
there (x ∷ xs) zero lt = (x, refl)
there (x ∷ xs) (suc n) lt = there xs n (omega (arith, lt))

-- a list has nothing at a place behind it
get_or_none : {A : Type 0} (xs : List A) (n : ℕ) (d : A) → slice_get xs n ≡ None → slice_index_or xs n d ≡ d
get_or_none [] n d e = refl
get_or_none (x ∷ xs) zero d e = absurd (none_some (sym e))
get_or_none (x ∷ xs) (suc n) d e = get_or_none xs n d e

-- no posts at all
none_told : (ns : List ℕ) → ((v n : ℕ) → slice_get ns v ≡ Some n → n ≡ 0) → sum_of ns ≡ 0
none_told [] f = refl
none_told (n ∷ ns) f = let here = f 0 n refl in let more = none_told ns (λ v m at. f (suc v) m at) in omega (arith, here, more)

-- ## Places

module _ (h : Shared) where
  fine_from : (w : ℕ) (ls : List Place) → ((v : ℕ) (a : Place) → slice_get ls v ≡ Some a → (u : ℕ) → u ≡ w + v → FinePlace h u a) → FinePlaces h w ls
  fine_from w [] f = tt
  fine_from w (a ∷ ls) f = (f 0 a refl w (omega arith), fine_from (w + 1) ls (λ v b at u e. f (suc v) b at u (omega (arith, e))))

  few_from : (n w : ℕ) (ls : List Place) → ((v : ℕ) (a : Place) → slice_get ls v ≡ Some a → (u : ℕ) → u ≡ w + v → FewPlace h n u a) → FewPlaces h n w ls
  few_from n w [] f = tt
  few_from n w (a ∷ ls) f = (f 0 a refl w (omega arith), few_from n (w + 1) ls (λ v b at u e. f (suc v) b at u (omega (arith, e))))

  -- each holds its own
  pub own_fine : (w : ℕ) (ls : List Place) → FinePlaces h w ls → OwnPlaces h w ls
  own_fine w [] f = tt
  own_fine w (a ∷ ls) f = (λ e. record { confined = (f.0 e).confined; holds = (f.0 e).sound.holds; turn = (f.0 e).turn }, own_fine (w + 1) ls f.1)

  -- what is seen of a place is seen of its life
  life_of : (w : ℕ) (ls : List Place) (v : ℕ) (s : Seen) → slice_get (seens_from h w ls) v ≡ Some s → (a : Place) × (slice_get ls v ≡ Some a) × (s ≡ seen_at h (w + v) a)
  life_of w [] v s at = absurd (none_some at)
  life_of w (a ∷ ls) zero s at = (a, refl, some_some s (seen_at h w a) (sym at) ∙ ap (λ u. seen_at h u a) (here w))
    where
      here : (w : ℕ) → w ≡ w + 0
      here w = omega arith
  life_of w (a ∷ ls) (suc v) s at =
      let r = life_of (w + 1) ls v s at in
      (r.0, r.1, r.2 ∙ ap (λ u. seen_at h u r.0) (next w v))
    where
      next : (w v : ℕ) → w + 1 + v ≡ w + suc v
      next w v = omega arith

  pub seens_long : (w : ℕ) (ls : List Place) → length (seens_from h w ls) ≡ length ls
  seens_long w [] = refl
  seens_long w (a ∷ ls) = ap suc (seens_long (w + 1) ls)

-- ## Slots

singles_long : (n v : ℕ) → length (singles v n) ≡ n
singles_long zero v = refl
singles_long (suc n) v = ap suc (singles_long n (v + 1))

-- a life of one of them is in its slot
listed_one : (n w v : ℕ) → w ≤ v → v < w + n → listed v (singles w n) ≡ true
listed_one zero w v le lt = absurd (omega (arith, le, lt))
listed_one (suc n) w v le lt = by (eqb w v) refl (λ ne. listed_one n (w + 1) v (omega (arith, le, ne)) (omega (arith, lt)))
  where
    by : (b : Bool) → eqb w v ≡ b → ((w ≡ v → ⊥) → listed v (singles (w + 1) n) ≡ true) → (if (if b then true else false) then true else listed v (singles (w + 1) n)) ≡ true
    by true e f = refl
    by false e f = f (λ g. no_true (sym e ∙ eq-eqb w v g))

chains_from : (homes : List ℕ) (n w : ℕ) → w + n ≤ 16 → ((v : ℕ) → v < 16 → slice_get homes v ≡ Some v) → Chains homes 16 w (singles w n)
chains_from homes zero w le at = tt
chains_from homes (suc n) w le at = (record { some = omega arith; rising = (tt, tt); below = (omega (arith, le), tt); home = (at w (omega (arith, le)), tt) }, chains_from homes n (w + 1) (omega (arith, le)) at)

-- ## The lives of a page

module _ (spec : PageSpec) (l : Loaded) (loads : LoadsPage spec l) where
  abbrev h : Shared
  h = l.lives.shared

  abbrev lives : List Place
  lives = l.lives.places.items

  -- an accepted life is that of a slot with its widget
  begun : (v : ℕ) (a : Place) → slice_get lives v ≡ Some a → a.life.accepted ≡ true → (s : SlotSpec) × (c : Content) × (slice_get spec.slots.items v ≡ Some s) × (content_of spec.libs.items s.content ≡ Some c) × Begins h v s.fuel c a
  begun v a at is = by (slice_get spec.slots.items v) refl
    where
      refused : a.life.accepted ≡ false → ⊥
      refused e = no_true (sym e ∙ is)

      with_content : (s : SlotSpec) → slice_get spec.slots.items v ≡ Some s → (o : Option Content) → content_of spec.libs.items s.content ≡ o → IsFirstLife h v s.fuel o a → (s : SlotSpec) × (c : Content) × (slice_get spec.slots.items v ≡ Some s) × (content_of spec.libs.items s.content ≡ Some c) × Begins h v s.fuel c a
      with_content s here None e f = absurd (refused f)
      with_content s here (Some c) e f = (s, c, here, e, f)

      past : {X : Type 0} (xs : List X) (n : ℕ) → slice_get xs n ≡ None → length xs ≤ n
      past [] n e = omega arith
      past (x ∷ xs) zero e = absurd (none_some (sym e))
      past (x ∷ xs) (suc n) e = omega (arith, past xs n e)

      by : (o : Option SlotSpec) → slice_get spec.slots.items v ≡ o → (s : SlotSpec) × (c : Content) × (slice_get spec.slots.items v ≡ Some s) × (content_of spec.libs.items s.content ≡ Some c) × Begins h v s.fuel c a
      by None e = absurd (refused (loads.rest v a (past spec.slots.items v e) at).0)
      by (Some s) e = with_content s e (content_of spec.libs.items s.content) refl (loads.slots v s a e at)

  pub fine_lives : FinePlaces h 0 lives
  fine_lives = fine_from h 0 lives (λ v a at u e is. (let g : v ≡ u = omega (arith, e) in subst (λ x. FinePlace h x a) g (λ y. (begun v a at y).4.fine) is))

  pub few_lives : FewPlaces h (2 ^ 31) 0 lives
  few_lives = few_from h (2 ^ 31) 0 lives (λ v a at u e is. (let g : v ≡ u = omega (arith, e) in subst (λ x. FewPlace h (2 ^ 31) x a) g (λ y. (begun v a at y).4.few) is))

  life_at : (v : ℕ) → v < 20 → (a : Place) × (slice_get lives v ≡ Some a)
  life_at v lt = there lives v (omega (arith, lt, loads.twenty))

  home_at : (v : ℕ) → v < 16 → slice_get (homes_of lives) v ≡ Some v
  home_at v lt =
      let a = life_at v (omega (arith, lt)) in
      slice_get-map (λ (p : Place). p.life.slot) lives v ∙ ap (option_map (λ (p : Place). p.life.slot)) a.1 ∙ ap Some (loads.homes v a.0 a.1)

  pub chains_are : (cs : List (List ℕ)) → cs ≡ singles 0 (length spec.slots.items) → Chains (homes_of lives) 16 0 cs
  chains_are cs are = subst (Chains (homes_of lives) 16 0) (sym are) (chains_from (homes_of lives) (length spec.slots.items) 0 (omega (arith, loads.few)) home_at)

  pub homes_are : (v w : ℕ) → slice_get (homes_of lives) v ≡ Some w → w ≡ v
  homes_are v w at = by (slice_get lives v) refl (sym (slice_get-map (λ (p : Place). p.life.slot) lives v) ∙ at)
    where
      by : (o : Option Place) → slice_get lives v ≡ o → option_map (λ (p : Place). p.life.slot) o ≡ Some w → w ≡ v
      by None e g = absurd (none_some g)
      by (Some a) e g = some_some w a.life.slot (sym g) ∙ loads.homes v a e

  -- a life that is not accepted is seen so
  unaccepted : (v : ℕ) (s : Seen) → slice_get (seens_from h 0 lives) v ≡ Some s → length spec.slots.items ≤ v → s ≡ flag false
  unaccepted v s at le =
      let r = life_of h 0 lives v s at in
      r.2 ∙ ap (λ b. if b then life_seen (lent h r.0) (0 + v) r.0.life else flag false) (loads.rest v r.0 le r.1).0

  pub unspent_all : Unspent 16 (seens_from h 0 lives)
  unspent_all v s le at = ap (λ (x : Seen). (image x).spent) (unaccepted v s at (omega (arith, le, loads.few)))

  -- no life has spent anything
  pub unspent_here : Unspent 0 (seens_from h 0 lives)
  unspent_here v s le at =
      let r = life_of h 0 lives v s at in
      ap (λ (x : Seen). (image x).spent) r.2 ∙ by r.0 r.1 r.0.life.accepted refl
    where
      by : (a : Place) → slice_get lives v ≡ Some a → (b : Bool) → a.life.accepted ≡ b → (image (seen_at h (0 + v) a)).spent ≡ 0
      by a here false is = ap (λ b. (image (if b then life_seen (lent h a) (0 + v) a.life else flag false)).spent) is
      by a here true is =
          let e : 0 + v ≡ v = omega arith in
          ap (λ n. (image (seen_at h n a)).spent) e
          ∙ ap (λ b. (image (if b then life_seen (lent h a) v a.life else flag false)).spent) is
          ∙ ap (λ (o : OwnState). o.spent) (begun v a here is).4.shows

  pub rest_all : (cs : List (List ℕ)) → cs ≡ singles 0 (length spec.slots.items) → Rest cs (seens_from h 0 lives)
  rest_all cs are v s out at = ap ready (unaccepted v s at (by (length spec.slots.items) v (ap (listed v) (sym are) ∙ out)))
    where
      by : (n v : ℕ) → listed v (singles 0 n) ≡ false → n ≤ v
      by n v e = decide (leb n v) refl
        where
          decide : (b : Bool) → leb n v ≡ b → n ≤ v
          decide true g = leb-true n v g
          decide false g = absurd (no_true (sym e ∙ listed_one n 0 v (omega arith) (let q = leb-false n v g in omega (arith, q))))

  pub joined_all : AllJoined [] (seens_from h 0 lives)
  joined_all v s at = tt

  -- whether the life of a slot is accepted
  accepts_at : (v : ℕ) (a : Place) → slice_get lives v ≡ Some a → slice_index_or (accepts_of lives) v false ≡ a.life.accepted
  accepts_at v a at = get_or_from_slice_get (accepts_of lives) v a.life.accepted false (slice_get-map (λ (p : Place). p.life.accepted) lives v ∙ ap (option_map (λ (p : Place). p.life.accepted)) at)

  -- what a slot loads
  pub slot_loads : (w : ℕ) (s : SlotSpec) → slice_get spec.slots.items w ≡ Some s → (a : Place) × (slice_get lives w ≡ Some a) × (slice_index_or (accepts_of lives) w false ≡ a.life.accepted) × IsFirstLife h w s.fuel (content_of spec.libs.items s.content) a
  slot_loads w s at =
      let a = life_at w (omega (arith, within spec.slots.items w s at, loads.few)) in
      (a.0, a.1, accepts_at w a.0 a.1, loads.slots w s a.0 at a.1)

  -- what is seen of it
  pub seen_begins : (w fuel : ℕ) (c : Content) (a : Place) → slice_get lives w ≡ Some a → Begins h w fuel c a → (s : Seen) → slice_get (seens_from h 0 lives) w ≡ Some s → (image s ≡ beginning c fuel) × (due s ≡ loaded c fuel)
  seen_begins w fuel c a at b s seen =
      let r = life_of h 0 lives w s seen in
      let e : 0 + w ≡ w = omega arith in
      let same : r.0 ≡ a = some_some r.0 a (sym r.1 ∙ at) in
      let is : s ≡ life_seen (lent h a) w a.life = r.2 ∙ ap (λ n. seen_at h n r.0) e ∙ ap (seen_at h w) same ∙ ap (λ x. if x then life_seen (lent h a) w a.life else flag false) b.accepted in
      (ap image is ∙ b.shows, ap due is ∙ b.comes)

  -- where no life is born yet
  pub free_here : (v : ℕ) → length spec.slots.items ≤ v → (slice_index_or (accepts_of lives) v false ≡ false) × (slice_index_or (roots_of lives) v body ≡ body) × (slice_index_or (told_of lives) v 0 ≡ 0)
  free_here v le = by (slice_get lives v) refl
    where
      none_at : {A : Type 0} (f : Place → A) (d : A) → slice_get lives v ≡ None → slice_index_or (map f lives) v d ≡ d
      none_at f d e = get_or_none (map f lives) v d (slice_get-map f lives v ∙ ap (option_map f) e)

      some_at : {A : Type 0} (f : Place → A) (d : A) (a : Place) → slice_get lives v ≡ Some a → slice_index_or (map f lives) v d ≡ f a
      some_at f d a e = get_or_from_slice_get (map f lives) v (f a) d (slice_get-map f lives v ∙ ap (option_map f) e)

      by : (o : Option Place) → slice_get lives v ≡ o → (slice_index_or (accepts_of lives) v false ≡ false) × (slice_index_or (roots_of lives) v body ≡ body) × (slice_index_or (told_of lives) v 0 ≡ 0)
      by None e = (none_at (λ (p : Place). p.life.accepted) false e, none_at (λ (p : Place). p.root) body e, none_at (λ (p : Place). p.told) 0 e)
      by (Some a) e = let r = loads.rest v a le e in (some_at (λ (p : Place). p.life.accepted) false a e ∙ r.0, some_at (λ (p : Place). p.root) body a e ∙ r.1, some_at (λ (p : Place). p.told) 0 a e ∙ loads.told v a e)

  -- no post was taken
  pub untold : (v n : ℕ) → slice_get (told_of lives) v ≡ Some n → n ≡ 0
  untold v n at = by (slice_get lives v) refl (sym (slice_get-map (λ (p : Place). p.told) lives v) ∙ at)
    where
      by : (o : Option Place) → slice_get lives v ≡ o → option_map (λ (p : Place). p.told) o ≡ Some n → n ≡ 0
      by None e g = absurd (none_some g)
      by (Some a) e g = some_some n a.told (sym g) ∙ loads.told v a e

-- ## The host of a page

module _ (spec : PageSpec) (l : Loaded) (loads : LoadsPage spec l) (host : Host) (lives_is : host.lives ≡ l.lives) (slots_are : host.slots ≡ l.slots) (libs_are : host.libs ≡ l.libs) (pairs : host.channels ≡ l.channels) (fresh : host.ends.items ≡ []) (apart_names : IsDistinct bytes_eq (names_of spec)) (none_given : host.given ≡ 0) (is_unmarked : host.marked ≡ false) where
  are : chains_of host.slots.items ≡ singles 0 (length spec.slots.items)
  are = ap (λ s. chains_of s.items) slots_are ∙ loads.chains

  no_swaps : swaps host ≡ 0
  unfolding ends
  no_swaps = ap length fresh

  housed : AreHoused 16 l.lives l.slots.items
  housed = record {
    lives = record { places = loads.twenty; fine = fine_lives spec l loads; short = omega (arith, ap length loads.journal) };
    slots = omega (arith, length-map l.slots.items (λ (s : Slot). s.lives.items), ap length loads.chains, singles_long (length spec.slots.items) 0, loads.few);
    few = omega arith;
    chains = chains_are spec l loads (chains_of l.slots.items) loads.chains;
    unspent = unspent_all spec l loads;
    joined = subst (λ js. AllJoined js (seens_of l.lives)) (sym loads.journal) (joined_all spec l loads);
    rest = rest_all spec l loads (chains_of l.slots.items) loads.chains;
  }

  distinct_here : IsDistinct bytes_eq (names host)
  unfolding names
  distinct_here = subst (IsDistinct bytes_eq) (sym (ap (λ s. map (λ (x : Slot). x.name) s.items) slots_are ∙ loads.names)) apart_names

  apart : IsApart host
  unfolding accepts
  apart = record {
    twenty = ap (λ (c : Lives). length c.places.items) lives_is ∙ loads.twenty;
    own = subst OwnLives (sym lives_is) (own_fine l.lives.shared 0 l.lives.places.items (fine_lives spec l loads));
    others = λ v none. subst (λ (c : Lives). HasNothing v c.shared.store c.shared.page) (sym lives_is)
        (loads.others v (λ a at. sym (accepts_at spec l loads v a at) ∙ (ap (λ (c : Lives). slice_index_or (accepts_of c.places.items) v false) (sym lives_is) ∙ none)));
    standing = subst (λ (c : Lives). AreStanding c host.slots.items) (sym lives_is) (subst (λ s. AreStanding l.lives s.items) (sym slots_are) loads.standing);
    distinct = distinct_here;
  }

  told_none : sum_of (told_of host.lives.places.items) ≡ 0
  told_none = none_told (told_of host.lives.places.items) (λ v n at. untold spec l loads v n (ap (λ (c : Lives). slice_get (told_of c.places.items) v) (sym lives_is) ∙ at))

  bound : 2 ^ 31 ≡ most_after host.given + sum_of (told_of host.lives.places.items)
  bound = omega (arith, ap most_after none_given, told_none)

  is_housed : IsHoused host
  unfolding IsHoused accepts fuels told
  is_housed = (
    apart,
    λ e. record {
      slots = subst (λ n. AreHoused (16 + n) host.lives host.slots.items) (sym no_swaps) (subst (λ (c : Lives). AreHoused 16 c host.slots.items) (sym lives_is) (subst (λ s. AreHoused 16 l.lives s.items) (sym slots_are) housed));
      room = subst (λ n. FewLives n host.lives) bound (subst (FewLives (2 ^ 31)) (sym lives_is) (few_lives spec l loads));
      told = λ v n at. let z = untold spec l loads v n (ap (λ (c : Lives). slice_get (told_of c.places.items) v) (sym lives_is) ∙ at) in omega (arith, z);
      raws = subst (λ (c : Lives). HaveRaws c.shared.store c.shared.page) (sym lives_is) loads.raws;
      given = omega (arith, none_given);
      swaps = omega (arith, no_swaps);
      fuels = λ w n at. fuels_few (λ u s. loads.fuel u s) w n (ap (λ ss. slice_get (map (λ (s : Slot). s.fuel) ss.items) w) (sym slots_are) ∙ at);
      free = λ v past.
          let f = free_here spec l loads v (omega (arith, past, no_swaps, loads.few)) in
          (ap (λ (c : Lives). slice_index_or (accepts_of c.places.items) v false) lives_is ∙ f.0, ap (λ (c : Lives). slice_index_or (roots_of c.places.items) v body) lives_is ∙ f.1, ap (λ (c : Lives). slice_index_or (told_of c.places.items) v 0) lives_is ∙ f.2);
    },
  )
    where
      fuels_few : ((u : ℕ) (s : Slot) → slice_get l.slots.items u ≡ Some s → s.fuel ≤ 1000000) → (w n : ℕ) → slice_get (map (λ (s : Slot). s.fuel) l.slots.items) w ≡ Some n → n ≤ 1000000
      fuels_few few w n at = by (slice_get l.slots.items w) refl (sym (slice_get-map (λ (s : Slot). s.fuel) l.slots.items w) ∙ at)
        where
          by : (o : Option Slot) → slice_get l.slots.items w ≡ o → option_map (λ (s : Slot). s.fuel) o ≡ Some n → n ≤ 1000000
          by None e g = absurd (none_some g)
          by (Some s) e g = subst (λ m. m ≤ 1000000) (some_some s.fuel n g) (few w s e)

  loads_life : (w fuel : ℕ) (o : Option Content) (a : Place) → slice_get l.lives.places.items w ≡ Some a → slice_index_or (accepts_of l.lives.places.items) w false ≡ a.life.accepted → IsFirstLife l.lives.shared w fuel o a → LoadsLife host w fuel o
  unfolding accepts seens
  loads_life w fuel None a at is f = ap (λ (c : Lives). slice_index_or (accepts_of c.places.items) w false) lives_is ∙ is ∙ f
  loads_life w fuel (Some c) a at is f = (
    ap (λ (c : Lives). slice_index_or (accepts_of c.places.items) w false) lives_is ∙ is ∙ f.accepted,
    λ s there. seen_begins spec l loads w fuel c a at f s (ap (λ (k : Lives). slice_get (seens_of k) w) (sym lives_is) ∙ there),
  )

  pub host_loads : Loads spec host
  unfolding accepts chains channels ends fuels given homes journal libraries marked names scripts seens spots told IsLaid
  host_loads = record {
    housed = is_housed;
    unmarked = is_unmarked;
    twenty = ap (λ (c : Lives). length (seens_of c)) lives_is ∙ seens_long l.lives.shared 0 l.lives.places.items ∙ loads.twenty;
    chains = are;
    homes = λ v w at. homes_are spec l loads v w (ap (λ (c : Lives). slice_get (homes_of c.places.items) v) (sym lives_is) ∙ at);
    slots = λ w s at. let r = slot_loads spec l loads w s at in loads_life w s.fuel (content_of spec.libs.items s.content) r.0 r.1 r.2 r.3;
    none_else = λ v le. ap (λ (c : Lives). slice_index_or (accepts_of c.places.items) v false) lives_is ∙ (free_here spec l loads v le).0;
    scripts = λ w s at. let r = slot_loads spec l loads w s at in
        subst (HasScripts spec.libs.items s.content) (sym (ap (λ (c : Lives). scripts_by w (codes_of c.places.items)) lives_is ∙ scripts_at l.lives.places.items w r.0 r.1)) (loads.scripts w s r.0 at r.1);
    channels = ap (λ c. c.items) pairs ∙ loads.channels;
    libraries = ap (λ c. map tree_in c.items) libs_are ∙ loads.libs;
    apart = distinct_here;
    names = ap (λ s. map (λ (x : Slot). x.name) s.items) slots_are ∙ loads.names;
    fuels = ap (λ s. map (λ (x : Slot). x.fuel) s.items) slots_are ∙ loads.fuels;
    told = λ v n at. untold spec l loads v n (ap (λ (c : Lives). slice_get (told_of c.places.items) v) (sym lives_is) ∙ at);
    given = none_given;
    unspent = subst (λ (c : Lives). Unspent 0 (seens_of c)) (sym lives_is) (unspent_here spec l loads);
    ends = fresh;
    journal = ap (λ (c : Lives). c.journal.items) lives_is ∙ loads.journal;
    laid = (
      sym (ap (λ s. map (λ (x : Slot). x.name) s.items) slots_are ∙ loads.names),
      subst (λ n. HavePlaces n (map piece_of spec.pieces.items)) (sym (length-map spec.slots.items (λ (s : SlotSpec). s.name))) loads.places,
      subst (λ (c : Lives). IsLaidBy c.shared.page (spots_of c host.slots.items) (map piece_of spec.pieces.items)) (sym lives_is)
          (subst (λ s. IsLaidBy l.lives.shared.page (spots_of l.lives s.items) (map piece_of spec.pieces.items)) (sym slots_are) loads.laid),
    );
  }
