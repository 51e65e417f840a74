-- What the lives of slots were given.
use Rattle.std.proofs.Common.{◌≡◌, ◌≢◌, ℕ, zero, suc, ◌+◌, ◌<◌, ◌++◌, Bool, true, false, List, [], ◌∷◌, map, length, refl, sym, ap, ◌∙◌, subst, arith, Option, Some, None, ne_eqb, eq-eqb, eqb-true}
use Rattle.std.specs.Prelude.{slice_get, slice_index_or, nat_eq, if◌then◌else◌, ◌&&◌, ◌||◌}
use Rattle.std.specs.List.{fold}
use Rattle.std.specs.Option.{option_map}
use Rattle.std.proofs.lemmas.List.{length-append, length-map}
use Rattle.std.proofs.lemmas.List.Sums.{fold-append}
use Rattle.std.proofs.lemmas.Option.{slice_get-map}
use Rattle.adsafe_rules.specs.declared.accepted.Accepted.{Accepted}
use Rattle.adsafe_rules.specs.Accepts.{tree_of}
use Rattle.life_laws.specs.Life.{Seen, due, image}
use Rattle.page_plan.specs.declared.PageSpec.{PageSpec}
use Rattle.page_plan.specs.declared.SlotContent.{SlotContent}
use Rattle.page_plan.specs.declared.SlotContent.TheVariants as slot
use Rattle.page_plan.specs.declared.SlotSpec.{SlotSpec}
use Rattle.page_plan.specs.Contents.{content_of, content_in}
use Rattle.life_laws.specs.Journal.{on_at}
use Rattle.life_laws.specs.Fed.{Fed, state}
use Rattle.life_laws.specs.RoundLaws.{fed_at}
use Rattle.life_laws.specs.Slots.{has}
use Rattle.life_laws.specs.Chains.{Chains, IsChain, joins, last_at, last_from, last_life, listed}
use Rattle.slot_picks.specs.Feeding as feeding
use Rattle.slot_picks.specs.Feeding.{IsLastFed, IsLastShown, is_last}
use Rattle.page_load.specs.Loads.{singles}
use Rattle.slot_picks.specs.declared.lives.Place.{Place}
use Rattle.slot_picks.specs.Places.{homes_of, seen_at, seens_from}
use Rattle.native_image.specs.declared.handed.Shared.{Shared}
use Rattle.widget_meaning.specs.Alone.{Content, loaded}
use Rattle.widget_meaning.specs.Items.{Item, item}
use Rattle.widget_host.specs.declared.host.Host.{Host}
use Rattle.widget_host.specs.declared.items.HostItem.{HostItem}
use Rattle.widget_host.specs.declared.items.HostItem.TheVariants as host
use Rattle.widget_host.specs.Given.{AreEnded, AreRetired, IsEnded, begins, begun, gives_to, with_item, with_items, with_swap}
use Rattle.widget_host.specs.Housed.{AreShown, GivesItem, GivesSwap, IsApart, IsHoused, IsItem, IsShown, IsWhole, KeepsHost, Loads, LoadsLife, accepts, chains, dues_after, ends, fuels, is_for, item_of, libraries, marked, newborn, reaches, seens, swaps, told}
use Rattle.widget_host.specs.Rounds.{AreFed}
use Rattle.widget_host.proofs.Lasts.{last_each, some_is}
use Rattle.widget_host.proofs.Sets.{get_else, get_here}
use Rattle.widget_host.proofs.Shown.{life_accepted}

no_true : false ≡ true → ⊥
no_true e = cc

both_no : (a b : Bool) → (a || b) ≡ false → (a ≡ false) × (b ≡ false)
both_no true b e = cc
both_no false b e = (refl, e)

both_off : (a b : Bool) → a ≡ false → b ≡ false → (a || b) ≡ false
both_off a b e f = ap (λ c. c || b) e ∙ f

-- each slot with its last life alone
abbrev pub lasts_of : List (List ℕ) → List (List ℕ)
lasts_of cs = map (λ c. last_life c ∷ []) cs

-- ## A life by its number

seen_there : (h : Shared) (v k : ℕ) (ls : List Place) (l : Place) → slice_get ls k ≡ Some l → (s : Seen) × (slice_get (seens_from h v ls) k ≡ Some s)
seen_there h v k [] l at = absurd (cc)
seen_there h v zero (x ∷ ls) l at = (seen_at h v x, refl)
seen_there h v (suc k) (x ∷ ls) l at = seen_there h (v + 1) k ls l at

-- something is seen of an accepted life
pub seen_accepts : (h : Host) (v : ℕ) → accepts h v ≡ true → (s : Seen) × (slice_get (seens h) v ≡ Some s)
unfolding accepts seens
seen_accepts h v is = let l = life_accepted h.lives.places.items v is in seen_there h.lives.shared 0 v h.lives.places.items l.0 l.1

-- and it is known how many of its posts were taken
told_accepts : (h : Host) (v : ℕ) → accepts h v ≡ true → (n : ℕ) × (slice_get (told h) v ≡ Some n)
unfolding accepts told
told_accepts h v is =
    let l = life_accepted h.lives.places.items v is in
    (l.0.told, slice_get-map (λ (p : Place). p.told) h.lives.places.items v ∙ ap (option_map (λ (p : Place). p.told)) l.1)

-- a life that shows what it was given
life_shown : (h : Host) (v : ℕ) (f : Option Fed) → IsLastShown (accepts h) (seens h) v f → IsShown h v (option_map state f)
life_shown h v None is = is
life_shown h v (Some f) is = let s = seen_accepts h v is.0 in (is.0, (s.0, s.1, is.1 s.0 s.1))

-- so do the last ones, where no swap waits
pub lasts_shown : (h : Host) (cs : List (List ℕ)) (fs : List (Option Fed)) → feeding.AreShown (accepts h) (seens h) cs fs → AreShown h (lasts_of cs) (map (option_map state) fs)
lasts_shown h [] [] is = tt
lasts_shown h [] (f ∷ fs) is = absurd is
lasts_shown h (c ∷ cs) [] is = absurd is
lasts_shown h (c ∷ cs) (f ∷ fs) is = (life_shown h (last_life c) f is.0, lasts_shown h cs fs is.1)

-- ## What a life comes to

-- with items more
state_more : (items : List Item) (f : Fed) → state (with_items items f) ≡ fold item (state f) items
state_more items f = fold-append item (loaded f.content f.grant) f.items items

-- with one more, or none
state_given : (b c : Bool) (i : Item) (s : Seen) (f : Fed) → c ≡ b → due s ≡ state f → (if c then item (due s) i else due s) ≡ state (with_items (if b then i ∷ [] else []) f)
state_given true c i s f e comes = ap (λ x. if x then item (due s) i else due s) e ∙ ap (λ o. item o i) comes ∙ sym (state_more (i ∷ []) f)
state_given false c i s f e comes = ap (λ x. if x then item (due s) i else due s) e ∙ comes ∙ sym (state_more [] f)

-- a life that has only to load
life_begins : (h : Host) (v fuel : ℕ) (o : Option Content) → LoadsLife h v fuel o → ((n : ℕ) → slice_get (told h) v ≡ Some n → n ≡ 0) → IsLastFed (accepts h) (seens h) (told h) v (begins fuel o)
life_begins h v fuel None loads zero_told = loads
life_begins h v fuel (Some c) loads zero_told =
    let t = told_accepts h v loads.0 in
    record { accepted = loads.0; comes = λ s at. (loads.1 s at).1; taken = t.1 ∙ ap Some (zero_told t.0 t.1) }

-- ## A page that is loaded

module _ (spec : PageSpec) (h : Host) (loads : Loads spec h) where
  firsts_fed : (k : ℕ) (slots : List SlotSpec) → ((j w : ℕ) (s : SlotSpec) → w ≡ k + j → slice_get slots j ≡ Some s → slice_get spec.slots.items w ≡ Some s)
      → feeding.AreFed (accepts h) (seens h) (told h) (singles k (length slots)) (begun spec.libs.items slots)
  firsts_fed k [] here = tt
  firsts_fed k (s ∷ slots) here = (
    life_begins h k s.fuel (content_of spec.libs.items s.content) (loads.slots k s (here 0 k s (omega arith) refl)) (loads.told k),
    firsts_fed (k + 1) slots (λ j w t e at. here (suc j) w t (omega (arith, e)) at),
  )

  pub loads_fed : AreFed h (begun spec.libs.items spec.slots.items)
  loads_fed = subst (λ cs. feeding.AreFed (accepts h) (seens h) (told h) cs (begun spec.libs.items spec.slots.items)) (sym loads.chains)
      (firsts_fed 0 spec.slots.items (λ j w s e at. (let same : j ≡ w = omega (arith, e) in subst (λ n. slice_get spec.slots.items n ≡ Some s) same at)))

  pub loads_ended : AreEnded h (ends h) []
  loads_ended = subst (λ vs. AreEnded h vs []) (sym loads.ends) tt

-- ## The last life of a slot

chain_at : (homes : List ℕ) (born k w : ℕ) (cs : List (List ℕ)) (c : List ℕ) → Chains homes born k cs → slice_get cs w ≡ Some c → IsChain homes born (k + w) c
chain_at homes born k w [] c h at = absurd (cc)
chain_at homes born k zero (d ∷ cs) c h at = let e : k ≡ k + 0 = omega arith in subst (λ n. IsChain homes born n c) e (subst (IsChain homes born k) (some_is d c at) h.0)
chain_at homes born k (suc w) (d ∷ cs) c h at = let e : (k + 1) + w ≡ k + suc w = omega arith in subst (λ n. IsChain homes born n c) e (chain_at homes born (k + 1) w cs c h.1 at)

chain_of : (homes : List ℕ) (born w : ℕ) (cs : List (List ℕ)) (c : List ℕ) → Chains homes born 0 cs → slice_get cs w ≡ Some c → IsChain homes born w c
chain_of homes born w cs c h at = let e : 0 + w ≡ w = omega arith in subst (λ n. IsChain homes born n c) e (chain_at homes born 0 w cs c h at)

-- it is of its slot, and born
last_home : (homes : List ℕ) (born w : ℕ) (c : List ℕ) → IsChain homes born w c → slice_get homes (last_life c) ≡ Some w
last_home homes born w c h = last_each (λ v. slice_get homes v ≡ Some w) c h.some h.home

last_born : (homes : List ℕ) (born w : ℕ) (c : List ℕ) → IsChain homes born w c → last_life c < born
last_born homes born w c h = last_each (λ v. v < born) c h.some h.below

last_at_is : (w : ℕ) (cs : List (List ℕ)) (c : List ℕ) → slice_get cs w ≡ Some c → last_at w cs ≡ last_life c
last_at_is w [] c at = absurd (cc)
last_at_is zero (d ∷ cs) c at = ap last_life (some_is d c at)
last_at_is (suc w) (d ∷ cs) c at = last_at_is w cs c at

there : (w : ℕ) (cs : List (List ℕ)) → w < length cs → (c : List ℕ) × (slice_get cs w ≡ Some c)
there w [] lt = absurd (omega (arith, lt))
there zero (c ∷ cs) lt = (c, refl)
there (suc w) (c ∷ cs) lt = there w cs (omega (arith, lt))

last_at_there : (homes : List ℕ) (born to : ℕ) (cs : List (List ℕ)) → Chains homes born 0 cs → to < length cs → (slice_get homes (last_at to cs) ≡ Some to) × (last_at to cs < born)
last_at_there homes born to cs h lt =
    let c = there to cs lt in
    let chain : IsChain homes born to c.0 = chain_of homes born to cs c.0 h c.1 in
    subst (λ v. (slice_get homes v ≡ Some to) × (v < born)) (sym (last_at_is to cs c.0 c.1)) (last_home homes born to c.0 chain, last_born homes born to c.0 chain)

-- an event is for the last life of its slot alone
for_slot : (homes : List ℕ) (born to w : ℕ) (cs : List (List ℕ)) (c : List ℕ) → Chains homes born 0 cs → to < length cs → slice_get cs w ≡ Some c → nat_eq (last_at to cs) (last_life c) ≡ nat_eq to w
for_slot homes born to w cs c h lt at = by (nat_eq to w) refl
  where
    by : (b : Bool) → nat_eq to w ≡ b → nat_eq (last_at to cs) (last_life c) ≡ b
    by true e =
        let same : to ≡ w = eqb-true to w e in
        eq-eqb (last_at to cs) (last_life c) (ap (λ n. last_at n cs) same ∙ last_at_is w cs c at)
    by false e = ne_eqb (last_at to cs) (last_life c) other
      where
        other : last_at to cs ≢ last_life c
        other f =
            let chain : IsChain homes born w c = chain_of homes born w cs c h at in
            let homes_same : to ≡ w = some_is to w (sym (last_at_there homes born to cs h lt).0 ∙ ap (slice_get homes) f ∙ last_home homes born w c chain) in
            no_true (sym e ∙ eq-eqb to w homes_same)

-- an advance for that of each slot
any_last : (w : ℕ) (cs : List (List ℕ)) (c : List ℕ) → slice_get cs w ≡ Some c → is_last (last_life c) cs ≡ true
any_last w [] c at = absurd (cc)
any_last zero (d ∷ cs) c at = ap (λ b. b || is_last (last_life c) cs) (eq-eqb (last_life d) (last_life c) (ap last_life (some_is d c at)))
any_last (suc w) (d ∷ cs) c at = or_true (nat_eq (last_life d) (last_life c)) (is_last (last_life c) cs) (any_last w cs c at)
  where
    or_true : (a b : Bool) → b ≡ true → (a || b) ≡ true
    or_true true b e = refl
    or_true false b e = e

-- neither is for a life that is the last one of no slot
out_at : (to v : ℕ) (cs : List (List ℕ)) → to < length cs → is_last v cs ≡ false → nat_eq (last_at to cs) v ≡ false
out_at to v [] lt out = absurd (omega (arith, lt))
out_at zero v (c ∷ cs) lt out = (both_no (nat_eq (last_life c) v) (is_last v cs) out).0
out_at (suc to) v (c ∷ cs) lt out = out_at to v cs (omega (arith, lt)) (both_no (nat_eq (last_life c) v) (is_last v cs) out).1

out_for : (i : HostItem) (v : ℕ) (cs : List (List ℕ)) → IsItem i (length cs) → is_last v cs ≡ false → is_for cs i v ≡ false
out_for (host.Event to e) v cs shape out = out_at to v cs shape out
out_for (host.Advance ms) v cs shape out = out

-- ## An item

dues_at : (h : Host) (i : HostItem) (k v w : ℕ) (ss ts : List Seen) (t : Seen) → w ≡ k + v → map due ts ≡ dues_after h i k (map due ss) → slice_get ts v ≡ Some t
    → (s : Seen) × (slice_get ss v ≡ Some s) × (due t ≡ (if reaches h i w then item (due s) (item_of i) else due s))
dues_at h i k v w ss [] t is e at = absurd (cc)
dues_at h i k v w [] (u ∷ ts) t is e at = absurd (cc)
dues_at h i k zero w (s ∷ ss) (u ∷ ts) t is e at =
    let same : k ≡ w = omega (arith, is) in (
      s,
      refl,
      ap due (sym (some_is u t at)) ∙ head (due u) (if reaches h i k then item (due s) (item_of i) else due s) (map due ts) (dues_after h i (k + 1) (map due ss)) e
          ∙ ap (λ n. if reaches h i n then item (due s) (item_of i) else due s) same,
    )
  where
    head : {A : Type 0} (x y : A) (xs ys : List A) → x ∷ xs ≡ y ∷ ys → x ≡ y
    head x y xs ys f = cc
dues_at h i k (suc v) w (s ∷ ss) (u ∷ ts) t is e at = dues_at h i (k + 1) v w ss ts t (omega (arith, is)) (tail (due u) (if reaches h i k then item (due s) (item_of i) else due s) (map due ts) (dues_after h i (k + 1) (map due ss)) e) at
  where
    tail : {A : Type 0} (x y : A) (xs ys : List A) → x ∷ xs ≡ y ∷ ys → xs ≡ ys
    tail x y xs ys f = cc

module _ (i : HostItem) (old new : Host) (whole : IsWhole old) (shape : IsItem i (length (chains old))) (gives : GivesItem i old new) where
  chains_old : Chains (homes_of old.lives.places.items) (newborn old) 0 (chains old)
  unfolding chains
  chains_old = whole.slots.chains

  due_now : (v : ℕ) (t : Seen) → slice_get (seens new) v ≡ Some t → (s : Seen) × (slice_get (seens old) v ≡ Some s) × (due t ≡ (if reaches old i v then item (due s) (item_of i) else due s))
  due_now v t at = dues_at old i 0 v v (seens old) (seens new) t (omega arith) gives.dues at

  -- the last life of a slot has what the item gives to it
  life_gives : (j : HostItem) → j ≡ i → (w : ℕ) (c : List ℕ) (f : Fed) (s : Seen) → slice_get (chains old) w ≡ Some c → accepts old (last_life c) ≡ true → due s ≡ state f
      → (if reaches old i (last_life c) then item (due s) (item_of i) else due s) ≡ state (with_items (gives_to i w) f)
  life_gives (host.Event to e) is w c f s at accepted comes =
      subst (λ (k : HostItem). (if reaches old k (last_life c) then item (due s) (item_of k) else due s) ≡ state (with_items (gives_to k w) f)) is
      (state_given (nat_eq to w) (reaches old (host.Event to e) (last_life c)) (item_of (host.Event to e)) s f
      (ap (λ b. b && nat_eq (last_at to (chains old)) (last_life c)) accepted
      ∙ for_slot (homes_of old.lives.places.items) (newborn old) to w (chains old) c chains_old (subst (λ (k : HostItem). IsItem k (length (chains old))) (sym is) shape) at) comes)
  life_gives (host.Advance ms) is w c f s at accepted comes =
      subst (λ (k : HostItem). (if reaches old k (last_life c) then item (due s) (item_of k) else due s) ≡ state (with_items (gives_to k w) f)) is
      (state_given true (reaches old (host.Advance ms) (last_life c)) (item_of (host.Advance ms)) s f
      (ap (λ b. b && is_last (last_life c) (chains old)) accepted ∙ any_last w (chains old) c at) comes)

  life_given : (w : ℕ) (c : List ℕ) (f : Option Fed) → slice_get (chains old) w ≡ Some c → IsLastFed (accepts old) (seens old) (told old) (last_life c) f
      → IsLastFed (accepts new) (seens new) (told new) (last_life c) (option_map (with_items (gives_to i w)) f)
  life_given w c None at fed = gives.stays.accepts (last_life c) ∙ fed
  life_given w c (Some f) at fed = record {
    accepted = gives.stays.accepts (last_life c) ∙ fed.accepted;
    comes = λ t here. let s = due_now (last_life c) t here in s.2 ∙ life_gives i refl w c f s.0 at fed.accepted (fed.comes s.0 s.1);
    taken = ap (λ ns. slice_get ns (last_life c)) gives.told ∙ fed.taken;
  }

  lives_given : (k : ℕ) (cs : List (List ℕ)) (fs : List (Option Fed)) → ((j w : ℕ) (c : List ℕ) → w ≡ k + j → slice_get cs j ≡ Some c → slice_get (chains old) w ≡ Some c)
      → feeding.AreFed (accepts old) (seens old) (told old) cs fs → feeding.AreFed (accepts new) (seens new) (told new) cs (with_item i k fs)
  lives_given k [] [] here fed = tt
  lives_given k [] (f ∷ fs) here fed = absurd fed
  lives_given k (c ∷ cs) [] here fed = absurd fed
  lives_given k (c ∷ cs) (f ∷ fs) here fed = (
    life_given k c f (here 0 k c (omega arith) refl) fed.0,
    lives_given (k + 1) cs fs (λ j w d e at. here (suc j) w d (omega (arith, e)) at) fed.1,
  )

  item_fed : (fs : List (Option Fed)) → AreFed old fs → AreFed new (with_item i 0 fs)
  item_fed fs fed = subst (λ cs. feeding.AreFed (accepts new) (seens new) (told new) cs (with_item i 0 fs)) (sym gives.chains)
      (lives_given 0 (chains old) fs (λ j w c e at. (let same : j ≡ w = omega (arith, e) in subst (λ n. slice_get (chains old) n ≡ Some c) same at)) fed)

  -- one that a swap ends has nothing more
  none_reaches : (v : ℕ) → is_last v (chains old) ≡ false → reaches old i v ≡ false
  none_reaches v out = by (accepts old v) (is_for (chains old) i v) (out_for i v (chains old) shape out)
    where
      by : (a b : Bool) → b ≡ false → (a && b) ≡ false
      by true b e = e
      by false b e = refl

  still_fed : (v : ℕ) (f : Option Fed) → is_last v (chains old) ≡ false → IsLastFed (accepts old) (seens old) (told old) v f → IsLastFed (accepts new) (seens new) (told new) v f
  still_fed v None out fed = gives.stays.accepts v ∙ fed
  still_fed v (Some f) out fed = record {
    accepted = gives.stays.accepts v ∙ fed.accepted;
    comes = λ t here. let s = due_now v t here in s.2 ∙ ap (λ b. if b then item (due s.0) (item_of i) else due s.0) (none_reaches v out) ∙ fed.comes s.0 s.1;
    taken = ap (λ ns. slice_get ns v) gives.told ∙ fed.taken;
  }

  item_ended_each : (vs : List ℕ) (fs : List (Option Fed)) → AreEnded old vs fs → AreEnded new vs fs
  item_ended_each [] [] all = tt
  item_ended_each [] (f ∷ fs) all = absurd all
  item_ended_each (v ∷ vs) [] all = absurd all
  item_ended_each (v ∷ vs) (f ∷ fs) all = (
    record {
      born = let same : swaps new ≡ swaps old = ap length gives.stays.ends in omega (arith, all.0.born, same);
      out = ap (is_last v) gives.chains ∙ all.0.out;
      fed = still_fed v f all.0.out all.0.fed;
    },
    item_ended_each vs fs all.1,
  )

  item_ended : (fs : List (Option Fed)) → AreEnded old (ends old) fs → AreEnded new (ends new) fs
  item_ended fs all = subst (λ vs. AreEnded new vs fs) (sym gives.stays.ends) (item_ended_each (ends old) fs all)

-- ## A swap

-- the last life of a slot that one joins
last_joins : (v : ℕ) (c : List ℕ) → last_life (joins v c) ≡ v
last_joins v [] = refl
last_joins v (x ∷ c) = from x c
  where
    from : (y : ℕ) (ys : List ℕ) → last_from y (ys ++ v ∷ []) ≡ v
    from y [] = refl
    from y (z ∷ ys) = from z ys

-- those of slots that begin later are of no slot before
out_after : (homes : List ℕ) (born k v m : ℕ) (cs : List (List ℕ)) → Chains homes born k cs → slice_get homes v ≡ Some m → m < k → is_last v cs ≡ false
out_after homes born k v m [] h at lt = refl
out_after homes born k v m (c ∷ cs) h at lt = both_off (nat_eq (last_life c) v) (is_last v cs) (ne_eqb (last_life c) v other) (out_after homes born (k + 1) v m cs h.1 at (omega (arith, lt)))
  where
    other : last_life c ≢ v
    other e = let same : k ≡ m = some_is k m (sym (last_home homes born k c h.0) ∙ ap (slice_get homes) e ∙ at) in absurd (omega (arith, lt, same))

-- a life of a slot that another joins is the last one of none
out_joined : (homes : List ℕ) (born k j v n m : ℕ) (cs : List (List ℕ)) → Chains homes born k cs → slice_get homes v ≡ Some m → m ≡ k + j → v ≢ n → is_last v (on_at j (joins n) cs) ≡ false
out_joined homes born k j v n m [] h at is ne = refl
out_joined homes born k zero v n m (c ∷ cs) h at is ne =
    both_off (nat_eq (last_life (joins n c)) v) (is_last v cs) (ne_eqb (last_life (joins n c)) v (λ e. ne (sym e ∙ last_joins n c))) (out_after homes born (k + 1) v m cs h.1 at (omega (arith, is)))
out_joined homes born k (suc j) v n m (c ∷ cs) h at is ne =
    both_off (nat_eq (last_life c) v) (is_last v (on_at j (joins n) cs)) (ne_eqb (last_life c) v other) (out_joined homes born (k + 1) j v n m cs h.1 at (omega (arith, is)) ne)
  where
    other : last_life c ≢ v
    other e = let same : k ≡ m = some_is k m (sym (last_home homes born k c h.0) ∙ ap (slice_get homes) e ∙ at) in absurd (omega (arith, is, same))

-- and so is one that was it before
out_still : (j v n : ℕ) (cs : List (List ℕ)) → v ≢ n → is_last v cs ≡ false → is_last v (on_at j (joins n) cs) ≡ false
out_still j v n [] ne out = refl
out_still zero v n (c ∷ cs) ne out =
    both_off (nat_eq (last_life (joins n c)) v) (is_last v cs) (ne_eqb (last_life (joins n c)) v (λ e. ne (sym e ∙ last_joins n c))) (both_no (nat_eq (last_life c) v) (is_last v cs) out).1
out_still (suc j) v n (c ∷ cs) ne out =
    let both = both_no (nat_eq (last_life c) v) (is_last v cs) out in
    both_off (nat_eq (last_life c) v) (is_last v (on_at j (joins n) cs)) both.0 (out_still j v n cs ne both.1)

-- what the last life of the slot with a number was given
fed_of_slot : (h : Host) (w : ℕ) (cs : List (List ℕ)) (fs : List (Option Fed)) → w < length cs → feeding.AreFed (accepts h) (seens h) (told h) cs fs → IsLastFed (accepts h) (seens h) (told h) (last_at w cs) (fed_at fs w)
fed_of_slot h w [] fs lt fed = absurd (omega (arith, lt))
fed_of_slot h w (c ∷ cs) [] lt fed = absurd fed
fed_of_slot h zero (c ∷ cs) (f ∷ fs) lt fed = fed.0
fed_of_slot h (suc w) (c ∷ cs) (f ∷ fs) lt fed = fed_of_slot h w cs fs (omega (arith, lt)) fed.1

module _ (to : ℕ) (content : SlotContent) (old new : Host) (apart : IsApart old) (whole : IsWhole old) (lt : to < length (chains old)) (few : swaps old < 4) (gives : GivesSwap to content old new) where
  abbrev n : ℕ
  n = newborn old

  chains_here : Chains (homes_of old.lives.places.items) n 0 (chains old)
  unfolding chains
  chains_here = whole.slots.chains

  told_long : length (told old) ≡ 20
  unfolding told
  told_long = length-map old.lives.places.items (λ (p : Place). p.told) ∙ apart.twenty

  one_more : newborn new ≡ n + 1
  one_more = let e : swaps new ≡ swaps old + 1 = ap length gives.life.ends ∙ length-append (ends old) (last_at to (chains old) ∷ []) in omega (arith, e)

  -- a life that was born has what it had
  other_fed : (v : ℕ) (f : Option Fed) → v < n → IsLastFed (accepts old) (seens old) (told old) v f → IsLastFed (accepts new) (seens new) (told new) v f
  other_fed v None born fed = gives.stays.accepts v (λ e. absurd (omega (arith, born, e))) ∙ fed
  other_fed v (Some f) born fed =
      let ne : v ≢ n = λ e. absurd (omega (arith, born, e)) in
      record {
        accepted = gives.stays.accepts v ne ∙ fed.accepted;
        comes = λ s at. fed.comes s (sym (gives.stays.seens v ne) ∙ at);
        taken = ap (λ ns. slice_get ns v) gives.life.told ∙ get_else (told old) n v 0 ne ∙ fed.taken;
      }

  -- the new one has nothing yet
  none_told : (m : ℕ) → slice_get (told new) n ≡ Some m → m ≡ 0
  none_told m at = some_is m 0 (sym at ∙ ap (λ ns. slice_get ns n) gives.life.told ∙ get_here (told old) n 0 (omega (arith, few, told_long)))

  abbrev life : Option Fed
  life = begins (slice_index_or (fuels old) to 0) (content_in (libraries old) content)

  new_fed : IsLastFed (accepts new) (seens new) (told new) n life
  new_fed = life_begins new n (slice_index_or (fuels old) to 0) (content_in (libraries old) content) gives.life.life none_told

  past_swap : (k : ℕ) (cs : List (List ℕ)) (fs : List (Option Fed)) → to < k → Chains (homes_of old.lives.places.items) n k cs → feeding.AreFed (accepts old) (seens old) (told old) cs fs
      → feeding.AreFed (accepts new) (seens new) (told new) cs (with_swap to life k fs)
  past_swap k [] [] past h fed = tt
  past_swap k [] (f ∷ fs) past h fed = absurd fed
  past_swap k (c ∷ cs) [] past h fed = absurd fed
  past_swap k (c ∷ cs) (f ∷ fs) past h fed = (
    subst (λ b. IsLastFed (accepts new) (seens new) (told new) (last_life c) (if b then life else f)) (sym (ne_eqb to k (λ e. absurd (omega (arith, past, e))))) (other_fed (last_life c) f (last_born (homes_of old.lives.places.items) n k c h.0) fed.0),
    past_swap (k + 1) cs fs (omega (arith, past)) h.1 fed.1,
  )

  swap_each : (k j : ℕ) (cs : List (List ℕ)) (fs : List (Option Fed)) → to ≡ k + j → Chains (homes_of old.lives.places.items) n k cs → feeding.AreFed (accepts old) (seens old) (told old) cs fs
      → feeding.AreFed (accepts new) (seens new) (told new) (on_at j (joins n) cs) (with_swap to life k fs)
  swap_each k j [] [] is h fed = tt
  swap_each k j [] (f ∷ fs) is h fed = absurd fed
  swap_each k j (c ∷ cs) [] is h fed = absurd fed
  swap_each k zero (c ∷ cs) (f ∷ fs) is h fed = (
    subst (λ b. IsLastFed (accepts new) (seens new) (told new) (last_life (joins n c)) (if b then life else f)) (sym (eq-eqb to k (omega (arith, is))))
        (subst (λ v. IsLastFed (accepts new) (seens new) (told new) v life) (sym (last_joins n c)) new_fed),
    past_swap (k + 1) cs fs (omega (arith, is)) h.1 fed.1,
  )
  swap_each k (suc j) (c ∷ cs) (f ∷ fs) is h fed = (
    subst (λ b. IsLastFed (accepts new) (seens new) (told new) (last_life c) (if b then life else f)) (sym (ne_eqb to k (λ e. absurd (omega (arith, is, e))))) (other_fed (last_life c) f (last_born (homes_of old.lives.places.items) n k c h.0) fed.0),
    swap_each (k + 1) j cs fs (omega (arith, is)) h.1 fed.1,
  )

  swap_fed : (libs : List Accepted) (fs : List (Option Fed)) → libraries old ≡ map tree_of libs → AreFed old fs → AreFed new (with_swap to (begins (slice_index_or (fuels old) to 0) (content_of libs content)) 0 fs)
  swap_fed libs fs are fed =
      subst (λ o. AreFed new (with_swap to (begins (slice_index_or (fuels old) to 0) o) 0 fs)) (ap (λ ts. content_in ts content) are)
      (subst (λ cs. feeding.AreFed (accepts new) (seens new) (told new) cs (with_swap to life 0 fs)) (sym gives.life.chains)
      (swap_each 0 to (chains old) fs (omega arith) chains_here fed))

  -- ## The lives that swaps end

  still_ended : (v : ℕ) (f : Option Fed) → IsEnded old v f → IsEnded new v f
  still_ended v f is = record {
    born = let e = one_more in omega (arith, e, is.born);
    out = ap (is_last v) gives.life.chains ∙ out_still to v n (chains old) (λ e. absurd (omega (arith, is.born, e))) is.out;
    fed = other_fed v f is.born is.fed;
  }

  now_ended : (fs : List (Option Fed)) → AreFed old fs → IsEnded new (last_at to (chains old)) (fed_at fs to)
  now_ended fs fed =
      let v = last_at to (chains old) in
      let here = last_at_there (homes_of old.lives.places.items) n to (chains old) chains_here lt in
      record {
        born = let e = one_more in omega (arith, e, here.1);
        out = ap (is_last v) gives.life.chains ∙ out_joined (homes_of old.lives.places.items) n 0 to v n to (chains old) chains_here here.0 (omega arith) (λ e. absurd (omega (arith, here.1, e)));
        fed = other_fed v (fed_at fs to) here.1 (fed_of_slot old to (chains old) fs lt fed);
      }

  ended_more : (fs : List (Option Fed)) → AreFed old fs → (vs : List ℕ) (es : List (Option Fed)) → AreEnded old vs es → AreEnded new (vs ++ last_at to (chains old) ∷ []) (es ++ fed_at fs to ∷ [])
  ended_more fs fed [] [] all = (now_ended fs fed, tt)
  ended_more fs fed [] (e ∷ es) all = absurd all
  ended_more fs fed (v ∷ vs) [] all = absurd all
  ended_more fs fed (v ∷ vs) (e ∷ es) all = (still_ended v e all.0, ended_more fs fed vs es all.1)

  swap_ended : (fs es : List (Option Fed)) → AreFed old fs → AreEnded old (ends old) es → AreEnded new (ends new) (es ++ fed_at fs to ∷ [])
  swap_ended fs es fed all = subst (λ vs. AreEnded new vs (es ++ fed_at fs to ∷ [])) (sym gives.life.ends) (ended_more fs fed (ends old) es all)

-- ## The laws

pub items_last : (i : HostItem) (old new : Host) (fs : List (Option Fed)) → IsHoused old → marked old ≡ false → IsItem i (length (chains old)) → GivesItem i old new → AreFed old fs → AreFed new (with_item i 0 fs)
unfolding IsHoused
items_last i old new fs housed unmarked shape gives fed = item_fed i old new (housed.1 unmarked) shape gives fs fed

pub items_ended : (i : HostItem) (old new : Host) (es : List (Option Fed)) → IsHoused old → marked old ≡ false → IsItem i (length (chains old)) → GivesItem i old new → AreEnded old (ends old) es → AreEnded new (ends new) es
unfolding IsHoused
items_ended i old new es housed unmarked shape gives all = item_ended i old new (housed.1 unmarked) shape gives es all

pub swaps_last : (libs : List Accepted) (to : ℕ) (content : SlotContent) (old new : Host) (fs : List (Option Fed)) → IsHoused old → marked old ≡ false
    → to < length (chains old) → swaps old < 4 → libraries old ≡ map tree_of libs → GivesSwap to content old new
    → AreFed old fs → AreFed new (with_swap to (begins (slice_index_or (fuels old) to 0) (content_of libs content)) 0 fs)
unfolding IsHoused
swaps_last libs to content old new fs housed unmarked there few are gives fed = swap_fed to content old new housed.0 (housed.1 unmarked) there few gives libs fs are fed

pub swaps_ended : (to : ℕ) (content : SlotContent) (old new : Host) (fs es : List (Option Fed)) → IsHoused old → marked old ≡ false
    → to < length (chains old) → swaps old < 4 → GivesSwap to content old new
    → AreFed old fs → AreEnded old (ends old) es → AreEnded new (ends new) (es ++ fed_at fs to ∷ [])
unfolding IsHoused
swaps_ended to content old new fs es housed unmarked there few gives fed all = swap_ended to content old new housed.0 (housed.1 unmarked) there few gives fs es fed all

-- ## After rounds

-- a life that was the last one of no slot is in none
unlisted : (v : ℕ) (cs : List (List ℕ)) → is_last v cs ≡ false → listed v (lasts_of cs) ≡ false
unlisted v [] out = refl
unlisted v (c ∷ cs) out =
    let both = both_no (nat_eq (last_life c) v) (is_last v cs) out in
    ap (λ b. if (if b then true else false) then true else listed v (lasts_of cs)) both.0 ∙ unlisted v cs both.1

module _ (old new : Host) (stays : KeepsHost old new) (lasts : chains new ≡ lasts_of (chains old))
    (done : (v : ℕ) (s t : Seen) → is_last v (chains old) ≡ false → slice_get (seens old) v ≡ Some s → slice_get (seens new) v ≡ Some t → image t ≡ due s) where
  ended_shown : (v : ℕ) (f : Option Fed) → IsEnded old v f → IsShown new v (option_map state f)
  ended_shown v None is = stays.accepts v ∙ is.fed
  ended_shown v (Some f) is =
      let accepted : accepts new v ≡ true = stays.accepts v ∙ is.fed.accepted in
      let s = seen_accepts old v is.fed.accepted in
      let t = seen_accepts new v accepted in
      (accepted, (t.0, t.1, done v s.0 t.0 is.out s.1 t.1 ∙ is.fed.comes s.0 s.1))

  retired_each : (vs : List ℕ) (es : List (Option Fed)) → AreEnded old vs es → AreRetired new vs (map (option_map state) es)
  retired_each [] [] all = tt
  retired_each [] (e ∷ es) all = absurd all
  retired_each (v ∷ vs) [] all = absurd all
  retired_each (v ∷ vs) (e ∷ es) all = (
    record { out = ap (listed v) lasts ∙ unlisted v (chains old) all.0.out; shown = ended_shown v e all.0 },
    retired_each vs es all.1,
  )

  pub are_retired : (es : List (Option Fed)) → AreEnded old (ends old) es → AreRetired new (ends new) (map (option_map state) es)
  are_retired es all = subst (λ vs. AreRetired new vs (map (option_map state) es)) (sym stays.ends) (retired_each (ends old) es all)
