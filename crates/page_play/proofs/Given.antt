-- A page that was loaded, and is given items and swaps.
use Rattle.std.proofs.Common.{◌≡◌, ◌≢◌, ℕ, zero, suc, ◌+◌, ◌<◌, List, [], ◌∷◌, ◌++◌, map, length, take, Bool, true, false, Option, Some, None, refl, sym, ap, subst, ◌∙◌, arith, append-nil, ◌⊎◌, inl, inr}
use Rattle.std.specs.Prelude.{nat_eq, if◌then◌else◌, slice_get, slice_index_or}
use Rattle.std.specs.List.{filter}
use Rattle.std.proofs.lemmas.Bool.Decides.{eqb_tells}
use Rattle.std.proofs.lemmas.List.{length_push}
use Rattle.trace_reader.specs.Said.{Said, a_swap}
use Rattle.js_tree.specs.declared.tree.Tree.{Tree}
use Rattle.life_laws.specs.Life.{Seen, image}
use Rattle.life_laws.specs.Journal.{on_at}
use Rattle.life_laws.specs.Slots.{has}
use Rattle.life_laws.specs.Chains.{Chains, joins, last_at, last_life, listed}
use Rattle.widget_meaning.specs.OwnState.{OwnState}
use Rattle.widget_meaning.specs.Alone.{Content}
use Rattle.life_laws.specs.Fed.{Fed}
use Rattle.page_plan.specs.declared.PageSpec.{PageSpec}
use Rattle.page_plan.specs.declared.SlotContent.{SlotContent}
use Rattle.page_plan.specs.declared.SlotSpec.{SlotSpec}
use Rattle.page_plan.specs.Contents.{content_of, HasScriptsIn, content_in}
use Rattle.page_plan.specs.Pages.{piece_of}
use Rattle.slot_lives.specs.Lives as lives
use Rattle.slot_lives.specs.Lives.{Life, is_swap, swaps_in}
use Rattle.slot_lives.specs.LifeLaws.{new_life}
use Rattle.slot_lives.specs.LifeLaws as laws
use Rattle.slot_lives.proofs.LawsHold.{life_laws}
use Rattle.widget_host.specs.declared.host.Host.{Host}
use Rattle.widget_host.specs.declared.items.HostItem.{HostItem}
use Rattle.widget_host.specs.declared.items.HostItem.TheVariants as host
use Rattle.widget_host.specs.Given.{AreEnded, begins, begun, with_item, with_swap}
use Rattle.widget_host.specs.Housed.{GivesItem, GivesSwap, IsHoused, Loads, LoadsLife, accepts, chains, channels, ends, fuels, given, homes, journal, libraries, marked, names, newborn, scripts, seens, singles}
use Rattle.widget_host.specs.Rounds.{AreFed, is_last}
use Rattle.page_play.specs.Played.{name_of, fed_of, begun_in, ended_in, HasScriptsOf, HaveScriptsOf}
use Rattle.page_play.specs.Playing.{fuel_of, Plays}
use Rattle.page_play.specs.Settled.{said_of, an_item, another, GivesAll, no_item, one_item}
use Rattle.page_play.proofs.Begun.{begun_none, begun_item, begun_swap, ended_item, ended_swap, begun_at, index_there}
use Rattle.page_play.proofs.Chained.{singles_length, last_single, beyond_singles, singles_last, joined_length, last_joined, last_other, joined_listed, joined_last, others_listed, left_last, has_push, has_pushed, last_below}
use Rattle.page_play.proofs.Scripted.{scripts_new, scripts_same, scripts_stay, have_stay, have_push}

-- ## Items

-- how many swaps are among items, with one more
swaps_more : (items : List Said) (i : Said) → swaps_in (items ++ i ∷ []) ≡ swaps_in items + swaps_in (i ∷ [])
swaps_more [] i = omega arith
swaps_more (x ∷ items) i = by (is_swap x) (swaps_more items i) where
  by : (b : Bool) → swaps_in (items ++ i ∷ []) ≡ swaps_in items + swaps_in (i ∷ []) → length (if b then x ∷ filter is_swap (items ++ i ∷ []) else filter is_swap (items ++ i ∷ [])) ≡ length (if b then x ∷ filter is_swap items else filter is_swap items) + swaps_in (i ∷ [])
  by true e = omega (arith, e)
  by false e = omega (arith, e)

none_said : (i : HostItem) → swaps_in (said_of i ∷ []) ≡ 0
none_said (host.Event to e) = refl
none_said (host.Advance ms) = refl

pub item_swaps : (items : List Said) (i : HostItem) → swaps_in (items ++ said_of i ∷ []) ≡ swaps_in items
item_swaps items i = let e = swaps_more items (said_of i) in let n = none_said i in omega (arith, e, n)

pub swap_swaps : (items : List Said) (to : ℕ) (file : List ℕ) → swaps_in (items ++ a_swap to file ∷ []) ≡ swaps_in items + 1
swap_swaps items to file = swaps_more items (a_swap to file)

take_there : {A : Type 0} (xs : List A) (n : ℕ) (x : A) → slice_get xs n ≡ Some x → take n xs ++ x ∷ [] ≡ take (n + 1) xs
take_there [] n x at = cc
take_there (y ∷ xs) zero x at = let e : y ≡ x = cc in ap (λ z. z ∷ []) (sym e)
take_there (y ∷ xs) (suc n) x at = let e : suc n + 1 ≡ suc (n + 1) = omega arith in ap (λ ys. y ∷ ys) (take_there xs n x at) ∙ ap (λ k. take k (y ∷ xs)) (sym e)

take_none : {A : Type 0} (xs : List A) → take 0 xs ≡ []
take_none [] = refl
take_none (x ∷ xs) = refl

-- ## What is seen

heads : (a b : OwnState) (xs ys : List OwnState) → a ∷ xs ≡ b ∷ ys → a ≡ b
heads a b xs ys e = cc

tails : (a b : OwnState) (xs ys : List OwnState) → a ∷ xs ≡ b ∷ ys → xs ≡ ys
tails a b xs ys e = cc

image_at : (ss ts : List Seen) (v : ℕ) (s : Seen) → map image ss ≡ map image ts → slice_get ss v ≡ Some s → (t : Seen) × (slice_get ts v ≡ Some t) × (image t ≡ image s)
image_at [] ts v s e at = absurd (let f = at in cc)
image_at (x ∷ ss) [] v s e at = absurd (let f = e in cc)
image_at (x ∷ ss) (y ∷ ts) zero s e at = let same : x ≡ s = cc in (y, refl, sym (heads (image x) (image y) (map image ss) (map image ts) e) ∙ ap image same)
image_at (x ∷ ss) (y ∷ ts) (suc v) s e at = image_at ss ts v s (tails (image x) (image y) (map image ss) (map image ts) e) at

zero_more : (n : ℕ) → 0 + n ≡ n
zero_more n = omega arith

slot_within : {A : Type 0} (xs : List A) (n : ℕ) (x : A) → slice_get xs n ≡ Some x → n < length xs
slot_within [] n x at = absurd (let e = at in cc)
slot_within (y ∷ xs) zero x at = omega arith
slot_within (y ∷ xs) (suc n) x at = let r = slot_within xs n x at in omega (arith, r)

slot_there : {A : Type 0} (xs : List A) (n : ℕ) → n < length xs → (x : A) × (slice_get xs n ≡ Some x)
slot_there [] n within = absurd (omega (arith, within))
slot_there (y ∷ xs) zero within = (y, refl)
slot_there (y ∷ xs) (suc n) within = slot_there xs n (omega (arith, within))

-- ## The page was loaded

pub plays_loaded : (spec : PageSpec) (swaps : List SlotContent) (h : Host) → Loads spec h → AreFed h (begun spec.libs.items spec.slots.items) → AreEnded h (ends h) [] → Plays spec swaps [] h
plays_loaded spec swaps h l fed ended =
    let n = length spec.slots.items in
    record {
      housed = l.housed;
      unmarked = l.unmarked;
      slots = ap length l.chains ∙ singles_length 0 n;
      laid = l.laid;
      channels = l.channels;
      names = l.names;
      fuels = l.fuels;
      libraries = l.libraries;
      given = l.given;
      swapped = ap length l.ends;
      journal = l.journal;
      first = h;
      loads = l;
      gives = subst (λ (xs : List SlotContent). GivesAll h [] xs h) (sym (take_none swaps)) no_item;
      unspent = λ v s is at. l.unspent v s (omega arith) at;
      lasts = subst (AreFed h) (sym (begun_none spec swaps 0 spec.slots.items)) fed;
      ended = ended;
      none_else = λ v out. l.none_else v (beyond_singles v 0 n (subst (λ u. listed u (singles 0 n) ≡ false) (sym (zero_more v)) (subst (λ cs. listed v cs ≡ false) l.chains out)));
      leave = λ v on off. absurd (singles_last v 0 n (subst (λ cs. listed v cs ≡ true) l.chains on) (subst (λ cs. is_last v cs ≡ false) l.chains off));
      scripts = λ w s at.
          (let last : last_at w (chains h) ≡ w = ap (last_at w) l.chains ∙ last_single 0 n w (slot_within spec.slots.items w s at) ∙ zero_more w in
          subst (λ v. HasScriptsOf h v (fed_of spec.libs.items s.fuel (lives.last_life s.content swaps [] w))) (sym last)
          (scripts_new spec.libs.items s.fuel (lives.last_life s.content swaps [] w) h w (l.scripts w s at)));
      ended_scripts = subst (λ vs. HaveScriptsOf h vs []) (sym l.ends) tt;
      firsts = λ none. l.chains;
      own = λ none. l.homes;
    }

-- ## An item is given

pub plays_item : (spec : PageSpec) (swaps : List SlotContent) (items : List Said) (i : HostItem) (old new : Host) → GivesItem i old new → IsHoused new → marked new ≡ false
    → AreFed new (with_item i 0 (begun_in spec swaps items)) → AreEnded new (ends new) (ended_in spec swaps items) → Plays spec swaps items old → Plays spec swaps (items ++ said_of i ∷ []) new
plays_item spec swaps items i old new g housed unmarked fed ended p =
    let many = item_swaps items i in
    record {
      housed = housed;
      unmarked = unmarked;
      slots = ap length g.chains ∙ p.slots;
      laid = g.stays.laid (map name_of spec.slots.items) (map piece_of spec.pieces.items) p.laid;
      channels = g.stays.plan.channels ∙ p.channels;
      names = g.stays.plan.names ∙ p.names;
      fuels = g.stays.plan.fuels ∙ p.fuels;
      libraries = g.stays.plan.libraries ∙ p.libraries;
      given = g.given ∙ ap (λ n. n + 1) p.given ∙ sym (length_push items (said_of i));
      swapped = ap length g.stays.ends ∙ p.swapped ∙ sym many;
      journal = g.journal ∙ p.journal;
      first = p.first;
      loads = p.loads;
      gives = subst (λ (xs : List SlotContent). GivesAll p.first (items ++ said_of i ∷ []) xs new) (append-nil (take (swaps_in items) swaps) ∙ ap (λ n. take n swaps) (sym many)) (one_item p.gives (an_item g));
      unspent = λ v s is at. (let t = image_at (seens new) (seens old) v s g.images at in ap (λ (o : OwnState). o.spent) (sym t.2) ∙ p.unspent v t.0 (sym (g.stays.accepts v) ∙ is) t.1);
      lasts = subst (AreFed new) (sym (begun_item spec swaps i items 0 spec.slots.items)) fed;
      ended = subst (AreEnded new (ends new)) (sym (ended_item spec swaps i items)) ended;
      none_else = λ v out. g.stays.accepts v ∙ p.none_else v (subst (λ cs. listed v cs ≡ false) g.chains out);
      leave = λ v on off. ap (has v) g.stays.ends ∙ p.leave v (subst (λ cs. listed v cs ≡ true) g.chains on) (subst (λ cs. is_last v cs ≡ false) g.chains off);
      scripts = λ w s at.
          subst (λ cs. HasScriptsOf new (last_at w cs) (fed_of spec.libs.items s.fuel (lives.last_life s.content swaps (items ++ said_of i ∷ []) w))) (sym g.chains)
          (scripts_same spec.libs.items s.fuel (lives.last_life s.content swaps items w) (lives.last_life s.content swaps (items ++ said_of i ∷ []) w) old new (last_at w (chains old))
          (ap (λ (m : Life SlotContent). m.runs) (sym ((life_laws s.content swaps w).given items (said_of i) (no_swap i w)))) (g.stays.scripts (last_at w (chains old))) (p.scripts w s at));
      ended_scripts =
          subst (λ (fs : List (Option Fed)). HaveScriptsOf new (ends new) fs) (sym (ended_item spec swaps i items))
          (subst (λ vs. HaveScriptsOf new vs (ended_in spec swaps items)) (sym g.stays.ends) (have_stay old new (ends old) (ended_in spec swaps items) g.stays.scripts p.ended_scripts));
      firsts = λ none. g.chains ∙ p.firsts (sym many ∙ none);
      own = λ none v w at. p.own (sym many ∙ none) v w (ap (λ hs. slice_get hs v) (sym g.stays.homes) ∙ at);
    }
  where
    no_swap : (j : HostItem) (w : ℕ) → laws.swaps w (said_of j) ≡ false
    no_swap (host.Event to e) w = refl
    no_swap (host.Advance ms) w = refl

-- ## A swap is given

-- the fuel of a slot by its number
fuel_there : (ss : List SlotSpec) (w : ℕ) (s : SlotSpec) → slice_get ss w ≡ Some s → slice_index_or (map fuel_of ss) w 0 ≡ s.fuel
fuel_there [] w s at = cc
fuel_there (t ∷ ss) zero s at = let same : t ≡ s = cc in ap fuel_of same
fuel_there (t ∷ ss) (suc w) s at = fuel_there ss w s at

-- a life that was loaded has spent nothing
spent_new : (h : Host) (v fuel : ℕ) (o : Option Content) (s : Seen) → LoadsLife h v fuel o → accepts h v ≡ true → slice_get (seens h) v ≡ Some s → (image s).spent ≡ 0
spent_new h v fuel None s is on at = absurd (let e : true ≡ false = sym on ∙ is in cc)
spent_new h v fuel (Some c) s is on at = ap (λ (o : OwnState). o.spent) (is.1 s at).0

-- lives that were born have their scripts still
have_born : (old new : Host) (vs : List ℕ) (fs es : List (Option Fed)) → ((v : ℕ) → v ≢ newborn old → scripts new v ≡ scripts old v) → AreEnded old vs es → HaveScriptsOf old vs fs → HaveScriptsOf new vs fs
have_born old new [] [] es stay are have = tt
have_born old new [] (f ∷ fs) es stay are have = absurd have
have_born old new (v ∷ vs) [] es stay are have = absurd have
have_born old new (v ∷ vs) (f ∷ fs) [] stay are have = absurd are
have_born old new (v ∷ vs) (f ∷ fs) (e ∷ es) stay are have =
    let born = are.0.born in
    (scripts_stay old new v f (stay v (λ same. absurd (omega (arith, same, born)))) have.0, have_born old new vs fs es stay are.1 have.1)

module _ (spec : PageSpec) (swaps : List SlotContent) (items : List Said) (to : ℕ) (file : List ℕ) (content : SlotContent) (old new : Host)
    (g : GivesSwap to content old new) (p : Plays spec swaps items old) (within : to < length (chains old)) (born : Chains (homes old) (newborn old) 0 (chains old)) (there : slice_get swaps (swaps_in items) ≡ Some content) where
  -- it is of one of the slots of the page
  slot_of_swap : (s : SlotSpec) × (slice_get spec.slots.items to ≡ Some s)
  slot_of_swap = slot_there spec.slots.items to (omega (arith, within, p.slots))

  fuel_swapped : slice_index_or (fuels old) to 0 ≡ slot_of_swap.0.fuel
  fuel_swapped = ap (λ ns. slice_index_or ns to 0) p.fuels ∙ fuel_there spec.slots.items to slot_of_swap.0 slot_of_swap.1

  same_slot : (k : ℕ) (s : SlotSpec) → slice_get spec.slots.items k ≡ Some s → to ≡ 0 + k → slice_index_or (fuels old) to 0 ≡ s.fuel
  same_slot k s at e = ap (λ ns. slice_index_or ns to 0) p.fuels ∙ fuel_there spec.slots.items to s (ap (slice_get spec.slots.items) (let f : to ≡ k = omega (arith, e) in f) ∙ at)

  not_new : (w : ℕ) → w < length (chains old) → last_at w (chains old) ≢ newborn old
  not_new w less same = let b = last_below (homes old) (newborn old) 0 w (chains old) born less in absurd (omega (arith, b, same))

  swap_scripts : (w : ℕ) (s : SlotSpec) → slice_get spec.slots.items w ≡ Some s → ((nat_eq to w ≡ true) × (to ≡ w)) ⊎ ((nat_eq to w ≡ false) × (to ≢ w))
      → HasScriptsOf new (last_at w (chains new)) (fed_of spec.libs.items s.fuel (lives.last_life s.content swaps (items ++ a_swap to file ∷ []) w))
  swap_scripts w s at (inl here) =
      let last : last_at w (chains new) ≡ newborn old = ap (last_at w) g.life.chains ∙ ap (λ n. last_at n (on_at to (joins (newborn old)) (chains old))) (sym here.1) ∙ last_joined to (newborn old) (chains old) within in
      let life : lives.last_life s.content swaps (items ++ a_swap to file ∷ []) w ≡ new_life content = (life_laws s.content swaps w).swapped items (a_swap to file) here.0 ∙ ap new_life (index_there swaps (swaps_in items) content s.content there) in
      subst (λ v. HasScriptsOf new v (fed_of spec.libs.items s.fuel (lives.last_life s.content swaps (items ++ a_swap to file ∷ []) w))) (sym last)
      (subst (λ (l : Life SlotContent). HasScriptsOf new (newborn old) (fed_of spec.libs.items s.fuel l)) (sym life)
      (scripts_new spec.libs.items s.fuel (new_life content) new (newborn old) (subst (λ (ts : List Tree). HasScriptsIn ts content (scripts new (newborn old))) p.libraries g.life.scripts)))
  swap_scripts w s at (inr other) =
      let last : last_at w (chains new) ≡ last_at w (chains old) = ap (last_at w) g.life.chains ∙ last_other to w (newborn old) (chains old) other.1 in
      let less : w < length (chains old) = omega (arith, slot_within spec.slots.items w s at, p.slots) in
      subst (λ v. HasScriptsOf new v (fed_of spec.libs.items s.fuel (lives.last_life s.content swaps (items ++ a_swap to file ∷ []) w))) (sym last)
      (scripts_same spec.libs.items s.fuel (lives.last_life s.content swaps items w) (lives.last_life s.content swaps (items ++ a_swap to file ∷ []) w) old new (last_at w (chains old))
      (ap (λ (m : Life SlotContent). m.runs) (sym ((life_laws s.content swaps w).given items (a_swap to file) other.0))) (g.stays.scripts (last_at w (chains old)) (not_new w less)) (p.scripts w s at))

  -- the life that the swap ends has its scripts
  ended_has : HasScriptsOf new (last_at to (chains old)) (slice_index_or (begun_in spec swaps items) to None)
  ended_has =
      let s = slot_of_swap in
      let f : slice_index_or (begun_in spec swaps items) to None ≡ fed_of spec.libs.items s.0.fuel (lives.last_life s.0.content swaps items (0 + to)) =
      index_there (begun_in spec swaps items) to (fed_of spec.libs.items s.0.fuel (lives.last_life s.0.content swaps items (0 + to))) None (begun_at spec swaps items 0 to spec.slots.items s.0 s.1) in
      subst (HasScriptsOf new (last_at to (chains old))) (sym f)
      (subst (λ n. HasScriptsOf new (last_at to (chains old)) (fed_of spec.libs.items s.0.fuel (lives.last_life s.0.content swaps items n))) (sym (zero_more to))
      (scripts_stay old new (last_at to (chains old)) (fed_of spec.libs.items s.0.fuel (lives.last_life s.0.content swaps items to)) (g.stays.scripts (last_at to (chains old)) (not_new to within)) (p.scripts to s.0 s.1)))

  swap_unspent : (v : ℕ) (s : Seen) → accepts new v ≡ true → slice_get (seens new) v ≡ Some s → ((nat_eq (newborn old) v ≡ true) × (newborn old ≡ v)) ⊎ ((nat_eq (newborn old) v ≡ false) × (newborn old ≢ v)) → (image s).spent ≡ 0
  swap_unspent v s on at (inl here) =
      spent_new new (newborn old) (slice_index_or (fuels old) to 0) (content_in (libraries old) content) s g.life.life (ap (accepts new) here.1 ∙ on) (ap (slice_get (seens new)) here.1 ∙ at)
  swap_unspent v s on at (inr other) =
      let out : v ≢ newborn old = λ e. other.1 (sym e) in
      p.unspent v s (sym (g.stays.accepts v out) ∙ on) (sym (g.stays.seens v out) ∙ at)

  swap_none_else : (v : ℕ) → listed v (chains new) ≡ false → ((nat_eq (newborn old) v ≡ true) × (newborn old ≡ v)) ⊎ ((nat_eq (newborn old) v ≡ false) × (newborn old ≢ v)) → accepts new v ≡ false
  swap_none_else v out (inl here) = absurd (let e : true ≡ false = sym (ap (listed v) g.life.chains ∙ joined_listed v to (newborn old) (chains old) within here.0) ∙ out in cc)
  swap_none_else v out (inr other) =
      g.stays.accepts v (λ e. other.1 (sym e)) ∙ p.none_else v (sym (others_listed v to (newborn old) (chains old) other.0) ∙ sym (ap (listed v) g.life.chains) ∙ out)

  swap_leave : (v : ℕ) → listed v (chains new) ≡ true → is_last v (chains new) ≡ false → ((nat_eq (newborn old) v ≡ true) × (newborn old ≡ v)) ⊎ ((nat_eq (newborn old) v ≡ false) × (newborn old ≢ v)) → has v (ends new) ≡ true
  swap_leave v on off (inl here) = absurd (let e : true ≡ false = sym (ap (is_last v) g.life.chains ∙ joined_last v to (newborn old) (chains old) within here.0) ∙ off in cc)
  swap_leave v on off (inr other) = ap (has v) g.life.ends ∙ by (is_last v (chains old)) refl where
    by : (b : Bool) → is_last v (chains old) ≡ b → has v (ends old ++ last_at to (chains old) ∷ []) ≡ true
    by true e = has_pushed v (ends old) (last_at to (chains old)) (left_last v to (newborn old) (chains old) e (sym (ap (is_last v) g.life.chains) ∙ off))
    by false e = has_push v (ends old) (last_at to (chains old)) (p.leave v (sym (others_listed v to (newborn old) (chains old) other.0) ∙ sym (ap (listed v) g.life.chains) ∙ on) e)

  some_swap : {P : Type 0} → swaps_in (items ++ a_swap to file ∷ []) ≡ 0 → P
  some_swap none = absurd (omega (arith, none, swap_swaps items to file))

  pub plays_swap : IsHoused new → marked new ≡ false → AreFed new (with_swap to (begins (slice_index_or (fuels old) to 0) (content_of spec.libs.items content)) 0 (begun_in spec swaps items))
      → AreEnded new (ends new) (ended_in spec swaps items ++ slice_index_or (begun_in spec swaps items) to None ∷ []) → Plays spec swaps (items ++ a_swap to file ∷ []) new
  plays_swap housed unmarked fed ended = record {
    housed = housed;
    unmarked = unmarked;
    slots = ap length g.life.chains ∙ joined_length to (newborn old) (chains old) ∙ p.slots;
    laid = g.stays.laid (map name_of spec.slots.items) (map piece_of spec.pieces.items) p.laid;
    channels = g.stays.plan.channels ∙ p.channels;
    names = g.stays.plan.names ∙ p.names;
    fuels = g.stays.plan.fuels ∙ p.fuels;
    libraries = g.stays.plan.libraries ∙ p.libraries;
    given = g.given ∙ ap (λ n. n + 1) p.given ∙ sym (length_push items (a_swap to file));
    swapped = ap length g.life.ends ∙ length_push (ends old) (last_at to (chains old)) ∙ ap (λ n. n + 1) p.swapped ∙ sym (swap_swaps items to file);
    journal = g.stays.journal ∙ p.journal;
    first = p.first;
    loads = p.loads;
    gives = subst (λ (xs : List SlotContent). GivesAll p.first (items ++ a_swap to file ∷ []) xs new) (take_there swaps (swaps_in items) content there ∙ ap (λ n. take n swaps) (sym (swap_swaps items to file))) (one_item p.gives (another g));
    unspent = λ v s is at. swap_unspent v s is at (eqb_tells (newborn old) v);
    lasts = subst (AreFed new) (sym (begun_swap spec swaps to (slice_index_or (fuels old) to 0) file content items there 0 spec.slots.items same_slot)) fed;
    ended = subst (AreEnded new (ends new)) (sym (ended_swap spec swaps to file items)) ended;
    none_else = λ v out. swap_none_else v out (eqb_tells (newborn old) v);
    leave = λ v on off. swap_leave v on off (eqb_tells (newborn old) v);
    scripts = λ w s at. swap_scripts w s at (eqb_tells to w);
    ended_scripts =
        subst (λ (fs : List (Option Fed)). HaveScriptsOf new (ends new) fs) (sym (ended_swap spec swaps to file items))
        (subst (λ vs. HaveScriptsOf new vs (ended_in spec swaps items ++ slice_index_or (begun_in spec swaps items) to None ∷ [])) (sym g.life.ends)
        (have_push new (ends old) (ended_in spec swaps items) (last_at to (chains old)) (slice_index_or (begun_in spec swaps items) to None) (have_born old new (ends old) (ended_in spec swaps items) (ended_in spec swaps items) g.stays.scripts p.ended p.ended_scripts) ended_has));
    firsts = λ none. some_swap none;
    own = λ none. some_swap none;
  }
