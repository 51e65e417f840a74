-- A page to which something was given, before its lives have done with it.
use Rattle.std.proofs.Common.{◌≡◌, ◌≢◌, ℕ, zero, suc, ◌+◌, ◌<◌, List, [], ◌∷◌, ◌++◌, map, length, Bool, true, false, Option, Some, None, refl, sym, ap, subst, ◌∙◌, arith, ◌⊎◌, inl, inr}
use Rattle.std.specs.Prelude.{nat_eq, if◌then◌else◌, option_map, slice_get, slice_index_or, ◌||◌}
use Rattle.std.proofs.lemmas.Bool.Decides.{eqb_tells}
use Rattle.std.proofs.lemmas.List.{length_push}
use Rattle.std.proofs.lemmas.Option.{slice_get-map}
use Rattle.adsafe_rules.specs.Accepts.{tree_of}
use Rattle.js_tree.specs.declared.tree.Tree.{Tree}
use Rattle.trace_reader.specs.Said.{Said, a_swap}
use Rattle.life_laws.specs.Life.{due, image, ready, Going, Work}
use Rattle.life_laws.specs.Journal.{on_at}
use Rattle.life_laws.specs.Slots.{Each, has}
use Rattle.life_laws.specs.Chains.{Chains, Rest, joins, last_at, last_from, last_life, listed}
use Rattle.widget_meaning.specs.OwnState.{OwnState}
use Rattle.widget_meaning.specs.Items.{Item}
use Rattle.life_laws.specs.Fed.{Fed, state}
use Rattle.life_laws.specs.RoundLaws.{fed_at}
use Rattle.page_plan.specs.declared.PageSpec.{PageSpec}
use Rattle.page_plan.specs.declared.SlotContent.{SlotContent}
use Rattle.page_plan.specs.declared.SlotSpec.{SlotSpec}
use Rattle.page_plan.specs.Contents.{content_of, HasScriptsIn}
use Rattle.page_plan.specs.Pages.{piece_of}
use Rattle.slot_lives.specs.Lives.{swaps_in}
use Rattle.slot_lives.specs.LifeLaws.{new_life}
use Rattle.slot_lives.specs.Ends.{end_of}
use Rattle.page_play.specs.Place.{Place}
use Rattle.page_play.specs.Places.{accepts_of}
use Rattle.page_play.specs.Host.{Host}
use Rattle.page_play.specs.HostItem.{HostItem}
use Rattle.page_play.specs.Given.{AreEnded, AreRetired, begins, begun, gives_to, with_item, with_items, with_swap}
use Rattle.page_play.specs.Housed.{GivesItem, GivesSwap, IsHoused, IsLaid, Loads, accepts, chains, channels, ends, fuels, given, homes, libraries, marked, names, newborn, scripts, seens, singles, told}
use Rattle.page_play.specs.Rounds.{AreFed, is_last}
use Rattle.page_play.specs.Played.{name_of, HasScriptsOf, HaveScriptsOf}
use Rattle.page_play.specs.Playing.{fuel_of}
use Rattle.page_play.specs.Settled.{said_of}
use Rattle.page_play.proofs.Born.{housed_chains}
use Rattle.page_play.proofs.Chained.{singles_length, beyond_singles, singles_last, joined_length, joined_listed, joined_last, others_listed, left_last, has_push, has_pushed, last_below, alone_listed}
use Rattle.page_play.proofs.Given.{item_swaps, swap_swaps}
use Rattle.page_play.proofs.Scripted.{scripts_new, scripts_stay, have_stay, have_push}
use Rattle.page_live.specs.Living.{IsLive}

-- ## Lives that ended

-- one life was given the same as another, up to what was taken of its posts
abbrev pub SameLife : Option Fed → Option Fed → Type 0
SameLife None None = Unit {0}
SameLife (Some e) (Some f) = (e.content ≡ f.content) × (state e ≡ state f)
SameLife _ _ = ⊥

abbrev pub SameLives : List (Option Fed) → List (Option Fed) → Type 0
SameLives [] [] = Unit {0}
SameLives (e ∷ es) (f ∷ fs) = SameLife e f × SameLives es fs
SameLives _ _ = ⊥

same_life : (f : Option Fed) → SameLife f f
same_life None = tt
same_life (Some f) = (refl, refl)

same_push : (es fs : List (Option Fed)) (f : Option Fed) → SameLives es fs → SameLives (es ++ f ∷ []) (fs ++ f ∷ [])
same_push [] [] f same = (same_life f, tt)
same_push [] (g ∷ fs) f same = absurd same
same_push (e ∷ es) [] f same = absurd same
same_push (e ∷ es) (g ∷ fs) f same = (same.0, same_push es fs f same.1)

one_end : (e f : Option Fed) → SameLife e f → end_of e ≡ end_of f
one_end None None same = refl
one_end None (Some f) same = absurd same
one_end (Some e) None same = absurd same
one_end (Some e) (Some f) same = ap Some same.1

pub same_ends : (es fs : List (Option Fed)) → SameLives es fs → map end_of es ≡ map end_of fs
same_ends [] [] same = refl
same_ends [] (f ∷ fs) same = absurd same
same_ends (e ∷ es) [] same = absurd same
same_ends (e ∷ es) (f ∷ fs) same = ap (λ o. o ∷ map end_of es) (one_end e f same.0) ∙ ap (λ os. end_of f ∷ os) (same_ends es fs same.1)

-- ## What is seen of them

some_is : {A : Type 0} (x y : A) → Some x ≡ Some y → x ≡ y
some_is x y e = cc

place_there : (ls : List Place) (k : ℕ) → slice_index_or (accepts_of ls) k false ≡ true → (l : Place) × (slice_get ls k ≡ Some l)
place_there [] k is = absurd (let e = is in cc)
place_there (y ∷ ls) zero is = (y, refl)
place_there (y ∷ ls) (suc k) is = place_there ls k is

told_there : (h : Host) (v : ℕ) → accepts h v ≡ true → (n : ℕ) × (slice_get (told h) v ≡ Some n)
unfolding accepts told
told_there h v is =
    let l = place_there h.lives.places.items v is in
    (l.0.told, slice_get-map (λ (p : Place). p.told) h.lives.places.items v ∙ ap (option_map (λ (p : Place). p.told)) l.1)

all_rest : (h : Host) → IsHoused h → marked h ≡ false → Rest (chains h) (seens h)
unfolding IsHoused chains seens
all_rest h housed unmarked = (housed.1 unmarked).slots.rest

all_done : (o : OwnState) (g : Option Going) (q : List Work) → ready (record { own = o; going = g; queue = q }) ≡ false → due (record { own = o; going = g; queue = q }) ≡ image (record { own = o; going = g; queue = q })
all_done o (Some t) q e = absurd (let f = e in cc)
all_done o None [] e = refl
all_done o None (i ∷ q) e = absurd (let f = e in cc)

-- where each slot has one life, a life that is in none is the last one of none
alone_last : (v : ℕ) (cs : List (List ℕ)) → map (λ c. last_life c ∷ []) cs ≡ cs → listed v cs ≡ false → is_last v cs ≡ false
alone_last v cs alone out = by (is_last v cs) refl where
  by : (b : Bool) → is_last v cs ≡ b → is_last v cs ≡ false
  by false e = e
  by true e = absurd (let f : true ≡ false = sym (ap (listed v) (sym alone) ∙ alone_listed v cs e) ∙ out in cc)

alone_on : (v : ℕ) (cs : List (List ℕ)) → listed v (map (λ c. last_life c ∷ []) cs) ≡ true → is_last v cs ≡ true
alone_on v [] on = on
alone_on v (c ∷ cs) on = by (nat_eq (last_life c) v) on (alone_on v cs) where
  by : (b : Bool) → (if (if b then true else false) then true else listed v (map (λ c. last_life c ∷ []) cs)) ≡ true → (listed v (map (λ c. last_life c ∷ []) cs) ≡ true → is_last v cs ≡ true) → (b || is_last v cs) ≡ true
  by true e f = refl
  by false e f = f e

pub record Ended (h : Host) (vs : List ℕ) (out : List (Option Fed)) : Type 0 where
  pub es : List (Option Fed)
  pub are : AreEnded h vs es
  pub same : SameLives es out

ended_again : (h : Host) → IsHoused h → marked h ≡ false → map (λ c. last_life c ∷ []) (chains h) ≡ chains h → (vs : List ℕ) (out : List (Option Fed)) → Each (λ v. v < newborn h) vs → AreRetired h vs (map end_of out) → Ended h vs out
ended_again h housed unmarked alone [] [] born are = record { es = []; are = tt; same = tt }
ended_again h housed unmarked alone [] (f ∷ fs) born are = absurd are
ended_again h housed unmarked alone (v ∷ vs) [] born are = absurd are
ended_again h housed unmarked alone (v ∷ vs) (None ∷ fs) born are =
    let r = ended_again h housed unmarked alone vs fs born.1 are.1 in
    record { es = None ∷ r.es; are = (record { born = born.0; out = alone_last v (chains h) alone are.0.out; fed = are.0.shown }, r.are); same = (tt, r.same) }
ended_again h housed unmarked alone (v ∷ vs) (Some f ∷ fs) born are =
    let r = ended_again h housed unmarked alone vs fs born.1 are.1 in
    let s = are.0.shown.1 in
    let n = told_there h v are.0.shown.0 in
    let idle = all_rest h housed unmarked v s.0 are.0.out s.1 in
    record {
      es = Some (record f { told = n.0 }) ∷ r.es;
      are = (
        record {
          born = born.0;
          out = alone_last v (chains h) alone are.0.out;
          fed = record {
            accepted = are.0.shown.0;
            comes = λ t at. ap due (some_is t s.0 (sym at ∙ s.1)) ∙ all_done s.0.own s.0.going s.0.queue idle ∙ s.2;
            taken = n.1;
          };
        },
        r.are,
      );
      same = ((refl, refl), r.same);
    }

-- ## Scripts

-- a life that was given more has its scripts
has_more : (h : Host) (v : ℕ) (xs : List Item) (f : Option Fed) → HasScriptsOf h v f → HasScriptsOf h v (option_map (with_items xs) f)
has_more h v xs None has = tt
has_more h v xs (Some f) has = has

have_item : (h : Host) (i : HostItem) (w : ℕ) (vs : List ℕ) (fs : List (Option Fed)) → HaveScriptsOf h vs fs → HaveScriptsOf h vs (with_item i w fs)
have_item h i w [] [] have = tt
have_item h i w [] (f ∷ fs) have = absurd have
have_item h i w (v ∷ vs) [] have = absurd have
have_item h i w (v ∷ vs) (f ∷ fs) have = (has_more h v (gives_to i w) f have.0, have_item h i (w + 1) vs fs have.1)

last_pushed : (x : ℕ) (xs : List ℕ) (v : ℕ) → last_from x (xs ++ v ∷ []) ≡ v
last_pushed x [] v = refl
last_pushed x (y ∷ ys) v = last_pushed y ys v

last_joins : (c : List ℕ) (v : ℕ) → last_life (joins v c) ≡ v
last_joins [] v = refl
last_joins (x ∷ xs) v = last_pushed x xs v

off : (m n : ℕ) → m < n → nat_eq m n ≡ false
off m n less = by (eqb_tells m n) where
  by : ((nat_eq m n ≡ true) × (m ≡ n)) ⊎ ((nat_eq m n ≡ false) × (m ≢ n)) → nat_eq m n ≡ false
  by (inl here) = absurd (omega (arith, less, here.1))
  by (inr other) = other.0

on : (m n : ℕ) → m ≡ n → nat_eq m n ≡ true
on m n same = by (eqb_tells m n) where
  by : ((nat_eq m n ≡ true) × (m ≡ n)) ⊎ ((nat_eq m n ≡ false) × (m ≢ n)) → nat_eq m n ≡ true
  by (inl here) = here.0
  by (inr other) = absurd (other.1 same)

if_on : {A : Type 0} (b : Bool) (x y : A) → b ≡ true → (if b then x else y) ≡ x
if_on b x y e = rw e refl

if_off : {A : Type 0} (b : Bool) (x y : A) → b ≡ false → (if b then x else y) ≡ y
if_off b x y e = rw e refl

swap_behind : (to : ℕ) (life : Option Fed) (w : ℕ) (fs : List (Option Fed)) → to < w → with_swap to life w fs ≡ fs
swap_behind to life w [] less = refl
swap_behind to life w (f ∷ fs) less = ap (λ x. x ∷ with_swap to life (w + 1) fs) (if_off (nat_eq to w) life f (off to w less)) ∙ ap (λ xs. f ∷ xs) (swap_behind to life (w + 1) fs (omega (arith, less)))

-- what stays of lives that were born
have_born : (old new : Host) (n : ℕ) → ((v : ℕ) → v ≢ n → scripts new v ≡ scripts old v) → (vs : List ℕ) (fs : List (Option Fed)) → Each (λ v. v < n) vs → HaveScriptsOf old vs fs → HaveScriptsOf new vs fs
have_born old new n stay [] [] born have = tt
have_born old new n stay [] (f ∷ fs) born have = absurd have
have_born old new n stay (v ∷ vs) [] born have = absurd have
have_born old new n stay (v ∷ vs) (f ∷ fs) born have =
    let b = born.0 in
    (scripts_stay old new v f (stay v (λ same. absurd (omega (arith, same, b)))) have.0, have_born old new n stay vs fs born.1 have.1)

module _ (old new : Host) (n : ℕ) (stay : (v : ℕ) → v ≢ n → scripts new v ≡ scripts old v) (life : Option Fed) (fresh : HasScriptsOf new n life) where
  have_swap : (k w : ℕ) (cs : List (List ℕ)) (fs : List (Option Fed)) → Each (λ v. v < n) (map last_life cs) → HaveScriptsOf old (map last_life cs) fs
      → HaveScriptsOf new (map last_life (on_at k (joins n) cs)) (with_swap (w + k) life w fs)
  have_swap k w [] [] born have = tt
  have_swap k w [] (f ∷ fs) born have = absurd have
  have_swap k w (c ∷ cs) [] born have = absurd have
  have_swap zero w (c ∷ cs) (f ∷ fs) born have =
      let e : w + 0 ≡ w = omega arith in
      let less : w + 0 < w + 1 = omega arith in (
        subst (λ v. HasScriptsOf new v (if nat_eq (w + 0) w then life else f)) (sym (last_joins c n)) (subst (HasScriptsOf new n) (sym (if_on (nat_eq (w + 0) w) life f (on (w + 0) w e))) fresh),
        subst (HaveScriptsOf new (map last_life cs)) (sym (swap_behind (w + 0) life (w + 1) fs less)) (have_born old new n stay (map last_life cs) fs born.1 have.1),
      )
  have_swap (suc k) w (c ∷ cs) (f ∷ fs) born have =
      let e : (w + 1) + k ≡ w + suc k = omega arith in
      let less : w < w + suc k = omega arith in
      let b = born.0 in (
        subst (HasScriptsOf new (last_life c)) (sym (if_off (nat_eq (w + suc k) w) life f (other w (w + suc k) less))) (scripts_stay old new (last_life c) f (stay (last_life c) (λ same. absurd (omega (arith, same, b)))) have.0),
        subst (λ m. HaveScriptsOf new (map last_life (on_at k (joins n) cs)) (with_swap m life (w + 1) fs)) e (have_swap k (w + 1) cs fs born.1 have.1),
      )
    where
      other : (m p : ℕ) → m < p → nat_eq p m ≡ false
      other m p less = by (eqb_tells p m) where
        by : ((nat_eq p m ≡ true) × (p ≡ m)) ⊎ ((nat_eq p m ≡ false) × (p ≢ m)) → nat_eq p m ≡ false
        by (inl here) = absurd (omega (arith, less, here.1))
        by (inr apart) = apart.0

lasts_below : (homes : List ℕ) (n w : ℕ) (cs : List (List ℕ)) → Chains homes n w cs → Each (λ v. v < n) (map last_life cs)
lasts_below homes n w [] born = tt
lasts_below homes n w (c ∷ cs) born = (last_below homes n w 0 (c ∷ cs) born (omega arith), lasts_below homes n (w + 1) cs born.1)

each_more : (m n : ℕ) (vs : List ℕ) → m < n → Each (λ v. v < m) vs → Each (λ v. v < n) vs
each_more m n [] less each = tt
each_more m n (v ∷ vs) less each = let here = each.0 in (omega (arith, here, less), each_more m n vs less each.1)

each_push : (n : ℕ) (vs : List ℕ) (v : ℕ) → Each (λ u. u < n) vs → v < n → Each (λ u. u < n) (vs ++ v ∷ [])
each_push n [] v each less = (less, tt)
each_push n (x ∷ xs) v each less = (each.0, each_push n xs v each.1 less)

-- ## A page to which something was given

-- the last lives have this still to come to; each life that a swap has ended was given what another of these was given, whose posts are not told apart
pub record IsStirred (spec : PageSpec) (swaps : List SlotContent) (items : List Said) (h : Host) (fs es out : List (Option Fed)) : Type 0 where
  pub slots : length (chains h) ≡ length spec.slots.items
  pub laid : IsLaid h (map name_of spec.slots.items) (map piece_of spec.pieces.items)
  pub channels : channels h ≡ spec.channels.items
  pub names : names h ≡ map name_of spec.slots.items
  pub fuels : fuels h ≡ map fuel_of spec.slots.items
  pub libraries : libraries h ≡ map tree_of spec.libs.items
  pub given : given h ≡ length items
  pub swapped : length (ends h) ≡ swaps_in items
  pub lasts : AreFed h fs
  pub ended : AreEnded h (ends h) es
  pub same : SameLives es out
  pub none_else : (v : ℕ) → listed v (chains h) ≡ false → has v (ends h) ≡ false → accepts h v ≡ false
  pub leave : (v : ℕ) → listed v (chains h) ≡ true → is_last v (chains h) ≡ false → has v (ends h) ≡ true
  pub scripts : HaveScriptsOf h (map last_life (chains h)) fs
  pub ended_scripts : HaveScriptsOf h (ends h) out
  pub born : Each (λ v. v < newborn h) (ends h)
  pub firsts : swaps_in items ≡ 0 → chains h ≡ singles 0 (length spec.slots.items)

zero_more : (n : ℕ) → 0 + n ≡ n
zero_more n = omega arith

-- ## It was loaded

first_scripts : (spec : PageSpec) (h : Host) → Loads spec h → (k : ℕ) (ss : List SlotSpec) → ((j : ℕ) (s : SlotSpec) → slice_get ss j ≡ Some s → slice_get spec.slots.items (k + j) ≡ Some s)
    → HaveScriptsOf h (map last_life (singles k (length ss))) (begun spec.libs.items ss)
first_scripts spec h l k [] there = tt
first_scripts spec h l k (s ∷ ss) there =
    let e : k + 0 ≡ k = omega arith in (
      scripts_new spec.libs.items s.fuel (new_life s.content) h k (l.scripts k s (ap (slice_get spec.slots.items) (sym e) ∙ there 0 s refl)),
      first_scripts spec h l (k + 1) ss (λ j t at. ap (slice_get spec.slots.items) (let f : (k + 1) + j ≡ k + suc j = omega arith in f) ∙ there (suc j) t at),
    )

pub stirred_loaded : (spec : PageSpec) (h : Host) → Loads spec h → AreFed h (begun spec.libs.items spec.slots.items) → AreEnded h (ends h) [] → IsStirred spec [] [] h (begun spec.libs.items spec.slots.items) [] []
stirred_loaded spec h l fed ended =
    let n = length spec.slots.items in
    record {
      slots = ap length l.chains ∙ singles_length 0 n;
      laid = l.laid;
      channels = l.channels;
      names = l.names;
      fuels = l.fuels;
      libraries = l.libraries;
      given = l.given;
      swapped = ap length l.ends;
      lasts = fed;
      ended = ended;
      same = tt;
      none_else = λ v out never. l.none_else v (beyond_singles v 0 n (subst (λ u. listed u (singles 0 n) ≡ false) (sym (zero_more v)) (subst (λ cs. listed v cs ≡ false) l.chains out)));
      leave = λ v on off. absurd (singles_last v 0 n (subst (λ cs. listed v cs ≡ true) l.chains on) (subst (λ cs. is_last v cs ≡ false) l.chains off));
      scripts = subst (λ cs. HaveScriptsOf h (map last_life cs) (begun spec.libs.items spec.slots.items)) (sym l.chains) (first_scripts spec h l 0 spec.slots.items (λ j s at. ap (slice_get spec.slots.items) (zero_more j) ∙ at));
      ended_scripts = subst (λ vs. HaveScriptsOf h vs []) (sym l.ends) tt;
      born = subst (λ vs. Each (λ v. v < newborn h) vs) (sym l.ends) tt;
      firsts = λ none. l.chains;
    }

-- ## An item was given

module _ (spec : PageSpec) (swaps : List SlotContent) (items : List Said) (old : Host) (l : IsLive spec swaps items old) where
  pub was_ended : Ended old (ends old) l.out
  was_ended = ended_again old l.housed l.unmarked l.alone (ends old) l.out l.born l.ended

  live_leave : (v : ℕ) → listed v (chains old) ≡ true → is_last v (chains old) ≡ true
  live_leave v on = alone_on v (chains old) (ap (listed v) l.alone ∙ on)

  pub stirred_item : (i : HostItem) (new : Host) → GivesItem i old new → AreFed new (with_item i 0 l.fed) → AreEnded new (ends new) was_ended.es
      → IsStirred spec swaps (items ++ said_of i ∷ []) new (with_item i 0 l.fed) was_ended.es l.out
  stirred_item i new g fed ended =
      let many = item_swaps items i in
      record {
        slots = ap length g.chains ∙ l.slots;
        laid = g.stays.laid (map name_of spec.slots.items) (map piece_of spec.pieces.items) l.laid;
        channels = g.stays.plan.channels ∙ l.channels;
        names = g.stays.plan.names ∙ l.names;
        fuels = g.stays.plan.fuels ∙ l.fuels;
        libraries = g.stays.plan.libraries ∙ l.libraries;
        given = g.given ∙ ap (λ n. n + 1) l.given ∙ sym (length_push items (said_of i));
        swapped = ap length g.stays.ends ∙ l.swapped ∙ sym many;
        lasts = fed;
        ended = ended;
        same = was_ended.same;
        none_else = λ v out never. g.stays.accepts v ∙ l.none_else v (subst (λ cs. listed v cs ≡ false) g.chains out) (subst (λ vs. has v vs ≡ false) g.stays.ends never);
        leave = λ v on off. absurd (let e : true ≡ false = sym (live_leave v (subst (λ cs. listed v cs ≡ true) g.chains on)) ∙ subst (λ cs. is_last v cs ≡ false) g.chains off in cc);
        scripts = subst (λ cs. HaveScriptsOf new (map last_life cs) (with_item i 0 l.fed)) (sym g.chains) (have_item new i 0 (map last_life (chains old)) l.fed (have_stay old new (map last_life (chains old)) l.fed g.stays.scripts l.scripts));
        ended_scripts = subst (λ vs. HaveScriptsOf new vs l.out) (sym g.stays.ends) (have_stay old new (ends old) l.out g.stays.scripts l.ended_scripts);
        born = subst (λ vs. Each (λ v. v < 16 + length vs) vs) (sym g.stays.ends) l.born;
        firsts = λ none. g.chains ∙ l.firsts (sym many ∙ none);
      }

  -- the life that a swap ends has its scripts
  has_at : (cs : List (List ℕ)) (fs : List (Option Fed)) (w : ℕ) → HaveScriptsOf old (map last_life cs) fs → HasScriptsOf old (last_at w cs) (fed_at fs w)
  has_at [] [] w have = tt
  has_at [] (f ∷ fs) w have = absurd have
  has_at (c ∷ cs) [] w have = absurd have
  has_at (c ∷ cs) (f ∷ fs) zero have = have.0
  has_at (c ∷ cs) (f ∷ fs) (suc w) have = has_at cs fs w have.1

  pub ended_has : (to : ℕ) → HasScriptsOf old (last_at to (chains old)) (fed_at l.fed to)
  ended_has to = has_at (chains old) l.fed to l.scripts

  -- ## A swap was given

  module _ (to : ℕ) (file : List ℕ) (content : SlotContent) (new : Host) (g : GivesSwap to content old new) (within : to < length (chains old)) where
    abbrev brought : Option Fed
    brought = begins (slice_index_or (fuels old) to 0) (content_of spec.libs.items content)

    chained : Chains (homes old) (newborn old) 0 (chains old)
    chained = housed_chains old l.housed l.unmarked

    new_scripts : HasScriptsOf new (newborn old) brought
    new_scripts = scripts_new spec.libs.items (slice_index_or (fuels old) to 0) (new_life content) new (newborn old) (subst (λ (ts : List Tree). HasScriptsIn ts content (scripts new (newborn old))) l.libraries g.life.scripts)

    swap_none_else : (v : ℕ) → listed v (chains new) ≡ false → has v (ends new) ≡ false → ((nat_eq (newborn old) v ≡ true) × (newborn old ≡ v)) ⊎ ((nat_eq (newborn old) v ≡ false) × (newborn old ≢ v)) → accepts new v ≡ false
    swap_none_else v out never (inl here) = absurd (let e : true ≡ false = sym (ap (listed v) g.life.chains ∙ joined_listed v to (newborn old) (chains old) within here.0) ∙ out in cc)
    swap_none_else v out never (inr other) =
        g.stays.accepts v (λ e. other.1 (sym e)) ∙ l.none_else v (sym (others_listed v to (newborn old) (chains old) other.0) ∙ sym (ap (listed v) g.life.chains) ∙ out) (by (has v (ends old)) refl)
      where
        by : (b : Bool) → has v (ends old) ≡ b → has v (ends old) ≡ false
        by false e = e
        by true e = absurd (let f : true ≡ false = sym (ap (has v) g.life.ends ∙ has_push v (ends old) (last_at to (chains old)) e) ∙ never in cc)

    swap_leave : (v : ℕ) → listed v (chains new) ≡ true → is_last v (chains new) ≡ false → ((nat_eq (newborn old) v ≡ true) × (newborn old ≡ v)) ⊎ ((nat_eq (newborn old) v ≡ false) × (newborn old ≢ v)) → has v (ends new) ≡ true
    swap_leave v on off (inl here) = absurd (let e : true ≡ false = sym (ap (is_last v) g.life.chains ∙ joined_last v to (newborn old) (chains old) within here.0) ∙ off in cc)
    swap_leave v on off (inr other) =
        ap (has v) g.life.ends
        ∙ has_pushed v (ends old) (last_at to (chains old))
        (left_last v to (newborn old) (chains old) (live_leave v (sym (others_listed v to (newborn old) (chains old) other.0) ∙ sym (ap (listed v) g.life.chains) ∙ on)) (sym (ap (is_last v) g.life.chains) ∙ off))

    pub stirred_swap : AreFed new (with_swap to brought 0 l.fed) → AreEnded new (ends new) (was_ended.es ++ fed_at l.fed to ∷ [])
        → HasScriptsOf old (last_at to (chains old)) (fed_at l.fed to)
        → IsStirred spec (swaps ++ content ∷ []) (items ++ a_swap to file ∷ []) new (with_swap to brought 0 l.fed) (was_ended.es ++ fed_at l.fed to ∷ []) (l.out ++ fed_at l.fed to ∷ [])
    stirred_swap fed ended has =
        let one_more : length (ends old ++ last_at to (chains old) ∷ []) ≡ length (ends old) + 1 = length_push (ends old) (last_at to (chains old)) in
        let below = last_below (homes old) (newborn old) 0 to (chains old) chained within in
        record {
          slots = ap length g.life.chains ∙ joined_length to (newborn old) (chains old) ∙ l.slots;
          laid = g.stays.laid (map name_of spec.slots.items) (map piece_of spec.pieces.items) l.laid;
          channels = g.stays.plan.channels ∙ l.channels;
          names = g.stays.plan.names ∙ l.names;
          fuels = g.stays.plan.fuels ∙ l.fuels;
          libraries = g.stays.plan.libraries ∙ l.libraries;
          given = g.given ∙ ap (λ n. n + 1) l.given ∙ sym (length_push items (a_swap to file));
          swapped = ap length g.life.ends ∙ one_more ∙ ap (λ n. n + 1) l.swapped ∙ sym (swap_swaps items to file);
          lasts = fed;
          ended = ended;
          same = same_push was_ended.es l.out (fed_at l.fed to) was_ended.same;
          none_else = λ v out never. swap_none_else v out never (eqb_tells (newborn old) v);
          leave = λ v on off. swap_leave v on off (eqb_tells (newborn old) v);
          scripts = subst (λ cs. HaveScriptsOf new (map last_life cs) (with_swap to brought 0 l.fed)) (sym g.life.chains)
              (subst (λ k. HaveScriptsOf new (map last_life (on_at to (joins (newborn old)) (chains old))) (with_swap k brought 0 l.fed)) (zero_more to)
              (have_swap old new (newborn old) g.stays.scripts brought new_scripts to 0 (chains old) l.fed (lasts_below (homes old) (newborn old) 0 (chains old) chained) l.scripts));
          ended_scripts = subst (λ vs. HaveScriptsOf new vs (l.out ++ fed_at l.fed to ∷ [])) (sym g.life.ends)
              (have_push new (ends old) l.out (last_at to (chains old)) (fed_at l.fed to) (have_born old new (newborn old) g.stays.scripts (ends old) l.out l.born l.ended_scripts)
              (scripts_stay old new (last_at to (chains old)) (fed_at l.fed to) (g.stays.scripts (last_at to (chains old)) (λ same. absurd (omega (arith, same, below)))) has));
          born = subst (λ vs. Each (λ v. v < 16 + length vs) vs) (sym g.life.ends)
              (each_push (16 + length (ends old ++ last_at to (chains old) ∷ [])) (ends old) (last_at to (chains old)) (each_more (16 + length (ends old)) (16 + length (ends old ++ last_at to (chains old) ∷ [])) (ends old) (omega (arith, one_more)) l.born) (omega (arith, one_more, below)));
          firsts = λ none. absurd (let e = swap_swaps items to file in omega (arith, none, e));
        }
