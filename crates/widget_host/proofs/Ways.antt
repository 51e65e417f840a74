-- A host that settles and delivers posts in turn.
use Rattle.std.proofs.Common.{◌≡◌, ℕ, zero, suc, Bool, true, false, List, [], ◌∷◌, map, refl, sym, ap, ◌∙◌, subst, Option, Some, None}
use Rattle.std.specs.Prelude.{Err, IsErr, Ok, Result, is_ok, slice_get}
use Rattle.std.specs.Option.{option_map}
use Rattle.life_laws.specs.Life.{Seen, due, image}
use Rattle.life_laws.specs.Fed.{Fed, IsQuiet, RoundsTo, again, ended, round, state}
use Rattle.life_laws.specs.Chains.{last_life}
use Rattle.life_laws.specs.Settled.{SettledSlots}
use Rattle.turn_sched.specs.declared.chooser.Ask.{Ask}
use Rattle.slot_picks.specs.Feeding as feeding
use Rattle.slot_picks.specs.Feeding.{HaveDone, IsLastShown, is_last}
use Rattle.slot_picks.proofs.Looping.{fed_lasts, fed_stays, last_of_lasts, shown_all}
use Rattle.widget_host.specs.declared.host.Host.{Host}
use Rattle.widget_host.specs.Housed as housed
use Rattle.widget_host.specs.Housed.{AreShown, HoldAll, KeepsHost, Passes, PassesUntil, WantsMemory, accepts, chains, channels, given, homes, journal, names, seens, told}
use Rattle.widget_host.specs.Rounds.{AreFed, PassesRounds, StepWantsMemory, in_pick, no_pass, one_pick, one_round}
use Rattle.widget_host.proofs.Lasts.{some_is}
use Rattle.widget_host.proofs.Lived.{lasts_of, lasts_shown}
use Rattle.widget_host.proofs.Passed.{wants_here}
use Rattle.widget_host.proofs.Rounding.{GivesPosts}
use Rattle.widget_host.proofs.Staying.{host_here, host_then}

pub lasts_twice : (cs : List (List ℕ)) → lasts_of (lasts_of cs) ≡ lasts_of cs
lasts_twice [] = refl
lasts_twice (c ∷ cs) = ap (λ ds. (last_life c ∷ []) ∷ ds) (lasts_twice cs)

-- What led from a host to another: lives were given what rounds give, and the last lives of slots are the same.
pub record OnWay (k : ℕ) (first cur : Host) : Type 0 where
  pub stays : KeepsHost first cur
  pub fed : (fs : List (Option Fed)) → AreFed first fs
      → (gs : List (Option Fed)) × ((hs : List (Option Fed)) → RoundsTo (channels first) (names first) gs hs → RoundsTo (channels first) (names first) fs hs) × AreFed cur gs
  pub ended : (v : ℕ) (s t : Seen) → is_last v (chains first) ≡ false → slice_get (seens first) v ≡ Some s → slice_get (seens cur) v ≡ Some t → due t ≡ due s
  pub lasts : lasts_of (chains cur) ≡ lasts_of (chains first)
  pub passes : PassesRounds k first cur
  pub given : given cur ≡ given first

pub way_here : (k : ℕ) (h : Host) → OnWay k h h
way_here k h = record {
  stays = host_here h;
  fed = λ fs f. (fs, λ hs r. r, f);
  ended = λ v s t out a b. ap due (some_is t s (sym b ∙ a));
  lasts = refl;
  passes = no_pass;
  given = refl;
}

pub rounds_then : (k : ℕ) (first mid new : Host) → PassesRounds k first mid → Passes k mid new → PassesRounds k first new
rounds_then k first mid new p housed.no_pick = p
rounds_then k first mid new p (housed.one_pick {mid = m} picks one holds) = one_pick (rounds_then k first mid m p picks) one holds

due_at : (ss ts : List Seen) (v : ℕ) (t : Seen) → map due ts ≡ map due ss → slice_get ts v ≡ Some t → (s : Seen) × (slice_get ss v ≡ Some s) × (due t ≡ due s)
due_at ss [] v t e at = cc
due_at [] (u ∷ ts) v t e at = cc
due_at (s ∷ ss) (u ∷ ts) zero t e at = (s, refl, ap due (sym (some_is u t at)) ∙ heads s u ss ts e)
  where
    heads : (s u : Seen) (ss ts : List Seen) → map due (u ∷ ts) ≡ map due (s ∷ ss) → due u ≡ due s
    heads s u ss ts e = cc
due_at (s ∷ ss) (u ∷ ts) (suc v) t e at = due_at ss ts v t (tails s u ss ts e) at
  where
    tails : (s u : Seen) (ss ts : List Seen) → map due (u ∷ ts) ≡ map due (s ∷ ss) → map due ts ≡ map due ss
    tails s u ss ts e = cc

-- the same lives are last
same_lasts : (first cur : Host) → lasts_of (chains cur) ≡ lasts_of (chains first) → (v : ℕ) → is_last v (chains cur) ≡ is_last v (chains first)
same_lasts first cur e v = sym (last_of_lasts v (chains cur)) ∙ ap (is_last v) e ∙ last_of_lasts v (chains first)

-- the same is shown
shown_stays : (was is : ℕ → Bool) → ((v : ℕ) → is v ≡ was v) → (ss ts : List Seen) → ts ≡ ss → (cs : List (List ℕ)) (fs : List (Option Fed)) → feeding.AreShown was ss cs fs → feeding.AreShown is ts cs fs
shown_stays was is same ss ts seen [] [] h = tt
shown_stays was is same ss ts seen [] (f ∷ fs) h = absurd h
shown_stays was is same ss ts seen (c ∷ cs) [] h = absurd h
shown_stays was is same ss ts seen (c ∷ cs) (f ∷ fs) h = (one f h.0, shown_stays was is same ss ts seen cs fs h.1)
  where
    one : (g : Option Fed) → IsLastShown was ss (last_life c) g → IsLastShown is ts (last_life c) g
    one None h = same (last_life c) ∙ h
    one (Some g) h = (same (last_life c) ∙ h.0, λ s at. h.1 s (sym (ap (λ us. slice_get us (last_life c)) seen) ∙ at))

module _ (k : ℕ) (first mid new : Host) (way : OnWay k first mid) where
  -- picks until no slot is ready
  pub way_settled : map due (seens new) ≡ map due (seens mid) → chains new ≡ lasts_of (chains mid) → told new ≡ told mid → given new ≡ given mid → KeepsHost mid new → PassesUntil k mid true new → OnWay k first new
  way_settled dues alone taken counted stays passes = record {
    stays = host_then first mid new way.stays stays;
    fed = λ fs f. (let g = way.fed fs f in (
      g.0,
      g.1,
      subst (λ cs. feeding.AreFed (accepts new) (seens new) (told new) cs g.0) (sym alone)
          (fed_lasts (accepts new) (seens new) (told new) (chains mid) g.0 (fed_stays (accepts mid) (accepts new) stays.accepts (seens mid) (seens new) (told mid) (told new) dues taken (chains mid) g.0 g.2)),
    ));
    ended = λ v s t out a b. (let u = due_at (seens mid) (seens new) v t dues b in u.2 ∙ way.ended v s u.0 out a u.1);
    lasts = ap lasts_of alone ∙ (lasts_twice (chains mid) ∙ way.lasts);
    passes = rounds_then k first mid new way.passes (subst (Passes k mid) (sym (passes.is refl)) passes.picks);
    given = counted ∙ way.given;
  }

  -- a round that delivers something
  pub way_delivered : HaveDone (seens mid) → GivesPosts true mid new → map image (seens new) ≡ map image (seens mid)
      → ((v : ℕ) → is_last v (chains mid) ≡ false → slice_get (seens new) v ≡ slice_get (seens mid) v)
      → chains new ≡ chains mid → journal new ≡ journal mid → given new ≡ given mid → HoldAll new → KeepsHost mid new → OnWay k first new
  way_delivered done delivers images others same kept counted holds stays = record {
    stays = host_then first mid new way.stays stays;
    fed = λ fs f. (let g = way.fed fs f in let d = delivers g.0 g.2 done in (
      round (channels first) (names first) g.0,
      λ hs r. g.1 hs (again (λ quiet. d.0 (subst (λ ns. IsQuiet (channels mid) ns g.0) (sym way.stays.plan.names) (subst (λ cs. IsQuiet cs (names first) g.0) (sym way.stays.plan.channels) quiet))) r),
      subst (λ ns. AreFed new (round (channels first) ns g.0)) way.stays.plan.names (subst (λ cs. AreFed new (round cs (names mid) g.0)) way.stays.plan.channels d.1),
    ));
    ended = λ v s t out a b. way.ended v s t out a (sym (others v (same_lasts first mid way.lasts v ∙ out)) ∙ b);
    lasts = ap lasts_of same ∙ way.lasts;
    passes = one_round way.passes images kept holds;
    given = counted ∙ way.given;
  }

  -- a round that delivers nothing ends it
  pub way_ended : HaveDone (seens mid) → GivesPosts false mid new → seens new ≡ seens mid → chains new ≡ chains mid → lasts_of (chains mid) ≡ chains mid → KeepsHost mid new
      → (fs : List (Option Fed)) → AreFed first fs → (gs : List (Option Fed)) × RoundsTo (channels first) (names first) fs gs × AreFed new gs × AreShown new (chains new) (map (option_map state) gs)
  way_ended done delivers seen same alone stays fs f =
      let g = way.fed fs f in
      let posts = delivers g.0 g.2 done in (
        g.0,
        g.1 g.0 (ended (subst (λ ns. IsQuiet (channels first) ns g.0) way.stays.plan.names (subst (λ cs. IsQuiet cs (names mid) g.0) way.stays.plan.channels posts.0))),
        posts.1,
        subst (λ cs. AreShown new cs (map (option_map state) g.0)) (alone ∙ sym same)
            (lasts_shown new (chains mid) g.0 (shown_stays (accepts mid) (accepts new) stays.accepts (seens mid) (seens new) seen (chains mid) g.0 (shown_all (accepts mid) (seens mid) (told mid) done (chains mid) g.0 g.2))),
      )

  pub way_others : HaveDone (seens mid) → seens new ≡ seens mid → (v : ℕ) (s t : Seen) → is_last v (chains first) ≡ false → slice_get (seens first) v ≡ Some s → slice_get (seens new) v ≡ Some t → image t ≡ due s
  way_others done seen v s t out a b = let at : slice_get (seens mid) v ≡ Some t = sym (ap (λ ss. slice_get ss v) seen) ∙ b in done v t at ∙ way.ended v s t out a at

-- what was refused is not Ok
pub err_stops : {T E : Type 0} (A : Type 0) (r : Result T E) → IsErr r → is_ok r ≡ true → A
err_stops A (Ok x) err ok = absurd (let both : false ≡ true = err in cc)
err_stops A (Err x) err ok = absurd (let both : false ≡ true = ok in cc)

-- where a settle was refused memory was wanted in one of its picks
pub pick_wants : (ended : Bool) (last new : Host) → (ended ≡ true → new ≡ last) → (ended ≡ false → WantsMemory last new) → StepWantsMemory last new
pick_wants true last new is wants = subst (StepWantsMemory last) (sym (is refl)) (in_pick (wants_here last))
pick_wants false last new is wants = in_pick (wants refl)

-- what was settled from a host that is the first one
pub settled_from : (k : ℕ) (first cur mid : Host) (asks : List Ask) (room : ℕ) (asks_first : List Ask) (room_first : ℕ) (asks_new : List Ask) (room_new : ℕ) → cur ≡ first → asks ≡ asks_first → room ≡ room_first
    → SettledSlots k (homes cur) (chains cur) (chains mid) (seens cur) (seens mid) (journal cur) (journal mid) asks room asks_new room_new
    → SettledSlots k (homes first) (chains first) (chains mid) (seens first) (seens mid) (journal first) (journal mid) asks_first room_first asks_new room_new
settled_from k first cur mid asks room asks_first room_first asks_new room_new same a r s =
    subst (λ n. SettledSlots k (homes first) (chains first) (chains mid) (seens first) (seens mid) (journal first) (journal mid) asks_first n asks_new room_new) r
    (subst (λ xs. SettledSlots k (homes first) (chains first) (chains mid) (seens first) (seens mid) (journal first) (journal mid) xs room asks_new room_new) a
    (subst (λ h. SettledSlots k (homes h) (chains h) (chains mid) (seens h) (seens mid) (journal h) (journal mid) asks room asks_new room_new) same s))

-- and to one that is seen as it was
pub settled_to : (k : ℕ) (first mid new : Host) (asks : List Ask) (room : ℕ) (asks_new : List Ask) (room_new : ℕ) → chains new ≡ chains mid → seens new ≡ seens mid → journal new ≡ journal mid
    → SettledSlots k (homes first) (chains first) (chains mid) (seens first) (seens mid) (journal first) (journal mid) asks room asks_new room_new
    → SettledSlots k (homes first) (chains first) (chains new) (seens first) (seens new) (journal first) (journal new) asks room asks_new room_new
settled_to k first mid new asks room asks_new room_new cs ss js s =
    subst (λ ks. SettledSlots k (homes first) (chains first) (chains new) (seens first) (seens new) (journal first) ks asks room asks_new room_new) (sym js)
    (subst (λ ts. SettledSlots k (homes first) (chains first) (chains new) (seens first) ts (journal first) (journal mid) asks room asks_new room_new) (sym ss)
    (subst (λ ds. SettledSlots k (homes first) (chains first) ds (seens first) (seens mid) (journal first) (journal mid) asks room asks_new room_new) (sym cs) s))
