-- A page that has done with its items.
use Rattle.std.proofs.Common.{◌≡◌, ℕ, zero, suc, ◌+◌, ◌-◌, ◌≤◌, List, [], ◌∷◌, ◌++◌, map, length, take, All, Bool, true, false, Option, Some, None, refl, sym, ap, subst, ◌∙◌, arith}
use Rattle.std.specs.Prelude.{slice_get, option_map}
use Rattle.std.proofs.lemmas.List.{length-map}
use Rattle.std.proofs.lemmas.List.Elements.{All-append, All-drop}
use Rattle.trace_reader.specs.Said.{Said}
use Rattle.turn_sched.specs.declared.chooser.Ask.{Ask}
use Rattle.turn_sched.specs.Turns.{TakeTurns}
use Rattle.life_laws.specs.declared.entry.PickEntry.{PickEntry}
use Rattle.life_laws.specs.declared.entry.Picked.{Picked}
use Rattle.life_laws.specs.declared.entry.Picked.TheVariants as picked
use Rattle.life_laws.specs.Journal.{entry_of, journal_after, journal_room, kept, ready_from}
use Rattle.life_laws.specs.PickLaws.{page_slots}
use Rattle.life_laws.specs.Slots.{has}
use Rattle.life_laws.specs.Chains.{last_at, last_life, listed}
use Rattle.life_laws.specs.Settled.{PickedOn, SettledSlots, slot_flags}
use Rattle.life_laws.specs.Fed.{Fed, RoundsTo, state}
use Rattle.page_plan.specs.declared.PageSpec.{PageSpec}
use Rattle.page_plan.specs.declared.SlotContent.{SlotContent}
use Rattle.page_plan.specs.Pages.{piece_of}
use Rattle.slot_lives.specs.Lives as lives
use Rattle.slot_lives.specs.Lives.{swaps_in}
use Rattle.widget_host.specs.declared.host.Host.{Host}
use Rattle.widget_host.specs.Given.{AreRetired}
use Rattle.widget_host.specs.Housed.{AreShown, IsHoused, KeepsHost, accepts, chains, channels, ends, given, homes, journal, marked, names, scripts, seens}
use Rattle.widget_host.specs.Rounds.{PassesRounds, no_pass, one_pick, one_round, is_last}
use Rattle.page_play.specs.Played.{name_of, fed_of, begun_in, ended_in, HasScriptsOf, HaveScriptsOf, IsPlayed}
use Rattle.page_play.specs.Playing.{Plays}
use Rattle.page_play.specs.Settled.{GivesAll, IsSettled}
use Rattle.page_play.proofs.Begun.{begun_there}
use Rattle.page_play.proofs.Chained.{singles_lasts, last_alone, alone_listed, alone_twice}
use Rattle.page_play.proofs.Scripted.{scripts_stay, have_stay}
use Rattle.page_play.proofs.Ordered.{in_turn}

-- ## The journal

module _ (k : ℕ) where
  abbrev HaveSlice : List PickEntry → Type 0
  HaveSlice js = All (λ (e : PickEntry). e.slice ≡ k) js

  one_slice : (e : PickEntry) → e.slice ≡ k → HaveSlice (e ∷ [])
  one_slice e is zero d within = is
  one_slice e is (suc i) d within = absurd (omega (arith, within))

  kept_more : (js : List PickEntry) (e : PickEntry) → e.slice ≡ k → HaveSlice js → HaveSlice (kept (js ++ e ∷ []))
  kept_more js e is have = All-drop (λ (x : PickEntry). x.slice ≡ k) (length (js ++ e ∷ []) - journal_room) (js ++ e ∷ []) (All-append (λ (x : PickEntry). x.slice ≡ k) js (e ∷ []) have (one_slice e is))

  after_pick : (r : Picked) (e : PickEntry) (js : List PickEntry) → e.slice ≡ k → HaveSlice js → HaveSlice (journal_after r e js)
  after_pick picked.Idle e js is have = have
  after_pick (picked.Unfinished spent) e js is have = kept_more js e is have
  after_pick picked.Ended e js is have = kept_more js e is have

  -- each kept pick is of the slice
  passed_slices : {old new : Host} → PassesRounds k old new → HaveSlice (journal old) → HaveSlice (journal new)
  passed_slices no_pass have = have
  passed_slices (one_pick {w = w} {r = r} {mid = mid} passes p holds) have =
      subst HaveSlice (sym p.slot.journal) (after_pick r (entry_of p.slot.life k p.slot.was p.slot.is) (journal mid) refl (passed_slices passes have))
  passed_slices (one_round passes images same holds) have = subst HaveSlice (sym same) (passed_slices passes have)

  none_yet : (js : List PickEntry) → js ≡ [] → HaveSlice js
  none_yet js empty i d within = absurd (omega (arith, within, ap length empty))

-- ## What it shows

zero_more : (n : ℕ) → 0 + n ≡ n
zero_more n = omega arith

take_whole : {A : Type 0} (xs : List A) → take (length xs) xs ≡ xs
take_whole [] = refl
take_whole (x ∷ xs) = ap (λ ys. x ∷ ys) (take_whole xs)

module _ (spec : PageSpec) (swaps : List SlotContent) (items : List Said) (old new : Host) (p : Plays spec swaps items old)
    (lasts : chains new ≡ map (λ c. last_life c ∷ []) (chains old)) (stays : KeepsHost old new) where
  nobody : (v : ℕ) → listed v (chains new) ≡ false → has v (ends new) ≡ false → accepts new v ≡ false
  nobody v out never = stays.accepts v ∙ by (listed v (chains old)) refl where
    still : (b : Bool) → is_last v (chains old) ≡ b → listed v (chains old) ≡ true → ⊥
    still true e on = let f : true ≡ false = sym (ap (listed v) lasts ∙ alone_listed v (chains old) e) ∙ out in cc
    still false e on = let f : true ≡ false = sym (ap (has v) stays.ends ∙ p.leave v on e) ∙ never in cc

    by : (b : Bool) → listed v (chains old) ≡ b → accepts old v ≡ false
    by true e = absurd (still (is_last v (chains old)) refl e)
    by false e = p.none_else v e

  played_scripts : (w : ℕ) (f : Option Fed) → slice_get (begun_in spec swaps items) w ≡ Some f → HasScriptsOf new (last_at w (chains new)) f
  played_scripts w f at =
      let s = begun_there spec swaps items 0 w spec.slots.items f at in
      let last : last_at w (chains new) ≡ last_at w (chains old) = ap (last_at w) lasts ∙ last_alone w (chains old) in
      let has : HasScriptsOf old (last_at w (chains old)) f =
      subst (HasScriptsOf old (last_at w (chains old))) (ap (λ n. fed_of spec.libs.items s.0.fuel (lives.last_life s.0.content swaps items n)) (sym (zero_more w)) ∙ sym s.2) (p.scripts w s.0 s.1) in
      subst (λ v. HasScriptsOf new v f) (sym last) (scripts_stay old new (last_at w (chains old)) f (stays.scripts (last_at w (chains old))) has)

  pub has_played : (gs : List (Option Fed)) → RoundsTo (channels old) (names old) (begun_in spec swaps items) gs → AreShown new (chains new) (map (option_map state) gs)
      → AreRetired new (ends new) (map (option_map state) (ended_in spec swaps items)) → given new ≡ given old → ready_from 0 (slot_flags (seens new) (chains new)) ≡ []
      → IsHoused new → marked new ≡ false → IsPlayed spec swaps items new
  has_played gs rounds shown retired counted quiet housed unmarked = record {
    housed = housed;
    unmarked = unmarked;
    slots = ap length lasts ∙ length-map (chains old) (λ c. last_life c ∷ []) ∙ p.slots;
    laid = stays.laid (map name_of spec.slots.items) (map piece_of spec.pieces.items) p.laid;
    channels = stays.plan.channels ∙ p.channels;
    names = stays.plan.names ∙ p.names;
    given = counted ∙ p.given;
    swapped = ap length stays.ends ∙ p.swapped;
    quiet = quiet;
    alone = ap (map (λ c. last_life c ∷ [])) lasts ∙ alone_twice (chains old) ∙ sym lasts;
    fed = gs;
    rounds = subst (λ ns. RoundsTo spec.channels.items ns (begun_in spec swaps items) gs) p.names (subst (λ cs. RoundsTo cs (names old) (begun_in spec swaps items) gs) p.channels rounds);
    shown = shown;
    ended = retired;
    none_else = nobody;
    scripts = played_scripts;
    ended_scripts = subst (λ vs. HaveScriptsOf new vs (ended_in spec swaps items)) (sym stays.ends) (have_stay old new (ends old) (ended_in spec swaps items) stays.scripts p.ended_scripts);
    firsts = λ none. lasts ∙ ap (map (λ c. last_life c ∷ [])) (p.firsts none) ∙ singles_lasts 0 (length spec.slots.items);
  }

  -- how it came there
  pub has_settled : (slice : ℕ) (asks_old : List Ask) (room_old : ℕ) (asks : List Ask) (room : ℕ) → swaps_in items ≡ length swaps → length spec.slots.items ≤ page_slots
      → (channels old ≡ [] → SettledSlots slice (homes old) (chains old) (chains new) (seens old) (seens new) (journal old) (journal new) asks_old room_old asks room)
      → asks_old ≡ [] → room_old ≡ journal_room + page_slots → TakeTurns None asks
      → PassesRounds slice old new → given new ≡ given old → ready_from 0 (slot_flags (seens new) (chains new)) ≡ [] → IsHoused new → marked new ≡ false → IsSettled spec swaps items slice new
  has_settled slice asks_old room_old asks room whole few settled unasked big turns passes counted quiet housed unmarked = record {
    housed = housed;
    unmarked = unmarked;
    count = counted ∙ p.given;
    first = p.first;
    loads = p.loads;
    before = old;
    gives = subst (λ (xs : List SlotContent). GivesAll p.first items xs old) all p.gives;
    unspent = p.unspent;
    passes = passes;
    slices = passed_slices slice passes (none_yet slice (journal old) p.journal);
    quiet = quiet;
    lasts = lasts;
    picks = λ none. subst (λ js. PickedOn slice (chains old) (seens old) js (chains new) (seens new) (journal new)) p.journal (settled (p.channels ∙ none)).picks;
    order = λ none unswapped short. in_turn (homes old) (p.own unswapped) slice (chains old) (chains new) (seens old) (seens new) (journal old) (journal new) asks_old room_old asks room
        (settled (p.channels ∙ none)) p.journal unasked quiet even (omega (arith, p.slots, few)) turns big short;
  }
    where
      all : take (swaps_in items) swaps ≡ swaps
      all = ap (λ n. take n swaps) whole ∙ take_whole swaps

      even : length (chains old) ≡ length (chains new)
      even = sym (ap length lasts ∙ length-map (chains old) (λ c. last_life c ∷ []))
