-- The order of picks by round robin over slots of one life each.
use Rattle.std.proofs.Common.{◌≡◌, ℕ, ◌+◌, ◌-◌, ◌<◌, ◌≤◌, List, [], ◌∷◌, ◌++◌, length, map, Bool, true, false, Option, Some, None, refl, ap, subst, ◌∙◌, arith}
use Rattle.std.specs.Prelude.{slice_get, unwrap_or, if◌then◌else◌}
use Rattle.std.proofs.lemmas.List.{length-map, length-drop, length_push}
use Rattle.code_units.specs.declared.owner.TheConstants.{WIDGETS}
use Rattle.life_laws.specs.Life.{Seen, due, ready}
use Rattle.turn_sched.specs.declared.chooser.Ask.{Ask}
use Rattle.turn_sched.specs.Turns.{TakeTurns}
use Rattle.life_laws.specs.declared.entry.PickEntry.{PickEntry}
use Rattle.life_laws.specs.Journal.{journal_room, kept, keeps, ready_from}
use Rattle.life_laws.specs.Asked.{Entries, with_entry, was_idle, Chosen, ready_at}
use Rattle.life_laws.specs.Order.{InOrder}
use Rattle.life_laws.specs.PickLaws.{page_slots}
use Rattle.life_laws.proofs.PicksHold.{order_law}
use Rattle.life_laws.specs.Slots.{slot_ready}
use Rattle.life_laws.specs.Settled.{flag, slot_flags, homed, SettledSlots}
use Rattle.life_laws.proofs.SlotsSettling.{flags_length}

-- ## Slots as lives that are ready or not

due_flag : (a b : Bool) → due (flag a) ≡ due (flag b)
due_flag true true = refl
due_flag true false = refl
due_flag false true = refl
due_flag false false = refl

dues_flags : (old new : List Seen) (cs ds : List (List ℕ)) → length cs ≡ length ds → map due (slot_flags new ds) ≡ map due (slot_flags old cs)
dues_flags old new [] [] even = refl
dues_flags old new [] (d ∷ ds) even = absurd (omega (arith, even))
dues_flags old new (c ∷ cs) [] even = absurd (omega (arith, even))
dues_flags old new (c ∷ cs) (d ∷ ds) even =
    ap (λ o. o ∷ map due (slot_flags new ds)) (due_flag (slot_ready new d) (slot_ready old c))
    ∙ ap (λ os. due (flag (slot_ready old c)) ∷ os) (dues_flags old new cs ds (omega (arith, even)))

ready_few : (v : ℕ) (ss : List Seen) → length (ready_from v ss) ≤ length ss
ready_few v [] = omega arith
ready_few v (s ∷ ss) = by (ready s) (ready_few (v + 1) ss) where
  by : (b : Bool) → length (ready_from (v + 1) ss) ≤ length ss → length (if b then v ∷ ready_from (v + 1) ss else ready_from (v + 1) ss) ≤ length (s ∷ ss)
  by true few = omega (arith, few)
  by false few = omega (arith, few)

-- ## Entries

abbrev AllBelow : List PickEntry → Type 0
AllBelow [] = Unit {0}
AllBelow (e ∷ es) = (e.widget < WIDGETS) × AllBelow es

below_of : (after : ℕ → Bool) (qs : List Ask) (es : List PickEntry) → Entries after qs es → AllBelow es
below_of after [] [] h = tt
below_of after [] (x ∷ es) h = elim h [ ]
below_of after (a ∷ qs) (x ∷ es) (with_entry l f h) = (l, below_of after qs es h)
below_of after (a ∷ qs) es (was_idle f m h) = below_of after qs es h

-- a journal that is not full has all entries
has_all : (js es : List PickEntry) → length (keeps js es) < journal_room → length js + length es ≤ length (keeps js es)
has_all js [] short = omega arith
has_all js (e ∷ es) short =
    let r = has_all (kept (js ++ e ∷ [])) es short in
    let l = length-drop (length (js ++ e ∷ []) - journal_room) (js ++ e ∷ []) in
    let p = length_push js e in
    omega (arith, r, l, p, short)

-- lives of slots have the numbers of their slots
module _ (homes : List ℕ) (own : (v w : ℕ) → slice_get homes v ≡ Some w → w ≡ v) where
  home_is : (o : Option ℕ) (v : ℕ) → slice_get homes v ≡ o → unwrap_or o 32 < WIDGETS → unwrap_or o 32 ≡ v
  home_is None v at below = absurd (omega (arith, below))
  home_is (Some w) v at below = own v w at

  same_entry : (e : PickEntry) → (homed homes e).widget < WIDGETS → homed homes e ≡ e
  same_entry e below = ap (λ n. record e { widget = n }) (home_is (slice_get homes e.widget) e.widget refl below)

  same_entries : (es : List PickEntry) → AllBelow (map (homed homes) es) → map (homed homes) es ≡ es
  same_entries [] below = refl
  same_entries (e ∷ es) below = ap (λ x. x ∷ map (homed homes) es) (same_entry e below.0) ∙ ap (λ xs. e ∷ xs) (same_entries es below.1)

  -- picks from an empty journal, where it is not full at the end
  pub in_turn : (k : ℕ) (cs ds : List (List ℕ)) (old new : List Seen) (js ks : List PickEntry) (asks_old : List Ask) (room : ℕ) (asks : List Ask) (room_new : ℕ) → SettledSlots k homes cs ds old new js ks asks_old room asks room_new → js ≡ [] → asks_old ≡ [] → ready_from 0 (slot_flags new ds) ≡ [] → length cs ≡ length ds → length cs ≤ page_slots → TakeTurns None asks → room ≡ journal_room + page_slots → length ks < journal_room → InOrder None ks
  in_turn k cs ds old new js ks asks_old room asks room_new settled empty unasked quiet even few turns big short =
      let s = subst (λ xs. SettledSlots k homes cs ds old new [] ks xs room asks room_new) unasked (subst (λ xs. SettledSlots k homes cs ds old new xs ks asks_old room asks room_new) empty settled) in
      let added = s.went.added in
      let many = has_all [] added (subst (λ xs. length xs < journal_room) s.went.journal short) in
      let asked : s.chosen.asked ≤ room = omega (arith, s.chosen.few, length-map added (homed homes), many, ap (length {A = PickEntry}) s.went.journal, short, ready_few 0 (slot_flags old cs), flags_length old cs, few, big) in
      let mine = s.chosen.kept asked in
      let same : map (homed homes) added ≡ added = same_entries added (below_of (ready_at 0 (slot_flags new ds)) mine.mine (map (homed homes) added) mine.entries) in
      let chosen = subst (λ es. Chosen (slot_flags old cs) (slot_flags new ds) es [] room asks room_new) same s.chosen in
      (order_law k (slot_flags old cs) (slot_flags new ds) ks room room_new asks
      (record { went = record { dues = dues_flags old new cs ds even; added = added; journal = s.went.journal; slices = s.went.slices }; chosen = chosen })
      quiet (omega (arith, flags_length old cs, few)) turns big short).0
