-- Round robin takes the widgets that have entries in their order.
use Rattle.std.proofs.Common.{◌≡◌, ℕ, ◌+◌, ◌-◌, ◌<◌, ◌≤◌, List, [], ◌∷◌, ◌++◌, Bool, true, false, refl, sym, ap, ◌∙◌, subst, arith, Option, Some, None, ◌⊎◌, inl, inr, eq-eqb}
use Rattle.std.specs.Prelude.{nat_eq, nat_lt, if◌then◌else◌}
use Rattle.std.proofs.lemmas.Bool.{cases_lt, lt-ltb, le-ltb, ltb-true}
use Rattle.code_units.specs.declared.owner.TheConstants.{WIDGETS}
use Rattle.turn_sched.specs.declared.chooser.Ask.{Ask}
use Rattle.turn_sched.specs.Asks.{is_ready}
use Rattle.turn_sched.specs.Turns.{is_above, TakesNext, TakeTurns, one_ask}
use Rattle.life_laws.specs.declared.entry.PickEntry.{PickEntry}
use Rattle.std.specs.List.{list_any}
use Rattle.std.specs.Prelude.{All}
use Rattle.std.proofs.Common.{length, drop, length-drop}
use Rattle.std.proofs.lemmas.List.{length_push}
use Rattle.life_laws.specs.Life.{Seen, ready}
use Rattle.life_laws.specs.Journal.{journal_room, ready_from, kept, keeps}
use Rattle.life_laws.proofs.Asking.{flags}
use Rattle.life_laws.specs.Asked.{takes, ready_at, Asks, Entries, with_entry, was_idle, Settled}
use Rattle.life_laws.specs.Asked as asked
use Rattle.life_laws.specs.Order.{has_entry, IsNext, InOrder}
use Rattle.life_laws.specs.PickLaws.{page_slots}

abbrev nobody : ℕ → Bool
nobody w = false

by_first : (b x y : Bool) → (x ≡ true → y ≡ true) → (if b then true else x) ≡ true → (if b then true else y) ≡ true
by_first true x y f e = refl
by_first false x y f e = f e

or_later : (b x : Bool) → x ≡ true → (if b then true else x) ≡ true
or_later true x e = refl
or_later false x e = e

-- a widget that has an entry is taken
taken_of : (after : ℕ → Bool) (qs : List Ask) (es : List PickEntry) (w : ℕ) → Entries after qs es → has_entry w es ≡ true → takes w qs ≡ true
taken_of after [] [] w h e = cc
taken_of after [] (x ∷ es) w h e = elim h [ ]
taken_of after (a ∷ qs) (x ∷ es) w (with_entry l f h) e =
    let P : ℕ → Type 0 = λ n. (if nat_eq n w then true else has_entry w es) ≡ true in
    by_first (nat_eq a.taken w) (has_entry w es) (takes w qs) (taken_of after qs es w h) (subst P f e)
taken_of after (a ∷ qs) es w (was_idle f m h) e = or_later (nat_eq a.taken w) (takes w qs) (taken_of after qs es w h e)

-- who is taken at one of these asks is ready at the first
ready_first : (after : ℕ → Bool) (a : Ask) (qs : List Ask) (w : ℕ) → w < WIDGETS → Asks after (a ∷ qs) → takes w (a ∷ qs) ≡ true → is_ready a w ≡ true
ready_first after a qs w l h e = h.0 w l ∙ ap (λ b. if b then true else after w) e

-- what is next of all that are ready is next of some of them
next_of : (last : Option ℕ) (a : Ask) (these : ℕ → Bool) (x : ℕ) → a.taken ≡ x → TakesNext last a → ((w : ℕ) → w < WIDGETS → these w ≡ true → is_ready a w ≡ true) → IsNext last x these
next_of last a these x e t sub =
    let P : ℕ → Type 0 = λ n. IsNext last n these in
    subst P e (record {
      above = λ w l h u. t.above w l (sub w l h) u;
      least_above = λ w l h u. t.least_above w l (sub w l h) u;
      least = λ w l h n. t.least w l (sub w l h) n;
    })

above_false : (b w : ℕ) → w ≤ b → nat_lt b w ≡ true → ⊥
above_false b w l e = let f : nat_lt b w ≡ false = le-ltb b w l in cc

-- an idle ask between two entries changes nothing
past_idle : (last : Option ℕ) (a : Ask) (these : ℕ → Bool) (x : ℕ) → TakesNext last a → ((w : ℕ) → w < WIDGETS → these w ≡ true → is_ready a w ≡ true) → (these a.taken ≡ true → ⊥) → x < 32 → these x ≡ true → IsNext (Some a.taken) x these → IsNext last x these
past_idle last a these x t sub gone small is_in n = record {
  above = λ w l h u. up w l h u (t.above w l (sub w l h) u);
  least_above = λ w l h u. low w l h (t.least_above w l (sub w l h) u);
  least = λ w l h no_one. first w l h no_one;
}
  where
    differs : (w : ℕ) → these w ≡ true → w ≡ a.taken → ⊥
    differs w h e = gone (let P : ℕ → Type 0 = λ v. these v ≡ true in subst P e h)

    over : (w : ℕ) → these w ≡ true → a.taken ≤ w → nat_lt a.taken w ≡ true
    over w h le = lt-ltb a.taken w (by (cases_lt a.taken w))
      where
        by : (a.taken < w) ⊎ (w ≤ a.taken) → a.taken < w
        by (inl lt) = lt
        by (inr ge) = absurd (differs w h (omega arith))

    low : (w : ℕ) → w < WIDGETS → these w ≡ true → a.taken ≤ w → x ≤ w
    low w l h le = n.least_above w l h (over w h le)

    up : (w : ℕ) → w < WIDGETS → these w ≡ true → is_above last w ≡ true → is_above last a.taken ≡ true → is_above last x ≡ true
    up w l h u v = rises last (n.above w l h (over w h (t.least_above w l (sub w l h) u))) v
      where
        rises : (o : Option ℕ) → nat_lt a.taken x ≡ true → is_above o a.taken ≡ true → is_above o x ≡ true
        rises None e f = cc
        rises (Some z) e f = lt-ltb z x (let p : a.taken < x = ltb-true a.taken x e in let q : z < a.taken = ltb-true z a.taken f in omega arith)

    first : (w : ℕ) → w < WIDGETS → these w ≡ true → (is_above last x ≡ true → ⊥) → x ≤ w
    first w l h no_one = by (cases_lt a.taken x)
      where
        by : (a.taken < x) ⊎ (x ≤ a.taken) → x ≤ w
        by (inl lt) = low w l h (t.least w l (sub w l h) (λ v. no_one (rises last (lt-ltb a.taken x lt) v)))
          where
            rises : (o : Option ℕ) → nat_lt a.taken x ≡ true → is_above o a.taken ≡ true → is_above o x ≡ true
            rises None e f = cc
            rises (Some z) e f = lt-ltb z x (let p : a.taken < x = ltb-true a.taken x e in let q : z < a.taken = ltb-true z a.taken f in omega arith)
        by (inr ge) = n.least w l h (above_false a.taken x ge)

abbrev pub AllSmall : List PickEntry → Type 0
AllSmall [] = Unit {0}
AllSmall (e ∷ es) = (e.widget < WIDGETS) × AllSmall es

first_has : (e : PickEntry) (es : List PickEntry) → has_entry e.widget (e ∷ es) ≡ true
first_has e es = ap (λ b. if b then true else has_entry e.widget es) (eq-eqb e.widget e.widget refl)

past : (last : Option ℕ) (a : Ask) (es : List PickEntry) → TakesNext last a → ((w : ℕ) → w < WIDGETS → has_entry w es ≡ true → is_ready a w ≡ true) → (has_entry a.taken es ≡ true → ⊥) → AllSmall es → InOrder (Some a.taken) es → InOrder last es
past last a [] t sub gone small h = tt
past last a (e ∷ es) t sub gone small h = (past_idle last a (λ w. has_entry w (e ∷ es)) e.widget t sub gone small.0 (first_has e es) h.0, h.1)

small_of : (after : ℕ → Bool) (qs : List Ask) (es : List PickEntry) → Entries after qs es → AllSmall es
small_of after [] [] h = tt
small_of after [] (x ∷ es) h = elim h [ ]
small_of after (a ∷ qs) (x ∷ es) (with_entry l f h) = (l, small_of after qs es h)
small_of after (a ∷ qs) es (was_idle f m h) = small_of after qs es h

-- the order of the entries
pub in_order : (last : Option ℕ) (qs : List Ask) (es : List PickEntry) → TakeTurns last qs → Asks nobody qs → Entries nobody qs es → InOrder last es
in_order last [] [] t h e = tt
in_order last [] (x ∷ es) t h e = elim e [ ]
in_order last (a ∷ qs) (x ∷ es) (one_ask t ts) h (with_entry l0 f e) =
    let P : Option ℕ → Type 0 = λ o. TakeTurns o qs in (
      next_of last a (λ w. has_entry w (x ∷ es)) x.widget (sym f) t (λ w l i. ready_first nobody a qs w l h (taken_of nobody (a ∷ qs) (x ∷ es) w (with_entry l0 f e) i)),
      in_order (Some x.widget) qs es (subst P (ap Some (sym f)) ts) h.1 e,
    )
in_order last (a ∷ qs) es (one_ask t ts) h (was_idle f m e) =
    past last a es t (λ w l i. ready_first nobody a qs w l h (or_later (nat_eq a.taken w) (takes w qs) (taken_of nobody qs es w e i))) (λ i. (let g : takes a.taken qs ≡ true = taken_of nobody qs es a.taken e i in cc)) (small_of nobody qs es e) (in_order (Some a.taken) qs es ts h.1 e)

-- where no widget is ready at the end
asks_quiet : (after : ℕ → Bool) (qs : List Ask) → ((w : ℕ) → after w ≡ false) → Asks after qs → Asks nobody qs
asks_quiet after [] f h = tt
asks_quiet after (a ∷ qs) f h = (λ w l. h.0 w l ∙ ap (λ b. if takes w (a ∷ qs) then true else b) (f w), asks_quiet after qs f h.1)

entries_quiet : (after : ℕ → Bool) (qs : List Ask) (es : List PickEntry) → Entries after qs es → Entries nobody qs es
entries_quiet after [] [] h = asked.no_ask
entries_quiet after [] (x ∷ es) h = elim h [ ]
entries_quiet after (a ∷ qs) (x ∷ es) (with_entry l f h) = with_entry l f (entries_quiet after qs es h)
entries_quiet after (a ∷ qs) es (was_idle f m h) = was_idle f refl (entries_quiet after qs es h)

-- a journal that is not full has all
whole : (xs : List PickEntry) → length xs ≤ journal_room → kept xs ≡ xs
whole xs h = ap (λ n. drop n xs) (let e : length xs - journal_room ≡ 0 = omega arith in e)

keeps_length : (js es : List PickEntry) → journal_room ≤ length js → journal_room ≤ length (keeps js es)
keeps_length js [] h = h
keeps_length js (e ∷ es) h = keeps_length (kept (js ++ e ∷ [])) es (let l = length-drop (length (js ++ e ∷ []) - journal_room) (js ++ e ∷ []) in let p = length_push js e in omega arith)

append_assoc : (xs : List PickEntry) (e : PickEntry) (ys : List PickEntry) → (xs ++ e ∷ []) ++ ys ≡ xs ++ (e ∷ ys)
append_assoc [] e ys = refl
append_assoc (x ∷ xs) e ys = ap (λ zs. x ∷ zs) (append_assoc xs e ys)

append_nothing : (xs : List PickEntry) → xs ++ [] ≡ xs
append_nothing [] = refl
append_nothing (x ∷ xs) = ap (λ ys. x ∷ ys) (append_nothing xs)

keeps_all : (js es : List PickEntry) → length (keeps js es) < journal_room → keeps js es ≡ js ++ es
keeps_all js [] h = sym (append_nothing js)
keeps_all js (e ∷ es) h = by (cases_lt journal_room (length (js ++ e ∷ []))) (keeps_all (kept (js ++ e ∷ [])) es h) (keeps_length (kept (js ++ e ∷ [])) es)
  where
    by : (journal_room < length (js ++ e ∷ [])) ⊎ (length (js ++ e ∷ []) ≤ journal_room) → keeps js (e ∷ es) ≡ kept (js ++ e ∷ []) ++ es → (journal_room ≤ length (kept (js ++ e ∷ [])) → journal_room ≤ length (keeps js (e ∷ es))) → keeps js (e ∷ es) ≡ js ++ (e ∷ es)
    by (inl lt) f g = absurd (let l = length-drop (length (js ++ e ∷ []) - journal_room) (js ++ e ∷ []) in let k = g (omega arith) in omega arith)
    by (inr ge) f g = f ∙ (ap (λ xs. xs ++ es) (whole (js ++ e ∷ []) ge) ∙ append_assoc js e es)

-- the journal of a settle by round robin from nothing
pub by_turns : (k : ℕ) (old new : List Seen) (ks : List PickEntry) (room : ℕ) (asks_new : List Ask) (room_new : ℕ) → Settled k old new [] ks [] room asks_new room_new → ready_from 0 new ≡ [] → length (ready_from 0 old) ≤ page_slots → TakeTurns None asks_new → length ks < journal_room → room ≡ journal_room + page_slots → InOrder None ks × All (λ (e : PickEntry). e.slice ≡ k) ks
by_turns k old new ks room asks_new room_new h quiet sixteen turns short big =
    let all : ks ≡ h.went.added = h.went.journal ∙ keeps_all [] h.went.added (let P : ℕ → Type 0 = λ n. n < journal_room in subst P (ap (length {A = PickEntry}) h.went.journal) short) in
    let few : h.chosen.asked ≤ room = (let f = h.chosen.few in let q = ap (length {A = ℕ}) quiet in let l = ap (length {A = PickEntry}) all in omega arith) in
    let own = h.chosen.kept few in
    let nobody_left : (w : ℕ) → ready_at 0 new w ≡ false = λ w. sym (flags 0 w new) ∙ ap (list_any (nat_eq w)) quiet in
    let P : List Ask → Type 0 = λ qs. TakeTurns None qs in
    let Q : List PickEntry → Type 0 = λ es. InOrder None es in
    let R : List PickEntry → Type 0 = λ es. All (λ (e : PickEntry). e.slice ≡ k) es in (
      subst Q (sym all) (in_order None own.mine h.went.added (subst P own.kept turns) (asks_quiet (ready_at 0 new) own.mine nobody_left own.asks) (entries_quiet (ready_at 0 new) own.mine h.went.added own.entries)),
      subst R (sym all) h.went.slices,
    )

ready_few : (v : ℕ) (ss : List Seen) → length (ready_from v ss) ≤ length ss
ready_few v [] = omega arith
ready_few v (s ∷ ss) = by (ready s) (ready_few (v + 1) ss)
  where
    by : (b : Bool) → length (ready_from (v + 1) ss) ≤ length ss → length (if b then v ∷ ready_from (v + 1) ss else ready_from (v + 1) ss) ≤ length (s ∷ ss)
    by true h = omega arith
    by false h = omega arith

pub by_round_robin : (k : ℕ) (old new : List Seen) (js ks : List PickEntry) (a0 : List Ask) (room : ℕ) (asks_new all_asks : List Ask) (room_new : ℕ) → Settled k old new js ks a0 room asks_new room_new → js ≡ [] → a0 ≡ [] → ready_from 0 new ≡ [] → length old ≤ page_slots → TakeTurns None all_asks → all_asks ≡ asks_new → room ≡ journal_room + page_slots → length ks < journal_room → InOrder None ks × All (λ (e : PickEntry). e.slice ≡ k) ks
by_round_robin k old new js ks a0 room asks_new all_asks room_new h e f quiet sixteen turns g big short =
    let P : List PickEntry → Type 0 = λ xs. Settled k old new xs ks a0 room asks_new room_new in
    let Q : List Ask → Type 0 = λ xs. Settled k old new [] ks xs room asks_new room_new in
    let R : List Ask → Type 0 = λ xs. TakeTurns None xs in
    by_turns k old new ks room asks_new room_new (subst Q f (subst P e h)) quiet (let m = ready_few 0 old in omega arith) (subst R g turns) short big
