-- One ask more.
use Rattle.std.proofs.Common.{◌≡◌, ◌≢◌, ℕ, zero, suc, ◌+◌, ◌<◌, ◌≤◌, List, [], ◌∷◌, ◌++◌, length, Bool, true, false, refl, sym, ap, ◌∙◌, subst, arith, Option, Some, None, eq-eqb, ◌⊎◌, inl, inr}
use Rattle.std.specs.Prelude.{slice_get, slice_set, nat_eq, if◌then◌else◌, ◌||◌}
use Rattle.std.specs.List.{list_any}
use Rattle.std.proofs.lemmas.Bool.{ne_eqb}
use Rattle.std.proofs.lemmas.Bool.Decides.{eqb_tells}
use Rattle.std.proofs.lemmas.List.{length_push}
use Rattle.std.specs.Prelude.{is_some, not}
use Rattle.code_units.specs.declared.owner.TheConstants.{WIDGETS}
use Rattle.life_laws.specs.Life.{Seen, Going, Work, ready, is_empty}
use Rattle.turn_sched.specs.declared.chooser.Ask.{Ask}
use Rattle.turn_sched.specs.Asks.{is_ready, KeepsAsk, IsAsk}
use Rattle.life_laws.specs.declared.entry.PickEntry.{PickEntry}
use Rattle.life_laws.specs.Journal.{ready_from, PickedAt, entry_of}
use Rattle.life_laws.specs.declared.entry.Picked.{Picked}
use Rattle.life_laws.specs.declared.entry.Picked.TheVariants as picked
use Rattle.life_laws.specs.Journal as host
use Rattle.life_laws.proofs.Settling.{went_idle, went_entry, went_none, ready_was}
use Rattle.life_laws.specs.Asked.{Settled, takes, ready_at, Asks, First, Entries, no_ask, with_entry, was_idle, KeptAsks, Chosen}

if_yes : {A : Type 0} (b : Bool) (x y : A) → b ≡ true → (if b then x else y) ≡ x
if_yes b x y e = rw e refl

if_no : {A : Type 0} (b : Bool) (x y : A) → b ≡ false → (if b then x else y) ≡ y
if_no b x y e = rw e refl

-- ## The flags

none_below : (v w : ℕ) (ss : List Seen) → w < v → list_any (nat_eq w) (ready_from v ss) ≡ false
none_below v w [] h = refl
none_below v w (s ∷ ss) h = by (ready s) (none_below (v + 1) w ss (omega arith))
  where
    by : (b : Bool) → list_any (nat_eq w) (ready_from (v + 1) ss) ≡ false → list_any (nat_eq w) (if b then v ∷ ready_from (v + 1) ss else ready_from (v + 1) ss) ≡ false
    by true e = ap (λ x. x || list_any (nat_eq w) (ready_from (v + 1) ss)) (ne_eqb w v (λ f. absurd (omega arith))) ∙ e
    by false e = e

flag_at : (b : Bool) (v w : ℕ) (ss : List Seen) → list_any (nat_eq w) (ready_from (v + 1) ss) ≡ ready_at (v + 1) ss w → ((nat_eq w v ≡ true) × (w ≡ v)) ⊎ ((nat_eq w v ≡ false) × (w ≢ v)) → list_any (nat_eq w) (if b then v ∷ ready_from (v + 1) ss else ready_from (v + 1) ss) ≡ (if nat_eq w v then b else ready_at (v + 1) ss w)
flag_at true v w ss e (inl same) = ap (λ x. x || list_any (nat_eq w) (ready_from (v + 1) ss)) same.0 ∙ sym (if_yes (nat_eq w v) true (ready_at (v + 1) ss w) same.0)
flag_at true v w ss e (inr other) = ap (λ x. x || list_any (nat_eq w) (ready_from (v + 1) ss)) other.0 ∙ (e ∙ sym (if_no (nat_eq w v) true (ready_at (v + 1) ss w) other.0))
flag_at false v w ss e (inl same) = none_below (v + 1) w ss (let f = same.1 in omega arith) ∙ sym (if_yes (nat_eq w v) false (ready_at (v + 1) ss w) same.0)
flag_at false v w ss e (inr other) = e ∙ sym (if_no (nat_eq w v) false (ready_at (v + 1) ss w) other.0)

pub flags : (v w : ℕ) (ss : List Seen) → list_any (nat_eq w) (ready_from v ss) ≡ ready_at v ss w
flags v w [] = refl
flags v w (s ∷ ss) = flag_at (ready s) v w ss (flags (v + 1) w ss) (eqb_tells w v)

-- ## One widget changes

ready_here : (v t i : ℕ) (ss : List Seen) (s : Seen) → slice_get ss i ≡ Some s → t ≡ v + i → ready_at v ss t ≡ ready s
ready_here v t i [] s e f = cc
ready_here v t zero (x ∷ ss) s e f = let same : x ≡ s = cc in if_yes (nat_eq t v) _ _ (eq-eqb t v (omega arith)) ∙ ap ready same
ready_here v t (suc i) (x ∷ ss) s e f = if_no (nat_eq t v) _ _ (ne_eqb t v (λ g. absurd (omega arith))) ∙ ready_here (v + 1) t i ss s e (omega arith)

ready_set : (v t i : ℕ) (ss : List Seen) (was s : Seen) → slice_get ss i ≡ Some was → t ≡ v + i → ready_at v (slice_set ss i s) t ≡ ready s
ready_set v t i [] was s e f = cc
ready_set v t zero (x ∷ ss) was s e f = if_yes (nat_eq t v) _ _ (eq-eqb t v (omega arith))
ready_set v t (suc i) (x ∷ ss) was s e f = if_no (nat_eq t v) _ _ (ne_eqb t v (λ g. absurd (omega arith))) ∙ ready_set (v + 1) t i ss was s e (omega arith)

ready_other : (v t i w : ℕ) (ss : List Seen) (s : Seen) → t ≡ v + i → (w ≡ t → ⊥) → ready_at v (slice_set ss i s) w ≡ ready_at v ss w
ready_other v t i w [] s f o = refl
ready_other v t zero w (x ∷ ss) s f o = if_no (nat_eq w v) _ _ (ne_eqb w v (λ g. o (omega arith))) ∙ sym (if_no (nat_eq w v) _ _ (ne_eqb w v (λ g. o (omega arith))))
ready_other v t (suc i) w (x ∷ ss) s f o = ap (λ b. if nat_eq w v then ready x else b) (ready_other (v + 1) t i w ss s (omega arith) o)

-- how many are ready
count_first : (b c : Bool) (v : ℕ) (xs : List ℕ) → b ≡ true → length (if c then v ∷ xs else xs) ≤ length (if b then v ∷ xs else xs)
count_first true true v xs e = omega arith
count_first true false v xs e = omega arith
count_first false c v xs e = cc

count_more : (b : Bool) (v : ℕ) (xs ys : List ℕ) → length ys ≤ length xs → length (if b then v ∷ ys else ys) ≤ length (if b then v ∷ xs else xs)
count_more true v xs ys h = omega arith
count_more false v xs ys h = h

count_less : (b : Bool) (v : ℕ) (xs ys : List ℕ) → length ys + 1 ≤ length xs → length (if b then v ∷ ys else ys) + 1 ≤ length (if b then v ∷ xs else xs)
count_less true v xs ys h = omega arith
count_less false v xs ys h = h

count_gone : (b c : Bool) (v : ℕ) (xs : List ℕ) → b ≡ true → c ≡ false → length (if c then v ∷ xs else xs) + 1 ≤ length (if b then v ∷ xs else xs)
count_gone true false v xs e f = omega arith
count_gone true true v xs e f = cc
count_gone false c v xs e f = cc

pub no_more : (v i : ℕ) (ss : List Seen) (was s : Seen) → slice_get ss i ≡ Some was → ready was ≡ true → length (ready_from v (slice_set ss i s)) ≤ length (ready_from v ss)
no_more v i [] was s e r = omega arith
no_more v zero (x ∷ ss) was s e r = let same : x ≡ was = cc in count_first (ready x) (ready s) v (ready_from (v + 1) ss) (ap ready same ∙ r)
no_more v (suc i) (x ∷ ss) was s e r = count_more (ready x) v _ _ (no_more (v + 1) i ss was s e r)

pub one_less : (v i : ℕ) (ss : List Seen) (was s : Seen) → slice_get ss i ≡ Some was → ready was ≡ true → ready s ≡ false → length (ready_from v (slice_set ss i s)) + 1 ≤ length (ready_from v ss)
one_less v i [] was s e r q = cc
one_less v zero (x ∷ ss) was s e r q = let same : x ≡ was = cc in count_gone (ready x) (ready s) v (ready_from (v + 1) ss) (ap ready same ∙ r) q
one_less v (suc i) (x ∷ ss) was s e r q = count_less (ready x) v _ _ (one_less (v + 1) i ss was s e r q)

-- ## The asks

module _ (mid after : ℕ → Bool) (t : ℕ) (was_ready : mid t ≡ true) (others : (w : ℕ) → (w ≡ t → ⊥) → after w ≡ mid w) where
  last_at : (a : Ask) (w : ℕ) → a.taken ≡ t → ((nat_eq a.taken w ≡ true) × (a.taken ≡ w)) ⊎ ((nat_eq a.taken w ≡ false) × (a.taken ≢ w)) → mid w ≡ (if takes w (a ∷ []) then true else after w)
  last_at a w e (inl same) = ap mid (sym same.1 ∙ e) ∙ (was_ready ∙ sym (if_yes (takes w (a ∷ [])) true (after w) (if_yes (nat_eq a.taken w) true false same.0)))
  last_at a w e (inr other) = sym (others w (λ f. other.1 (e ∙ sym f))) ∙ sym (if_no (takes w (a ∷ [])) true (after w) (if_no (nat_eq a.taken w) true false other.0))

  by_first : (b : Bool) (x y m n : Bool) → (if x then true else m) ≡ (if y then true else n) → (if (if b then true else x) then true else m) ≡ (if (if b then true else y) then true else n)
  by_first true x y m n h = refl
  by_first false x y m n h = h

  taken_more : (qs : List Ask) (a : Ask) (w : ℕ) → a.taken ≡ t → (if takes w qs then true else mid w) ≡ (if takes w (qs ++ a ∷ []) then true else after w)
  taken_more [] a w e = last_at a w e (eqb_tells a.taken w)
  taken_more (b ∷ qs) a w e = by_first (nat_eq b.taken w) (takes w qs) (takes w (qs ++ a ∷ [])) (mid w) (after w) (taken_more qs a w e)

  pub asks_more : (qs : List Ask) (a : Ask) → a.taken ≡ t → ((w : ℕ) → w < WIDGETS → is_ready a w ≡ mid w) → Asks mid qs → Asks after (qs ++ a ∷ [])
  asks_more [] a e f h = (λ w l. f w l ∙ last_at a w e (eqb_tells a.taken w), tt)
  asks_more (b ∷ qs) a e f h = (λ w l. h.0 w l ∙ taken_more (b ∷ qs) a w e, asks_more qs a e f h.1)

  not_taken : (qs : List Ask) (a : Ask) (w : ℕ) → a.taken ≡ t → mid w ≡ false → takes w qs ≡ false → takes w (qs ++ a ∷ []) ≡ false
  not_taken [] a w e m h = if_no (nat_eq a.taken w) true false (ne_eqb a.taken w (λ f. let g : mid w ≡ true = ap mid (sym f ∙ e) ∙ was_ready in cc))
  not_taken (b ∷ qs) a w e m h = by (nat_eq b.taken w) h (not_taken qs a w e m)
    where
      by : (c : Bool) → (if c then true else takes w qs) ≡ false → (takes w qs ≡ false → takes w (qs ++ a ∷ []) ≡ false) → (if c then true else takes w (qs ++ a ∷ [])) ≡ false
      by true x y = cc
      by false x y = y x

  still_idle : (w : ℕ) → mid w ≡ false → after w ≡ false
  still_idle w m = others w (λ f. let g : mid w ≡ true = ap mid f ∙ was_ready in cc) ∙ m

  pub entries_more : (qs : List Ask) (es fs : List PickEntry) (a : Ask) → a.taken ≡ t → Entries after (a ∷ []) fs → Entries mid qs es → Entries after (qs ++ a ∷ []) (es ++ fs)
  entries_more [] [] fs a e last no_ask = last
  entries_more [] (x ∷ es) fs a e last h = elim h [ ]
  entries_more (b ∷ qs) (x ∷ es) fs a e last (with_entry l f h) = with_entry l f (entries_more qs es fs a e last h)
  entries_more (b ∷ qs) es fs a e last (was_idle f m h) = was_idle (not_taken qs a b.taken e m f) (still_idle b.taken m) (entries_more qs es fs a e last h)

first_more : (before : ℕ → Bool) (qs : List Ask) (a : Ask) → (length qs ≡ 0 → (w : ℕ) → w < WIDGETS → is_ready a w ≡ before w) → First before qs → First before (qs ++ a ∷ [])
first_more before [] a f h = f refl
first_more before (b ∷ qs) a f h = h

append_three : (xs ys zs : List Ask) → (xs ++ ys) ++ zs ≡ xs ++ (ys ++ zs)
append_three [] ys zs = refl
append_three (x ∷ xs) ys zs = ap (λ ws. x ∷ ws) (append_three xs ys zs)

same_number : (o : Option ℕ) (a b : ℕ) → o ≡ Some a → o ≡ Some b → a ≡ b
same_number o a b e f = let g : Some a ≡ Some b = sym e ∙ f in cc

length_more : (es fs : List PickEntry) → length (es ++ fs) ≡ length es + length fs
length_more [] fs = omega arith
length_more (e ∷ es) fs = let h = length_more es fs in omega arith

-- the asks and one more, whose pick added these entries
pub chosen_more : (w : ℕ) (old mid new : List Seen) (was is : Seen) (added fs : List PickEntry) (a0 a1 a2 : List Ask) (r0 r1 r2 : ℕ) (xs : List ℕ) (at : ℕ) → Chosen old mid added a0 r0 a1 r1 → slice_get mid w ≡ Some was → new ≡ slice_set mid w is → ready was ≡ true → ((a : Ask) → a.taken ≡ w → Entries (ready_at 0 new) (a ∷ []) fs) → length (ready_from 0 new) + 1 ≤ length fs + length (ready_from 0 mid) → xs ≡ ready_from 0 mid → slice_get xs at ≡ Some w → (0 < r1 → KeepsAsk xs at a1 a2) → (0 < r1 → r2 + 1 ≡ r1) → Chosen old new (added ++ fs) a0 r0 a2 r2
chosen_more w old mid new was is added fs a0 a1 a2 r0 r1 r2 xs at h here set r tail less list chosen keeps room = record {
  asked = h.asked + 1;
  few = (let l = length_more added fs in let f = h.few in omega arith);
  room = λ l. (let e = h.room (omega arith) in let f = room (omega arith) in omega arith);
  kept = λ l. more (h.kept (omega arith)) (keeps (let e = h.room (omega arith) in omega arith));
  none = λ z. absurd (omega arith);
}
  where
    others : (v : ℕ) → (v ≡ w → ⊥) → ready_at 0 new v ≡ ready_at 0 mid v
    others v o = ap (λ ss. ready_at 0 ss v) set ∙ ready_other 0 w w v mid is (omega arith) o

    there : ready_at 0 mid w ≡ true
    there = ready_here 0 w w mid was here (omega arith) ∙ r

    asked_flags : (ask : Ask) → IsAsk xs at ask → (v : ℕ) → v < WIDGETS → is_ready ask v ≡ ready_at 0 mid v
    asked_flags ask a v l = a.flags v l ∙ (ap (list_any (nat_eq v)) list ∙ flags 0 v mid)

    more : KeptAsks h.asked old mid added a0 a1 → KeepsAsk xs at a1 a2 → KeptAsks (h.asked + 1) old new (added ++ fs) a0 a2
    more k q =
        let took : q.ask.taken ≡ w = same_number _ _ _ q.asked.taken chosen in
        record {
          mine = k.mine ++ q.ask ∷ [];
          count = length_push k.mine q.ask ∙ ap (λ n. n + 1) k.count;
          kept = q.kept ∙ (ap (λ ys. ys ++ q.ask ∷ []) k.kept ∙ append_three a0 k.mine (q.ask ∷ []));
          asks = asks_more (ready_at 0 mid) (ready_at 0 new) w there others k.mine q.ask took (asked_flags q.ask q.asked) k.asks;
          first = first_more (ready_at 0 old) k.mine q.ask (λ z v l. asked_flags q.ask q.asked v l ∙ h.none (sym k.count ∙ z) v) k.first;
          entries = entries_more (ready_at 0 mid) (ready_at 0 new) w there others k.mine added fs q.ask took (tail q.ask took) k.entries;
        }

append_nothing : (es : List PickEntry) → es ++ [] ≡ es
append_nothing [] = refl
append_nothing (e ∷ es) = ap (λ xs. e ∷ xs) (append_nothing es)

-- nothing was asked yet
pub settled_none : (k : ℕ) (ss : List Seen) (js : List PickEntry) (a0 : List Ask) (r0 : ℕ) → Settled k ss ss js js a0 r0 a0 r0
settled_none k ss js a0 r0 = record {
  went = went_none k ss js;
  chosen = record {
    asked = 0;
    few = omega arith;
    room = λ l. omega arith;
    kept = λ l. record { mine = []; count = refl; kept = sym (nothing a0); asks = tt; first = tt; entries = no_ask };
    none = λ z w. refl;
  };
}
  where
    nothing : (xs : List Ask) → xs ++ [] ≡ xs
    nothing [] = refl
    nothing (x ∷ xs) = ap (λ ys. x ∷ ys) (nothing xs)

idle_quiet : (g : Option Going) (q : List Work) → g ≡ None → q ≡ [] → (if is_some g then true else not (is_empty q)) ≡ false
idle_quiet g q e f = ap (λ x. if is_some x then true else not (is_empty q)) e ∙ ap (λ x. not (is_empty x)) f

set_quiet : (w : ℕ) (mid new : List Seen) (was is : Seen) → slice_get mid w ≡ Some was → new ≡ slice_set mid w is → ready is ≡ false → ready_at 0 new w ≡ false
set_quiet w mid new was is at set q = ap (λ ss. ready_at 0 ss w) set ∙ (ready_set 0 w w mid was is at (omega arith) ∙ q)

module _ (k w : ℕ) (old mid new : List Seen) (js ks ms : List PickEntry) (a0 a1 a2 : List Ask) (r0 r1 r2 : ℕ) (xs : List ℕ) (at : ℕ) (small : w < WIDGETS) where
  on_idle : (h : Settled k old mid js ks a0 r0 a1 r1) → (p : PickedAt w k picked.Idle mid new) → ms ≡ ks → xs ≡ ready_from 0 mid → slice_get xs at ≡ Some w → (0 < r1 → KeepsAsk xs at a1 a2) → (0 < r1 → r2 + 1 ≡ r1) → Settled k old new js ms a0 r0 a2 r2
  on_idle h p e list chosen keeps room =
      let P : List PickEntry → Type 0 = λ es. Chosen old new es a0 r0 a2 r2 in
      let r = ready_was w k at picked.Idle mid new xs p list chosen in
      let q : ready p.is ≡ false = idle_quiet p.is.going p.is.queue p.picks.going p.picks.queue in
      let less = one_less 0 w mid p.was p.is p.at r q in
      let same : length (ready_from 0 new) ≡ length (ready_from 0 (slice_set mid w p.is)) = ap (λ ss. length (ready_from 0 ss)) p.set in
      record {
        went = went_idle k picked.Idle old mid new js ks ms w h.went p e;
        chosen = subst P (append_nothing h.went.added) (chosen_more w old mid new p.was p.is h.went.added [] a0 a1 a2 r0 r1 r2 xs at h.chosen p.at p.set r (λ a t. was_idle refl (ap (ready_at 0 new) t ∙ set_quiet w mid new p.was p.is p.at p.set q) no_ask) (omega arith) list chosen keeps room);
      }

  on_entry : (r : Picked) → (h : Settled k old mid js ks a0 r0 a1 r1) → (p : PickedAt w k r mid new) → ms ≡ host.kept (ks ++ entry_of w k p.was p.is ∷ []) → xs ≡ ready_from 0 mid → slice_get xs at ≡ Some w → (0 < r1 → KeepsAsk xs at a1 a2) → (0 < r1 → r2 + 1 ≡ r1) → Settled k old new js ms a0 r0 a2 r2
  on_entry r h p e list chosen keeps room =
      let was = ready_was w k at r mid new xs p list chosen in
      let less = no_more 0 w mid p.was p.is p.at was in
      let same : length (ready_from 0 new) ≡ length (ready_from 0 (slice_set mid w p.is)) = ap (λ ss. length (ready_from 0 ss)) p.set in
      record {
        went = went_entry k r old mid new js ks ms w h.went p e;
        chosen = chosen_more w old mid new p.was p.is h.went.added (entry_of w k p.was p.is ∷ []) a0 a1 a2 r0 r1 r2 xs at h.chosen p.at p.set was (λ a t. with_entry small (sym t) no_ask) (omega arith) list chosen keeps room;
      }

  -- one pick more, and its ask
  pub settled_on : (r : Picked) → Settled k old mid js ks a0 r0 a1 r1 → host.Kept w k r mid new ks ms → xs ≡ ready_from 0 mid → slice_get xs at ≡ Some w → (0 < r1 → KeepsAsk xs at a1 a2) → (0 < r1 → r2 + 1 ≡ r1) → Settled k old new js ms a0 r0 a2 r2
  settled_on picked.Idle h p list chosen keeps room = on_idle h p.picked p.journal list chosen keeps room
  settled_on (picked.Unfinished s) h p list chosen keeps room = on_entry (picked.Unfinished s) h p.picked p.journal list chosen keeps room
  settled_on picked.Ended h p list chosen keeps room = on_entry picked.Ended h p.picked p.journal list chosen keeps room
