-- Picks of slots, one after the other.
use Rattle.std.proofs.Common.{◌≡◌, ◌≢◌, ℕ, zero, suc, ◌+◌, ◌<◌, List, [], ◌∷◌, ◌++◌, map, length, Bool, true, false, refl, sym, ap, ◌∙◌, subst, arith, Option, Some, None, unwrap_or, eq-eqb, ◌⊎◌, inl, inr}
use Rattle.std.specs.Prelude.{slice_get, slice_set, nat_eq, if◌then◌else◌, is_some, not}
use Rattle.std.proofs.lemmas.Bool.{ne_eqb}
use Rattle.std.proofs.lemmas.Bool.Decides.{eqb_tells}
use Rattle.std.proofs.lemmas.List.{map-append}
use Rattle.life_laws.specs.Life.{Seen, Going, Work, due, image, ready, is_empty}
use Rattle.turn_sched.specs.declared.chooser.Ask.{Ask}
use Rattle.turn_sched.specs.Asks.{KeepsAsk}
use Rattle.life_laws.specs.declared.entry.PickEntry.{PickEntry}
use Rattle.life_laws.specs.declared.entry.Picked.{Picked}
use Rattle.life_laws.specs.declared.entry.Picked.TheVariants as picked
use Rattle.life_laws.specs.Journal.{weights, ready_from, keeps, entry_of}
use Rattle.life_laws.specs.Journal as host
use Rattle.life_laws.specs.Asked.{Chosen, no_ask, with_entry, was_idle, ready_at}
use Rattle.life_laws.proofs.Ready.{is_ready_at}
use Rattle.life_laws.proofs.Crowds.{same_some}
use Rattle.life_laws.proofs.Settling.{keeps_more, all_more, went_none, quiet}
use Rattle.life_laws.proofs.Asking.{chosen_more, no_more, one_less}
use Rattle.life_laws.specs.Slots.{has, Each, ready_of, slot_ready}
use Rattle.life_laws.specs.Chains.{IsChain, Chains, listed, Rest, PickedIn}
use Rattle.life_laws.specs.Settled.{flag, slot_flags, homed, waiting, SettledSlots, no_pick, one_pick}
use Rattle.life_laws.proofs.Chaining.{out_of}
use Rattle.life_laws.proofs.Housing.{chain_in}

if_yes : {A : Type 0} (b : Bool) (x y : A) → b ≡ true → (if b then x else y) ≡ x
if_yes b x y e = rw e refl

if_no : {A : Type 0} (b : Bool) (x y : A) → b ≡ false → (if b then x else y) ≡ y
if_no b x y e = rw e refl

pub ready_flag : (b : Bool) → ready (flag b) ≡ b
ready_flag true = refl
ready_flag false = refl

-- what is ready at the place of one that changes
ready_set : (v t i : ℕ) (ss : List Seen) (was s : Seen) → slice_get ss i ≡ Some was → t ≡ v + i → ready_at v (slice_set ss i s) t ≡ ready s
ready_set v t i [] was s e f = cc
ready_set v t zero (x ∷ ss) was s e f = if_yes (nat_eq t v) _ _ (eq-eqb t v (omega arith))
ready_set v t (suc i) (x ∷ ss) was s e f = if_no (nat_eq t v) _ _ (ne_eqb t v (λ g. absurd (omega arith))) ∙ ready_set (v + 1) t i ss was s e (omega arith)

set_quiet : (w : ℕ) (mid new : List Seen) (was is : Seen) → slice_get mid w ≡ Some was → new ≡ slice_set mid w is → ready is ≡ false → ready_at 0 new w ≡ false
set_quiet w mid new was is at set q = ap (λ ss. ready_at 0 ss w) set ∙ (ready_set 0 w w mid was is at (omega arith) ∙ q)

-- ## The flags after a pick

pub flags_length : (ss : List Seen) (cs : List (List ℕ)) → length (slot_flags ss cs) ≡ length cs
flags_length ss [] = refl
flags_length ss (c ∷ cs) = ap suc (flags_length ss cs)

flag_at : (ss : List Seen) (cs : List (List ℕ)) (w : ℕ) (c : List ℕ) → slice_get cs w ≡ Some c → slice_get (slot_flags ss cs) w ≡ Some (flag (slot_ready ss c))
flag_at ss [] w c e = cc
flag_at ss (x ∷ cs) zero c e = let same : x ≡ c = cc in ap (λ y. Some (flag (slot_ready ss y))) same
flag_at ss (x ∷ cs) (suc w) c e = flag_at ss cs w c e

module _ (homes : List ℕ) (born w : ℕ) (lives : List ℕ) (home : Each (λ v. slice_get homes v ≡ Some w) lives) (old new : List Seen) (others : (v : ℕ) → has v lives ≡ false → slice_get new v ≡ slice_get old v) where
  not_home : (u v : ℕ) (xs : List ℕ) → u ≢ w → slice_get homes v ≡ Some u → Each (λ x. slice_get homes x ≡ Some w) xs → has v xs ≡ false
  not_home u v [] o e h = refl
  not_home u v (x ∷ xs) o e h = if_no (nat_eq x v) true (has v xs) (ne_eqb x v (λ f. let g : Some w ≡ Some u = sym h.0 ∙ (ap (slice_get homes) f ∙ e) in o (let k : u ≡ w = cc in k))) ∙ not_home u v xs o e h.1

  same_ready : (u : ℕ) (c : List ℕ) → u ≢ w → IsChain homes born u c → slot_ready new c ≡ slot_ready old c
  same_ready u [] o h = refl
  same_ready u (v ∷ []) o h = ap ready_of (others v (not_home u v lives o h.home.0 home))
  same_ready u (v ∷ x ∷ xs) o h = refl

  flags_same : (u : ℕ) (cs : List (List ℕ)) → w < u → Chains homes born u cs → slot_flags new cs ≡ slot_flags old cs
  flags_same u [] l h = refl
  flags_same u (c ∷ cs) l h = ap (λ b. flag b ∷ slot_flags new cs) (same_ready u c (λ e. absurd (omega arith)) h.0) ∙ ap (λ fs. flag (slot_ready old c) ∷ fs) (flags_same (u + 1) cs (omega arith) h.1)

  pub flags_set : (u i : ℕ) (cs : List (List ℕ)) (left : List ℕ) → w ≡ u + i → Chains homes born u cs → slot_flags new (slice_set cs i left) ≡ slice_set (slot_flags old cs) i (flag (slot_ready new left))
  flags_set u i [] left e h = refl
  flags_set u zero (c ∷ cs) left e h = ap (λ fs. flag (slot_ready new left) ∷ fs) (flags_same (u + 1) cs (omega arith) h.1)
  flags_set u (suc i) (c ∷ cs) left e h = ap (λ b. flag b ∷ slot_flags new (slice_set cs i left)) (same_ready u c (λ f. absurd (omega arith)) h.0) ∙ ap (λ fs. flag (slot_ready old c) ∷ fs) (flags_set (u + 1) i cs left (omega arith) h.1)

-- ## One pick more

pub slots_none : (k : ℕ) (homes : List ℕ) (cs : List (List ℕ)) (ss : List Seen) (js : List PickEntry) (a0 : List Ask) (r0 : ℕ) → SettledSlots k homes cs cs ss ss js js a0 r0 a0 r0
slots_none k homes cs ss js a0 r0 = record {
  picks = no_pick;
  went = went_none k ss js;
  chosen = record {
    asked = 0;
    few = omega arith;
    room = λ l. omega arith;
    kept = λ l. record { mine = []; count = refl; kept = sym (nothing a0); asks = tt; first = tt; entries = no_ask };
    none = λ z w. refl;
  };
}
  where
    nothing : (xs : List Ask) → xs ++ [] ≡ xs
    nothing [] = refl
    nothing (x ∷ xs) = ap (λ ys. x ∷ ys) (nothing xs)

idle_quiet : (g : Option Going) (q : List Work) → g ≡ None → q ≡ [] → (if is_some g then true else not (is_empty q)) ≡ false
idle_quiet g q e f = ap (λ x. if is_some x then true else not (is_empty q)) e ∙ ap (λ x. not (is_empty x)) f

home_of : (homes : List ℕ) (v w : ℕ) → slice_get homes v ≡ Some w → unwrap_or (slice_get homes v) 32 ≡ w
home_of homes v w e = ap (λ o. unwrap_or o 32) e

each_mid : (P : ℕ → Type 0) (xs : List ℕ) (v : ℕ) (ys : List ℕ) → Each P (xs ++ v ∷ ys) → P v
each_mid P [] v ys h = h.0
each_mid P (x ∷ xs) v ys h = each_mid P xs v ys h.1

append_nothing : (es : List PickEntry) → es ++ [] ≡ es
append_nothing [] = refl
append_nothing (e ∷ es) = ap (λ xs. e ∷ xs) (append_nothing es)

module _ (k w : ℕ) (homes : List ℕ) (born : ℕ) (cs0 cs ds : List (List ℕ)) (old mid new : List Seen) (js ks ms : List PickEntry) (a0 a1 a2 : List Ask) (r0 r1 r2 : ℕ) (xs : List ℕ) (at : ℕ) (small : w < 32) (chains : Chains homes born 0 cs) where
  module _ (r : Picked) (p : PickedIn w k r cs ds mid new ks ms) (list : xs ≡ ready_from 0 (slot_flags mid cs)) (chosen : slice_get xs at ≡ Some w) where
    here : IsChain homes born w p.lives
    here = chain_in homes born 0 w w cs p.lives (omega arith) p.at chains

    pub set_is : slot_flags new ds ≡ slice_set (slot_flags mid cs) w (flag (slot_ready new p.left))
    set_is = ap (slot_flags new) p.set ∙ flags_set homes born w p.lives here.home mid new (λ v o. p.slot.others v (out_of v p.lives p.slot.ended p.slot.life p.slot.waiting p.slot.are o)) 0 w cs p.left (omega arith) chains

    pub was_at : slice_get (slot_flags mid cs) w ≡ Some (flag (slot_ready mid p.lives))
    was_at = flag_at mid cs w p.lives p.at

    pub was_ready : ready (flag (slot_ready mid p.lives)) ≡ true
    was_ready =
        let there = is_ready_at 0 (slot_flags mid cs) at w (ap (λ ys. slice_get ys at) (sym list) ∙ chosen) in
        let P : ℕ → Type 0 = λ i. slice_get (slot_flags mid cs) i ≡ Some there.1 in
        ap ready (sym (same_some _ there.1 _ (subst P (let f : there.0 ≡ w = omega (arith, there.2) in f) there.3) was_at)) ∙ there.4

    pub slot_home : slice_get homes p.slot.life ≡ Some w
    slot_home = let P : List ℕ → Type 0 = λ ys. Each (λ v. slice_get homes v ≡ Some w) ys in each_mid (λ v. slice_get homes v ≡ Some w) p.slot.ended p.slot.life p.slot.waiting (subst P p.slot.are here.home)

  on_idle : (h : SettledSlots k homes cs0 cs old mid js ks a0 r0 a1 r1) → (p : PickedIn w k picked.Idle cs ds mid new ks ms) → xs ≡ ready_from 0 (slot_flags mid cs) → slice_get xs at ≡ Some w → (0 < r1 → KeepsAsk xs at a1 a2) → (0 < r1 → r2 + 1 ≡ r1) → SettledSlots k homes cs0 ds old new js ms a0 r0 a2 r2
  on_idle h p list chosen keeps room =
      let P : List PickEntry → Type 0 = λ es. Chosen (slot_flags old cs0) (slot_flags new ds) es a0 r0 a2 r2 in
      let Q : List ℕ → Type 0 = λ ys. slot_ready new ys ≡ false in
      let alone : p.left ≡ p.slot.life ∷ [] = p.slot.left_is ∙ ap (λ ys. p.slot.life ∷ ys) (p.slot.last refl) in
      let off : slot_ready new p.left ≡ false = subst Q (sym alone) (ap ready_of p.slot.now ∙ idle_quiet p.slot.is.going p.slot.is.queue p.slot.picks.going p.slot.picks.queue) in
      let q : ready (flag (slot_ready new p.left)) ≡ false = ready_flag (slot_ready new p.left) ∙ off in
      let set = set_is picked.Idle p list chosen in
      let here = was_at picked.Idle p list chosen in
      let r = was_ready picked.Idle p list chosen in
      let less = one_less 0 w (slot_flags mid cs) (flag (slot_ready mid p.lives)) (flag (slot_ready new p.left)) here r q in
      let same : length (ready_from 0 (slot_flags new ds)) ≡ length (ready_from 0 (slice_set (slot_flags mid cs) w (flag (slot_ready new p.left)))) = ap (λ ss. length (ready_from 0 ss)) set in
      record {
        picks = one_pick h.picks p;
        went = record { dues = p.slot.dues ∙ h.went.dues; added = h.went.added; journal = p.slot.journal ∙ h.went.journal; slices = h.went.slices };
        chosen = subst P (append_nothing (map (homed homes) h.went.added)) (chosen_more w (slot_flags old cs0) (slot_flags mid cs) (slot_flags new ds) (flag (slot_ready mid p.lives)) (flag (slot_ready new p.left)) (map (homed homes) h.went.added) [] a0 a1 a2 r0 r1 r2 xs at h.chosen here set r (λ a t. was_idle refl (ap (ready_at 0 (slot_flags new ds)) t ∙ set_quiet w (slot_flags mid cs) (slot_flags new ds) (flag (slot_ready mid p.lives)) (flag (slot_ready new p.left)) here set q) no_ask) (omega arith) list chosen keeps room);
      }

  on_entry : (r : Picked) → (h : SettledSlots k homes cs0 cs old mid js ks a0 r0 a1 r1) → (p : PickedIn w k r cs ds mid new ks ms) → ms ≡ host.kept (ks ++ entry_of p.slot.life k p.slot.was p.slot.is ∷ []) → xs ≡ ready_from 0 (slot_flags mid cs) → slice_get xs at ≡ Some w → (0 < r1 → KeepsAsk xs at a1 a2) → (0 < r1 → r2 + 1 ≡ r1) → SettledSlots k homes cs0 ds old new js ms a0 r0 a2 r2
  on_entry r h p e list chosen keeps room =
      let entry : PickEntry = entry_of p.slot.life k p.slot.was p.slot.is in
      let P : List PickEntry → Type 0 = λ es. Chosen (slot_flags old cs0) (slot_flags new ds) es a0 r0 a2 r2 in
      let set = set_is r p list chosen in
      let here = was_at r p list chosen in
      let was = was_ready r p list chosen in
      let home : (homed homes entry).widget ≡ w = home_of homes p.slot.life w (slot_home r p list chosen) in
      let more = no_more 0 w (slot_flags mid cs) (flag (slot_ready mid p.lives)) (flag (slot_ready new p.left)) here was in
      let same : length (ready_from 0 (slot_flags new ds)) ≡ length (ready_from 0 (slice_set (slot_flags mid cs) w (flag (slot_ready new p.left)))) = ap (λ ss. length (ready_from 0 ss)) set in
      record {
        picks = one_pick h.picks p;
        went = record {
          dues = p.slot.dues ∙ h.went.dues;
          added = h.went.added ++ entry ∷ [];
          journal = e ∙ (ap (λ ys. host.kept (ys ++ entry ∷ [])) h.went.journal ∙ sym (keeps_more js h.went.added entry));
          slices = all_more k h.went.added entry h.went.slices refl;
        };
        chosen = subst P (sym (map-append (homed homes) h.went.added (entry ∷ []))) (chosen_more w (slot_flags old cs0) (slot_flags mid cs) (slot_flags new ds) (flag (slot_ready mid p.lives)) (flag (slot_ready new p.left)) (map (homed homes) h.went.added) (homed homes entry ∷ []) a0 a1 a2 r0 r1 r2 xs at h.chosen here set was (λ a t. with_entry (let P : ℕ → Type 0 = λ n. n < 32 in subst P (sym home) small) (home ∙ sym t) no_ask) (omega arith) list chosen keeps room);
      }

  pub slots_on : (r : Picked) → (h : SettledSlots k homes cs0 cs old mid js ks a0 r0 a1 r1) → (p : PickedIn w k r cs ds mid new ks ms) → xs ≡ ready_from 0 (slot_flags mid cs) → slice_get xs at ≡ Some w → (0 < r1 → KeepsAsk xs at a1 a2) → (0 < r1 → r2 + 1 ≡ r1) → SettledSlots k homes cs0 ds old new js ms a0 r0 a2 r2
  slots_on picked.Idle h p list chosen keeps room = on_idle h p list chosen keeps room
  slots_on (picked.Unfinished s) h p list chosen keeps room = on_entry (picked.Unfinished s) h p p.slot.journal list chosen keeps room
  slots_on picked.Ended h p list chosen keeps room = on_entry picked.Ended h p p.slot.journal list chosen keeps room

-- ## The end

waiting_set : (cs : List (List ℕ)) (w : ℕ) (lives left : List ℕ) → slice_get cs w ≡ Some lives → waiting (slice_set cs w left) + length lives ≡ waiting cs + length left
waiting_set [] w lives left e = cc
waiting_set (c ∷ cs) zero lives left e = let same : length c ≡ length lives = (let f : c ≡ lives = cc in ap length f) in omega arith
waiting_set (c ∷ cs) (suc w) lives left e = let h = waiting_set cs w lives left e in omega arith

pub slots_lighter : (w k : ℕ) (r : Picked) (cs ds : List (List ℕ)) (mid new : List Seen) (ks ms : List PickEntry) (xs : List ℕ) (at : ℕ) → PickedIn w k r cs ds mid new ks ms → xs ≡ ready_from 0 (slot_flags mid cs) → slice_get xs at ≡ Some w → weights new + waiting ds < weights mid + waiting cs
slots_lighter w k r cs ds mid new ks ms xs at p list chosen =
    let there = is_ready_at 0 (slot_flags mid cs) at w (ap (λ ys. slice_get ys at) (sym list) ∙ chosen) in
    let P : ℕ → Type 0 = λ i. slice_get (slot_flags mid cs) i ≡ Some there.1 in
    let on : slot_ready mid p.lives ≡ true = sym (ready_flag (slot_ready mid p.lives)) ∙ (ap ready (sym (same_some _ there.1 _ (subst P (let f : there.0 ≡ w = omega (arith, there.2) in f) there.3) (flag_at mid cs w p.lives p.at))) ∙ there.4) in
    let l = p.slot.lighter on in
    let s = waiting_set cs w p.lives p.left p.at in
    let e : waiting ds ≡ waiting (slice_set cs w p.left) = ap waiting p.set in
    omega arith

none_ready : (v : ℕ) (ss : List Seen) → ((i : ℕ) (s : Seen) → slice_get ss i ≡ Some s → ready s ≡ false) → ready_from v ss ≡ []
none_ready v [] h = refl
none_ready v (s ∷ ss) h = if_no (ready s) _ _ (h 0 s refl) ∙ none_ready (v + 1) ss (λ i t e. h (suc i) t e)

single_off : (ss : List Seen) (c : List ℕ) (v : ℕ) (s : Seen) → slot_ready ss c ≡ false → has v c ≡ true → slice_get ss v ≡ Some s → ready s ≡ false
single_off ss [] v s e f g = cc
single_off ss (x ∷ y ∷ ys) v s e f g = cc
single_off ss (x ∷ []) v s e f g = by (eqb_tells x v)
  where
    by : ((nat_eq x v ≡ true) × (x ≡ v)) ⊎ ((nat_eq x v ≡ false) × (x ≢ v)) → ready s ≡ false
    by (inl same) = sym (ap ready_of (ap (slice_get ss) same.1 ∙ g)) ∙ e
    by (inr other) = let n : has v (x ∷ []) ≡ false = if_no (nat_eq x v) true false other.0 in cc

listed_off : (u : ℕ) (ss : List Seen) (cs : List (List ℕ)) (v : ℕ) (s : Seen) → ready_from u (slot_flags ss cs) ≡ [] → listed v cs ≡ true → slice_get ss v ≡ Some s → ready s ≡ false
listed_off u ss [] v s e f g = cc
listed_off u ss (c ∷ cs) v s e f g = by (slot_ready ss c) refl (has v c) refl (λ x y. listed_off (u + 1) ss cs v s x y g)
  where
    by : (b : Bool) → slot_ready ss c ≡ b → (d : Bool) → has v c ≡ d → (ready_from (u + 1) (slot_flags ss cs) ≡ [] → listed v cs ≡ true → ready s ≡ false) → ready s ≡ false
    by true x d y r = let z : u ∷ ready_from (u + 1) (slot_flags ss cs) ≡ [] = sym (ap (λ b. if ready (flag b) then u ∷ ready_from (u + 1) (slot_flags ss cs) else ready_from (u + 1) (slot_flags ss cs)) x) ∙ e in cc
    by false x true y r = single_off ss c v s x y g
    by false x false y r = r (sym (ap (λ b. if ready (flag b) then u ∷ ready_from (u + 1) (slot_flags ss cs) else ready_from (u + 1) (slot_flags ss cs)) x) ∙ e) (sym (if_no (has v c) true (listed v cs) y) ∙ f)

-- where no slot is ready each life has done all, the ended ones too
pub all_done : (cs : List (List ℕ)) (ss : List Seen) → ready_from 0 (slot_flags ss cs) ≡ [] → Rest cs ss → map image ss ≡ map due ss
all_done cs ss e rest = quiet 0 ss (none_ready 0 ss (λ v s g. by v s g (listed v cs) refl))
  where
    by : (v : ℕ) (s : Seen) → slice_get ss v ≡ Some s → (b : Bool) → listed v cs ≡ b → ready s ≡ false
    by v s g true f = listed_off 0 ss cs v s e f g
    by v s g false f = rest v s f g
