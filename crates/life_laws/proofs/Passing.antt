-- The picks of a slot.
use Rattle.std.proofs.Common.{◌≡◌, ◌≢◌, ℕ, zero, suc, ◌+◌, ◌*◌, ◌<◌, ◌≤◌, List, [], ◌∷◌, ◌++◌, map, length, Bool, true, false, refl, sym, ap, ◌∙◌, subst, arith, Option, Some, None, eq-eqb}
use Rattle.std.specs.Prelude.{slice_get, slice_set, nat_eq, if◌then◌else◌}
use Rattle.std.proofs.lemmas.Bool.{ne_eqb}
use Rattle.widget_meaning.specs.OwnState.{OwnState}
use Rattle.life_laws.specs.Life.{Seen, Going, Work, ready, weight, due, first, potentials, turn_bound, turn_weight}
use Rattle.life_laws.specs.declared.entry.PickEntry.{PickEntry}
use Rattle.life_laws.specs.declared.entry.Picked.{Picked}
use Rattle.life_laws.specs.declared.entry.Picked.TheVariants as picked
use Rattle.life_laws.specs.Picks.{Picks}
use Rattle.life_laws.specs.Journal.{weights, PickedAt, Kept, AllJoined}
use Rattle.life_laws.proofs.Crowds.{get_set}
use Rattle.life_laws.proofs.Settling.{picks_due, dues_set}
use Rattle.life_laws.proofs.Joins.{joined_after}
use Rattle.life_laws.specs.Slots.{has, Each, Rising, ready_of, slot_ready, IdleAt, Passed, PickedSlot}

if_yes : {A : Type 0} (b : Bool) (x y : A) → b ≡ true → (if b then x else y) ≡ x
if_yes b x y e = rw e refl

if_no : {A : Type 0} (b : Bool) (x y : A) → b ≡ false → (if b then x else y) ≡ y
if_no b x y e = rw e refl

-- ## Lists of lives

pub append_cons : (xs : List ℕ) (x : ℕ) (ys : List ℕ) → (xs ++ x ∷ []) ++ ys ≡ xs ++ (x ∷ ys)
append_cons [] x ys = refl
append_cons (z ∷ xs) x ys = ap (λ zs. z ∷ zs) (append_cons xs x ys)

pub each_mid : (P : ℕ → Type 0) (xs : List ℕ) (v : ℕ) (ys : List ℕ) → Each P (xs ++ v ∷ ys) → P v
each_mid P [] v ys h = h.0
each_mid P (x ∷ xs) v ys h = each_mid P xs v ys h.1

pub each_tail : (P : ℕ → Type 0) (xs ys : List ℕ) → Each P (xs ++ ys) → Each P ys
each_tail P [] ys h = h
each_tail P (x ∷ xs) ys h = each_tail P xs ys h.1

pub each_map : (P Q : ℕ → Type 0) (xs : List ℕ) → ((x : ℕ) → P x → Q x) → Each P xs → Each Q xs
each_map P Q [] f h = tt
each_map P Q (x ∷ xs) f h = (f x h.0, each_map P Q xs f h.1)

pub each_both : (P Q R : ℕ → Type 0) (xs : List ℕ) → ((x : ℕ) → P x → Q x → R x) → Each P xs → Each Q xs → Each R xs
each_both P Q R [] f g h = tt
each_both P Q R (x ∷ xs) f g h = (f x g.0 h.0, each_both P Q R xs f g.1 h.1)

pub each_more : (P : ℕ → Type 0) (xs : List ℕ) (v : ℕ) → Each P xs → P v → Each P (xs ++ v ∷ [])
each_more P [] v h p = (p, tt)
each_more P (x ∷ xs) v h p = (h.0, each_more P xs v h.1 p)

pub rising_tail : (xs ys : List ℕ) → Rising (xs ++ ys) → Rising ys
rising_tail [] ys h = h
rising_tail (x ∷ xs) ys h = rising_tail xs ys h.1

pub before : (xs : List ℕ) (v : ℕ) (ys : List ℕ) → Rising (xs ++ v ∷ ys) → Each (λ u. u < v) xs
before [] v ys h = tt
before (x ∷ xs) v ys h = (each_mid (λ y. x < y) xs v ys h.0, before xs v ys h.1)

pub has_below : (v : ℕ) (xs : List ℕ) → Each (λ u. u < v) xs → has v xs ≡ false
has_below v [] h = refl
has_below v (x ∷ xs) h = if_no (nat_eq x v) true (has v xs) (ne_eqb x v (λ e. let l = h.0 in absurd (omega arith))) ∙ has_below v xs h.1

pub has_append : (v : ℕ) (xs ys : List ℕ) → has v (xs ++ ys) ≡ (if has v xs then true else has v ys)
has_append v [] ys = refl
has_append v (x ∷ xs) ys = by (nat_eq x v) (has_append v xs ys)
  where
    by : (b : Bool) → has v (xs ++ ys) ≡ (if has v xs then true else has v ys) → (if b then true else has v (xs ++ ys)) ≡ (if (if b then true else has v xs) then true else has v ys)
    by true e = refl
    by false e = e

both_no : (a b : Bool) → (if a then true else b) ≡ false → (a ≡ false) × (b ≡ false)
both_no true b e = cc
both_no false b e = (refl, e)

not_first : (v x : ℕ) (ys : List ℕ) → has v (x ∷ ys) ≡ false → x ≢ v
not_first v x ys e f = let g : nat_eq x v ≡ false = (both_no (nat_eq x v) (has v ys) e).0 in let h : nat_eq x v ≡ true = eq-eqb x v f in cc

pub get_other : (ss : List Seen) (i j : ℕ) (t : Seen) → i ≢ j → slice_get (slice_set ss i t) j ≡ slice_get ss j
get_other [] i j t h = refl
get_other (x ∷ ss) zero zero t h = absurd (h refl)
get_other (x ∷ ss) zero (suc j) t h = refl
get_other (x ∷ ss) (suc i) zero t h = refl
get_other (x ∷ ss) (suc i) (suc j) t h = get_other ss i j t (λ e. h (ap suc e))

-- ## What a pick weighs

pub unready_none : (o : OwnState) (g : Option Going) (q : List Work) → ready (record { own = o; going = g; queue = q }) ≡ false → first (record { own = o; going = g; queue = q }) ≡ None
unready_none o (Some t) q e = cc
unready_none o None [] e = refl
unready_none o None (i ∷ q) e = cc

idle_weight : (g : Option Going) (q : List Work) → g ≡ None → q ≡ [] → potentials q * turn_bound + turn_weight g ≡ 0
idle_weight g q e f = ap (λ x. potentials q * turn_bound + turn_weight x) e ∙ ap (λ x. potentials x * turn_bound + 0) f

unready_weight : (k : ℕ) (r : Picked) (was is : Seen) → Picks k r was is → ready was ≡ false → weight is ≤ weight was
unready_weight k picked.Idle was is p e = let z : weight is ≡ 0 = idle_weight is.going is.queue p.going p.queue in omega arith
unready_weight k (picked.Unfinished s) was is p e = let n : first was ≡ None = unready_none was.own was.going was.queue e in let b = p.0.begins in absurd (cc)
unready_weight k picked.Ended was is p e = let n : first was ≡ None = unready_none was.own was.going was.queue e in let b = p.begins in absurd (cc)

pub not_heavier : (k : ℕ) (r : Picked) (was is : Seen) → Picks k r was is → (ready was ≡ true → weight is < weight was) → weight is ≤ weight was
not_heavier k r was is p l = by (ready was) refl
  where
    by : (b : Bool) → ready was ≡ b → weight is ≤ weight was
    by true e = let h = l e in omega arith
    by false e = unready_weight k r was is p e

weights_at_most : (ss : List Seen) (w : ℕ) (was is : Seen) → slice_get ss w ≡ Some was → weight is ≤ weight was → weights (slice_set ss w is) ≤ weights ss
weights_at_most [] w was is e f = cc
weights_at_most (s ∷ ss) zero was is e f = let same : weight s ≡ weight was = (let x : s ≡ was = cc in ap weight x) in omega arith
weights_at_most (s ∷ ss) (suc w) was is e f = let g = weights_at_most ss w was is e f in omega arith

weights_fall : (ss : List Seen) (w : ℕ) (was is : Seen) → slice_get ss w ≡ Some was → weight is < weight was → weights (slice_set ss w is) < weights ss
weights_fall [] w was is e f = cc
weights_fall (s ∷ ss) zero was is e f = let same : weight s ≡ weight was = (let x : s ≡ was = cc in ap weight x) in omega arith
weights_fall (s ∷ ss) (suc w) was is e f = let g = weights_fall ss w was is e f in omega arith

pick_at_most : (w k : ℕ) (r : Picked) (old new : List Seen) → PickedAt w k r old new → weights new ≤ weights old
pick_at_most w k r old new p =
    let P : List Seen → Type 0 = λ ss. weights ss ≤ weights old in
    subst P (sym p.set) (weights_at_most old w p.was p.is p.at (not_heavier k r p.was p.is p.picks p.lighter))

pick_falls : (w k : ℕ) (r : Picked) (old new : List Seen) → (p : PickedAt w k r old new) → ready p.was ≡ true → weights new < weights old
pick_falls w k r old new p h =
    let P : List Seen → Type 0 = λ ss. weights ss < weights old in
    subst P (sym p.set) (weights_fall old w p.was p.is p.at (p.lighter h))

-- a turn began where one was ready
ready_true : (b : Bool) → (b ≡ false → ⊥) → b ≡ true
ready_true true h = refl
ready_true false h = absurd (h refl)

pub picked_ready : (k : ℕ) (r : Picked) (was is : Seen) → Picks k r was is → (r ≡ picked.Idle → ⊥) → ready was ≡ true
picked_ready k picked.Idle was is p h = absurd (h refl)
picked_ready k (picked.Unfinished s) was is p h = ready_true (ready was) (λ e. let n : first was ≡ None = unready_none was.own was.going was.queue e in let b = p.0.begins in cc)
picked_ready k picked.Ended was is p h = ready_true (ready was) (λ e. let n : first was ≡ None = unready_none was.own was.going was.queue e in let b = p.begins in cc)

-- ## One life after the other

pub passed_none : (lives : List ℕ) (ss : List Seen) (js : List PickEntry) → Passed lives ss ss js lives
passed_none lives ss js = record { ended = []; are = refl; passed = tt; others = λ v h. refl; dues = refl; lighter = omega arith; joined = λ j. j }

module _ (k : ℕ) (r : Picked) (lives : List ℕ) (old mid new : List Seen) (js ks : List PickEntry) (v : ℕ) (left : List ℕ) (rising : Rising lives) (h : Passed lives old mid js (v ∷ left)) (p : Kept v k r mid new js ks) where
  below : Each (λ u. u < v) h.ended
  below = let P : List ℕ → Type 0 = λ xs. Rising xs in before h.ended v left (subst P h.are rising)

  at_old : slice_get old v ≡ Some p.picked.was
  at_old = sym (h.others v (has_below v h.ended below)) ∙ p.picked.at

  at_new : slice_get new v ≡ Some p.picked.is
  at_new = ap (λ ss. slice_get ss v) p.picked.set ∙ get_set mid v p.picked.was p.picked.is p.picked.at

  stays : (u : ℕ) → v ≢ u → slice_get new u ≡ slice_get mid u
  stays u o = ap (λ ss. slice_get ss u) p.picked.set ∙ get_other mid v u p.picked.is o

  still : (u : ℕ) → u < v → IdleAt old mid u → IdleAt old new u
  still u l i = record { was = i.was; is = i.is; at = i.at; now = stays u (λ e. absurd (omega arith)) ∙ i.now; idle = i.idle }

  all_still : Each (IdleAt old new) h.ended
  all_still = each_both (λ u. u < v) (IdleAt old mid) (IdleAt old new) h.ended still below h.passed

  other : (u : ℕ) → has u (h.ended ++ v ∷ []) ≡ false → slice_get new u ≡ slice_get old u
  other u e =
      let f = both_no (has u h.ended) (has u (v ∷ [])) (sym (has_append u h.ended (v ∷ [])) ∙ e) in
      stays u (not_first u v [] f.1) ∙ h.others u f.0

  same_dues : map due new ≡ map due old
  same_dues = ap (map due) p.picked.set ∙ (dues_set mid v p.picked.was p.picked.is p.picked.at (picks_due k r p.picked.was p.picked.is p.picked.picks) ∙ h.dues)

  all_joined : AllJoined js old → AllJoined ks new
  all_joined j = joined_after v k r mid new js ks p (h.joined j)

  at_most : weights new ≤ weights old
  at_most = let a = pick_at_most v k r mid new p.picked in let b = h.lighter in omega arith

  was_ready : (r ≡ picked.Idle → left ≡ []) → (xs ys : List ℕ) → xs ≡ v ∷ ys → ys ≡ left → slot_ready old xs ≡ true → ready p.picked.was ≡ true
  was_ready last [] ys e f g = cc
  was_ready last (x ∷ []) ys e f g = let same : x ≡ v = cc in ap ready_of (sym (ap (slice_get old) same ∙ at_old)) ∙ g
  was_ready last (x ∷ y ∷ zs) ys e f g = picked_ready k r p.picked.was p.picked.is p.picked.picks (λ i. let n : left ≡ [] = last i in let m : y ∷ zs ≡ ys = cc in cc)

  falls : (r ≡ picked.Idle → left ≡ []) → (ended : List ℕ) → lives ≡ ended ++ v ∷ left → slot_ready old lives ≡ true → weights new + length (v ∷ left) < weights old + length lives
  falls last [] e s = let n : length lives ≡ length (v ∷ left) = ap length e in let a = pick_falls v k r mid new p.picked (was_ready last lives left e refl s) in let b = h.lighter in omega arith
  falls last (x ∷ xs) e s = let n : length lives ≡ length (x ∷ xs ++ v ∷ left) = ap length e in let m = longer xs in let a = at_most in omega arith
    where
      longer : (xs : List ℕ) → length (v ∷ left) ≤ length (xs ++ v ∷ left)
      longer [] = omega arith
      longer (x ∷ xs) = let g = longer xs in omega arith

  pub slot_picked : (r ≡ picked.Idle → left ≡ []) → PickedSlot k r lives old new js ks (v ∷ left)
  slot_picked last = record {
    ended = h.ended;
    life = v;
    waiting = left;
    are = h.are;
    left_is = refl;
    passed = all_still;
    was = p.picked.was;
    is = p.picked.is;
    at = at_old;
    now = at_new;
    picks = p.picked.picks;
    last = last;
    others = other;
    dues = same_dues;
    journal = p.journal;
    joined = all_joined;
    lighter = falls last h.ended h.are;
  }

  pub passed_on : r ≡ picked.Idle → ks ≡ js → Passed lives old new js left
  passed_on i same = record {
    ended = h.ended ++ v ∷ [];
    are = h.are ∙ sym (append_cons h.ended v left);
    passed = each_more (IdleAt old new) h.ended v all_still (record { was = p.picked.was; is = p.picked.is; at = at_old; now = at_new; idle = (let P : Picked → Type 0 = λ x. Picks k x p.picked.was p.picked.is in subst P i p.picked.picks) });
    others = other;
    dues = same_dues;
    lighter = at_most;
    joined = λ j. (let P : List PickEntry → Type 0 = λ xs. AllJoined xs new in subst P same (all_joined j));
  }
