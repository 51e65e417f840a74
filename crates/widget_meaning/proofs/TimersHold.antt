-- The waiting timers of a widget stay few and ahead of its clock, and the bound on the turns of an advance is never met.
use Rattle.std.proofs.Common.{◌≡◌, ℕ, zero, suc, ◌+◌, ◌*◌, ◌/◌, ◌<◌, ◌≤◌, List, [], ◌∷◌, ◌++◌, length, Bool, true, false, refl, sym, ap, inl, inr, ◌⊎◌, arith}
use Rattle.std.specs.Prelude.{codes, nat_le, nat_lt, nat_eq, if◌then◌else◌, Option, Some, None}
use Rattle.std.specs.List.{fold}
use Rattle.std.specs.Str.{bytes_eq}
use Rattle.std.proofs.lemmas.Bool.{leb-true, leb-false, ltb-true, ltb-false, eqb-true, eqb-false}
use Rattle.js_tree.specs.Plain.{Stmts, Fun}
use Rattle.widget_meaning.specs.Limits.{max_units, max_timers, min_delay}
use Rattle.widget_meaning.specs.Values.{Normal, Is, Refers, Return, Break, Continue, Throw, Stop}
use Rattle.plain_tree.specs.Trees.{Label, TextOf, ElementOf}
use Rattle.widget_meaning.specs.Trees.{label_of, node_at, relabelled}
use Rattle.widget_meaning.specs.OwnState.{OwnState, State, Timer}
use Rattle.widget_meaning.specs.Plan.{Plan, End, Ended, Stopped, OutOfFuel}
use Rattle.widget_meaning.specs.Meaning.{run_plan}
use Rattle.widget_meaning.specs.Turns.{begun, turn, end_turn, noted, note_text}
use Rattle.widget_meaning.specs.Dispatch.{nearest, dispatch}
use Rattle.widget_meaning.specs.Items.{Event, Item, Occurs, Advance, item, item_at, live_item, occurs, if_heard, with_value, event_value, due_turns, unless_stopped, on_due, next_due, sooner, timer_turn, timer_plan, without_timer, without_due, resting}
use Rattle.widget_meaning.specs.Alone.{Content, alone_from, beginning, loaded, load_library, library_turn, library_plan, go_turn, go_plan, call_parts}
use Rattle.widget_meaning.specs.Ways.{ByValue}
use Rattle.widget_meaning.specs.Keeps.{Invariant, HoldsOf, Keeps}
use Rattle.widget_meaning.specs.Laws.{NoneBefore, AreTimers, TimerLaws}
use Rattle.widget_meaning.proofs.Keeping.{none, no_links, no_pages}
use Rattle.widget_meaning.proofs.KeepingRuns.{run_keeps}
use Rattle.widget_meaning.proofs.KeepingForms.{dispatch_r}
use Rattle.widget_meaning.proofs.KeepingJobs.{timer_plan_r, library_plan_r, go_plan_r}
use Rattle.tree_ops.specs.Labels.{with_attribute}

-- how many timers are due before a time
abbrev pub due_before : ℕ → List Timer → ℕ
due_before e [] = 0
due_before e (t ∷ ts) = if nat_lt t.due e then suc (due_before e ts) else due_before e ts

-- a timer is due at a time
abbrev pub HasDue : ℕ → List Timer → Type 0
HasDue d [] = ⊥
HasDue d (t ∷ ts) = (t.due ≡ d) ⊎ HasDue d ts

-- arithmetic
same_le : (n : ℕ) → n ≤ n
same_le n = omega arith

chain_le : (m n k : ℕ) → m ≤ n → n ≤ k → m ≤ k
chain_le m n k h i = omega arith

below_le : (m n k : ℕ) → m ≤ n → n < k → m ≤ k
below_le m n k h i = omega arith

less_le : (m n : ℕ) → m < n → m ≤ n
less_le m n h = omega arith

later_than : (c d n : ℕ) → c ≡ d → c + 10 ≤ n → d < n
later_than c d n e h = omega arith

one_more : (l m : ℕ) → l < 64 → m ≡ suc l → m ≤ 64
one_more l m h e = omega arith

suc_both : (m n : ℕ) → m ≡ n → suc m ≡ suc n
suc_both m n e = omega arith

up : (m n : ℕ) → m ≤ n → m ≤ suc n
up m n h = omega arith

up_both : (m n : ℕ) → m ≤ n → suc m ≤ suc n
up_both m n h = omega arith

fewer : (m n : ℕ) → suc m ≡ n → n ≤ 64 → m ≤ 64
fewer m n e h = omega arith

same_as : (m n : ℕ) → m ≡ n → m ≤ n
same_as m n e = omega arith

no_later : (m n : ℕ) → m < n → n ≤ m → ⊥
no_later m n h i = omega arith

past_end : (e now clock due : ℕ) → e ≤ now + 10 → clock ≡ now → clock + 10 ≤ due → e ≤ due
past_end e now clock due i c d = omega arith

before_end : (due d e : ℕ) → due ≡ d → d < e → due < e
before_end due d e h i = omega arith

-- lists
no_earlier : (m n : ℕ) (ts : List Timer) → m ≤ n → NoneBefore n ts → NoneBefore m ts
no_earlier m n [] h i = tt
no_earlier m n (t ∷ ts) h i = (chain_le m n t.due h i.0, no_earlier m n ts h i.1)

with_one : (n : ℕ) (ts : List Timer) (t : Timer) → n ≤ t.due → NoneBefore n ts → NoneBefore n (ts ++ t ∷ [])
with_one n [] t h i = (h, tt)
with_one n (u ∷ us) t h i = (i.0, with_one n us t h i.1)

length_one : (ts : List Timer) (t : Timer) → length (ts ++ t ∷ []) ≡ suc (length ts)
length_one [] t = refl
length_one (u ∷ us) t = ap suc (length_one us t)

-- one that is due at the end or later is not counted
not_counted : (e n : ℕ) (t : Timer) (b : Bool) → nat_lt t.due e ≡ b → e ≤ t.due → (if b then suc n else n) ≡ n
not_counted e n t true h i = absurd (no_later t.due e (ltb-true t.due e h) i)
not_counted e n t false h i = refl

counted : (e n : ℕ) (t : Timer) (b : Bool) → nat_lt t.due e ≡ b → t.due < e → (if b then suc n else n) ≡ suc n
counted e n t true h i = refl
counted e n t false h i = absurd (no_later t.due e i (ltb-false t.due e h))

due_one : (e : ℕ) (ts : List Timer) (t : Timer) → e ≤ t.due → due_before e (ts ++ t ∷ []) ≡ due_before e ts
due_one e [] t h = not_counted e 0 t (nat_lt t.due e) refl h
due_one e (u ∷ us) t h = ap (λ n. if nat_lt u.due e then suc n else n) (due_one e us t h)

due_of : (n m : ℕ) (b : Bool) → n ≤ m → (if b then suc n else n) ≤ suc m
due_of n m true h = up_both n m h
due_of n m false h = up n m h

due_few : (e : ℕ) (ts : List Timer) → due_before e ts ≤ length ts
due_few e [] = same_le 0
due_few e (t ∷ ts) = due_of (due_before e ts) (length ts) (nat_lt t.due e) (due_few e ts)

has_ahead : (m d : ℕ) (ts : List Timer) → NoneBefore m ts → HasDue d ts → m ≤ d
has_ahead m d [] h i = absurd i
has_ahead m d (t ∷ ts) h (inl e) = chain_le m t.due d h.0 (same_as t.due d e)
has_ahead m d (t ∷ ts) h (inr i) = has_ahead m d ts h.1 i

-- the next timer
abbrev pub IsNext : ℕ → List Timer → Option Timer → Type 0
IsNext limit ts None = NoneBefore (suc limit) ts
IsNext limit ts (Some t) = (t.due ≤ limit) × (NoneBefore t.due ts × HasDue t.due ts)

earlier : (limit : ℕ) (t u : Timer) (ts : List Timer) (b : Bool) → nat_le t.due u.due ≡ b → t.due ≤ limit → IsNext limit ts (Some u) → IsNext limit (t ∷ ts) (if b then Some t else Some u)
earlier limit t u ts true e h i = (h, ((same_le t.due, no_earlier t.due u.due ts (leb-true t.due u.due e) i.1.0), inl refl))
earlier limit t u ts false e h i = (i.0, ((less_le u.due t.due (leb-false t.due u.due e), i.1.0), inr i.1.1))

sooner_is : (limit : ℕ) (t : Timer) (ts : List Timer) (b : Bool) (r : Option Timer) → nat_le t.due limit ≡ b → IsNext limit ts r → IsNext limit (t ∷ ts) (sooner (if b then Some t else None) r)
sooner_is limit t ts false None e i = (leb-false t.due limit e, i)
sooner_is limit t ts false (Some u) e i = (i.0, ((below_le u.due limit t.due i.0 (leb-false t.due limit e), i.1.0), inr i.1.1))
sooner_is limit t ts true None e i = (leb-true t.due limit e, ((same_le t.due, no_earlier t.due (suc limit) ts (up t.due limit (leb-true t.due limit e)) i), inl refl))
sooner_is limit t ts true (Some u) e i = earlier limit t u ts (nat_le t.due u.due) refl (leb-true t.due limit e) i

pub next_is : (limit : ℕ) (ts : List Timer) → IsNext limit ts (next_due limit ts)
next_is limit [] = tt
next_is limit (t ∷ ts) = sooner_is limit t ts (nat_le t.due limit) (next_due limit ts) refl (next_is limit ts)

-- what is left without it
other : (d : ℕ) (t : Timer) (ts : List Timer) → nat_eq t.due d ≡ false → HasDue d (t ∷ ts) → HasDue d ts
other d t ts e (inl h) = absurd (eqb-false t.due d e h)
other d t ts e (inr h) = h

shorter_at : (d : ℕ) (t : Timer) (ts : List Timer) (b : Bool) → nat_eq t.due d ≡ b → HasDue d (t ∷ ts) → (HasDue d ts → suc (length (without_due d ts)) ≡ length ts) → suc (length (if b then ts else t ∷ without_due d ts)) ≡ suc (length ts)
shorter_at d t ts true e h f = refl
shorter_at d t ts false e h f = ap suc (f (other d t ts e h))

shorter : (d : ℕ) (ts : List Timer) → HasDue d ts → suc (length (without_due d ts)) ≡ length ts
shorter d [] h = absurd h
shorter d (t ∷ ts) h = shorter_at d t ts (nat_eq t.due d) refl h (shorter d ts)

still_at : (m d : ℕ) (t : Timer) (ts : List Timer) (b : Bool) → m ≤ t.due → NoneBefore m ts → NoneBefore m (without_due d ts) → NoneBefore m (if b then ts else t ∷ without_due d ts)
still_at m d t ts true h i k = i
still_at m d t ts false h i k = (h, k)

still_ahead : (m d : ℕ) (ts : List Timer) → NoneBefore m ts → NoneBefore m (without_due d ts)
still_ahead m d [] h = tt
still_ahead m d (t ∷ ts) h = still_at m d t ts (nat_eq t.due d) h.0 h.1 (still_ahead m d ts h.1)

pushed : (b : Bool) (m n : ℕ) → suc m ≡ n → suc (if b then suc m else m) ≡ (if b then suc n else n)
pushed true m n e = ap suc e
pushed false m n e = e

one_due_at : (e d : ℕ) (t : Timer) (ts : List Timer) (b : Bool) → nat_eq t.due d ≡ b → d < e → HasDue d (t ∷ ts)
    → (HasDue d ts → suc (due_before e (without_due d ts)) ≡ due_before e ts)
    → suc (due_before e (if b then ts else t ∷ without_due d ts)) ≡ due_before e (t ∷ ts)
one_due_at e d t ts true h l i f = sym (counted e (due_before e ts) t (nat_lt t.due e) refl (before_end t.due d e (eqb-true t.due d h) l))
one_due_at e d t ts false h l i f = pushed (nat_lt t.due e) (due_before e (without_due d ts)) (due_before e ts) (f (other d t ts h i))

one_due : (e d : ℕ) (ts : List Timer) → d < e → HasDue d ts → suc (due_before e (without_due d ts)) ≡ due_before e ts
one_due e d [] l h = absurd h
one_due e d (t ∷ ts) l h = one_due_at e d t ts (nat_eq t.due d) refl l h (one_due e d ts l)

-- within a turn at a time, no more timers are due before an end, up to which none that is started is due
pub record Waits (now e count : ℕ) (ts : List Timer) (clock : ℕ) : Type 0 where
  pub clock_is : clock ≡ now
  pub few : length ts ≤ max_timers
  pub ahead : NoneBefore now ts
  pub due : due_before e ts ≤ count

abbrev waiting : (now e count : ℕ) → e ≤ now + min_delay → Invariant
waiting now e count i = record {
  Holds = λ c ts clock. Waits now e count ts clock;
  paid = λ c cost ts clock h f. h;
  started = λ c ts clock t h l d. record {
    clock_is = h.clock_is;
    few = one_more (length ts) (length (ts ++ t ∷ [])) l (length_one ts t);
    ahead = with_one now ts t (less_le now t.due (later_than clock now t.due h.clock_is d)) h.ahead;
    due = chain_le _ (due_before e ts) count (same_as _ _ (due_one e ts t (past_end e now clock t.due i h.clock_is d))) h.due;
  };
  links = no_links;
  pages = no_pages;
}

fine_waits : (now e count : ℕ) (i : e ≤ now + min_delay) (s : State) → Waits now e count s.own.timers s.own.clock → HoldsOf (waiting now e count i) 0 s
fine_waits now e count i s h = record { holds = h; linked = tt; page = tt; wide = none (length s.own.scopes) }

abbrev pub WaitsOf : ℕ → ℕ → ℕ → OwnState → Type 0
WaitsOf now e count o = Waits now e count o.timers o.clock

module _ (now e count : ℕ) (i : e ≤ now + min_delay) where
  choose : (b : Bool) (o p : OwnState) → WaitsOf now e count o → WaitsOf now e count p → WaitsOf now e count (if b then o else p)
  choose true o p h k = h
  choose false o p h k = k

  noted_r : (t : List ℕ) (o : OwnState) → WaitsOf now e count o → WaitsOf now e count (noted t o)
  noted_r t o h = choose (nat_lt max_units (o.counts.units + (length t + 1))) _ _ h h

  end_r : (x : End) (s : State) (o : OwnState) → WaitsOf now e count o → WaitsOf now e count (end_turn x s o)
  end_r (Ended (Throw v)) s o h = noted_r (note_text s v) o h
  end_r (Ended Normal) s o h = h
  end_r (Ended (Is v)) s o h = h
  end_r (Ended (Refers r)) s o h = h
  end_r (Ended (Return v)) s o h = h
  end_r (Ended Break) s o h = h
  end_r (Ended Continue) s o h = h
  end_r (Stopped c) s o h = h
  end_r OutOfFuel s o h = h

  turn_r : (k : State → Plan) (o : OwnState) → Keeps (waiting now e count i) 0 ByValue (k (begun o)) → WaitsOf now e count (turn k o)
  turn_r k o f = end_r (run_plan o.grant (k (begun o))).how (run_plan o.grant (k (begun o))).state _ (run_keeps (waiting now e count i) 0 ByValue o.grant (k (begun o)) f).holds

-- after a turn the timers are few and ahead
pub are_timers : (now e count : ℕ) (o : OwnState) → WaitsOf now e count o → AreTimers o
are_timers now e count o h = record { few = h.few; ahead = no_earlier o.clock now o.timers (same_as o.clock now h.clock_is) h.ahead }

waits : (o : OwnState) → AreTimers o → WaitsOf o.clock 0 (due_before 0 o.timers) o
waits o h = record { clock_is = refl; few = h.few; ahead = h.ahead; due = same_le (due_before 0 o.timers) }

-- the turn of the next timer
pub next_waits : (t : Timer) (o : OwnState) (e : ℕ) → e ≤ t.due + min_delay → AreTimers o → NoneBefore t.due o.timers → HasDue t.due o.timers
    → WaitsOf t.due e (due_before e (without_due t.due o.timers)) (timer_turn t o)
next_waits t o e i h a d =
    let n : ℕ = due_before e (without_due t.due o.timers) in
    turn_r t.due e n i (timer_plan t) (without_timer t o) (timer_plan_r (waiting t.due e n i) 0 t (begun (without_timer t o)) (fine_waits t.due e n i (begun (without_timer t o)) (record {
      clock_is = refl;
      few = fewer (length (without_due t.due o.timers)) (length o.timers) (shorter t.due o.timers d) h.few;
      ahead = still_ahead t.due t.due o.timers a;
      due = same_le n;
    })))

-- with a greater bound an advance is the same, and it leaves the timers few and ahead
abbrev Bounded : ℕ → ℕ → ℕ → OwnState → Type 0
Bounded n k limit o = (due_turns k limit o ≡ due_turns n limit o) × AreTimers (due_turns n limit o)

-- up to an end 10 after the clock or sooner, so many timers are still due, none of which is started now; behind it stand so many stretches of 10, in each of which at most 64 are due
record Nears (limit n e w : ℕ) (o : OwnState) : Type 0 where
  timers : AreTimers o
  near : e ≤ o.clock + min_delay
  far : limit < e + 10 * w
  left : 64 * w + due_before e o.timers < n

same_end : (e clock due p : ℕ) → e ≤ clock + 10 → clock ≤ due → p ≡ due → e ≤ p + 10
same_end e clock due p h i c = omega arith

end_le : (e clock due : ℕ) → e ≤ clock + 10 → clock ≤ due → e ≤ due + 10
end_le e clock due h i = omega arith

one_less : (w m count before n : ℕ) → m ≤ count → suc count ≡ before → 64 * w + before < suc n → 64 * w + m < n
one_less w m count before n h e l = omega arith

no_stretch : (limit due e : ℕ) → limit < e + 10 * 0 → e ≤ due → due ≤ limit → ⊥
no_stretch limit due e h i l = omega arith

next_stretch : (limit due e v : ℕ) → limit < e + 10 * suc v → e ≤ due → limit < due + 10 + 10 * v
next_stretch limit due e v h i = omega arith

next_left : (v m count rest all before n : ℕ) → m ≤ count → count ≤ rest → suc rest ≡ all → all ≤ 64 → 64 * suc v + before < suc n → 64 * v + m < n
next_left v m count rest all before n h i e k l = omega arith

end_next : (due p : ℕ) → p ≡ due → due + 10 ≤ p + 10
end_next due p c = omega arith

-- after the next timer: one less before the same end, or the end is 10 after it and one stretch fewer is left
nearer : (limit n e w : ℕ) (o : OwnState) (t : Timer) (b : Bool) → nat_lt t.due e ≡ b → Nears limit (suc n) e w o → t.due ≤ limit
    → NoneBefore t.due o.timers → HasDue t.due o.timers → (f : ℕ) × (v : ℕ) × Nears limit n f v (timer_turn t o)
nearer limit n e w o t true b h l a d =
    let c : ℕ = due_before e (without_due t.due o.timers) in
    let i : o.clock ≤ t.due = has_ahead o.clock t.due o.timers h.timers.ahead d in
    let x : WaitsOf t.due e c (timer_turn t o) = next_waits t o e (end_le e o.clock t.due h.near i) h.timers a d in (
      e,
      w,
      record {
        timers = are_timers t.due e c (timer_turn t o) x;
        near = same_end e o.clock t.due (timer_turn t o).clock h.near i x.clock_is;
        far = h.far;
        left = one_less w (due_before e (timer_turn t o).timers) c (due_before e o.timers) n x.due (one_due e t.due o.timers (ltb-true t.due e b) d) h.left;
      },
    )
nearer limit n e zero o t false b h l a d = absurd (no_stretch limit t.due e h.far (ltb-false t.due e b) l)
nearer limit n e (suc v) o t false b h l a d =
    let f : ℕ = t.due + 10 in
    let ts : List Timer = without_due t.due o.timers in
    let x : WaitsOf t.due f (due_before f ts) (timer_turn t o) = next_waits t o f (same_le f) h.timers a d in (
      f,
      v,
      record {
        timers = are_timers t.due f (due_before f ts) (timer_turn t o) x;
        near = end_next t.due (timer_turn t o).clock x.clock_is;
        far = next_stretch limit t.due e v h.far (ltb-false t.due e b);
        left = next_left v (due_before f (timer_turn t o).timers) (due_before f ts) (length ts) (length o.timers) (due_before e o.timers) n x.due (due_few f ts) (shorter t.due o.timers d) h.timers.few h.left;
      },
    )

by_next : (n k limit e w : ℕ) (o : OwnState) → Nears limit (suc n) e w o
    → ((p : OwnState) (f v : ℕ) → Nears limit n f v p → Bounded n k limit p)
    → (r : Option Timer) → IsNext limit o.timers r
    → (on_due r limit o (due_turns k limit) ≡ on_due r limit o (due_turns n limit)) × AreTimers (on_due r limit o (due_turns n limit))
by_next n k limit e w o h f None i = (refl, record { few = h.timers.few; ahead = no_earlier limit (suc limit) o.timers (up limit limit (same_le limit)) i })
by_next n k limit e w o h f (Some t) i =
    let x : (y : ℕ) × (v : ℕ) × Nears limit n y v (timer_turn t o) = nearer limit n e w o t (nat_lt t.due e) refl h i.0 i.1.0 i.1.1 in
    f (timer_turn t o) x.0 x.1 x.2

by_stop : (c : Option Stop) (o : OwnState) (f g : OwnState → OwnState) → AreTimers o → (f o ≡ g o) × AreTimers (g o) → (unless_stopped c o f ≡ unless_stopped c o g) × AreTimers (unless_stopped c o g)
by_stop None o f g h e = e
by_stop (Some c) o f g h e = (refl, h)

nothing_less : (n : ℕ) → n < 0 → ⊥
nothing_less n h = omega arith

no_greater : (n : ℕ) → suc n ≤ 0 → ⊥
no_greater n h = omega arith

pred_le : (m n : ℕ) → suc m ≤ suc n → m ≤ n
pred_le m n h = omega arith

bounded : (n k limit e w : ℕ) (o : OwnState) → n ≤ k → Nears limit n e w o → Bounded n k limit o
bounded zero k limit e w o l h = absurd (nothing_less _ h.left)
bounded (suc n) zero limit e w o l h = absurd (no_greater n l)
bounded (suc n) (suc k) limit e w o l h =
    by_stop o.stop o (λ p. on_due (next_due limit p.timers) limit p (due_turns k limit)) (λ p. on_due (next_due limit p.timers) limit p (due_turns n limit)) h.timers
    (by_next n k limit e w o h (λ p f v i. bounded n k limit f v p (pred_le n k l) i) (next_due limit o.timers) (next_is limit o.timers))

enough_turns : (w count len : ℕ) → count ≤ len → len ≤ 64 → 64 * w + count < 64 * (w + 2)
enough_turns w count len h i = omega arith

stretches : (c d : ℕ) → c + d < c + 10 + 10 * (d / 10)
stretches c d = omega arith

no_fewer : (n m : ℕ) → n ≤ n + m
no_fewer n m = omega arith

advanced : (o : OwnState) (d more : ℕ) → AreTimers o → Bounded (max_timers * (d / min_delay + 2)) (max_timers * (d / min_delay + 2) + more) (o.clock + d) o
advanced o d more h =
    let e : ℕ = o.clock + 10 in
    let n : ℕ = max_timers * (d / min_delay + 2) in
    bounded n (n + more) (o.clock + d) e (d / 10) o (no_fewer n more) (record {
      timers = h;
      near = same_le e;
      far = stretches o.clock d;
      left = enough_turns (d / 10) (due_before e o.timers) (length o.timers) (due_few e o.timers) h.few;
    })

-- turns and items
pub none_left : (n : ℕ) → 0 ≤ n
none_left n = omega arith

turn_timers : (k : State → Plan) (o : OwnState) → AreTimers o → ((i : Invariant) → HoldsOf i 0 (begun o) → Keeps i 0 ByValue (k (begun o))) → AreTimers (turn k o)
turn_timers k o h f =
    let n : ℕ = due_before 0 o.timers in
    let i : 0 ≤ o.clock + min_delay = none_left (o.clock + min_delay) in
    are_timers o.clock 0 n (turn k o) (turn_r o.clock 0 n i k o (f (waiting o.clock 0 n i) (fine_waits o.clock 0 n i (begun o) (waits o h))))

-- and its clock stays
pub turn_clock : (k : State → Plan) (o : OwnState) → AreTimers o → ((i : Invariant) → HoldsOf i 0 (begun o) → Keeps i 0 ByValue (k (begun o))) → (turn k o).clock ≡ o.clock
turn_clock k o h f =
    let n : ℕ = due_before 0 o.timers in
    let i : 0 ≤ o.clock + min_delay = none_left (o.clock + min_delay) in
    (turn_r o.clock 0 n i k o (f (waiting o.clock 0 n i) (fine_waits o.clock 0 n i (begun o) (waits o h)))).clock_is

either : (b : Bool) (o p : OwnState) → AreTimers o → AreTimers p → AreTimers (if b then o else p)
either true o p h k = h
either false o p h k = k

pub value_timers : (l : Option Label) (n : ℕ) (v : Option (List ℕ)) (o : OwnState) → AreTimers o → AreTimers (with_value l n v o)
value_timers None n v o h = h
value_timers (Some (TextOf t)) n v o h = h
value_timers (Some (ElementOf tag attrs)) n None o h = h
value_timers (Some (ElementOf tag attrs)) n (Some v) o h =
    let p : OwnState = record o { forest = relabelled n (with_attribute (codes "value") (Some v) (ElementOf tag attrs)) o.forest } in
    either (bytes_eq tag (codes "input")) p o (record { few = h.few; ahead = h.ahead }) h

heard_timers : (x : Option (ℕ × List ℕ)) (k : State → Plan) (o : OwnState) → AreTimers o → ((i : Invariant) → HoldsOf i 0 (begun o) → Keeps i 0 ByValue (k (begun o))) → AreTimers (if_heard x k o)
heard_timers None k o h f = h
heard_timers (Some x) k o h f = turn_timers k o h f

occurs_timers : (e : Event) (n : Option ℕ) (o : OwnState) → AreTimers o → AreTimers (occurs e n o)
occurs_timers e None o h = record { few = h.few; ahead = h.ahead }
occurs_timers e (Some n) o h =
    let p : OwnState = with_value (label_of n o.forest) n e.value o in
    heard_timers (nearest (resting p) (Some n) e.kind) (dispatch e.kind n (event_value e.value) 0) p (value_timers (label_of n o.forest) n e.value o h)
    (λ i r. dispatch_r i 0 e.kind n (event_value e.value) 0 (begun p) r)

live_timers : (o : OwnState) (i : Item) → AreTimers o → AreTimers (live_item o i)
live_timers o (Occurs e) h = occurs_timers e (node_at o.forest e.path) o h
live_timers o (Advance d) h = (advanced o d 0 h).1

pub item_timers : (c : Option Stop) (o : OwnState) (i : Item) → AreTimers o → AreTimers (item_at c o i)
item_timers None o i h = live_timers o i h
item_timers (Some c) o (Occurs e) h = record { few = h.few; ahead = h.ahead }
item_timers (Some c) o (Advance d) h = h

items_timers : (o : OwnState) (is : List Item) → AreTimers o → AreTimers (alone_from o is)
items_timers o [] h = h
items_timers o (i ∷ is) h = items_timers (item o i) is (item_timers o.stop o i h)

-- the load
unless_timers : (c : Option Stop) (o : OwnState) (f : OwnState → OwnState) → AreTimers o → ((p : OwnState) → AreTimers p → AreTimers (f p)) → AreTimers (unless_stopped c o f)
unless_timers None o f h k = k o h
unless_timers (Some c) o f h k = h

library_timers : (x : Option (List ℕ × Fun)) (o : OwnState) → AreTimers o → AreTimers (library_turn x o)
library_timers None o h = h
library_timers (Some (x, f)) o h = turn_timers (library_plan x f) o h (λ i r. library_plan_r i 0 x f (begun o) r)

go_timers : (x : Option (List ℕ × Fun)) (o : OwnState) → AreTimers o → AreTimers (go_turn x o)
go_timers None o h = h
go_timers (Some (x, f)) o h = turn_timers (go_plan f) o h (λ i r. go_plan_r i 0 f (begun o) r)

pub load_timers : (l : Stmts) (o : OwnState) → AreTimers o → AreTimers (load_library o l)
load_timers l o h = unless_timers o.stop o (library_turn (call_parts l)) h (λ p k. library_timers (call_parts l) p k)

pub libraries_timers : (ls : List Stmts) (o : OwnState) → AreTimers o → AreTimers (fold load_library o ls)
libraries_timers [] o h = h
libraries_timers (l ∷ ls) o h = libraries_timers ls (load_library o l) (load_timers l o h)

pub loaded_timers : (w : Content) (grant : ℕ) → AreTimers (loaded w grant)
loaded_timers w grant =
    let o : OwnState = fold load_library (beginning w grant) w.libraries in
    unless_timers o.stop o (go_turn (call_parts w.script)) (libraries_timers w.libraries (beginning w grant) (record { few = omega arith; ahead = tt })) (λ p k. go_timers (call_parts w.script) p k)

pub timer_laws : TimerLaws
timer_laws = record {
  kept = items_timers;
  whole = λ w grant is. items_timers (loaded w grant) is (loaded_timers w grant);
  enough = λ o d more h. (advanced o d more h).0;
}
