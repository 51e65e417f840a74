-- Lives with events more in their queues.
use Rattle.std.proofs.Common.{◌≡◌, ◌≢◌, ℕ, zero, suc, ◌+◌, ◌<◌, false, List, [], ◌∷◌, ◌++◌, map, length, refl, sym, ap, ◌∙◌, subst, arith, Some, ne_eqb, eq-eqb}
use Rattle.std.specs.Prelude.{slice_get, nat_eq, if◌then◌else◌}
use Rattle.std.specs.List.{fold}
use Rattle.std.specs.Option.{option_map}
use Rattle.std.proofs.lemmas.List.Sums.{fold-append}
use Rattle.std.proofs.lemmas.List.{append-nil}
use Rattle.life_laws.specs.Life as todo
use Rattle.life_laws.specs.Life.{Seen, due, held}
use Rattle.life_laws.specs.Slots.{Each}
use Rattle.life_laws.specs.Chains.{Chains, IsChain, last_from, last_life}
use Rattle.widget_meaning.specs.OwnState.{OwnState}
use Rattle.life_laws.specs.Fed.{event_of}
use Rattle.life_laws.specs.RoundLaws.{with_events}
use Rattle.slot_picks.specs.Feeding.{counts_for, events_for, given_events, told_more, with_more}

pub some_is : {A : Type 0} (x y : A) → Some x ≡ Some y → x ≡ y
some_is x y e = cc

-- ## One life

works_folded : (vs : List (List ℕ)) (o : OwnState) → fold todo.work o (map (λ value. todo.Given (event_of value)) vs) ≡ with_events vs o
works_folded [] o = refl
works_folded (v ∷ vs) o = works_folded vs (todo.work o (todo.Given (event_of v)))

pub due_given : (vs : List (List ℕ)) (s : Seen) → due (given_events vs s) ≡ with_events vs (due s)
due_given vs s = fold-append todo.work (held s.going s.own) s.queue (map (λ value. todo.Given (event_of value)) vs) ∙ works_folded vs (due s)

pub given_none : (s : Seen) → given_events [] s ≡ s
given_none s = ap (λ (q : List todo.Work). record s { queue = q }) (append-nil s.queue)

-- ## All lives

pub more_at : (f : ℕ → List (List ℕ)) (v k n : ℕ) (ss : List Seen) → v + k ≡ n → slice_get (with_more f v ss) k ≡ option_map (given_events (f n)) (slice_get ss k)
more_at f v k n [] e = refl
more_at f v zero n (s ∷ ss) e = let same : v ≡ n = omega arith in ap (λ u. Some (given_events (f u) s)) same
more_at f v (suc k) n (s ∷ ss) e = more_at f (v + 1) k n ss (omega arith)

pub told_at : (f : ℕ → ℕ) (v k n : ℕ) (ns : List ℕ) → v + k ≡ n → slice_get (told_more f v ns) k ≡ option_map (λ t. t + f n) (slice_get ns k)
told_at f v k n [] e = refl
told_at f v zero n (t ∷ ns) e = let same : v ≡ n = omega arith in ap (λ u. Some (t + f u)) same
told_at f v (suc k) n (t ∷ ns) e = told_at f (v + 1) k n ns (omega arith)

-- ## By the slot

last_each_from : (P : ℕ → Type 0) (x : ℕ) (xs : List ℕ) → P x → Each P xs → P (last_from x xs)
last_each_from P x [] p ps = p
last_each_from P x (y ∷ ys) p ps = last_each_from P y ys ps.0 ps.1

pub last_each : (P : ℕ → Type 0) (xs : List ℕ) → 0 < length xs → Each P xs → P (last_life xs)
last_each P [] some ps = absurd (omega (arith, some))
last_each P (x ∷ xs) some ps = last_each_from P x xs ps.0 ps.1

pub last_home : (homes : List ℕ) (born w : ℕ) (c : List ℕ) → IsChain homes born w c → slice_get homes (last_life c) ≡ Some w
last_home homes born w c h = last_each (λ u. slice_get homes u ≡ Some w) c h.some h.home

pub chain_at : (homes : List ℕ) (born k i w : ℕ) (cs : List (List ℕ)) (c : List ℕ) → k + i ≡ w → Chains homes born k cs → slice_get cs i ≡ Some c → IsChain homes born w c
chain_at homes born k i w [] c e h at = cc
chain_at homes born k zero w (d ∷ cs) c e h at = let same : k ≡ w = omega arith in subst (λ n. IsChain homes born n c) same (subst (IsChain homes born k) (some_is d c at) h.0)
chain_at homes born k (suc i) w (d ∷ cs) c e h at = chain_at homes born (k + 1) i w cs c (omega arith) h.1 at

zero_add : (n : ℕ) → 0 + n ≡ n
zero_add n = omega arith

module _ (homes : List ℕ) (born : ℕ) where
  apart : (k w v : ℕ) (c : List ℕ) → IsChain homes born k c → slice_get homes v ≡ Some w → k ≢ w → nat_eq (last_life c) v ≡ false
  apart k w v c h home other = ne_eqb (last_life c) v (λ e. other (some_is k w (sym (last_home homes born k c h) ∙ (ap (slice_get homes) e ∙ home))))

  pub events_none : (k w v : ℕ) (cs : List (List ℕ)) (es : List (List (List ℕ))) → Chains homes born k cs → slice_get homes v ≡ Some w → w < k → events_for cs es v ≡ []
  events_none k w v [] es h home past = refl
  events_none k w v (c ∷ cs) [] h home past = refl
  events_none k w v (c ∷ cs) (e ∷ es) h home past =
      ap (λ b. (if b then e else []) ++ events_for cs es v) (apart k w v c h.0 home (λ same. absurd (omega arith))) ∙ events_none (k + 1) w v cs es h.1 home (omega arith)

  pub counts_none : (k w v : ℕ) (cs : List (List ℕ)) (ns : List ℕ) → Chains homes born k cs → slice_get homes v ≡ Some w → w < k → counts_for cs ns v ≡ 0
  counts_none k w v [] ns h home past = refl
  counts_none k w v (c ∷ cs) [] h home past = refl
  counts_none k w v (c ∷ cs) (n ∷ ns) h home past =
      ap (λ b. (if b then n else 0) + counts_for cs ns v) (apart k w v c h.0 home (λ same. absurd (omega arith))) ∙ (zero_add (counts_for cs ns v) ∙ counts_none (k + 1) w v cs ns h.1 home (omega arith))

  -- the last life of a slot gets the events of this slot
  pub events_from : (k i w v : ℕ) (cs : List (List ℕ)) (es : List (List (List ℕ))) (e : List (List ℕ)) (c : List ℕ) → k + i ≡ w → Chains homes born k cs
      → slice_get cs i ≡ Some c → last_life c ≡ v → slice_get es i ≡ Some e → events_for cs es v ≡ e
  events_from k i w v [] es e c n h at is there = cc
  events_from k i w v (d ∷ cs) [] e c n h at is there = cc
  events_from k zero w v (d ∷ cs) (x ∷ es) e c n h at is there =
      let same : last_life d ≡ v = ap last_life (some_is d c at) ∙ is in
      let home : slice_get homes v ≡ Some k = ap (slice_get homes) (sym same) ∙ last_home homes born k d h.0 in
      ap (λ b. (if b then x else []) ++ events_for cs es v) (eq-eqb (last_life d) v same)
      ∙ (ap (λ r. x ++ r) (events_none (k + 1) k v cs es h.1 home (omega arith)) ∙ (append-nil x ∙ some_is x e there))
  events_from k (suc i) w v (d ∷ cs) (x ∷ es) e c n h at is there =
      let chain = chain_at homes born (k + 1) i w cs c (omega arith) h.1 at in
      let home : slice_get homes v ≡ Some w = ap (slice_get homes) (sym is) ∙ last_home homes born w c chain in
      ap (λ b. (if b then x else []) ++ events_for cs es v) (apart k w v d h.0 home (λ same. absurd (omega arith))) ∙ events_from (k + 1) i w v cs es e c (omega arith) h.1 at is there

  pub counts_from : (k i w v : ℕ) (cs : List (List ℕ)) (ns : List ℕ) (n : ℕ) (c : List ℕ) → k + i ≡ w → Chains homes born k cs
      → slice_get cs i ≡ Some c → last_life c ≡ v → slice_get ns i ≡ Some n → counts_for cs ns v ≡ n
  counts_from k i w v [] ns n c e h at is there = cc
  counts_from k i w v (d ∷ cs) [] n c e h at is there = cc
  counts_from k zero w v (d ∷ cs) (x ∷ ns) n c e h at is there =
      let same : last_life d ≡ v = ap last_life (some_is d c at) ∙ is in
      let home : slice_get homes v ≡ Some k = ap (slice_get homes) (sym same) ∙ last_home homes born k d h.0 in
      let none = counts_none (k + 1) k v cs ns h.1 home (omega arith) in
      let this : x ≡ n = some_is x n there in
      ap (λ b. (if b then x else 0) + counts_for cs ns v) (eq-eqb (last_life d) v same) ∙ omega arith
  counts_from k (suc i) w v (d ∷ cs) (x ∷ ns) n c e h at is there =
      let chain = chain_at homes born (k + 1) i w cs c (omega arith) h.1 at in
      let home : slice_get homes v ≡ Some w = ap (slice_get homes) (sym is) ∙ last_home homes born w c chain in
      ap (λ b. (if b then x else 0) + counts_for cs ns v) (apart k w v d h.0 home (λ same. absurd (omega arith))) ∙ (zero_add (counts_for cs ns v) ∙ counts_from (k + 1) i w v cs ns n c (omega arith) h.1 at is there)
