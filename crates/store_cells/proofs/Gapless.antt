-- The indices below the first gap, and those of a map of what lies past it.
use Rattle.std.proofs.Common.{◌≡◌, ℕ, zero, suc, ◌+◌, ◌<◌, ◌≤◌, List, [], ◌∷◌, ◌++◌, length, length-append, refl, sym, ap, ◌∙◌, subst, Option, Some, None, arith, Bool, true, false, eqb, cond}
use Rattle.std.specs.Prelude.{IfNone, IfSome, MatchOption, nat_lt}
use Rattle.std.specs.BTreeMap.{insert_entry as tree_insert, is_at}
use Rattle.std.specs.Cmp.{ranks}
use Rattle.std.specs.declared.cmp.Ordering.{Ordering}
use Rattle.std.specs.declared.cmp.Ordering.TheVariants.{Less, Equal, Greater}
use Rattle.std.specs.List.{AllByRecursion}
use Rattle.std.specs.Map.{keys_of}
use Rattle.std.specs.Ordering.{MatchOrdering, is_lt, match_ordering, nat_cmp}
use Rattle.std.proofs.lemmas.Bool.Decides.{nat_tests}
use Rattle.std.proofs.lemmas.List.{append-nil, append_assoc}
use Rattle.std.proofs.lemmas.Map.Keys.{ge_from_not_lt}
use Rattle.store_cells.specs.Holes.{IsNonePast, IsPoppedPast}
use Rattle.property_names.specs.declared.names.TheConstants.{FIRST_INDEX}
use Rattle.store_cells.specs.Listed.{AreBelow, AreFrom, AreListed, IsLastPast, IsLastRuled, IsNext, by_rule, joined}
use Rattle.store_cells.specs.Numbered.{found_in, noted_below}
use Rattle.store_cells.proofs.Indexed.{at_is}
use Rattle.store_cells.proofs.Lists.{none_some}

-- comparisons of indices
cmp_less : (a b : ℕ) → a < b → nat_cmp a b ≡ Less
cmp_less a b lt = by (nat_cmp a b) (ranks a b)
  where
    by : (o : Ordering) → MatchOrdering o (a < b) (a ≡ b) (b < a) → o ≡ Less
    by Less h = refl
    by Equal h = absurd (omega (arith, lt, h))
    by Greater h = absurd (omega (arith, lt, h))

cmp_equal : (a b : ℕ) → a ≡ b → nat_cmp a b ≡ Equal
cmp_equal a b e = by (nat_cmp a b) (ranks a b)
  where
    by : (o : Ordering) → MatchOrdering o (a < b) (a ≡ b) (b < a) → o ≡ Equal
    by Less h = absurd (omega (arith, e, h))
    by Equal h = refl
    by Greater h = absurd (omega (arith, e, h))

cmp_greater : (a b : ℕ) → b < a → nat_cmp a b ≡ Greater
cmp_greater a b lt = by (nat_cmp a b) (ranks a b)
  where
    by : (o : Ordering) → MatchOrdering o (a < b) (a ≡ b) (b < a) → o ≡ Greater
    by Less h = absurd (omega (arith, lt, h))
    by Equal h = absurd (omega (arith, lt, h))
    by Greater h = refl

at_same : (a b : ℕ) → a ≡ b → is_at (nat_cmp a) b ≡ true
at_same a b e = at_is a b ∙ grind (arith, nat_tests, e)

at_other : (a b : ℕ) → (a ≡ b → ⊥) → is_at (nat_cmp a) b ≡ false
at_other a b ne = at_is a b ∙ by (eqb a b) refl
  where
    by : (c : Bool) → eqb a b ≡ c → c ≡ false
    by true e = absurd (ne (grind (arith, nat_tests, e)))
    by false e = refl

-- an index by rule
pub found_near : (k at i m : ℕ) (far : List (ℕ × ℕ)) → at ≡ k + i → i < m → found_in (by_rule k m ++ far) at ≡ Some (FIRST_INDEX + at)
found_near k at i zero far e lt = absurd (omega (arith, lt))
found_near k at zero (suc m) far e lt =
    let same : k ≡ at = omega (arith, e) in
    ap (λ b. cond b (Some (FIRST_INDEX + k)) (found_in (by_rule (suc k) m ++ far) at)) (at_same at k (sym same)) ∙ ap (λ i. Some (FIRST_INDEX + i)) same
found_near k at (suc i) (suc m) far e lt =
    ap (λ b. cond b (Some (FIRST_INDEX + k)) (found_in (by_rule (suc k) m ++ far) at)) (at_other at k (λ same. omega (arith, e, same)))
    ∙ found_near (suc k) at i m far (omega (arith, e)) (omega (arith, lt))

-- an index past them
pub found_far : (k at m : ℕ) (far : List (ℕ × ℕ)) → k + m ≤ at → found_in (by_rule k m ++ far) at ≡ found_in far at
found_far k at zero far le = refl
found_far k at (suc m) far le =
    ap (λ b. cond b (Some (FIRST_INDEX + k)) (found_in (by_rule (suc k) m ++ far) at)) (at_other at k (λ same. omega (arith, le, same)))
    ∙ found_far (suc k) at m far (omega (arith, le))

-- an index is noted again
step : (k at n m : ℕ) (far : List (ℕ × ℕ)) → k < at → (k, FIRST_INDEX + k) ∷ tree_insert nat_cmp (by_rule (suc k) m ++ far) at n ≡ tree_insert nat_cmp (by_rule k (suc m) ++ far) at n
step k at n m far lt = sym (ap (λ o. match_ordering o ((at, n) ∷ (k, FIRST_INDEX + k) ∷ (by_rule (suc k) m ++ far)) ((k, n) ∷ (by_rule (suc k) m ++ far)) ((k, FIRST_INDEX + k) ∷ tree_insert nat_cmp (by_rule (suc k) m ++ far) at n)) (cmp_greater at k lt))

pub same_near : (k at i n m : ℕ) (far : List (ℕ × ℕ)) → at ≡ k + i → i < m → n ≡ FIRST_INDEX + at → by_rule k m ++ far ≡ tree_insert nat_cmp (by_rule k m ++ far) at n
same_near k at i n zero far e lt is = absurd (omega (arith, lt))
same_near k at zero n (suc m) far e lt is =
    let same : at ≡ k = omega (arith, e) in
    let number : FIRST_INDEX + k ≡ n = omega (arith, e, is) in
    ap (λ x. (k, x) ∷ (by_rule (suc k) m ++ far)) number
    ∙ sym (ap (λ o. match_ordering o ((at, n) ∷ (k, FIRST_INDEX + k) ∷ (by_rule (suc k) m ++ far)) ((k, n) ∷ (by_rule (suc k) m ++ far)) ((k, FIRST_INDEX + k) ∷ tree_insert nat_cmp (by_rule (suc k) m ++ far) at n)) (cmp_equal at k same))
same_near k at (suc i) n (suc m) far e lt is =
    ap (λ l. (k, FIRST_INDEX + k) ∷ l) (same_near (suc k) at i n m far (omega (arith, e)) (omega (arith, lt)) is)
    ∙ step k at n m far (omega (arith, e))

-- an index is noted right behind them
first_far : (at n : ℕ) (far : List (ℕ × ℕ)) → AreFrom (suc at) far → (at, n) ∷ far ≡ tree_insert nat_cmp far at n
first_far at n [] h = refl
first_far at n (e ∷ far) h = sym (ap (λ o. match_ordering o ((at, n) ∷ e ∷ far) ((e.0, n) ∷ far) (e ∷ tree_insert nat_cmp far at n)) (cmp_less at e.0 (omega (arith, h.0))))

pub push_near : (k at n m : ℕ) (far : List (ℕ × ℕ)) → at ≡ k + m → n ≡ FIRST_INDEX + at → AreFrom (suc at) far → by_rule k (suc m) ++ far ≡ tree_insert nat_cmp (by_rule k m ++ far) at n
push_near k at n zero far e is h =
    let same : k ≡ at = omega (arith, e) in
    let number : FIRST_INDEX + k ≡ n = omega (arith, e, is) in
    (λ j. (same j, number j) ∷ far) ∙ first_far at n far h
push_near k at n (suc m) far e is h =
    ap (λ l. (k, FIRST_INDEX + k) ∷ l) (push_near (suc k) at n m far (omega (arith, e)) is h) ∙ step k at n m far (omega (arith, e))

-- an index is noted past them
pub insert_far : (k at n m : ℕ) (far : List (ℕ × ℕ)) → k + m ≤ at → by_rule k m ++ tree_insert nat_cmp far at n ≡ tree_insert nat_cmp (by_rule k m ++ far) at n
insert_far k at n zero far le = refl
insert_far k at n (suc m) far le = ap (λ l. (k, FIRST_INDEX + k) ∷ l) (insert_far (suc k) at n m far (omega (arith, le))) ∙ step k at n m far (omega (arith, le))

-- what the map keeps
from_more : (m : ℕ) (far : List (ℕ × ℕ)) → AreFrom m far → found_in far m ≡ None → AreFrom (suc m) far
from_more m [] h none = tt
from_more m (e ∷ far) h none = by (is_at (nat_cmp m) e.0) refl none (from_more m far h.1)
  where
    by : (b : Bool) → is_at (nat_cmp m) e.0 ≡ b → cond b (Some e.1) (found_in far m) ≡ None → (found_in far m ≡ None → AreFrom (suc m) far) → AreFrom (suc m) (e ∷ far)
    by true g some rest = absurd (none_some (sym some))
    by false g missing rest = (grind (arith, nat_tests, h.0, sym (at_is m e.0) ∙ g), rest missing)

pub listed_more : (upto more at n : ℕ) (far : List (ℕ × ℕ)) → more ≡ upto + 1 → IsNext upto far at n → AreListed upto far → AreListed more far
listed_more upto more at n far one h is = record {
  from = subst (λ m. AreFrom m far) (sym (omega (arith, one))) (from_more upto far is.from (subst (λ i. found_in far i ≡ None) h.next h.absent));
  ruled = omega (arith, one, h.next, h.ruled);
}

pub from_insert : (m at n : ℕ) (far : List (ℕ × ℕ)) → m ≤ at → AreFrom m far → AreFrom m (tree_insert nat_cmp far at n)
from_insert m at n [] le h = (le, tt)
from_insert m at n (e ∷ far) le h = by (nat_cmp at e.0) (from_insert m at n far le h.1)
  where
    by : (o : Ordering) → AreFrom m (tree_insert nat_cmp far at n) → AreFrom m (match_ordering o ((at, n) ∷ e ∷ far) ((e.0, n) ∷ far) (e ∷ tree_insert nat_cmp far at n))
    by Less rest = (le, h)
    by Equal rest = h
    by Greater rest = (h.0, rest)

pub from_front : (m : ℕ) (far : List (ℕ × ℕ)) (e : ℕ × ℕ) → AreFrom m (far ++ e ∷ []) → AreFrom m far × (m ≤ e.0)
from_front m [] e h = (tt, h.0)
from_front m (x ∷ far) e h = let rest = from_front m far e h.1 in ((h.0, rest.0), rest.1)

-- all below
pub below_join : (k m b : ℕ) (far : List (ℕ × ℕ)) → k + m ≤ b → AreBelow b far → AreBelow b (by_rule k m ++ far)
below_join k zero b far le h = h
below_join k (suc m) b far le h = (omega (arith, le), below_join (suc k) m b far (omega (arith, le)) h)

pub below_keys : (at : ℕ) (far : List (ℕ × ℕ)) → AllByRecursion (λ q. is_lt (nat_cmp at q) ≡ false) (keys_of far) → AreBelow (at + 1) far
below_keys at [] h = tt
below_keys at (e ∷ far) h = (omega (arith, ge_from_not_lt at e.0 h.0), below_keys at far h.1)

pub below_less : (at : ℕ) (far : List (ℕ × ℕ)) → AllByRecursion (λ q. nat_cmp q at ≡ Less) (keys_of far) → AreBelow at far
below_less at [] h = tt
below_less at (e ∷ far) h = (less (nat_cmp e.0 at) (ranks e.0 at) h.0, below_less at far h.1)
  where
    less : (o : Ordering) → MatchOrdering o (e.0 < at) (e.0 ≡ at) (at < e.0) → o ≡ Less → e.0 < at
    less Less lt g = lt
    less Equal same g = absurd (cc)
    less Greater gt g = absurd (cc)

-- none from an index on is noted
lt_true : (m n : ℕ) → m < n → nat_lt m n ≡ true
lt_true m n lt = grind (arith, nat_tests, lt)

none_found : (m i : ℕ) (els : List (ℕ × ℕ)) → AreBelow m els → m ≤ i → found_in els i ≡ None
none_found m i [] h le = refl
none_found m i (e ∷ els) h le = ap (λ b. cond b (Some e.1) (found_in els i)) (at_other i e.0 (λ same. omega (arith, h.0, le, same))) ∙ none_found m i els h.1 le

all_below : (m n : ℕ) (els : List (ℕ × ℕ)) → AreBelow m els → m ≤ n → noted_below n els ≡ els
all_below m n [] h le = refl
all_below m n (e ∷ els) h le = ap (λ b. cond b (e ∷ noted_below n els) (noted_below n els)) (lt_true e.0 n (omega (arith, h.0, le))) ∙ ap (λ l. e ∷ l) (all_below m n els h.1 le)

pub none_from_end : (m n : ℕ) (els : List (ℕ × ℕ)) → AreBelow m els → m ≤ n → IsNonePast n els
none_from_end m n els h le = record { found = λ i more. none_found m i els h (omega (arith, le, more)); below = all_below m n els h le }

-- the last one is taken out
found_last : (at k : ℕ) (new : List (ℕ × ℕ)) → AreBelow at new → found_in (new ++ (at, k) ∷ []) at ≡ Some k
found_last at k [] h = ap (λ b. cond b (Some k) None) (at_same at at refl)
found_last at k (e ∷ new) h = ap (λ b. cond b (Some e.1) (found_in (new ++ (at, k) ∷ []) at)) (at_other at e.0 (λ same. omega (arith, h.0, same))) ∙ found_last at k new h.1

found_before : (at k i : ℕ) (new : List (ℕ × ℕ)) → AreBelow at new → found_in new i ≡ cond (is_at (nat_cmp at) i) None (found_in (new ++ (at, k) ∷ []) i)
found_before at k i [] h = by (is_at (nat_cmp at) i) refl
  where
    by : (b : Bool) → is_at (nat_cmp at) i ≡ b → None ≡ cond b None (cond (is_at (nat_cmp i) at) (Some k) None)
    by true g = refl
    by false g = sym (ap (λ b. cond b (Some k) None) (at_other i at (λ same. absurd (grind (arith, nat_tests, same, sym (at_is at i) ∙ g)))))
found_before at k i (e ∷ new) h = by (is_at (nat_cmp i) e.0) refl (is_at (nat_cmp at) i) refl (found_before at k i new h.1)
  where
    by : (b : Bool) → is_at (nat_cmp i) e.0 ≡ b → (d : Bool) → is_at (nat_cmp at) i ≡ d → found_in new i ≡ cond d None (found_in (new ++ (at, k) ∷ []) i)
        → cond b (Some e.1) (found_in new i) ≡ cond d None (cond b (Some e.1) (found_in (new ++ (at, k) ∷ []) i))
    by true g true f rest = absurd (grind (arith, nat_tests, h.0, sym (at_is i e.0) ∙ g, sym (at_is at i) ∙ f))
    by true g false f rest = refl
    by false g true f rest = rest
    by false g false f rest = rest

pub popped_last : (n at k : ℕ) (old new : List (ℕ × ℕ)) → old ≡ new ++ (at, k) ∷ [] → AreBelow at new → n ≤ at → IsPoppedPast n k old new
popped_last n at k old new e h le = subst (λ (l : List (ℕ × ℕ)). IsPoppedPast n k l new) (sym e) (record {
  at = at;
  past = le;
  last = refl;
  was = found_last at k new h;
  now = λ i. found_before at k i new h;
})

-- of the map
pub popped_far : (n k upto : ℕ) (old new : List (ℕ × ℕ)) → IsLastPast n k old new → AreFrom upto old → IsPoppedPast n k (joined upto old) (joined upto new)
popped_far n k upto old new h from =
    let parts = from_front upto new (h.at, k) (subst (AreFrom upto) h.last from) in
    popped_last n h.at k (joined upto old) (joined upto new) (ap (λ l. by_rule 0 upto ++ l) h.last ∙ sym (append_assoc (by_rule 0 upto) new ((h.at, k) ∷ []))) (below_join 0 upto h.at new (omega (arith, parts.1)) h.below) h.past

-- and of those by rule
by_push : (k m : ℕ) → by_rule k (suc m) ≡ by_rule k m ++ (k + m, FIRST_INDEX + (k + m)) ∷ []
by_push k zero = let same : k ≡ k + 0 = omega arith in ap (λ i. (i, FIRST_INDEX + i) ∷ []) same
by_push k (suc m) = let same : suc k + m ≡ k + suc m = omega arith in ap (λ l. (k, FIRST_INDEX + k) ∷ l) (by_push (suc k) m ∙ ap (λ i. by_rule (suc k) m ++ (i, FIRST_INDEX + i) ∷ []) same)

none_else : (n m : ℕ) (far : List (ℕ × ℕ)) → AreFrom m far → AreBelow n far → n < m → far ≡ []
none_else n m [] from below lt = refl
none_else n m (e ∷ far) from below lt = absurd (omega (arith, from.0, below.0, lt))

popped_bare : (n k old new : ℕ) → IsLastRuled n k old new → IsPoppedPast n k (joined old []) (joined new [])
popped_bare n k old new h =
    let same : 0 + new ≡ new = omega arith in
    let number : FIRST_INDEX + (0 + new) ≡ k = omega (arith, h.number) in
    popped_last n new k (joined old []) (joined new [])
    (ap (λ m. by_rule 0 m ++ []) h.last ∙ append-nil (by_rule 0 (suc new)) ∙ by_push 0 new ∙ (λ j. by_rule 0 new ++ (same j, number j) ∷ []) ∙ ap (λ l. l ++ (new, k) ∷ []) (sym (append-nil (by_rule 0 new))))
    (below_join 0 new new [] (omega arith) tt) h.past

pub popped_near : (n : ℕ) (r : Option ℕ) (old new : ℕ) (far : List (ℕ × ℕ)) → AreFrom old far → AreBelow n far
    → IfSome r (λ k. IsLastRuled n k old new) → IfNone r ((new ≡ old) × (old ≤ n))
    → MatchOption r ((joined new far ≡ joined old far) × IsNonePast n (joined old far)) (λ k. IsPoppedPast n k (joined old far) (joined new far))
popped_near n None old new far from below some none = (ap (λ m. joined m far) none.0, none_from_end n n (joined old far) (below_join 0 old n far (omega (arith, none.1)) below) (omega arith))
popped_near n (Some k) old new far from below some none =
    let bare = none_else n old far from below (omega (arith, some.last, some.past)) in
    subst (λ (l : List (ℕ × ℕ)). IsPoppedPast n k (joined old l) (joined new l)) (sym bare) (popped_bare n k old new some)

-- one less is noted then
pub popped_less : (n k : ℕ) (old new : List (ℕ × ℕ)) → IsPoppedPast n k old new → length new < length old
popped_less n k old new h =
    let longer : length old ≡ length new + 1 = ap (λ (l : List (ℕ × ℕ)). length l) h.last ∙ length-append new ((h.at, k) ∷ []) in
    omega (arith, longer)

pub popped_fewer : (n : ℕ) (r : Option ℕ) (old new : List (ℕ × ℕ)) → MatchOption r ((new ≡ old) × IsNonePast n old) (λ k. IsPoppedPast n k old new) → IfSome r (λ k. length new < length old)
popped_fewer n None old new h = tt
popped_fewer n (Some k) old new h = popped_less n k old new h

-- the map stays as it is where fewer have their numbers by rule
from_less : (m k : ℕ) (far : List (ℕ × ℕ)) → k ≤ m → AreFrom m far → AreFrom k far
from_less m k [] le h = tt
from_less m k (e ∷ far) le h = (omega (arith, le, h.0), from_less m k far le h.1)

pub listed_less : (n : ℕ) (r : Option ℕ) (old new : ℕ) (far : List (ℕ × ℕ)) → IfSome r (λ k. IsLastRuled n k old new) → IfNone r ((new ≡ old) × (old ≤ n)) → AreListed old far → AreListed new far
listed_less n None old new far some none h = subst (λ m. AreListed m far) (sym none.0) h
listed_less n (Some k) old new far some none h = record {
  from = from_less old new far (omega (arith, some.last)) h.from;
  ruled = omega (arith, some.last, h.ruled);
}

-- a map with no index, and bounds of one
pub empty_far : (far : List (ℕ × ℕ)) → (0 < length far → false ≡ true) → far ≡ []
empty_far [] h = refl
empty_far (e ∷ far) h = absurd (false_true (h (omega arith)))
  where
    false_true : false ≡ true → ⊥
    false_true e = cc

pub below_none : (n : ℕ) (far : List (ℕ × ℕ)) → far ≡ [] → AreBelow n far
below_none n far e = subst (AreBelow n) (sym e) tt

pub below_more : (m n : ℕ) (far : List (ℕ × ℕ)) → m ≤ n → AreBelow m far → AreBelow n far
below_more m n [] le h = tt
below_more m n (e ∷ far) le h = (omega (arith, le, h.0), below_more m n far le h.1)

pub none_then : {A P : Type 0} (r : Option A) → P → IfNone r P
none_then None p = p
none_then (Some a) p = tt
