-- `sort` puts the elements in order, and keeps the order of those that tie.
use Rattle.std.proofs.Common.{◌≡◌, ℕ, suc, zero, ◌+◌, Bool, true, false, cond, List, [], ◌∷◌, refl, ap, sym, arith}
use Rattle.std.proofs.lemmas.Bool.{false≢true}
use Rattle.std.specs.Prelude.{Option, Some, None, if◌then◌else◌, ⊤, filter, not, ◌&&◌}
use Rattle.std.specs.Cmp.{IsStrictWeakOrder}
use Rattle.std.specs.List.Sorted.{IsPermutation, IsSortedBy, IsStableBy, ties}
use Rattle.std.proofs.lemmas.List.Sorted.{IsPermutation-refl, IsPermutation-cons, IsPermutation-trans, IsPermutation-insert}
use Rattle.widget_meaning.specs.Values.{Value}
use Rattle.widget_meaning.specs.Operators.{is_text_before}
use Rattle.widget_meaning.specs.ListChanges.{sort_key, is_key_before, is_before, put_in, sorted}
use Rattle.widget_meaning.specs.NativeLaws.{SortLaws}

text_one_way : (xs ys : List ℕ) → is_text_before xs ys ≡ true → is_text_before ys xs ≡ false
text_one_way [] [] h = absurd (false≢true h)
text_one_way [] (y ∷ ys) h = refl
text_one_way (x ∷ xs) [] h = absurd (false≢true h)
text_one_way (x ∷ xs) (y ∷ ys) h = grind (arith, h, text_one_way xs ys)

text_chain : (xs ys zs : List ℕ) → is_text_before xs ys ≡ false → is_text_before ys zs ≡ false → is_text_before xs zs ≡ false
text_chain xs ys [] g h = refl
text_chain xs [] (z ∷ zs) g h = absurd (false≢true (sym h))
text_chain [] (y ∷ ys) (z ∷ zs) g h = absurd (false≢true (sym g))
text_chain (x ∷ xs) (y ∷ ys) (z ∷ zs) g h = grind (arith, g, h, text_chain xs ys zs)

key_one_way : (a b : Option (List ℕ)) → is_key_before a b ≡ true → is_key_before b a ≡ false
key_one_way None b h = absurd (false≢true h)
key_one_way (Some t) None h = refl
key_one_way (Some t) (Some u) h = text_one_way t u h

key_chain : (a b c : Option (List ℕ)) → is_key_before a b ≡ false → is_key_before b c ≡ false → is_key_before a c ≡ false
key_chain None b c g h = refl
key_chain (Some t) None c g h = absurd (false≢true (sym g))
key_chain (Some t) (Some u) None g h = absurd (false≢true (sym h))
key_chain (Some t) (Some u) (Some v) g h = text_chain t u v g h

-- the order is one
pub order : IsStrictWeakOrder is_before
order = record { one_way = λ v w h. key_one_way (sort_key v) (sort_key w) h; chain = λ u v w g h. key_chain (sort_key u) (sort_key v) (sort_key w) g h }

-- the elements stay
swapped : (b : Bool) (v w : Value) (ws : List Value) → IsPermutation (v ∷ ws) (put_in v ws) → IsPermutation (v ∷ w ∷ ws) (if b then w ∷ put_in v ws else v ∷ w ∷ ws)
swapped true v w ws h = IsPermutation-trans (v ∷ w ∷ ws) (w ∷ v ∷ ws) (w ∷ put_in v ws) (IsPermutation-insert (w ∷ ws) 1 v) (IsPermutation-cons w (v ∷ ws) (put_in v ws) h)
swapped false v w ws h = IsPermutation-refl (v ∷ w ∷ ws)

put_same : (v : Value) (ws : List Value) → IsPermutation (v ∷ ws) (put_in v ws)
put_same v [] = IsPermutation-refl (v ∷ [])
put_same v (w ∷ ws) = swapped (is_before w v) v w ws (put_same v ws)

sorted_same : (vs : List Value) → IsPermutation vs (sorted vs)
sorted_same [] = IsPermutation-refl []
sorted_same (v ∷ vs) = IsPermutation-trans (v ∷ vs) (v ∷ sorted vs) (put_in v (sorted vs)) (IsPermutation-cons v vs (sorted vs) (sorted_same vs)) (put_same v (sorted vs))

-- they rise
abbrev NotBefore : Value → List Value → Type 0
NotBefore v [] = ⊤
NotBefore v (w ∷ ws) = is_before w v ≡ false

abbrev Rises : List Value → Type 0
Rises [] = ⊤
Rises (v ∷ vs) = NotBefore v vs × Rises vs

front_in : (b : Bool) (u v w : Value) (ws : List Value) → is_before w u ≡ false → is_before v u ≡ false → NotBefore u (if b then w ∷ put_in v ws else v ∷ w ∷ ws)
front_in true u v w ws g h = g
front_in false u v w ws g h = h

front : (u v : Value) (ws : List Value) → NotBefore u ws → is_before v u ≡ false → NotBefore u (put_in v ws)
front u v [] g h = h
front u v (w ∷ ws) g h = front_in (is_before w v) u v w ws g h

rises_in : (b : Bool) (v w : Value) (ws : List Value) → is_before w v ≡ b → Rises (w ∷ ws) → Rises (put_in v ws) → Rises (if b then w ∷ put_in v ws else v ∷ w ∷ ws)
rises_in true v w ws e r h = (front w v ws r.0 (order.one_way w v e), h)
rises_in false v w ws e r h = (e, r)

put_rises : (v : Value) (ws : List Value) → Rises ws → Rises (put_in v ws)
put_rises v [] r = (tt, tt)
put_rises v (w ∷ ws) r = rises_in (is_before w v) v w ws refl r (put_rises v ws r.1)

sorted_rises : (vs : List Value) → Rises (sorted vs)
sorted_rises [] = tt
sorted_rises (v ∷ vs) = put_rises v (sorted vs) (sorted_rises vs)

more : (k : ℕ) → suc k + 1 ≡ suc (k + 1)
more k = omega arith

by_index : (vs : List Value) → Rises vs → IsSortedBy is_before vs
by_index [] r k d low h = absurd (omega (arith, h))
by_index (v ∷ []) r k d low h = absurd (omega (arith, h))
by_index (v ∷ w ∷ ws) r zero d low h = r.0
by_index (v ∷ w ∷ ws) r (suc k) d low h = rw (more k) (by_index (w ∷ ws) r.1 k d (omega arith) (omega (arith, h)))

-- and those that tie keep their order
apart : (p q : Bool) (v w : Value) (vs : List Value) → (p ≡ true → q ≡ true → ⊥) → cond q (w ∷ cond p (v ∷ vs) vs) (cond p (v ∷ vs) vs) ≡ cond p (v ∷ cond q (w ∷ vs) vs) (cond q (w ∷ vs) vs)
apart true true v w vs h = absurd (h refl refl)
apart true false v w vs h = refl
apart false q v w vs h = refl

both_not : (a b : Bool) → (not a && not b) ≡ true → (a ≡ false) × (b ≡ false)
both_not true b h = absurd (false≢true h)
both_not false true h = absurd (false≢true h)
both_not false false h = (refl, refl)

no_tie : (x v w : Value) → is_before w v ≡ true → ties is_before x v ≡ true → ties is_before x w ≡ true → ⊥
no_tie x v w e p q =
    let a = (both_not (is_before x v) (is_before v x) p).0 in
    let b = (both_not (is_before x w) (is_before w x) q).1 in
    false≢true (rw (sym (order.chain w x v b a)) e)

stable_in : (b : Bool) (x v w : Value) (ws : List Value) → is_before w v ≡ b → filter (ties is_before x) (put_in v ws) ≡ filter (ties is_before x) (v ∷ ws)
    → filter (ties is_before x) (if b then w ∷ put_in v ws else v ∷ w ∷ ws) ≡ filter (ties is_before x) (v ∷ w ∷ ws)
stable_in true x v w ws e h = rw h (apart (ties is_before x v) (ties is_before x w) v w (filter (ties is_before x) ws) (no_tie x v w e))
stable_in false x v w ws e h = refl

put_stable : (x v : Value) (ws : List Value) → filter (ties is_before x) (put_in v ws) ≡ filter (ties is_before x) (v ∷ ws)
put_stable x v [] = refl
put_stable x v (w ∷ ws) = stable_in (is_before w v) x v w ws refl (put_stable x v ws)

sorted_stable : (vs : List Value) → IsStableBy is_before vs (sorted vs)
sorted_stable [] x = refl
sorted_stable (v ∷ vs) x = rw (put_stable x v (sorted vs)) (ap (λ r. cond (ties is_before x v) (v ∷ r) r) (sorted_stable vs x))

pub sort_laws : (vs : List Value) → SortLaws vs
sort_laws vs = record { same = sorted_same vs; rising = by_index (sorted vs) (sorted_rises vs); stable = sorted_stable vs }
