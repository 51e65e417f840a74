-- What the outcome of a machine without depth says of a text, for any grammar whose machine is complete, sound and closable.
use Rattle.std.proofs.Common.{◌≡◌, ℕ, zero, suc, ◌+◌, ◌<◌, ◌≤◌, inl, inr, List, [], ◌∷◌, ◌++◌, Option, Some, None, refl, ap, sym, subst, ◌∙◌, length, take, arith}
use Rattle.std.proofs.lemmas.Bool.{cases_order}
use Rattle.exact_refusals.specs.Places.{signs, Within}
use Rattle.exact_refusals.specs.Judge as machine
use Rattle.exact_refusals.specs.Judge.{Outcome, Read, Refused, Deeper}
use Rattle.exact_refusals.proofs.Exact as exact
use Rattle.exact_refusals.specs.Plain.{at_no_depth, outcome, Moves, Closes, EachCloses, IsRefusedAt}

-- tokens without depth
abbrev flat : {Token : Type 0} → List Token → List (Token × ℕ)
flat [] = []
flat (t ∷ ts) = (t, 0) ∷ flat ts

module _ {Token : Type 0} where
  signs_flat : (ts : List Token) → signs (flat ts) ≡ ts
  signs_flat [] = refl
  signs_flat (t ∷ ts) = ap (λ l. t ∷ l) (signs_flat ts)

  flat_within : (ts : List Token) → Within 0 (flat ts)
  flat_within [] = tt
  flat_within (t ∷ ts) = (omega arith, flat_within ts)

  signs_append : (ts us : List (Token × ℕ)) → signs (ts ++ us) ≡ signs ts ++ signs us
  signs_append [] us = refl
  signs_append (t ∷ ts) us = ap (λ l. t.0 ∷ l) (signs_append ts us)

  same_flat : (ts us : List (Token × ℕ)) → Within 0 ts → Within 0 us → signs ts ≡ signs us → ts ≡ us
  same_flat [] [] v w e = refl
  same_flat [] (u ∷ us) v w e = cc
  same_flat (t ∷ ts) [] v w e = cc
  same_flat (t ∷ ts) (u ∷ us) v w e =
      let head : t.0 ≡ u.0 = cc in
      let depth : t.1 ≡ u.1 = omega (arith, v.0, w.0) in
      let tails : signs ts ≡ signs us = cc in
      let rest : ts ≡ us = same_flat ts us (v.1) (w.1) tails in
      let one : t ≡ u = λ i. (head i, depth i) in
      λ i. one i ∷ rest i

module _ {Token State Tree : Type 0} (step : State → Token → Option State) (done : State → Option Tree) where
  abbrev deep : State → Token → Option (ℕ × State)
  deep st t = at_no_depth (step st t)

  step_flat : (r : Option State) (d : ℕ) (next : State) → ◌≡◌ {A = Option (ℕ × State)} (at_no_depth r) (Some (d, next)) → (d ≡ 0) × (r ≡ Some next)
  step_flat None d next e = cc
  step_flat (Some st) d next e =
      let pair : ◌≡◌ {A = ℕ × State} (0, st) (d, next) = cc in
      (sym (ap (λ z. z.0) pair), ap (λ z. Some (z.1)) pair)

  takes_flat : (ts : List (Token × ℕ)) (st : State) (p : Tree) → machine.Takes deep done st ts p → Within 0 ts
  takes_flat [] st p h = tt
  takes_flat (t ∷ ts) st p h =
      let s = step_flat (step st t.0) t.1 (h.0) (h.1) in
      (omega (arith, s.0), takes_flat ts (h.0) p (h.2))

  module _ (begin : State) (Spells : List Token → Tree → Type 0) (complete : (ts : List Token) (p : Tree) → Spells ts p → outcome step done begin ts ≡ Read p) (sound : (ts : List Token) (p : Tree) → outcome step done begin ts ≡ Read p → Spells ts p) where
    abbrev Is : List (Token × ℕ) → Tree → Type 0
    Is ts p = Within 0 ts × Spells (signs ts) p

    is_taken : (ts : List (Token × ℕ)) (p : Tree) → Is ts p → machine.Takes deep done begin ts p
    is_taken ts p h =
        let m = exact.read_means deep done begin (machine.Takes deep done begin) (λ us q g. g) (λ us q g. g) 0 (signs ts) p (complete (signs ts) p (h.1)) in
        subst (λ l. machine.Takes deep done begin l p) (same_flat m.tokens ts m.within (h.0) m.same) m.spelled

    taken_is : (ts : List (Token × ℕ)) (p : Tree) → machine.Takes deep done begin ts p → Is ts p
    taken_is ts p h =
        let within = takes_flat ts begin p h in
        (within, sound (signs ts) p (exact.tree_means deep done begin (machine.Takes deep done begin) (λ us q g. g) (λ us q g. g) 0 (signs ts) p (record { tokens = ts; same = refl; within = within; spelled = h })))

    -- the same tokens have one tree
    pub one_tree : (ts : List Token) (p q : Tree) → Spells ts p → Spells ts q → p ≡ q
    one_tree ts p q h g = let e = complete ts p h in let f = complete ts q g in cc

    module _ (closable : EachCloses step done begin) where
      moves_flat : (front : List (Token × ℕ)) (st last : State) → machine.Moves deep st front last → Moves step st (signs front) last
      moves_flat [] st last m = m
      moves_flat (t ∷ front) st last m = (m.0, (step_flat (step st t.0) t.1 (m.0) (m.1)).1, moves_flat front (m.0) last (m.2))

      closes : machine.IsClosable deep done begin
      closes front last m =
          let c = closable (signs front) last (moves_flat front begin last m) in
          let r = exact.read_means deep done last (machine.Takes deep done last) (λ us q g. g) (λ us q g. g) 0 (c.0) (c.1) (c.2) in
          (r.tokens, c.1, r.spelled)

      -- the token at which the machine is stuck is the place of the refusal
      pub refused_is : (input : List Token) (left at : ℕ) → outcome step done begin input ≡ Refused left → at + left ≡ length input → IsRefusedAt Spells input at
      refused_is input left at e place =
          let r = exact.refused_means deep done begin Is is_taken taken_is closes 0 input left at e place in
          record {
            more = signs r.more;
            tree = r.tree;
            begins = subst (λ l. Spells l r.tree) (signs_append r.front r.more ∙ ap (λ l. l ++ signs r.more) r.taken) (r.begins.1);
            inside = r.inside;
            refused = λ ts p spelled agree. r.refused (flat ts) p (flat_within ts, subst (λ l. Spells l p) (sym (signs_flat ts)) spelled) (ap (take (suc at)) (signs_flat ts) ∙ agree);
          }

-- An invariant `Arises` of the states that arise: it holds at the start, each step keeps it, and a state that has it closes.
module _ {Token State Tree : Type 0} (step : State → Token → Option State) (done : State → Option Tree) (begin : State) (Arises : State → Type 0) (first : Arises begin) (kept : (st next : State) (t : Token) → step st t ≡ Some next → Arises st → Arises next) (closes : (st : State) → Arises st → Closes step done st) where
  arises_over : (front : List Token) (st last : State) → Arises st → Moves step st front last → Arises last
  arises_over [] st last a m = subst Arises m a
  arises_over (t ∷ front) st last a m = arises_over front (m.0) last (kept st (m.0) t (m.1) a) (m.2)

  pub each_closes : EachCloses step done begin
  each_closes front last m = closes last (arises_over front begin last first m)

-- ## One token

module _ {Token State Tree : Type 0} (step : State → Token → Option State) (done : State → Option Tree) where
  -- a token that is taken
  pub taken : (st next : State) (t : Token) (ts : List Token) → step st t ≡ Some next → outcome step done st (t ∷ ts) ≡ outcome step done next ts
  taken st next t ts e = rw e refl

  -- two states that do the same with it
  pub same_step : (st other : State) (t : Token) (ts : List Token) → step st t ≡ step other t → outcome step done st (t ∷ ts) ≡ outcome step done other (t ∷ ts)
  same_step st other t ts e = ap (λ r. machine.judge_step 0 (at_no_depth r) (suc (length ts)) (λ next. outcome step done next ts)) e

  -- a token that is not
  pub stuck : (st : State) (t : Token) (ts : List Token) → step st t ≡ None → outcome step done st (t ∷ ts) ≡ Refused (suc (length ts))
  stuck st t ts e = rw e refl

  -- where a tree is read, the token was taken
  pub was_taken : (st : State) (t : Token) (ts : List Token) (p : Tree) → outcome step done st (t ∷ ts) ≡ Read p → (next : State) × (step st t ≡ Some next) × (outcome step done next ts ≡ Read p)
  was_taken st t ts p e = by_step (step st t) refl
    where
      by_step : (r : Option State) → step st t ≡ r → (next : State) × (step st t ≡ Some next) × (outcome step done next ts ≡ Read p)
      by_step None h = let refused = stuck st t ts h in cc
      by_step (Some next) h = (next, h, sym (taken st next t ts h) ∙ e)

  -- the end of the text
  pub was_done : (st : State) (p : Tree) → outcome step done st [] ≡ Read p → done st ≡ Some p
  was_done st p e = by_end (done st) refl
    where
      by_end : (r : Option Tree) → done st ≡ r → done st ≡ Some p
      by_end None h = let end : outcome step done st [] ≡ Refused 0 = rw h refl in cc
      by_end (Some q) h =
          let end : outcome step done st [] ≡ Read q = rw h refl in
          let same : q ≡ p = cc in
          h ∙ ap Some same

-- A text is refused at one place, and has then no tree.
module _ {Token Tree : Type 0} (Spells : List Token → Tree → Type 0) (input : List Token) where
  less : (m n : ℕ) (xs ys : List Token) → m ≤ n → take n xs ≡ take n ys → take m xs ≡ take m ys
  less zero n xs ys le e = refl
  less (suc m) zero xs ys le e = absurd (omega (arith, le))
  less (suc m) (suc n) [] [] le e = refl
  less (suc m) (suc n) [] (y ∷ ys) le e = cc
  less (suc m) (suc n) (x ∷ xs) [] le e = cc
  less (suc m) (suc n) (x ∷ xs) (y ∷ ys) le e =
      let head : x ≡ y = cc in
      let tail : take m xs ≡ take m ys = less m n xs ys (omega (arith, le)) cc in
      cc

  front_same : (n : ℕ) (xs more : List Token) → n ≤ length xs → take n (take n xs ++ more) ≡ take n xs
  front_same zero xs more le = refl
  front_same (suc n) [] more le = absurd (omega (arith, le))
  front_same (suc n) (x ∷ xs) more le = ap (λ l. x ∷ l) (front_same n xs more (omega (arith, le)))

  not_below : (a b : ℕ) → IsRefusedAt Spells input a → IsRefusedAt Spells input b → a < b → ⊥
  not_below a b g h lt = g.refused (take b input ++ h.more) h.tree h.begins (less (suc a) b _ _ lt (front_same b input h.more h.inside))

  pub one_place : (a b : ℕ) → IsRefusedAt Spells input a → IsRefusedAt Spells input b → a ≡ b
  one_place a b g h = elim (cases_order a b) [ inl e ↦ e | inr (inl lt) ↦ absurd (not_below a b g h lt) | inr (inr lt) ↦ absurd (not_below b a h g lt) ]

  pub no_tree : (at : ℕ) (p : Tree) → IsRefusedAt Spells input at → Spells input p → ⊥
  no_tree at p h g = h.refused input p g refl
