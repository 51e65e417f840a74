-- What the outcome of a machine says of a text, for any grammar whose machine is complete, sound and closable, and whose tokens open at most one link.
use Rattle.std.proofs.Common.{◌≡◌, ℕ, zero, suc, ◌+◌, ◌<◌, ◌≤◌, List, [], ◌∷◌, ◌++◌, Bool, true, false, Option, Some, None, refl, ap, sym, subst, ◌∙◌, ltb, length, take, get_or, arith, length-append, append-nil, inl, inr, append_assoc, cond as choose}
use Rattle.std.proofs.lemmas.Bool.Decides.{nat_tests}
use Rattle.std.proofs.lemmas.List.{length-take-le}
use Rattle.std.proofs.lemmas.Bool.{cases_order, cases_lt}
use Rattle.exact_refusals.specs.Places.{signs, depths, Within, Agree, HasTree, IsSyntaxAt, IsTooDeepAt}
use Rattle.exact_refusals.specs.Judge as machine
use Rattle.exact_refusals.specs.Judge.{Outcome, ended, IsClosable, OpensOne}
use Rattle.exact_refusals.specs.Judge.Outcome.{Read, Refused, Deeper}

module _ {Token State Tree : Type 0} (step : State → Token → Option (ℕ × State)) (done : State → Option Tree) where
  abbrev Deep : Type 0
  Deep = Token × ℕ

  abbrev Step : Type 0
  Step = Option (ℕ × State)

  abbrev Takes : State → List Deep → Tree → Type 0
  Takes st ts p = machine.Takes step done st ts p

  abbrev Moves : State → List Deep → State → Type 0
  Moves st ts last = machine.Moves step st ts last

  abbrev judge : ℕ → State → List Token → Outcome Tree
  judge limit st ts = machine.judge step done limit st ts

  abbrev judge_step : ℕ → Step → ℕ → (State → Outcome Tree) → Outcome Tree
  judge_step limit r left next = machine.judge_step limit r left next

  moves_takes : (front more : List Deep) (st last : State) (p : Tree) → Moves st front last → Takes last more p → Takes st (front ++ more) p
  moves_takes [] more st last p m h = subst (λ x. Takes x more p) (sym m) h
  moves_takes (t ∷ front) more st last p m h = (m.0, m.1, moves_takes front more (m.0) last p (m.2) h)

  -- where the machine cannot go on
  abbrev Stuck : State → List Token → Type 0
  Stuck last [] = done last ≡ None
  Stuck last (s ∷ after) = step last s ≡ None

  -- what an outcome means
  abbrev Means : ℕ → State → List Token → Outcome Tree → Type 0
  Means limit st ts (Read p) = (ds : List Deep) × (signs ds ≡ ts) × Within limit ds × Takes st ds p
  Means limit st ts (Refused n) = (front : List Deep) × (last : State) × (after : List Token) × Moves st front last × Within limit front × (ts ≡ signs front ++ after) × (length after ≡ n) × Stuck last after
  Means limit st ts (Deeper n) = (front : List Deep) × (last : State) × (t : Deep) × (next : State) × (after : List Token) × Moves st front last × Within limit front × (ts ≡ signs front ++ t.0 ∷ after) × (suc (length after) ≡ n) × (step last t.0 ≡ Some (t.1, next)) × (limit < t.1)

  -- one more token in front
  means_more : (limit : ℕ) (st next : State) (t : Deep) (ts : List Token) (o : Outcome Tree) → step st t.0 ≡ Some (t.1, next) → t.1 ≤ limit → Means limit next ts o → Means limit st (t.0 ∷ ts) o
  means_more limit st next t ts (Read p) e le h = (t ∷ h.0, ap (λ l. t.0 ∷ l) (h.1), (le, h.2), (next, e, h.3))
  means_more limit st next t ts (Refused n) e le h = (t ∷ h.0, h.1, h.2, (next, e, h.3), (le, h.4), ap (λ l. t.0 ∷ l) (h.5), h.6, h.7)
  means_more limit st next t ts (Deeper n) e le h = (t ∷ h.0, h.1, h.2, h.3, h.4, (next, e, h.5), (le, h.6), ap (λ l. t.0 ∷ l) (h.7), h.8, h.9, h.10)

  means_end_at : (limit : ℕ) (st : State) (r : Option Tree) → done st ≡ r → Means limit st [] (ended r)
  means_end_at limit st (Some p) e = ([], refl, tt, e)
  means_end_at limit st None e = ([], st, [], refl, tt, refl, refl, e)

  means_end : (limit : ℕ) (st : State) → Means limit st [] (ended (done st))
  means_end limit st = means_end_at limit st (done st) refl

  means_depth : (limit d : ℕ) (st next : State) (s : Token) (ts : List Token) (b : Bool) → ltb limit d ≡ b → step st s ≡ Some (d, next) → Means limit next ts (judge limit next ts) → Means limit st (s ∷ ts) (choose b (Deeper (suc (length ts))) (judge limit next ts))
  means_depth limit d st next s ts true is e h = ([], st, (s, d), next, ts, refl, tt, refl, refl, e, grind (arith, nat_tests))
  means_depth limit d st next s ts false is e h = means_more limit st next (s, d) ts (judge limit next ts) e (grind (arith, nat_tests)) h

  means_step : (limit : ℕ) (st : State) (s : Token) (ts : List Token) (r : Step) → step st s ≡ r → ((next : State) → Means limit next ts (judge limit next ts)) → Means limit st (s ∷ ts) (judge_step limit r (suc (length ts)) (λ next. judge limit next ts))
  means_step limit st s ts None e h = ([], st, s ∷ ts, refl, tt, refl, refl, e)
  means_step limit st s ts (Some (d, next)) e h = means_depth limit d st next s ts (ltb limit d) refl e (h next)

  means : (limit : ℕ) (ts : List Token) (st : State) → Means limit st ts (judge limit st ts)
  means limit [] st = means_end limit st
  means limit (s ∷ ts) st = means_step limit st s ts (step st s) refl (λ next. means limit ts next)

  same_pair : (a b : ℕ) (x y : State) → ◌≡◌ {A = Step} (Some (a, x)) (Some (b, y)) → (a ≡ b) × (x ≡ y)
  same_pair a b x y e = let pair : ◌≡◌ {A = ℕ × State} (a, x) (b, y) = cc in (ap (λ z. z.0) pair, ap (λ z. z.1) pair)

  -- two ways that the machine takes the same tokens are one
  pub takes_once : (ts us : List Deep) (st : State) (p q : Tree) → Takes st ts p → Takes st us q → signs ts ≡ signs us → (ts ≡ us) × (p ≡ q)
  takes_once [] [] st p q h g e = (refl, cc)
  takes_once [] (u ∷ us) st p q h g e = cc
  takes_once (t ∷ ts) [] st p q h g e = cc
  takes_once (t ∷ ts) (u ∷ us) st p q h g e =
      let head : t.0 ≡ u.0 = cc in
      let same = same_pair _ _ _ _ (sym (h.1) ∙ ap (step st) head ∙ g.1) in
      let depth : t.1 ≡ u.1 = same.0 in
      let next : h.0 ≡ g.0 = same.1 in
      let tails : signs ts ≡ signs us = cc in
      let r = takes_once ts us (h.0) p q (h.2) (subst (λ x. Takes x us q) (sym next) (g.2)) tails in
      let tails_same : ts ≡ us = r.0 in
      let one : t ≡ u = λ i. (head i, depth i) in
      ((λ i. one i ∷ tails_same i), r.1)

  -- nothing is taken that goes on with the token at which the machine is stuck
  stuck : (front us : List Deep) (after : List Token) (st last : State) (p : Tree) → Moves st front last → Stuck last after → Takes st us p → Agree (suc (length front)) us (signs front ++ after) → ⊥
  stuck [] [] [] st last p m s h a = let e : done st ≡ None = ap done m ∙ s in cc
  stuck [] (u ∷ us) [] st last p m s h a = cc
  stuck [] [] (x ∷ after) st last p m s h a = cc
  stuck [] (u ∷ us) (x ∷ after) st last p m s h a =
      let head : u.0 ≡ x = cc in
      let none : step st x ≡ None = ap (λ y. step y x) m ∙ s in
      let some : step st x ≡ Some (u.1, h.0) = ap (step st) (sym head) ∙ h.1 in
      cc
  stuck (f ∷ front) [] after st last p m s h a = cc
  stuck (f ∷ front) (u ∷ us) after st last p m s h a =
      let head : u.0 ≡ f.0 = cc in
      let next : h.0 ≡ m.0 = sym (same_pair _ _ _ _ (sym (m.1) ∙ ap (step st) (sym head) ∙ h.1)).1 in
      stuck front us after (m.0) last p (m.2) s (subst (λ x. Takes x us p) next (h.2)) cc

  -- what is taken so far is at the same depths
  same_depth : (front us : List Deep) (t : Deep) (after : List Token) (st last next : State) (p : Tree) → Moves st front last → step last t.0 ≡ Some (t.1, next) → Takes st us p → Agree (suc (length front)) us (signs front ++ t.0 ∷ after) → get_or (depths us) (length front) 0 ≡ t.1
  same_depth [] [] t after st last next p m s h a = cc
  same_depth [] (u ∷ us) t after st last next p m s h a =
      let head : u.0 ≡ t.0 = cc in
      (same_pair _ _ _ _ (sym (h.1) ∙ ap (step st) head ∙ ap (λ x. step x t.0) m ∙ s)).0
  same_depth (f ∷ front) [] t after st last next p m s h a = cc
  same_depth (f ∷ front) (u ∷ us) t after st last next p m s h a =
      let head : u.0 ≡ f.0 = cc in
      let at_next : h.0 ≡ m.0 = sym (same_pair _ _ _ _ (sym (m.1) ∙ ap (step st) (sym head) ∙ h.1)).1 in
      same_depth front us t after (m.0) last next p (m.2) s (subst (λ x. Takes x us p) at_next (h.2)) cc

  length_signs : (ts : List Deep) → length (signs ts) ≡ length ts
  length_signs [] = refl
  length_signs (t ∷ ts) = ap suc (length_signs ts)

  take_signs : (front : List Deep) (after : List Token) → take (length front) (signs front ++ after) ≡ signs front
  take_signs [] after = refl
  take_signs (t ∷ ts) after = ap (λ l. t.0 ∷ l) (take_signs ts after)

  take_signs_one : (front : List Deep) (t : Deep) (after : List Token) → signs (front ++ t ∷ []) ≡ take (suc (length front)) (signs front ++ t.0 ∷ after)
  take_signs_one [] t after = refl
  take_signs_one (f ∷ front) t after = ap (λ l. f.0 ∷ l) (take_signs_one front t after)

  length_parts : (front : List Deep) (after : List Token) → length (signs front ++ after) ≡ length front + length after
  length_parts [] after = omega arith
  length_parts (t ∷ ts) after = omega (arith, length_parts ts after)

  moves_on : (front : List Deep) (last next : State) (t : Deep) (st : State) → Moves st front last → step last t.0 ≡ Some (t.1, next) → Moves st (front ++ t ∷ []) next
  moves_on [] last next t st m s = (next, ap (λ x. step x t.0) m ∙ s, refl)
  moves_on (f ∷ front) last next t st m s = (m.0, m.1, moves_on front last next t (m.0) (m.2) s)

  judged : (limit : ℕ) (ts : List Deep) (st : State) (p : Tree) → Within limit ts → Takes st ts p → judge limit st (signs ts) ≡ Read p
  judged limit [] st p w h = ap ended h
  judged limit (t ∷ ts) st p w h =
      let shallow : ltb limit t.1 ≡ false = grind (arith, nat_tests) in
      rw (h.1, shallow) (judged limit ts (h.0) p (w.1) (h.2))

  -- An invariant `Shallow l st`, "the state st stands in no link deeper than l": it holds at the start, a token is at most one link deeper, and one that is no deeper keeps it.
  module _ (begin : State) (Shallow : ℕ → State → Type 0) (begins : (l : ℕ) → Shallow l begin) (one_link : (l : ℕ) (st next : State) (t : Token) (d : ℕ) → step st t ≡ Some (d, next) → Shallow l st → d ≤ suc l) (stays : (l : ℕ) (st next : State) (t : Token) (d : ℕ) → step st t ≡ Some (d, next) → d ≤ l → Shallow l st → Shallow l next) where
    stays_over : (l : ℕ) (front : List Deep) (st last : State) → Moves st front last → Within l front → Shallow l st → Shallow l last
    stays_over l [] st last m w h = subst (Shallow l) m h
    stays_over l (t ∷ front) st last m w h = stays_over l front (m.0) last (m.2) (w.1) (stays l st (m.0) (t.0) (t.1) (m.1) (w.0) h)

    pub opens_one : OpensOne step begin
    opens_one limit front last next t d m w e = one_link limit last next t d e (stays_over limit front begin last m w (begins limit))

  -- `complete`: the machine takes what the grammar spells; `sound`: and no more
  module _ (begin : State) (Is : List (Token × ℕ) → Tree → Type 0) (complete : (ts : List (Token × ℕ)) (p : Tree) → Is ts p → machine.Takes step done begin ts p) (sound : (ts : List (Token × ℕ)) (p : Tree) → machine.Takes step done begin ts p → Is ts p) where
    -- the same tokens have one tree
    pub one_tree : (ts us : List Deep) (p q : Tree) → Is ts p → Is us q → signs ts ≡ signs us → (ts ≡ us) × (p ≡ q)
    one_tree ts us p q h g e = takes_once ts us begin p q (complete ts p h) (complete us q g) e

    -- what is read is a tree of the text
    pub read_means : (limit : ℕ) (input : List Token) (p : Tree) → judge limit begin input ≡ Read p → HasTree Is limit input p
    read_means limit input p e =
        let m = subst (Means limit begin input) e (means limit input begin) in
        record { tokens = m.0; same = m.1; within = m.2; spelled = sound (m.0) p (m.3) }

    -- a text that has a tree is read, and as that tree
    pub tree_means : (limit : ℕ) (input : List Token) (p : Tree) → HasTree Is limit input p → judge limit begin input ≡ Read p
    tree_means limit input p h = subst (λ x. judge limit begin x ≡ Read p) h.same (judged limit h.tokens begin p h.within (complete h.tokens p h.spelled))

    -- each state that arises can be led to an end
    module _ (closable : IsClosable step done begin) where
      closes : (front : List Deep) (last : State) → Moves begin front last → (more : List Deep) × (p : Tree) × Is (front ++ more) p
      closes front last m =
          let c = closable front last m in
          (c.0, c.1, sound (front ++ c.0) (c.1) (moves_takes front (c.0) begin last (c.1) m (c.2)))

      refused_at : (limit : ℕ) (front : List Deep) (last : State) (after : List Token) → Moves begin front last → Within limit front → Stuck last after → IsSyntaxAt Is limit (signs front ++ after) (length front)
      refused_at limit front last after m within s =
          let c = closes front last m in
          record {
            front = front;
            more = c.0;
            tree = c.1;
            begins = c.2;
            taken = sym (take_signs front after);
            within = within;
            inside = omega (arith, length_parts front after);
            refused = λ ts p spelled agree. stuck front ts after begin last p m s (complete ts p spelled) agree;
          }

      pub refused_means : (limit : ℕ) (input : List Token) (n at : ℕ) → judge limit begin input ≡ Refused n → at + n ≡ length input → IsSyntaxAt Is limit input at
      refused_means limit input n at e place =
          let m = subst (Means limit begin input) e (means limit input begin) in
          let total = ap length (m.5) ∙ length_parts (m.0) (m.2) in
          let at_is : length (m.0) ≡ at = omega (arith, total, m.6) in
          subst (λ x. IsSyntaxAt Is limit x at) (sym (m.5)) (subst (IsSyntaxAt Is limit (signs (m.0) ++ m.2)) at_is (refused_at limit (m.0) (m.1) (m.2) (m.3) (m.4) (m.7)))

      deeper_at : (limit : ℕ) (front : List Deep) (last : State) (t : Deep) (next : State) (after : List Token) → Moves begin front last → Within limit front → step last t.0 ≡ Some (t.1, next) → t.1 ≡ suc limit → IsTooDeepAt Is limit (signs front ++ t.0 ∷ after) (length front)
      deeper_at limit front last t next after m within s depth =
          let moved = moves_on front last next t begin m s in
          let c = closes (front ++ t ∷ []) next moved in
          record {
            front = front;
            token = t;
            more = c.0;
            tree = c.1;
            begins = subst (λ l. Is l (c.1)) (append_assoc front (t ∷ []) (c.0)) (c.2);
            taken = take_signs_one front t after;
            within = within;
            inside = omega (arith, length_parts front (t.0 ∷ after));
            deeper = λ ts p spelled agree. same_depth front ts t after begin last next p m s (complete ts p spelled) agree ∙ depth;
          }

      pub deeper_means : OpensOne step begin → (limit : ℕ) (input : List Token) (n at : ℕ) → judge limit begin input ≡ Deeper n → at + n ≡ length input → IsTooDeepAt Is limit input at
      deeper_means one_link limit input n at e place =
          let m = subst (Means limit begin input) e (means limit input begin) in
          let total = ap length (m.7) ∙ length_parts (m.0) ((m.2).0 ∷ m.4) in
          let at_is : length (m.0) ≡ at = omega (arith, total, m.8) in
          let most : (m.2).1 ≤ suc limit = one_link limit (m.0) (m.1) (m.3) ((m.2).0) ((m.2).1) (m.5) (m.6) (m.9) in
          let depth : (m.2).1 ≡ suc limit = omega (arith, most, m.10) in
          subst (λ x. IsTooDeepAt Is limit x at) (sym (m.7)) (subst (IsTooDeepAt Is limit (signs (m.0) ++ (m.2).0 ∷ m.4)) at_is (deeper_at limit (m.0) (m.1) (m.2) (m.3) (m.4) (m.5) (m.6) (m.9) depth))

-- A text is refused at one place and for one cause, and has then no tree.
module _ {Token Tree : Type 0} (Is : List (Token × ℕ) → Tree → Type 0) (limit : ℕ) (input : List Token) where
  less : (m n : ℕ) (xs ys : List Token) → m ≤ n → take n xs ≡ take n ys → take m xs ≡ take m ys
  less zero n xs ys le e = refl
  less (suc m) zero xs ys le e = absurd (omega (arith, le))
  less (suc m) (suc n) [] [] le e = refl
  less (suc m) (suc n) [] (y ∷ ys) le e = cc
  less (suc m) (suc n) (x ∷ xs) [] le e = cc
  less (suc m) (suc n) (x ∷ xs) (y ∷ ys) le e =
      let head : x ≡ y = cc in
      let tail : take m xs ≡ take m ys = less m n xs ys (omega (arith, le)) cc in
      cc

  length_input : (ts : List (Token × ℕ)) → length (signs ts) ≡ length ts
  length_input [] = refl
  length_input (t ∷ ts) = ap suc (length_input ts)

  take_front : (front more : List (Token × ℕ)) (n : ℕ) → length front ≡ n → take n (signs (front ++ more)) ≡ signs front
  take_front [] more zero e = refl
  take_front [] more (suc n) e = cc
  take_front (t ∷ front) more zero e = cc
  take_front (t ∷ front) more (suc n) e = ap (λ l. t.0 ∷ l) (take_front front more n cc)

  -- a front of `at` tokens, where the input has as many
  agree_front : (front more : List (Token × ℕ)) (at : ℕ) → signs front ≡ take at input → at ≤ length input → Agree at (front ++ more) input
  agree_front front more at e le = take_front front more at (sym (length_input front) ∙ ap length e ∙ length-take-le at input le) ∙ e

  front_length : (front : List (Token × ℕ)) (at : ℕ) → signs front ≡ take at input → at ≤ length input → length front ≡ at
  front_length front at e le = sym (length_input front) ∙ ap length e ∙ length-take-le at input le

  within_at : (ts more : List (Token × ℕ)) (at : ℕ) → Within limit ts → at < length ts → get_or (depths (ts ++ more)) at 0 ≤ limit
  within_at [] more at w lt = absurd (omega (arith, lt))
  within_at (t ∷ ts) more zero w lt = w.0
  within_at (t ∷ ts) more (suc at) w lt = within_at ts more at (w.1) (omega (arith, lt))

  syntax_agrees : (a b : ℕ) (h : IsSyntaxAt Is limit input b) → a < b → Agree (suc a) (h.front ++ h.more) input
  syntax_agrees a b h lt = less (suc a) b _ _ lt (agree_front h.front h.more b h.taken h.inside)

  deep_agrees : (a b : ℕ) (h : IsTooDeepAt Is limit input b) → a ≤ b → Agree (suc a) (h.front ++ h.token ∷ h.more) input
  deep_agrees a b h le = less (suc a) (suc b) _ _ (omega (arith, le)) (subst (λ ts. Agree (suc b) ts input) (append_assoc h.front (h.token ∷ []) h.more) (agree_front (h.front ++ h.token ∷ []) h.more (suc b) h.taken h.inside))

  deep_length : (b : ℕ) (h : IsTooDeepAt Is limit input b) → length h.front ≡ b
  deep_length b h =
      let all = front_length (h.front ++ h.token ∷ []) (suc b) h.taken h.inside in
      let parts = length-append h.front (h.token ∷ []) in
      omega (arith, all, parts)

  not_below : (a b : ℕ) → IsSyntaxAt Is limit input a → IsSyntaxAt Is limit input b → a < b → ⊥
  not_below a b g h lt = g.refused (h.front ++ h.more) h.tree h.begins (syntax_agrees a b h lt)

  not_deep_below : (a b : ℕ) → IsTooDeepAt Is limit input a → IsTooDeepAt Is limit input b → a < b → ⊥
  not_deep_below a b g h lt =
      let deep = g.deeper (h.front ++ h.token ∷ h.more) h.tree h.begins (deep_agrees a b h (omega (arith, lt))) in
      let flat = within_at h.front (h.token ∷ h.more) a h.within (omega (arith, lt, deep_length b h)) in
      omega (arith, deep, flat)

  pub one_syntax : (a b : ℕ) → IsSyntaxAt Is limit input a → IsSyntaxAt Is limit input b → a ≡ b
  one_syntax a b g h = elim (cases_order a b) [ inl e ↦ e | inr (inl lt) ↦ absurd (not_below a b g h lt) | inr (inr lt) ↦ absurd (not_below b a h g lt) ]

  pub one_deep : (a b : ℕ) → IsTooDeepAt Is limit input a → IsTooDeepAt Is limit input b → a ≡ b
  one_deep a b g h = elim (cases_order a b) [ inl e ↦ e | inr (inl lt) ↦ absurd (not_deep_below a b g h lt) | inr (inr lt) ↦ absurd (not_deep_below b a h g lt) ]

  pub one_cause : (a b : ℕ) → IsSyntaxAt Is limit input a → IsTooDeepAt Is limit input b → ⊥
  one_cause a b g h =
      elim (cases_lt b a) [
        | inl lt ↦
            (let deep = h.deeper (g.front ++ g.more) g.tree g.begins (syntax_agrees b a g lt) in
            let flat = within_at g.front g.more b g.within (omega (arith, lt, front_length g.front a g.taken g.inside)) in
            omega (arith, deep, flat))
        | inr le ↦ g.refused (h.front ++ h.token ∷ h.more) h.tree h.begins (deep_agrees a b h le)
      ]

  pub no_tree : (at : ℕ) (p : Tree) → IsSyntaxAt Is limit input at → HasTree Is limit input p → ⊥
  no_tree at p h t = h.refused t.tokens p t.spelled (ap (take (suc at)) t.same)

  pub no_flat_tree : (at : ℕ) (p : Tree) → IsTooDeepAt Is limit input at → HasTree Is limit input p → ⊥
  no_flat_tree at p h t =
      let deep = h.deeper t.tokens p t.spelled (ap (take (suc at)) t.same) in
      let flat : get_or (depths (t.tokens ++ [])) at 0 ≤ limit = within_at t.tokens [] at t.within (omega (arith, h.inside, length_input t.tokens, ap length t.same)) in
      let same : get_or (depths (t.tokens ++ [])) at 0 ≡ get_or (depths t.tokens) at 0 = ap (λ ts. get_or (depths ts) at 0) (append-nil t.tokens) in
      omega (arith, deep, flat, same)
