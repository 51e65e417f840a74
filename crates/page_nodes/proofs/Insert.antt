-- A node without a parent is put among the children of another.
use Rattle.std.proofs.Common.{◌≡◌, ℕ, zero, suc, ◌+◌, ◌<◌, ◌≤◌, max, List, [], ◌∷◌, Bool, true, false, refl, sym, ap, ◌∙◌, subst, eqb, ◌||◌, arith, cond, eqb-true, eq-eqb, ne_eqb, Some, None, Option, ⊎_elim, length}
use Rattle.std.proofs.lemmas.Bool.{or_cases, cases_Bool}
use Rattle.plain_tree.specs.Trees.{Trees, End, Node, beside, height}
use Rattle.tree_ops.specs.Labels.{is_text}
use Rattle.tree_ops.specs.Trees.{has, is_number, put_before, grafted}
use Rattle.page_nodes.specs.Trees.{deeper, level}
use Rattle.code_units.specs.declared.owner.Owner.TheVariants as owner
use Rattle.page_nodes.specs.Owners.{same_owner}
use Rattle.page_nodes.specs.Entries.{Entry, at, body, listed, distinct, before, limit, tree, IsSound}
use Rattle.page_nodes.specs.Moves.{MayLink}
use Rattle.page_nodes.proofs.Plains.{height_both}
use Rattle.page_nodes.proofs.Lists.{cases, listed_before, distinct_before, or_right, or_none}
use Rattle.page_nodes.proofs.Shows.{Shows, none, one_more, shows_node, shows_tree, shows_before, shows_one, tree_low, tree_lower, child_not_body, Renewed, renewed}

pub record IsInsert (k m : List Entry) (t : ℕ) (s : Option ℕ) (n : ℕ) : Type 0 where
  pub length : length m ≡ length k
  pub labels : (x : ℕ) → (at m x).label ≡ (at k x).label
  pub owners : (x : ℕ) → (at m x).owner ≡ (at k x).owner
  pub children : (x : ℕ) → (at m x).children ≡ cond (eqb x t) (before s n (at k x).children) (at k x).children
  pub parents : (x : ℕ) → (at m x).parent ≡ cond (eqb x n) (Some t) (at k x).parent

-- what does not have the target stays
pub shows_stays : (k m : List Entry) (t : ℕ) (s : Option ℕ) (n : ℕ) → IsInsert k m t s n → (ns : List ℕ) (ts : Trees ℕ) → has t ts ≡ false → Shows k ns ts → Shows m ns ts
shows_stays k m t s n c [] _ h none = none
shows_stays k m t s n c (x ∷ ns) _ h (one_more {ks = ks} {ts = ts} hk hs) =
    let p = or_none (eqb x t) (has t ks || has t ts) h in
    let q = or_none (has t ks) (has t ts) (p.1) in
    shows_node m x (at k x).label (at k x).children ns ks ts (c.labels x) (c.children x ∙ ap (λ b. cond b (before s n (at k x).children) (at k x).children) (p.0)) (shows_stays k m t s n c (at k x).children ks (q.0) hk) (shows_stays k m t s n c ns ts (q.1) hs)

shows_grafted : (k m : List Entry) (t : ℕ) (s : Option ℕ) (n : ℕ) (us : Trees ℕ) → IsInsert k m t s n → Shows m (n ∷ []) us → (ns : List ℕ) (ts : Trees ℕ) → Shows k ns ts → Shows m ns (grafted t s us ts)
shows_grafted k m t s n us c hu [] _ none = none
shows_grafted k m t s n us c hu (x ∷ ns) _ (one_more {ks = ks} {ts = ts} hk hs) =
    cases (λ b. (at m x).children ≡ cond b (before s n (at k x).children) (at k x).children → Shows m (x ∷ ns) (Node x (at k x).label (cond b (put_before s us (grafted t s us ks)) (grafted t s us ks)) (grafted t s us ts))) (eqb x t)
    (λ _ e. shows_node m x (at k x).label (before s n (at k x).children) ns _ _ (c.labels x) e (shows_before m s n us hu (at k x).children _ (shows_grafted k m t s n us c hu (at k x).children ks hk)) (shows_grafted k m t s n us c hu ns ts hs))
    (λ _ e. shows_node m x (at k x).label (at k x).children ns _ _ (c.labels x) e (shows_grafted k m t s n us c hu (at k x).children ks hk) (shows_grafted k m t s n us c hu ns ts hs))
    (c.children x)

-- how low a graft of height h reaches that is made at a level
abbrev pub reach : ℕ → ℕ → ℕ
reach zero h = 0
reach (suc v) h = suc v + h

reach_pos : (v h : ℕ) → 0 < v → reach v h ≡ v + h
reach_pos zero h lt = absurd (omega arith)
reach_pos (suc v) h lt = refl

pub deeper_pos : (v : ℕ) → 0 < v → deeper v ≡ v + 1
deeper_pos zero lt = absurd (omega arith)
deeper_pos (suc v) lt = omega arith

pub deeper_most : (v : ℕ) → deeper v ≤ v + 1
deeper_most zero = omega arith
deeper_most (suc v) = omega arith

pub reach_le : (v h : ℕ) → reach v h ≤ v + h
reach_le zero h = omega arith
reach_le (suc v) h = omega arith

pub height_before : (s : Option ℕ) (us ts : Trees ℕ) → height (put_before s us ts) ≡ max (height ts) (height us)
height_before s us End = omega arith
height_before s us (Node m l ks ts) =
    cases (λ b. height (cond b (beside us (Node m l ks ts)) (Node m l ks (put_before s us ts))) ≡ max (max (height ks + 1) (height ts)) (height us)) (is_number m s)
    (λ _. omega (arith, height_both us (Node m l ks ts)))
    (λ _. omega (arith, height_before s us ts))

at_target : (v w g hk gt ht h : ℕ) → g ≤ max hk (reach v h) → gt ≤ max ht (reach w h) → max (max g h + 1) gt ≤ max (max (hk + 1) ht) (reach (max (max 1 (deeper v)) w) h)
at_target zero zero g hk gt ht h a b = let e = reach_pos (max (max 1 (deeper 0)) 0) h (omega arith) in omega (arith, e)
at_target zero (suc w) g hk gt ht h a b = let e = reach_pos (max (max 1 (deeper 0)) (suc w)) h (omega arith) in omega (arith, e)
at_target (suc v) zero g hk gt ht h a b = let e = reach_pos (max (max 1 (deeper (suc v))) 0) h (omega arith) in omega (arith, e)
at_target (suc v) (suc w) g hk gt ht h a b = let e = reach_pos (max (max 1 (deeper (suc v))) (suc w)) h (omega arith) in omega (arith, e)

elsewhere : (v w g hk gt ht h : ℕ) → g ≤ max hk (reach v h) → gt ≤ max ht (reach w h) → max (g + 1) gt ≤ max (max (hk + 1) ht) (reach (max (max 0 (deeper v)) w) h)
elsewhere zero zero g hk gt ht h a b = omega arith
elsewhere zero (suc w) g hk gt ht h a b = let e = reach_pos (max (max 0 (deeper 0)) (suc w)) h (omega arith) in omega (arith, e)
elsewhere (suc v) zero g hk gt ht h a b = let e = reach_pos (max (max 0 (deeper (suc v))) 0) h (omega arith) in omega (arith, e)
elsewhere (suc v) (suc w) g hk gt ht h a b = let e = reach_pos (max (max 0 (deeper (suc v))) (suc w)) h (omega arith) in omega (arith, e)

height_grafted : (t : ℕ) (s : Option ℕ) (us ts : Trees ℕ) → height (grafted t s us ts) ≤ max (height ts) (reach (level t ts) (height us))
height_grafted t s us End = omega arith
height_grafted t s us (Node m l ks ts) =
    cases (λ b. height (Node m l (cond b (put_before s us (grafted t s us ks)) (grafted t s us ks)) (grafted t s us ts)) ≤ max (max (height ks + 1) (height ts)) (reach (max (max (cond b 1 0) (deeper (level t ks))) (level t ts)) (height us))) (eqb m t)
    (λ _. subst (λ y. max (y + 1) (height (grafted t s us ts)) ≤ max (max (height ks + 1) (height ts)) (reach (max (max 1 (deeper (level t ks))) (level t ts)) (height us))) (sym (height_before s us (grafted t s us ks)))
    (at_target (level t ks) (level t ts) (height (grafted t s us ks)) (height ks) (height (grafted t s us ts)) (height ts) (height us) (height_grafted t s us ks) (height_grafted t s us ts)))
    (λ _. elsewhere (level t ks) (level t ts) (height (grafted t s us ks)) (height ks) (height (grafted t s us ts)) (height ts) (height us) (height_grafted t s us ks) (height_grafted t s us ts))

pub if_most : (b : Bool) → cond {A = ℕ} b 1 0 ≤ 1
if_most true = omega arith
if_most false = omega arith

-- where the level is low in the tree of each node, it is so in their list
levels_low : (k : List Entry) → IsSound k → (t h most : ℕ) → h ≤ most → (ns : List ℕ) (ts : Trees ℕ) → Shows k ns ts → ((c : ℕ) → listed c ns ≡ true → level t (tree k c) + h ≤ most) → level t ts + h ≤ most
levels_low k s t h most le [] _ none low = omega (arith, le)
levels_low k s t h most le (n ∷ ns) _ (one_more {ks = ks} {ts = ts} hk hs) low =
    let e : tree k n ≡ Node n (at k n).label ks End = shows_one k (n ∷ []) _ _ (shows_tree k s n) (one_more hk none) in
    let a = low n (ap (λ b. b || listed n ns) (eq-eqb n n refl)) in
    let b = levels_low k s t h most le ns ts hs (λ c l. low c (or_right (eqb n c) (listed c ns) l)) in
    omega (arith, a, b, ap (level t) e)

-- what is not too deep elsewhere is one deeper at most in the tree of `body`
body_low : (k : List Entry) → IsSound k → (t h : ℕ) → h ≤ limit → ((x : ℕ) → (x ≡ body → ⊥) → level t (tree k x) + h ≤ limit) → level t (tree k body) + h ≤ suc limit
body_low k s t h le low = of (tree k body) (shows_tree k s body)
  where
    of : (ts : Trees ℕ) → Shows k (body ∷ []) ts → level t ts + h ≤ suc limit
    of _ (one_more {ks = ks} hk none) = omega (arith, le, if_most (eqb body t), deeper_most (level t ks), levels_low k s t h limit le (at k body).children ks hk (λ c l. low c (child_not_body k s body c l)))

insert_renewed : (k m : List Entry) (t : ℕ) (s : Option ℕ) (n : ℕ) → IsSound k → IsInsert k m t s n → MayLink k t n → Renewed m (λ x. grafted t s (tree k n) (tree k x))
insert_renewed k m t s n sound c may =
    let low : (x : ℕ) → (x ≡ body → ⊥) → height (grafted t s (tree k n) (tree k x)) ≤ limit = λ x ne. omega (arith, height_grafted t s (tree k n) (tree k x), tree_lower k sound x ne, may.low x ne, reach_le (level t (tree k x)) (height (tree k n))) in
    let body_is : height (grafted t s (tree k n) (tree k body)) ≤ suc limit = omega (arith, height_grafted t s (tree k n) (tree k body), tree_low k body, body_low k sound t (height (tree k n)) (tree_lower k sound n may.other) may.low, reach_le (level t (tree k body)) (height (tree k n))) in
    renewed m (λ x. grafted t s (tree k n) (tree k x))
    (λ x. shows_grafted k m t s n (tree k n) c (shows_stays k m t s n c (n ∷ []) (tree k n) may.apart (shows_tree k sound n)) (x ∷ []) (tree k x) (shows_tree k sound x))
    (λ x. cases (λ b. eqb x body ≡ b → height (grafted t s (tree k n) (tree k x)) ≤ suc limit) (eqb x body) (λ e _. subst (λ y. height (grafted t s (tree k n) (tree k y)) ≤ suc limit) (sym (eqb-true x body e)) body_is) (λ e _. omega (arith, low x (eqb_no x body e))) refl)
    low
  where
    eqb_no : (a b : ℕ) → eqb a b ≡ false → a ≡ b → ⊥
    eqb_no a b e same = true_no (sym (eq-eqb a b same) ∙ e)
      where
        true_no : true ≡ false → ⊥
        true_no h = cc

-- the arena after the link
pub insert_tree : (k m : List Entry) (t : ℕ) (s : Option ℕ) (n : ℕ) → IsSound k → IsInsert k m t s n → MayLink k t n → (x : ℕ) → tree m x ≡ grafted t s (tree k n) (tree k x)
insert_tree k m t s n sound c may = (insert_renewed k m t s n sound c may).trees

-- a top is listed nowhere
pub top_unlisted : (k : List Entry) (n p : ℕ) → IsSound k → (at k n).parent ≡ None → listed n (at k p).children ≡ true → ⊥
top_unlisted k n p s top h = let e = s.down p n h in none_some p (sym top ∙ e)
  where
    none_some : (p : ℕ) → ◌≡◌ {A = Option ℕ} None (Some p) → ⊥
    none_some p h = cc

some_is : (a b : ℕ) → Some a ≡ Some b → a ≡ b
some_is a b h = cc

pub insert_sound : (k m : List Entry) (t : ℕ) (s : Option ℕ) (n : ℕ) → IsSound k → IsInsert k m t s n → MayLink k t n → IsSound m
insert_sound k m t s n sound c may =
    let stays : (p x : ℕ) → listed x (at k p).children ≡ true → (at m x).parent ≡ Some p = λ p x h.
    c.parents x ∙ ap (λ b. cond b (Some t) (at k x).parent) (ne_eqb x n (λ e. top_unlisted k n p sound may.top (subst (λ y. listed y (at k p).children ≡ true) e h))) ∙ sound.down p x h in
    let down_at : (p x : ℕ) → listed x (cond (eqb p t) (before s n (at k p).children) (at k p).children) ≡ true → (at m x).parent ≡ Some p = λ p x.
    cases (λ b. listed x (cond b (before s n (at k p).children) (at k p).children) ≡ true → (at m x).parent ≡ Some p) (eqb p t)
    (λ e h. ⊎_elim (λ a. stays p x a)
    (λ a. c.parents x ∙ ap (λ b. cond b (Some t) (at k x).parent) (eq-eqb x n (sym (eqb-true n x a))) ∙ ap (λ y. Some y) (sym (eqb-true p t e)))
    (or_cases (listed x (at k p).children) (eqb n x) (sym (listed_before x n s (at k p).children) ∙ h)))
    (λ _ h. stays p x h) in
    let keeps : (x p : ℕ) → listed x (at k p).children ≡ true → listed x (cond (eqb p t) (before s n (at k p).children) (at k p).children) ≡ true = λ x p h.
    cases (λ b. listed x (cond b (before s n (at k p).children) (at k p).children) ≡ true) (eqb p t) (λ _. listed_before x n s (at k p).children ∙ ap (λ b. b || eqb n x) h) (λ _. h) in
    let up_at : (x p : ℕ) → cond (eqb x n) (Some t) (at k x).parent ≡ Some p → listed x (cond (eqb p t) (before s n (at k p).children) (at k p).children) ≡ true = λ x p.
    cases (λ b. cond b (Some t) (at k x).parent ≡ Some p → listed x (cond (eqb p t) (before s n (at k p).children) (at k p).children) ≡ true) (eqb x n)
    (λ e h. subst (λ b. listed x (cond b (before s n (at k p).children) (at k p).children) ≡ true) (sym (eq-eqb p t (sym (some_is t p h)))) (listed_before x n s (at k p).children ∙ or_right (listed x (at k p).children) (eqb n x) (eq-eqb n x (sym (eqb-true x n e)))))
    (λ _ h. keeps x p (sound.upward x p h)) in
    let own_at : (x p : ℕ) → cond (eqb x n) (Some t) (at k x).parent ≡ Some p → (same_owner (at k x).owner (at k p).owner || eqb p body) ≡ true = λ x p.
    cases (λ b. cond b (Some t) (at k x).parent ≡ Some p → (same_owner (at k x).owner (at k p).owner || eqb p body) ≡ true) (eqb x n)
    (λ e h. subst (λ y. (same_owner (at k y).owner (at k p).owner || eqb p body) ≡ true) (sym (eqb-true x n e)) (subst (λ y. (same_owner (at k n).owner (at k y).owner || eqb y body) ≡ true) (some_is t p h) may.owner))
    (λ _ h. sound.owned x p h) in
    record {
      some = omega (arith, sound.some, c.length);
      few = omega (arith, sound.few, c.length);
      top = c.parents body ∙ ap (λ b. cond b (Some t) (at k body).parent) (ne_eqb body n (λ e. may.other (sym e))) ∙ sound.top;
      host = ap (λ o. same_owner o owner.Host) (c.owners body) ∙ sound.host;
      element = ap is_text (c.labels body) ∙ sound.element;
      fit = (insert_renewed k m t s n sound c may).fit;
      down = λ p x h. down_at p x (subst (λ l. listed x l ≡ true) (c.children p) h);
      upward = λ x p h. subst (λ l. listed x l ≡ true) (sym (c.children p)) (up_at x p (sym (c.parents x) ∙ h));
      owned = λ x p h. ap (λ o. same_owner o (at m p).owner || eqb p body) (c.owners x) ∙ ap (λ o. same_owner (at k x).owner o || eqb p body) (c.owners p) ∙ own_at x p (sym (c.parents x) ∙ h);
      once = λ x. ap distinct (c.children x) ∙ cases (λ b. distinct (cond b (before s n (at k x).children) (at k x).children) ≡ true) (eqb x t)
          (λ _. distinct_before s n (at k x).children (⊎_elim (λ l. absurd (top_unlisted k n x sound may.top l)) (λ l. l) (cases_Bool (listed n (at k x).children))) (sound.once x))
          (λ _. sound.once x);
      texts = λ x h.
          let old : is_text (at k x).label ≡ true = ap is_text (sym (c.labels x)) ∙ h in
          ap length (c.children x) ∙ ap (λ b. length (cond b (before s n (at k x).children) (at k x).children)) (ne_eqb x t (λ e. true_false (sym old ∙ ap (λ y. is_text (at k y).label) e ∙ may.takes))) ∙ sound.texts x old;
    }
  where
    true_false : true ≡ false → ⊥
    true_false h = cc
