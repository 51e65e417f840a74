-- What it is that nodes show trees.
use Rattle.std.proofs.Common.{◌≡◌, ℕ, zero, suc, ◌≤◌, max, List, [], ◌∷◌, ◌++◌, true, false, refl, sym, ap, ◌∙◌, subst, arith, cond, eqb, eq-eqb, Some, None, Option, ◌||◌}
use Rattle.std.proofs.lemmas.Bool.{and_parts, and_from, eqb-false}
use Rattle.plain_tree.specs.Trees.{Label, Trees, End, Node, beside, height}
use Rattle.tree_ops.specs.Trees.{is_number, put_before}
use Rattle.page_nodes.specs.Entries.{Entry, at, body, before, listed, read, fits, limit, tree, IsSound}
use Rattle.page_nodes.proofs.Lists.{cases, or_right}

pub data Shows (k : List Entry) : List ℕ → Trees ℕ → Type 0 where
  none : Shows k [] End
  one_more : {n : ℕ} {ns : List ℕ} {ks ts : Trees ℕ} → Shows k (at k n).children ks → Shows k ns ts → Shows k (n ∷ ns) (Node n (at k n).label ks ts)

-- the same, up to equations
pub shows_node : (k : List Entry) (n : ℕ) (l : Label) (ms ns : List ℕ) (ks ts : Trees ℕ) → (at k n).label ≡ l → (at k n).children ≡ ms → Shows k ms ks → Shows k ns ts → Shows k (n ∷ ns) (Node n l ks ts)
shows_node k n l ms ns ks ts el em hk hs = subst (λ x. Shows k (n ∷ ns) (Node n x ks ts)) el (one_more (subst (λ x. Shows k x ks) (sym em) hk) hs)

-- what fits is shown
pub shows_read : (k : List Entry) (f : ℕ) (ns : List ℕ) → fits k f ns ≡ true → Shows k ns (read k f ns)
shows_read k f [] h = none
shows_read k zero (n ∷ ns) h = cc
shows_read k (suc f) (n ∷ ns) h = let p = and_parts (fits k f (at k n).children) (fits k (suc f) ns) h in one_more (shows_read k f (at k n).children (p.0)) (shows_read k (suc f) ns (p.1))

pub read_low : (k : List Entry) (f : ℕ) (ns : List ℕ) → height (read k f ns) ≤ f
read_low k f [] = omega arith
read_low k zero (n ∷ ns) = omega arith
read_low k (suc f) (n ∷ ns) = omega (arith, read_low k f (at k n).children, read_low k (suc f) ns)

-- what is shown and low enough is read
pub read_shown : (k : List Entry) (f : ℕ) (ns : List ℕ) (ts : Trees ℕ) → Shows k ns ts → height ts ≤ f → read k f ns ≡ ts
read_shown k f [] End none h = refl
read_shown k f [] (Node _ _ _ _) x h = elim x [ ]
read_shown k zero (n ∷ ns) _ (one_more {ks = ks} {ts = ts} hk hs) h = absurd (omega arith)
read_shown k (suc f) (n ∷ ns) _ (one_more {ks = ks} {ts = ts} hk hs) h =
    let a : read k f (at k n).children ≡ ks = read_shown k f (at k n).children ks hk (omega arith) in
    let b : read k (suc f) ns ≡ ts = read_shown k (suc f) ns ts hs (omega arith) in
    cc

pub fits_shown : (k : List Entry) (f : ℕ) (ns : List ℕ) (ts : Trees ℕ) → Shows k ns ts → height ts ≤ f → fits k f ns ≡ true
fits_shown k f [] End none h = refl
fits_shown k f [] (Node _ _ _ _) x h = elim x [ ]
fits_shown k zero (n ∷ ns) _ (one_more {ks = ks} {ts = ts} hk hs) h = absurd (omega arith)
fits_shown k (suc f) (n ∷ ns) _ (one_more {ks = ks} {ts = ts} hk hs) h = and_from _ _ (fits_shown k f (at k n).children ks hk (omega arith)) (fits_shown k (suc f) ns ts hs (omega arith))

-- one tree behind another
pub shows_beside : (k : List Entry) (ns ms : List ℕ) (ts us : Trees ℕ) → Shows k ns ts → Shows k ms us → Shows k (ns ++ ms) (beside ts us)
shows_beside k [] ms _ us none b = b
shows_beside k (n ∷ ns) ms _ us (one_more {ks = ks} {ts = ts} hk hs) b = one_more hk (shows_beside k ns ms ts us hs b)

-- one node put among others
pub shows_before : (k : List Entry) (s : Option ℕ) (n : ℕ) (us : Trees ℕ) → Shows k (n ∷ []) us → (ns : List ℕ) (ts : Trees ℕ) → Shows k ns ts → Shows k (before s n ns) (put_before s us ts)
shows_before k s n us hu [] _ none = hu
shows_before k s n us hu (x ∷ ns) _ (one_more {ks = ks} {ts = ts} hk hs) =
    cases (λ b. Shows k (cond b (n ∷ x ∷ ns) (x ∷ before s n ns)) (cond b (beside us (Node x (at k x).label ks ts)) (Node x (at k x).label ks (put_before s us ts)))) (is_number x s)
    (λ _. shows_beside k (n ∷ []) (x ∷ ns) us _ hu (one_more hk hs))
    (λ _. one_more hk (shows_before k s n us hu ns ts hs))

-- where each fits, all fit
pub fits_all : (k : List Entry) (f : ℕ) (ns : List ℕ) → ((c : ℕ) → listed c ns ≡ true → fits k f (c ∷ []) ≡ true) → fits k f ns ≡ true
fits_all k f [] h = refl
fits_all k zero (n ∷ ns) h = absurd (never (h n (ap (λ b. b || listed n ns) (eq-eqb n n refl))))
  where
    never : false ≡ true → ⊥
    never e = cc
fits_all k (suc f) (n ∷ ns) h = and_from _ _ ((and_parts _ true (h n (ap (λ b. b || listed n ns) (eq-eqb n n refl)))).0) (fits_all k (suc f) ns (λ c l. h c (or_right (eqb n c) (listed c ns) l)))

-- a child is not `body`
pub child_not_body : (k : List Entry) → IsSound k → (n c : ℕ) → listed c (at k n).children ≡ true → c ≡ body → ⊥
child_not_body k s n c l e = some_no n (sym s.top ∙ ap (λ x. (at k x).parent) (sym e) ∙ s.down n c l)
  where
    some_no : (p : ℕ) → ◌≡◌ {A = Option ℕ} None (Some p) → ⊥
    some_no p h = cc

fits_more : (k : List Entry) (f : ℕ) (ns : List ℕ) → fits k f ns ≡ true → fits k (suc f) ns ≡ true
fits_more k f ns h = fits_shown k (suc f) ns (read k f ns) (shows_read k f ns h) (omega (arith, read_low k f ns))

-- of `body` too, one deeper
pub fits_tree : (k : List Entry) → IsSound k → (n : ℕ) → fits k (suc limit) (n ∷ []) ≡ true
fits_tree k s n = cases (λ b. eqb n body ≡ b → fits k (suc limit) (n ∷ []) ≡ true) (eqb n body)
    (λ e _. and_from (fits k limit (at k n).children) true (fits_all k limit (at k n).children (λ c l. s.fit c (child_not_body k s n c l))) refl)
    (λ e _. fits_more k limit (n ∷ []) (s.fit n (eqb-false n body e))) refl

-- the tree of each node of a sound arena
pub shows_tree : (k : List Entry) → IsSound k → (n : ℕ) → Shows k (n ∷ []) (tree k n)
shows_tree k s n = shows_read k (suc limit) (n ∷ []) (fits_tree k s n)

pub tree_low : (k : List Entry) (n : ℕ) → height (tree k n) ≤ suc limit
tree_low k n = read_low k (suc limit) (n ∷ [])

-- nodes show one list of trees
pub shows_one : (k : List Entry) (ns : List ℕ) (ts us : Trees ℕ) → Shows k ns ts → Shows k ns us → ts ≡ us
shows_one k ns ts us a b = sym (read_shown k (max (height ts) (height us)) ns ts a (omega arith)) ∙ read_shown k (max (height ts) (height us)) ns us b (omega arith)

-- other trees than that of `body`
pub tree_lower : (k : List Entry) → IsSound k → (n : ℕ) → (n ≡ body → ⊥) → height (tree k n) ≤ limit
tree_lower k s n ne =
    let e : tree k n ≡ read k limit (n ∷ []) = shows_one k (n ∷ []) _ _ (shows_tree k s n) (shows_read k limit (n ∷ []) (s.fit n ne)) in
    omega (arith, ap height e, read_low k limit (n ∷ []))

-- what an operation on an arena gives
pub record Renewed (k : List Entry) (f : ℕ → Trees ℕ) : Type 0 where
  pub trees : (n : ℕ) → tree k n ≡ f n
  pub fit : (n : ℕ) → (n ≡ body → ⊥) → fits k limit (n ∷ []) ≡ true

-- where each node shows a tree that is low enough, these are the trees
pub renewed : (k : List Entry) (f : ℕ → Trees ℕ) → ((n : ℕ) → Shows k (n ∷ []) (f n)) → ((n : ℕ) → height (f n) ≤ suc limit) → ((n : ℕ) → (n ≡ body → ⊥) → height (f n) ≤ limit) → Renewed k f
renewed k f shown low lower = record { trees = λ n. read_shown k (suc limit) (n ∷ []) (f n) (shown n) (low n); fit = λ n ne. fits_shown k limit (n ∷ []) (f n) (shown n) (lower n ne) }
