-- The walk up from a node.
use Rattle.std.proofs.Common.{◌≡◌, ℕ, zero, suc, ◌+◌, ◌-◌, ◌<◌, ◌≤◌, max, List, [], ◌∷◌, Bool, true, false, refl, sym, ap, ◌∙◌, subst, eqb, ltb, cond, ◌||◌, Less, Equal, Greater, arith, eqb-true, eq-eqb, Some, None, Option, length, get_or, drop, take, ⊎_elim, inl, inr}
use Rattle.std.specs.Ordering.{is_lt, nat_cmp, ord_max}
use Rattle.std.specs.List.{list_any}
use Rattle.std.proofs.lemmas.Bool.{eqb-false, or_cases, cases_lt, ltb-true, ltb-false}
use Rattle.std.proofs.lemmas.List.{get_or_past, get_or_default, at_drop_more, at_drop_all, take_all}
use Rattle.plain_tree.specs.Trees.{Trees, End, Node, height}
use Rattle.tree_ops.specs.Trees.{has, is_number}
use Rattle.page_nodes.specs.Trees.{level}
use Rattle.page_nodes.specs.Moves.{IsDepth, highest}
use Rattle.page_nodes.proofs.Lists.{cases, or_none, or_right}
use Rattle.page_nodes.proofs.Insert.{deeper_pos}
use Rattle.page_nodes.specs.Entries.{Entry, at, body, listed, limit, tree, IsSound, no_entry}
use Rattle.page_nodes.proofs.Shows.{Shows, none, one_more, shows_one, shows_tree, tree_low}
use Rattle.page_nodes.proofs.Upward.{below_parent, has_parent, none_some, level_parent, level_top, level_none, level_height, or_left, child_has}

-- the parent stands above, so the walk ends
pub nearer : (k : List Entry) → IsSound k → (x p : ℕ) → (at k x).parent ≡ Some p → suc limit - height (tree k p) < suc limit - height (tree k x)
nearer k s x p u = omega (arith, (below_parent k s x p u).lower, tree_low k p)

pub some_is_same : (a b : ℕ) → Some a ≡ Some b → a ≡ b
some_is_same a b h = cc

-- what is in a tree and not its top has its parent there
pub parent_too : (k : List Entry) → IsSound k → (x p t : ℕ) → (at k x).parent ≡ Some p → (x ≡ t → ⊥) → has x (tree k t) ≡ true → has p (tree k t) ≡ true
parent_too k s x p t u ne h = ⊎_elim
    (λ l. absurd (⊎_elim (λ e. ne (sym (eqb-true t x e))) (λ e. false_no e) (or_cases (eqb t x) false l)))
    (λ q. subst (λ y. has y (tree k t) ≡ true) (some_is_same (q.0) p (sym (q.1) ∙ u)) (q.2))
    (has_parent k s x (t ∷ []) (tree k t) (shows_tree k s t) h)
  where
    false_no : false ≡ true → ⊥
    false_no e = cc

pub top_not_in : (k : List Entry) → IsSound k → (x t : ℕ) → (at k x).parent ≡ None → (x ≡ t → ⊥) → has x (tree k t) ≡ true → ⊥
top_not_in k s x t u ne h = ⊎_elim
    (λ l. ⊎_elim (λ e. ne (sym (eqb-true t x e))) (λ e. false_no e) (or_cases (eqb t x) false l))
    (λ q. none_some (q.0) (sym u ∙ q.1))
    (has_parent k s x (t ∷ []) (tree k t) (shows_tree k s t) h)
  where
    false_no : false ≡ true → ⊥
    false_no e = cc

pub not_has : (b : Bool) → (b ≡ true → ⊥) → false ≡ b
not_has true never = absurd (never refl)
not_has false never = refl

pub number_is : (x : ℕ) (s : Option ℕ) → is_number x s ≡ true → s ≡ Some x
number_is x None h = cc
number_is x (Some y) h = ap (λ z. Some z) (sym (eqb-true x y h))

-- one of several trees has a node
pub within_one : (k : List Entry) (n x : ℕ) (ts : List ℕ) → has n (tree k x) ≡ true → list_any (λ y. eqb y x) ts ≡ true → true ≡ list_any (λ t. has n (tree k t)) ts
within_one k n x [] h e = cc
within_one k n x (t ∷ ts) h e = sym (⊎_elim
    (λ q. or_left (has n (tree k t)) (list_any (λ y. has n (tree k y)) ts) (ap (λ y. has n (tree k y)) (eqb-true t x q) ∙ h))
    (λ q. or_right (has n (tree k t)) (list_any (λ y. has n (tree k y)) ts) (sym (within_one k n x ts h q)))
    (or_cases (eqb t x) (list_any (λ y. eqb y x) ts) e))

-- a number that is not among others is none of them
pub other_number : (x t : ℕ) (ts : List ℕ) → list_any (λ y. eqb y x) ts ≡ false → listed t ts ≡ true → x ≡ t → ⊥
other_number x t [] e l same = cc
other_number x t (y ∷ ts) e l same =
    let q = or_none (eqb y x) (list_any (λ z. eqb z x) ts) e in
    ⊎_elim (λ h. eqb-false y x (q.0) (eqb-true y t h ∙ sym same)) (λ h. other_number x t ts (q.1) h same) (or_cases (eqb y t) (listed t ts) l)

-- none has it
none_any : (f : ℕ → Bool) (ts : List ℕ) → ((t : ℕ) → listed t ts ≡ true → f t ≡ true → ⊥) → false ≡ list_any f ts
none_any f [] h = refl
none_any f (t ∷ ts) h =
    sym (ap (λ b. b || list_any f ts) (sym (not_has (f t) (h t (or_left (eqb t t) (listed t ts) (eq-eqb t t refl)))))
    ∙ sym (none_any f ts (λ y l. h y (or_right (eqb t y) (listed y ts) l))))

-- what stands in none of several trees, with what is known of one above it
pub apart_from : (k : List Entry) (n x : ℕ) (ts : List ℕ) → ((t : ℕ) → listed t ts ≡ true → has n (tree k t) ≡ true → has x (tree k t) ≡ true) → list_any (λ t. has x (tree k t)) ts ≡ false → false ≡ list_any (λ t. has n (tree k t)) ts
apart_from k n x ts still apart = none_any (λ t. has n (tree k t)) ts (λ t l h. no t ts l apart (still t l h))
  where
    true_no : true ≡ false → ⊥
    true_no e = cc

    no : (t : ℕ) (us : List ℕ) → listed t us ≡ true → list_any (λ y. has x (tree k y)) us ≡ false → has x (tree k t) ≡ true → ⊥
    no t [] l e h = cc
    no t (u ∷ us) l e h =
        let q = or_none (has x (tree k u)) (list_any (λ y. has x (tree k y)) us) e in
        ⊎_elim (λ same. true_no (sym h ∙ ap (λ y. has x (tree k y)) (sym (eqb-true u t same)) ∙ q.0)) (λ l2. no t us l2 (q.1) h) (or_cases (eqb u t) (listed t us) l)

-- a test over a list, element by element
pub any_more : (f : ℕ → Bool) (xs : List ℕ) (i : ℕ) → i < length xs → list_any f (take i xs) ≡ false → f (get_or xs i 0) ≡ false → list_any f (take (i + 1) xs) ≡ false
any_more f [] i lt h e = absurd (omega (arith, lt))
any_more f (x ∷ xs) zero lt h e = ap (λ b. b || false) e
any_more f (x ∷ xs) (suc i) lt h e =
    let next : suc i + 1 ≡ suc (i + 1) = omega arith in
    let q = or_none (f x) (list_any f (take i xs)) h in
    ap (λ j. list_any f (take j (x ∷ xs))) next ∙ ap (λ b. b || list_any f (take (i + 1) xs)) (q.0) ∙ any_more f xs i (omega (arith, lt)) (q.1) e

pub any_found : (f : ℕ → Bool) (xs : List ℕ) (i : ℕ) → i < length xs → f (get_or xs i 0) ≡ true → true ≡ list_any f xs
any_found f [] i lt e = absurd (omega (arith, lt))
any_found f (x ∷ xs) zero lt e = sym (or_left (f x) (list_any f xs) e)
any_found f (x ∷ xs) (suc i) lt e = sym (or_right (f x) (list_any f xs) (sym (any_found f xs i (omega (arith, lt)) e)))

pub any_none : (f : ℕ → Bool) (xs : List ℕ) (i : ℕ) → length xs ≤ i → list_any f (take i xs) ≡ false → false ≡ list_any f xs
any_none f xs i le h = sym (ap (list_any f) (sym (take_all i xs le)) ∙ h)

-- a parent of what stands in none of them
pub parent_apart : (k : List Entry) → IsSound k → (x p : ℕ) (ts : List ℕ) → (at k x).parent ≡ Some p → list_any (λ t. has x (tree k t)) ts ≡ false → list_any (λ t. has p (tree k t)) ts ≡ false
parent_apart k s x p ts u apart = sym (apart_from k p x ts (λ t l h. child_has k s x p u (t ∷ []) (tree k t) (shows_tree k s t) h) apart)

pub within_none : (k : List Entry) → IsSound k → (n x : ℕ) (ts : List ℕ) → (at k x).parent ≡ None → ((t : ℕ) → listed t ts ≡ true → has n (tree k t) ≡ true → has x (tree k t) ≡ true) → list_any (λ y. eqb y x) ts ≡ false → false ≡ list_any (λ t. has n (tree k t)) ts
within_none k s n x ts u still e = none_any (λ t. has n (tree k t)) ts (λ t l h. top_not_in k s x t u (other_number x t ts e l) (still t l h))

pub limit_is : limit ≡ 201
unfolding limit
limit_is = refl

-- `body` is only in its own tree
pub without_body : (k : List Entry) → IsSound k → (x : ℕ) → (x ≡ body → ⊥) → has body (tree k x) ≡ false
without_body k s x ne = sym (not_has _ (top_not_in k s body x s.top (λ e. ne (sym e))))

pub one_up : (k : List Entry) → IsSound k → (n x p d : ℕ) → (at k x).parent ≡ Some p → ((y : ℕ) → (y ≡ body → ⊥) → level n (tree k y) ≤ d + (level x (tree k y) - 1)) → (y : ℕ) → (y ≡ body → ⊥) → level n (tree k y) ≤ d + 1 + (level p (tree k y) - 1)
one_up k s n x p d u h y ne = omega (arith, h y ne, level_parent k s x p u (y ∷ []) (tree k y) (shows_tree k s y))

pub one_more_up : (k : List Entry) → IsSound k → (n x p d : ℕ) → (at k x).parent ≡ Some p → 0 < d → d ≤ level n (tree k x) → d + 1 ≤ level n (tree k p)
one_more_up k s n x p d u pos h = omega (arith, deeper_pos (level n (tree k x)) (omega arith), (below_parent k s x p u).levels n)

pub depth_small : (k : List Entry) (n x d : ℕ) → d ≤ level n (tree k x) → d ≤ 202
depth_small k n x d h = omega (arith, level_height n (tree k x), tree_low k x, limit_is)

pub depth_found : (k : List Entry) → IsSound k → (n x d : ℕ) → (x ≡ body → ⊥) → ((p : ℕ) → (at k x).parent ≡ Some p → p ≡ body) → ((y : ℕ) → (y ≡ body → ⊥) → level n (tree k y) ≤ d + (level x (tree k y) - 1)) → d ≤ level n (tree k x) → IsDepth k n d
depth_found k s n x d other above most reached =
    let low : (y : ℕ) → (y ≡ body → ⊥) → level n (tree k y) ≤ d = λ y ne. omega (arith, most y ne, level_top k s x above (y ∷ []) (tree k y) (shows_tree k s y) (without_body k s y ne)) in
    record { most = low; reached = inr (x, other, omega (arith, low x other)) }

pub depth_of_body : (k : List Entry) → IsSound k → IsDepth k body 0
depth_of_body k s = record { most = λ y ne. omega (arith, level_none body (tree k y) (without_body k s y ne)); reached = inl (refl, refl) }

-- the larger of two numbers
pub larger : (a b : ℕ) → ord_max nat_cmp a b ≡ max a b
larger a b = cases (λ c. cond (is_lt (cond c Less (cond (eqb b a) Equal Greater))) a b ≡ max a b) (ltb b a)
    (λ e. omega (arith, ltb-true b a e))
    (λ e. cases (λ c. cond (is_lt (cond c Equal Greater)) a b ≡ max a b) (eqb b a) (λ _. omega (arith, ltb-false b a e)) (λ _. omega (arith, ltb-false b a e)))

height_shown : (k : List Entry) → IsSound k → (ns : List ℕ) (ts : Trees ℕ) → Shows k ns ts → height ts ≡ highest k ns
height_shown k s [] _ none = refl
height_shown k s (n ∷ ns) _ (one_more {ks = ks} {ts = ts} hk hs) =
    let e : height (tree k n) ≡ height (Node n (at k n).label ks End) = ap height (shows_one k (n ∷ []) _ _ (shows_tree k s n) (one_more hk none)) in
    omega (arith, e, height_shown k s ns ts hs)

pub height_tree : (k : List Entry) → IsSound k → (n : ℕ) → height (tree k n) ≡ highest k (at k n).children + 1
height_tree k s n = of (tree k n) (shows_tree k s n)
  where
    of : (ts : Trees ℕ) → Shows k (n ∷ []) ts → height ts ≡ highest k (at k n).children + 1
    of _ (one_more {ks = ks} {ts = ts} hk none) = omega (arith, height_shown k s (at k n).children ks hk)

pub last_low : (k : List Entry) (n p most : ℕ) → Some n ≡ Some p → height (tree k n) ≤ most → height (tree k p) ≤ most
last_low k n p most e le = subst (λ y. height (tree k y) ≤ most) (some_is_same n p e) le

pub highest_all : (k : List Entry) (xs : List ℕ) (i most : ℕ) → length xs ≤ i → max most (highest k (drop i xs)) ≡ highest k xs → most ≡ highest k xs
highest_all k xs i most le inv = let d = at_drop_all (highest k) xs i le in omega (arith, d, inv)

-- a child
pub listed_at : (xs : List ℕ) (i x : ℕ) → i < length xs → x ≡ get_or xs i x → listed x xs ≡ true
listed_at [] i x lt e = absurd (omega arith)
listed_at (y ∷ xs) zero x lt e = or_left (eqb y x) (listed x xs) (eq-eqb y x (sym e))
listed_at (y ∷ xs) (suc i) x lt e = or_right (eqb y x) (listed x xs) (listed_at xs i x (omega arith) e)

pub child_in : (k : List Entry) → IsSound k → (n c : ℕ) → listed c (at k n).children ≡ true → c < length k
child_in k s n c l = ⊎_elim (λ lt. lt) (λ le. absurd (none_some n (sym (ap (λ (y : Entry). y.parent) (get_or_past k c no_entry le)) ∙ s.down n c l))) (cases_lt c (length k))

pub child_lower : (k : List Entry) → IsSound k → (n c : ℕ) → listed c (at k n).children ≡ true → height (tree k c) < height (tree k n)
child_lower k s n c l = omega (arith, (below_parent k s c n (s.down n c l)).lower)

pub child_listed : (xs ys : List ℕ) (i : ℕ) → xs ≡ ys → i < length xs → listed (get_or xs i 0) ys ≡ true
child_listed xs ys i e lt = subst (λ l. listed (get_or xs i 0) l ≡ true) e (listed_at xs i (get_or xs i 0) lt (get_or_default xs i 0 (get_or xs i 0) lt))

pub highest_step : (k : List Entry) (xs : List ℕ) (i most h all : ℕ) → i < length xs → h ≡ height (tree k (get_or xs i 0)) → max most (highest k (drop i xs)) ≡ all → max (max most h) (highest k (drop (i + 1) xs)) ≡ all
highest_step k xs i most h all lt e inv = let d = at_drop_more (highest k) xs i 0 lt in omega (arith, d, e, inv)

pub highest_done : (k : List Entry) → IsSound k → (n : ℕ) (xs : List ℕ) (i most : ℕ) → length xs ≤ i → max most (highest k (drop i xs)) ≡ highest k (at k n).children → most + 1 ≡ height (tree k n)
highest_done k s n xs i most le inv = let d = at_drop_all (highest k) xs i le in omega (arith, d, inv, height_tree k s n)
