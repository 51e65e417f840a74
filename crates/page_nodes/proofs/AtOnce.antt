-- Many nodes are moved at once.
use Rattle.std.proofs.Common.{◌≡◌, ℕ, zero, suc, ◌+◌, ◌<◌, ◌≤◌, ◌-◌, List, [], ◌∷◌, ◌++◌, Bool, true, false, refl, sym, ap, ◌∙◌, subst, eqb, not, cond, length, arith, eqb-true, eq-eqb, ne_eqb, ◌||◌, ◌&&◌, get_or, take, drop, append_assoc, Some, None, Option, Result, Ok, Err, ⊎_elim, set}
use Rattle.std.specs.Prelude.{is_ok, is_some, reverse, MatchResult}
use Rattle.std.specs.List.{list_any}
use Rattle.std.specs.List.Sorted.{IsSorted, IsPermutation, IsBinarySearchResult}
use Rattle.std.specs.Ordering.{nat_cmp}
use Rattle.std.proofs.Math.Seq.{drop-append_seam, take-append_seam, take-suc}
use Rattle.std.proofs.lemmas.List.{append-nil, length-set, length-drop, drop-append-le, take-append-le, reverse-append, reverse-reverse}
use Rattle.std.proofs.lemmas.List.Sorted.{searched, IsNonDecreasingBy-from_sort, list_any-IsPermutation}
use Rattle.std.proofs.lemmas.Bool.{eqb-false, cases_lt}
use Rattle.tree_ops.specs.Trees.{is_number}
use Rattle.plain_tree.specs.Trees.{Trees}
use Rattle.page_nodes.specs.Entries.{Entry, at, before, listed, minus, tree, IsSound}
use Rattle.page_nodes.specs.Many.{outside, last_ones, spliced, if_top, backward, put_off, AreCleared, IsSwept, AreCut, AreAdded, AreHung}
use Rattle.page_nodes.specs.Moves.{KeepsNodes, AreNodes, MayMove, MayMoveAll, IsPut, Puts, put_last, none_put, ArePut, OthersStay, put_all, put_under, parents_after}
use Rattle.page_nodes.proofs.Cut.{IsCut, cut_sound}
use Rattle.page_nodes.proofs.Detach.{taken, raised, cut_written, cut_none, detached, keeps_field, sets_field}
use Rattle.page_nodes.proofs.Lists.{cases, or_right, listed_place}
use Rattle.page_nodes.proofs.Put.{given, hung, insert_written, link_written, may_link, put_after, may_still, kept_then, others_step}
use Rattle.page_nodes.proofs.Upward.{parent_in}

-- ## Numbers in lists

listed_any : (x : ℕ) (xs : List ℕ) → listed x xs ≡ list_any (λ m. eqb m x) xs
listed_any x [] = refl
listed_any x (m ∷ ms) = ap (λ b. eqb m x || b) (listed_any x ms)

-- a list in another order has the same numbers
pub listed_permuted : (x : ℕ) (xs ys : List ℕ) → IsPermutation xs ys → listed x ys ≡ listed x xs
listed_permuted x xs ys h = listed_any x ys ∙ sym (list_any-IsPermutation (λ m. eqb m x) xs ys h) ∙ sym (listed_any x xs)

pub listed_at_place : (xs : List ℕ) (i : ℕ) → i < length xs → listed (get_or xs i 0) xs ≡ true
listed_at_place [] i lt = absurd (omega (arith, lt))
listed_at_place (x ∷ xs) zero lt = ap (λ b. b || listed x xs) (eq-eqb x x refl)
listed_at_place (x ∷ xs) (suc i) lt = or_right (eqb x (get_or xs i 0)) (listed (get_or xs i 0) xs) (listed_at_place xs i (omega (arith, lt)))

-- what a search in a list in order finds
searched_listed : (xs : List ℕ) (x : ℕ) (r : Result ℕ ℕ) → IsSorted nat_cmp xs → IsBinarySearchResult (λ y. nat_cmp y x) xs r → is_ok r ≡ listed x xs
searched_listed xs x r sorted h = of r (searched xs x r h (λ i j le lt. (IsNonDecreasingBy-from_sort (λ y. y) xs sorted) i j 0 le lt))
  where
    missed : (i : ℕ) → ((k : ℕ) → k < i → get_or xs k 0 < x) → ((k : ℕ) → i ≤ k → k < length xs → x < get_or xs k 0) → listed x xs ≡ true → ⊥
    missed i low up l = let p = listed_place x xs l in ⊎_elim (λ lt. omega (arith, low (p.0) lt, p.2)) (λ le. omega (arith, up (p.0) le (p.1), p.2)) (cases_lt (p.0) i)

    of : (q : Result ℕ ℕ) → MatchResult q (λ i. (i < length xs) × (get_or xs i 0 ≡ x)) (λ i. (i ≤ length xs) × ((k : ℕ) → k < i → get_or xs k 0 < x) × ((k : ℕ) → i ≤ k → k < length xs → x < get_or xs k 0)) → is_ok q ≡ listed x xs
    of (Ok i) f = sym (ap (λ y. listed y xs) (sym (f.1)) ∙ listed_at_place xs i (f.0))
    of (Err i) f = cases (λ b. listed x xs ≡ b → false ≡ listed x xs) (listed x xs) (λ e _. absurd (missed i (f.1) (f.2) e)) (λ e _. sym e) refl

pub searched_any : (xs : List ℕ) (x : ℕ) (r : Result ℕ ℕ) → IsSorted nat_cmp xs → IsBinarySearchResult (λ y. nat_cmp y x) xs r → is_ok r ≡ list_any (λ m. eqb m x) xs
searched_any xs x r sorted h = searched_listed xs x r sorted h ∙ listed_any x xs

-- ## Lists without others

pub turned : (a b : ℕ) → eqb a b ≡ eqb b a
turned a b = cases (λ c. eqb a b ≡ c → c ≡ eqb b a) (eqb a b) (λ e _. sym (eq-eqb b a (sym (eqb-true a b e)))) (λ e _. sym (ne_eqb b a (λ h. eqb-false a b e (sym h)))) refl

pub outside_none : (xs : List ℕ) → outside [] xs ≡ xs
outside_none [] = refl
outside_none (x ∷ xs) = ap (λ l. x ∷ l) (outside_none xs)

-- one after the other
pub outside_more : (n : ℕ) (ns xs : List ℕ) → outside ns (minus n xs) ≡ outside (n ∷ ns) xs
outside_more n ns [] = refl
outside_more n ns (x ∷ xs) =
    let rest = outside_more n ns xs in
    ap (λ b. outside ns (cond (not b) (x ∷ minus n xs) (minus n xs))) (turned x n)
    ∙ cases (λ b. outside ns (cond (not b) (x ∷ minus n xs) (minus n xs)) ≡ cond (not (b || listed x ns)) (x ∷ outside (n ∷ ns) xs) (outside (n ∷ ns) xs)) (eqb n x)
    (λ _. rest)
    (λ _. ap (λ l. cond (not (listed x ns)) (x ∷ l) l) rest)

minus-append : (n : ℕ) (xs ys : List ℕ) → minus n (xs ++ ys) ≡ minus n xs ++ minus n ys
minus-append n [] ys = refl
minus-append n (x ∷ xs) ys = cases (λ b. cond (not b) (x ∷ minus n (xs ++ ys)) (minus n (xs ++ ys)) ≡ cond (not b) (x ∷ minus n xs) (minus n xs) ++ minus n ys) (eqb x n) (λ _. minus-append n xs ys) (λ _. ap (λ l. x ∷ l) (minus-append n xs ys))

outside-append : (ns xs ys : List ℕ) → outside ns (xs ++ ys) ≡ outside ns xs ++ outside ns ys
outside-append ns [] ys = refl
outside-append ns (x ∷ xs) ys = cases (λ b. cond (not b) (x ∷ outside ns (xs ++ ys)) (outside ns (xs ++ ys)) ≡ cond (not b) (x ∷ outside ns xs) (outside ns xs) ++ outside ns ys) (listed x ns) (λ _. outside-append ns xs ys) (λ _. ap (λ l. x ∷ l) (outside-append ns xs ys))

-- what has none of the others stays
pub outside_off : (ns xs : List ℕ) → ((c : ℕ) → listed c xs ≡ true → listed c ns ≡ false) → outside ns xs ≡ xs
outside_off ns [] h = refl
outside_off ns (x ∷ xs) h =
    ap (λ b. cond (not b) (x ∷ outside ns xs) (outside ns xs)) (h x (ap (λ b. b || listed x xs) (eq-eqb x x refl)))
    ∙ ap (λ l. x ∷ l) (outside_off ns xs (λ c l. h c (or_right (eqb x c) (listed c xs) l)))

-- ## Numbers put in among others

-- none of them is the number
pub data NoneIs (s : Option ℕ) : List ℕ → Type 0 where
  no_more : NoneIs s []
  one_less : {n : ℕ} {ns : List ℕ} → is_number n s ≡ false → NoneIs s ns → NoneIs s (n ∷ ns)

pub none_is : (s : Option ℕ) (ns : List ℕ) → ((i : ℕ) → i < length ns → is_number (get_or ns i 0) s ≡ false) → NoneIs s ns
none_is s [] h = no_more
none_is s (n ∷ ns) h = one_less (h 0 (omega arith)) (none_is s ns (λ i lt. h (suc i) (omega (arith, lt))))

none-minus : (s : Option ℕ) (n : ℕ) (ns : List ℕ) → NoneIs s ns → NoneIs s (minus n ns)
none-minus s n [] no_more = no_more
none-minus s n (m ∷ ns) (one_less here rest) = cases (λ b. NoneIs s (cond (not b) (m ∷ minus n ns) (minus n ns))) (eqb m n) (λ _. none-minus s n ns rest) (λ _. one_less here (none-minus s n ns rest))

none-last : (s : Option ℕ) (n : ℕ) (ns : List ℕ) → NoneIs s ns → is_number n s ≡ false → NoneIs s (ns ++ n ∷ [])
none-last s n [] no_more e = one_less e no_more
none-last s n (m ∷ ns) (one_less here rest) e = one_less here (none-last s n ns rest e)

before-append : (s : Option ℕ) (n : ℕ) (xs ys : List ℕ) → NoneIs s xs → before s n (xs ++ ys) ≡ xs ++ before s n ys
before-append s n [] ys no_more = refl
before-append s n (x ∷ xs) ys (one_less here rest) = ap (λ b. cond b (n ∷ x ∷ (xs ++ ys)) (x ∷ before s n (xs ++ ys))) here ∙ ap (λ l. x ∷ l) (before-append s n xs ys rest)

true_no : true ≡ false → ⊥
true_no h = cc

-- one number more is put in, at the place
put_in_met : (s : Option ℕ) (n : ℕ) (ms : List ℕ) (y : ℕ) (ys : List ℕ) → is_number n s ≡ false → NoneIs s ms → is_number y s ≡ true → before s n (minus n (ms ++ y ∷ ys)) ≡ spliced s (minus n ms ++ n ∷ []) (minus n (y ∷ ys))
put_in_met s n ms y ys e none h =
    let other : eqb y n ≡ false = cases (λ b. eqb y n ≡ b → b ≡ false) (eqb y n) (λ q _. absurd (true_no (sym h ∙ ap (λ x. is_number x s) (eqb-true y n q) ∙ e))) (λ _ _. refl) refl in
    let kept : minus n (y ∷ ys) ≡ y ∷ minus n ys = ap (λ b. cond (not b) (y ∷ minus n ys) (minus n ys)) other in
    ap (before s n) (minus-append n ms (y ∷ ys) ∙ ap (λ l. minus n ms ++ l) kept)
    ∙ before-append s n (minus n ms) (y ∷ minus n ys) (none-minus s n ms none)
    ∙ ap (λ b. minus n ms ++ cond b (n ∷ y ∷ minus n ys) (y ∷ before s n (minus n ys))) h
    ∙ sym (append_assoc (minus n ms) (n ∷ []) (y ∷ minus n ys))
    ∙ sym (ap (spliced s (minus n ms ++ n ∷ [])) kept ∙ ap (λ b. cond b ((minus n ms ++ n ∷ []) ++ y ∷ minus n ys) (y ∷ spliced s (minus n ms ++ n ∷ []) (minus n ys))) h)

-- the same, further on
put_in_passed : (s : Option ℕ) (n : ℕ) (ms : List ℕ) (y : ℕ) (ys : List ℕ) → is_number y s ≡ false → before s n (minus n (spliced s ms ys)) ≡ spliced s (minus n ms ++ n ∷ []) (minus n ys) → before s n (minus n (y ∷ spliced s ms ys)) ≡ spliced s (minus n ms ++ n ∷ []) (minus n (y ∷ ys))
put_in_passed s n ms y ys h rest =
    cases (λ b. before s n (cond (not b) (y ∷ minus n (spliced s ms ys)) (minus n (spliced s ms ys))) ≡ spliced s (minus n ms ++ n ∷ []) (cond (not b) (y ∷ minus n ys) (minus n ys))) (eqb y n)
    (λ _. rest)
    (λ _. ap (λ b. cond b (n ∷ y ∷ minus n (spliced s ms ys)) (y ∷ before s n (minus n (spliced s ms ys)))) h ∙ ap (λ l. y ∷ l) rest ∙ sym (ap (λ b. cond b ((minus n ms ++ n ∷ []) ++ y ∷ minus n ys) (y ∷ spliced s (minus n ms ++ n ∷ []) (minus n ys))) h))

put_in : (s : Option ℕ) (n : ℕ) (ms ys : List ℕ) → is_number n s ≡ false → NoneIs s ms → before s n (minus n (spliced s ms ys)) ≡ spliced s (minus n ms ++ n ∷ []) (minus n ys)
put_in s n ms [] e none = ap (before s n) (sym (append-nil (minus n ms))) ∙ before-append s n (minus n ms) [] (none-minus s n ms none)
put_in s n ms (y ∷ ys) e none =
    cases (λ b. before s n (minus n (cond b (ms ++ y ∷ ys) (y ∷ spliced s ms ys))) ≡ spliced s (minus n ms ++ n ∷ []) (minus n (y ∷ ys))) (is_number y s)
    (λ h. put_in_met s n ms y ys e none h)
    (λ h. put_in_passed s n ms y ys h (put_in s n ms ys e none))

-- each taken out and put in, one after the other
abbrev pub each_put : Option ℕ → List ℕ → List ℕ → List ℕ
each_put s [] xs = xs
each_put s (n ∷ ns) xs = each_put s ns (before s n (minus n xs))

-- a number that comes again stands where it comes last
last_first : (n : ℕ) (ns ms : List ℕ) → outside ns (ms ++ n ∷ []) ++ last_ones ns ≡ outside ns ms ++ last_ones (n ∷ ns)
last_first n ns ms =
    ap (λ l. l ++ last_ones ns) (outside-append ns ms (n ∷ [])) ∙ append_assoc (outside ns ms) (outside ns (n ∷ [])) (last_ones ns)
    ∙ ap (λ l. outside ns ms ++ l) (cases (λ b. cond (not b) (n ∷ []) [] ++ last_ones ns ≡ cond b (last_ones ns) (n ∷ last_ones ns)) (listed n ns) (λ _. refl) (λ _. refl))

each_spliced : (s : Option ℕ) (ns ms ys : List ℕ) → NoneIs s ns → NoneIs s ms → each_put s ns (spliced s ms ys) ≡ spliced s (outside ns ms ++ last_ones ns) (outside ns ys)
each_spliced s [] ms ys no_more none = sym (ap (λ l. spliced s l (outside [] ys)) (append-nil (outside [] ms) ∙ outside_none ms) ∙ ap (spliced s ms) (outside_none ys))
each_spliced s (n ∷ ns) ms ys (one_less here others) none =
    ap (each_put s ns) (put_in s n ms ys here none)
    ∙ each_spliced s ns (minus n ms ++ n ∷ []) (minus n ys) others (none-last s n (minus n ms) (none-minus s n ms none) here)
    ∙ ap (λ l. spliced s l (outside ns (minus n ys))) (last_first n ns (minus n ms) ∙ ap (λ l. l ++ last_ones (n ∷ ns)) (outside_more n ns ms))
    ∙ ap (spliced s (outside (n ∷ ns) ms ++ last_ones (n ∷ ns))) (outside_more n ns ys)

spliced_none : (s : Option ℕ) (ys : List ℕ) → spliced s [] ys ≡ ys
spliced_none s [] = refl
spliced_none s (y ∷ ys) = cases (λ b. cond b (y ∷ ys) (y ∷ spliced s [] ys) ≡ y ∷ ys) (is_number y s) (λ _. refl) (λ _. ap (λ l. y ∷ l) (spliced_none s ys))

-- all at once
pub put_at_once : (s : Option ℕ) (ns ys : List ℕ) → NoneIs s ns → each_put s ns ys ≡ spliced s (last_ones ns) (outside ns ys)
put_at_once s ns ys none = ap (each_put s ns) (sym (spliced_none s ys)) ∙ each_spliced s ns [] ys none no_more

-- by the place of the number
pub spliced_at : (s : Option ℕ) (ms ys : List ℕ) (i : ℕ) → i ≤ length ys → ((j : ℕ) → j < i → is_number (get_or ys j 0) s ≡ false) → (i < length ys → is_number (get_or ys i 0) s ≡ true) → spliced s ms ys ≡ take i ys ++ (ms ++ drop i ys)
spliced_at s ms [] zero le none found = sym (append-nil ms)
spliced_at s ms [] (suc i) le none found = absurd (omega (arith, le))
spliced_at s ms (y ∷ ys) zero le none found = ap (λ b. cond b (ms ++ y ∷ ys) (y ∷ spliced s ms ys)) (found (omega arith))
spliced_at s ms (y ∷ ys) (suc i) le none found =
    ap (λ b. cond b (ms ++ y ∷ ys) (y ∷ spliced s ms ys)) (none 0 (omega arith))
    ∙ ap (λ l. y ∷ l) (spliced_at s ms ys i (omega (arith, le)) (λ j lt. none (suc j) (omega (arith, lt))) (λ lt. found (omega (arith, lt))))

-- ## Nodes moved one after the other

pub freed_is : (k : List Entry) → IsSound k → (n : ℕ) → n < length k → (u : Option ℕ) → (at k n).parent ≡ u → (d : List Entry) × IsCut k d n
freed_is k s n lt None u = (k, cut_none k s n u)
freed_is k s n lt (Some p) u = (raised (taken k p n) n, cut_written k s n p (parent_in k s n p u) lt u)

-- a node is moved
pub record HasMoved (k m : List Entry) (t : ℕ) (s : Option ℕ) (n : ℕ) : Type 0 where
  pub sound : IsSound m
  pub put : IsPut k m t s n
  pub children : (x : ℕ) → (at m x).children ≡ cond (eqb x t) (before s n (minus n (at k x).children)) (minus n (at k x).children)

one_moved : (k : List Entry) (t : ℕ) (s : Option ℕ) (n : ℕ) → IsSound k → t < length k → n < length k → MayMove k t n → (m : List Entry) × HasMoved k m t s n
one_moved k t s n sound tin nin may =
    let f = freed_is k sound n nin (at k n).parent refl in
    let d = f.0 in
    let cut = f.1 in
    let c = detached k d n sound cut in
    let link = may_link k d t n c may in
    let low = cut_sound k d n sound cut in
    let i = insert_written d t s n (omega (arith, tin, cut.length)) (omega (arith, nin, cut.length)) in
    let done = link_written d (given d t s n) (hung (given d t s n) t n) t s n low link (omega (arith, tin, cut.length)) (omega (arith, nin, cut.length)) refl refl in (
      hung (given d t s n) t n,
      record {
        sound = done.0;
        put = put_after k d (hung (given d t s n) t n) t s n c (done.1);
        children = λ x. i.children x ∙ ap (λ l. cond (eqb x t) (before s n l) l) (cut.children x);
      },
    )

-- nodes are moved, with the pages on the way
pub record HaveMoved (a k : List Entry) (t : ℕ) (s : Option ℕ) (done ns : List ℕ) : Type 0 where
  pub page : List Entry
  pub puts : Puts a t s (done ++ ns) page
  pub sound : IsSound page
  pub kept : KeepsNodes k page
  pub children : (x : ℕ) → (at page x).children ≡ cond (eqb x t) (each_put s ns (at k x).children) (outside ns (at k x).children)
  pub parents : (x : ℕ) → (at page x).parent ≡ cond (listed x ns) (Some t) (at k x).parent

-- a node and a page of which it is one, and may be moved
pub record MayGo (k : List Entry) (t n : ℕ) : Type 0 where
  pub is_in : n < length k
  pub may : MayMove k t n

abbrev all_moved : (a k : List Entry) (t : ℕ) (s : Option ℕ) (done ns : List ℕ) → Puts a t s done k → IsSound k → t < length k → ((n : ℕ) → listed n ns ≡ true → MayGo k t n) → HaveMoved a k t s done ns
all_moved a k t s done [] puts sound tin may = record {
  page = k;
  puts = subst (λ l. Puts a t s l k) (sym (append-nil done)) puts;
  sound = sound;
  kept = record { made = refl; labels = λ x. refl; owners = λ x. refl };
  children = λ x. cases (λ b. (at k x).children ≡ cond b (at k x).children (outside [] (at k x).children)) (eqb x t) (λ _. refl) (λ _. sym (outside_none (at k x).children));
  parents = λ x. refl;
}
all_moved a k t s done (n ∷ ns) puts sound tin may =
    let here = may n (ap (λ b. b || listed n ns) (eq-eqb n n refl)) in
    let one = one_moved k t s n sound tin here.is_in here.may in
    let m = one.0 in
    let moved = one.1 in
    let rest = all_moved a m t s (done ++ n ∷ []) ns (put_last puts sound here.may moved.put) moved.sound (omega (arith, tin, moved.put.kept.made))
    (λ x l. let there = may x (or_right (eqb n x) (listed x ns) l) in record { is_in = omega (arith, there.is_in, moved.put.kept.made); may = may_still k m t s n x moved.put here.may there.may }) in
    record {
      page = rest.page;
      puts = subst (λ l. Puts a t s l rest.page) (append_assoc done (n ∷ []) ns) rest.puts;
      sound = rest.sound;
      kept = kept_then k m rest.page moved.put.kept rest.kept;
      children = λ x. rest.children x ∙ cases (λ b. (at m x).children ≡ cond b (before s n (minus n (at k x).children)) (minus n (at k x).children) → cond b (each_put s ns (at m x).children) (outside ns (at m x).children) ≡ cond b (each_put s ns (before s n (minus n (at k x).children))) (outside (n ∷ ns) (at k x).children)) (eqb x t)
          (λ _ e. ap (each_put s ns) e)
          (λ _ e. ap (outside ns) e ∙ outside_more n ns (at k x).children)
          (moved.children x);
      parents = λ x. rest.parents x ∙ ap (λ u. cond (listed x ns) (Some t) u) (moved.put.parents x ∙ ap (λ b. cond b (Some t) (at k x).parent) (turned x n))
          ∙ cases (λ b. cond (listed x ns) (Some t) (cond b (Some t) (at k x).parent) ≡ cond (b || listed x ns) (Some t) (at k x).parent) (eqb n x)
          (λ _. cases (λ b. cond b (Some t) (Some t) ≡ Some t) (listed x ns) (λ _. refl) (λ _. refl))
          (λ _. refl);
    }

-- ## The same at once

-- entries of equal parts are equal
pub entry_same : (a b : Entry) → a.owner ≡ b.owner → a.parent ≡ b.parent → a.children ≡ b.children → a.label ≡ b.label → a ≡ b
entry_same a b eo ep ec el = λ i. record { owner = eo i; parent = ep i; children = ec i; label = el i }

-- lists of equal elements are equal
pub all_same : (k m : List Entry) → length m ≡ length k → ((x : ℕ) → at m x ≡ at k x) → m ≡ k
all_same [] [] e h = refl
all_same [] (y ∷ m) e h = absurd (omega (arith, e))
all_same (x ∷ k) [] e h = absurd (omega (arith, e))
all_same (x ∷ k) (y ∷ m) e h = let rest = all_same k m (omega (arith, e)) (λ i. h (suc i)) in λ i. h 0 i ∷ rest i

-- the pages on the way say all
put_all_last : (t : ℕ) (s : Option ℕ) (ns : List ℕ) (n : ℕ) (f : ℕ → Trees ℕ) → put_all t s (ns ++ n ∷ []) f ≡ put_under t s n (put_all t s ns f)
put_all_last t s [] n f = refl
put_all_last t s (m ∷ ns) n f = put_all_last t s ns n (put_under t s m f)

parents_last : (t : ℕ) (ns : List ℕ) (n : ℕ) (u : ℕ → Option ℕ) (x : ℕ) → parents_after t (ns ++ n ∷ []) u x ≡ cond (eqb x n) (Some t) (parents_after t ns u x)
parents_last t [] n u x = refl
parents_last t (m ∷ ns) n u x = parents_last t ns n (λ y. cond (eqb y m) (Some t) (u y)) x

pub same_function : {B : Type 0} (f g : ℕ → B) → ((x : ℕ) → f x ≡ g x) → f ≡ g
same_function f g h = λ i. λ x. h x i

pub puts_are : (k : List Entry) (t : ℕ) (s : Option ℕ) (ns : List ℕ) (m : List Entry) → Puts k t s ns m → ArePut k m t s ns
puts_are k t s _ _ none_put = record { trees = λ x. refl; parents = λ x. refl; kept = record { made = refl; labels = λ x. refl; owners = λ x. refl } }
puts_are k t s _ new (put_last {ns = ns} {m = m} {n = n} puts sound may put) =
    let earlier = puts_are k t s ns m puts in
    record {
      trees = λ x. put.trees x ∙ ap (λ (f : ℕ → Trees ℕ). put_under t s n f x) (same_function (tree m) (put_all t s ns (tree k)) earlier.trees) ∙ ap (λ (f : ℕ → Trees ℕ). f x) (sym (put_all_last t s ns n (tree k)));
      parents = λ x. put.parents x ∙ ap (λ u. cond (eqb x n) (Some t) u) (earlier.parents x) ∙ sym (parents_last t ns n (λ y. (at k y).parent) x);
      kept = kept_then k m new earlier.kept put.kept;
    }

pub puts_stay : (k : List Entry) (t : ℕ) (s : Option ℕ) (ns : List ℕ) (m : List Entry) → Puts k t s ns m → OthersStay k m t
puts_stay k t s _ _ none_put = λ x away ne. refl
puts_stay k t s _ new (put_last {ns = ns} {m = m} {n = n} puts sound may put) = others_step k m new t s n sound may put (puts_are k t s ns m puts).kept (puts_stay k t s ns m puts)

-- what was written at once
pub record WasMoved (k m : List Entry) (t : ℕ) (s : Option ℕ) (ns : List ℕ) : Type 0 where
  pub sound : IsSound m
  pub puts : Puts k t s ns m

pub moved_at_once : (k d m : List Entry) (t : ℕ) (s : Option ℕ) (ns : List ℕ) → IsSound k → t < length k → ((n : ℕ) → listed n ns ≡ true → MayGo k t n) → NoneIs s ns → AreCut k d ns → AreHung d m t s ns → WasMoved k m t s ns
moved_at_once k d m t s ns sound tin may none cut hung =
    let all = all_moved k k t s [] ns none_put sound tin may in
    let same : m ≡ all.page = all_same all.page m (omega (arith, hung.kept.made, cut.kept.made, all.kept.made)) (λ x. entry_same (at m x) (at all.page x)
    (hung.kept.owners x ∙ cut.kept.owners x ∙ sym (all.kept.owners x))
    (hung.parents x ∙ ap (λ u. cond (listed x ns) (Some t) u) (cut.parents x) ∙ cases (λ b. cond b (Some t) (cond b None (at k x).parent) ≡ cond b (Some t) (at k x).parent) (listed x ns) (λ _. refl) (λ _. refl) ∙ sym (all.parents x))
    (hung.children x ∙ cases (λ b. cond b (spliced s (last_ones ns) (at d x).children) (at d x).children ≡ cond b (each_put s ns (at k x).children) (outside ns (at k x).children)) (eqb x t)
    (λ _. ap (spliced s (last_ones ns)) (cut.children x) ∙ sym (put_at_once s ns (at k x).children none))
    (λ _. cut.children x)
    ∙ sym (all.children x))
    (hung.kept.labels x ∙ cut.kept.labels x ∙ sym (all.kept.labels x))) in
    subst (λ y. WasMoved k y t s ns) (sym same) (record { sound = all.sound; puts = all.puts })

-- ## Sweeps

pub none_either : (b c : Bool) (u : Option ℕ) → cond c None (cond b None u) ≡ cond (b || c) None u
none_either true true u = refl
none_either true false u = refl
none_either false c u = refl

pub listed-last : (x n : ℕ) (xs : List ℕ) → listed x (xs ++ n ∷ []) ≡ (listed x xs || eqb n x)
listed-last x n [] = cases (λ b. (b || false) ≡ b) (eqb n x) (λ _. refl) (λ _. refl)
listed-last x n (y ∷ xs) = ap (λ b. eqb y x || b) (listed-last x n xs) ∙ cases (λ b. (b || (listed x xs || eqb n x)) ≡ ((b || listed x xs) || eqb n x)) (eqb y x) (λ _. refl) (λ _. refl)

-- the children of one node
pub cleared_more : (k m m2 : List Entry) (ns xs : List ℕ) (i n : ℕ) → i < length xs → n ≡ get_or xs i n → AreCleared k m ns (take i xs) → AreCleared m m2 ns (n ∷ []) → AreCleared k m2 ns (take (i + 1) xs)
cleared_more k m m2 ns xs i n lt en a b = record {
  kept = kept_then k m m2 a.kept b.kept;
  children = λ x. b.children x ∙ a.children x;
  parents = λ x. b.parents x ∙ ap (λ u. cond (listed x ns && (eqb n x || false)) None u) (a.parents x)
      ∙ either (listed x ns) (eqb n x) (listed x (take i xs)) (at k x).parent
      ∙ ap (λ c. cond (listed x ns && c) None (at k x).parent) (sym (ap (listed x) (ap (λ j. take j xs) one ∙ take-suc xs i n lt ∙ ap (λ y. take i xs ++ y ∷ []) (sym en)) ∙ listed-last x n (take i xs)));
}
  where
    one : i + 1 ≡ suc i
    one = omega arith

    either : (c d e : Bool) (u : Option ℕ) → cond (c && (d || false)) None (cond (c && e) None u) ≡ cond (c && (e || d)) None u
    either true true true u = refl
    either true true false u = refl
    either true false true u = refl
    either true false false u = refl
    either false d e u = refl

pub cleared_start : (k : List Entry) (ns : List ℕ) → AreCleared k k ns []
cleared_start k ns = record {
  kept = record { made = refl; labels = λ x. refl; owners = λ x. refl };
  children = λ x. refl;
  parents = λ x. cases (λ b. (at k x).parent ≡ cond (b && false) None (at k x).parent) (listed x ns) (λ _. refl) (λ _. refl);
}

-- one link written
pub cleared_one : (k m : List Entry) (ns : List ℕ) (n : ℕ) → n < length k → listed n ns ≡ true → m ≡ raised k n → AreCleared k m ns (n ∷ [])
cleared_one k m ns n lt here e = subst (λ y. AreCleared k y ns (n ∷ [])) (sym e) (record {
  kept = record { made = length-set k n _; labels = λ x. keeps_field (λ (y : Entry). y.label) k n _ lt refl x; owners = λ x. keeps_field (λ (y : Entry). y.owner) k n _ lt refl x };
  children = λ x. keeps_field (λ (y : Entry). y.children) k n _ lt refl x;
  parents = λ x. sets_field (λ (y : Entry). y.parent) k n _ lt x ∙ ap (λ b. cond b None (at k x).parent) (turned x n)
      ∙ cases (λ b. eqb n x ≡ b → cond b None (at k x).parent ≡ cond (listed x ns && (b || false)) None (at k x).parent) (eqb n x)
      (λ q _. ap (λ b. cond (b && true) None (at k x).parent) (sym here ∙ ap (λ y. listed y ns) (eqb-true n x q)))
      (λ q _. cases (λ b. (at k x).parent ≡ cond (b && false) None (at k x).parent) (listed x ns) (λ _. refl) (λ _. refl))
      refl;
})

-- and then the list
pub swept_both : (k d m : List Entry) (ns : List ℕ) (p : ℕ) → p < length k → AreCleared k d ns (at k p).children → m ≡ set d p (record (at d p) { children = outside ns (at d p).children }) → IsSwept k m ns p
swept_both k d m ns p lt c e =
    let lt2 : p < length d = omega (arith, lt, c.kept.made) in
    subst (λ y. IsSwept k y ns p) (sym e) (record {
      kept = record {
        made = length-set d p _ ∙ c.kept.made;
        labels = λ x. keeps_field (λ (y : Entry). y.label) d p _ lt2 refl x ∙ c.kept.labels x;
        owners = λ x. keeps_field (λ (y : Entry). y.owner) d p _ lt2 refl x ∙ c.kept.owners x;
      };
      children = λ x. sets_field (λ (y : Entry). y.children) d p _ lt2 x
          ∙ cases (λ b. eqb x p ≡ b → cond b (outside ns (at d p).children) (at d x).children ≡ cond b (outside ns (at k x).children) (at k x).children) (eqb x p)
          (λ q _. ap (outside ns) (c.children p ∙ ap (λ y. (at k y).children) (sym (eqb-true x p q))))
          (λ _ _. c.children x)
          refl;
      parents = λ x. keeps_field (λ (y : Entry). y.parent) d p _ lt2 refl x ∙ c.parents x;
    })

-- ## Nodes without a parent

before_last : (n : ℕ) (xs : List ℕ) → before None n xs ≡ xs ++ n ∷ []
before_last n [] = refl
before_last n (x ∷ xs) = ap (λ l. x ∷ l) (before_last n xs)

pub added_one : (k m : List Entry) (t n : ℕ) → t < length k → n < length k → (at k n).parent ≡ None → m ≡ hung (given k t None n) t n → AreAdded k m t (if_top (at k n).parent n) (if_top (at k n).parent n)
added_one k m t n tin nin u e =
    let i = insert_written k t None n tin nin in
    let one : n ∷ [] ≡ if_top (at k n).parent n = ap (λ v. if_top v n) (sym u) in
    subst (λ y. AreAdded k y t (if_top (at k n).parent n) (if_top (at k n).parent n)) (sym e) (subst (λ l. AreAdded k (hung (given k t None n) t n) t l l) one (record {
      kept = record { made = i.length; labels = i.labels; owners = i.owners };
      children = λ x. i.children x ∙ ap (λ l. cond (eqb x t) l (at k x).children) (before_last n (at k x).children);
      parents = λ x. i.parents x ∙ ap (λ b. cond b (Some t) (at k x).parent) (turned x n ∙ cases (λ b. b ≡ (b || false)) (eqb n x) (λ _. refl) (λ _. refl));
    }))

pub no_some : (u : Option ℕ) → is_some u ≡ false → u ≡ None
no_some None h = refl
no_some (Some n) h = cc

-- none is added yet
pub added_start : (k : List Entry) (t : ℕ) → AreAdded k k t [] []
added_start k t = record {
  kept = record { made = refl; labels = λ x. refl; owners = λ x. refl };
  children = λ x. cases (λ b. (at k x).children ≡ cond b ((at k x).children ++ []) (at k x).children) (eqb x t) (λ _. sym (append-nil (at k x).children)) (λ _. refl);
  parents = λ x. refl;
}

pub added_none : (k : List Entry) (t n : ℕ) → is_some (at k n).parent ≡ true → AreAdded k k t (if_top (at k n).parent n) (if_top (at k n).parent n)
added_none k t n u = subst (λ b. AreAdded k k t (cond b [] (n ∷ [])) (cond b [] (n ∷ []))) (sym u) (added_start k t)

reversed_more : (n : ℕ) (ns : List ℕ) → reverse (last_ones ns) ++ cond (listed n ns) [] (n ∷ []) ≡ reverse (last_ones (n ∷ ns))
reversed_more n ns = cases (λ b. reverse (last_ones ns) ++ cond b [] (n ∷ []) ≡ reverse (cond b (last_ones ns) (n ∷ last_ones ns))) (listed n ns) (λ _. append-nil (reverse (last_ones ns))) (λ _. sym (reverse-append (n ∷ []) (last_ones ns)))

is_some_cond : (b : Bool) (t : ℕ) → is_some (cond b (Some t) None) ≡ b
is_some_cond true t = refl
is_some_cond false t = refl

-- one more, from the back
pub added_more : (k m m2 : List Entry) (t n : ℕ) (ns : List ℕ) → (at k n).parent ≡ None → AreAdded k m t (reverse (last_ones ns)) ns → AreAdded m m2 t (if_top (at m n).parent n) (if_top (at m n).parent n) → AreAdded k m2 t (reverse (last_ones (n ∷ ns))) (n ∷ ns)
added_more k m m2 t n ns u a b =
    let top : is_some (at m n).parent ≡ listed n ns = ap is_some (a.parents n ∙ ap (λ v. cond (listed n ns) (Some t) v) u) ∙ is_some_cond (listed n ns) t in
    record {
      kept = kept_then k m m2 a.kept b.kept;
      children = λ x. b.children x ∙ ap (λ c. cond (eqb x t) ((at m x).children ++ cond c [] (n ∷ [])) (at m x).children) top
          ∙ cases (λ c. (at m x).children ≡ cond c ((at k x).children ++ reverse (last_ones ns)) (at k x).children → cond c ((at m x).children ++ cond (listed n ns) [] (n ∷ [])) (at m x).children ≡ cond c ((at k x).children ++ reverse (last_ones (n ∷ ns))) (at k x).children) (eqb x t)
          (λ _ e. ap (λ l. l ++ cond (listed n ns) [] (n ∷ [])) e ∙ append_assoc (at k x).children (reverse (last_ones ns)) (cond (listed n ns) [] (n ∷ [])) ∙ ap (λ l. (at k x).children ++ l) (reversed_more n ns))
          (λ _ e. e)
          (a.children x);
      parents = λ x. b.parents x ∙ ap (λ c. cond (listed x (cond c [] (n ∷ []))) (Some t) (at m x).parent) top ∙ ap (λ v. cond (listed x (cond (listed n ns) [] (n ∷ []))) (Some t) v) (a.parents x)
          ∙ cases (λ c. listed n ns ≡ c → cond (listed x (cond c [] (n ∷ []))) (Some t) (cond (listed x ns) (Some t) (at k x).parent) ≡ cond (eqb n x || listed x ns) (Some t) (at k x).parent) (listed n ns)
          (λ h _. cases (λ c. eqb n x ≡ c → cond (listed x ns) (Some t) (at k x).parent ≡ cond (c || listed x ns) (Some t) (at k x).parent) (eqb n x) (λ q _. ap (λ c. cond c (Some t) (at k x).parent) (ap (λ y. listed y ns) (sym (eqb-true n x q)) ∙ h)) (λ _ _. refl) refl)
          (λ h _. cases (λ c. cond (c || false) (Some t) (cond (listed x ns) (Some t) (at k x).parent) ≡ cond (c || listed x ns) (Some t) (at k x).parent) (eqb n x) (λ _. refl) (λ _. refl))
          refl;
    }

-- a list whose end is turned and put further to the front
turned_in : (ms ys : List ℕ) (i : ℕ) → i ≤ length ys → put_off i (length ys) (backward (length ys) (ys ++ reverse ms)) ≡ take i ys ++ (ms ++ drop i ys)
turned_in ms ys i le =
    let forward : backward (length ys) (ys ++ reverse ms) ≡ ys ++ ms = ap (λ l. l ++ reverse (drop (length ys) (ys ++ reverse ms))) (take-append_seam ys (reverse ms)) ∙ ap (λ l. ys ++ reverse l) (drop-append_seam ys (reverse ms)) ∙ ap (λ l. ys ++ l) (reverse-reverse ms) in
    let long : length (drop i ys) ≡ length ys - i = length-drop i ys in
    let rest : drop i (ys ++ ms) ≡ drop i ys ++ ms = drop-append-le i ys ms le in
    let back : drop (length ys - i) (drop i (ys ++ ms)) ≡ ms = ap (drop (length ys - i)) rest ∙ ap (λ j. drop j (drop i ys ++ ms)) (sym long) ∙ drop-append_seam (drop i ys) ms in
    let front : take (length ys - i) (drop i (ys ++ ms)) ≡ drop i ys = ap (take (length ys - i)) rest ∙ ap (λ j. take j (drop i ys ++ ms)) (sym long) ∙ take-append_seam (drop i ys) ms in
    ap (put_off i (length ys)) forward
    ∙ ap (λ l. l ++ (drop (length ys - i) (drop i (ys ++ ms)) ++ take (length ys - i) (drop i (ys ++ ms)))) (take-append-le i ys ms le)
    ∙ ap (λ l. take i ys ++ (l ++ take (length ys - i) (drop i (ys ++ ms)))) back
    ∙ ap (λ l. take i ys ++ (ms ++ l)) front

-- by the place that was found
pub turned_children : (s : Option ℕ) (ms ys list all : List ℕ) (i first : ℕ) → list ≡ ys → first ≡ length ys → all ≡ ys ++ reverse ms → i ≤ length list → ((j : ℕ) → j < i → is_number (get_or list j 0) s ≡ false) → (i < length list → is_number (get_or list i 0) s ≡ true) → put_off i first (backward first all) ≡ spliced s ms ys
turned_children s ms ys list all i first el ef ea le none found =
    let P : List ℕ → Type 0 = λ l. i ≤ length l → ((j : ℕ) → j < i → is_number (get_or l j 0) s ≡ false) → (i < length l → is_number (get_or l i 0) s ≡ true) → put_off i first (backward first all) ≡ spliced s ms ys in
    subst P (sym el) (λ le2 none2 found2. ap (λ n. put_off i n (backward n all)) ef ∙ ap (λ l. put_off i (length ys) (backward (length ys) l)) ea ∙ turned_in ms ys i le2 ∙ sym (spliced_at s ms ys i le2 none2 found2)) le none found

-- all are added, and turned in
pub hung_at_once : (k d m : List Entry) (t : ℕ) (s : Option ℕ) (ns : List ℕ) → t < length k → AreAdded k d t (reverse (last_ones ns)) ns → m ≡ set d t (record (at d t) { children = spliced s (last_ones ns) (at k t).children }) → AreHung k m t s ns
hung_at_once k d m t s ns lt a e =
    let lt2 : t < length d = omega (arith, lt, a.kept.made) in
    subst (λ y. AreHung k y t s ns) (sym e) (record {
      kept = record {
        made = length-set d t _ ∙ a.kept.made;
        labels = λ x. keeps_field (λ (y : Entry). y.label) d t _ lt2 refl x ∙ a.kept.labels x;
        owners = λ x. keeps_field (λ (y : Entry). y.owner) d t _ lt2 refl x ∙ a.kept.owners x;
      };
      children = λ x. sets_field (λ (y : Entry). y.children) d t _ lt2 x
          ∙ cases (λ b. eqb x t ≡ b → (at d x).children ≡ cond b ((at k x).children ++ reverse (last_ones ns)) (at k x).children → cond b (spliced s (last_ones ns) (at k t).children) (at d x).children ≡ cond b (spliced s (last_ones ns) (at k x).children) (at k x).children) (eqb x t)
          (λ q _ _. ap (λ y. spliced s (last_ones ns) (at k y).children) (sym (eqb-true x t q)))
          (λ _ _ h. h)
          refl (a.children x);
      parents = λ x. keeps_field (λ (y : Entry). y.parent) d t _ lt2 refl x ∙ a.parents x;
    })

-- the whole call, with the room that was made first
pub list_moved : (k b d m : List Entry) (t : ℕ) (s : Option ℕ) (ns : List ℕ) → b ≡ k → IsSound k → t < length k → AreNodes k ns → MayMoveAll k t ns → ((i : ℕ) → i < length ns → is_number (get_or ns i 0) s ≡ false) → AreCut b d ns → AreHung d m t s ns → WasMoved k m t s ns
list_moved k b d m t s ns e sound tin nodes may away cut hung =
    moved_at_once k d m t s ns sound tin
    (λ n l. let p = listed_place n ns l in subst (MayGo k t) (p.2) (record { is_in = nodes (p.0) (p.1); may = may (p.0) (p.1) }))
    (none_is s ns away) (subst (λ y. AreCut y d ns) e cut) hung

-- the same list
pub cut_of : (k d : List Entry) (ns ms : List ℕ) → ms ≡ ns → AreCut k d ms → AreCut k d ns
cut_of k d ns ms e = subst (AreCut k d) e

-- none of them has a parent any more
pub cut_tops : (k d : List Entry) (ns : List ℕ) → AreCut k d ns → (i : ℕ) → i < length ns → (at d (get_or ns i 0)).parent ≡ None
cut_tops k d ns cut i lt = cut.parents (get_or ns i 0) ∙ ap (λ b. cond b None (at k (get_or ns i 0)).parent) (listed_at_place ns i lt)
