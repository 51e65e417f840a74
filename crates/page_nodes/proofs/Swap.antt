-- A tree is put in the place of another under `body`.
use Rattle.std.proofs.Common.{◌≡◌, ℕ, zero, suc, ◌<◌, ◌≤◌, List, [], ◌∷◌, Bool, true, false, refl, sym, ap, ◌∙◌, subst, eqb, arith, cond, eqb-true, ne_eqb, Some, None, Option, length, set, not, ◌||◌, get_or, ⊎_elim}
use Rattle.std.proofs.lemmas.Bool.{eqb-false, and_parts, or_cases}
use Rattle.std.specs.List.{remove}
use Rattle.std.proofs.lemmas.List.{length-set}
use Rattle.tree_ops.specs.Trees.{is_number}
use Rattle.page_nodes.specs.Trees.{pruned}
use Rattle.page_nodes.specs.Entries.{Entry, at, body, listed, distinct, minus, before, tree, IsSound}
use Rattle.page_nodes.specs.Moves.{MayLink, IsSwapped}
use Rattle.page_nodes.proofs.Lists.{cases, minus_none, or_right}
use Rattle.page_nodes.proofs.Shows.{tree_lower}
use Rattle.page_nodes.proofs.Cut.{IsCut, cut_tree, cut_sound}
use Rattle.page_nodes.proofs.Insert.{insert_tree, insert_sound}
use Rattle.page_nodes.proofs.Upward.{level_none}
use Rattle.page_nodes.proofs.Walk.{without_body}
use Rattle.page_nodes.proofs.Detach.{keeps_field, sets_field, unlisted, raised}
use Rattle.page_nodes.proofs.Put.{given, hung, insert_written}

-- a number that is listed is found
pub found_in : (n : ℕ) (xs : List ℕ) (i : ℕ) → listed n xs ≡ true → i ≤ length xs → ((j : ℕ) → j < i → is_number (get_or xs j 0) (Some n) ≡ false) → i < length xs
found_in n [] i l le others = cc
found_in n (x ∷ xs) zero l le others = omega arith
found_in n (x ∷ xs) (suc i) l le others =
    let rest : listed n xs ≡ true = ⊎_elim (λ h. absurd (true_false (sym h ∙ others 0 (omega arith)))) (λ h. h) (or_cases (eqb x n) (listed n xs) l) in
    omega (arith, found_in n xs i rest (omega (arith, le)) (λ j lt. others (suc j) (omega (arith, lt))))
  where
    true_false : true ≡ false → ⊥
    true_false h = cc

listed_here : (n : ℕ) (xs : List ℕ) (i : ℕ) → i < length xs → is_number (get_or xs i 0) (Some n) ≡ true → listed n xs ≡ true
listed_here n [] i lt e = absurd (omega (arith, lt))
listed_here n (x ∷ xs) zero lt e = ap (λ b. b || listed n xs) e
listed_here n (x ∷ xs) (suc i) lt e = or_right (eqb x n) (listed n xs) (listed_here n xs i (omega (arith, lt)) e)

not_true : (b : Bool) → not b ≡ true → b ≡ false
not_true true h = cc
not_true false h = refl

-- in a list without repeats, a number is taken out at its place
pub taken_out : (n : ℕ) (xs : List ℕ) (i : ℕ) → distinct xs ≡ true → i < length xs → is_number (get_or xs i 0) (Some n) ≡ true → remove xs i ≡ minus n xs
taken_out n [] i d lt e = absurd (omega (arith, lt))
taken_out n (x ∷ xs) zero d lt e =
    let p = and_parts (not (listed x xs)) (distinct xs) d in
    sym (ap (λ b. cond (not b) (x ∷ minus n xs) (minus n xs)) e
    ∙ minus_none n xs (ap (λ y. listed y xs) (sym (eqb-true x n e)) ∙ not_true (listed x xs) (p.0)))
taken_out n (x ∷ xs) (suc i) d lt e =
    let p = and_parts (not (listed x xs)) (distinct xs) d in
    let here = listed_here n xs i (omega (arith, lt)) e in
    let other : eqb x n ≡ false = ne_eqb x n (λ h. true_false (sym (subst (λ y. listed y xs ≡ true) (sym h) here) ∙ not_true (listed x xs) (p.0))) in
    sym (ap (λ b. cond (not b) (x ∷ minus n xs) (minus n xs)) other ∙ ap (λ l. x ∷ l) (sym (taken_out n xs i (p.1) (omega (arith, lt)) e)))
  where
    true_false : true ≡ false → ⊥
    true_false h = cc

-- what a search of it finds
pub taken_found : (n : ℕ) (xs ys : List ℕ) (i : ℕ) → ys ≡ xs → distinct xs ≡ true → i < length ys → (i < length ys → is_number (get_or ys i 0) (Some n) ≡ true) → remove xs i ≡ minus n xs
taken_found n xs ys i e d lt found = taken_out n xs i d (subst (λ l. i < length l) e lt) (ap (λ l. is_number (get_or l i 0) (Some n)) (sym e) ∙ found lt)

none_here : (n : ℕ) (xs : List ℕ) → ((j : ℕ) → j < length xs → is_number (get_or xs j 0) (Some n) ≡ false) → listed n xs ≡ false
none_here n [] h = refl
none_here n (x ∷ xs) h = ap (λ b. b || listed n xs) (h 0 (omega arith)) ∙ none_here n xs (λ j lt. h (suc j) (omega (arith, lt)))

pub taken_missed : (n : ℕ) (xs ys : List ℕ) (i : ℕ) → ys ≡ xs → length ys ≤ i → ((j : ℕ) → j < i → is_number (get_or ys j 0) (Some n) ≡ false) → xs ≡ minus n xs
taken_missed n xs ys i e le none = sym (minus_none n xs (ap (listed n) (sym e) ∙ none_here n ys (λ j lt. none j (omega (arith, lt, le)))))

-- in a list without repeats, a number is written over another
pub written_over : (n m : ℕ) (xs : List ℕ) (i : ℕ) → distinct xs ≡ true → (m ≡ n → ⊥) → i < length xs → is_number (get_or xs i 0) (Some n) ≡ true → set xs i m ≡ minus n (before (Some n) m xs)
written_over n m [] i d ne lt e = absurd (omega (arith, lt))
written_over n m (x ∷ xs) zero d ne lt e =
    let p = and_parts (not (listed x xs)) (distinct xs) d in
    let away : minus n xs ≡ xs = minus_none n xs (ap (λ y. listed y xs) (sym (eqb-true x n e)) ∙ not_true (listed x xs) (p.0)) in
    sym (ap (λ b. minus n (cond b (m ∷ x ∷ xs) (x ∷ before (Some n) m xs))) e
    ∙ ap (λ b. cond (not b) (m ∷ minus n (x ∷ xs)) (minus n (x ∷ xs))) (ne_eqb m n ne)
    ∙ ap (λ b. m ∷ cond (not b) (x ∷ minus n xs) (minus n xs)) e
    ∙ ap (λ l. m ∷ l) away)
written_over n m (x ∷ xs) (suc i) d ne lt e =
    let p = and_parts (not (listed x xs)) (distinct xs) d in
    let here = listed_here n xs i (omega (arith, lt)) e in
    let other : eqb x n ≡ false = ne_eqb x n (λ h. true_false (sym (subst (λ y. listed y xs ≡ true) (sym h) here) ∙ not_true (listed x xs) (p.0))) in
    sym (ap (λ b. minus n (cond b (m ∷ x ∷ xs) (x ∷ before (Some n) m xs))) other
    ∙ ap (λ b. cond (not b) (x ∷ minus n (before (Some n) m xs)) (minus n (before (Some n) m xs))) other
    ∙ ap (λ l. x ∷ l) (sym (written_over n m xs i (p.1) ne (omega (arith, lt)) e)))
  where
    true_false : true ≡ false → ⊥
    true_false h = cc

pub write_found : (n m : ℕ) (xs ys : List ℕ) (i : ℕ) → ys ≡ xs → listed n xs ≡ true → distinct xs ≡ true → (m ≡ n → ⊥) → i ≤ length ys → ((j : ℕ) → j < i → is_number (get_or ys j 0) (Some n) ≡ false) → (i < length ys → is_number (get_or ys i 0) (Some n) ≡ true) → (i < length xs) × (set xs i m ≡ minus n (before (Some n) m xs))
write_found n m xs ys i e = subst (λ zs. listed n xs ≡ true → distinct xs ≡ true → (m ≡ n → ⊥) → i ≤ length zs → ((j : ℕ) → j < i → is_number (get_or zs j 0) (Some n) ≡ false) → (i < length zs → is_number (get_or zs i 0) (Some n) ≡ true) → (i < length xs) × (set xs i m ≡ minus n (before (Some n) m xs))) (sym e)
    (λ l d ne le others found. let lt = found_in n xs i l le others in (lt, written_over n m xs i d ne lt (found lt)))

-- a tree without a parent may stand under `body`
pub under_body : (k : List Entry) → IsSound k → (n : ℕ) → (n ≡ body → ⊥) → (at k n).parent ≡ None → MayLink k body n
under_body k s n ne top = record {
  other = ne;
  top = top;
  apart = without_body k s n ne;
  low = λ x away. omega (arith, level_none body (tree k x) (without_body k s x away), tree_lower k s n ne);
  owner = or_right _ true refl;
  takes = s.element;
}

-- the children of `body` as written
abbrev pub exchanged : List Entry → ℕ → ℕ → List Entry
exchanged k n m = set k body (record (at k body) { children = minus n (before (Some n) m (at k body).children) })

pub none_is : (p : ℕ) → ◌≡◌ {A = Option ℕ} None (Some p) → ⊥
none_is p h = cc

some_is : (a b : ℕ) → Some a ≡ Some b → a ≡ b
some_is a b h = cc

swap_cut : (k : List Entry) → IsSound k → (n m : ℕ) → n < length k → m < length k → (at k n).parent ≡ Some body → IsCut (hung (given k body (Some n) m) body m) (raised (hung (exchanged k n m) body m) n) n
swap_cut k s n m nin min up =
    let l = insert_written k body (Some n) m s.some min in
    let a = exchanged k n m in
    let b = hung a body m in
    let alen : length a ≡ length k = length-set k body _ in
    let blen : length b ≡ length k = length-set a m _ ∙ alen in
    let min2 : m < length a = omega (arith, min, alen) in
    let nin2 : n < length b = omega (arith, nin, blen) in
    record {
      length = length-set b n _ ∙ blen ∙ sym l.length;
      labels = λ x. keeps_field (λ (y : Entry). y.label) b n _ nin2 refl x ∙ keeps_field (λ (y : Entry). y.label) a m _ min2 refl x ∙ keeps_field (λ (y : Entry). y.label) k body _ s.some refl x ∙ sym (l.labels x);
      owners = λ x. keeps_field (λ (y : Entry). y.owner) b n _ nin2 refl x ∙ keeps_field (λ (y : Entry). y.owner) a m _ min2 refl x ∙ keeps_field (λ (y : Entry). y.owner) k body _ s.some refl x ∙ sym (l.owners x);
      children = λ x. keeps_field (λ (y : Entry). y.children) b n _ nin2 refl x ∙ keeps_field (λ (y : Entry). y.children) a m _ min2 refl x ∙ sets_field (λ (y : Entry). y.children) k body _ s.some x
          ∙ cases (λ c. eqb x body ≡ c → cond c (minus n (before (Some n) m (at k body).children)) (at k x).children ≡ minus n (cond c (before (Some n) m (at k x).children) (at k x).children)) (eqb x body)
          (λ h _. ap (λ y. minus n (before (Some n) m (at k y).children)) (sym (eqb-true x body h)))
          (λ h _. sym (unlisted k s n x (λ u. eqb-false x body h (some_is x body (sym u ∙ up))))) refl
          ∙ ap (minus n) (sym (l.children x));
      parents = λ x. sets_field (λ (y : Entry). y.parent) b n _ nin2 x ∙ ap (λ o. cond (eqb x n) None o) (sets_field (λ (y : Entry). y.parent) a m _ min2 x ∙ ap (λ o. cond (eqb x m) (Some body) o) (keeps_field (λ (y : Entry). y.parent) k body _ s.some refl x) ∙ sym (l.parents x));
    }

-- the whole call
pub swap_written : (k a b c : List Entry) (n m : ℕ) → IsSound k → n < length k → m < length k → (at k n).parent ≡ Some body → (at k m).parent ≡ None → (m ≡ body → ⊥) → a ≡ exchanged k n m → b ≡ hung a body m → c ≡ raised b n → IsSound c × IsSwapped k c n m
swap_written k a b c n m s nin min up top ne ea eb ec =
    let mid = hung (given k body (Some n) m) body m in
    let l = insert_written k body (Some n) m s.some min in
    let may = under_body k s m ne top in
    let ms = insert_sound k mid body (Some n) m s l may in
    let cut = swap_cut k s n m nin min up in
    let e : raised (hung (exchanged k n m) body m) n ≡ c = sym (ec ∙ ap (λ y. raised y n) (eb ∙ ap (λ y. hung y body m) ea)) in
    subst (λ y. IsSound y × IsSwapped k y n m) e (
      cut_sound mid _ n ms cut,
      record {
        trees = λ x. cut_tree mid _ n ms cut x ∙ ap (pruned n) (insert_tree k mid body (Some n) m s l may x);
        parents = λ x. cut.parents x ∙ ap (λ o. cond (eqb x n) None o) (l.parents x);
        kept = record { made = cut.length ∙ l.length; labels = λ x. cut.labels x ∙ l.labels x; owners = λ x. cut.owners x ∙ l.owners x };
      },
    )
