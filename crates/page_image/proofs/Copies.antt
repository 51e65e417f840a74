-- Copies of several nodes are added one after the other, and then put under a target.
use Rattle.std.proofs.Common.{◌≡◌, ℕ, suc, ◌+◌, ◌<◌, ◌≤◌, List, [], ◌∷◌, ◌++◌, Bool, true, false, refl, sym, ap, ◌∙◌, subst, map, length, length-append, cond, eqb, eqb-true, ◌||◌, arith, take, take-suc, take_all, get_or, Option, Some, None, ⊎_elim}
use Rattle.std.specs.Prelude.{is_some}
use Rattle.std.specs.Option.{option_or, unwrap_or}
use Rattle.std.proofs.lemmas.List.{append-nil, append_assoc}
use Rattle.std.specs.List.{fold}
use Rattle.std.proofs.lemmas.Bool.{or_cases, cases_Bool}
use Rattle.plain_tree.specs.Trees.{Trees, End, Node, beside, marked, size}
use Rattle.plain_tree.proofs.Lists.{beside_assoc, beside_end}
use Rattle.tree_ops.specs.Labels.{copied_label}
use Rattle.tree_ops.specs.Trees.{has, tops, tree_of, subtree, grafted, numbered, copied}
use Rattle.code_units.specs.declared.owner.Owner.TheVariants as owner
use Rattle.page_nodes.specs.Owners.{is_owner}
use Rattle.page_tree.specs.declared.page.Page.{Page}
use Rattle.page_tree.specs.Pages.{nodes, root}
use Rattle.page_image.specs.Own.{is_own, own_number, page_forest}
use Rattle.query_grammar.specs.Finds.{has_number}
use Rattle.query_grammar.proofs.Numbers.{has_both, has_first, has_at}
use Rattle.widget_meaning.specs.Trees.{moved, subtrees}
use Rattle.page_image.specs.Copies.{AreCopied, SomeCopied, trees_at, copies_of}
use Rattle.page_image.specs.Image.{owns, number, own, forest, HasRoot}
use Rattle.page_image.specs.Stays.{KeepsNodes, Grows, GrowsBy, OthersStay}
use Rattle.page_image.proofs.Copying.{none_there, tree_of_beside}
use Rattle.page_image.proofs.Grafts.{is_below, below_is, all_moved}
use Rattle.page_image.proofs.Pages.{owner_is}
use Rattle.page_image.proofs.Shown.{forest_own}
use Rattle.page_image.proofs.Looks.{stands_at, number_low}
use Rattle.page_image.proofs.Marked.{AllIn}

no_true : false ≡ true → ⊥
no_true e = cc

-- one tree
abbrev pub IsOne : Option (Trees ℕ) → Type 0
IsOne None = ⊥
IsOne (Some End) = ⊥
IsOne (Some (Node m l ks End)) = Unit {0}
IsOne (Some (Node m l ks (Node _ _ _ _))) = ⊥

-- ## Lists and trees

pub copied_beside : (a b : Trees ℕ) → copied (beside a b) ≡ beside (copied a) (copied b)
copied_beside End b = refl
copied_beside (Node m l ks a) b = ap (Node m (copied_label l) (copied ks)) (copied_beside a b)

pub size_beside : (a b : Trees ℕ) → size (beside a b) ≡ size a + size b
size_beside End b = omega arith
size_beside (Node m l ks a) b = let e : size (beside a b) ≡ size a + size b = size_beside a b in omega (arith, e)

pub size_copied : (ts : Trees ℕ) → size (copied ts) ≡ size ts
size_copied End = refl
size_copied (Node m l ks ts) = ap (λ a. a + size (copied ts) + 1) (size_copied ks) ∙ ap (λ b. size ks + b + 1) (size_copied ts)

pub numbered_beside : (n : ℕ) (a b : Trees ℕ) → numbered n (beside a b) ≡ beside (numbered n a) (numbered (n + size a) b)
numbered_beside n End b = let e : n ≡ n + 0 = omega arith in ap (λ q. numbered q b) e
numbered_beside n (Node m l ks ts) b =
    let e : n + 1 + size ks + size ts ≡ n + (size ks + size ts + 1) = omega arith in
    ap (Node n l (numbered (n + 1) ks)) (numbered_beside (n + 1 + size ks) ts b ∙ ap (λ q. beside (numbered (n + 1 + size ks) ts) (numbered q b)) e)

tops_beside : (a b : Trees ℕ) → tops (beside a b) ≡ tops a ++ tops b
tops_beside End b = refl
tops_beside (Node m l ks a) b = ap (λ l. m ∷ l) (tops_beside a b)

subtrees_last : (ns : List ℕ) (n : ℕ) (ts : Trees ℕ) → subtrees (ns ++ n ∷ []) ts ≡ beside (subtrees ns ts) (subtree n ts)
subtrees_last [] n ts = beside_end (subtree n ts)
subtrees_last (m ∷ ns) n ts = ap (beside (subtree m ts)) (subtrees_last ns n ts) ∙ sym (beside_assoc (subtree m ts) (subtrees ns ts) (subtree n ts))

map_last : (f : ℕ → ℕ) (ns : List ℕ) (n : ℕ) → map f (ns ++ n ∷ []) ≡ map f ns ++ f n ∷ []
map_last f [] n = refl
map_last f (m ∷ ns) n = ap (λ l. f m ∷ l) (map_last f ns n)

map_same : (f g : ℕ → ℕ) (ns : List ℕ) → ((n : ℕ) → has_number ns n ≡ true → f n ≡ g n) → map f ns ≡ map g ns
map_same f g [] h = refl
map_same f g (n ∷ ns) h = ap (λ x. x ∷ map f ns) (h n (has_first n ns)) ∙ ap (λ l. g n ∷ l) (map_same f g ns (λ m l. h m (last (eqb m n) l)))
  where
    last : (a : Bool) {b : Bool} → b ≡ true → (a || b) ≡ true
    last true e = refl
    last false e = e

has_tree : (n : ℕ) (ts : Trees ℕ) → has n ts ≡ true → is_some (tree_of n ts) ≡ true
has_tree n End h = h
has_tree n (Node m l ks ts) h = by_test (eqb m n) h (has_tree n ks) (has_tree n ts)
  where
    left : (o : Option (Trees ℕ)) → is_some o ≡ true → is_some (option_or o (tree_of n ts)) ≡ true
    left None e = absurd (no_true e)
    left (Some t) e = refl

    right : (o : Option (Trees ℕ)) → is_some (tree_of n ts) ≡ true → is_some (option_or o (tree_of n ts)) ≡ true
    right None e = e
    right (Some t) e = refl

    by_test : (c : Bool) → (c || (has n ks || has n ts)) ≡ true → (has n ks ≡ true → is_some (tree_of n ks) ≡ true) → (has n ts ≡ true → is_some (tree_of n ts) ≡ true) → is_some (cond c (Some (Node m l ks End)) (option_or (tree_of n ks) (tree_of n ts))) ≡ true
    by_test true e f g = refl
    by_test false e f g = ⊎_elim (λ x. left (tree_of n ks) (f x)) (λ x. right (tree_of n ks) (g x)) (or_cases (has n ks) (has n ts) e)

-- the tree of a node that stands in the first trees
pub first_found : (n : ℕ) (a b : Trees ℕ) → has n a ≡ true → subtree n (beside a b) ≡ subtree n a
first_found n a b h = ap (λ o. unwrap_or o End) (tree_of_beside n a b ∙ some (tree_of n a) (has_tree n a h))
  where
    some : (o : Option (Trees ℕ)) → is_some o ≡ true → option_or o (tree_of n b) ≡ o
    some None e = absurd (no_true e)
    some (Some t) e = refl

-- ## Pages

pub grows_none : (p : Page) (w : ℕ) → Grows p p w []
grows_none p w = record {
  owners = λ v n h. h;
  numbers = λ v n h. refl;
  nodes = sym (append-nil (own p w));
  others = λ v ne. refl;
  fresh = λ v n h. absurd (no_true h);
  roots = λ v lt. refl;
}

pub grows_then : (a b c : Page) (w : ℕ) (xs ys : List ℕ) → Grows a b w xs → Grows b c w ys → Grows a c w (xs ++ ys)
grows_then a b c w xs ys p q = record {
  owners = λ v n h. q.owners v n (p.owners v n h);
  numbers = λ v n h. q.numbers v n (p.owners v n h) ∙ p.numbers v n h;
  nodes = q.nodes ∙ ap (λ l. l ++ ys) p.nodes ∙ append_assoc (own a w) xs ys;
  others = λ v ne. q.others v ne ∙ p.others v ne;
  fresh = λ v n h. ⊎_elim (p.fresh v n) (λ e. older v n (q.fresh v n e)) (or_cases (has_number xs n) (has_number ys n) (sym (has_both n xs ys) ∙ h));
  roots = λ v lt. q.roots v lt ∙ p.roots v lt;
}
  where
    older : (v n : ℕ) → owns b v n ≡ false → owns a v n ≡ false
    older v n off = ⊎_elim (λ e. absurd (no_true (sym off ∙ p.owners v n e))) (λ e. e) (cases_Bool (owns a v n))

pub grows_kept : (a b c : Page) (w : ℕ) (xs : List ℕ) → Grows a b w xs → KeepsNodes b c → Grows a c w xs
grows_kept a b c w xs p q = record {
  owners = λ v n h. q.owners v n ∙ p.owners v n h;
  numbers = λ v n h. q.numbers v n ∙ p.numbers v n h;
  nodes = q.nodes w ∙ p.nodes;
  others = λ v ne. q.nodes v ∙ p.others v ne;
  fresh = p.fresh;
  roots = λ v lt. q.roots v lt ∙ p.roots v lt;
}

-- ## Copies

pub one_tree : (n : ℕ) (ts : Trees ℕ) → has n ts ≡ true → IsOne (tree_of n ts)
one_tree n End h = absurd (no_true h)
one_tree n (Node m l ks ts) h = by_test (eqb m n) h (one_tree n ks) (one_tree n ts)
  where
    first : (o : Option (Trees ℕ)) → IsOne o → IsOne (option_or o (tree_of n ts))
    first None q = absurd q
    first (Some t) q = q

    either_one : (b : Bool) → has n ks ≡ b → (has n ks || has n ts) ≡ true → (has n ks ≡ true → IsOne (tree_of n ks)) → (has n ts ≡ true → IsOne (tree_of n ts)) → IsOne (option_or (tree_of n ks) (tree_of n ts))
    either_one true e u f g = first (tree_of n ks) (f e)
    either_one false e u f g = subst (λ o. IsOne (option_or o (tree_of n ts))) (sym (none_there n ks e)) (g (⊎_elim (λ x. absurd (no_true (sym e ∙ x))) (λ x. x) (or_cases (has n ks) (has n ts) u)))

    by_test : (c : Bool) → (c || (has n ks || has n ts)) ≡ true → (has n ks ≡ true → IsOne (tree_of n ks)) → (has n ts ≡ true → IsOne (tree_of n ts)) → IsOne (cond c (Some (Node m l ks End)) (option_or (tree_of n ks) (tree_of n ts)))
    by_test true e f g = tt
    by_test false e f g = either_one (has n ks) refl e f g

-- a tree has one top
one_top : (n k : ℕ) (ts : Trees ℕ) → has n ts ≡ true → tops (numbered k (copied (subtree n ts))) ≡ k ∷ []
one_top n k ts h = of (tree_of n ts) (one_tree n ts h)
  where
    of : (o : Option (Trees ℕ)) → IsOne o → tops (numbered k (copied (unwrap_or o End))) ≡ k ∷ []
    of None e = absurd e
    of (Some End) e = absurd e
    of (Some (Node m l ks End)) e = refl
    of (Some (Node m l ks (Node _ _ _ _))) e = absurd e

pub copied_none : (p : Page) (w : ℕ) → AreCopied p p w [] []
copied_none p w = record {
  trees = sym (beside_end (forest p w));
  heads = refl;
  owned = λ n h. absurd (no_true h);
  grown = ([], refl, grows_none p w);
  others = λ v lt ne. refl;
}

module _ (old mid new : Page) (w : ℕ) (ns ids : List ℕ) (c : AreCopied old mid w ns ids) (n id : ℕ) (hn : owns old w n ≡ true) where
  pub same_tree : subtree (number mid w n) (forest mid w) ≡ subtree (number old w n) (forest old w)
  same_tree =
      ap (λ x. subtree x (forest mid w)) ((c.grown.2).numbers w n hn)
      ∙ ap (subtree (number old w n)) c.trees
      ∙ first_found (number old w n) (forest old w) (copies_of old w ns) (stands_at old w n hn)

  pub made : length (own mid w) ≡ length (own old w) + size (copied (trees_at old w ns))
  made = ap length (c.grown.2).nodes ∙ length-append (own old w) (c.grown.0) ∙ ap (λ x. length (own old w) + x) (c.grown.1 ∙ sym (size_copied (trees_at old w ns)))

  last_tree : trees_at old w (ns ++ n ∷ []) ≡ beside (trees_at old w ns) (subtree (number old w n) (forest old w))
  last_tree = ap (λ l. subtrees l (forest old w)) (map_last (number old w) ns n) ∙ subtrees_last (map (number old w) ns) (number old w n) (forest old w)

  whole : copies_of old w (ns ++ n ∷ []) ≡ beside (copies_of old w ns) (numbered (length (own mid w)) (copied (subtree (number mid w n) (forest mid w))))
  whole =
      ap (λ t. numbered (length (own old w)) (copied t)) last_tree
      ∙ ap (numbered (length (own old w))) (copied_beside (trees_at old w ns) (subtree (number old w n) (forest old w)))
      ∙ numbered_beside (length (own old w)) (copied (trees_at old w ns)) (copied (subtree (number old w n) (forest old w)))
      ∙ ap (λ x. beside (copies_of old w ns) (numbered x (copied (subtree (number old w n) (forest old w))))) (sym made)
      ∙ ap (λ t. beside (copies_of old w ns) (numbered (length (own mid w)) (copied t))) (sym same_tree)

  pub copied_more : forest new w ≡ beside (forest mid w) (numbered (length (own mid w)) (copied (subtree (number mid w n) (forest mid w)))) → number new w id ≡ length (own mid w) → owns new w id ≡ true → GrowsBy mid new w (size (subtree (number mid w n) (forest mid w))) → OthersStay mid new w → AreCopied old new w (ns ++ n ∷ []) (ids ++ id ∷ [])
  copied_more trees is mine g others = record {
    trees = trees ∙ ap (λ t. beside t (numbered (length (own mid w)) (copied (subtree (number mid w n) (forest mid w))))) c.trees ∙ beside_assoc (forest old w) (copies_of old w ns) (numbered (length (own mid w)) (copied (subtree (number mid w n) (forest mid w)))) ∙ ap (beside (forest old w)) (sym whole);
    heads =
        map_last (number new w) ids id
        ∙ ap (λ l. l ++ number new w id ∷ []) (map_same (number new w) (number mid w) ids (λ x l. (g.2).numbers w x (c.owned x l)) ∙ c.heads)
        ∙ ap (λ x. tops (copies_of old w ns) ++ x ∷ []) is
        ∙ ap (λ l. tops (copies_of old w ns) ++ l) (sym (one_top (number old w n) (length (own mid w)) (forest old w) (stands_at old w n hn)) ∙ ap (λ t. tops (numbered (length (own mid w)) (copied t))) (sym same_tree))
        ∙ sym (tops_beside (copies_of old w ns) (numbered (length (own mid w)) (copied (subtree (number mid w n) (forest mid w)))))
        ∙ ap tops (sym whole);
    owned = λ x h. ⊎_elim
        (λ l. (g.2).owners w x (c.owned x l))
        (λ l. ⊎_elim (λ e. ap (owns new w) (eqb-true x id e) ∙ mine) (λ e. absurd (no_true e)) (or_cases (eqb x id) false l))
        (or_cases (has_number ids x) (has_number (id ∷ []) x) (sym (has_both x ids (id ∷ [])) ∙ h));
    grown = (
      c.grown.0 ++ g.0,
      length-append (c.grown.0) (g.0) ∙ ap (λ x. x + length (g.0)) (c.grown.1) ∙ ap (λ x. size (trees_at old w ns) + x) (g.1 ∙ ap size same_tree) ∙ sym (size_beside (trees_at old w ns) (subtree (number old w n) (forest old w))) ∙ ap size (sym last_tree),
      grows_then old mid new w (c.grown.0) (g.0) (c.grown.2) (g.2),
    );
    others = λ v lt ne. others v lt ne ∙ c.others v lt ne;
  }

-- by the places of a list
pub copied_at : (old mid new : Page) (w i : ℕ) (ns ids list : List ℕ) (id : ℕ) → i < length ns → ((n : ℕ) → has_number ns n ≡ true → owns old w n ≡ true) → AreCopied old mid w (take i ns) ids → list ≡ ids ++ id ∷ [] → forest new w ≡ beside (forest mid w) (numbered (length (own mid w)) (copied (subtree (number mid w (get_or ns i 0)) (forest mid w)))) → number new w id ≡ length (own mid w) → owns new w id ≡ true → GrowsBy mid new w (size (subtree (number mid w (get_or ns i 0)) (forest mid w))) → OthersStay mid new w → AreCopied old new w (take (i + 1) ns) list
copied_at old mid new w i ns ids list id lt own c e trees is mine g others =
    let next : i + 1 ≡ suc i = omega arith in
    subst (λ l. AreCopied old new w (take (i + 1) ns) l) (sym e)
    (subst (λ l. AreCopied old new w l (ids ++ id ∷ [])) (sym (ap (λ j. take j ns) next ∙ take-suc ns i 0 lt))
    (copied_more old mid new w (take i ns) ids c (get_or ns i 0) id (own (get_or ns i 0) (has_at ns i 0 lt)) trees is mine g others))

pub copied_all : (old new : Page) (w i : ℕ) (ns ids : List ℕ) → length ns ≤ i → AreCopied old new w (take i ns) ids → AreCopied old new w ns ids
copied_all old new w i ns ids le c = subst (λ l. AreCopied old new w l ids) (take_all i ns le) c

-- what is left of them
pub some_copied : (old new : Page) (w i : ℕ) (ns ids : List ℕ) → AreCopied old new w (take i ns) ids → SomeCopied old new w ns
some_copied old new w i ns ids c = record { many = i; trees = c.trees; grown = c.grown }

pub some_kept : (old mid new : Page) (w i : ℕ) (ns ids : List ℕ) → AreCopied old mid w (take i ns) ids → forest new w ≡ forest mid w → KeepsNodes mid new → SomeCopied old new w ns
some_kept old mid new w i ns ids c e k = record { many = i; trees = e ∙ c.trees; grown = (c.grown.0, c.grown.1, grows_kept old mid new w (c.grown.0) (c.grown.2) k) }

pub all_kept : (old mid new : Page) (w : ℕ) (ns ids : List ℕ) → AreCopied old mid w ns ids → KeepsNodes mid new → forest new w ≡ forest mid w → SomeCopied old new w ns
all_kept old mid new w ns ids c k e = some_kept old mid new w (length ns) ns ids (subst (λ l. AreCopied old mid w l ids) (sym (take_all (length ns) ns (omega arith))) c) e k

-- the node that is copied is still the widget's
pub still_owned : (old mid : Page) (w i : ℕ) (ns ms ids : List ℕ) → i < length ns → ((n : ℕ) → has_number ns n ≡ true → owns old w n ≡ true) → AreCopied old mid w ms ids → owns mid w (get_or ns i 0) ≡ true
still_owned old mid w i ns ms ids lt own c = (c.grown.2).owners w (get_or ns i 0) (own (get_or ns i 0) (has_at ns i 0 lt))

-- a root stays the root as the widget's nodes grow
pub still_root : (old new : Page) (w : ℕ) (news : List ℕ) → w < 32 → Grows old new w news → (home : HasRoot old w) → owns old w home.root ≡ true → HasRoot new w
still_root old new w news lt g home mine = record { root = home.root; is = g.roots w lt ∙ home.is; first = g.numbers w home.root mine ∙ home.first }

-- ## Put under a target

marked_low : (f : ℕ → ℕ) (p q : ℕ → Bool) → ((x : ℕ) → p x ≡ true → q (f x) ≡ true) → (ts : Trees ℕ) → AllIn p ts → AllIn q (marked f ts)
marked_low f p q h End a = tt
marked_low f p q h (Node m l ks ts) a = (h m (a.0), marked_low f p q h ks (a.1), marked_low f p q h ts (a.2))

low : (p : Page) (w x : ℕ) → is_own (nodes p) w x ≡ true → is_below (length (own p w)) (own_number (nodes p) w x) ≡ true
unfolding owns number
low p w x h = below_is (own_number (nodes p) w x) (length (own p w)) (number_low p w x h)

pub all_low : (p : Page) (w : ℕ) → is_owner (owner.Widget w) ≡ true → AllIn (is_below (length (own p w))) (forest p w)
unfolding forest
all_low p w is = marked_low (own_number (nodes p) w) (is_own (nodes p) w) (is_below (length (own p w))) (low p w) (page_forest (nodes p) (root p (owner.Widget w)) w) (forest_own (nodes p) p.arena.sound p.roots p.rooted w (root p (owner.Widget w)) is refl)

module _ (old mid new : Page) (w t : ℕ) (ns ids : List ℕ) (c : AreCopied old mid w ns ids) (ht : owns old w t ≡ true) where
  pub copies_put : forest new w ≡ fold (moved (number mid w t) None) (forest mid w) (map (number mid w) ids) → forest new w ≡ grafted (number old w t) None (copies_of old w ns) (forest old w)
  copies_put e =
      e
      ∙ ap (λ x. fold (moved x None) (forest mid w) (map (number mid w) ids)) ((c.grown.2).numbers w t ht)
      ∙ ap (λ u. fold (moved (number old w t) None) u (map (number mid w) ids)) c.trees
      ∙ ap (fold (moved (number old w t) None) (beside (forest old w) (copies_of old w ns))) c.heads
      ∙ all_moved (number old w t) (length (own old w)) (copied (trees_at old w ns)) (forest old w) (number_low old w t ht) (all_low old w (owner_is old w t ht))
