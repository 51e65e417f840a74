-- A target that takes nodes takes their copies, so copies are refused for memory or for their number alone.
use Rattle.std.proofs.Common.{◌≡◌, ℕ, zero, suc, ◌+◌, ◌<◌, ◌≤◌, List, [], ◌∷◌, Bool, true, false, not, ◌&&◌, ◌||◌, refl, sym, ap, ◌∙◌, subst, map, length, cond, eqb, eq-eqb, ne_eqb, arith, take, get_or, Option, Some, None, ◌⊎◌, ⊎_elim}
use Rattle.std.specs.Prelude.{nat_eq, nat_le, unwrap_or, option_and_then}
use Rattle.std.specs.List.{list_all}
use Rattle.std.specs.Option.{option_or, option_map_or}
use Rattle.std.proofs.lemmas.Bool.{and_parts}
use Rattle.plain_tree.specs.Names as names
use Rattle.plain_tree.specs.Trees.{Trees, End, Node, beside, size, height}
use Rattle.plain_tree.proofs.Lists.{beside_assoc}
use Rattle.tree_ops.specs.Labels.{is_text, tag_of}
use Rattle.tree_ops.specs.Trees.{has, tops, tree_of, subtree, numbered, copied}
use Rattle.tree_ops.proofs.Tests.{or_none}
use Rattle.page_tree.specs.declared.fault.PageFault.{PageFault}
use Rattle.page_tree.specs.declared.fault.PageFault.TheVariants as fault
use Rattle.page_tree.specs.declared.page.Page.{Page}
use Rattle.query_grammar.specs.Finds.{has_number}
use Rattle.query_grammar.proofs.Numbers.{has_first, has_at}
use Rattle.widget_meaning.specs.Trees.{subtrees, first_label, depth_below, depth_of}
use Rattle.page_image.specs.Copies.{AreCopied, trees_at, copies_of}
use Rattle.page_image.specs.Image.{owns, number, own, forest}
use Rattle.page_image.specs.Refusals.{RefusesCopy, RefusesCopies}
use Rattle.page_image.specs.Targets.{is_text_at, is_void_at, may_go, takes}
use Rattle.page_image.proofs.Copies.{IsOne, copied_beside, numbered_beside, size_beside, size_copied, first_found, one_tree, made, same_tree, all_low}
use Rattle.page_image.proofs.Copying.{none_there, tree_of_beside}
use Rattle.page_image.proofs.Grafts.{is_below, below_is, all_below, numbered_below, numbered_off, off_below}
use Rattle.page_image.proofs.Looks.{stands_at, number_low}
use Rattle.page_image.proofs.Marked.{AllIn}
use Rattle.page_image.proofs.Pages.{owner_is}

no_true : false ≡ true → ⊥
no_true e = cc

and_assoc : (a b c : Bool) → (a && (b && c)) ≡ ((a && b) && c)
and_assoc true b c = refl
and_assoc false b c = refl

both_in : (p : ℕ → Bool) (a b : Trees ℕ) → AllIn p a → AllIn p b → AllIn p (beside a b)
both_in p End b x y = y
both_in p (Node m l ks a) b x y = (x.0, x.1, both_in p a b (x.2) y)

height_numbered : (n : ℕ) (a : Trees ℕ) → height (numbered n a) ≡ height a
height_numbered n End = refl
height_numbered n (Node m l ks ts) = omega (arith, height_numbered (n + 1) ks, height_numbered (n + 1 + size ks) ts)

height_copied : (a : Trees ℕ) → height (copied a) ≡ height a
height_copied End = refl
height_copied (Node m l ks ts) = omega (arith, height_copied ks, height_copied ts)

depth_beside : (d n : ℕ) (a b : Trees ℕ) → depth_below d n (beside a b) ≡ depth_below d n a + depth_below d n b
depth_beside d n End b = omega arith
depth_beside d n (Node m l ks a) b = let e : depth_below d n (beside a b) ≡ depth_below d n a + depth_below d n b = depth_beside d n a b in omega (arith, e)

depth_off : (d n : ℕ) (ts : Trees ℕ) → has n ts ≡ false → depth_below d n ts ≡ 0
depth_off d n End h = refl
depth_off d n (Node m l ks ts) h =
    let p = or_none (eqb m n) (has n ks || has n ts) h in
    let q = or_none (has n ks) (has n ts) (p.1) in
    let a : depth_below (d + 1) n ks ≡ 0 = depth_off (d + 1) n ks (q.0) in
    let b : depth_below d n ts ≡ 0 = depth_off d n ts (q.1) in
    ap (λ c. cond c d (depth_below (d + 1) n ks) + depth_below d n ts) (p.0) ∙ omega (arith, a, b)

-- ## Each tree by itself

module _ (t d : ℕ) where
  -- whether a tree may go under a target that stands so deep
  abbrev goes : ℕ → Trees ℕ → Bool
  goes m ts = not (nat_eq m 0) && not (has t ts) && nat_le (d + height ts) 200

  abbrev singles : Trees ℕ → Bool
  singles End = true
  singles (Node m l ks ts) = goes m (Node m l ks End) && singles ts

  singles_beside : (a b : Trees ℕ) → singles (beside a b) ≡ (singles a && singles b)
  singles_beside End b = refl
  singles_beside (Node m l ks a) b = ap (λ c. goes m (Node m l ks End) && c) (singles_beside a b) ∙ and_assoc (goes m (Node m l ks End)) (singles a) (singles b)

  -- the trees of new tops behind older trees
  all_goes : (c : ℕ) (us a : Trees ℕ) → AllIn (is_below c) a → list_all (λ m. goes m (subtree m (beside a (numbered c us)))) (tops (numbered c us)) ≡ singles (numbered c us)
  all_goes c End a h = refl
  all_goes c (Node m l ks us) a h =
      ap (λ b. b && list_all (λ x. goes x (subtree x (beside a (Node c l (numbered (c + 1) ks) more)))) (tops more)) (ap (goes c) here)
      ∙ ap (λ ts. goes c one && list_all (λ x. goes x (subtree x ts)) (tops more)) (sym (beside_assoc a one more))
      ∙ ap (λ b. goes c one && b) (all_goes (c + 1 + size ks) us (beside a one) (both_in (is_below (c + 1 + size ks)) a one (all_below c (c + 1 + size ks) (omega arith) a h) (below_is c (c + 1 + size ks) (omega arith), numbered_below (c + 1) (c + 1 + size ks) ks (omega arith), tt)))
    where
      more : Trees ℕ
      more = numbered (c + 1 + size ks) us

      one : Trees ℕ
      one = Node c l (numbered (c + 1) ks) End

      here : subtree c (beside a (Node c l (numbered (c + 1) ks) more)) ≡ one
      here = ap (λ o. unwrap_or o End)
          (tree_of_beside c a (Node c l (numbered (c + 1) ks) more)
          ∙ ap (λ o. option_or o (tree_of c (Node c l (numbered (c + 1) ks) more))) (none_there c a (off_below c c (omega arith) a h))
          ∙ ap (λ b. cond b (Some one) (option_or (tree_of c (numbered (c + 1) ks)) (tree_of c more))) (eq-eqb c c refl))

  -- a copy of one tree
  single : (c : ℕ) → t < c → (o : Option (Trees ℕ)) → IsOne o → nat_le (d + height (unwrap_or o End)) 200 ≡ true → singles (numbered c (copied (unwrap_or o End))) ≡ true
  single c lt None one e = absurd one
  single c lt (Some End) one e = absurd one
  single c lt (Some (Node m l ks (Node _ _ _ _))) one e = absurd one
  single c lt (Some (Node m l ks End)) one e =
      ap (λ b. not b && not (has t (numbered c (copied (Node m l ks End)))) && nat_le (d + height (numbered c (copied (Node m l ks End)))) 200 && true) (ne_eqb c 0 (λ g. omega (arith, g, lt)))
      ∙ ap (λ b. not b && nat_le (d + height (numbered c (copied (Node m l ks End)))) 200 && true) (numbered_off c (copied (Node m l ks End)) t lt)
      ∙ ap (λ x. nat_le (d + x) 200 && true) (height_numbered c (copied (Node m l ks End)) ∙ height_copied (Node m l ks End))
      ∙ ap (λ b. b && true) e

  singles_all : (f : ℕ → ℕ) (ts : Trees ℕ) (c : ℕ) → t < c → (ns : List ℕ) → ((n : ℕ) → has_number ns n ≡ true → has (f n) ts ≡ true) → list_all (λ m. goes m (subtree m ts)) (map f ns) ≡ true → singles (numbered c (copied (subtrees (map f ns) ts))) ≡ true
  singles_all f ts c lt [] h e = refl
  singles_all f ts c lt (n ∷ ns) h e =
      let p = and_parts (goes (f n) (subtree (f n) ts)) (list_all (λ m. goes m (subtree m ts)) (map f ns)) e in
      ap (λ u. singles (numbered c u)) (copied_beside (subtree (f n) ts) (subtrees (map f ns) ts))
      ∙ ap singles (numbered_beside c (copied (subtree (f n) ts)) (copied (subtrees (map f ns) ts)))
      ∙ singles_beside (numbered c (copied (subtree (f n) ts))) (numbered (c + size (copied (subtree (f n) ts))) (copied (subtrees (map f ns) ts)))
      ∙ ap (λ b. b && singles (numbered (c + size (copied (subtree (f n) ts))) (copied (subtrees (map f ns) ts)))) (single c lt (tree_of (f n) ts) (one_tree (f n) ts (h n (has_first n ns))) ((and_parts _ _ (p.0)).1))
      ∙ singles_all f ts (c + size (copied (subtree (f n) ts))) (omega (arith, lt)) ns (λ m l. h m (last (eqb m n) l)) (p.1)
    where
      last : (a : Bool) {b : Bool} → b ≡ true → (a || b) ≡ true
      last true e = refl
      last false e = e

-- ## Of pages

module _ (old mid : Page) (w t : ℕ) (ns ids : List ℕ) (c : AreCopied old mid w ns ids) (ht : owns old w t ≡ true) (mine : (n : ℕ) → has_number ns n ≡ true → owns old w n ≡ true) where
  low_tops : takes (forest old w) (map (number old w) ns) (number old w t) ≡ true → list_all (may_go (beside (forest old w) (copies_of old w ns)) (number old w t)) (tops (copies_of old w ns)) ≡ true
  low_tops e =
      ap (λ x. list_all (λ m. goes (number old w t) x m (subtree m (beside (forest old w) (copies_of old w ns)))) (tops (copies_of old w ns))) depth_same
      ∙ all_goes (number old w t) (depth_of (number old w t) (forest old w)) (length (own old w)) (copied (trees_at old w ns)) (forest old w) (all_low old w (owner_is old w t ht))
      ∙ singles_all (number old w t) (depth_of (number old w t) (forest old w)) (number old w) (forest old w) (length (own old w)) (number_low old w t ht) ns (λ n l. stands_at old w n (mine n l)) ((and_parts _ _ e).1)
    where
      off : has (number old w t) (copies_of old w ns) ≡ false
      off = numbered_off (length (own old w)) (copied (trees_at old w ns)) (number old w t) (number_low old w t ht)

      depth_same : depth_of (number old w t) (beside (forest old w) (copies_of old w ns)) ≡ depth_of (number old w t) (forest old w)
      depth_same =
          let a : depth_of (number old w t) (beside (forest old w) (copies_of old w ns)) ≡ depth_of (number old w t) (forest old w) + depth_of (number old w t) (copies_of old w ns) = depth_beside 0 (number old w t) (forest old w) (copies_of old w ns) in
          let b : depth_of (number old w t) (copies_of old w ns) ≡ 0 = depth_off 0 (number old w t) (copies_of old w ns) off in
          omega (arith, a, b)

  still_takes : takes (forest old w) (map (number old w) ns) (number old w t) ≡ true → takes (forest mid w) (map (number mid w) ids) (number mid w t) ≡ true
  still_takes e =
      ap (λ x. takes (forest mid w) (map (number mid w) ids) x) ((c.grown.2).numbers w t ht)
      ∙ ap (λ u. takes u (map (number mid w) ids) (number old w t)) c.trees
      ∙ ap (λ l. takes (beside (forest old w) (copies_of old w ns)) l (number old w t)) c.heads
      ∙ ap (λ v. not (option_map_or is_text v false) && not (names.is_void (unwrap_or (option_and_then tag_of v) [])) && list_all (may_go (beside (forest old w) (copies_of old w ns)) (number old w t)) (tops (copies_of old w ns))) (ap first_label (first_found (number old w t) (forest old w) (copies_of old w ns) (stands_at old w t ht)))
      ∙ ap (λ b. not (is_text_at (forest old w) (number old w t)) && not (is_void_at (forest old w) (number old w t)) && b) (low_tops e)
      ∙ ap (λ b. b && true) ((and_parts _ _ e).0)

  pub copies_refused : (list : List ℕ) → list ≡ ids → (e : PageFault) → (e ≡ fault.Memory) ⊎ (takes (forest mid w) (map (number mid w) list) (number mid w t) ≡ false) → takes (forest old w) (map (number old w) ns) (number old w t) ≡ true → RefusesCopies (length (own old w)) (size (trees_at old w ns)) e
  copies_refused list same e c q = ⊎_elim
      (λ g. subst (RefusesCopies (length (own old w)) (size (trees_at old w ns))) (sym g) tt)
      (λ g. absurd (no_true (sym g ∙ ap (λ l. takes (forest mid w) (map (number mid w) l) (number mid w t)) same ∙ still_takes q)))
      c

-- a part of the trees is no larger than all
size_front : (f : ℕ → ℕ) (ts : Trees ℕ) (ns : List ℕ) (i : ℕ) → i < length ns → size (subtrees (map f (take i ns)) ts) + size (subtree (f (get_or ns i 0)) ts) ≤ size (subtrees (map f ns) ts)
size_front f ts [] i lt = absurd (omega (arith, lt))
size_front f ts (n ∷ ns) zero lt = omega (arith, size_beside (subtree (f n) ts) (subtrees (map f ns) ts))
size_front f ts (n ∷ ns) (suc i) lt = omega (arith, size_beside (subtree (f n) ts) (subtrees (map f ns) ts), size_beside (subtree (f n) ts) (subtrees (map f (take i ns)) ts), size_front f ts ns i (omega (arith, lt)))

pub copy_too_many : (old mid : Page) (w i : ℕ) (ns ids : List ℕ) → i < length ns → ((n : ℕ) → has_number ns n ≡ true → owns old w n ≡ true) → AreCopied old mid w (take i ns) ids → (e : PageFault) → RefusesCopy (length (own mid w)) (size (subtree (number mid w (get_or ns i 0)) (forest mid w))) e → RefusesCopies (length (own old w)) (size (trees_at old w ns)) e
copy_too_many old mid w i ns ids lt mine c fault.Memory q = tt
copy_too_many old mid w i ns ids lt mine c fault.TooDeep q = absurd q
copy_too_many old mid w i ns ids lt mine c fault.NotInside q = absurd q
copy_too_many old mid w i ns ids lt mine c (fault.Nodes kept) q =
    let h = mine (get_or ns i 0) (has_at ns i 0 lt) in
    let a : length (own mid w) ≡ length (own old w) + size (copied (trees_at old w (take i ns))) = made old mid mid w (take i ns) ids c (get_or ns i 0) 0 h in
    let b : size (copied (trees_at old w (take i ns))) ≡ size (trees_at old w (take i ns)) = size_copied (trees_at old w (take i ns)) in
    let d : size (subtree (number mid w (get_or ns i 0)) (forest mid w)) ≡ size (subtree (number old w (get_or ns i 0)) (forest old w)) = ap size (same_tree old mid mid w (take i ns) ids c (get_or ns i 0) 0 h) in
    let g : size (trees_at old w (take i ns)) + size (subtree (number old w (get_or ns i 0)) (forest old w)) ≤ size (trees_at old w ns) = size_front (number old w) (forest old w) ns i lt in
    let z : kept ≡ length (own mid w) = q.0 in
    let y : 16384 < length (own mid w) + size (subtree (number mid w (get_or ns i 0)) (forest mid w)) = q.1 in
    (omega (arith, a, z), omega (arith, a, b, d, g, y))
