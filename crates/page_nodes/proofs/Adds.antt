-- A plain tree is added, child by child.
use Rattle.std.proofs.Common.{◌≡◌, ℕ, suc, ◌+◌, ◌<◌, ◌≤◌, List, [], ◌∷◌, ◌++◌, true, false, refl, sym, ap, ◌∙◌, subst, eqb, arith, cond, eq-eqb, eqb-true, ne_eqb, Some, None, length, length-append, drop, take, get_or, ⊎_elim, ◌||◌}
use Rattle.std.proofs.lemmas.Bool.{cases_lt, eqb-false}
use Rattle.std.proofs.lemmas.List.{at_drop_more, at_drop_all, get_or_past}
use Rattle.code_units.specs.declared.owner.Owner.{Owner}
use Rattle.code_units.specs.declared.owner.Owner.TheVariants as owner
use Rattle.plain_tree.specs.declared.plain.Plain.{Plain}
use Rattle.plain_tree.specs.Trees.{Label, TextOf, ElementOf, Trees, End, Node, PlainTrees, beside, size, height}
use Rattle.plain_tree.specs.Plains.{unplaced, unplaced_all}
use Rattle.plain_tree.proofs.Lists.{beside_assoc, beside_end}
use Rattle.tree_ops.specs.Labels.{is_text}
use Rattle.tree_ops.specs.Trees.{has, put_before, grafted, relabelled, numbered}
use Rattle.page_nodes.specs.Owners.{same_owner}
use Rattle.page_nodes.specs.Entries.{Entry, at, body, listed, distinct, limit, tree, IsSound, no_entry}
use Rattle.page_nodes.specs.Adds.{Older, IsAdded}
use Rattle.page_nodes.specs.Moves.{MayLink, IsLinked}
use Rattle.page_nodes.proofs.Lists.{cases, at_push}
use Rattle.page_nodes.proofs.Owners.{same_or}
use Rattle.page_nodes.proofs.Shows.{Shows, none, one_more, shows_one, shows_tree}
use Rattle.page_nodes.proofs.Upward.{none_some, parent_in, level_top}
use Rattle.page_nodes.proofs.Walk.{top_not_in, not_has, without_body}
use Rattle.tree_ops.proofs.Absent.{grafted_off, relabelled_off}
use Rattle.page_nodes.proofs.Label.{IsLabelled, labelled_renewed}
use Rattle.page_nodes.proofs.Plains.{unplaced_first, size_both}

-- nothing is known yet of the next number
next_parent : (k : List Entry) → (at k (length k)).parent ≡ None
next_parent k = ap (λ (y : Entry). y.parent) (get_or_past k (length k) no_entry (omega arith))

next_children : (k : List Entry) → (at k (length k)).children ≡ []
next_children k = ap (λ (y : Entry). y.children) (get_or_past k (length k) no_entry (omega arith))

next_tree : (k : List Entry) → (l : Label) (ts : Trees ℕ) → Shows k (length k ∷ []) ts → relabelled (length k) l ts ≡ Node (length k) l End End
next_tree k l _ (one_more {ks = ks} {ts = ts} hk none) =
    let e : ks ≡ End = shows_one k [] ks End (subst (λ y. Shows k y ks) (next_children k) hk) none in
    ap (λ b. Node (length k) (cond b l (at k (length k)).label) (relabelled (length k) l ks) End) (eq-eqb (length k) (length k) refl) ∙ ap (λ y. Node (length k) l (relabelled (length k) l y) End) e

-- one more node
abbrev pub with_node : List Entry → Owner → Label → List Entry
with_node k o l = k ++ (record { owner = o; parent = None; children = []; label = l }) ∷ []

new_labelled : (k : List Entry) (o : Owner) (l : Label) → IsLabelled k (with_node k o l) (length k) l
new_labelled k o l =
    let x0 : Entry = record { owner = o; parent = None; children = []; label = l } in
    let n = length k in
    record {
      labels = λ x. ap (λ (y : Entry). y.label) (at_push k x0 x) ∙ cases (λ b. (cond b x0 (at k x)).label ≡ cond b l (at k x).label) (eqb x n) (λ _. refl) (λ _. refl);
      children = λ x. ap (λ (y : Entry). y.children) (at_push k x0 x) ∙ cases (λ b. (cond b x0 (at k x)).children ≡ (at k x).children) (eqb x n) (λ e. sym (next_children k) ∙ ap (λ y. (at k y).children) (sym (eqb-true x n e))) (λ _. refl);
      parents = λ x. ap (λ (y : Entry). y.parent) (at_push k x0 x) ∙ cases (λ b. (cond b x0 (at k x)).parent ≡ (at k x).parent) (eqb x n) (λ e. sym (next_parent k) ∙ ap (λ y. (at k y).parent) (sym (eqb-true x n e))) (λ _. refl);
    }

new_same : (k : List Entry) (o : Owner) (l : Label) (x : ℕ) → (x ≡ length k → ⊥) → at (with_node k o l) x ≡ at k x
new_same k o l x ne = at_push k _ x ∙ ap (λ b. cond b (record { owner = o; parent = None; children = []; label = l }) (at k x)) (ne_eqb x (length k) ne)

new_sound : (k : List Entry) (o : Owner) (l : Label) → IsSound k → length k < 2147483648 → IsSound (with_node k o l)
new_sound k o l s room =
    let m = with_node k o l in
    let n = length k in
    let c = new_labelled k o l in
    let first : at m body ≡ at k body = new_same k o l body (λ e. omega (arith, e, s.some)) in
    record {
      some = omega (arith, length-append k ((record { owner = o; parent = None; children = []; label = l }) ∷ []), s.some);
      few = omega (arith, length-append k ((record { owner = o; parent = None; children = []; label = l }) ∷ []), room);
      top = c.parents body ∙ s.top;
      host = ap (λ (y : Entry). same_owner y.owner owner.Host) first ∙ s.host;
      element = ap (λ (y : Entry). is_text y.label) first ∙ s.element;
      fit = (labelled_renewed k m n l s c).fit;
      down = λ p x h. c.parents x ∙ s.down p x (subst (λ y. listed x y ≡ true) (c.children p) h);
      upward = λ x p h. subst (λ y. listed x y ≡ true) (sym (c.children p)) (s.upward x p (sym (c.parents x) ∙ h));
      owned = λ x p h.
          let u : (at k x).parent ≡ Some p = sym (c.parents x) ∙ h in
          let lt = parent_in k s x p u in
          let inside : x ≡ n → ⊥ = λ e. none_some p (sym (next_parent k) ∙ ap (λ y. (at k y).parent) (sym e) ∙ u) in
          ap (λ (y : Entry). same_owner y.owner (at m p).owner || eqb p body) (new_same k o l x inside) ∙ ap (λ (y : Entry). same_owner (at k x).owner y.owner || eqb p body) (new_same k o l p (λ e. omega (arith, e, lt))) ∙ s.owned x p u;
      once = λ x. ap distinct (c.children x) ∙ s.once x;
      texts = λ x h. ap length (c.children x) ∙ cases (λ b. eqb x n ≡ b → length (at k x).children ≡ 0) (eqb x n)
          (λ e _. ap (λ y. length (at k y).children) (eqb-true x n e) ∙ ap length (next_children k))
          (λ e _. s.texts x (ap (λ (y : Entry). is_text y.label) (sym (new_same k o l x (eqb-false x n e))) ∙ h)) refl;
    }

new_added : (k : List Entry) (o : Owner) (l : Label) → IsSound k → IsAdded k (with_node k o l) (length k) o (Node tt l End End)
new_added k o l s =
    let m = with_node k o l in
    let n = length k in
    let c = new_labelled k o l in
    let long = length-append k ((record { owner = o; parent = None; children = []; label = l }) ∷ []) in
    let t = (labelled_renewed k m n l s c).trees in
    record {
      number = refl;
      is_in = omega (arith, long);
      made = long;
      here = t n ∙ next_tree k l (tree k n) (shows_tree k s n);
      top = c.parents n ∙ next_parent k;
      own = λ x le lt.
          let e : x ≡ n = omega (arith, le, lt, long) in
          ap (λ y. (at m y).owner) e ∙ ap (λ (y : Entry). y.owner) (at_push k (record { owner = o; parent = None; children = []; label = l }) n ∙ ap (λ b. cond b (record { owner = o; parent = None; children = []; label = l }) (at k n)) (eq-eqb n n refl));
      older = record {
        long = omega (arith, long);
        same = λ x lt. new_same k o l x (λ e. omega (arith, e, lt));
        trees = λ x lt. t x ∙ relabelled_off n l (tree k x) (sym (not_has _ (top_not_in k s n x (next_parent k) (λ e. omega (arith, e, lt)))));
      };
    }

-- the whole call of `new_node`
pub node_written : (k m : List Entry) (o : Owner) (l : Label) (id : ℕ) → IsSound k → id ≡ length k → id < 2147483648 → m ≡ with_node k o l → IsSound m × IsAdded k m id o (Node tt l End End)
node_written k m o l id s eid room em = subst (λ y. IsSound y × IsAdded k y id o (Node tt l End End)) (sym em) (new_sound k o l s (omega (arith, eid, room)), subst (λ i. IsAdded k (with_node k o l) i o (Node tt l End End)) (sym eid) (new_added k o l s))

pub older_same : (k m : List Entry) → m ≡ k → Older k m
older_same k m e = subst (Older k) (sym e) (record { long = omega arith; same = λ x _. refl; trees = λ x _. refl })

pub older_then : (a k m : List Entry) → Older a k → Older k m → Older a m
older_then a k m h g = record {
  long = omega (arith, h.long, g.long);
  same = λ x lt. g.same x (omega (arith, lt, h.long)) ∙ h.same x lt;
  trees = λ x lt. g.trees x (omega (arith, lt, h.long)) ∙ h.trees x lt;
}

-- what was there before is the beginning
pub older_take : (a m : List Entry) → length a ≤ length m → ((x : ℕ) → x < length a → at m x ≡ at a x) → take (length a) m ≡ a
older_take [] m le same = refl
older_take (x ∷ a) [] le same = absurd (omega (arith, le))
older_take (x ∷ a) (y ∷ m) le same = ap (λ z. z ∷ take (length a) m) (same 0 (omega arith)) ∙ ap (λ l. x ∷ l) (older_take a m (omega (arith, le)) (λ i lt. same (suc i) (omega (arith, lt))))

-- numbers go on
pub numbered_beside : (n : ℕ) (a b : PlainTrees) → numbered n (beside a b) ≡ beside (numbered n a) (numbered (n + size a) b)
numbered_beside n End b = let e : n ≡ n + 0 = omega arith in ap (λ q. numbered q b) e
numbered_beside n (Node m l ks ts) b =
    let e : n + 1 + size ks + size ts ≡ n + (size ks + size ts + 1) = omega arith in
    ap (Node n l (numbered (n + 1) ks)) (numbered_beside (n + 1 + size ks) ts b ∙ ap (λ q. beside (numbered (n + 1 + size ks) ts) (numbered q b)) e)

pub height_numbered : (n : ℕ) (a : PlainTrees) → height (numbered n a) ≡ height a
height_numbered n End = refl
height_numbered n (Node m l ks ts) = omega (arith, height_numbered (n + 1) ks, height_numbered (n + 1 + size ks) ts)

put_last : (us ts : Trees ℕ) → put_before None us ts ≡ beside ts us
put_last us End = refl
put_last us (Node m l ks ts) = ap (Node m l ks) (put_last us ts)

-- two grafts at one node
graft_twice : (t : ℕ) (us vs ts : Trees ℕ) → has t us ≡ false → grafted t None vs (grafted t None us ts) ≡ grafted t None (beside us vs) ts
graft_twice t us vs End h = refl
graft_twice t us vs (Node m l ks ts) h =
    let a = graft_twice t us vs ks h in
    let g : Trees ℕ → Trees ℕ = grafted t None vs in
    ap (λ y. Node m l (cond (eqb m t) (put_before None vs (g (cond (eqb m t) (put_before None us (grafted t None us ks)) (grafted t None us ks)))) (g (cond (eqb m t) (put_before None us (grafted t None us ks)) (grafted t None us ks)))) y) (graft_twice t us vs ts h)
    ∙ ap (λ y. Node m l y (grafted t None (beside us vs) ts)) (cases (λ c. cond c (put_before None vs (g (cond c (put_before None us (grafted t None us ks)) (grafted t None us ks)))) (g (cond c (put_before None us (grafted t None us ks)) (grafted t None us ks))) ≡ cond c (put_before None (beside us vs) (grafted t None (beside us vs) ks)) (grafted t None (beside us vs) ks)) (eqb m t)
    (λ _. put_last vs (g (put_before None us (grafted t None us ks)))
    ∙ ap (λ y. beside (g y) vs) (put_last us (grafted t None us ks))
    ∙ ap (λ y. beside y vs) (grafted_beside (grafted t None us ks) us ∙ ap (beside (g (grafted t None us ks))) (grafted_off t None vs us h))
    ∙ beside_assoc (g (grafted t None us ks)) us vs
    ∙ ap (λ y. beside y (beside us vs)) a
    ∙ sym (put_last (beside us vs) (grafted t None (beside us vs) ks)))
    (λ _. a))
  where
    grafted_beside : (a b : Trees ℕ) → grafted t None vs (beside a b) ≡ beside (grafted t None vs a) (grafted t None vs b)
    grafted_beside End b = refl
    grafted_beside (Node m2 l2 ks2 ts2) b = ap (Node m2 l2 (cond (eqb m2 t) (put_before None vs (grafted t None vs ks2)) (grafted t None vs ks2))) (grafted_beside ts2 b)

grafted_end : (t : ℕ) (ts : Trees ℕ) → grafted t None End ts ≡ ts
grafted_end t End = refl
grafted_end t (Node m l ks ts) =
    let a = grafted_end t ks in
    ap (λ y. Node m l y (grafted t None End ts)) (cases (λ c. cond c (put_before None End (grafted t None End ks)) (grafted t None End ks) ≡ ks) (eqb m t) (λ _. put_last End (grafted t None End ks) ∙ beside_end (grafted t None End ks) ∙ a) (λ _. a)) ∙ ap (Node m l ks) (grafted_end t ts)

-- the loop: what is still to be linked completes the tree
pub record Growing (a k : List Entry) (id : ℕ) (o : Owner) (i : ℕ) (p : PlainTrees) (items : List Plain) : Type 0 where
  pub older : Older a k
  pub number : id ≡ length a
  pub is_in : id < length k
  pub here : grafted id None (numbered (length k) (unplaced_all (drop i items))) (tree k id) ≡ numbered id p
  pub counted : length k + size (unplaced_all (drop i items)) ≡ length a + size p
  pub top : (at k id).parent ≡ None
  pub own : (x : ℕ) → length a ≤ x → x < length k → (at k x).owner ≡ o
  pub element : is_text (at k id).label ≡ false

abbrev pub top_label : Trees ℕ → Label
top_label End = TextOf []
top_label (Node m l ks ts) = l

pub growing_start : (a k : List Entry) (id : ℕ) (o : Owner) (tag : List ℕ) (attributes : List (List ℕ × List ℕ)) (p : PlainTrees) (ps items : List Plain) → IsAdded a k id o (Node tt (ElementOf tag attributes) End End) → p ≡ Node tt (ElementOf tag attributes) (unplaced_all ps) End → items ≡ ps → Growing a k id o 0 p items
growing_start a k id o tag attributes p ps items g e ei =
    let l = ElementOf tag attributes in
    let all = unplaced_all items in
    let e2 : p ≡ Node tt l all End = e ∙ ap (λ y. Node tt l (unplaced_all y) End) (sym ei) in
    let el : length k ≡ id + 1 = omega (arith, g.made, g.number) in
    record {
      older = g.older;
      number = g.number;
      is_in = g.is_in;
      here = ap (grafted id None (numbered (length k) all)) g.here
          ∙ ap (λ c. Node id l (cond c (numbered (length k) all) End) End) (eq-eqb id id refl)
          ∙ ap (λ q. Node id l (numbered q all) End) el
          ∙ ap (numbered id) (sym e2);
      counted = omega (arith, g.made, ap size e2);
      top = g.top;
      own = g.own;
      element = ap (λ t. is_text (top_label t)) g.here;
    }

next_of : (items : List Plain) (i : ℕ) (child : Plain) → i < length items → child ≡ get_or items i child → unplaced_all (drop i items) ≡ beside (unplaced child) (unplaced_all (drop (i + 1) items))
next_of items i child lt e = at_drop_more unplaced_all items i child lt ∙ unplaced_first (get_or items i child) (drop (i + 1) items) ∙ ap (λ q. beside (unplaced q) (unplaced_all (drop (i + 1) items))) (sym e)

pub may_hang : (a k m : List Entry) (id : ℕ) (o : Owner) (c i : ℕ) (p : PlainTrees) (child : Plain) (items : List Plain) → IsSound a → IsSound m → Growing a k id o i p items → height (unplaced child) + 1 ≤ limit → IsAdded k m c o (unplaced child) → MayLink m id c
may_hang a k m id o c i p child items sa sm g low h =
    let same : at m id ≡ at k id = h.older.same id g.is_in in
    let up : (at m id).parent ≡ None = ap (λ (y : Entry). y.parent) same ∙ g.top in
    record {
      other = λ e. omega (arith, e, h.number, g.older.long, sa.some);
      top = h.top;
      apart = sym (not_has _ (top_not_in m sm id c up (λ q. omega (arith, q, h.number, g.is_in))));
      low = λ x ne. omega (arith, level_top m sm id (λ q u. absurd (none_some q (sym up ∙ u))) (x ∷ []) (tree m x) (shows_tree m sm x) (without_body m sm x ne), ap height h.here, height_numbered c (unplaced child), low);
      owner = same_or (at m c).owner (at m id).owner (eqb id body) (h.own c (omega (arith, h.number)) h.is_in ∙ sym (ap (λ (y : Entry). y.owner) same ∙ g.own id (omega (arith, g.number)) g.is_in));
      takes = ap (λ (y : Entry). is_text y.label) same ∙ g.element;
    }

pub growing_step : (a k m m2 : List Entry) (id : ℕ) (o : Owner) (c i : ℕ) (p : PlainTrees) (child : Plain) (items : List Plain) → IsSound a → IsSound m → Growing a k id o i p items → i < length items → child ≡ get_or items i child → height (unplaced child) + 1 ≤ limit → IsAdded k m c o (unplaced child) → IsLinked m m2 id None c → Growing a m2 id o (i + 1) p items
growing_step a k m m2 id o c i p child items sa sm g lt e low h j =
    let may = may_hang a k m id o c i p child items sa sm g low h in
    let us = unplaced child in
    let rest = unplaced_all (drop (i + 1) items) in
    let next : unplaced_all (drop i items) ≡ beside us rest = next_of items i child lt e in
    let made : length m2 ≡ length k + size us = j.kept.made ∙ h.made in
    let same : at m id ≡ at k id = h.older.same id g.is_in in
    let up : (at m id).parent ≡ None = ap (λ (y : Entry). y.parent) same ∙ g.top in
    let not_c : id ≡ c → ⊥ = λ q. omega (arith, q, h.number, g.is_in) in
    let part : tree m2 id ≡ grafted id None (tree m c) (tree k id) = j.trees id ∙ ap (grafted id None (tree m c)) (h.older.trees id g.is_in) in
    record {
      older = record {
        long = omega (arith, g.older.long, h.older.long, j.kept.made);
        same = λ x lx. j.others x (λ q. omega (arith, q, g.number, lx)) (λ q. omega (arith, q, h.number, g.older.long, lx)) ∙ h.older.same x (omega (arith, lx, g.older.long)) ∙ g.older.same x lx;
        trees = λ x lx. j.trees x ∙ grafted_off id None (tree m c) (tree m x) (sym (not_has _ (top_not_in m sm id x up (λ q. omega (arith, q, g.number, lx))))) ∙ h.older.trees x (omega (arith, lx, g.older.long)) ∙ g.older.trees x lx;
      };
      number = g.number;
      is_in = omega (arith, g.is_in, h.older.long, j.kept.made);
      here = ap (grafted id None (numbered (length m2) rest)) part
          ∙ graft_twice id (tree m c) (numbered (length m2) rest) (tree k id) may.apart
          ∙ ap (λ y. grafted id None (beside y (numbered (length m2) rest)) (tree k id)) (h.here ∙ ap (λ q. numbered q us) h.number)
          ∙ ap (λ q. grafted id None (beside (numbered (length k) us) (numbered q rest)) (tree k id)) made
          ∙ ap (λ y. grafted id None y (tree k id)) (sym (numbered_beside (length k) us rest) ∙ ap (numbered (length k)) (sym next))
          ∙ g.here;
      counted = omega (arith, made, ap size next, size_both us rest, g.counted);
      top = j.parents id ∙ ap (λ b. cond b (Some id) (at m id).parent) (ne_eqb id c not_c) ∙ up;
      own = λ x le lx. j.kept.owners x ∙ ⊎_elim
          (λ l. ap (λ (y : Entry). y.owner) (h.older.same x l) ∙ g.own x le l)
          (λ l. h.own x l (omega (arith, lx, j.kept.made)))
          (cases_lt x (length k));
      element = ap is_text (j.kept.labels id) ∙ ap (λ (y : Entry). is_text y.label) same ∙ g.element;
    }

pub growing_done : (a k : List Entry) (id : ℕ) (o : Owner) (i : ℕ) (p : PlainTrees) (items : List Plain) → Growing a k id o i p items → length items ≤ i → IsAdded a k id o p
growing_done a k id o i p items g le =
    let last : unplaced_all (drop i items) ≡ End = at_drop_all unplaced_all items i le in
    record {
      number = g.number;
      is_in = g.is_in;
      made = omega (arith, ap size last, g.counted);
      here = sym (grafted_end id (tree k id)) ∙ ap (λ y. grafted id None (numbered (length k) y) (tree k id)) (sym last) ∙ g.here;
      top = g.top;
      own = g.own;
      older = g.older;
    }

-- after a refusal the new nodes are taken away
pub taken_back : (k m : List Entry) (n : ℕ) → n ≡ length k → Older k m → take n m ≡ k
taken_back k m n e h = ap (λ q. take q m) e ∙ older_take k m h.long h.same
