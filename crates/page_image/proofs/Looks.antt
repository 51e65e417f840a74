-- What is read of a page, at the image.
use Rattle.std.proofs.Common.{◌≡◌, ◌≢◌, ℕ, ◌+◌, List, Bool, true, false, refl, sym, ap, ◌∙◌, subst, map, length, eqb, cond, Option, Some, None, ◌<◌, arith}
use Rattle.std.specs.Prelude.{nat_eq}
use Rattle.code_units.specs.declared.owner.Owner.TheVariants as owner
use Rattle.plain_tree.specs.Trees.{height}
use Rattle.tree_ops.specs.Trees.{has, is_number, subtree, tops}
use Rattle.page_nodes.specs.Entries.{at, body, tree}
use Rattle.page_nodes.specs.Moves.{IsDepth}
use Rattle.page_nodes.specs.Owners.{is_owner}
use Rattle.page_nodes.proofs.Owners.{same_is}
use Rattle.page_tree.specs.declared.page.Page.{Page}
use Rattle.page_tree.specs.Counts.{count_of}
use Rattle.page_tree.specs.Pages.{nodes, root}
use Rattle.query_grammar.specs.Finds.{has_number}
use Rattle.query_grammar.specs.Renumbering.{renumbered}
use Rattle.widget_meaning.specs.Trees.{parent, children, subtrees, label_of, depth_of}
use Rattle.page_image.specs.Held.{OptionIn}
use Rattle.page_image.specs.Own.{own_number, page_forest}
use Rattle.page_image.specs.Image.{owns, number, own, root_of, forest, HasRoot}
use Rattle.page_image.proofs.Levels.{depth_there}
use Rattle.page_image.proofs.Looking.{label_own, stands_own, has_own, height_own, depth_own, children_own, tops_own, parent_own, owned_parent}
use Rattle.page_image.proofs.Kept.{nodes_count}
use Rattle.page_image.proofs.Lists.{has_listed}
use Rattle.page_image.proofs.Added.{number_all}
use Rattle.page_image.proofs.Numbers.{tell, lesser}
use Rattle.page_image.proofs.Pages.{owner_is}
use Rattle.page_image.proofs.Shown.{own_child, own_is_node, own_not_body}

-- the root of a widget is its own
pub root_owned : (p : Page) (w : ℕ) (home : HasRoot p w) → is_owner (owner.Widget w) ≡ true → owns p w home.root ≡ true
unfolding owns root_of
root_owned p w home is = p.rooted.own (owner.Widget w) home.root is home.is

-- the number of the root tells it
pub root_number : (p : Page) (w : ℕ) (home : HasRoot p w) (n : ℕ) → owns p w n ≡ true → nat_eq (number p w n) 0 ≡ eqb n home.root
unfolding owns number root_of
root_number p w home n h = ap (λ x. nat_eq (own_number (nodes p) w n) x) (sym home.first) ∙ tell (nodes p) w home.root n (p.rooted.own (owner.Widget w) home.root (owner_is p w n h) home.is) h

-- the root of a node's owner
pub same_widget : (p : Page) (w : ℕ) (home : HasRoot p w) (n : ℕ) → owns p w n ≡ true → root p (at (nodes p) n).owner ≡ Some home.root
unfolding owns root_of
same_widget p w home n h = ap (root p) (same_is (at (nodes p) n).owner (owner.Widget w) h) ∙ home.is

pub one_widget : (p : Page) (w t n : ℕ) → owns p w t ≡ true → owns p w n ≡ true → (at (nodes p) n).owner ≡ (at (nodes p) t).owner
unfolding owns
one_widget p w t n ht hn = same_is (at (nodes p) n).owner (owner.Widget w) hn ∙ sym (same_is (at (nodes p) t).owner (owner.Widget w) ht)

module _ (p : Page) (w n : ℕ) (h : owns p w n ≡ true) where
  pub label_at : label_of (number p w n) (forest p w) ≡ Some (at (nodes p) n).label
  unfolding owns number forest
  label_at = label_own (nodes p) p.arena.sound p.roots p.rooted w (root p (owner.Widget w)) (owner_is p w n h) refl n h

  pub stands_at : has (number p w n) (forest p w) ≡ true
  unfolding owns number forest
  stands_at = stands_own (nodes p) p.arena.sound p.roots p.rooted w (root p (owner.Widget w)) (owner_is p w n h) refl n h

  pub height_at : height (subtree (number p w n) (forest p w)) ≡ height (tree (nodes p) n)
  unfolding owns number forest
  height_at = height_own (nodes p) p.arena.sound p.roots p.rooted w (root p (owner.Widget w)) (owner_is p w n h) refl n h

  pub depth_at : IsDepth (nodes p) n (depth_of (number p w n) (forest p w) + 1)
  unfolding owns number forest
  depth_at = subst (λ d. IsDepth (nodes p) n d) (sym (depth_own (nodes p) p.arena.sound p.roots p.rooted w (root p (owner.Widget w)) (owner_is p w n h) refl n _ h there)) there
    where
      there : IsDepth (nodes p) n (depth_of n (page_forest (nodes p) (root p (owner.Widget w)) w) + 1)
      there = depth_there (nodes p) p.arena.sound p.roots p.rooted w (root p (owner.Widget w)) (owner_is p w n h) refl n h

  pub depth_told : (d : ℕ) → IsDepth (nodes p) n d → depth_of (number p w n) (forest p w) + 1 ≡ d
  unfolding owns number forest
  depth_told d c = depth_own (nodes p) p.arena.sound p.roots p.rooted w (root p (owner.Widget w)) (owner_is p w n h) refl n d h c

  pub children_at : children (number p w n) (forest p w) ≡ subtrees (map (number p w) (at (nodes p) n).children) (forest p w)
  unfolding owns number forest
  children_at = children_own (nodes p) p.arena.sound p.roots p.rooted w (root p (owner.Widget w)) (owner_is p w n h) refl n h

  pub tops_at : tops (children (number p w n) (forest p w)) ≡ map (number p w) (at (nodes p) n).children
  unfolding owns number forest
  tops_at = tops_own (nodes p) p.arena.sound p.roots p.rooted w (root p (owner.Widget w)) (owner_is p w n h) refl n h

  -- the parent: a root has none
  pub parent_none : (o : Option ℕ) (b : Bool) → o ≡ root p (owner.Widget w) → b ≡ is_number n o → b ≡ true → renumbered (number p w) None ≡ parent (number p w n) (forest p w)
  unfolding owns number forest
  parent_none o b e f t = sym (parent_own (nodes p) p.arena.sound p.roots p.rooted w (root p (owner.Widget w)) (owner_is p w n h) refl n h ∙ ap (λ c. renumbered (own_number (nodes p) w) (cond c None (at (nodes p) n).parent)) (sym (ap (is_number n) e) ∙ sym f ∙ t))

  pub parent_some : (o u : Option ℕ) (b : Bool) → o ≡ root p (owner.Widget w) → b ≡ is_number n o → b ≡ false → u ≡ (at (nodes p) n).parent → renumbered (number p w) u ≡ parent (number p w n) (forest p w)
  unfolding owns number forest
  parent_some o u b e f t g = ap (renumbered (own_number (nodes p) w)) g ∙ sym (parent_own (nodes p) p.arena.sound p.roots p.rooted w (root p (owner.Widget w)) (owner_is p w n h) refl n h ∙ ap (λ c. renumbered (own_number (nodes p) w) (cond c None (at (nodes p) n).parent)) (sym (ap (is_number n) e) ∙ sym f ∙ t))

  pub parent_mine : (o u : Option ℕ) (b : Bool) → o ≡ root p (owner.Widget w) → b ≡ is_number n o → b ≡ false → u ≡ (at (nodes p) n).parent → OptionIn (owns p w) u
  unfolding owns
  parent_mine o None b e f t g = tt
  parent_mine o (Some m) b e f t g = owned_parent (nodes p) p.arena.sound p.roots p.rooted w (root p (owner.Widget w)) (owner_is p w n h) refl n m h (ap (λ c. cond c None (at (nodes p) n).parent) (sym (ap (is_number n) e) ∙ sym f ∙ t) ∙ sym g)

pub has_at : (p : Page) (w t n : ℕ) → owns p w t ≡ true → owns p w n ≡ true → has (number p w t) (subtree (number p w n) (forest p w)) ≡ has t (tree (nodes p) n)
unfolding owns number forest
has_at p w t n ht hn = has_own (nodes p) p.arena.sound p.roots p.rooted w (root p (owner.Widget w)) (owner_is p w n hn) refl t n ht hn

-- a node other than the root is not its owner's root
pub some_same : (p : Page) (w n : ℕ) (home : HasRoot p w) → owns p w n ≡ true → n ≢ home.root → root p (at (nodes p) n).owner ≢ Some n
some_same p w n home h ne e = ne (some_is n home.root (sym e ∙ same_widget p w home n h))
  where
    some_is : (a b : ℕ) → ◌≡◌ {A = Option ℕ} (Some a) (Some b) → a ≡ b
    some_is a b h = cc

-- whether a node is the root
pub root_told : (p : Page) (w : ℕ) (home : HasRoot p w) (n : ℕ) → owns p w n ≡ true → (o : Option ℕ) (b : Bool) → o ≡ root p (owner.Widget w) → b ≡ is_number n o → b ≡ nat_eq (number p w n) 0
unfolding root_of
root_told p w home n h o b e f = f ∙ ap (is_number n) (e ∙ home.is) ∙ sym (root_number p w home n h)

-- the children are the widget's
pub child_owned : (p : Page) (w n : ℕ) → owns p w n ≡ true → (ns : List ℕ) → ns ≡ (at (nodes p) n).children → (c : ℕ) → has_number ns c ≡ true → owns p w c ≡ true
unfolding owns
child_owned p w n h ns e c l = own_child (nodes p) p.arena.sound w n c h (sym (has_listed c (at (nodes p) n).children) ∙ sym (ap (λ xs. has_number xs c) e) ∙ l)

-- how many nodes the widget has made
pub made_is : (p : Page) (w : ℕ) → count_of (owner.Widget w) (nodes p) ≡ length (own p w)
unfolding own
made_is p w = sym (nodes_count (nodes p) w 0)

-- own numbers tell nodes
pub told_apart : (p : Page) (w m n : ℕ) → owns p w m ≡ true → owns p w n ≡ true → eqb (number p w n) (number p w m) ≡ eqb n m
unfolding owns number
told_apart p w m n hm hn = tell (nodes p) w m n hm hn

-- own numbers are below the number of own nodes
pub number_low : (p : Page) (w n : ℕ) → owns p w n ≡ true → number p w n < length (own p w)
unfolding owns number own
number_low p w n h = omega (arith, lesser (nodes p) w n (length (nodes p)) h (own_is_node (nodes p) w n h), number_all (nodes p) w, nodes_count (nodes p) w 0)

-- a child is not the root
pub child_not_root : (p : Page) (w n : ℕ) (home : HasRoot p w) → owns p w n ≡ true → (c : ℕ) → has_number (at (nodes p) n).children c ≡ true → c ≢ home.root
unfolding owns root_of
child_not_root p w n home h c l e =
    own_not_body (nodes p) p.arena.sound w n h
    (p.rooted.high (owner.Widget w) home.root n (owner_is p w n h) home.is (sym (ap (λ x. (at (nodes p) x).parent) e) ∙ p.arena.sound.down n c (sym (has_listed c (at (nodes p) n).children) ∙ l)))

-- a widget's node is not the host's `body`
pub not_the_body : (p : Page) (w n : ℕ) → owns p w n ≡ true → n ≢ body
unfolding owns
not_the_body p w n h = own_not_body (nodes p) p.arena.sound w n h
