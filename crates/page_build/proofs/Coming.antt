-- Trees come that stand under nothing.
use Rattle.std.proofs.Common.{◌≡◌, ◌≢◌, ℕ, ◌<◌, true, false, sym, ap, ◌∙◌, subst, length, arith, None, Some}
use Rattle.std.specs.Prelude.{is_some}
use Rattle.std.proofs.lemmas.Bool.{ltb-true}
use Rattle.code_units.specs.declared.owner.Owner.{Owner}
use Rattle.code_units.specs.declared.owner.Owner.TheVariants as owner
use Rattle.plain_tree.specs.Trees.{PlainTrees, unmarked}
use Rattle.tree_ops.proofs.Numbers.{numbered_shape}
use Rattle.page_nodes.specs.Adds.{IsAdded, Older}
use Rattle.page_nodes.specs.Entries.{at, body, tree}
use Rattle.page_nodes.specs.Owners.{is_owner, same_owner}
use Rattle.page_tree.specs.declared.page.Page.{Page}
use Rattle.page_tree.specs.Pages.{BecomesRoot, MayBeRoot, SameRoots, nodes, root}
use Rattle.page_image.specs.Image.{forest, owns, root_of}
use Rattle.page_image.specs.Stays.{GetsRoot, HostStays, KeepsNodes, OthersStay}
use Rattle.page_image.proofs.Adopting.{NewRoot, gets_root, root_image, root_others}
use Rattle.page_image.proofs.Hosting.{host_same, host_then}
use Rattle.page_image.proofs.Pages.{all_keep, all_stay, is_widget}
use Rattle.page_build.specs.Homes.{IsAway, IsHome, IsOneTree}
use Rattle.page_build.specs.Layout.{IsMarkup}
use Rattle.page_build.specs.Standing.{HostJoins, IsSamePage, IsSpare, Joins}
use Rattle.page_build.proofs.Homes.{grown, home_is, is_free, is_mine, is_top}
use Rattle.page_build.proofs.Laid.{same_plain}
use Rattle.page_build.proofs.Stands.{none_some}

no_true : false ≡ true → ⊥
no_true e = cc

-- ## Nothing comes

older_same : (p q : Page) → nodes q ≡ nodes p → Older (nodes p) (nodes q)
older_same p q e = record { long = omega (arith, ap length e); same = λ x lt. ap (λ k. at k x) e; trees = λ x lt. ap (λ k. tree k x) e }

pub same_page : (p q : Page) → SameRoots p q → nodes q ≡ nodes p → IsSamePage p q
unfolding root_of
same_page p q same e = record { same = e; roots = λ v lt. same (owner.Widget v) (is_widget v lt) }

module _ (p q : Page) (s : IsSamePage p q) where
  roots_same : SameRoots p q
  unfolding root_of
  roots_same o is = of o is
    where
      of : (o : Owner) → is_owner o ≡ true → root q o ≡ root p o
      of owner.Host h = q.rooted.host ∙ sym p.rooted.host
      of (owner.Widget v) h = s.roots v (ltb-true v 32 h)

  pub same_keeps : KeepsNodes p q
  same_keeps = all_keep p q roots_same s.same

  pub same_trees : (v : ℕ) → v < 32 → forest q v ≡ forest p v
  same_trees v lt = all_stay p q roots_same s.same v lt

  pub same_host : HostStays p q
  same_host = host_same p q s.same

  pub same_joins : (w : ℕ) → Joins w p q
  same_joins w = record {
    older = older_same p q s.same;
    owners = λ v n h. same_keeps.owners v n ∙ h;
    numbers = λ v n h. same_keeps.numbers v n;
    others = λ v ne. same_keeps.nodes v;
    trees = λ v lt ne. same_trees v lt;
    roots = λ v lt ne. s.roots v lt;
    host = same_host;
  }

  pub same_host_joins : HostJoins p q
  same_host_joins = record { older = older_same p q s.same; kept = same_keeps; trees = same_trees }

-- ## A tree of a widget comes, and becomes its root

-- its owner has no other
pub spare_may_be : (t : PlainTrees) → IsOneTree t → (w : ℕ) → w < 32 → (p r : Page) → IsAway p w → (id : ℕ) → SameRoots p r → IsAdded (nodes p) (nodes r) id (owner.Widget w) t → MayBeRoot r id
unfolding root_of
spare_may_be t one w lt p r away id roots added n f e =
    absurd (none_some n (sym (is_free t one w lt p r away id roots added) ∙ ap (root r) (sym (added.own id (omega (arith, added.number)) added.is_in)) ∙ e))

module _ (t : PlainTrees) (one : IsOneTree t) (w : ℕ) (lt : w < 32) (p r q : Page) (away : IsAway p w) (id : ℕ) (roots : SameRoots p r) (added : IsAdded (nodes p) (nodes r) id (owner.Widget w) t) (same : nodes q ≡ nodes r) (becomes : BecomesRoot r q id) where
  mine : owns r w id ≡ true
  mine = is_mine t one w lt p r away id roots added

  free : root_of r w ≡ None
  free = is_free t one w lt p r away id roots added

  new_root : NewRoot r q w id
  new_root = record {
    made = ap length same;
    owners = λ x. ap (λ k. (at k x).owner) same;
    parents = λ v x e ne off. ap (λ k. is_some (at k x).parent) same;
    trees = λ x ne. ap (λ k. tree k x) same;
    roots = becomes;
  }

  gets : GetsRoot r q w id
  gets = gets_root r q w id mine free new_root

  others : OthersStay r q w
  others = root_others r q w id mine free new_root

  pub spare_home : IsHome q w t
  spare_home = home_is t one w lt p r away id roots added q gets (root_image r q w id mine free new_root (is_top t one w lt p r away id roots added))

  pub spare_root : root_of q w ≡ Some id
  spare_root = gets.root

  pub spare_joins : Joins w p q
  spare_joins =
      let g = grown t one w lt p r away id roots added in
      record {
        older = subst (Older (nodes p)) (sym same) added.older;
        owners = λ v n h. gets.owners v n ∙ g.grows.2.owners v n h;
        numbers = λ v n h. gets.numbers v n ∙ g.grows.2.numbers v n h;
        others = λ v ne. gets.nodes v ∙ g.grows.2.others v ne;
        trees = λ v low ne. others v low ne ∙ g.others v low ne;
        roots = λ v low ne. gets.others v low ne ∙ g.grows.2.roots v low;
        host = host_then p r q g.host (host_same r q same);
      }

  pub spare_here : IsSpare q id
  unfolding root_of
  spare_here =
      let mine : (at (nodes q) id).owner ≡ owner.Widget w = ap (λ k. (at k id).owner) same ∙ added.own id (omega (arith, added.number)) added.is_in in
      record {
        is_in = omega (arith, added.is_in, ap length same);
        below = λ e. omega (arith, e, added.number, p.arena.sound.some);
        top = ap (λ k. (at k id).parent) same ∙ added.top;
        only = λ f. ap (root q) mine ∙ gets.root;
      }

-- ## A tree of the host comes

module _ (p q : Page) (id : ℕ) (t : PlainTrees) (c : IsAdded (nodes p) (nodes q) id owner.Host t) where
  hosts : (at (nodes q) id).owner ≡ owner.Host
  hosts = c.own id (omega (arith, c.number)) c.is_in

  not_body : id ≢ body
  not_body e = omega (arith, e, c.number, p.arena.sound.some)

  pub markup_here : IsMarkup q id t
  markup_here = record { is_in = c.is_in; below = not_body; hosts = hosts; shows = ap unmarked c.here ∙ numbered_shape id t ∙ same_plain t }

  pub host_spare : IsSpare q id
  host_spare = record { is_in = c.is_in; below = not_body; top = c.top; only = λ f. absurd (no_true (sym f ∙ ap (λ o. same_owner o owner.Host) hosts)) }
