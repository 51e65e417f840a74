-- Trees that are numbered say no more than the same trees without marks.
use Rattle.std.proofs.Common.{◌≡◌, ℕ, ◌+◌, refl, sym, ap, ◌∙◌}
use Rattle.plain_tree.specs.Trees.{End, Node, PlainTrees, Trees, size, unmarked}
use Rattle.tree_ops.specs.Trees.{numbered}
use Rattle.tree_ops.proofs.Numbers.{numbered_shape}
use Rattle.page_tree.specs.declared.page.Page.{Page}
use Rattle.page_build.specs.Homes.{IsHome}
use Rattle.page_load.specs.Lives.{HasTree}

module _ {M : Type 0} where
  size_plain : (ts : Trees M) → size (unmarked ts) ≡ size ts
  size_plain End = refl
  size_plain (Node m l ks ts) = λ j. size_plain ks j + size_plain ts j + 1

  pub numbered_plain : (n : ℕ) (ts : Trees M) → numbered n (unmarked ts) ≡ numbered n ts
  numbered_plain n End = refl
  numbered_plain n (Node m l ks ts) =
      ap (λ k. Node n l k (numbered (n + 1 + size (unmarked ks)) (unmarked ts))) (numbered_plain (n + 1) ks)
      ∙ ap (λ s. Node n l (numbered (n + 1) ks) (numbered (n + 1 + s) (unmarked ts))) (size_plain ks)
      ∙ ap (Node n l (numbered (n + 1) ks)) (numbered_plain (n + 1 + size ks) ts)

numbered_twice : (ts : PlainTrees) → numbered 0 (numbered 0 ts) ≡ numbered 0 ts
numbered_twice ts = sym (numbered_plain 0 (numbered 0 ts)) ∙ ap (numbered 0) (numbered_shape 0 ts) ∙ numbered_plain 0 ts

size_numbered : (ts : PlainTrees) → size (numbered 0 ts) ≡ size ts
size_numbered ts = sym (size_plain (numbered 0 ts)) ∙ ap size (numbered_shape 0 ts) ∙ size_plain ts

-- a widget that is at home has its tree
pub home_tree : (p : Page) (w : ℕ) (tree : PlainTrees) → IsHome p w tree → HasTree p w
home_tree p w tree h = record {
  home = h.home;
  trees = ap (numbered 0) h.trees ∙ numbered_twice tree ∙ sym h.trees;
  nodes = h.nodes ∙ sym (ap size h.trees ∙ size_numbered tree);
}
