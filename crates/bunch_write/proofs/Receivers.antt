-- The nodes of Bunches that are handed over.
use Rattle.std.proofs.Common.{◌≡◌, ℕ, List, true, sym, subst, Option, Some}
use Rattle.std.specs.Prelude.{IfSome}
use Rattle.std.specs.declared.vec.Vec.{Vec}
use Rattle.std.specs.declared.alloc.Global.{Global}
use Rattle.query_grammar.specs.Finds.{has_number}
use Rattle.page_tree.specs.declared.page.Page.{Page}
use Rattle.page_image.specs.Image.{owns}
use Rattle.native_image.specs.Sound.{AreNodes}

pub some_nodes : (p : Page) (w : ℕ) (o : Option (Vec ℕ Global)) (ns : Vec ℕ Global) (l : List ℕ) → o ≡ Some ns → l ≡ ns.items → IfSome o (λ v. AreNodes p w v.items) → AreNodes p w l
some_nodes p w o ns l e f h = subst (AreNodes p w) (sym f) (subst (λ u. IfSome u (λ v. AreNodes p w v.items)) e h)

pub some_own : (p : Page) (w : ℕ) (o : Option (Vec ℕ Global)) (ns : Vec ℕ Global) (l : List ℕ) → o ≡ Some ns → l ≡ ns.items → IfSome o (λ v. AreNodes p w v.items) → (n : ℕ) → has_number l n ≡ true → owns p w n ≡ true
some_own p w o ns l e f h = (some_nodes p w o ns l e f h).own
