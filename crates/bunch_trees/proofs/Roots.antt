-- Nodes that come under the root, and the Bunch of it.
use Rattle.std.proofs.Common.{◌≡◌, ℕ, List, [], ◌∷◌, Bool, true, false, refl, sym, subst, ap, ◌∙◌, map, length, Option, None, Some}
use Rattle.std.specs.Prelude.{◌&&◌, IfSome}
use Rattle.std.specs.List.{fold, list_all}
use Rattle.std.specs.declared.vec.Vec.{Vec}
use Rattle.std.specs.declared.alloc.Global.{Global}
use Rattle.js_tree.specs.Forest.{Forest}
use Rattle.query_grammar.specs.Finds.{has_number}
use Rattle.store_cells.specs.declared.value.Value.{Value as StoreValue}
use Rattle.store_cells.specs.Cells.{Cells}
use Rattle.widget_meaning.specs.BunchReads.{with_bunch}
use Rattle.widget_meaning.specs.BunchWrites.{appended}
use Rattle.widget_meaning.specs.Costs.{with_counts}
use Rattle.widget_meaning.specs.OwnState.{Amounts, State, new_bunch, with_forest, with_new_cell}
use Rattle.widget_meaning.specs.PageForms.{root}
use Rattle.widget_meaning.specs.Trees.{moved}
use Rattle.widget_meaning.specs.Values.{Own, Value}
use Rattle.page_tree.specs.declared.page.Page.{Page}
use Rattle.page_image.specs.Image.{forest, number, owns}
use Rattle.page_image.specs.Stays.{KeepsNodes}
use Rattle.event_loop.specs.declared.around.Loop.{Loop}
use Rattle.js_image.specs.Image.{seen}
use Rattle.native_image.specs.Image.{Outside, beside, image}
use Rattle.native_image.specs.Made.{AreBunches}
use Rattle.native_image.specs.Sound.{AreNodes}
use Rattle.native_image.proofs.Joint.{page_lift}

-- the nodes of a Bunch that was read are the widget's
pub some_own : (p : Page) (w : ℕ) (o : Option (Vec ℕ Global)) (ns : Vec ℕ Global) (l : List ℕ) → o ≡ Some ns → l ≡ ns.items → IfSome o (λ v. AreNodes p w v.items) → (n : ℕ) → has_number l n ≡ true → owns p w n ≡ true
some_own p w o ns l e f h = (subst (AreNodes p w) (sym f) (subst (λ u. IfSome u (λ v. AreNodes p w v.items)) e h)).own

pub some_nodes : (p : Page) (w : ℕ) (o : Option (Vec ℕ Global)) (ns : Vec ℕ Global) (l : List ℕ) → o ≡ Some ns → l ≡ ns.items → IfSome o (λ v. AreNodes p w v.items) → AreNodes p w l
some_nodes p w o ns l e f h = subst (AreNodes p w) (sym f) (subst (λ u. IfSome u (λ v. AreNodes p w v.items)) e h)

-- nodes under the root, and then a Bunch of it
abbrev pub with_root_bunch : List ℕ → State → State
with_root_bunch ms u = with_new_cell (appended (root ∷ []) ms u) (new_bunch (root ∷ []))

module _ (w : ℕ) (s t : Cells) (p r : Page) (n : ℕ) (news : List ℕ) (v : StoreValue) (first : number p w n ≡ 0) (keeps : KeepsNodes p r) (put : forest r w ≡ fold (moved (number p w n) None) (forest p w) (map (number p w) news)) (l : Loop) (made : AreBunches w s t r l (number r w n ∷ []) (v ∷ [])) where
  pub root_comes : (fs : List Forest) (x : Outside) (b : Option Bool) (c : Amounts) → with_counts (image fs x w (beside t r l b)) c ≡ with_root_bunch (map (number p w) news) (with_counts (image fs x w (beside s p l b)) c)
  root_comes fs x b c =
      let lift = page_lift w fs x s p r l b keeps ∙ ap (with_forest (image fs x w (beside s p l b))) (put ∙ ap (λ k. fold (moved k None) (forest p w) (map (number p w) news)) first) in
      let zero = keeps.numbers w n ∙ first in
      made.state fs x b c ∙ (λ j. with_bunch (with_counts (lift j) c) (zero j))

  head_of : {a b : Value} → a ∷ [] ≡ b ∷ [] → a ≡ b
  head_of e = cc

  pub root_seen : (fs : List Forest) (x : Outside) (b : Option Bool) → seen w t.cells v ≡ Own (length (image fs x w (beside s p l b)).own.heap)
  root_seen fs x b = head_of (made.values fs x b) ∙ ap (λ (u : State). Own (length u.own.heap)) (page_lift w fs x s p r l b keeps)

pub head_number : {a b : ℕ} → a ∷ [] ≡ b ∷ [] → a ≡ b
head_number e = cc

-- one target alone
pub alone_all : (p : ℕ → Bool) (n : ℕ) (b : Bool) → n ≡ 0 → p n ≡ b → list_all p (root ∷ []) ≡ b
alone_all p n b e h = ap (λ a. a && true) (ap p (sym e) ∙ h) ∙ by b
  where
    by : (b : Bool) → (b && true) ≡ b
    by true = refl
    by false = refl
