-- A widget's nodes, one node of the page more at a time.
use Rattle.std.proofs.Common.{◌≡◌, ℕ, zero, suc, ◌+◌, ◌<◌, List, [], ◌∷◌, ◌++◌, length, take, refl, sym, ap, ◌∙◌, append_assoc, append-nil, add-one, arith, Bool, true, false, if◌then◌else◌}
use Rattle.std.specs.List.{flat_map}
use Rattle.std.proofs.lemmas.List.Concat.{flat_map-append}
use Rattle.code_units.specs.declared.owner.Owner.TheVariants as owner
use Rattle.page_nodes.specs.Entries.{Entry}
use Rattle.page_nodes.specs.Owners.{same_owner}
use Rattle.page_tree.specs.declared.page.Page.{Page}
use Rattle.page_tree.specs.Pages.{nodes}
use Rattle.page_image.specs.Image.{own}
use Rattle.page_image.specs.Own.{is_own, own_nodes, own_nodes_from}

own_more : (es : List Entry) (w a k : ℕ) → k < length es → own_nodes_from a (take (suc k) es) w ≡ own_nodes_from a (take k es) w ++ (if is_own es w k then (a + k) ∷ [] else [])
own_more [] w a k lt = absurd (omega (arith, lt))
own_more (e ∷ es) w a zero lt = let none : a + 0 ≡ a = omega arith in rw none refl
own_more (e ∷ es) w a (suc k) lt =
    let place : a + 1 + k ≡ a + suc k = omega arith in
    by (same_owner e.owner (owner.Widget w)) (own_more es w (a + 1) k (omega (arith, lt)) ∙ ap (λ n. own_nodes_from (a + 1) (take k es) w ++ (if is_own es w k then n ∷ [] else [])) place)
  where
    by : (b : Bool) → own_nodes_from (a + 1) (take (suc k) es) w ≡ own_nodes_from (a + 1) (take k es) w ++ (if is_own es w k then (a + suc k) ∷ [] else [])
        → (if b then a ∷ own_nodes_from (a + 1) (take (suc k) es) w else own_nodes_from (a + 1) (take (suc k) es) w) ≡ (if b then a ∷ own_nodes_from (a + 1) (take k es) w else own_nodes_from (a + 1) (take k es) w) ++ (if is_own es w k then (a + suc k) ∷ [] else [])
    by true rest = ap (λ l. a ∷ l) rest
    by false rest = rest

pub more_nodes : {R : Type 0} (g : ℕ → List R) (es : List Entry) (w k : ℕ) (old mid new : List R) → k < length es → mid ≡ old ++ flat_map g (own_nodes (take k es) w) → new ≡ mid ++ (if is_own es w k then flat_map g (k ∷ []) else []) → new ≡ old ++ flat_map g (own_nodes (take (k + 1) es) w)
more_nodes {R} g es w k old mid new lt front more =
    let none : 0 + k ≡ k = omega arith in
    let step : own_nodes (take (suc k) es) w ≡ own_nodes (take k es) w ++ (if is_own es w k then k ∷ [] else []) = own_more es w 0 k lt ∙ ap (λ n. own_nodes (take k es) w ++ (if is_own es w k then n ∷ [] else [])) none in
    rw add-one (more ∙ ap (λ l. l ++ (if is_own es w k then flat_map g (k ∷ []) else [])) front ∙ append_assoc old (flat_map g (own_nodes (take k es) w)) (if is_own es w k then flat_map g (k ∷ []) else []) ∙ ap (λ l. old ++ l) (one (is_own es w k) (own_nodes (take k es) w) ∙ ap (flat_map g) (sym step)))
  where
    one : (b : Bool) (front : List ℕ) → flat_map g front ++ (if b then flat_map g (k ∷ []) else []) ≡ flat_map g (front ++ (if b then k ∷ [] else []))
    one true front = sym (flat_map-append g front (k ∷ []))
    one false front = append-nil (flat_map g front) ∙ ap (flat_map g) (sym (append-nil front))

pub own_is : (p : Page) (w : ℕ) → own p w ≡ own_nodes (nodes p) w
unfolding own
own_is p w = refl
