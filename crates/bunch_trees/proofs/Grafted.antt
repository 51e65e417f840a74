-- Nodes that come under others, as the widget's state has it.
use Rattle.std.proofs.Common.{◌≡◌, ℕ, ◌+◌, ◌<◌, List, [], ◌∷◌, ◌++◌, Bool, true, refl, sym, ap, ◌∙◌, map, length, Option, None}
use Rattle.std.specs.List.{fold}
use Rattle.std.proofs.lemmas.List.{length-map}
use Rattle.js_tree.specs.Forest.{Forest}
use Rattle.plain_tree.specs.Trees.{End, Node, Trees, size}
use Rattle.tree_ops.specs.Trees.{copied, grafted, numbered}
use Rattle.store_cells.specs.Cells.{Cells}
use Rattle.object_store.specs.Owned.{owned}
use Rattle.widget_meaning.specs.BunchWrites.{appended, with_copies}
use Rattle.widget_meaning.specs.Costs.{with_counts}
use Rattle.widget_meaning.specs.OwnState.{Amounts, State, with_forest}
use Rattle.widget_meaning.specs.PageForms.{next_node, with_room}
use Rattle.widget_meaning.specs.Trees.{moved}
use Rattle.page_tree.specs.declared.page.Page.{Page}
use Rattle.page_image.specs.Copies.{AreCopied, trees_at}
use Rattle.page_image.specs.Image.{forest, number, own, owns}
use Rattle.page_image.specs.Stays.{KeepsNodes}
use Rattle.page_image.proofs.Copies.{copies_put}
use Rattle.event_loop.specs.declared.around.Loop.{Loop}
use Rattle.js_image.specs.Held.{Kept}
use Rattle.native_image.specs.Image.{Outside, beside, image}
use Rattle.native_image.specs.Sound.{HoldsOwn}
use Rattle.native_image.proofs.Joint.{page_lift}
use Rattle.native_image.proofs.Keeping.{holds_page, page_grows}
use Rattle.native_image.specs.Handed.{state}
use Rattle.native_image.proofs.Lifted.{grow_lift, owned_lift}

size_copies : (n : ℕ) (ts : Trees ℕ) → size ts ≡ size (numbered n (copied ts))
size_copies n End = refl
size_copies n (Node m l ks ts) = λ j. size_copies (n + 1) ks j + size_copies (n + 1 + size (copied ks)) ts j + 1

-- copies come under a target
pub copies_come : (w : ℕ) (lt : w < 32) (s t : Cells) (p r q : Page) (target : ℕ) (ns ids : List ℕ) → owns p w target ≡ true → AreCopied p r w ns ids → Kept [] w s t → owned w t ≡ owned w s → KeepsNodes r q → forest q w ≡ fold (moved (number r w target) None) (forest r w) (map (number r w) ids)
    → (l : Loop) → HoldsOwn w s p l → (fs : List Forest) (x : Outside) (b : Option Bool) (c : Amounts) → with_counts (image fs x w (beside t q l b)) c ≡ with_copies (number p w target) (map (number p w) ns) (with_counts (image fs x w (beside s p l b)) c)
copies_come w lt s t p r q target ns ids mine copies kept same keeps put l h fs x b c =
    let g = copies.grown in
    let k = number p w target in
    let u = with_counts (image fs x w (beside s p l b)) c in
    let trees = trees_at p w ns in
    let there = copies_put p r q w target ns ids copies mine put in
    let many : next_node u ≡ length (own p w) = length-map (own p w) _ in
    let held = holds_page w lt p r (page_grows w p r g.0 g.2 copies.others) s l h in
    ap (λ v. with_counts v c)
    (page_lift w fs x t r q l b keeps
    ∙ ap (λ v. with_forest v (forest q w)) (owned_lift w lt s t r l held kept fs x b same ∙ grow_lift w fs x s p r g.0 l b g.2 h))
    ∙ (λ j. with_room (g.1 j) (with_forest u (there j)))
    ∙ (λ j. with_room (size trees) (with_forest u (grafted k None (numbered (sym many j) (copied trees)) (forest p w))))
    ∙ ap (λ m. with_room m (with_forest u (grafted k None (numbered (next_node u) (copied trees)) (forest p w)))) (size_copies (next_node u) trees)

-- the last target gets the nodes themselves
pub appended_last : (ts : List ℕ) (t : ℕ) (ms : List ℕ) (s : State) → appended (ts ++ t ∷ []) ms s ≡ (let u = fold (λ v m. with_copies m ms v) s ts in with_forest u (fold (moved t None) u.own.forest ms))
appended_last [] t ms s = refl
appended_last (m ∷ []) t ms s = refl
appended_last (m ∷ n ∷ ts) t ms s = appended_last (n ∷ ts) t ms (with_copies m ms s)
