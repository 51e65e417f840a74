-- The order and the weight of the stack, and what is open above it.
use Rattle.std.proofs.Common.{◌≡◌, ℕ, zero, suc, ◌+◌, ◌≤◌, List, [], ◌∷◌, ◌++◌, refl, ap, ◌∙◌, inl, inr, arith, length, take}
use Rattle.std.specs.Prelude.{map}
use Rattle.js_tree.specs.declared.nodes.Part.{Part}
use Rattle.js_tree.specs.Forest.{Forest}
use Rattle.js_tree.specs.Parts.{spot_at, IsIn, spots_size}
use Rattle.first_breach.specs.Lists.{In, here, later}
use Rattle.first_breach.proofs.Members.{in_front, in_back, in_split, in_none, in_unmap, map_append}
use Rattle.node_rules.specs.declared.pushes.Work.{Work}
use Rattle.node_rules.specs.Work.{at_depth}
use Rattle.adsafe_rules.specs.Walk.{Rises, AreIn, tree_of, load}
use Rattle.node_rules.proofs.Sizes.{spots_append}

pub all_in : (f : Forest) (ps : List Part) → AreIn f ps → (p : Part) → In p ps → IsIn f p
all_in f [] h p i = absurd (in_none i)
all_in f (x ∷ ps) h p here = h.0
all_in f (x ∷ ps) h p (later i) = all_in f ps h.1 p i

pub take_less : {A : Type 0} (k d : ℕ) (xs : List A) → k ≤ d → take k (take d xs) ≡ take k xs
take_less zero d xs h = refl
take_less (suc k) zero xs h = absurd (omega arith)
take_less (suc k) (suc d) [] h = refl
take_less (suc k) (suc d) (x ∷ xs) h = ap (λ l. x ∷ l) (take_less k d xs (omega arith))

pub length_take : {A : Type 0} (d : ℕ) (xs : List A) → d ≤ length xs → length (take d xs) ≡ d
length_take zero xs h = refl
length_take (suc d) [] h = absurd (omega arith)
length_take (suc d) (x ∷ xs) h = omega (arith, length_take d xs (omega arith))

pub take_front : {A : Type 0} (d : ℕ) (xs ys : List A) → length xs ≡ d → take d (xs ++ ys) ≡ xs
take_front zero [] ys h = refl
take_front zero (x ∷ xs) ys h = absurd (omega arith)
take_front (suc d) [] ys h = absurd (omega arith)
take_front (suc d) (x ∷ xs) ys h = ap (λ l. x ∷ l) (take_front d xs ys (omega arith))

pub rises_front : (ws vs : List Work) → Rises (ws ++ vs) → Rises ws
rises_front [] vs h = tt
rises_front (w ∷ ws) vs h = ((λ v i. h.0 v (in_front vs i)), rises_front ws vs h.1)

pub rises_last : (ws : List Work) (w : Work) → Rises (ws ++ w ∷ []) → (v : Work) → In v ws → v.depth ≤ w.depth
rises_last [] w h v i = absurd (in_none i)
rises_last (x ∷ ws) w h v here = h.0 w (in_back ws here)
rises_last (x ∷ ws) w h v (later i) = rises_last ws w h.1 v i

pub level : (d : ℕ) (ps : List Part) (v : Work) → In v (map (at_depth d) ps) → d ≡ v.depth
level d ps v i = let m = in_unmap (at_depth d) ps i in ap (λ (x : Work). x.depth) m.same

pub rises_level : (d : ℕ) (ps : List Part) → Rises (map (at_depth d) ps)
rises_level d [] = tt
rises_level d (p ∷ ps) = ((λ v i. omega (arith, level d ps v i)), rises_level d ps)

pub rises_both : (ws vs : List Work) → Rises ws → Rises vs → ((w v : Work) → In w ws → In v vs → w.depth ≤ v.depth) → Rises (ws ++ vs)
rises_both [] vs h k o = k
rises_both (w ∷ ws) vs h k o = (
  (λ v i. elim (in_split ws vs i) [ inl j ↦ h.0 v j | inr j ↦ o w v here j ]),
  rises_both ws vs h.1 k (λ x v i j. o x v (later i) j),
)

pub trees_at : (f : Forest) (d : ℕ) (ps : List Part) → map (tree_of f) (map (at_depth d) ps) ≡ map (spot_at f) ps
trees_at f d [] = refl
trees_at f d (p ∷ ps) = ap (λ l. spot_at f p ∷ l) (trees_at f d ps)

pub load_append : (f : Forest) (ws vs : List Work) → load f (ws ++ vs) ≡ load f ws + load f vs
load_append f ws vs = ap spots_size (map_append (tree_of f) ws vs) ∙ spots_append (map (tree_of f) ws) (map (tree_of f) vs)
