-- One list of lives is changed, or all.
use Rattle.std.proofs.Common.{◌≡◌, ℕ, ◌+◌, ◌<◌, Bool, true, false, if◌then◌else◌, nat_eq, List, [], ◌∷◌, ◌++◌, map, length, get_or, set, take, drop, refl, sym, ◌∙◌, ap, subst, arith}
use Rattle.std.proofs.lemmas.Bool.Decides.{nat_tests}
use Rattle.std.proofs.lemmas.List.{drop-drop, drop-set-lt, get_or-drop, get_or-map, get_or-set_other, get_or-set_same, length-map, map-set, map_more, take_at, take_more_set}
use Rattle.std.proofs.lemmas.List.FromFn.{fill_by_all}
use Rattle.std.specs.List.{range_with_len}
use Rattle.life_split.specs.declared.items.Life.{Life}

by_number : (ls : List (List Life)) (v w : ℕ) (g : List Life → List Life) (b : Bool) → nat_eq v w ≡ b → v < length ls → get_or (set ls v (g (get_or ls v []))) w [] ≡ (if b then g (get_or ls w []) else get_or ls w [])
by_number ls v w g true met in_v =
    let same : v ≡ w = grind (arith, nat_tests) in subst (λ n. get_or (set ls v (g (get_or ls v []))) n [] ≡ g (get_or ls n [])) same (get_or-set_same ls v (g (get_or ls v [])) [] in_v)
by_number ls v w g false differ in_v =
    get_or-set_other ls v w (g (get_or ls v [])) [] (λ same. let met : nat_eq v w ≡ true = grind (arith, nat_tests) in cc)

-- the lives of slot v are changed
pub set_at : {X : Type 0} (f : X → List Life) (xs : List X) (v w : ℕ) (g : List Life → List Life) (old new : X)
    → v < length xs → old ≡ get_or xs v old → f new ≡ g (f old) → get_or (map f (set xs v new)) w [] ≡ (if nat_eq v w then g (get_or (map f xs) w []) else get_or (map f xs) w [])
set_at f xs v w g old new in_v at is =
    ap (λ (ls : List (List Life)). get_or ls w []) (map-set f xs v new ∙ ap (set (map f xs) v) (is ∙ ap g (ap f at ∙ sym (get_or-map f xs v old [] in_v))))
    ∙ by_number (map f xs) v w g (nat_eq v w) refl (let len = length-map xs f in omega arith)

-- the lives of one slot after the other are changed
pub ended_more : {X : Type 0} (f : X → List Life) (g : List Life → List Life) (xs : List X) (ls : List (List Life)) (i : ℕ) (old new : X)
    → i < length xs → i < length ls → old ≡ get_or xs i old → f new ≡ g (f old) → take i (map f xs) ≡ map g (take i ls) → drop i (map f xs) ≡ drop i ls
    → take (i + 1) (map f (set xs i new)) ≡ map g (take (i + 1) ls)
ended_more f g xs ls i old new in_i in_ls at is so_far left =
    let there : i < length (map f xs) = (let len = length-map xs f in omega arith) in
    let first : get_or (map f xs) i [] ≡ get_or ls i [] =
    ap (λ n. get_or (map f xs) n []) (let e : i ≡ i + 0 = omega arith in e) ∙ (sym (get_or-drop i (map f xs) 0 []) ∙ (ap (λ (ls : List (List Life)). get_or ls 0 []) left ∙ (get_or-drop i ls 0 [] ∙ ap (λ n. get_or ls n []) (let e : i + 0 ≡ i = omega arith in e)))) in
    ap (take (i + 1)) (map-set f xs i new)
    ∙ (take_more_set (map f xs) i (f new) there
    ∙ ((λ k. so_far k ++ (is ∙ ap g (ap f at ∙ (sym (get_or-map f xs i old [] in_i) ∙ first))) k ∷ []) ∙ sym (map_more g ls i [] in_ls)))

pub left_more : {X : Type 0} (f : X → List Life) (xs : List X) (ls : List (List Life)) (i : ℕ) (new : X) → drop i (map f xs) ≡ drop i ls → drop (i + 1) (map f (set xs i new)) ≡ drop (i + 1) ls
left_more f xs ls i new left = ap (drop (i + 1)) (map-set f xs i new) ∙ (drop-set-lt (i + 1) (map f xs) i (f new) (omega arith) ∙ (sym (drop-drop 1 i (map f xs)) ∙ (ap (drop 1) left ∙ drop-drop 1 i ls)))

-- all lists of lives, after each was changed
pub all_changed : {X : Type 0} (f : X → List Life) (g : List Life → List Life) (lives : ℕ → List Life) (n len : ℕ) (xs ys zs : List X)
    → map f ys ≡ map g (map f zs) → zs ≡ xs → length zs ≡ len → length xs ≡ n → ((w : ℕ) → w < n → g (get_or (map f xs) w []) ≡ lives w)
    → map f (take len (ys ++ drop (length ys) xs)) ≡ map lives (range_with_len 0 n)
all_changed {X = X} f g lives n len xs ys zs changed is_old long are each =
    let same : length (map f ys) ≡ length (map g (map f zs)) = ap length changed in
    let as_long : length ys ≡ len = omega (arith, length-map ys f, length-map zs f, length-map (map f zs) g) in
    let slots : length (map g (map f xs)) ≡ n = length-map (map f xs) g ∙ (length-map xs f ∙ are) in
    ap (map f) (take_at ys (drop (length ys) xs) len as_long)
    ∙ (changed ∙ (ap (λ (vs : List X). map g (map f vs)) is_old
    ∙ fill_by_all lives (map g (map f xs)) n [] slots (λ w in_w. get_or-map g (map f xs) w [] [] (omega (arith, length-map xs f)) ∙ each w in_w)))
