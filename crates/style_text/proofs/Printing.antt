-- The printed text of one more pair.
use Rattle.std.proofs.Common.{◌≡◌, ℕ, zero, suc, ◌+◌, ◌<◌, List, [], ◌∷◌, ◌++◌, false, refl, ap, sym, ◌∙◌, length, take, arith, add-one, append_assoc, get_or, subst}
use Rattle.std.specs.Prelude.{codes}
use Rattle.std.specs.Prelude.{◌==◌}
use Rattle.std.proofs.lemmas.List.{take_more}
use Rattle.std.proofs.lemmas.Bool.Decides.{nat_tests}
use Rattle.style_text.specs.Styles.{Pair, print_pair, print_style}
use Rattle.style_text.specs.Separated.{separated}

-- nothing is printed first
pub print_none : print_style [] ≡ []
unfolding print_style
print_none = refl

print_next : (p : Pair) (ps : List Pair) (end : Pair) → print_style (p ∷ (ps ++ end ∷ [])) ≡ print_style (p ∷ ps) ++ separated false end
unfolding print_style
print_next p [] end = append_assoc (print_pair p) (codes "; ") (print_pair end)
print_next p (q ∷ ps) end = ap (λ l. (print_pair p ++ codes "; ") ++ l) (print_next q ps end) ∙ sym (append_assoc (print_pair p ++ codes "; ") (print_style (q ∷ ps)) (separated false end))

pub print_more : (pairs : List Pair) (i : ℕ) (d : Pair) → i < length pairs → print_style (take (i + 1) pairs) ≡ print_style (take i pairs) ++ separated (i == 0) (get_or pairs i d)
unfolding print_style
print_more [] i d lt = absurd (omega (arith, lt))
print_more (p ∷ ps) zero d lt = refl
print_more (p ∷ ps) (suc i) d lt =
    let more : take (suc i) ps ≡ take i ps ++ get_or ps i d ∷ [] = subst (λ n. take n ps ≡ take i ps ++ get_or ps i d ∷ []) (add-one i) (take_more ps i d (omega (arith, lt))) in
    let later : (suc i == 0) ≡ false = grind (arith, nat_tests) in
    rw (add-one, later) (ap (λ l. print_style (p ∷ l)) more ∙ print_next p (take i ps) (get_or ps i d))

pub nonzero : (n : ℕ) → (suc n == 0) ≡ false
nonzero n = grind (arith, nat_tests)

-- one more pair is printed
pub print_last : (ps : List Pair) (end : Pair) → print_style (ps ++ end ∷ []) ≡ print_style ps ++ separated (length ps == 0) end
unfolding print_style
print_last [] end = refl
print_last (p ∷ ps) end = subst (λ b. print_style (p ∷ (ps ++ end ∷ [])) ≡ print_style (p ∷ ps) ++ separated b end) (sym (nonzero (length ps))) (print_next p ps end)
