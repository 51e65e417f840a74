-- Items among siblings, one after another.
use Rattle.std.proofs.Common.{◌≡◌, ℕ, ◌+◌, ◌<◌, ◌≤◌, Bool, true, false, ◌||◌, not, List, ◌∷◌, refl, sym, ap, ◌∙◌, subst, Option, length, get_or, drop, map}
use Rattle.std.specs.Prelude.{if◌then◌else◌}
use Rattle.std.proofs.lemmas.List.{at_drop_more, at_drop_all}
use Rattle.first_breach.specs.declared.Breach.{Breach}
use Rattle.first_breach.specs.Breaches.{Nothing, One, If}
use Rattle.first_breach.specs.Narrowing.{Narrows}
use Rattle.first_breach.proofs.Narrowing.{narrows_along}
use Rattle.markup_rules.specs.Elements.{Element, is_sourced}
use Rattle.markup_rules.specs.Rows.{Disordered}
use Rattle.markup_rules.proofs.Steps.{narrows_next}

or_turned : (c s : Bool) → (c || not s) ≡ (not s || c)
or_turned true true = refl
or_turned true false = refl
or_turned false true = refl
or_turned false false = refl

-- ## What is followed, from behind

-- ## What ends an element

-- ## The order of scripts

pub disordered_step : {A : Type 0} {C : ℕ → ℕ → Type 0} {a b d : Option Breach} (to : A → Element) (is_first hit : Bool) (xs : List A) (i : ℕ) (x : A) → i < length xs → x ≡ get_or xs i x → hit ≡ (if is_first then is_sourced (to x) else not (is_sourced (to x))) → Narrows C a (Disordered is_first (map to (drop i xs))) b → Narrows (If hit (One 5 (to x).at)) b Nothing d → Narrows C a (Disordered false (map to (drop (i + 1) xs))) d
disordered_step {A} {C} {a} {b} {d} to is_first hit xs i x lt ex eh n t =
    let rest = map to (drop (i + 1) xs) in
    let e : map to (drop i xs) ≡ to x ∷ rest = at_drop_more (map to) xs i x lt ∙ ap (λ y. to y ∷ rest) (sym ex) in
    narrows_next (subst (λ l. Narrows C a (Disordered is_first l) b) e n) (narrows_along eh t)

pub disordered_done : {A : Type 0} {C : ℕ → ℕ → Type 0} {a b : Option Breach} (to : A → Element) (is_first : Bool) (xs : List A) (i : ℕ) → length xs ≤ i → Narrows C a (Disordered is_first (map to (drop i xs))) b → Narrows C a Nothing b
disordered_done {A} {C} {a} {b} to is_first xs i le n = subst (λ l. Narrows C a (Disordered is_first l) b) (at_drop_all (map to) xs i le) n
