-- Nodes that are not the root.
use Rattle.std.proofs.Common.{◌≡◌, ◌≢◌, ℕ, List, [], ◌∷◌, Bool, true, false, refl, sym, ap, ◌∙◌, map, eqb, eqb-true, ⊎_elim}
use Rattle.std.specs.Prelude.{◌&&◌}
use Rattle.std.specs.List.{list_all}
use Rattle.std.proofs.lemmas.Bool.{or_cases}
use Rattle.query_grammar.specs.Finds.{has_number}
use Rattle.widget_meaning.specs.BunchWrites.{is_no_root}

no_true : false ≡ true → ⊥
no_true e = cc

pub both_true : (a b : Bool) → (a && b) ≡ true → (a ≡ true) × (b ≡ true)
both_true true b e = (refl, e)
both_true false b e = absurd (no_true e)

-- what is not the root has no number 0
pub none_zero : (f : ℕ → ℕ) (ns : List ℕ) → list_all is_no_root (map f ns) ≡ true → (n : ℕ) → has_number ns n ≡ true → f n ≢ 0
none_zero f [] h n e = absurd (no_true e)
none_zero f (m ∷ ns) h n e =
    let q = both_true (is_no_root (f m)) (list_all is_no_root (map f ns)) h in
    ⊎_elim (λ g z. no_true (sym (ap is_no_root (sym (ap f (eqb-true n m g)) ∙ z)) ∙ q.0)) (λ g. none_zero f ns q.1 n g) (or_cases (eqb n m) (has_number ns n) e)
