-- What a contract sees of a table of pairs.
use Rattle.std.specs.Prelude.{ℕ, List, refl}
use Rattle.std.specs.Coded.{Coded, code_by, coded×, coded_ℕ, coded_list}

-- the pairs in the order in which their numbers came, and how many more fit with no allocation
pub record Pairs (V : Type 0) : Type 0 where
  pub entries : List (ℕ × V)
  pub spare : ℕ

-- it is stored as the pair of its fields
abbrev pub pairs_code : {V : Type 0} → Coded V → Coded (Pairs V)
pairs_code {V} code =
    code_by (List (ℕ × V) × ℕ) (coded× (coded_list (coded× coded_ℕ code)) coded_ℕ) (λ p. (p.entries, p.spare))
    (λ q. record { entries = q.0; spare = q.1 }) (λ _. refl)
