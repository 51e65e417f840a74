-- The arguments of a call, as the code lists them.
use Rattle.std.specs.Prelude.{◌≡◌, ℕ, not, List, [], ◌∷◌, slice_index_or, drop}
use Rattle.first_breach.specs.Breaches.{Nothing, Either, One, If, Each}
use Rattle.js_tree.specs.Parts.{Spot}
use Rattle.adsafe_rules.specs.declared.scope.Scope.{Scope}
use Rattle.node_rules.specs.declared.rule_numbers.TheConstants.{A02}
use Rattle.node_rules.specs.Names.{Named}
use Rattle.adsafe_rules.specs.Program.{is_opening_name, is_opening, opening_names, spot_place}
use Rattle.js_tree.specs.declared.nodes.ExprId.{ExprId}
use Rattle.adsafe_rules.specs.declared.opening.Arguments.{Arguments}
use Rattle.adsafe_rules.specs.declared.opening.Arguments.TheVariants as arguments

-- these are the arguments
abbrev pub AreListed : Arguments → List ExprId → Type 0
AreListed arguments.None ids = ids ≡ []
AreListed (arguments.One a) ids = ids ≡ a ∷ []
AreListed (arguments.Two a b) ids = ids ≡ a ∷ b ∷ []
AreListed (arguments.More a b) ids = ids ≡ a ∷ b ∷ slice_index_or ids 2 a ∷ drop 3 ids

-- A02 as sets of breaches: of a name that is handed over
abbrev pub NameRow : Scope → Named → ℕ → ℕ → Type 0
NameRow scope x = If (not (is_opening_name scope x.text)) (One A02 x.at)

-- of the first statement: it is not the call, or hands over a wrong name
abbrev pub OpeningRows : Scope → Spot → ℕ → ℕ → Type 0
OpeningRows scope s = Either (If (not (is_opening scope s)) (One A02 (spot_place s))) (If (is_opening scope s) (Each (NameRow scope) (opening_names s)))

-- of what stands behind it
abbrev pub SecondRow : List Spot → ℕ → ℕ → Type 0
SecondRow [] = Nothing
SecondRow (t ∷ rest) = One A02 (spot_place t)

-- of a text
abbrev pub ProgramRows : Scope → List Spot → ℕ → ℕ → Type 0
ProgramRows scope [] = One A02 0
ProgramRows scope (s ∷ rest) = Either (OpeningRows scope s) (SecondRow rest)
