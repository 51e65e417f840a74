-- The rows of a node as sets of breaches, one after the other, as the code meets them.
use Rattle.std.specs.Prelude.{◌≡◌, ℕ, false, List, codes}
use Rattle.std.specs.Str.{bytes_eq}
use Rattle.code_units.specs.Permitted.{is_banned, has_edge_underscore}
use Rattle.js_tree.specs.Plain.{ExprAt, ExprForm, StmtAt, StmtForm, Fun}
use Rattle.js_tree.specs.Parts.{Spot, AnExpr, AStmt, AFun}
use Rattle.first_breach.specs.Breaches.{Either, One, If, Each}
use Rattle.node_rules.specs.declared.rule_numbers.TheConstants.{A03, A04, A05, A06, A07, A08, A09, A10, A11, A12, A13, A14, A15, A16, A17, A18, A19}
use Rattle.node_rules.specs.Words.{is_global, is_reaching}
use Rattle.node_rules.specs.Names.{Named, uses, binders, properties, targets}
use Rattle.node_rules.specs.Forms.{is_this, wrong_subscripts, is_adsafe, is_of_math, is_with, is_loose_equality, is_bitwise, is_typed, is_dropping, is_wrong_number, is_idle, wrong_targets}
use Rattle.node_rules.specs.Binding.{IsBound, no_jumps, jumps_from, is_stray}

-- A06 of a name that is used
pub record Unbound (env : List Spot) (x : Named) (r p : ℕ) : Type 0 where
  pub free : IsBound env x.text → ⊥
  pub foreign : is_global x.text ≡ false
  pub broken : One A06 x.at r p

-- what a name breaks that is used, that is bound, that is written to, and as a property
abbrev pub UseRow : List Spot → Named → ℕ → ℕ → Type 0
UseRow env x = Either (If (has_edge_underscore x.text) (One A03 x.at)) (Either (If (is_reaching x.text) (One A05 x.at)) (Unbound env x))

abbrev pub BinderRow : Named → ℕ → ℕ → Type 0
BinderRow x = Either (If (has_edge_underscore x.text) (One A03 x.at)) (Either (If (is_reaching x.text) (One A05 x.at)) (If (is_global x.text) (One A08 x.at)))

abbrev pub TargetRow : Named → ℕ → ℕ → Type 0
TargetRow x = If (is_global x.text) (One A08 x.at)

abbrev pub PropertyRow : Named → ℕ → ℕ → Type 0
PropertyRow x = Either (If (has_edge_underscore x.text) (One A03 x.at)) (If (is_banned x.text) (One A05 x.at))

abbrev pub RandomRow : Named → ℕ → ℕ → Type 0
RandomRow x = If (bytes_eq x.text (codes "random")) (One A10 x.at)

-- what an expression breaks by its form alone
abbrev pub FormRows : ℕ → ExprForm → ℕ → ℕ → Type 0
FormRows at form =
    Either (If (is_this form) (One A04 at)) (Either (If (is_adsafe form) (One A09 at)) (Either (If (is_loose_equality form) (One A12 at)) (Either (If (is_bitwise form) (One A13 at))
    (Either (If (is_typed form) (One A14 at)) (Either (If (is_dropping form) (One A15 at)) (If (is_wrong_number form) (One A17 at)))))))

-- what an expression, a statement and a function break
abbrev pub ExprRows : List Spot → ℕ → List ℕ → ExprForm → ℕ → ℕ → Type 0
ExprRows env at names form =
    let n = AnExpr (ExprAt at names form) in
    Either (FormRows at form) (Either (Each (UseRow env) (uses n)) (Either (Each PropertyRow (properties n)) (Either (If (is_of_math form) (Each RandomRow (properties n)))
    (Either (Each TargetRow (targets n)) (Either (Each (One A07) (wrong_subscripts form)) (Each (One A19) (wrong_targets form)))))))

abbrev pub StmtRows : List Spot → ℕ → List ℕ → StmtForm → ℕ → ℕ → Type 0
StmtRows env at names form =
    let n = AStmt (StmtAt at names form) in
    Either (If (is_with form) (One A11 at)) (Either (If (is_stray (jumps_from no_jumps env) form) (One A16 at)) (Either (If (is_idle form) (One A18 at))
    (Either (Each (UseRow env) (uses n)) (Either (Each BinderRow (binders n)) (Each TargetRow (targets n))))))

abbrev pub FunRows : Fun → ℕ → ℕ → Type 0
FunRows g = Each BinderRow (binders (AFun g))
