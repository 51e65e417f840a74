-- The rules A03 to A19, a row for each: what a node breaks, and where.
use Rattle.std.specs.Prelude.{◌≡◌, ℕ, true, false, List, ◌++◌, codes}
use Rattle.std.specs.Str.{bytes_eq}
use Rattle.code_units.specs.Permitted.{is_banned, has_edge_underscore}
use Rattle.js_tree.specs.Plain.{ExprAt, ExprForm, StmtAt, StmtForm}
use Rattle.js_tree.specs.Parts.{Spot, AnExpr, AStmt}
use Rattle.first_breach.specs.Lists.{In}
use Rattle.node_rules.specs.declared.rule_numbers.TheConstants as number
use Rattle.node_rules.specs.Words.{is_global, is_reaching}
use Rattle.node_rules.specs.Names.{Named, uses, binders, properties, targets}
use Rattle.node_rules.specs.Forms.{is_this, wrong_subscripts, is_adsafe, is_of_math, is_with, is_loose_equality, is_bitwise, is_typed, is_dropping, is_wrong_number, is_idle, wrong_targets}
use Rattle.node_rules.specs.Parts.{Stands}
use Rattle.node_rules.specs.Binding.{IsBound, no_jumps, jumps_from, is_stray}

-- `Broken env n rule place`: the node n, which those of env enclose, breaks the rule at the place
pub data Broken : List Spot → Spot → ℕ → ℕ → Type 0 where
  -- a name or a property begins or ends with `_`
  A03 : {env : List Spot} {n : Spot} {x : Named} → In x (uses n ++ (binders n ++ properties n)) → has_edge_underscore x.text ≡ true → Broken env n number.A03 x.at
  -- `this` stands
  A04 : {env : List Spot} {at : ℕ} {names : List ℕ} {form : ExprForm} → is_this form ≡ true → Broken env (AnExpr (ExprAt at names form)) number.A04 at
  -- a property is banned
  A05 : {env : List Spot} {n : Spot} {x : Named} → In x (properties n) → is_banned x.text ≡ true → Broken env n number.A05 x.at
  -- a name is `arguments` or `eval`
  A05_name : {env : List Spot} {n : Spot} {x : Named} → In x (uses n ++ binders n) → is_reaching x.text ≡ true → Broken env n number.A05 x.at
  -- a name is bound by no enclosing function or catch and is not a listed global
  A06 : {env : List Spot} {n : Spot} {x : Named} → In x (uses n) → (IsBound env x.text → ⊥) → is_global x.text ≡ false → Broken env n number.A06 x.at
  -- a subscript is none of the allowed forms
  A07 : {env : List Spot} {at : ℕ} {names : List ℕ} {form : ExprForm} {p : ℕ} → In p (wrong_subscripts form) → Broken env (AnExpr (ExprAt at names form)) number.A07 p
  -- a listed global is bound or written to
  A08 : {env : List Spot} {n : Spot} {x : Named} → In x (binders n ++ targets n) → is_global x.text ≡ true → Broken env n number.A08 x.at
  -- `ADSAFE` stands otherwise than in a call that is allowed, which does not have it among its parts
  A09 : {env : List Spot} {at : ℕ} {names : List ℕ} {form : ExprForm} → is_adsafe form ≡ true → Broken env (AnExpr (ExprAt at names form)) number.A09 at
  -- `Math.random` or `Math["random"]` stands
  A10 : {env : List Spot} {at : ℕ} {names : List ℕ} {form : ExprForm} {x : Named} → is_of_math form ≡ true → In x (properties (AnExpr (ExprAt at names form))) → bytes_eq x.text (codes "random") ≡ true → Broken env (AnExpr (ExprAt at names form)) number.A10 x.at
  -- `with` stands
  A11 : {env : List Spot} {at : ℕ} {names : List ℕ} {form : StmtForm} → is_with form ≡ true → Broken env (AStmt (StmtAt at names form)) number.A11 at
  -- `==` or `!=` stands
  A12 : {env : List Spot} {at : ℕ} {names : List ℕ} {form : ExprForm} → is_loose_equality form ≡ true → Broken env (AnExpr (ExprAt at names form)) number.A12 at
  -- a bitwise operator, a shift, or an assignment with one stands
  A13 : {env : List Spot} {at : ℕ} {names : List ℕ} {form : ExprForm} → is_bitwise form ≡ true → Broken env (AnExpr (ExprAt at names form)) number.A13 at
  -- `new`, `instanceof` or the operator `in` stands
  A14 : {env : List Spot} {at : ℕ} {names : List ℕ} {form : ExprForm} → is_typed form ≡ true → Broken env (AnExpr (ExprAt at names form)) number.A14 at
  -- `void` or a comma operator stands
  A15 : {env : List Spot} {at : ℕ} {names : List ℕ} {form : ExprForm} → is_dropping form ≡ true → Broken env (AnExpr (ExprAt at names form)) number.A15 at
  -- a label stands, or a jump to one, or one that leaves no loop or `switch` of its function
  A16 : {env : List Spot} {at : ℕ} {names : List ℕ} {form : StmtForm} → is_stray (jumps_from no_jumps env) form ≡ true → Broken env (AStmt (StmtAt at names form)) number.A16 at
  -- a number literal has a fraction, an exponent, too large a value, or a leading `0`
  A17 : {env : List Spot} {at : ℕ} {names : List ℕ} {form : ExprForm} → is_wrong_number form ≡ true → Broken env (AnExpr (ExprAt at names form)) number.A17 at
  -- an expression statement is no assignment, call, step or `delete`
  A18 : {env : List Spot} {at : ℕ} {names : List ℕ} {form : StmtForm} → is_idle form ≡ true → Broken env (AStmt (StmtAt at names form)) number.A18 at
  -- the target of an assignment or step is no name, dot or subscript, or what is deleted no dot or subscript
  A19 : {env : List Spot} {at : ℕ} {names : List ℕ} {form : ExprForm} {p : ℕ} → In p (wrong_targets form) → Broken env (AnExpr (ExprAt at names form)) number.A19 p

-- in the node n, which the nodes of env enclose, the rule is broken at the place
pub record Found (env : List Spot) (n : Spot) (rule place : ℕ) : Type 0 where
  pub around : List Spot
  pub node : Spot
  pub stands : Stands env n around node
  pub broken : Broken around node rule place

-- in one of the nodes
pub record AnyFound (env : List Spot) (nodes : List Spot) (rule place : ℕ) : Type 0 where
  pub top : Spot
  pub is_in : In top nodes
  pub found : Found env top rule place
