-- Programs that agree apart from places break the same rules.
use Rattle.std.proofs.Common.{◌≡◌, ℕ, List, [], ◌∷◌, ◌++◌, refl, sym, ap, ◌∙◌, subst, Bool, true, false}
use Rattle.std.specs.Prelude.{map, codes}
use Rattle.std.specs.Str.{bytes_eq}
use Rattle.code_units.specs.Permitted.{is_banned, has_edge_underscore}
use Rattle.js_tree.specs.Plain.{ExprAt, ExprForm, StmtAt, StmtForm}
use Rattle.js_tree.specs.Parts.{Spot, AnExpr, AStmt, AFun}
use Rattle.js_grammar.specs.Unplaced.{unplaced_form, unplaced_exprs, unplaced_stmt_form}
use Rattle.first_breach.specs.Lists.{In}
use Rattle.first_breach.proofs.Members.{FromMap, in_none, map_append}
use Rattle.adsafe_rules.specs.Words.{is_global, is_reaching}
use Rattle.adsafe_rules.specs.Names.{Named, uses, binders, properties, targets}
use Rattle.adsafe_rules.specs.Forms.{is_this, wrong_subscripts, is_adsafe, is_of_math, is_with, is_loose_equality, is_bitwise, is_typed, is_dropping, is_wrong_number, is_idle, wrong_targets}
use Rattle.adsafe_rules.specs.Parts.{outer, inner, Stands, itself, outside, inside}
use Rattle.adsafe_rules.specs.Rows.{Broken, A03, A04, A05, A05_name, A06, A07, A08, A09, A10, A11, A12, A13, A14, A15, A16, A17, A18, A19, Found, AnyFound}
use Rattle.adsafe_rules.specs.Binding.{IsBound, no_jumps, jumps_from, is_stray}
use Rattle.tidy_rules.proofs.Bare.{bare, texts, zero_of, joined_texts, this_bare, adsafe_bare, math_bare, loose_bare, bitwise_bare, typed_bare, dropping_bare, number_bare, with_bare, idle_bare, stray_bare, subscripts_bare, wrong_targets_bare, uses_bare, binders_bare, named_properties_bare, targets_bare, outer_bare, inner_bare, jumps_bare}
use Rattle.tidy_rules.proofs.Bound.{matched, same_parts, same_texts, bound}

-- at some place
pub record Somewhere (B : ℕ → Type 0) : Type 0 where
  pub at : ℕ
  pub broken : B at

-- a test of an expression, and of a statement
abbrev on_expr : (ExprForm → Bool) → Spot → Bool
on_expr F (AnExpr (ExprAt at names form)) = F form
on_expr F _ = false

abbrev on_stmt : (StmtForm → Bool) → Spot → Bool
on_stmt F (AStmt (StmtAt at names form)) = F form
on_stmt F _ = false

expr_same : (F : ExprForm → Bool) → ((form : ExprForm) → F (unplaced_form form) ≡ F form) → (n : Spot) → on_expr F (bare n) ≡ on_expr F n
unfolding unplaced_exprs
expr_same F h (AnExpr (ExprAt at names form)) = h form
expr_same F h (AStmt s) = refl
expr_same F h (AFun g) = refl

stmt_same : (F : StmtForm → Bool) → ((form : StmtForm) → F (unplaced_stmt_form form) ≡ F form) → (n : Spot) → on_stmt F (bare n) ≡ on_stmt F n
unfolding unplaced_exprs
stmt_same F h (AStmt (StmtAt at names form)) = h form
stmt_same F h (AnExpr e) = refl
stmt_same F h (AFun g) = refl

expr_passed : (F : ExprForm → Bool) → ((form : ExprForm) → F (unplaced_form form) ≡ F form) → (n m : Spot) → bare n ≡ bare m → on_expr F n ≡ true → on_expr F m ≡ true
expr_passed F h n m e t = sym (expr_same F h m) ∙ ap (on_expr F) (sym e) ∙ expr_same F h n ∙ t

stmt_passed : (F : StmtForm → Bool) → ((form : StmtForm) → F (unplaced_stmt_form form) ≡ F form) → (n m : Spot) → bare n ≡ bare m → on_stmt F n ≡ true → on_stmt F m ≡ true
stmt_passed F h n m e t = sym (stmt_same F h m) ∙ ap (on_stmt F) (sym e) ∙ stmt_same F h n ∙ t

expr_row : (F : ExprForm → Bool) (r : ℕ) (env : List Spot) (m : Spot) → ((at : ℕ) (names : List ℕ) (form : ExprForm) → F form ≡ true → Broken env (AnExpr (ExprAt at names form)) r at) → on_expr F m ≡ true → Somewhere (Broken env m r)
expr_row F r env (AnExpr (ExprAt at names form)) k t = record { at = at; broken = k at names form t }
expr_row F r env (AStmt s) k t = cc
expr_row F r env (AFun g) k t = cc

stmt_row : (F : StmtForm → Bool) (r : ℕ) (env : List Spot) (m : Spot) → ((at : ℕ) (names : List ℕ) (form : StmtForm) → F form ≡ true → Broken env (AStmt (StmtAt at names form)) r at) → on_stmt F m ≡ true → Somewhere (Broken env m r)
stmt_row F r env (AStmt (StmtAt at names form)) k t = record { at = at; broken = k at names form t }
stmt_row F r env (AnExpr e) k t = cc
stmt_row F r env (AFun g) k t = cc

-- the names of a node, by their texts
pub named_by : (F : Spot → List Named) (h : (n : Spot) → texts (F (bare n)) ≡ texts (F n)) (n m : Spot) {x : Named} → bare n ≡ bare m → In x (F n) → FromMap (λ (y : Named). y.text) (F m) x.text
named_by F h n m e i = matched (λ (y : Named). y.text) (F n) (F m) (same_texts F h n m e) i

abbrev use_names : Spot → List Named
use_names n = uses n ++ binders n

abbrev all_names : Spot → List Named
all_names n = uses n ++ (binders n ++ properties n)

abbrev set_names : Spot → List Named
set_names n = binders n ++ targets n

all_same : (n : Spot) → texts (all_names (bare n)) ≡ texts (all_names n)
all_same n = joined_texts (uses n) (binders n ++ properties n) (uses (bare n)) (binders (bare n) ++ properties (bare n)) (uses_bare n)
    (joined_texts (binders n) (properties n) (binders (bare n)) (properties (bare n)) (binders_bare n) (named_properties_bare n))

use_same : (n : Spot) → texts (use_names (bare n)) ≡ texts (use_names n)
use_same n = joined_texts (uses n) (binders n) (uses (bare n)) (binders (bare n)) (uses_bare n) (binders_bare n)

set_same : (n : Spot) → texts (set_names (bare n)) ≡ texts (set_names n)
set_same n = joined_texts (binders n) (targets n) (binders (bare n)) (targets (bare n)) (binders_bare n) (targets_bare n)

-- the places of what is wrong
abbrev subscripts_of : Spot → List ℕ
subscripts_of (AnExpr (ExprAt at names form)) = wrong_subscripts form
subscripts_of _ = []

abbrev targets_of : Spot → List ℕ
targets_of (AnExpr (ExprAt at names form)) = wrong_targets form
targets_of _ = []

subscripts_same : (n : Spot) → map zero_of (subscripts_of (bare n)) ≡ map zero_of (subscripts_of n)
unfolding unplaced_exprs
subscripts_same (AnExpr (ExprAt at names form)) = subscripts_bare form
subscripts_same (AStmt s) = refl
subscripts_same (AFun g) = refl

wrong_same : (n : Spot) → map zero_of (targets_of (bare n)) ≡ map zero_of (targets_of n)
unfolding unplaced_exprs
wrong_same (AnExpr (ExprAt at names form)) = wrong_targets_bare form
wrong_same (AStmt s) = refl
wrong_same (AFun g) = refl

placed_by : (F : Spot → List ℕ) (h : (n : Spot) → map zero_of (F (bare n)) ≡ map zero_of (F n)) (n m : Spot) {x : ℕ} → bare n ≡ bare m → In x (F n) → FromMap zero_of (F m) 0
placed_by F h n m e i = matched zero_of (F n) (F m) (sym (h n) ∙ ap (λ k. map zero_of (F k)) e ∙ h m) i

row_7 : (env : List Spot) (m : Spot) (p : ℕ) → In p (subscripts_of m) → Broken env m 7 p
row_7 env (AnExpr (ExprAt at names form)) p i = A07 i
row_7 env (AStmt s) p i = absurd (in_none i)
row_7 env (AFun g) p i = absurd (in_none i)

row_19 : (env : List Spot) (m : Spot) (p : ℕ) → In p (targets_of m) → Broken env m 19 p
row_19 env (AnExpr (ExprAt at names form)) p i = A19 i
row_19 env (AStmt s) p i = absurd (in_none i)
row_19 env (AFun g) p i = absurd (in_none i)

row_10 : (env : List Spot) (m : Spot) (x : Named) → on_expr is_of_math m ≡ true → In x (properties m) → bytes_eq x.text (codes "random") ≡ true → Broken env m 10 x.at
row_10 env (AnExpr (ExprAt at names form)) x t i h = A10 t i h
row_10 env (AStmt s) x t i h = cc
row_10 env (AFun g) x t i h = cc

-- a node of one tree breaks what that of the other breaks
broken_too : {env : List Spot} {n : Spot} {r p : ℕ} (others : List Spot) (m : Spot) → map bare env ≡ map bare others → bare n ≡ bare m → Broken env n r p → Somewhere (Broken others m r)
broken_too {n = n} others m l e (A03 i h) = let f = named_by all_names all_same n m e i in record { at = f.from.at; broken = A03 f.is_in (ap has_edge_underscore f.same ∙ h) }
broken_too {n = n} others m l e (A04 {form = form} h) = expr_row is_this 4 others m (λ at names form t. A04 t) (expr_passed is_this this_bare n m e h)
broken_too {n = n} others m l e (A05 i h) = let f = named_by properties named_properties_bare n m e i in record { at = f.from.at; broken = A05 f.is_in (ap is_banned f.same ∙ h) }
broken_too {n = n} others m l e (A05_name i h) = let f = named_by use_names use_same n m e i in record { at = f.from.at; broken = A05_name f.is_in (ap is_reaching f.same ∙ h) }
broken_too {env = env} {n = n} others m l e (A06 i free g) =
    let f = named_by uses uses_bare n m e i in
    record { at = f.from.at; broken = A06 f.is_in (λ b. free (bound others env _ (sym l) (subst (λ t. IsBound others t) f.same b))) (ap is_global f.same ∙ g) }
broken_too {n = n} others m l e (A07 i) = let f = placed_by subscripts_of subscripts_same n m e i in record { at = f.from; broken = row_7 others m f.from f.is_in }
broken_too {n = n} others m l e (A08 i h) = let f = named_by set_names set_same n m e i in record { at = f.from.at; broken = A08 f.is_in (ap is_global f.same ∙ h) }
broken_too {n = n} others m l e (A09 h) = expr_row is_adsafe 9 others m (λ at names form t. A09 t) (expr_passed is_adsafe adsafe_bare n m e h)
broken_too {n = n} others m l e (A10 t i h) =
    let f = named_by properties named_properties_bare n m e i in
    record { at = f.from.at; broken = row_10 others m f.from (expr_passed is_of_math math_bare n m e t) f.is_in (ap (λ x. bytes_eq x (codes "random")) f.same ∙ h) }
broken_too {n = n} others m l e (A11 h) = stmt_row is_with 11 others m (λ at names form t. A11 t) (stmt_passed is_with with_bare n m e h)
broken_too {n = n} others m l e (A12 h) = expr_row is_loose_equality 12 others m (λ at names form t. A12 t) (expr_passed is_loose_equality loose_bare n m e h)
broken_too {n = n} others m l e (A13 h) = expr_row is_bitwise 13 others m (λ at names form t. A13 t) (expr_passed is_bitwise bitwise_bare n m e h)
broken_too {n = n} others m l e (A14 h) = expr_row is_typed 14 others m (λ at names form t. A14 t) (expr_passed is_typed typed_bare n m e h)
broken_too {n = n} others m l e (A15 h) = expr_row is_dropping 15 others m (λ at names form t. A15 t) (expr_passed is_dropping dropping_bare n m e h)
broken_too {env = env} {n = n} others m l e (A16 {form = form} h) =
    let same = sym (jumps_bare no_jumps others) ∙ ap (jumps_from no_jumps) (sym l) ∙ jumps_bare no_jumps env in
    let j = jumps_from no_jumps others in
    stmt_row (is_stray j) 16 others m (λ at names form t. A16 t) (stmt_passed (is_stray j) (stray_bare j) n m e (ap (λ k. is_stray k form) same ∙ h))
broken_too {n = n} others m l e (A17 h) = expr_row is_wrong_number 17 others m (λ at names form t. A17 t) (expr_passed is_wrong_number number_bare n m e h)
broken_too {n = n} others m l e (A18 h) = stmt_row is_idle 18 others m (λ at names form t. A18 t) (stmt_passed is_idle idle_bare n m e h)
broken_too {n = n} others m l e (A19 i) = let f = placed_by targets_of wrong_same n m e i in record { at = f.from; broken = row_19 others m f.from f.is_in }

env_more : (l m : List Spot) (a b : Spot) → map bare l ≡ map bare m → bare a ≡ bare b → map bare (l ++ a ∷ []) ≡ map bare (m ++ b ∷ [])
env_more l m a b e d = map_append bare l (a ∷ []) ∙ ap (λ k. k ++ bare a ∷ []) e ∙ ap (λ x. map bare m ++ x ∷ []) d ∙ sym (map_append bare m (b ∷ []))

found_outside : {env : List Spot} {n p : Spot} {r : ℕ} → In p (outer n) → Somewhere (Found env p r) → Somewhere (Found env n r)
found_outside i f = record { at = f.at; broken = record { around = f.broken.around; node = f.broken.node; stands = outside i f.broken.stands; broken = f.broken.broken } }

found_inside : {env : List Spot} {n p : Spot} {r : ℕ} → In p (inner n) → Somewhere (Found (env ++ n ∷ []) p r) → Somewhere (Found env n r)
found_inside i f = record { at = f.at; broken = record { around = f.broken.around; node = f.broken.node; stands = inside i f.broken.stands; broken = f.broken.broken } }

found_too : {env around : List Spot} {n k : Spot} {r p : ℕ} (others : List Spot) (m : Spot) → map bare env ≡ map bare others → bare n ≡ bare m → Stands env n around k → Broken around k r p → Somewhere (Found others m r)
found_too others m l e itself b = let f = broken_too others m l e b in record { at = f.at; broken = record { around = others; node = m; stands = itself; broken = f.broken } }
found_too {n = n} others m l e (outside i s) b =
    let q = matched bare (outer n) (outer m) (same_parts outer outer_bare n m e) i in
    found_outside q.is_in (found_too others q.from l (sym q.same) s b)
found_too {env = env} {n = n} others m l e (inside i s) b =
    let q = matched bare (inner n) (inner m) (same_parts inner inner_bare n m e) i in
    found_inside q.is_in (found_too (others ++ m ∷ []) q.from (env_more env others n m l e) (sym q.same) s b)

pub any_found_too : {r p : ℕ} (l m : List Spot) → map bare l ≡ map bare m → AnyFound [] l r p → Somewhere (AnyFound [] m r)
any_found_too l m e f =
    let q = matched bare l m e f.is_in in
    let g = found_too [] q.from refl (sym q.same) f.found.stands f.found.broken in
    record { at = g.at; broken = record { top = q.from; is_in = q.is_in; found = g.broken } }
