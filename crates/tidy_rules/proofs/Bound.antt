-- Trees that agree apart from places bind the same names.
use Rattle.std.proofs.Common.{◌≡◌, ℕ, List, [], ◌∷◌, refl, sym, ap, ◌∙◌, subst}
use Rattle.std.specs.Prelude.{map}
use Rattle.js_tree.specs.Plain.{StmtAt, StmtForm, Try, NoCatch, CatchAs, FunAt}
use Rattle.js_tree.specs.Parts.{Spot, AnExpr, AStmt, AFun, stmts_spots}
use Rattle.js_grammar.specs.Unplaced.{unplaced_exprs}
use Rattle.first_breach.specs.Lists.{In, here}
use Rattle.first_breach.proofs.Members.{FromMap, in_none, in_one, in_map, in_unmap}
use Rattle.adsafe_rules.specs.Names.{Named, variables}
use Rattle.adsafe_rules.specs.Binding.{blocks, Declares, itself, block, own_name, function_names, Binds, own, parameter, hoisted, function, caught, IsBound}
use Rattle.tidy_rules.proofs.Bare.{bare, texts, variables_bare, blocks_bare, own_bare, stmts_bare, functions_bare}

-- one list has what the other has, as a function of lists sees it
pub matched : {A B : Type 0} (f : A → B) (l m : List A) {x : A} → map f l ≡ map f m → In x l → FromMap f m (f x)
matched f l m {x} e i = in_unmap f m (subst (λ k. In (f x) k) e (in_map f i))

-- what a statement declares itself, and the statements in it
abbrev vars_of : Spot → List Named
vars_of (AStmt (StmtAt at names form)) = variables at names form
vars_of _ = []

abbrev blocks_of : Spot → List Spot
blocks_of (AStmt (StmtAt at names form)) = blocks form
blocks_of _ = []

vars_same : (n : Spot) → texts (vars_of (bare n)) ≡ texts (vars_of n)
unfolding unplaced_exprs
vars_same (AStmt (StmtAt at names form)) = variables_bare 0 at _ names form
vars_same (AnExpr e) = refl
vars_same (AFun g) = refl

blocks_same : (n : Spot) → blocks_of (bare n) ≡ map bare (blocks_of n)
unfolding unplaced_exprs
blocks_same (AStmt (StmtAt at names form)) = blocks_bare form
blocks_same (AnExpr e) = refl
blocks_same (AFun g) = refl

declares_var : (n : Spot) {x : Named} → In x (vars_of n) → Declares n x.text
declares_var (AStmt (StmtAt at names form)) i = itself i
declares_var (AnExpr e) i = absurd (in_none i)
declares_var (AFun g) i = absurd (in_none i)

declares_in : (n : Spot) {s : Spot} {t : List ℕ} → In s (blocks_of n) → Declares s t → Declares n t
declares_in (AStmt (StmtAt at names form)) i d = block i d
declares_in (AnExpr e) i d = absurd (in_none i)
declares_in (AFun g) i d = absurd (in_none i)

-- lists of parts that agree apart from places
pub same_parts : (F : Spot → List Spot) (h : (n : Spot) → F (bare n) ≡ map bare (F n)) (n m : Spot) → bare n ≡ bare m → map bare (F n) ≡ map bare (F m)
same_parts F h n m e = sym (h n) ∙ ap F e ∙ h m

pub same_texts : (F : Spot → List Named) (h : (n : Spot) → texts (F (bare n)) ≡ texts (F n)) (n m : Spot) → bare n ≡ bare m → texts (F n) ≡ texts (F m)
same_texts F h n m e = sym (h n) ∙ ap (λ k. texts (F k)) e ∙ h m

declares : {n : Spot} {t : List ℕ} (m : Spot) → bare n ≡ bare m → Declares n t → Declares m t
declares m e (itself {at} {names} {form} {x} i) =
    let n = AStmt (StmtAt at names form) in
    let r = matched (λ (y : Named). y.text) (vars_of n) (vars_of m) (same_texts vars_of vars_same n m e) i in
    subst (Declares m) r.same (declares_var m r.is_in)
declares m e (block {at} {names} {form} i d) =
    let n = AStmt (StmtAt at names form) in
    let r = matched bare (blocks_of n) (blocks_of m) (same_parts blocks_of blocks_same n m e) i in
    declares_in m r.is_in (declares r.from (sym r.same) d)

-- what a function has
abbrev own_of : Spot → List (List ℕ)
own_of (AFun g) = own_name g
own_of _ = []

abbrev params_of : Spot → List (List ℕ)
params_of (AFun (FunAt at names o params body funs)) = params
params_of _ = []

abbrev body_of : Spot → List Spot
body_of (AFun (FunAt at names o params body funs)) = stmts_spots body
body_of _ = []

abbrev inner_names : Spot → List (List ℕ)
inner_names (AFun (FunAt at names o params body funs)) = function_names funs
inner_names _ = []

-- and a catch
abbrev caught_name : StmtForm → List (List ℕ)
caught_name (Try body (CatchAs x ss) last) = x ∷ []
caught_name _ = []

abbrev caught_of : Spot → List (List ℕ)
caught_of (AStmt (StmtAt at names form)) = caught_name form
caught_of _ = []

own_same : (n : Spot) → own_of (bare n) ≡ own_of n
unfolding unplaced_exprs
own_same (AFun g) = own_bare g
own_same (AnExpr e) = refl
own_same (AStmt s) = refl

params_same : (n : Spot) → params_of (bare n) ≡ params_of n
unfolding unplaced_exprs
params_same (AFun (FunAt at names o params body funs)) = refl
params_same (AnExpr e) = refl
params_same (AStmt s) = refl

body_same : (n : Spot) → body_of (bare n) ≡ map bare (body_of n)
unfolding unplaced_exprs
body_same (AFun (FunAt at names o params body funs)) = stmts_bare body
body_same (AnExpr e) = refl
body_same (AStmt s) = refl

inner_same : (n : Spot) → inner_names (bare n) ≡ inner_names n
unfolding unplaced_exprs
inner_same (AFun (FunAt at names o params body funs)) = functions_bare funs
inner_same (AnExpr e) = refl
inner_same (AStmt s) = refl

caught_same : (n : Spot) → caught_of (bare n) ≡ caught_of n
unfolding unplaced_exprs
caught_same (AStmt (StmtAt at names (Try body (CatchAs x ss) last))) = refl
caught_same (AStmt (StmtAt at names (Try body NoCatch last))) = refl
caught_same (AStmt (StmtAt at names form)) = refl
caught_same (AnExpr e) = refl
caught_same (AFun g) = refl

binds_own : (n : Spot) {t : List ℕ} → In t (own_of n) → Binds n t
binds_own (AFun g) i = own i
binds_own (AnExpr e) i = absurd (in_none i)
binds_own (AStmt s) i = absurd (in_none i)

binds_param : (n : Spot) {t : List ℕ} → In t (params_of n) → Binds n t
binds_param (AFun (FunAt at names o params body funs)) i = parameter i
binds_param (AnExpr e) i = absurd (in_none i)
binds_param (AStmt s) i = absurd (in_none i)

binds_var : (n : Spot) {s : Spot} {t : List ℕ} → In s (body_of n) → Declares s t → Binds n t
binds_var (AFun (FunAt at names o params body funs)) i d = hoisted i d
binds_var (AnExpr e) i d = absurd (in_none i)
binds_var (AStmt s) i d = absurd (in_none i)

binds_inner : (n : Spot) {t : List ℕ} → In t (inner_names n) → Binds n t
binds_inner (AFun (FunAt at names o params body funs)) i = function i
binds_inner (AnExpr e) i = absurd (in_none i)
binds_inner (AStmt s) i = absurd (in_none i)

binds_caught : (n : Spot) {t : List ℕ} → In t (caught_of n) → Binds n t
binds_caught (AStmt (StmtAt at names (Try body (CatchAs x ss) last))) i = subst (Binds (AStmt (StmtAt at names (Try body (CatchAs x ss) last)))) (sym (in_one i)) caught
binds_caught (AStmt (StmtAt at names (Try body NoCatch last))) i = absurd (in_none i)
binds_caught (AStmt (StmtAt at names form)) i = absurd (in_none i)
binds_caught (AnExpr e) i = absurd (in_none i)
binds_caught (AFun g) i = absurd (in_none i)

carried : (F : Spot → List (List ℕ)) (h : (n : Spot) → F (bare n) ≡ F n) (n m : Spot) {t : List ℕ} → bare n ≡ bare m → In t (F n) → In t (F m)
carried F h n m {t} e i = subst (In t) (sym (h n) ∙ ap F e ∙ h m) i

binds : {n : Spot} {t : List ℕ} (m : Spot) → bare n ≡ bare m → Binds n t → Binds m t
binds m e (own {g} i) = binds_own m (carried own_of own_same (AFun g) m e i)
binds m e (parameter {at} {names} {own = o} {params} {body} {funs} i) = binds_param m (carried params_of params_same (AFun (FunAt at names o params body funs)) m e i)
binds m e (hoisted {at} {names} {own = o} {params} {body} {funs} i d) =
    let n = AFun (FunAt at names o params body funs) in
    let r = matched bare (body_of n) (body_of m) (same_parts body_of body_same n m e) i in
    binds_var m r.is_in (declares r.from (sym r.same) d)
binds m e (function {at} {names} {own = o} {params} {body} {funs} i) = binds_inner m (carried inner_names inner_same (AFun (FunAt at names o params body funs)) m e i)
binds m e (caught {at} {names} {body} {block = ss} {last} {x}) = binds_caught m (carried caught_of caught_same (AStmt (StmtAt at names (Try body (CatchAs x ss) last))) m e here)

pub bound : (l m : List Spot) (t : List ℕ) → map bare l ≡ map bare m → IsBound l t → IsBound m t
bound l m t e b =
    let r = matched bare l m e b.is_in in
    record { by = r.from; is_in = r.is_in; binds = binds r.from (sym r.same) b.binds }
