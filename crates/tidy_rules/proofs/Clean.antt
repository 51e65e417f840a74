-- Programs that agree apart from places break no rule together.
use Rattle.std.proofs.Common.{◌≡◌, ℕ, List, [], ◌∷◌, ◌++◌, refl, sym, ap, ◌∙◌, Bool, true, false, ◌&&◌, None, Some, arith, length}
use Rattle.std.specs.Prelude.{map, codes, if◌then◌else◌}
use Rattle.std.specs.Str.{bytes_eq}
use Rattle.js_tree.specs.Plain.{Expr, ExprAt, Function, Dot, Call, StmtAt, Only, Stmts, Fun, FunAt}
use Rattle.js_tree.specs.Parts.{Spot, AnExpr, AStmt, AFun, exprs_spots, stmts_spots}
use Rattle.js_grammar.specs.Unplaced.{unplaced_expr, unplaced_exprs, unplaced_stmts, unplaced_fun}
use Rattle.first_breach.proofs.Members.{map_append}
use Rattle.adsafe_rules.specs.declared.scope.Scope.{Scope}
use Rattle.adsafe_rules.specs.declared.scope.Scope.TheVariants as scope
use Rattle.adsafe_rules.specs.Forms.{is_string}
use Rattle.adsafe_rules.specs.Program.{opening_word, is_opening_name, is_plain_fun, is_plain_function, are_arguments, is_adsafe_dot, is_opening_call, is_opening, call_arguments, arguments_of, first_string, function_of, second_function, opening_names, opening_functions, spot_place, tops, Misopened, nothing, first, second, name, Breaks, A02, within, IsClean}
use Rattle.tidy_rules.proofs.Bare.{bare, texts, name_bare, string_bare, exprs_bare, stmts_bare, literal_bare}
use Rattle.tidy_rules.proofs.Ignoring.{Somewhere, named_by, any_found_too}

plain_fun_bare : (n : ℕ) (g : Fun) → is_plain_fun n (unplaced_fun g) ≡ is_plain_fun n g
unfolding unplaced_exprs
plain_fun_bare n (FunAt at names None params body funs) = refl
plain_fun_bare n (FunAt at names (Some x) params body funs) = refl

plain_bare : (n : ℕ) (e : Expr) → is_plain_function n (unplaced_expr e) ≡ is_plain_function n e
unfolding unplaced_exprs
plain_bare n (ExprAt at names (Function g)) = plain_fun_bare n g
plain_bare n (ExprAt at names form) = refl

two_bare : (n : ℕ) (a g : Expr) → (is_string (unplaced_expr a) && is_plain_function n (unplaced_expr g)) ≡ (is_string a && is_plain_function n g)
two_bare n a g = ap (λ b. b && is_plain_function n (unplaced_expr g)) (string_bare a) ∙ ap (λ b. is_string a && b) (plain_bare n g)

arguments_bare : (s : Scope) (l : List Spot) → are_arguments s (map bare l) ≡ are_arguments s l
arguments_bare (scope.Id slot) (AnExpr a ∷ []) = string_bare a
arguments_bare scope.Lib (AnExpr a ∷ AnExpr g ∷ []) = two_bare 1 a g
arguments_bare (scope.Go slot) (AnExpr a ∷ AnExpr g ∷ []) = two_bare 2 a g
arguments_bare s l = refl

dot_bare : (word : List ℕ) (e : Expr) → is_adsafe_dot word (unplaced_expr e) ≡ is_adsafe_dot word e
unfolding unplaced_exprs
dot_bare word (ExprAt at names (Dot e x)) = ap (λ b. b && bytes_eq x word) (name_bare (codes "ADSAFE") e)
dot_bare word (ExprAt at names form) = refl

call_bare : (s : Scope) (e : Expr) → is_opening_call s (unplaced_expr e) ≡ is_opening_call s e
unfolding unplaced_exprs
call_bare s (ExprAt at names (Call e args)) =
    ap (λ b. b && are_arguments s (exprs_spots (unplaced_exprs args))) (dot_bare (opening_word s) e)
    ∙ ap (λ b. is_adsafe_dot (opening_word s) e && b) (ap (are_arguments s) (exprs_bare args) ∙ arguments_bare s (exprs_spots args))
call_bare s (ExprAt at names form) = refl

opening_bare : (s : Scope) (n : Spot) → is_opening s (bare n) ≡ is_opening s n
unfolding unplaced_exprs
opening_bare s (AStmt (StmtAt at names (Only e))) = call_bare s e
opening_bare s (AStmt (StmtAt at names form)) = refl
opening_bare s (AnExpr e) = refl
opening_bare s (AFun g) = refl

call_arguments_bare : (e : Expr) → call_arguments (unplaced_expr e) ≡ map bare (call_arguments e)
unfolding unplaced_exprs
call_arguments_bare (ExprAt at names (Call e args)) = exprs_bare args
call_arguments_bare (ExprAt at names form) = refl

arguments_of_bare : (n : Spot) → arguments_of (bare n) ≡ map bare (arguments_of n)
unfolding unplaced_exprs
arguments_of_bare (AStmt (StmtAt at names (Only e))) = call_arguments_bare e
arguments_of_bare (AStmt (StmtAt at names form)) = refl
arguments_of_bare (AnExpr e) = refl
arguments_of_bare (AFun g) = refl

first_string_bare : (l : List Spot) → texts (first_string (map bare l)) ≡ texts (first_string l)
first_string_bare [] = refl
first_string_bare (AnExpr a ∷ l) = literal_bare a
first_string_bare (AStmt s ∷ l) = refl
first_string_bare (AFun g ∷ l) = refl

opening_names_bare : (n : Spot) → texts (opening_names (bare n)) ≡ texts (opening_names n)
opening_names_bare n = ap (λ l. texts (first_string l)) (arguments_of_bare n) ∙ first_string_bare (arguments_of n)

function_of_bare : (e : Expr) → function_of (unplaced_expr e) ≡ map bare (function_of e)
unfolding unplaced_exprs
function_of_bare (ExprAt at names (Function g)) = refl
function_of_bare (ExprAt at names form) = refl

second_function_bare : (l : List Spot) → second_function (map bare l) ≡ map bare (second_function l)
second_function_bare [] = refl
second_function_bare (a ∷ []) = refl
second_function_bare (a ∷ AnExpr e ∷ l) = function_of_bare e
second_function_bare (a ∷ AStmt s ∷ l) = refl
second_function_bare (a ∷ AFun g ∷ l) = refl

functions_of_bare : (n : Spot) → opening_functions (bare n) ≡ map bare (opening_functions n)
functions_of_bare n = ap second_function (arguments_of_bare n) ∙ second_function_bare (arguments_of n)

if_opening : (b : Bool) (n : Spot) → (if b then opening_functions (bare n) else bare n ∷ []) ≡ map bare (if b then opening_functions n else n ∷ [])
if_opening true n = functions_of_bare n
if_opening false n = refl

tops_bare : (s : Scope) (l : List Spot) → tops s (map bare l) ≡ map bare (tops s l)
tops_bare s [] = refl
tops_bare s (n ∷ l) =
    ap (λ b. (if b then opening_functions (bare n) else bare n ∷ []) ++ map bare l) (opening_bare s n)
    ∙ ap (λ k. k ++ map bare l) (if_opening (is_opening s n) n)
    ∙ sym (map_append bare (if is_opening s n then opening_functions n else n ∷ []) l)

-- A02
abbrev head_of : Spot → List Spot → Spot
head_of d [] = d
head_of d (x ∷ l) = x

same_opening : (s : Scope) (a b : Spot) → bare a ≡ bare b → is_opening s b ≡ is_opening s a
same_opening s a b e = sym (opening_bare s b) ∙ ap (is_opening s) (sym e) ∙ opening_bare s a

one_misopened : (s : Scope) (l : List Spot) (n : Spot) {p : ℕ} → map bare l ≡ bare n ∷ [] → Misopened s l p → Somewhere (Misopened s (n ∷ []))
one_misopened s l n e nothing = absurd (omega (arith, ap length e))
one_misopened s l n e (first {s = a} is) = record { at = spot_place n; broken = first (same_opening s a n (ap (head_of (bare a)) e) ∙ is) }
one_misopened s l n e second = absurd (omega (arith, ap length e))
one_misopened s l n e (name {s = a} is i not) =
    let d = ap (head_of (bare a)) e in
    let f = named_by opening_names opening_names_bare a n d i in
    record { at = f.from.at; broken = name (same_opening s a n d ∙ is) f.is_in (ap (is_opening_name s) f.same ∙ not) }

misopened_too : (s : Scope) (l m : List Spot) {p : ℕ} → map bare l ≡ map bare m → Misopened s l p → Somewhere (Misopened s m)
misopened_too s l [] e h = record { at = 0; broken = nothing }
misopened_too s l (n ∷ []) e h = one_misopened s l n e h
misopened_too s l (n ∷ k ∷ m) e h = record { at = spot_place k; broken = second }

breaks_too : (p q : Stmts) (s : Scope) {r x : ℕ} → map bare (stmts_spots p) ≡ map bare (stmts_spots q) → Breaks p s r x → Somewhere (Breaks q s r)
breaks_too p q s e (A02 h) = let f = misopened_too s (stmts_spots p) (stmts_spots q) e h in record { at = f.at; broken = A02 f.broken }
breaks_too p q s e (within h) =
    let f = any_found_too (tops s (stmts_spots p)) (tops s (stmts_spots q)) (sym (tops_bare s (stmts_spots p)) ∙ ap (tops s) e ∙ tops_bare s (stmts_spots q)) h in
    record { at = f.at; broken = within f.broken }

pub clean_too : (p q : Stmts) (s : Scope) → unplaced_stmts q ≡ unplaced_stmts p → IsClean p s → IsClean q s
clean_too p q s e c = λ r x b. let f = breaks_too q p s (sym (stmts_bare q) ∙ ap stmts_spots e ∙ stmts_bare p) b in c r f.at f.broken
