-- What the walk passes over breaks nothing but the rule that exempts it.
use Rattle.std.proofs.Common.{◌≡◌, ℕ, List, [], ◌∷◌, refl, sym, ap, ◌∙◌, subst, inl, inr, ◌⊎◌, Bool, true, false, ◌&&◌}
use Rattle.std.specs.Prelude.{codes, not, ◌||◌, if◌then◌else◌}
use Rattle.std.specs.List.{list_any}
use Rattle.std.specs.Str.{bytes_eq}
use Rattle.std.proofs.lemmas.Slice.Eq.{bytes_eq-Decides}
use Rattle.code_units.specs.Permitted.{is_banned, has_edge_underscore}
use Rattle.js_tree.specs.Plain.{Expr, ExprAt, Str, Name, Function, Dot, Call, Exprs, Stmt, StmtAt, Only, Fun}
use Rattle.js_tree.specs.Parts.{Spot, AnExpr, AStmt, exprs_spots}
use Rattle.first_breach.specs.Lists.{In}
use Rattle.first_breach.proofs.Members.{in_none, in_one, in_split}
use Rattle.node_rules.specs.Words.{is_global, is_callable, is_reaching}
use Rattle.node_rules.specs.Names.{Named, placed}
use Rattle.node_rules.specs.Forms.{is_name, is_string, is_allowed_callee, is_text, is_directive, is_act}
use Rattle.node_rules.specs.Parts.{Stands, itself, outside, inside}
use Rattle.adsafe_rules.specs.Rows.{Broken, A03, A04, A05, A05_name, A06, A07, A08, A09, A10, A11, A12, A13, A14, A15, A16, A17, A18, A19, AnyFound}
use Rattle.adsafe_rules.specs.declared.scope.Scope.{Scope}
use Rattle.adsafe_rules.specs.declared.scope.Scope.TheVariants as scope
use Rattle.adsafe_rules.specs.Program.{opening_word, is_plain_function, are_arguments, is_adsafe_dot, is_opening_call, is_opening, call_arguments, function_of, second_function, opening_functions}

both_true : (a b : Bool) → (a && b) ≡ true → (a ≡ true) × (b ≡ true)
both_true true b h = (refl, h)
both_true false b h = cc

never : {b : Bool} → b ≡ false → b ≡ true → ⊥
never e h = cc

-- a text that is one of a list
abbrev Each : (List ℕ → Type 0) → List (List ℕ) → Type 0
Each P [] = Unit {0}
Each P (w ∷ ws) = P w × Each P ws

one_case : (P : List ℕ → Type 0) (x w : List ℕ) (b c : Bool) → bytes_eq x w ≡ b → (b || c) ≡ true → P w → (c ≡ true → P x) → P x
one_case P x w true c e h p k = subst P (sym ((bytes_eq-Decides x w).0 e)) p
one_case P x w false c e h p k = k h

any_is : (P : List ℕ → Type 0) (x : List ℕ) (ws : List (List ℕ)) → Each P ws → list_any (bytes_eq x) ws ≡ true → P x
any_is P x [] h e = cc
any_is P x (w ∷ ws) h e = one_case P x w (bytes_eq x w) (list_any (bytes_eq x) ws) refl e h.0 (any_is P x ws h.1)

abbrev Passes : List ℕ → Type 0
Passes x = (has_edge_underscore x ≡ false) × (is_banned x ≡ false)

callable_passes : (x : List ℕ) → is_callable x ≡ true → Passes x
unfolding is_callable has_edge_underscore is_banned
callable_passes x h = any_is Passes x
    (codes "create" ∷ codes "fromJson" ∷ codes "get" ∷ codes "has" ∷ codes "isArray" ∷ codes "keys" ∷ codes "later" ∷ codes "log" ∷ codes "post" ∷ codes "remove" ∷ codes "set" ∷ codes "toJson" ∷ [])
    ((refl, refl), ((refl, refl), ((refl, refl), ((refl, refl), ((refl, refl), ((refl, refl), ((refl, refl), ((refl, refl), ((refl, refl), ((refl, refl), ((refl, refl), ((refl, refl), tt)))))))))))) h

abbrev IsListed : List ℕ → Type 0
IsListed x = (has_edge_underscore x ≡ false) × (is_reaching x ≡ false) × (is_global x ≡ true)

adsafe_listed : (x : List ℕ) → bytes_eq x (codes "ADSAFE") ≡ true → IsListed x
unfolding has_edge_underscore is_reaching is_global
adsafe_listed x h = subst IsListed (sym ((bytes_eq-Decides x (codes "ADSAFE")).0 h)) (refl, refl, refl)

-- a property by its text
placed_text : (at : ℕ) (names x : List ℕ) (y : Named) → In y (placed at names (x ∷ [])) → y.text ≡ x
placed_text at [] x y i = ap (λ (z : Named). z.text) (in_one i)
placed_text at (p ∷ names) x y i = ap (λ (z : Named). z.text) (in_one i)

-- the name `ADSAFE`
name_breaks : {env : List Spot} {at : ℕ} {names x : List ℕ} {r p : ℕ} → IsListed x → Broken env (AnExpr (ExprAt at names (Name x))) r p → r ≡ 9
name_breaks l (A03 i h) = absurd (never (ap has_edge_underscore (ap (λ (z : Named). z.text) (in_one i)) ∙ l.0) h)
name_breaks l (A04 h) = cc
name_breaks l (A05 i h) = absurd (in_none i)
name_breaks l (A05_name i h) = absurd (never (ap is_reaching (ap (λ (z : Named). z.text) (in_one i)) ∙ l.1) h)
name_breaks l (A06 i u g) = absurd (never g (ap is_global (ap (λ (z : Named). z.text) (in_one i)) ∙ l.2))
name_breaks l (A07 i) = absurd (in_none i)
name_breaks l (A08 i h) = absurd (in_none i)
name_breaks l (A09 h) = refl
name_breaks l (A10 m i h) = cc
name_breaks l (A12 h) = cc
name_breaks l (A13 h) = cc
name_breaks l (A14 h) = cc
name_breaks l (A15 h) = cc
name_breaks l (A17 h) = cc
name_breaks l (A19 i) = absurd (in_none i)

name_stands : {env around : List Spot} {at : ℕ} {names x : List ℕ} {m : Spot} {r p : ℕ} → IsListed x → Stands env (AnExpr (ExprAt at names (Name x))) around m → Broken around m r p → r ≡ 9
name_stands l itself b = name_breaks l b
name_stands l (outside i s) b = absurd (in_none i)
name_stands l (inside i s) b = absurd (in_none i)

pub adsafe_stands : {env around : List Spot} {m : Spot} {r p : ℕ} (e : Expr) → is_name (codes "ADSAFE") e ≡ true → Stands env (AnExpr e) around m → Broken around m r p → r ≡ 9
adsafe_stands (ExprAt at names (Name x)) h s b = name_stands (adsafe_listed x h) s b
adsafe_stands (ExprAt at names form) h s b = cc

-- a property of it that may be called
dot_breaks : {env : List Spot} {at : ℕ} {names x : List ℕ} {e : Expr} {r p : ℕ} → is_name (codes "Math") e ≡ false → Passes x → Broken env (AnExpr (ExprAt at names (Dot e x))) r p → ⊥
dot_breaks {at = at} {names = names} {x = x} k l (A03 {x = y} i h) = never (ap has_edge_underscore (placed_text at names x y i) ∙ l.0) h
dot_breaks k l (A04 h) = cc
dot_breaks {at = at} {names = names} {x = x} k l (A05 {x = y} i h) = never (ap is_banned (placed_text at names x y i) ∙ l.1) h
dot_breaks k l (A05_name i h) = in_none i
dot_breaks k l (A06 i u g) = in_none i
dot_breaks k l (A07 i) = in_none i
dot_breaks k l (A08 i h) = in_none i
dot_breaks k l (A09 h) = cc
dot_breaks k l (A10 m i h) = never k m
dot_breaks k l (A12 h) = cc
dot_breaks k l (A13 h) = cc
dot_breaks k l (A14 h) = cc
dot_breaks k l (A15 h) = cc
dot_breaks k l (A17 h) = cc
dot_breaks k l (A19 i) = in_none i

dot_stands : {env around : List Spot} {at : ℕ} {names x : List ℕ} {e : Expr} {m : Spot} {r p : ℕ} → is_name (codes "ADSAFE") e ≡ true → is_name (codes "Math") e ≡ false → Passes x → Stands env (AnExpr (ExprAt at names (Dot e x))) around m → Broken around m r p → r ≡ 9
dot_stands h k l itself b = absurd (dot_breaks k l b)
dot_stands {env = env} {around = around} {e = e} {m = m} h k l (outside i s) b = adsafe_stands e h (subst (λ n. Stands env n around m) (in_one i) s) b
dot_stands h k l (inside i s) b = absurd (in_none i)

adsafe_no_math : (e : Expr) → is_name (codes "ADSAFE") e ≡ true → is_name (codes "Math") e ≡ false
adsafe_no_math (ExprAt at names (Name x)) h = ap (λ t. bytes_eq t (codes "Math")) ((bytes_eq-Decides x (codes "ADSAFE")).0 h)
adsafe_no_math (ExprAt at names form) h = cc

pub callee_stands : {env around : List Spot} {m : Spot} {r p : ℕ} (e : Expr) → is_allowed_callee e ≡ true → Stands env (AnExpr e) around m → Broken around m r p → r ≡ 9
callee_stands (ExprAt at names (Dot e x)) h s b = let k = both_true (is_name (codes "ADSAFE") e) (is_callable x) h in dot_stands k.0 (adsafe_no_math e k.0) (callable_passes x k.1) s b
callee_stands (ExprAt at names form) h s b = cc

-- a string by itself
string_breaks : {env : List Spot} {at : ℕ} {names x : List ℕ} {r p : ℕ} → Broken env (AnExpr (ExprAt at names (Str x))) r p → ⊥
string_breaks (A03 i h) = in_none i
string_breaks (A04 h) = cc
string_breaks (A05 i h) = in_none i
string_breaks (A05_name i h) = in_none i
string_breaks (A06 i u g) = in_none i
string_breaks (A07 i) = in_none i
string_breaks (A08 i h) = in_none i
string_breaks (A09 h) = cc
string_breaks (A10 m i h) = cc
string_breaks (A12 h) = cc
string_breaks (A13 h) = cc
string_breaks (A14 h) = cc
string_breaks (A15 h) = cc
string_breaks (A17 h) = cc
string_breaks (A19 i) = in_none i

string_stands : {env around : List Spot} {at : ℕ} {names x : List ℕ} {m : Spot} {r p : ℕ} → Stands env (AnExpr (ExprAt at names (Str x))) around m → Broken around m r p → ⊥
string_stands itself b = string_breaks b
string_stands (outside i s) b = in_none i
string_stands (inside i s) b = in_none i

text_stands : {env around : List Spot} {m : Spot} {r p : ℕ} (text : List ℕ) (e : Expr) → is_text text e ≡ true → Stands env (AnExpr e) around m → Broken around m r p → ⊥
text_stands text (ExprAt at names (Str x)) h s b = string_stands s b
text_stands text (ExprAt at names form) h s b = cc

not_true : (b : Bool) → not b ≡ true → b ≡ false
not_true true e = cc
not_true false e = refl

-- an expression statement
only_breaks : {env : List Spot} {at : ℕ} {names : List ℕ} {e : Expr} {r p : ℕ} → Broken env (AStmt (StmtAt at names (Only e))) r p → (r ≡ 18) × (is_act e ≡ false)
only_breaks (A03 i h) = absurd (in_none i)
only_breaks (A05 i h) = absurd (in_none i)
only_breaks (A05_name i h) = absurd (in_none i)
only_breaks (A06 i u g) = absurd (in_none i)
only_breaks (A08 i h) = absurd (in_none i)
only_breaks (A11 h) = cc
only_breaks (A16 h) = cc
only_breaks {e = e} (A18 h) = (refl, not_true (is_act e) h)

pub directive_stands : {env around : List Spot} {m : Spot} {r p : ℕ} (s : Stmt) → is_directive s ≡ true → Stands env (AStmt s) around m → Broken around m r p → r ≡ 18
directive_stands (StmtAt at names (Only e)) h itself b = (only_breaks b).0
directive_stands {env} {around} {m} (StmtAt at names (Only e)) h (outside i s) b = absurd (text_stands (codes "use strict") e h (subst (λ n. Stands env n around m) (in_one i) s) b)
directive_stands (StmtAt at names (Only e)) h (inside i s) b = absurd (in_none i)
directive_stands (StmtAt at names form) h s b = cc

-- a call by itself
call_breaks : {env : List Spot} {at : ℕ} {names : List ℕ} {e : Expr} {args : Exprs} {r p : ℕ} → Broken env (AnExpr (ExprAt at names (Call e args))) r p → ⊥
call_breaks (A03 i h) = in_none i
call_breaks (A04 h) = cc
call_breaks (A05 i h) = in_none i
call_breaks (A05_name i h) = in_none i
call_breaks (A06 i u g) = in_none i
call_breaks (A07 i) = in_none i
call_breaks (A08 i h) = in_none i
call_breaks (A09 h) = cc
call_breaks (A10 m i h) = cc
call_breaks (A12 h) = cc
call_breaks (A13 h) = cc
call_breaks (A14 h) = cc
call_breaks (A15 h) = cc
call_breaks (A17 h) = cc
call_breaks (A19 i) = in_none i

-- a function expression by itself
function_breaks : {env : List Spot} {at : ℕ} {names : List ℕ} {g : Fun} {r p : ℕ} → Broken env (AnExpr (ExprAt at names (Function g))) r p → ⊥
function_breaks (A03 i h) = in_none i
function_breaks (A04 h) = cc
function_breaks (A05 i h) = in_none i
function_breaks (A05_name i h) = in_none i
function_breaks (A06 i u g) = in_none i
function_breaks (A07 i) = in_none i
function_breaks (A08 i h) = in_none i
function_breaks (A09 h) = cc
function_breaks (A10 m i h) = cc
function_breaks (A12 h) = cc
function_breaks (A13 h) = cc
function_breaks (A14 h) = cc
function_breaks (A15 h) = cc
function_breaks (A17 h) = cc
function_breaks (A19 i) = in_none i

function_stands : {env around : List Spot} {m : Spot} {r p : ℕ} (n : ℕ) (e : Expr) → is_plain_function n e ≡ true → Stands env (AnExpr e) around m → Broken around m r p → AnyFound env (function_of e) r p
function_stands n (ExprAt at names (Function g)) h itself b = absurd (function_breaks b)
function_stands n (ExprAt at names (Function g)) h (outside {p = q} i s) b = record { top = q; is_in = i; found = record { around = _; node = _; stands = s; broken = b } }
function_stands n (ExprAt at names (Function g)) h (inside i s) b = absurd (in_none i)
function_stands n (ExprAt at names form) h s b = cc

a_string_stands : {env around : List Spot} {m : Spot} {r p : ℕ} (e : Expr) → is_string e ≡ true → Stands env (AnExpr e) around m → Broken around m r p → ⊥
a_string_stands (ExprAt at names (Str x)) h s b = string_stands s b
a_string_stands (ExprAt at names form) h s b = cc

-- a string and a function
two_stand : {env around : List Spot} {q m : Spot} {r p : ℕ} (n : ℕ) (a g : Expr) → (is_string a && is_plain_function n g) ≡ true → In q (AnExpr a ∷ AnExpr g ∷ []) → Stands env q around m → Broken around m r p → AnyFound env (function_of g) r p
two_stand {env} {around} {q} {m} n a g h i s b =
    let k = both_true (is_string a) (is_plain_function n g) h in
    elim (in_split (AnExpr a ∷ []) (AnExpr g ∷ []) i) [
      | inl j ↦ absurd (a_string_stands a k.0 (subst (λ x. Stands env x around m) (in_one j) s) b)
      | inr j ↦ function_stands n g k.1 (subst (λ x. Stands env x around m) (in_one j) s) b
    ]

arguments_stand : {env around : List Spot} {q m : Spot} {r p : ℕ} (scope : Scope) (l : List Spot) → are_arguments scope l ≡ true → In q l → Stands env q around m → Broken around m r p → AnyFound env (second_function l) r p
arguments_stand {env} {around} {q} {m} (scope.Id slot) (AnExpr a ∷ []) h i s b = absurd (a_string_stands a h (subst (λ x. Stands env x around m) (in_one i) s) b)
arguments_stand scope.Lib (AnExpr a ∷ AnExpr g ∷ []) h i s b = two_stand 1 a g h i s b
arguments_stand (scope.Go slot) (AnExpr a ∷ AnExpr g ∷ []) h i s b = two_stand 2 a g h i s b
arguments_stand scope l h i s b = cc

-- the callee of the call
opening_passes : (scope : Scope) → Passes (opening_word scope)
unfolding has_edge_underscore is_banned
opening_passes (scope.Id slot) = (refl, refl)
opening_passes scope.Lib = (refl, refl)
opening_passes (scope.Go slot) = (refl, refl)

opening_callee : {env around : List Spot} {m : Spot} {r p : ℕ} (scope : Scope) (e : Expr) → is_adsafe_dot (opening_word scope) e ≡ true → Stands env (AnExpr e) around m → Broken around m r p → r ≡ 9
opening_callee scope (ExprAt at names (Dot e x)) h s b =
    let k = both_true (is_name (codes "ADSAFE") e) (bytes_eq x (opening_word scope)) h in
    dot_stands k.0 (adsafe_no_math e k.0) (subst Passes (sym ((bytes_eq-Decides x (opening_word scope)).0 k.1)) (opening_passes scope)) s b
opening_callee scope (ExprAt at names form) h s b = cc

callee_in : (b : Bool) (e : Expr) (q : Spot) → In q (if b then [] else AnExpr e ∷ []) → q ≡ AnExpr e
callee_in true e q i = absurd (in_none i)
callee_in false e q i = in_one i

call_stands : {env around : List Spot} {m : Spot} {r p : ℕ} (scope : Scope) (e : Expr) → is_opening_call scope e ≡ true → Stands env (AnExpr e) around m → Broken around m r p → (r ≡ 9) ⊎ AnyFound env (second_function (call_arguments e)) r p
call_stands scope (ExprAt at names (Call e args)) h itself b = absurd (call_breaks b)
call_stands {env} {around} {m} scope (ExprAt at names (Call e args)) h (outside {p = q} i s) b =
    let k = both_true (is_adsafe_dot (opening_word scope) e) (are_arguments scope (exprs_spots args)) h in
    elim (in_split (if is_allowed_callee e then [] else AnExpr e ∷ []) (exprs_spots args) i) [
      | inl j ↦ inl (opening_callee scope e k.0 (subst (λ x. Stands env x around m) (callee_in (is_allowed_callee e) e q j) s) b)
      | inr j ↦ inr (arguments_stand scope (exprs_spots args) k.1 j s b)
    ]
call_stands scope (ExprAt at names (Call e args)) h (inside i s) b = absurd (in_none i)
call_stands scope (ExprAt at names form) h s b = cc

call_is_act : (scope : Scope) (e : Expr) → is_opening_call scope e ≡ true → is_act e ≡ true
call_is_act scope (ExprAt at names (Call e args)) h = refl
call_is_act scope (ExprAt at names form) h = cc

pub opening_stands : {env around : List Spot} {m : Spot} {r p : ℕ} (scope : Scope) (s : Spot) → is_opening scope s ≡ true → Stands env s around m → Broken around m r p → (r ≡ 9) ⊎ AnyFound env (opening_functions s) r p
opening_stands scope (AStmt (StmtAt at names (Only e))) h itself b = absurd (never ((only_breaks b).1) (call_is_act scope e h))
opening_stands {env} {around} {m} scope (AStmt (StmtAt at names (Only e))) h (outside i s) b = call_stands scope e h (subst (λ x. Stands env x around m) (in_one i) s) b
opening_stands scope (AStmt (StmtAt at names (Only e))) h (inside i s) b = absurd (in_none i)
opening_stands scope s h k b = cc
