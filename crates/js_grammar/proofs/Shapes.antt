-- Tokens without places spell the tree without places, so the same spellings have the same tree.
use Rattle.std.proofs.Common.{◌≡◌, ℕ, suc, List, [], ◌∷◌, ◌++◌, Option, Some, None, refl, ap, sym, subst, ◌∙◌}
use Rattle.js_grammar.specs.declared.Sign.{Sign}
use Rattle.js_grammar.specs.declared.Sign.TheVariants as sign
use Rattle.js_grammar.specs.declared.Infix.TheVariants as infixes
use Rattle.js_grammar.specs.declared.Prefix.TheVariants as prefixes
use Rattle.js_grammar.specs.Grammar.{Lexeme, Token, Deep, Thing, An, Items, Keys, Maybe, Names, Code, Init, Vars, A, Statements, Block, Cases, Body, Spells, IsProgram, texts, places, own_text, own_places, fun_of, goes_on, has_default}
use Rattle.js_grammar.specs.Grammar.Spells.{name, number, string, this, null, true_word, false_word, paren, array, object, unnamed, named, operand, operand_dot, operand_sub, left_hand, dot, sub, call, new_with, new_alone, unary, post_step, before_operand, operators, looser, between, assignment, choice, assign, whole, comma, no_items, first_item, next_item, no_keys, first_key, next_key, nothing, something, no_names, first_name, next_name, code, empty_body, body_statement, body_function, no_statement, next_statement, block, no_init, init, first_var, next_var, variables, only, if_alone, if_else, else_if, while_loop, do_loop, for_vars, for_items, for_in, for_var_in, continue_loop, continue_label, break_loop, break_label, returns, throws, with_object, switch, no_case, next_case, default_case, label, try_catch, try_finally, try_both}
use Rattle.js_grammar.specs.Unplaced.{spellings, zeros, unplaced_expr, unplaced_exprs, unplaced_optional, unplaced_properties, unplaced_decls, unplaced_stmt, unplaced_stmts, unplaced_clauses, unplaced_fun, unplaced_funs}
use Rattle.js_grammar.proofs.Laws.{one_tree}
use Rattle.js_tree.specs.Plain.{ExprAt, NoExpr, SomeExpr, AndProperty, Stmts, Clauses, NoClauses, AndClause, FunAt, Funs}
use Rattle.exact_refusals.specs.Places.{signs}

abbrev bare : Lexeme → Lexeme
bare x = record { text = x.text; at = 0 }

abbrev bare_tokens : List Deep → List Deep
bare_tokens [] = []
bare_tokens (((s, x), d) ∷ ts) = ((s, bare x), d) ∷ bare_tokens ts

abbrev bare_names : List Lexeme → List Lexeme
bare_names [] = []
bare_names (x ∷ xs) = bare x ∷ bare_names xs

abbrev bare_own : Option Lexeme → Option Lexeme
bare_own None = None
bare_own (Some x) = Some (bare x)

abbrev bare_thing : Thing → Thing
bare_thing (An level e) = An level (unplaced_expr e)
bare_thing (Items b xs) = Items b (unplaced_exprs xs)
bare_thing (Keys ps at) = Keys (unplaced_properties ps) (zeros at)
bare_thing (Maybe v) = Maybe (unplaced_optional v)
bare_thing (Names xs) = Names (bare_names xs)
bare_thing (Code w own f) = Code (bare w) (bare_own own) (unplaced_fun f)
bare_thing (Init b v) = Init b (unplaced_optional v)
bare_thing (Vars b ds) = Vars b (unplaced_decls ds)
bare_thing (A s) = A (unplaced_stmt s)
bare_thing (Statements ss) = Statements (unplaced_stmts ss)
bare_thing (Block ss) = Block (unplaced_stmts ss)
bare_thing (Cases cs) = Cases (unplaced_clauses cs)
bare_thing (Body ss fs) = Body (unplaced_stmts ss) (unplaced_funs fs)

zeros_append : (xs ys : List ℕ) → zeros (xs ++ ys) ≡ zeros xs ++ zeros ys
zeros_append [] ys = refl
zeros_append (x ∷ xs) ys = ap (λ zs. 0 ∷ zs) (zeros_append xs ys)

names_append : (xs ys : List Lexeme) → bare_names (xs ++ ys) ≡ bare_names xs ++ bare_names ys
names_append [] ys = refl
names_append (x ∷ xs) ys = ap (λ zs. bare x ∷ zs) (names_append xs ys)

texts_bare : (xs : List Lexeme) → texts (bare_names xs) ≡ texts xs
texts_bare [] = refl
texts_bare (x ∷ xs) = ap (λ zs. x.text ∷ zs) (texts_bare xs)

places_bare : (xs : List Lexeme) → places (bare_names xs) ≡ zeros (places xs)
places_bare [] = refl
places_bare (x ∷ xs) = ap (λ zs. 0 ∷ zs) (places_bare xs)

own_text_bare : (own : Option Lexeme) → own_text (bare_own own) ≡ own_text own
own_text_bare None = refl
own_text_bare (Some x) = refl

own_places_bare : (own : Option Lexeme) (ps : List ℕ) → own_places (bare_own own) (zeros ps) ≡ zeros (own_places own ps)
own_places_bare None ps = refl
own_places_bare (Some x) ps = refl

fun_bare : (w : Lexeme) (own : Option Lexeme) (params : List Lexeme) (body : Stmts) (funs : Funs) →
    fun_of (bare w) (bare_own own) (bare_names params) (unplaced_stmts body) (unplaced_funs funs) ≡ unplaced_fun (fun_of w own params body funs)
unfolding unplaced_exprs
fun_bare w own params body funs =
    let z = zeros (own_places own (places params)) in
    let b = unplaced_stmts body in
    let fs = unplaced_funs funs in
    ap (λ ps. FunAt 0 ps (own_text (bare_own own)) (texts (bare_names params)) b fs) (ap (own_places (bare_own own)) (places_bare params) ∙ own_places_bare own (places params))
    ∙ ap (λ t. FunAt 0 z t (texts (bare_names params)) b fs) (own_text_bare own)
    ∙ ap (λ ts. FunAt 0 z (own_text own) ts b fs) (texts_bare params)

goes_bare : (ts : List Deep) → goes_on (bare_tokens ts) ≡ goes_on ts
goes_bare [] = refl
goes_bare (((s, x), d) ∷ ts) = refl

default_bare : (cs : Clauses) → has_default (unplaced_clauses cs) ≡ has_default cs
unfolding unplaced_exprs
default_bare NoClauses = refl
default_bare (AndClause cs NoExpr ss) = refl
default_bare (AndClause cs (SomeExpr e) ss) = default_bare cs

-- row by row
bares : {thing : Thing} {d : ℕ} {ts rest : List Deep} → Spells thing d ts rest → Spells (bare_thing thing) d (bare_tokens ts) (bare_tokens rest)
unfolding unplaced_exprs
bares name = name
bares number = number
bares string = string
bares this = this
bares null = null
bares true_word = true_word
bares false_word = false_word
bares (paren s) = paren (bares s)
bares (array s) = array (bares s)
bares (object s) = object (bares s)
bares (unnamed s) = unnamed (bares s)
bares (named s) = named (bares s)
bares (operand s) = operand (bares s)
bares (operand_dot {e = ExprAt at names form} s) = operand_dot (bares s)
bares (operand_sub {e = ExprAt at names form} s t) = operand_sub (bares s) (bares t)
bares (left_hand s) = left_hand (bares s)
bares (dot {e = ExprAt at names form} s) = dot (bares s)
bares (sub {e = ExprAt at names form} s t) = sub (bares s) (bares t)
bares (call {f = ExprAt at names form} s t) = call (bares s) (bares t)
bares (new_with s t) = new_with (bares s) (bares t)
bares (new_alone {rest = rest} s h) = new_alone (bares s) (goes_bare rest ∙ h)
bares (unary s) = unary (bares s)
bares (post_step {e = ExprAt at names form} is s) = post_step is (bares s)
bares (before_operand {o = prefixes.Unary o} is s) = before_operand is (bares s)
bares (before_operand {o = prefixes.Step o} is s) = before_operand is (bares s)
bares (operators s) = operators (bares s)
bares (looser s) = looser (bares s)
bares (between {a = ExprAt at names form} {o = infixes.Binary o} is s t) = between is (bares s) (bares t)
bares (between {a = ExprAt at names form} {o = infixes.And} is s t) = between is (bares s) (bares t)
bares (between {a = ExprAt at names form} {o = infixes.Or} is s t) = between is (bares s) (bares t)
bares (assignment s) = assignment (bares s)
bares (choice {a = ExprAt at names form} s t u) = choice (bares s) (bares t) (bares u)
bares (assign {a = ExprAt at names form} is s t) = assign is (bares s) (bares t)
bares (whole s) = whole (bares s)
bares (comma {a = ExprAt at names form} s t) = comma (bares s) (bares t)
bares no_items = no_items
bares (first_item s) = first_item (bares s)
bares (next_item s t) = next_item (bares s) (bares t)
bares no_keys = no_keys
bares (first_key is s) = first_key is (bares s)
bares (next_key {ps = ps} {n = n} {v = v} {e = e} {at = at} {x = x} {d = d} {ts = ts} {rest = rest} s is t) = subst (λ zs. Spells (Keys (unplaced_properties (AndProperty (AndProperty ps n v) x.text e)) zs) d (bare_tokens ts) (bare_tokens rest)) (sym (zeros_append at (x.at ∷ []))) (next_key (bares s) is (bares t))
bares nothing = nothing
bares (something s) = something (bares s)
bares no_names = no_names
bares first_name = first_name
bares (next_name {y = y} {x = x} {xs = xs} {d = d} {ts = ts} {rest = rest} s) = subst (λ zs. Spells (Names (bare y ∷ zs)) d (bare_tokens ts) (bare_tokens rest)) (sym (names_append xs (x ∷ []))) (next_name (bares s))
bares (code {w = w} {own = own} {params = params} {body = body} {funs = funs} {o = o} {d = d} {ts = ts} {rest = rest} s t) = subst (λ f. Spells (Code (bare w) (bare_own own) f) d (((sign.Open, bare o), suc d) ∷ bare_tokens ts) (bare_tokens rest)) (fun_bare w own params body funs) (code (bares s) (bares t))
bares empty_body = empty_body
bares (body_statement s t) = body_statement (bares s) (bares t)
bares (body_function s t) = body_function (bares s) (bares t)
bares no_statement = no_statement
bares (next_statement s t) = next_statement (bares s) (bares t)
bares (block s) = block (bares s)
bares no_init = no_init
bares (init s) = init (bares s)
bares (first_var s) = first_var (bares s)
bares (next_var s t) = next_var (bares s) (bares t)
bares (variables s) = variables (bares s)
bares (only is s) = only is (bares s)
bares (if_alone s t) = if_alone (bares s) (bares t)
bares (if_else s t u) = if_else (bares s) (bares t) (bares u)
bares (else_if s t u) = else_if (bares s) (bares t) (bares u)
bares (while_loop s t) = while_loop (bares s) (bares t)
bares (do_loop s t) = do_loop (bares s) (bares t)
bares (for_vars s t u v) = for_vars (bares s) (bares t) (bares u) (bares v)
bares (for_items s t u v) = for_items (bares s) (bares t) (bares u) (bares v)
bares (for_in s t) = for_in (bares s) (bares t)
bares (for_var_in s t) = for_var_in (bares s) (bares t)
bares continue_loop = continue_loop
bares continue_label = continue_label
bares break_loop = break_loop
bares break_label = break_label
bares (returns s) = returns (bares s)
bares (throws s) = throws (bares s)
bares (with_object s t) = with_object (bares s) (bares t)
bares (switch s t) = switch (bares s) (bares t)
bares no_case = no_case
bares (next_case s t u) = next_case (bares s) (bares t) (bares u)
bares (default_case {cs = cs} one s t) = default_case (default_bare cs ∙ one) (bares s) (bares t)
bares (label s) = label (bares s)
bares (try_catch s t) = try_catch (bares s) (bares t)
bares (try_finally s t) = try_finally (bares s) (bares t)
bares (try_both s t u) = try_both (bares s) (bares t) (bares u)

abbrev rebuilt : List (Sign × List ℕ) → List Token
rebuilt [] = []
rebuilt ((s, text) ∷ ts) = (s, record { text = text; at = 0 }) ∷ rebuilt ts

signs_bare : (ts : List Deep) → signs (bare_tokens ts) ≡ rebuilt (spellings ts)
signs_bare [] = refl
signs_bare (((s, x), d) ∷ ts) = ap (λ us. (s, bare x) ∷ us) (signs_bare ts)

program_bare : (ts : List Deep) (p : Stmts) → IsProgram ts p → IsProgram (bare_tokens ts) (unplaced_stmts p)
program_bare ts p h = (bare (h.0), bares (h.1))

-- the same spellings have the same tree
pub one_shape : (ts us : List Deep) (p q : Stmts) → IsProgram ts p → IsProgram us q → spellings ts ≡ spellings us → unplaced_stmts p ≡ unplaced_stmts q
one_shape ts us p q h k same =
    (one_tree (bare_tokens ts) (bare_tokens us) (unplaced_stmts p) (unplaced_stmts q) (program_bare ts p h) (program_bare us q k) (signs_bare ts ∙ ap rebuilt same ∙ sym (signs_bare us))).1
