-- What is found of lists, functions and statements.
use Rattle.std.proofs.Common.{◌≡◌, ℕ, suc, List, [], ◌∷◌, ◌++◌, Bool, true, false, Option, Some, None, refl, ap, sym, subst, ◌∙◌, arith, append-nil, append_assoc, map}
use Rattle.std.specs.Prelude.{codes}
use Rattle.js_grammar.specs.declared.Sign.TheVariants as sign
use Rattle.js_grammar.specs.Grammar.{Lexeme, Deep, Primary, Assignment, Whole, Thing, Keys, Maybe, Names, Code, Init, Vars, A, Statements, Body, Spells, texts, places, own_text, own_places, fun_of, has_default}
use Rattle.js_grammar.specs.Grammar.Spells.{object, unnamed, named, no_items, first_item, next_item, no_keys, first_key, next_key, nothing, something, no_names, first_name, next_name, code, empty_body, body_statement, body_function, no_statement, next_statement, no_init, init, first_var, next_var}
use Rattle.js_grammar.specs.Unplaced.{zeros, unplaced_exprs, unplaced_optional, unplaced_properties, unplaced_decls, unplaced_stmt, unplaced_stmts, unplaced_clauses, unplaced_fun, unplaced_funs}
use Rattle.js_tree.specs.Plain.{Expr, ExprAt, Object, Function, Exprs, NoExprs, AndExpr, OptionalExpr, NoExpr, SomeExpr, Properties, NoProperties, AndProperty, Decls, NoDecls, AndDecl, Stmt, Stmts, NoStmts, AndStmt, Clauses, NoClauses, AndClause, Fun, FunAt, Funs, NoFuns, AndFun}
use Rattle.js_print.specs.Tidy.{Tokens, flat, more, mark, name as name_word, listed, label_tokens, expr_tokens, exprs_tokens, properties_tokens, decls_tokens, value_tokens, optional_tokens, stmt_tokens, stmts_tokens, fun_tokens, funs_tokens}
use Rattle.tidy_laws.specs.Told.{as_name, as_string, Written, end, next}
use Rattle.tidy_laws.proofs.Making.{Bound, tok, append, fixed_next, Makes, Made, Found, later}
use Rattle.tidy_laws.proofs.Rows.{made, made_expr, below, marked, opening_row, GoodItems}

-- ## Lists of words

more_append : (ys : List Tokens) (z : Tokens) → more (ys ++ z ∷ []) ≡ more ys ++ (codes "," ∷ (z ++ []))
more_append [] z = refl
more_append (y ∷ ys) z = ap (λ l. codes "," ∷ (y ++ l)) (more_append ys z) ∙ ap (λ l. codes "," ∷ l) (sym (append_assoc y (more ys) (codes "," ∷ (z ++ []))))

pub listed_more : (y : Tokens) (ys : List Tokens) (z : Tokens) → listed (y ∷ (ys ++ z ∷ [])) ≡ listed (y ∷ ys) ++ (codes "," ∷ (z ++ []))
listed_more y ys z = ap (λ l. y ++ l) (more_append ys z) ∙ sym (append_assoc y (more ys) (codes "," ∷ (z ++ [])))

pub listed_next : (ys : List Tokens) (y z : Tokens) → listed ((ys ++ y ∷ []) ++ z ∷ []) ≡ listed (ys ++ y ∷ []) ++ (codes "," ∷ (z ++ []))
listed_next [] y z = listed_more y [] z
listed_next (x ∷ xs) y z = listed_more x (xs ++ y ∷ []) z

-- ## Names without places

abbrev pub bare : Lexeme → Lexeme
bare x = record { text = x.text; at = 0 }

abbrev pub bare_names : List Lexeme → List Lexeme
bare_names [] = []
bare_names (x ∷ xs) = bare x ∷ bare_names xs

abbrev pub bare_own : Option Lexeme → Option Lexeme
bare_own None = None
bare_own (Some x) = Some (bare x)

pub zeros_append : (xs ys : List ℕ) → zeros (xs ++ ys) ≡ zeros xs ++ zeros ys
zeros_append [] ys = refl
zeros_append (x ∷ xs) ys = ap (λ zs. 0 ∷ zs) (zeros_append xs ys)

pub names_append : (xs ys : List Lexeme) → bare_names (xs ++ ys) ≡ bare_names xs ++ bare_names ys
names_append [] ys = refl
names_append (x ∷ xs) ys = ap (λ zs. bare x ∷ zs) (names_append xs ys)

texts_bare : (xs : List Lexeme) → texts (bare_names xs) ≡ texts xs
texts_bare [] = refl
texts_bare (x ∷ xs) = ap (λ zs. x.text ∷ zs) (texts_bare xs)

places_bare : (xs : List Lexeme) → places (bare_names xs) ≡ zeros (places xs)
places_bare [] = refl
places_bare (x ∷ xs) = ap (λ zs. 0 ∷ zs) (places_bare xs)

own_text_bare : (own : Option Lexeme) → own_text (bare_own own) ≡ own_text own
own_text_bare None = refl
own_text_bare (Some x) = refl

own_places_bare : (own : Option Lexeme) (ps : List ℕ) → own_places (bare_own own) (zeros ps) ≡ zeros (own_places own ps)
own_places_bare None ps = refl
own_places_bare (Some x) ps = refl

pub fun_bare : (w : Lexeme) (own : Option Lexeme) (params : List Lexeme) (body : Stmts) (funs : Funs) →
    fun_of (bare w) (bare_own own) (bare_names params) (unplaced_stmts body) (unplaced_funs funs) ≡ unplaced_fun (fun_of w own params body funs)
unfolding unplaced_exprs
fun_bare w own params body funs =
    let z = zeros (own_places own (places params)) in
    let b = unplaced_stmts body in
    let fs = unplaced_funs funs in
    ap (λ ps. FunAt 0 ps (own_text (bare_own own)) (texts (bare_names params)) b fs) (ap (own_places (bare_own own)) (places_bare params) ∙ own_places_bare own (places params))
    ∙ ap (λ t. FunAt 0 z t (texts (bare_names params)) b fs) (own_text_bare own)
    ∙ ap (λ ts. FunAt 0 z (own_text own) ts b fs) (texts_bare params)

pub default_bare : (cs : Clauses) → has_default (unplaced_clauses cs) ≡ has_default cs
unfolding unplaced_exprs
default_bare NoClauses = refl
default_bare (AndClause cs NoExpr ss) = refl
default_bare (AndClause cs (SomeExpr e) ss) = default_bare cs

-- the words of names
abbrev pub names_words : List Lexeme → List Tokens
names_words xs = map name_word (texts xs)

words_append : (xs : List Lexeme) (x : Lexeme) → names_words (xs ++ x ∷ []) ≡ names_words xs ++ name_word x.text ∷ []
words_append [] x = refl
words_append (y ∷ ys) x = ap (λ l. name_word y.text ∷ l) (words_append ys x)

-- the word `function`
abbrev pub function_word : Lexeme
function_word = record { text = codes "function"; at = 0 }

-- other words for the same tokens
pub reworded : {limit : Bound} {thing : Thing} {d : ℕ} {a : Tokens} {rest : List Deep} (b : Tokens) → a ≡ b → Makes limit thing d a rest → Makes limit thing d b rest
reworded {limit} {thing} {d} {a} {rest} b same m = subst (λ ws. Makes limit thing d ws rest) same m

no_way : false ≡ true → ⊥
no_way e = cc

module _ (limit : Bound) where
  -- ## Expressions between commas

  pub no_items_row : (b : Bool) (d : ℕ) → GoodItems limit b NoExprs d
  unfolding unplaced_exprs expr_tokens
  no_items_row b d n h rest = made rest no_items end

  pub first_item_row : (b : Bool) (e : Expr) (d : ℕ) (ts : List Deep) → Found limit (Assignment b) e d ts → GoodItems limit b (AndExpr NoExprs e) d
  unfolding unplaced_exprs expr_tokens
  first_item_row b e d ts f n h rest =
      let m = later limit (Assignment b) e d ts f n h b rest in
      made m.tokens (first_item m.spells) (append m.written end)

  pub next_item_row : (b : Bool) (xs : Exprs) (x e : Expr) (d : ℕ) (us : List Deep) → limit.Allowed d → GoodItems limit b (AndExpr xs x) d → Found limit (Assignment b) e d us → GoodItems limit b (AndExpr (AndExpr xs x) e) d
  unfolding unplaced_exprs expr_tokens
  next_item_row b xs x e d us le g f n h rest =
      let k = later limit (Assignment b) e d us f n h b rest in
      let m = g n h (tok sign.Comma (codes ",") n ∷ k.tokens) in
      reworded _ (sym (listed_next (exprs_tokens xs) (expr_tokens false 2 x) (expr_tokens false 2 e)))
      (made m.tokens (next_item m.spells k.spells) (append m.written (fixed_next limit refl (below limit n d h le) (append k.written end))))

  -- ## Keys

  abbrev pub GoodKeys : Properties → List ℕ → ℕ → Type 0
  GoodKeys ps at d = (n : ℕ) → limit.Stands n d → Made limit (Keys (unplaced_properties ps) (zeros at)) n (listed (properties_tokens ps))

  pub no_keys_row : (d : ℕ) → GoodKeys NoProperties [] d
  unfolding unplaced_exprs expr_tokens
  no_keys_row d n h rest = made rest no_keys end

  pub first_key_row : (x : Lexeme) (e : Expr) (d : ℕ) (ts : List Deep) → limit.Fit sign.Str x.text → limit.Allowed d → Found limit (Assignment false) e d ts → GoodKeys (AndProperty NoProperties x.text e) (x.at ∷ []) d
  unfolding unplaced_exprs expr_tokens
  first_key_row x e d ts fit le f n h rest =
      let l = below limit n d h le in
      let m = later limit (Assignment false) e d ts f n h false rest in
      made (tok sign.Str x.text n ∷ tok sign.Colon (codes ":") n ∷ m.tokens) (first_key refl m.spells) (append (next as_string fit l (fixed_next limit refl l (append m.written end))) end)

  pub next_key_row : (ps : Properties) (k : List ℕ) (v : Expr) (at : List ℕ) (x : Lexeme) (e : Expr) (d : ℕ) (us : List Deep) → limit.Fit sign.Str x.text → limit.Allowed d → GoodKeys (AndProperty ps k v) at d → Found limit (Assignment false) e d us → GoodKeys (AndProperty (AndProperty ps k v) x.text e) (at ++ x.at ∷ []) d
  unfolding unplaced_exprs expr_tokens
  next_key_row ps k v at x e d us fit le g f n h rest =
      let l = below limit n d h le in
      let j = later limit (Assignment false) e d us f n h false rest in
      let m = g n h (tok sign.Comma (codes ",") n ∷ tok sign.Str x.text n ∷ tok sign.Colon (codes ":") n ∷ j.tokens) in
      reworded _ (sym (listed_next (properties_tokens ps) _ _))
      (made m.tokens (subst (λ zs. Spells (Keys (unplaced_properties (AndProperty (AndProperty ps k v) x.text e)) zs) n m.tokens rest) (sym (zeros_append at (x.at ∷ []))) (next_key m.spells refl j.spells))
      (append m.written (fixed_next limit refl l (append (next as_string fit l (fixed_next limit refl l (append j.written end))) end))))

  pub object_row : (p : Lexeme) (ps : Properties) (at : List ℕ) (d : ℕ) (ts : List Deep) → limit.Allowed (suc d) → GoodKeys ps at (suc d) → Found limit Primary (ExprAt p.at at (Object ps)) d (((sign.OpenBrace, p), suc d) ∷ ts)
  unfolding unplaced_exprs expr_tokens
  object_row p ps at d ts le g = opening_row limit _ d _ (λ b. refl) (omega arith) refl refl (limit.flat d le) (λ n h rest.
      let m = g (suc n) (limit.down n d h) (tok sign.CloseBrace (codes "}") (suc n) ∷ rest) in
      made_expr (tok sign.OpenBrace (codes "{") (suc n) ∷ m.tokens) (object m.spells) (marked limit sign.OpenBrace sign.CloseBrace refl refl (below limit (suc n) (suc d) (limit.down n d h) le) m.written) (λ e. absurd (no_way e)))

  -- ## An expression or nothing; variables

  abbrev pub GoodMaybe : OptionalExpr → ℕ → Type 0
  GoodMaybe v d = (n : ℕ) → limit.Stands n d → Made limit (Maybe (unplaced_optional v)) n (optional_tokens v)

  pub nothing_row : (d : ℕ) → GoodMaybe NoExpr d
  unfolding unplaced_exprs expr_tokens
  nothing_row d n h rest = made rest nothing end

  pub something_row : (e : Expr) (d : ℕ) (ts : List Deep) → Found limit Whole e d ts → GoodMaybe (SomeExpr e) d
  unfolding unplaced_exprs expr_tokens
  something_row e d ts f n h rest =
      let m = later limit Whole e d ts f n h false rest in
      made m.tokens (something m.spells) (append m.written end)

  abbrev pub GoodInit : Bool → OptionalExpr → ℕ → Type 0
  GoodInit b v d = (n : ℕ) → limit.Stands n d → Made limit (Init b (unplaced_optional v)) n (value_tokens v)

  pub no_init_row : (b : Bool) (d : ℕ) → GoodInit b NoExpr d
  unfolding unplaced_exprs expr_tokens
  no_init_row b d n h rest = made rest no_init end

  pub init_row : (b : Bool) (e : Expr) (d : ℕ) (ts : List Deep) → limit.Allowed d → Found limit (Assignment b) e d ts → GoodInit b (SomeExpr e) d
  unfolding unplaced_exprs expr_tokens
  init_row b e d ts le f n h rest =
      let m = later limit (Assignment b) e d ts f n h b rest in
      made (tok sign.Assign (codes "=") n ∷ m.tokens) (init m.spells) (fixed_next limit refl (below limit n d h le) (append m.written end))

  abbrev pub GoodVars : Bool → Decls → ℕ → Type 0
  GoodVars b ds d = (n : ℕ) → limit.Stands n d → Made limit (Vars b (unplaced_decls ds)) n (listed (decls_tokens ds))

  pub first_var_row : (b : Bool) (v : OptionalExpr) (x : Lexeme) (d : ℕ) → limit.Fit sign.Name x.text → limit.Allowed d → GoodInit b v d → GoodVars b (AndDecl NoDecls x.text x.at v) d
  unfolding unplaced_exprs expr_tokens
  first_var_row b v x d fit le g n h rest =
      let m = g n h rest in
      made (tok sign.Name x.text n ∷ m.tokens) (first_var m.spells) (append (next as_name fit (below limit n d h le) (append m.written end)) end)

  pub next_var_row : (b : Bool) (ds : Decls) (k : List ℕ) (at : ℕ) (u v : OptionalExpr) (x : Lexeme) (d : ℕ) → limit.Fit sign.Name x.text → limit.Allowed d → GoodVars b (AndDecl ds k at u) d → GoodInit b v d → GoodVars b (AndDecl (AndDecl ds k at u) x.text x.at v) d
  unfolding unplaced_exprs expr_tokens
  next_var_row b ds k at u v x d fit le g i n h rest =
      let l = below limit n d h le in
      let j = i n h rest in
      let m = g n h (tok sign.Comma (codes ",") n ∷ tok sign.Name x.text n ∷ j.tokens) in
      reworded _ (sym (listed_next (decls_tokens ds) _ _))
      (made m.tokens (next_var m.spells j.spells) (append m.written (fixed_next limit refl l (append (next as_name fit l (append j.written end)) end))))

  -- ## Functions

  abbrev pub GoodNames : List Lexeme → ℕ → Type 0
  GoodNames xs d = (n : ℕ) → limit.Stands n d → Made limit (Names (bare_names xs)) n (listed (names_words xs))

  pub no_names_row : (d : ℕ) → GoodNames [] d
  no_names_row d n h rest = made rest no_names end

  pub first_name_row : (x : Lexeme) (d : ℕ) → limit.Fit sign.Name x.text → limit.Allowed d → GoodNames (x ∷ []) d
  first_name_row x d fit le n h rest = made (tok sign.Name x.text n ∷ rest) first_name (next as_name fit (below limit n d h le) end)

  pub next_name_row : (y x : Lexeme) (xs : List Lexeme) (d : ℕ) → limit.Fit sign.Name x.text → limit.Allowed d → GoodNames (y ∷ xs) d → GoodNames (y ∷ xs ++ x ∷ []) d
  next_name_row y x xs d fit le g n h rest =
      let l = below limit n d h le in
      let m = g n h (tok sign.Comma (codes ",") n ∷ tok sign.Name x.text n ∷ rest) in
      reworded _ (sym (ap (λ ws. listed (name_word y.text ∷ ws)) (words_append xs x) ∙ listed_more (name_word y.text) (names_words xs) (name_word x.text)))
      (made m.tokens (subst (λ zs. Spells (Names (bare y ∷ zs)) n m.tokens rest) (sym (names_append xs (x ∷ []))) (next_name m.spells))
      (append m.written (fixed_next limit refl l (next as_name fit l end))))

  -- a function from its `(` on, whose words follow its own name
  abbrev pub GoodCode : Option Lexeme → Fun → ℕ → Type 0
  GoodCode own f d = (words : Tokens) × (fun_tokens f ≡ codes "function" ∷ (label_tokens (own_text own) ++ words)) × ((n : ℕ) → limit.Stands n d → Made limit (Code function_word (bare_own own) (unplaced_fun f)) n words)

  pub unnamed_row : (w : Lexeme) (f : Fun) (d : ℕ) (ts : List Deep) → limit.Allowed d → GoodCode None f d → Found limit Primary (ExprAt w.at [] (Function f)) d (((sign.Function, w), d) ∷ ts)
  unfolding unplaced_exprs expr_tokens
  unnamed_row w f d ts le g = opening_row limit _ d _ (λ b. refl) (omega arith) refl refl le (λ n h rest.
      let m = g.2 n h rest in
      made_expr (tok sign.Function (codes "function") n ∷ m.tokens) (unnamed m.spells)
      (subst (λ ws. Written limit.Allowed limit.Fit ws (tok sign.Function (codes "function") n ∷ m.tokens) rest) (sym (append-nil (fun_tokens f) ∙ g.1)) (fixed_next limit refl (below limit n d h le) m.written))
      (λ e. absurd (no_way e)))

  pub named_row : (w x : Lexeme) (f : Fun) (d : ℕ) (ts : List Deep) → limit.Fit sign.Name x.text → limit.Allowed d → GoodCode (Some x) f d → Found limit Primary (ExprAt w.at [] (Function f)) d (((sign.Function, w), d) ∷ ts)
  unfolding unplaced_exprs expr_tokens
  named_row w x f d ts fit le g = opening_row limit _ d _ (λ b. refl) (omega arith) refl refl le (λ n h rest.
      let l = below limit n d h le in
      let m = g.2 n h rest in
      made_expr (tok sign.Function (codes "function") n ∷ tok sign.Name x.text n ∷ m.tokens) (named m.spells)
      (subst (λ ws. Written limit.Allowed limit.Fit ws (tok sign.Function (codes "function") n ∷ tok sign.Name x.text n ∷ m.tokens) rest) (sym (append-nil (fun_tokens f) ∙ g.1)) (fixed_next limit refl l (next as_name fit l m.written)))
      (λ e. absurd (no_way e)))

  -- ## Statements one after the other

  abbrev pub GoodStmt : Stmt → ℕ → Type 0
  GoodStmt s d = (n : ℕ) → limit.Stands n d → Made limit (A (unplaced_stmt s)) n (stmt_tokens s)

  abbrev pub GoodStmts : Stmts → ℕ → Type 0
  GoodStmts NoStmts d = Unit {0}
  GoodStmts (AndStmt ss s) d = GoodStmts ss d × GoodStmt s d

  abbrev pub GoodFuns : Funs → ℕ → Type 0
  GoodFuns NoFuns d = Unit {0}
  GoodFuns (AndFun fs f) d = GoodFuns fs d × ((x : Lexeme) × limit.Fit sign.Name x.text × GoodCode (Some x) f d)

  pub stmts_made : (ss : Stmts) (d : ℕ) → GoodStmts ss d → (n : ℕ) → limit.Stands n d → Made limit (Statements (unplaced_stmts ss)) n (stmts_tokens ss)
  unfolding unplaced_exprs expr_tokens
  stmts_made NoStmts d g n h rest = made rest no_statement end
  stmts_made (AndStmt ss s) d g n h rest =
      let k = g.1 n h rest in
      let m = stmts_made ss d g.0 n h k.tokens in
      made m.tokens (next_statement m.spells k.spells) (append m.written k.written)

  funs_made : (fs : Funs) (d : ℕ) → limit.Allowed d → GoodFuns fs d → (n : ℕ) → limit.Stands n d → Made limit (Body NoStmts (unplaced_funs fs)) n (funs_tokens fs)
  unfolding unplaced_exprs expr_tokens
  funs_made NoFuns d le g n h rest = made rest empty_body end
  funs_made (AndFun fs f) d le g n h rest =
      let l = below limit n d h le in
      let x = (g.1).0 in
      let c = (g.1).2 in
      let k = c.2 n h rest in
      let m = funs_made fs d le g.0 n h (tok sign.Function (codes "function") n ∷ tok sign.Name x.text n ∷ k.tokens) in
      made m.tokens (body_function m.spells k.spells)
      (append m.written (subst (λ ws. Written limit.Allowed limit.Fit ws (tok sign.Function (codes "function") n ∷ tok sign.Name x.text n ∷ k.tokens) rest) (sym c.1) (fixed_next limit refl l (next as_name (g.1).1 l k.written))))

  body_made : (ss : Stmts) (fs : Funs) (d : ℕ) → limit.Allowed d → GoodStmts ss d → GoodFuns fs d → (n : ℕ) → limit.Stands n d → Made limit (Body (unplaced_stmts ss) (unplaced_funs fs)) n (funs_tokens fs ++ stmts_tokens ss)
  unfolding unplaced_exprs expr_tokens
  body_made NoStmts fs d le g k n h rest = reworded _ (sym (append-nil (funs_tokens fs))) (funs_made fs d le k n h rest)
  body_made (AndStmt ss s) fs d le g k n h rest =
      let j = g.1 n h rest in
      let m = body_made ss fs d le g.0 k n h j.tokens in
      reworded _ (append_assoc (funs_tokens fs) (stmts_tokens ss) (stmt_tokens s)) (made m.tokens (body_statement m.spells j.spells) (append m.written j.written))

  pub code_row : (w : Lexeme) (own : Option Lexeme) (params : List Lexeme) (body : Stmts) (funs : Funs) (d : ℕ) → limit.Allowed (suc d) → GoodNames params (suc d) → GoodStmts body (suc d) → GoodFuns funs (suc d) → GoodCode own (fun_of w own params body funs) d
  unfolding unplaced_exprs expr_tokens
  code_row w own params body funs d le names g k =
      let words = flat (mark (codes "(") ∷ listed (names_words params) ∷ mark (codes ")") ∷ mark (codes "{") ∷ funs_tokens funs ∷ stmts_tokens body ∷ mark (codes "}") ∷ []) in (
        words,
        refl,
        λ n h rest.
            let l = below limit (suc n) (suc d) (limit.down n d h) le in
            let j = body_made body funs (suc d) le g k (suc n) (limit.down n d h) (tok sign.CloseBrace (codes "}") (suc n) ∷ rest) in
            let m = names (suc n) (limit.down n d h) (tok sign.Close (codes ")") (suc n) ∷ tok sign.OpenBrace (codes "{") (suc n) ∷ j.tokens) in
            let ts = tok sign.Open (codes "(") (suc n) ∷ m.tokens in
            let inner = subst (λ ws. Written limit.Allowed limit.Fit ws j.tokens rest) (append_assoc (funs_tokens funs) (stmts_tokens body) (mark (codes "}"))) (append j.written (fixed_next limit refl l end)) in
            made ts (subst (λ f. Spells (Code function_word (bare_own own) f) n ts rest) (fun_bare w own params body funs) (code m.spells j.spells))
            (fixed_next limit refl l (append m.written (fixed_next limit refl l (fixed_next limit refl l inner)))),
      )
