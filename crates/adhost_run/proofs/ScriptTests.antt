-- Tests of a program and of tokens that compute: what passes them breaks no rule, and is the text's program.
use Rattle.std.proofs.Common.{◌≡◌, ℕ, zero, suc, ◌-◌, ◌<◌, List, [], ◌∷◌, ◌++◌, length, Bool, true, false, not, ◌&&◌, ◌||◌, Option, Some, None, refl, sym, ap, subst, ◌∙◌, arith, inl, inr, ◌⊎◌}
use Rattle.std.specs.Prelude.{nat_lt, if◌then◌else◌}
use Rattle.std.specs.List.{list_any, list_all}
use Rattle.std.specs.Str.{bytes_eq, IsAscii}
use Rattle.std.proofs.lemmas.Bool.{false≢true, and_parts}
use Rattle.std.proofs.lemmas.Bool.Decides.{nat_tests}
use Rattle.std.proofs.lemmas.Slice.Eq.{bytes_eq-Decides}
use Rattle.std.proofs.lemmas.Str.{IsUtf8-from_ascii, encodes-IsAscii, chars-IsAscii}
use Rattle.std.proofs.lemmas.Str.Ascii.{IsAscii-nil, IsAscii-cons}
use Rattle.code_units.specs.Permitted.{is_banned, has_edge_underscore}
use Rattle.exact_refusals.specs.Judge as judge
use Rattle.exact_refusals.specs.Judge.{Outcome}
use Rattle.first_breach.specs.Lists.{In, here, later}
use Rattle.first_breach.proofs.Members.{in_split}
use Rattle.js_tokens.specs.declared.token.Token.{Token}
use Rattle.js_tokens.specs.declared.token.TokenKind.{TokenKind}
use Rattle.js_tokens.specs.Lexes.{Reads, size}
use Rattle.js_tokens.specs.Lexes.Reads.{done, token}
use Rattle.js_tokens.specs.Scan as scan
use Rattle.js_tokens.specs.Scan.{Found, found}
use Rattle.js_tokens.proofs.Fronts.{IsToken, Means, found_means}
use Rattle.js_tree.specs.Plain.{ExprAt, StmtAt, Stmts, FunAt}
use Rattle.js_tree.specs.Parts.{Spot, AnExpr, AStmt, AFun, stmts_spots}
use Rattle.js_grammar.specs.Machine.{judged}
use Rattle.js_grammar.proofs.Laws.{read_means}
use Rattle.js_cursor.specs.Signs.{input}
use Rattle.adsafe_rules.specs.declared.scope.Scope.{Scope}
use Rattle.node_rules.specs.Words.{is_global, is_reaching}
use Rattle.node_rules.specs.Names.{Named, variables, uses, binders, properties, targets}
use Rattle.node_rules.specs.Forms.{is_this, wrong_subscripts, is_adsafe, is_of_math, is_with, is_loose_equality, is_bitwise, is_typed, is_dropping, is_wrong_number, is_idle, wrong_targets}
use Rattle.node_rules.specs.Parts.{Stands, itself, outside, inside, outer, inner}
use Rattle.node_rules.specs.Binding as binding
use Rattle.node_rules.specs.Binding.{Declares, Binds, IsBound, no_jumps, jumps_from, is_stray}
use Rattle.adsafe_rules.specs.Rows as rows
use Rattle.adsafe_rules.specs.Rows.{Broken}
use Rattle.adsafe_rules.specs.Program as program
use Rattle.adsafe_rules.specs.Program.{is_opening, is_opening_name, opening_names, Misopened, tops, IsClean}
use Rattle.script_check.specs.Script.{IsCleanScript}

-- ## Lists

pub or_left : (a b : Bool) → a ≡ true → (a || b) ≡ true
or_left true b e = refl
or_left false b e = absurd (false≢true e)

pub or_right : (a b : Bool) → b ≡ true → (a || b) ≡ true
or_right true b e = refl
or_right false b e = e

pub any_in : {A : Type 0} (test : A → Bool) (xs : List A) (x : A) → In x xs → test x ≡ true → list_any test xs ≡ true
any_in test xs x (here {xs = ys}) e = or_left (test x) (list_any test ys) e
any_in test xs x (later {y = y} {xs = ys} more) e = or_right (test y) (list_any test ys) (any_in test ys x more e)

all_in : {A : Type 0} (test : A → Bool) (xs : List A) (x : A) → list_all test xs ≡ true → In x xs → test x ≡ true
all_in test xs x all (here {xs = ys}) = (and_parts (test x) (list_all test ys) all).0
all_in test xs x all (later {y = y} {xs = ys} more) = all_in test ys x (and_parts (test y) (list_all test ys) all).1 more

-- what passes a test
record Passing {A : Type 0} (test : A → Bool) (xs : List A) : Type 0 where
  one : A
  is_in : In one xs
  passes : test one ≡ true

passing : {A : Type 0} (test : A → Bool) (xs : List A) → list_any test xs ≡ true → Passing test xs
passing test [] e = absurd (false≢true e)
passing test (x ∷ xs) e = by (test x) refl e (passing test xs)
  where
    by : (b : Bool) → test x ≡ b → (b || list_any test xs) ≡ true → (list_any test xs ≡ true → Passing test xs) → Passing test (x ∷ xs)
    by true is some go = record { one = x; is_in = here; passes = is }
    by false is some go = let rest = go some in record { one = rest.one; is_in = later rest.is_in; passes = rest.passes }

pub never_both : (b : Bool) → not b ≡ true → b ≡ true → ⊥
never_both true e f = false≢true e
never_both false e f = false≢true f

-- ## ASCII

abbrev pub is_ascii : List ℕ → Bool
is_ascii bytes = list_all (λ (b : ℕ). nat_lt b 128) bytes

less : (b n : ℕ) → nat_lt b n ≡ true → b < n
less b n e = grind (arith, nat_tests)

pub ascii : (bytes : List ℕ) → is_ascii bytes ≡ true → IsAscii bytes
ascii [] e = IsAscii-nil
ascii (b ∷ bytes) e = let parts = and_parts (nat_lt b 128) (is_ascii bytes) e in IsAscii-cons b bytes (less b 128 parts.0) (ascii bytes parts.1)

-- ## Names

-- a function that encloses binds the name as a parameter, or by a statement of its own
abbrev is_declared : List ℕ → Spot → Bool
is_declared t (AStmt (StmtAt at names form)) = list_any (λ (x : Named). bytes_eq x.text t) (variables at names form)
is_declared t _ = false

abbrev is_binding : List ℕ → Spot → Bool
is_binding t (AFun (FunAt at names own params body funs)) = list_any (λ (x : List ℕ). bytes_eq x t) params || list_any (is_declared t) (stmts_spots body)
is_binding t _ = false

declares : (t : List ℕ) (s : Spot) → is_declared t s ≡ true → Declares s t
declares t (AnExpr e) is = absurd (false≢true is)
declares t (AFun g) is = absurd (false≢true is)
declares t (AStmt (StmtAt at names form)) is =
    let x = passing (λ (x : Named). bytes_eq x.text t) (variables at names form) is in
    subst (Declares (AStmt (StmtAt at names form))) ((bytes_eq-Decides (x.one).text t).0 x.passes) (binding.itself x.is_in)

binds : (t : List ℕ) (s : Spot) → is_binding t s ≡ true → Binds s t
binds t (AnExpr e) is = absurd (false≢true is)
binds t (AStmt s) is = absurd (false≢true is)
binds t (AFun (FunAt at names own params body funs)) is = by (list_any (λ (x : List ℕ). bytes_eq x t) params) refl is
  where
    by : (b : Bool) → list_any (λ (x : List ℕ). bytes_eq x t) params ≡ b → (b || list_any (is_declared t) (stmts_spots body)) ≡ true → Binds (AFun (FunAt at names own params body funs)) t
    by true param e =
        let x = passing (λ (x : List ℕ). bytes_eq x t) params param in
        subst (Binds (AFun (FunAt at names own params body funs))) ((bytes_eq-Decides x.one t).0 x.passes) (binding.parameter x.is_in)
    by false param e =
        let s = passing (is_declared t) (stmts_spots body) e in
        binding.hoisted s.is_in (declares t s.one s.passes)

bound : (env : List Spot) (t : List ℕ) → list_any (is_binding t) env ≡ true → IsBound env t
bound env t is = let s = passing (is_binding t) env is in record { by = s.one; is_in = s.is_in; binds = binds t s.one s.passes }

-- ## Nodes

-- a name that is used, bound or written to, or of a property, breaks a rule
abbrev is_bad_use : List Spot → Named → Bool
is_bad_use env x = has_edge_underscore x.text || (is_reaching x.text || not (is_global x.text || list_any (is_binding x.text) env))

abbrev is_bad_binder : Named → Bool
is_bad_binder x = has_edge_underscore x.text || (is_reaching x.text || is_global x.text)

abbrev is_bad_property : Named → Bool
is_bad_property x = has_edge_underscore x.text || is_banned x.text

abbrev is_bad_target : Named → Bool
is_bad_target x = is_global x.text

abbrev some_place : List ℕ → Bool
some_place [] = false
some_place (p ∷ ps) = true

-- so may a node by its form
abbrev is_bad_form : List Spot → Spot → Bool
is_bad_form env (AnExpr (ExprAt at names form)) =
    is_this form || (is_adsafe form || (is_of_math form || (is_loose_equality form || (is_bitwise form || (is_typed form
    || (is_dropping form || (is_wrong_number form || (some_place (wrong_subscripts form) || some_place (wrong_targets form)))))))))
is_bad_form env (AStmt (StmtAt at names form)) = is_with form || (is_stray (jumps_from no_jumps env) form || is_idle form)
is_bad_form env (AFun g) = false

abbrev is_bad : List Spot → Spot → Bool
is_bad env n =
    is_bad_form env n || (list_any (is_bad_use env) (uses n) || (list_any is_bad_binder (binders n)
    || (list_any is_bad_property (properties n) || list_any is_bad_target (targets n))))

place_in : (p : ℕ) (ps : List ℕ) → In p ps → some_place ps ≡ true
place_in p ps here = refl
place_in p ps (later more) = refl

module _ (env : List Spot) (n : Spot) where
  by_form : is_bad_form env n ≡ true → is_bad env n ≡ true
  by_form e = or_left _ _ e

  by_use : (x : Named) → In x (uses n) → is_bad_use env x ≡ true → is_bad env n ≡ true
  by_use x m e = or_right (is_bad_form env n) _ (or_left _ _ (any_in (is_bad_use env) (uses n) x m e))

  by_binder : (x : Named) → In x (binders n) → is_bad_binder x ≡ true → is_bad env n ≡ true
  by_binder x m e = or_right (is_bad_form env n) _ (or_right (list_any (is_bad_use env) (uses n)) _ (or_left _ _ (any_in is_bad_binder (binders n) x m e)))

  by_property : (x : Named) → In x (properties n) → is_bad_property x ≡ true → is_bad env n ≡ true
  by_property x m e = or_right (is_bad_form env n) _ (or_right (list_any (is_bad_use env) (uses n)) _ (or_right (list_any is_bad_binder (binders n)) _ (or_left _ _ (any_in is_bad_property (properties n) x m e))))

  by_target : (x : Named) → In x (targets n) → is_bad_target x ≡ true → is_bad env n ≡ true
  by_target x m e = or_right (is_bad_form env n) _ (or_right (list_any (is_bad_use env) (uses n)) _ (or_right (list_any is_bad_binder (binders n)) _ (or_right (list_any is_bad_property (properties n)) _ (any_in is_bad_target (targets n) x m e))))

  by_edge : (x : Named) → In x (uses n ++ (binders n ++ properties n)) → has_edge_underscore x.text ≡ true → is_bad env n ≡ true
  by_edge x m e = by (in_split (uses n) (binders n ++ properties n) m)
    where
      others : In x (binders n) ⊎ In x (properties n) → is_bad env n ≡ true
      others (inl b) = by_binder x b (or_left _ _ e)
      others (inr p) = by_property x p (or_left _ _ e)

      by : In x (uses n) ⊎ In x (binders n ++ properties n) → is_bad env n ≡ true
      by (inl u) = by_use x u (or_left _ _ e)
      by (inr rest) = others (in_split (binders n) (properties n) rest)

  by_reach : (x : Named) → In x (uses n ++ binders n) → is_reaching x.text ≡ true → is_bad env n ≡ true
  by_reach x m e = by (in_split (uses n) (binders n) m)
    where
      by : In x (uses n) ⊎ In x (binders n) → is_bad env n ≡ true
      by (inl u) = by_use x u (or_right (has_edge_underscore x.text) _ (or_left _ _ e))
      by (inr b) = by_binder x b (or_right (has_edge_underscore x.text) _ (or_left _ _ e))

  by_global : (x : Named) → In x (binders n ++ targets n) → is_global x.text ≡ true → is_bad env n ≡ true
  by_global x m e = by (in_split (binders n) (targets n) m)
    where
      by : In x (binders n) ⊎ In x (targets n) → is_bad env n ≡ true
      by (inl b) = by_binder x b (or_right (has_edge_underscore x.text) _ (or_right (is_reaching x.text) _ e))
      by (inr t) = by_target x t e

  by_free : (x : Named) → In x (uses n) → (IsBound env x.text → ⊥) → is_global x.text ≡ false → is_bad env n ≡ true
  by_free x m free e = by_use x m (or_right (has_edge_underscore x.text) _ (or_right (is_reaching x.text) _ (foreign (is_global x.text) (list_any (is_binding x.text) env) e (λ is. free (bound env x.text is)))))
    where
      foreign : (a b : Bool) → a ≡ false → (b ≡ true → ⊥) → not (a || b) ≡ true
      foreign true b e f = absurd (false≢true (sym e))
      foreign false true e f = absurd (f refl)
      foreign false false e f = refl

-- a broken rule is seen
bad_seen : (env : List Spot) (n : Spot) (r p : ℕ) → Broken env n r p → is_bad env n ≡ true
bad_seen env n r p (rows.A03 {x = x} m e) = by_edge env n x m e
bad_seen env n r p (rows.A04 {at = at} {names = names} {form = form} e) = by_form env n (or_left _ _ e)
bad_seen env n r p (rows.A05 {x = x} m e) = by_property env n x m (or_right (has_edge_underscore x.text) _ e)
bad_seen env n r p (rows.A05_name {x = x} m e) = by_reach env n x m e
bad_seen env n r p (rows.A06 {x = x} m free e) = by_free env n x m free e
bad_seen env n r p (rows.A07 {form = form} {p = q} m) =
    by_form env n (or_right (is_this form) _ (or_right (is_adsafe form) _ (or_right (is_of_math form) _ (or_right (is_loose_equality form) _ (or_right (is_bitwise form) _ (or_right (is_typed form) _
    (or_right (is_dropping form) _ (or_right (is_wrong_number form) _ (or_left _ _ (place_in q (wrong_subscripts form) m))))))))))
bad_seen env n r p (rows.A08 {x = x} m e) = by_global env n x m e
bad_seen env n r p (rows.A09 {form = form} e) = by_form env n (or_right (is_this form) _ (or_left _ _ e))
bad_seen env n r p (rows.A10 {form = form} e m f) = by_form env n (or_right (is_this form) _ (or_right (is_adsafe form) _ (or_left _ _ e)))
bad_seen env n r p (rows.A11 e) = by_form env n (or_left _ _ e)
bad_seen env n r p (rows.A12 {form = form} e) = by_form env n (or_right (is_this form) _ (or_right (is_adsafe form) _ (or_right (is_of_math form) _ (or_left _ _ e))))
bad_seen env n r p (rows.A13 {form = form} e) = by_form env n (or_right (is_this form) _ (or_right (is_adsafe form) _ (or_right (is_of_math form) _ (or_right (is_loose_equality form) _ (or_left _ _ e)))))
bad_seen env n r p (rows.A14 {form = form} e) =
    by_form env n (or_right (is_this form) _ (or_right (is_adsafe form) _ (or_right (is_of_math form) _ (or_right (is_loose_equality form) _ (or_right (is_bitwise form) _ (or_left _ _ e))))))
bad_seen env n r p (rows.A15 {form = form} e) =
    by_form env n (or_right (is_this form) _ (or_right (is_adsafe form) _ (or_right (is_of_math form) _ (or_right (is_loose_equality form) _ (or_right (is_bitwise form) _ (or_right (is_typed form) _ (or_left _ _ e)))))))
bad_seen env n r p (rows.A16 {form = form} e) = by_form env n (or_right (is_with form) _ (or_left _ _ e))
bad_seen env n r p (rows.A17 {form = form} e) =
    by_form env n (or_right (is_this form) _ (or_right (is_adsafe form) _ (or_right (is_of_math form) _ (or_right (is_loose_equality form) _ (or_right (is_bitwise form) _ (or_right (is_typed form) _
    (or_right (is_dropping form) _ (or_left _ _ e))))))))
bad_seen env n r p (rows.A18 {form = form} e) = by_form env n (or_right (is_with form) _ (or_right (is_stray (jumps_from no_jumps env) form) _ e))
bad_seen env n r p (rows.A19 {form = form} {p = q} m) =
    by_form env n (or_right (is_this form) _ (or_right (is_adsafe form) _ (or_right (is_of_math form) _ (or_right (is_loose_equality form) _ (or_right (is_bitwise form) _ (or_right (is_typed form) _
    (or_right (is_dropping form) _ (or_right (is_wrong_number form) _ (or_right (some_place (wrong_subscripts form)) _ (place_in q (wrong_targets form) m))))))))))

-- ## Programs

-- no node of a tree breaks a rule, to a depth
abbrev is_fine : ℕ → List Spot → Spot → Bool
is_fine zero env n = false
is_fine (suc k) env n = not (is_bad env n) && (list_all (is_fine k env) (outer n) && list_all (is_fine k (env ++ n ∷ [])) (inner n))

fine_within : (k : ℕ) (env around : List Spot) (n m : Spot) → is_fine k env n ≡ true → Stands env n around m → is_bad around m ≡ true → ⊥
fine_within zero env around n m fine stands bad = false≢true fine
fine_within (suc k) env around n m fine itself bad = never_both (is_bad env n) (and_parts (not (is_bad env n)) (list_all (is_fine k env) (outer n) && list_all (is_fine k (env ++ n ∷ [])) (inner n)) fine).0 bad
fine_within (suc k) env around n m fine (outside {p = p} is_in stands) bad =
    let rest = (and_parts (not (is_bad env n)) (list_all (is_fine k env) (outer n) && list_all (is_fine k (env ++ n ∷ [])) (inner n)) fine).1 in
    let all = (and_parts (list_all (is_fine k env) (outer n)) (list_all (is_fine k (env ++ n ∷ [])) (inner n)) rest).0 in
    fine_within k env around p m (all_in (is_fine k env) (outer n) p all is_in) stands bad
fine_within (suc k) env around n m fine (inside {p = p} is_in stands) bad =
    let rest = (and_parts (not (is_bad env n)) (list_all (is_fine k env) (outer n) && list_all (is_fine k (env ++ n ∷ [])) (inner n)) fine).1 in
    let all = (and_parts (list_all (is_fine k env) (outer n)) (list_all (is_fine k (env ++ n ∷ [])) (inner n)) rest).1 in
    fine_within k (env ++ n ∷ []) around p m (all_in (is_fine k (env ++ n ∷ [])) (inner n) p all is_in) stands bad

-- the text is the one call, of a name that it may have
abbrev is_call : Scope → List Spot → Bool
is_call scope (s ∷ []) = is_opening scope s && list_all (λ (x : Named). is_opening_name scope x.text) (opening_names s)
is_call scope _ = false

call_opens : (scope : Scope) (spots : List Spot) (p : ℕ) → is_call scope spots ≡ true → Misopened scope spots p → ⊥
call_opens scope spots p call program.nothing = false≢true call
call_opens scope spots p call (program.first {s = s} {rest = []} not_opening) =
    false≢true (sym not_opening ∙ (and_parts (is_opening scope s) (list_all (λ (x : Named). is_opening_name scope x.text) (opening_names s)) call).0)
call_opens scope spots p call (program.first {s = s} {rest = t ∷ more} not_opening) = false≢true call
call_opens scope spots p call program.second = false≢true call
call_opens scope spots p call (program.name {s = s} {rest = []} {x = x} is_opened is_in wrong) =
    false≢true (sym wrong ∙ all_in (λ (x : Named). is_opening_name scope x.text) (opening_names s) x (and_parts (is_opening scope s) (list_all (λ (x : Named). is_opening_name scope x.text) (opening_names s)) call).1 is_in)
call_opens scope spots p call (program.name {s = s} {rest = t ∷ more} is_opened is_in wrong) = false≢true call

abbrev is_fine_program : ℕ → Scope → Stmts → Bool
is_fine_program k scope p = is_call scope (stmts_spots p) && list_all (is_fine k []) (tops scope (stmts_spots p))

fine_program : (k : ℕ) (scope : Scope) (p : Stmts) → is_fine_program k scope p ≡ true → IsClean p scope
fine_program k scope p fine r at (program.A02 wrong) = call_opens scope (stmts_spots p) at (and_parts (is_call scope (stmts_spots p)) (list_all (is_fine k []) (tops scope (stmts_spots p))) fine).0 wrong
fine_program k scope p fine r at (program.within some) =
    let all = (and_parts (is_call scope (stmts_spots p)) (list_all (is_fine k []) (tops scope (stmts_spots p))) fine).1 in
    fine_within k [] some.found.around some.top some.found.node (all_in (is_fine k []) (tops scope (stmts_spots p)) some.top all some.is_in) some.found.stands
    (bad_seen some.found.around some.found.node r at some.found.broken)

-- ## Tokens

abbrev token_at : TokenKind → ℕ → ℕ → Token
token_at k start stop = record { kind = k; from = start; to = stop }

-- the tokens of ASCII characters, one front after another, at the end of a text of n bytes
abbrev with_token : ℕ → List ℕ → TokenKind → List ℕ → Option (List Token) → Option (List Token)
with_token n cs k rest None = None
with_token n cs k rest (Some ts) = if is_ascii cs && is_ascii rest then Some (token_at k (n - length cs) (n - length rest) ∷ ts) else None

abbrev next_tokens : ℕ → List ℕ → Found → (List ℕ → Option (List Token)) → Option (List Token)
next_tokens n cs scan.End more = Some []
next_tokens n cs (scan.Gap rest) more = more rest
next_tokens n cs (scan.Token k rest) more = with_token n cs k rest (more rest)
next_tokens n cs (scan.Bad place) more = None

abbrev tokens_of : ℕ → ℕ → List ℕ → Option (List Token)
tokens_of n zero cs = None
tokens_of n (suc k) cs = next_tokens n cs (found cs) (tokens_of n k)

-- these are they
some_list : (us vs : List Token) → Some us ≡ Some vs → us ≡ vs
some_list us vs e = cc

no_list : (ts : List Token) → None ≡ Some ts → ⊥
no_list ts e = cc

module _ (n : ℕ) (cs : List ℕ) (k : TokenKind) (rest : List ℕ) (means : IsToken k cs rest) (us ts : List Token) (reads : Reads n rest us) where
  by_ascii : (b : Bool) → (is_ascii cs && is_ascii rest) ≡ b → (if b then Some (token_at k (n - length cs) (n - length rest) ∷ us) else None) ≡ Some ts → Reads n cs ts
  by_ascii false both e = absurd (no_list ts e)
  by_ascii true both e =
      let parts = and_parts (is_ascii cs) (is_ascii rest) both in
      let start : n - size cs ≡ n - length cs = ap (λ (l : List ℕ). n - length l) (encodes-IsAscii cs (ascii cs parts.0)) in
      let stop : n - size rest ≡ n - length rest = ap (λ (l : List ℕ). n - length l) (encodes-IsAscii rest (ascii rest parts.1)) in
      let one : Reads n cs (token_at k (n - size cs) (n - size rest) ∷ us) = token means.spelled means.longest means.apart reads in
      let two : Reads n cs (token_at k (n - length cs) (n - size rest) ∷ us) = subst (λ (x : ℕ). Reads n cs (token_at k x (n - size rest) ∷ us)) start one in
      let three : Reads n cs (token_at k (n - length cs) (n - length rest) ∷ us) = subst (λ (x : ℕ). Reads n cs (token_at k (n - length cs) x ∷ us)) stop two in
      subst (Reads n cs) (some_list (token_at k (n - length cs) (n - length rest) ∷ us) ts e) three

tokens_read : (n : ℕ) (cs : List ℕ) (f : Found) → Means cs f → (more : List ℕ → Option (List Token)) → ((rest : List ℕ) (ts : List Token) → more rest ≡ Some ts → Reads n rest ts) → (ts : List Token) → next_tokens n cs f more ≡ Some ts → Reads n cs ts
tokens_read n cs scan.End means more reads ts e = subst (Reads n cs) (some_list [] ts e) (subst (λ (ds : List ℕ). Reads n ds []) (sym means) done)
tokens_read n cs (scan.Gap rest) means more reads ts e = means.reads n ts (reads rest ts e)
tokens_read n cs (scan.Token k rest) means more reads ts e = by (more rest) refl e
  where
    by : (o : Option (List Token)) → more rest ≡ o → with_token n cs k rest o ≡ Some ts → Reads n cs ts
    by None is e = absurd (no_list ts e)
    by (Some us) is e = by_ascii n cs k rest means us ts (reads rest us is) (is_ascii cs && is_ascii rest) refl e
tokens_read n cs (scan.Bad place) means more reads ts e = absurd (no_list ts e)

tokens_mean : (n k : ℕ) (cs : List ℕ) (ts : List Token) → tokens_of n k cs ≡ Some ts → Reads n cs ts
tokens_mean n zero cs ts e = absurd (no_list ts e)
tokens_mean n (suc k) cs ts e = tokens_read n cs (found cs) (found_means cs) (tokens_of n k) (λ rest us is. tokens_mean n k rest us is) ts e

-- ## Scripts

-- a text has a program that passes
abbrev is_read : ℕ → Scope → Outcome Stmts → Bool
is_read k scope (judge.Read p) = is_fine_program k scope p
is_read k scope (judge.Refused left) = false
is_read k scope (judge.Deeper left) = false

abbrev is_lexed : ℕ → Scope → List ℕ → Option (List Token) → Bool
is_lexed k scope bytes None = false
is_lexed k scope bytes (Some ts) = is_read k scope (judged 200 (input bytes ts))

abbrev pub is_fine_script : ℕ → Scope → List ℕ → Bool
is_fine_script k scope bytes = is_ascii bytes && is_lexed k scope bytes (tokens_of (length bytes) (length bytes) bytes)

pub fine_script : (k : ℕ) (scope : Scope) (bytes : List ℕ) → is_fine_script k scope bytes ≡ true → IsCleanScript bytes scope
fine_script k scope bytes fine = by (tokens_of (length bytes) (length bytes) bytes) refl parts.1
  where
    parts : (is_ascii bytes ≡ true) × (is_lexed k scope bytes (tokens_of (length bytes) (length bytes) bytes) ≡ true)
    parts = and_parts (is_ascii bytes) (is_lexed k scope bytes (tokens_of (length bytes) (length bytes) bytes)) fine

    of_program : (ts : List Token) → Reads (length bytes) bytes ts → (o : Outcome Stmts) → judged 200 (input bytes ts) ≡ o → is_read k scope o ≡ true → IsCleanScript bytes scope
    of_program ts reads (judge.Read p) e is = record {
      program = p;
      script = record {
        tokens = ts;
        reads = record { lexes = (IsUtf8-from_ascii bytes (ascii bytes parts.0), subst (λ (cs : List ℕ). Reads (length bytes) cs ts) (sym (chars-IsAscii bytes (ascii bytes parts.0))) reads); spells = read_means 200 (input bytes ts) p e };
        clean = fine_program k scope p is;
      };
    }
    of_program ts reads (judge.Refused left) e is = absurd (false≢true is)
    of_program ts reads (judge.Deeper left) e is = absurd (false≢true is)

    by : (o : Option (List Token)) → tokens_of (length bytes) (length bytes) bytes ≡ o → is_lexed k scope bytes o ≡ true → IsCleanScript bytes scope
    by None e is = absurd (false≢true is)
    by (Some ts) e is = of_program ts (tokens_mean (length bytes) (length bytes) bytes ts e) (judged 200 (input bytes ts)) refl is
