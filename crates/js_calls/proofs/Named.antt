-- The names of a scope, and a write of one of them.
use Rattle.std.proofs.Common.{◌≡◌, ℕ, zero, suc, Bool, true, false, List, [], ◌∷◌, ◌++◌, length, refl, sym, ap, ◌∙◌, Option, Some, None, cond, if◌then◌else◌, map, true≢false, not, ◌||◌}
use Rattle.std.specs.Prelude.{is_some, slice_index_or, slice_set, option_map, option_to_list}
use Rattle.std.specs.List.{AllByRecursion, filter, flat_map}
use Rattle.std.specs.Str.{bytes_eq}
use Rattle.std.proofs.lemmas.List.Folds.{list_any-append}
use Rattle.std.proofs.lemmas.Slice.Eq.{bytes_eq-Decides}
use Rattle.js_tree.specs.Plain.{Fun, FunAt}
use Rattle.js_tree.specs.Lists.{fun_list}
use Rattle.widget_meaning.specs.Values.{Value}
use Rattle.widget_meaning.specs.OwnState.{Pairs, Scope, State, lookup, replaced, scope_at}
use Rattle.widget_meaning.specs.Properties.{is_listed, listed, or_else}
use Rattle.widget_meaning.specs.Scopes.{assign, call_scope, distinct, first_of_name, fun_name, other_names, scope_having, scope_of, set_in, set_pair, stmts_vars}
use Rattle.widget_meaning.specs.Calls.{with_variable}
use Rattle.js_flow.specs.Parts.{funs_of}

-- a write of a name leaves the names
some_pair : (b c : Bool) (v u : Value) (o p : Option Value) → is_some o ≡ is_some p → is_some (cond c (Some v) o) ≡ is_some (cond c (Some u) p)
some_pair b true v u o p e = refl
some_pair b false v u o p e = e

names_stay : (ps : Pairs) (x y : List ℕ) (v : Value) → is_some (lookup (replaced ps x v) y) ≡ is_some (lookup ps y)
names_stay [] x y v = refl
names_stay (p ∷ ps) x y v = by (bytes_eq x p.0) (names_stay ps x y v)
  where
    by : (b : Bool) → is_some (lookup (replaced ps x v) y) ≡ is_some (lookup ps y)
        → is_some (lookup (if b then (p.0, v) ∷ ps else p ∷ replaced ps x v) y) ≡ is_some (cond (bytes_eq y p.0) (Some p.1) (lookup ps y))
    by true e = some_pair true (bytes_eq y p.0) v p.1 (lookup ps y) (lookup ps y) refl
    by false e = some_pair true (bytes_eq y p.0) p.1 p.1 (lookup (replaced ps x v) y) (lookup ps y) e

-- the scope that has a name
found_first : (i : ℕ) (o : Option Value) (k : Bool → Option ℕ) → is_some o ≡ true → or_else (option_map (λ (v : Value). i) o) k ≡ Some i
found_first i (Some v) k h = refl
found_first i None k h = absurd (true≢false (sym h))

having : (n : ℕ) (cs : List Scope) (s : State) (i : ℕ) (x : List ℕ) → s.own.scopes ≡ cs → n ≡ length cs → is_some (lookup (scope_at s i).pairs x) ≡ true → scope_having n s (Some i) x ≡ Some i
having zero [] s i x e l h =
    absurd (true≢false (sym h ∙ ap (λ (l : List Scope). is_some (lookup (slice_index_or l i (record { outer = None; pairs = [] })).pairs x)) e))
having zero (c ∷ cs) s i x e l h = absurd (cc)
having (suc n) cs s i x e l h = found_first i (lookup (scope_at s i).pairs x) (λ b. scope_having n s (scope_at s i).outer x) h

pub named_scope : (s : State) (i d : ℕ) (x : List ℕ) → is_some (lookup (scope_at s i).pairs x) ≡ true → scope_of s (record { scope = Some i; depth = d }) x ≡ Some i
named_scope s i d x h = having (length s.own.scopes) s.own.scopes s i x refl refl h

-- a write of a name that the scope has is one in the scope
pub written : (s : State) (i d : ℕ) (x : List ℕ) (v : Value) → is_some (lookup (scope_at s i).pairs x) ≡ true
    → assign s (record { scope = Some i; depth = d }) x v ≡ with_variable s i (x ∷ []) v
written s i d x v h = ap (λ o. set_in s o x v) (named_scope s i d x h)

-- and leaves its names
at_set : (cs : List Scope) (i : ℕ) (c d : Scope) (y : List ℕ) → is_some (lookup c.pairs y) ≡ is_some (lookup (slice_index_or cs i d).pairs y) → is_some (lookup (slice_index_or (slice_set cs i c) i d).pairs y) ≡ is_some (lookup (slice_index_or cs i d).pairs y)
at_set [] i c d y e = refl
at_set (b ∷ cs) zero c d y e = e
at_set (b ∷ cs) (suc i) c d y e = at_set cs i c d y e

pub still_named : (s : State) (i : ℕ) (xs : List (List ℕ)) (v : Value) (y : List ℕ) → is_some (lookup (scope_at (with_variable s i xs v) i).pairs y) ≡ is_some (lookup (scope_at s i).pairs y)
still_named s i [] v y = refl
still_named s i (x ∷ xs) v y =
    at_set s.own.scopes i (set_pair (scope_at s i) x v) (record { outer = None; pairs = [] }) y (names_stay (scope_at s i).pairs x y v)

-- the scope of a call has the names of declared functions
named_in : (F : List ℕ → Value) (ys : List (List ℕ)) (x : List ℕ) → is_some (lookup (map (λ y. (y, F y)) ys) x) ≡ is_listed ys x
named_in F [] x = refl
named_in F (y ∷ ys) x = by (bytes_eq x y) (named_in F ys x)
  where
    by : (b : Bool) → is_some (lookup (map (λ y. (y, F y)) ys) x) ≡ is_listed ys x → is_some (cond b (Some (F y)) (lookup (map (λ y. (y, F y)) ys) x)) ≡ (b || is_listed ys x)
    by true e = refl
    by false e = e

or_right : (a b : Bool) → b ≡ true → (a || b) ≡ true
or_right true b e = refl
or_right false b e = e

or_left : (a b : Bool) → a ≡ true → (a || b) ≡ true
or_left true b e = refl
or_left false b e = absurd (true≢false (sym e))

listed_behind : (xs ys : List (List ℕ)) (x : List ℕ) → is_listed ys x ≡ true → is_listed (xs ++ ys) x ≡ true
listed_behind xs ys x h = list_any-append (bytes_eq x) xs ys ∙ or_right (is_listed xs x) (is_listed ys x) h

listed_before : (xs ys : List (List ℕ)) (x : List ℕ) → is_listed xs x ≡ true → is_listed (xs ++ ys) x ≡ true
listed_before xs ys x h = list_any-append (bytes_eq x) xs ys ∙ or_left (is_listed xs x) (is_listed ys x) h

-- each of some names is listed
more_listed : (x : List ℕ) (xs ys : List (List ℕ)) → AllByRecursion (λ y. is_listed xs y ≡ true) ys → AllByRecursion (λ y. is_listed (x ∷ xs) y ≡ true) ys
more_listed x xs [] h = tt
more_listed x xs (y ∷ ys) h = (or_right (bytes_eq y x) (is_listed xs y) h.0, more_listed x xs ys h.1)

each_listed : (xs : List (List ℕ)) → AllByRecursion (λ y. is_listed xs y ≡ true) xs
each_listed [] = tt
each_listed (x ∷ xs) = (or_left (bytes_eq x x) (is_listed xs x) ((bytes_eq-Decides x x).1 refl), more_listed x xs xs (each_listed xs))

-- also where each is taken once
one_taken : (seen : List (List ℕ)) (y x : List ℕ) → (is_listed seen x || bytes_eq x y) ≡ true → is_listed (listed seen (y ∷ [])) x ≡ true
one_taken seen y x h = list_any-append (bytes_eq x) seen (filter (λ z. not (is_listed seen z)) (y ∷ [])) ∙ by (is_listed seen y) refl (is_listed seen x) refl (bytes_eq x y) refl h
  where
    by : (l : Bool) → is_listed seen y ≡ l → (a : Bool) → is_listed seen x ≡ a → (b : Bool) → bytes_eq x y ≡ b → (a || b) ≡ true
        → (is_listed seen x || is_listed (cond (not l) (y ∷ []) []) x) ≡ true
    by l e true p b q k = or_left (is_listed seen x) (is_listed (cond (not l) (y ∷ []) []) x) p
    by l e false p false q k = absurd (true≢false (sym k))
    by false e false p true q k = λ i. p i || (q i || false)
    by true e false p true q k = absurd (true≢false (sym e ∙ ap (is_listed seen) (sym ((bytes_eq-Decides x y).0 q)) ∙ p))

one_or_other : (a b c d : Bool) → ((a || b) ≡ true → d ≡ true) → (a || (b || c)) ≡ true → (d || c) ≡ true
one_or_other a b true d f h = or_right d true refl
one_or_other true b false d f h = or_left d false (f refl)
one_or_other false true false d f h = or_left d false (f refl)
one_or_other false false false d f h = absurd (true≢false (sym h))

once_listed : (seen xs : List (List ℕ)) (x : List ℕ) → (is_listed seen x || is_listed xs x) ≡ true → is_listed (distinct seen xs) x ≡ true
once_listed seen [] x h = by (is_listed seen x) refl h
  where
    by : (a : Bool) → is_listed seen x ≡ a → (a || false) ≡ true → is_listed seen x ≡ true
    by true e k = e
    by false e k = absurd (true≢false (sym k))
once_listed seen (y ∷ xs) x h =
    once_listed (listed seen (y ∷ [])) xs x (one_or_other (is_listed seen x) (bytes_eq x y) (is_listed xs x) (is_listed (listed seen (y ∷ [])) x) (one_taken seen y x) h)

abbrev pub inner_names : Fun → List (List ℕ)
inner_names g = flat_map fun_name (fun_list (funs_of g))

scoped_name : (g : Fun) (o : Option ℕ) (f : Value) (vs : List Value) (x : List ℕ) → is_listed (inner_names g) x ≡ true → is_some (lookup (call_scope g o f vs).pairs x) ≡ true
scoped_name (FunAt at places name params body funs) o f vs x h =
    let g : Fun = FunAt at places name params body funs in
    let xs : List (List ℕ) = other_names g ++ option_to_list name in
    named_in (first_of_name g f vs) (distinct [] xs) x
    ∙ once_listed [] xs x (listed_before (other_names g) (option_to_list name) x (listed_behind params _ x (listed_behind (stmts_vars body) (inner_names g) x h)))

each_scoped : (g : Fun) (o : Option ℕ) (f : Value) (vs : List Value) (xs : List (List ℕ)) → AllByRecursion (λ x. is_listed (inner_names g) x ≡ true) xs → AllByRecursion (λ x. is_some (lookup (call_scope g o f vs).pairs x) ≡ true) xs
each_scoped g o f vs [] h = tt
each_scoped g o f vs (x ∷ xs) h = (scoped_name g o f vs x h.0, each_scoped g o f vs xs h.1)

pub scoped_names : (g : Fun) (o : Option ℕ) (f : Value) (vs : List Value) → AllByRecursion (λ x. is_some (lookup (call_scope g o f vs).pairs x) ≡ true) (inner_names g)
scoped_names g o f vs = each_scoped g o f vs (inner_names g) (each_listed (inner_names g))

-- names that stay
pub all_along : (P Q : List ℕ → Type 0) → ((x : List ℕ) → P x → Q x) → (xs : List (List ℕ)) → AllByRecursion P xs → AllByRecursion Q xs
all_along P Q e [] h = tt
all_along P Q e (x ∷ xs) h = (e x h.0, all_along P Q e xs h.1)
