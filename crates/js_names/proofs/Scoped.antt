-- The scope of a call, by the names of its function.
use Rattle.std.proofs.Common.{◌≡◌, ℕ, zero, suc, Bool, true, false, ◌&&◌, ◌||◌, not, List, [], ◌∷◌, ◌++◌, refl, sym, ap, ◌∙◌, subst, cond, Option, Some, None, unwrap_or, map, drop, append-nil, true≢false}
use Rattle.std.specs.Prelude.{if◌then◌else◌, option_map, option_to_list}
use Rattle.std.specs.List.{AllByRecursion, IsDistinct, list_any}
use Rattle.std.specs.Option.{option_or}
use Rattle.std.specs.Str.{bytes_eq}
use Rattle.std.proofs.lemmas.List.{map-append}
use Rattle.std.proofs.lemmas.List.Folds.{list_any-append}
use Rattle.js_tree.specs.Plain.{Fun, FunAt, Stmts, Funs}
use Rattle.widget_meaning.specs.Values.{Value, Undefined, nth}
use Rattle.widget_meaning.specs.Properties.{is_listed}
use Rattle.widget_meaning.specs.Scopes.{argument, call_scope, distinct, first_of_name, other_names, without_name}
use Rattle.js_names.specs.declared.names.FunNames.{FunNames}
use Rattle.js_tree.specs.declared.nodes.ScopeName.{ScopeName}
use Rattle.js_names.specs.Names.{AreNames, ArePlaced, argument_at, first_pairs, last_place, own_pairs, unlisted}
use Rattle.js_names.proofs.Listed.{apart, distinct_append, each_listed, eq_self, eq_turned, listed_once, none_apart}

-- the argument of a parameter stands at the place of the last one of its name
nth_after : (k : ℕ) (vs : List Value) → nth k (drop 1 vs) ≡ nth (suc k) vs
nth_after zero [] = refl
nth_after (suc k) [] = refl
nth_after k (v ∷ vs) = refl

placed_first : (o : Option ℕ) (vs : List Value) (b : Bool) → option_or (option_map (λ k. nth k (drop 1 vs)) o) (if b then Some (nth 0 vs) else None) ≡ option_map (λ k. nth k vs) (option_or (option_map suc o) (if b then Some 0 else None))
placed_first (Some k) vs b = ap Some (nth_after k vs)
placed_first None vs true = refl
placed_first None vs false = refl

argument_is : (ps : List (List ℕ)) (vs : List Value) (x : List ℕ) → argument ps vs x ≡ option_map (λ k. nth k vs) (last_place ps x)
argument_is [] vs x = refl
argument_is (p ∷ ps) vs x =
    ap (λ o. option_or o (if bytes_eq p x then Some (nth 0 vs) else None)) (argument_is ps (drop 1 vs) x)
    ∙ placed_first (last_place ps x) vs (bytes_eq p x)

-- what is no parameter has no place
no_place_case : (p x : List ℕ) (ps : List (List ℕ)) (a : Bool) → bytes_eq x p ≡ a → (a || is_listed ps x) ≡ false → (is_listed ps x ≡ false → last_place ps x ≡ None)
    → option_or (option_map suc (last_place ps x)) (if bytes_eq p x then Some 0 else None) ≡ None
no_place_case p x ps true e h r = absurd (true≢false h)
no_place_case p x ps false e h r =
    ap (λ o. option_or (option_map suc o) (if bytes_eq p x then Some 0 else None)) (r h)
    ∙ ap (λ (c : Bool). if c then Some 0 else None) (eq_turned p x ∙ e)

no_place : (ps : List (List ℕ)) (x : List ℕ) → is_listed ps x ≡ false → last_place ps x ≡ None
no_place [] x h = refl
no_place (p ∷ ps) x h = no_place_case p x ps (bytes_eq x p) refl h (no_place ps x)

first_is : (o : Option ℕ) (vs : List Value) (rest : Value) → rest ≡ Undefined → unwrap_or (option_map (λ k. nth k vs) o) rest ≡ argument_at o vs
first_is None vs rest h = h
first_is (Some k) vs rest h = refl

front_none : (a b : Bool) → (a || b) ≡ false → a ≡ false
front_none true b h = h
front_none false b h = refl

-- names with places, one by one
first_of : {A : Type 0} (a b : A) (xs ys : List A) → a ∷ xs ≡ b ∷ ys → a ≡ b
first_of a b xs ys h = cc

others_of : {A : Type 0} (a b : A) (xs ys : List A) → a ∷ xs ≡ b ∷ ys → xs ≡ ys
others_of a b xs ys h = cc

module _ (at : ℕ) (places : List ℕ) (name : Option (List ℕ)) (params : List (List ℕ)) (body : Stmts) (funs : Funs) (f : Value) (vs : List Value) where
  abbrev fun : Fun
  fun = FunAt at places name params body funs

  abbrev others : List (List ℕ)
  others = other_names fun

  -- a name of the others begins with its argument
  other_first : (x : List ℕ) → is_listed others x ≡ true → first_of_name fun f vs x ≡ argument_at (last_place params x) vs
  other_first x h =
      ap (λ o. unwrap_or o (if list_any (bytes_eq x) (option_to_list name) && not (is_listed others x) then f else Undefined)) (argument_is params vs x)
      ∙ first_is (last_place params x) vs _ (by (list_any (bytes_eq x) (option_to_list name)) (is_listed others x) h)
    where
      by : (a b : Bool) → b ≡ true → (if a && not b then f else Undefined) ≡ Undefined
      by a false e = absurd (true≢false (sym e))
      by true true e = refl
      by false true e = refl

  -- the own name, where it is none of the others, begins with the function
  own_first : (x : List ℕ) → name ≡ Some x → is_listed others x ≡ false → first_of_name fun f vs x ≡ f
  own_first x n h =
      ap (λ o. unwrap_or o (if list_any (bytes_eq x) (option_to_list name) && not (is_listed others x) then f else Undefined))
      (argument_is params vs x ∙ ap (option_map (λ k. nth k vs)) (no_place params x (front_none (is_listed params x) _ (sym (list_any-append (bytes_eq x) params _) ∙ h))))
      ∙ (λ i. if list_any (bytes_eq x) (option_to_list (n i)) && not (h i) then f else Undefined)
      ∙ ap (λ b. if (b || false) && true then f else Undefined) (eq_self x)

  -- a declared function has no name of its own
  declared_first : (x : List ℕ) → first_of_name (without_name fun) f vs x ≡ argument_at (last_place params x) vs
  declared_first x =
      ap (λ o. unwrap_or o (if false && not (is_listed others x) then f else Undefined)) (argument_is params vs x)
      ∙ first_is (last_place params x) vs _ refl

  -- pairs of names that are placed
  pairs_are : (first : List ℕ → Value) (ns : List ScopeName) → ArePlaced (last_place params) ns
      → AllByRecursion (λ (n : ScopeName). first n.text ≡ argument_at (last_place params n.text) vs) ns
      → map (λ x. (x, first x)) (map (λ (n : ScopeName). n.text) ns) ≡ first_pairs ns vs
  pairs_are first [] h k = refl
  pairs_are first (n ∷ ns) h k =
      let here : n.argument ≡ last_place params n.text = first_of _ _ _ _ h in
      λ i. (n.text, (k.0 ∙ ap (λ o. argument_at o vs) (sym here)) i) ∷ pairs_are first ns (others_of _ _ _ _ h) k.1 i

  firsts_at : (ns : List ScopeName) → AllByRecursion (λ x. is_listed others x ≡ true) (map (λ (n : ScopeName). n.text) ns)
      → AllByRecursion (λ (n : ScopeName). first_of_name fun f vs n.text ≡ argument_at (last_place params n.text) vs) ns
  firsts_at [] h = tt
  firsts_at (n ∷ ns) h = (other_first n.text h.0, firsts_at ns h.1)

  declared_at : (ns : List ScopeName) → AllByRecursion (λ (n : ScopeName). first_of_name (without_name fun) f vs n.text ≡ argument_at (last_place params n.text) vs) ns
  declared_at [] = tt
  declared_at (n ∷ ns) = (declared_first n.text, declared_at ns)

-- each of the names once is one of the others
listed_along : (xs zs : List (List ℕ)) → ((t : List ℕ) → is_listed xs t ≡ is_listed zs t) → (ys : List (List ℕ)) → AllByRecursion (λ y. is_listed xs y ≡ true) ys → AllByRecursion (λ y. is_listed zs y ≡ true) ys
listed_along xs zs e [] h = tt
listed_along xs zs e (y ∷ ys) h = (sym (e y) ∙ h.0, listed_along xs zs e ys h.1)

once_listed : (xs : List (List ℕ)) → AllByRecursion (λ y. is_listed xs y ≡ true) (distinct [] xs)
once_listed xs = listed_along (distinct [] xs) xs (listed_once [] xs) (distinct [] xs) (each_listed (distinct [] xs))

-- the own name stands behind the others, where it is none of them
own_last : (once xs : List (List ℕ)) (name : Option (List ℕ)) → ((t : List ℕ) → is_listed once t ≡ is_listed xs t)
    → distinct once (option_to_list name) ≡ once ++ option_to_list (unlisted xs name)
own_last once xs None e = sym (append-nil once)
own_last once xs (Some x) e = ap (λ (b : Bool). once ++ cond (not b) (x ∷ []) []) (e x) ∙ by (is_listed xs x)
  where
    by : (b : Bool) → once ++ cond (not b) (x ∷ []) [] ≡ once ++ option_to_list (if b then None else Some x)
    by true = refl
    by false = refl

names_are : (at : ℕ) (places : List ℕ) (name : Option (List ℕ)) (params : List (List ℕ)) (body : Stmts) (funs : Funs) → distinct [] (other_names (FunAt at places name params body funs) ++ option_to_list name)
    ≡ distinct [] (other_names (FunAt at places name params body funs)) ++ option_to_list (unlisted (other_names (FunAt at places name params body funs)) name)
names_are at places name params body funs =
    let xs = other_names (FunAt at places name params body funs) in
    distinct_append [] xs (option_to_list name) ∙ own_last (distinct [] xs) xs name (listed_once [] xs)

-- the own name, where it stands there, has the function
own_case : (first : List ℕ → Value) (f : Value) (y : List ℕ) (b : Bool) → (b ≡ false → first y ≡ f)
    → map (λ x. (x, first x)) (option_to_list (if b then None else Some y)) ≡ own_pairs (if b then None else Some y) f
own_case first f y true h = refl
own_case first f y false h = λ i. (y, h refl i) ∷ []

own_at : (at : ℕ) (places : List ℕ) (name : Option (List ℕ)) (params : List (List ℕ)) (body : Stmts) (funs : Funs) (f : Value) (vs : List Value)
    → map (λ x. (x, first_of_name (FunAt at places name params body funs) f vs x)) (option_to_list (unlisted (other_names (FunAt at places name params body funs)) name))
    ≡ own_pairs (unlisted (other_names (FunAt at places name params body funs)) name) f
own_at at places None params body funs f vs = refl
own_at at places (Some y) params body funs f vs =
    own_case (first_of_name (FunAt at places (Some y) params body funs) f vs) f y (is_listed (other_names (FunAt at places (Some y) params body funs)) y)
    (own_first at places (Some y) params body funs f vs y refl)

pub named : (g : Fun) (n : FunNames) (o : Option ℕ) (f : Value) (vs : List Value) → AreNames g n
    → call_scope g o f vs ≡ record { outer = o; pairs = first_pairs n.names.items vs ++ own_pairs n.own f }
named (FunAt at places name params body funs) n o f vs h =
    let g : Fun = FunAt at places name params body funs in
    let others : List (List ℕ) = other_names g in
    let F : List ℕ → List ℕ × Value = λ x. (x, first_of_name g f vs x) in
    let known : AllByRecursion (λ x. is_listed others x ≡ true) (map (λ (m : ScopeName). m.text) n.names.items) =
    subst (AllByRecursion (λ x. is_listed others x ≡ true)) (sym h.names) (once_listed others) in
    let left : map F (distinct [] others) ≡ first_pairs n.names.items vs =
    ap (map F) (sym h.names)
    ∙ pairs_are at places name params body funs f vs (first_of_name g f vs) n.names.items h.places (firsts_at at places name params body funs f vs n.names.items known) in
    let right : map F (option_to_list (unlisted others name)) ≡ own_pairs n.own f = own_at at places name params body funs f vs ∙ ap (λ q. own_pairs q f) (sym h.own) in
    let all : map F (distinct [] (others ++ option_to_list name)) ≡ first_pairs n.names.items vs ++ own_pairs n.own f =
    ap (map F) (names_are at places name params body funs)
    ∙ map-append F (distinct [] others) (option_to_list (unlisted others name))
    ∙ (λ i. left i ++ right i) in
    λ i. record { outer = o; pairs = all i }

pub declared : (g : Fun) (n : FunNames) (o : Option ℕ) (f : Value) (vs : List Value) → AreNames g n
    → call_scope (without_name g) o f vs ≡ record { outer = o; pairs = first_pairs n.names.items vs }
declared (FunAt at places name params body funs) n o f vs h =
    let g : Fun = FunAt at places name params body funs in
    let others : List (List ℕ) = other_names g in
    let F : List ℕ → List ℕ × Value = λ x. (x, first_of_name (without_name g) f vs x) in
    let all : map F (distinct [] (others ++ [])) ≡ first_pairs n.names.items vs =
    ap (λ l. map F (distinct [] l)) (append-nil others) ∙ ap (map F) (sym h.names)
    ∙ pairs_are at places name params body funs f vs (first_of_name (without_name g) f vs) n.names.items h.places (declared_at at places name params body funs f vs n.names.items) in
    λ i. record { outer = o; pairs = all i }

pub differ : (g : Fun) (n : FunNames) → AreNames g n → IsDistinct bytes_eq (map (λ x. x.text) n.names.items ++ option_to_list n.own)
differ (FunAt at places name params body funs) n h =
    let others : List (List ℕ) = other_names (FunAt at places name params body funs) in
    subst (IsDistinct bytes_eq) (names_are at places name params body funs ∙ (λ i. sym h.names i ++ option_to_list (sym h.own i)))
    (apart [] (others ++ option_to_list name) none_apart)
