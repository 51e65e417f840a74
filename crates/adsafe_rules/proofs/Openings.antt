-- Lists of arguments by their length.
use Rattle.std.proofs.Common.{◌≡◌, ◌<◌, List, [], ◌∷◌, refl, sym, ap, ◌∙◌, arith, length, get_or}
use Rattle.std.proofs.Common.{false}
use Rattle.std.specs.Prelude.{slice_index_or, drop}
use Rattle.js_tree.specs.declared.nodes.ExprId.{ExprId}
use Rattle.js_tree.specs.Forest.{Forest, expr_at, exprs_at}
use Rattle.js_tree.specs.Parts.{exprs_spots}
use Rattle.adsafe_rules.specs.declared.scope.Scope.{Scope}
use Rattle.adsafe_rules.specs.declared.scope.Scope.TheVariants as scope
use Rattle.node_rules.specs.Names.{literal}
use Rattle.adsafe_rules.specs.Program.{are_arguments, first_string, second_function, function_of}
use Rattle.adsafe_rules.proofs.Parting.{exprs_are}

pub list_none : {A : Type 0} (xs : List A) → length xs ≡ 0 → xs ≡ []
list_none [] e = refl
list_none (x ∷ xs) e = absurd (omega arith)

pub list_one : {A : Type 0} (xs : List A) (a : A) → a ≡ get_or xs 0 a → length xs ≡ 1 → xs ≡ a ∷ []
list_one [] a is e = absurd (omega arith)
list_one (x ∷ []) a is e = ap (λ y. y ∷ []) (sym is)
list_one (x ∷ y ∷ xs) a is e = absurd (omega arith)

pub list_two : {A : Type 0} (xs : List A) (a b : A) → a ≡ get_or xs 0 a → b ≡ get_or xs 1 b → length xs ≡ 2 → xs ≡ a ∷ b ∷ []
list_two [] a b is js e = absurd (omega arith)
list_two (x ∷ []) a b is js e = absurd (omega arith)
list_two (x ∷ y ∷ []) a b is js e = ap (λ z. z ∷ y ∷ []) (sym is) ∙ ap (λ z. a ∷ z ∷ []) (sym js)
list_two (x ∷ y ∷ z ∷ xs) a b is js e = absurd (omega arith)

pub list_more : {A : Type 0} (xs : List A) (a b : A) → a ≡ get_or xs 0 a → b ≡ get_or xs 1 b → 2 < length xs → xs ≡ a ∷ b ∷ slice_index_or xs 2 a ∷ drop 3 xs
list_more [] a b is js e = absurd (omega arith)
list_more (x ∷ []) a b is js e = absurd (omega arith)
list_more (x ∷ y ∷ []) a b is js e = absurd (omega arith)
list_more (x ∷ y ∷ z ∷ xs) a b is js e = ap (λ v. v ∷ y ∷ z ∷ xs) (sym is) ∙ ap (λ v. a ∷ v ∷ z ∷ xs) (sym js)

pub no_arguments : (f : Forest) (s : Scope) (ids : List ExprId) → ids ≡ [] → false ≡ are_arguments s (exprs_spots (exprs_at f ids))
no_arguments f (scope.Id slot) ids e = ap (λ l. are_arguments (scope.Id slot) (exprs_spots (exprs_at f l))) (sym e)
no_arguments f scope.Lib ids e = ap (λ l. are_arguments scope.Lib (exprs_spots (exprs_at f l))) (sym e)
no_arguments f (scope.Go slot) ids e = ap (λ l. are_arguments (scope.Go slot) (exprs_spots (exprs_at f l))) (sym e)

module _ (f : Forest) (a b c : ExprId) (rest ids : List ExprId) (e : ids ≡ a ∷ b ∷ c ∷ rest) where
  three : (s : Scope) → are_arguments s (exprs_spots (exprs_at f (a ∷ b ∷ c ∷ rest))) ≡ false
  three (scope.Id slot) = ap (are_arguments (scope.Id slot)) (exprs_are f (a ∷ b ∷ c ∷ rest))
  three scope.Lib = ap (are_arguments scope.Lib) (exprs_are f (a ∷ b ∷ c ∷ rest))
  three (scope.Go slot) = ap (are_arguments (scope.Go slot)) (exprs_are f (a ∷ b ∷ c ∷ rest))

  pub more_arguments : (s : Scope) → false ≡ are_arguments s (exprs_spots (exprs_at f ids))
  more_arguments s = sym (ap (λ l. are_arguments s (exprs_spots (exprs_at f l))) e ∙ three s)

  pub more_first : first_string (exprs_spots (exprs_at f ids)) ≡ literal (expr_at f a)
  more_first = ap first_string (ap (λ l. exprs_spots (exprs_at f l)) e ∙ exprs_are f (a ∷ b ∷ c ∷ rest))

  pub more_second : second_function (exprs_spots (exprs_at f ids)) ≡ function_of (expr_at f b)
  more_second = ap second_function (ap (λ l. exprs_spots (exprs_at f l)) e ∙ exprs_are f (a ∷ b ∷ c ∷ rest))
