-- The declared functions of a call, one after the other.
use Rattle.std.proofs.Common.{◌≡◌, ℕ, zero, suc, List, [], ◌∷◌, ◌++◌, refl, sym, ap, ◌∙◌, subst, Some, Option, map, drop, get_or, length, ◌<◌, ◌≤◌, ◌+◌, arith}
use Rattle.std.specs.Prelude.{All, None, is_some, option_to_list, slice_get, slice_index_or}
use Rattle.std.specs.List.{AllByRecursion, flat_map}
use Rattle.std.proofs.lemmas.List.{at_drop_all, length-map}
use Rattle.js_tree.specs.Plain.{Fun}
use Rattle.js_tree.specs.Lists.{fun_list}
use Rattle.js_tree.specs.declared.nodes.Fun.{Fun as FunNode}
use Rattle.js_tree.specs.declared.nodes.FunId.{FunId}
use Rattle.js_tree.specs.Forest.{Forest, fun_at, funs_at, plain_fun}
use Rattle.store_cells.specs.Cells.{Cells}
use Rattle.object_store.specs.Owned.{scope_number}
use Rattle.object_store.specs.Grows.{Grows}
use Rattle.widget_meaning.specs.Values.{Value}
use Rattle.widget_meaning.specs.OwnState.{Scope, State, lookup, new_function, scope_at}
use Rattle.widget_meaning.specs.Plan.{Plan}
use Rattle.widget_meaning.specs.Costs.{make}
use Rattle.widget_meaning.specs.Scopes.{fun_name, without_name}
use Rattle.widget_meaning.specs.Calls.{declare, with_variable}
use Rattle.js_image.specs.Image.{Rest, image, no_rest}
use Rattle.js_image.specs.Held.{IsOwnScope}
use Rattle.js_names.specs.Hoisting.{fun_texts}
use Rattle.js_flow.specs.Parts.{funs_of}
use Rattle.js_calls.specs.Called.{IsNamed, scope_in}
use Rattle.js_calls.proofs.Named.{still_named}
use Rattle.js_calls.proofs.Repeated.{drop_at}

module _ (fs : List Forest) (w : ℕ) (old mid : Cells) (scope : ℕ) (own : IsOwnScope w old.cells scope) (grows : Grows w old.cells mid.cells) where
  -- a scope that stays has its names
  pub scope_same : (image fs no_rest w mid).own.scopes ≡ (image fs no_rest w old).own.scopes → scope_in w mid scope ≡ scope_in w old scope
  scope_same same = λ i. slice_index_or (same i) (grows.scope scope own.0 i) (record { outer = None; pairs = [] })

  pub still_there : (image fs no_rest w mid).own.scopes ≡ (image fs no_rest w old).own.scopes → (x : List ℕ) → IsNamed w old scope x → IsNamed w mid scope x
  still_there same x h = ap (λ (c : Scope). is_some (lookup c.pairs x)) (scope_same same) ∙ h

  -- also where one of them got another value
  pub still_written : (xs : List (List ℕ)) (v : Value) → image fs no_rest w mid ≡ with_variable (image fs no_rest w old) (scope_number w old.cells scope) xs v → (x : List ℕ) → IsNamed w old scope x → IsNamed w mid scope x
  still_written xs v is x h =
      (λ i. is_some (lookup (scope_at (is i) (grows.scope scope own.0 i)).pairs x))
      ∙ still_named (image fs no_rest w old) (scope_number w old.cells scope) xs v x
      ∙ h

-- the name of a function by its node
pub name_is : (f : Forest) (node : FunNode) (places : List ℕ) (g : Fun) → plain_fun f node places ≡ g → fun_name g ≡ option_to_list node.name
name_is f node places g same = sym (ap fun_name same)

-- its declared functions
pub funs_are : (f : Forest) (node : FunNode) (places : List ℕ) (g : Fun) → plain_fun f node places ≡ g → fun_list (funs_at f node.funs.items) ≡ map (fun_at f) node.funs.items → fun_list (funs_of g) ≡ map (fun_at f) node.funs.items
funs_are f node places g same all = sym (ap (λ q. fun_list (funs_of q)) same) ∙ all

texts_map : (f : Forest) (ids : List FunId) → flat_map fun_name (map (fun_at f) ids) ≡ fun_texts f ids
texts_map f [] = refl
texts_map f (i ∷ ids) = ap (λ l. fun_name (fun_at f i) ++ l) (texts_map f ids)

pub texts_are : (f : Forest) (node : FunNode) (places : List ℕ) (g : Fun) → plain_fun f node places ≡ g → fun_list (funs_at f node.funs.items) ≡ map (fun_at f) node.funs.items → flat_map fun_name (fun_list (funs_of g)) ≡ fun_texts f node.funs.items
texts_are f node places g same all = ap (flat_map fun_name) (funs_are f node places g same all) ∙ texts_map f node.funs.items

-- one of them
front : (P : List ℕ → Type 0) (xs ys : List (List ℕ)) → AllByRecursion P (xs ++ ys) → AllByRecursion P xs
front P [] ys h = tt
front P (x ∷ xs) ys h = (h.0, front P xs ys h.1)

back : (P : List ℕ → Type 0) (xs ys : List (List ℕ)) → AllByRecursion P (xs ++ ys) → AllByRecursion P ys
back P [] ys h = h
back P (x ∷ xs) ys h = back P xs ys h.1

pub one_of : (P : List ℕ → Type 0) (f : Forest) (ids : List FunId) (i : ℕ) (id : FunId) → slice_get ids i ≡ Some id → AllByRecursion P (fun_texts f ids) → AllByRecursion P (fun_name (fun_at f id))
one_of P f [] i id at h = absurd (none_some at)
  where
    none_some : {A : Type 0} {a : A} → None ≡ Some a → ⊥
    none_some e = cc
one_of P f (j ∷ ids) zero id at h = subst (λ k. AllByRecursion P (fun_name (fun_at f k))) (same j id at) (front P (fun_name (fun_at f j)) (fun_texts f ids) h)
  where
    same : {A : Type 0} (a b : A) → Some a ≡ Some b → a ≡ b
    same a b e = cc
one_of P f (j ∷ ids) (suc i) id at h = one_of P f ids i id at (back P (fun_name (fun_at f j)) (fun_texts f ids) h)

-- the function at a place
pub at_default : (list : List FunId) (n : ℕ) (d : FunId) → n < length list → slice_get list n ≡ Some (get_or list n d)
at_default [] n d h = absurd (omega arith)
at_default (x ∷ list) zero d h = refl
at_default (x ∷ list) (suc n) d h = at_default list n d (omega arith)

pub at_other : (list : List FunId) (n : ℕ) (id : FunId) (P : FunId → Type 0) → slice_get list n ≡ Some id → All P list → P id
at_other [] n id P at h = absurd (none_some at)
  where
    none_some : {A : Type 0} {a : A} → None ≡ Some a → ⊥
    none_some e = cc
at_other (x ∷ list) zero id P at h = subst P (same x id at) (h 0 x (omega arith))
  where
    same : {A : Type 0} (a b : A) → Some a ≡ Some b → a ≡ b
    same a b e = cc
at_other (x ∷ list) (suc n) id P at h = at_other list n id P at (λ k d lt. h (suc k) d (omega (arith, lt)))

-- one function, and then the others
pub declare_step : (f : Forest) (list : List FunId) (n : ℕ) (id : FunId) (i j : ℕ) (s t : State) (k : State → Plan) (all : Plan) → slice_get list n ≡ Some id → j ≡ i
    → make (new_function (without_name (fun_at f id)) (Some i)) 0 s (λ v u. declare (drop (n + 1) (map (fun_at f) list)) i (with_variable u i (fun_name (fun_at f id)) v) k) ≡ declare (drop (n + 1) (map (fun_at f) list)) i t k
    → declare (drop n (map (fun_at f) list)) i s k ≡ all → declare (drop (n + 1) (map (fun_at f) list)) j t k ≡ all
declare_step f list n id i j s t k all at same made h =
    ap (λ m. declare (drop (n + 1) (map (fun_at f) list)) m t k) same ∙ sym made
    ∙ ap (λ l. declare l i s k) (sym (drop_at (fun_at f) list n id at))
    ∙ h

pub declare_stops : (f : Forest) (list : List FunId) (n : ℕ) (id : FunId) (i : ℕ) (s : State) (k : State → Plan) (all stop : Plan) → slice_get list n ≡ Some id
    → make (new_function (without_name (fun_at f id)) (Some i)) 0 s (λ v u. declare (drop (n + 1) (map (fun_at f) list)) i (with_variable u i (fun_name (fun_at f id)) v) k) ≡ stop
    → declare (drop n (map (fun_at f) list)) i s k ≡ all → all ≡ stop
declare_stops f list n id i s k all stop at made h = sym h ∙ ap (λ l. declare l i s k) (drop_at (fun_at f) list n id at) ∙ made

pub declare_over : (f : Forest) (list : List FunId) (n i : ℕ) (s : State) (k : State → Plan) (all : Plan) → length list ≤ n → declare (drop n (map (fun_at f) list)) i s k ≡ all → all ≡ k s
declare_over f list n i s k all le h = sym h ∙ ap (λ l. declare l i s k) (at_drop_all (λ l. l) (map (fun_at f) list) n (omega (arith, length-map list (fun_at f), le)))

-- a function that was made, under its name
module _ (fs : List Forest) (r : Rest) (w : ℕ) (old mid new : Cells) (scope : ℕ) (g : Fun) (name : Option (List ℕ)) where
  abbrev at : ℕ
  at = scope_number w old.cells scope

  pub named_then : (v : Value) (k : State → Plan) → IsOwnScope w old.cells scope → Grows w old.cells mid.cells → fun_name g ≡ option_to_list name
      → make (new_function (without_name g) (Some at)) 0 (image fs r w old) (λ u t. k (with_variable t at (fun_name g) u)) ≡ k (with_variable (image fs r w mid) at (fun_name g) v)
      → image fs r w new ≡ with_variable (image fs r w mid) (scope_number w mid.cells scope) (option_to_list name) v
      → make (new_function (without_name g) (Some at)) 0 (image fs r w old) (λ u t. k (with_variable t at (fun_name g) u)) ≡ k (image fs r w new)
  named_then v k own grows same made is =
      made ∙ (λ i. k (with_variable (image fs r w mid) (sym (grows.scope scope own.0) i) (same i) v)) ∙ ap k (sym is)
