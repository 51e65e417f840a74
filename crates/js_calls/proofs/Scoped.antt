-- The scope of a call, by the laws of its names.
use Rattle.std.proofs.Common.{◌≡◌, ℕ, Bool, true, false, List, [], ◌∷◌, ◌++◌, sym, ◌∙◌, subst, Option, append-nil}
use Rattle.std.specs.Prelude.{if◌then◌else◌, option_to_list}
use Rattle.std.specs.List.{AllByRecursion, IsDistinct}
use Rattle.std.specs.Str.{bytes_eq}
use Rattle.js_tree.specs.Plain.{Fun}
use Rattle.widget_meaning.specs.Values.{Value}
use Rattle.widget_meaning.specs.Scopes.{call_scope, without_name}
use Rattle.js_names.specs.declared.names.FunNames.{FunNames}
use Rattle.js_names.specs.Names.{first_pairs, own_pairs}
use Rattle.js_calls.specs.Called.{own_called}

pub scope_is : (g : Fun) (n : FunNames) (o : Option ℕ) (v : Value) (vs : List Value)
    → call_scope g o v vs ≡ record { outer = o; pairs = first_pairs n.names.items vs ++ own_pairs n.own v }
    → call_scope (without_name g) o v vs ≡ record { outer = o; pairs = first_pairs n.names.items vs }
    → (declared : Bool) → call_scope (if declared then without_name g else g) o v vs ≡ record { outer = o; pairs = first_pairs n.names.items vs ++ own_pairs (own_called declared n.own) v }
scope_is g n o v vs h k true = k ∙ (λ i. record { outer = o; pairs = sym (append-nil (first_pairs n.names.items vs)) i })
scope_is g n o v vs h k false = h

-- a front of names that differ
front_all : (P : List ℕ → Type 0) (xs ys : List (List ℕ)) → AllByRecursion P (xs ++ ys) → AllByRecursion P xs
front_all P [] ys h = tt
front_all P (x ∷ xs) ys h = (h.0, front_all P xs ys h.1)

front : (xs ys : List (List ℕ)) → IsDistinct bytes_eq (xs ++ ys) → IsDistinct bytes_eq xs
unfolding IsDistinct
front [] ys h = tt
front (x ∷ xs) ys h = (front_all (λ y. bytes_eq x y ≡ false) xs ys h.0, front xs ys h.1)

pub names_differ : (xs : List (List ℕ)) (own : Option (List ℕ)) → IsDistinct bytes_eq (xs ++ option_to_list own)
    → (declared : Bool) → IsDistinct bytes_eq (xs ++ option_to_list (own_called declared own))
names_differ xs own h true = subst (IsDistinct bytes_eq) (sym (append-nil xs)) (front xs (option_to_list own) h)
names_differ xs own h false = h
