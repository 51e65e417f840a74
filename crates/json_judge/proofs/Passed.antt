-- What is passed at each token.
use Rattle.std.proofs.Common.{◌≡◌, ℕ, ◌-◌, ◌<◌, List, ◌∷◌, length, Bool, true, false, ◌||◌, Option, Some, None, Result, Ok, Err, OnErr, option_map, is_some, true≢false, refl, sym, ap, ap₂, ◌∙◌}
use Rattle.json.specs.Token.{Token}
use Rattle.json.specs.Json.{items, members, value, parse_map}
use Rattle.json.proofs.Grammar.{value_is, value-begin_array, value-begin_object}
use Rattle.serde_json.specs.Data.{Num, Data, number, array, object, no_members}
use Rattle.serde_json.specs.Read.{converted, number_of, of_items, of_json, of_members}
use Rattle.json_judge.specs.Verdicts.{PassesItems, PassesMembers, PassesValue}
use Rattle.json_judge.proofs.Turns.{converted-array, converted-object}

-- ## One of two

pub either_true : {P : Type 0} (a b c : Bool) → c ≡ (a || b) → c ≡ true → (a ≡ true → P) → (b ≡ true → P) → P
either_true true b c is e f g = f refl
either_true false b c is e f g = g (sym is ∙ e)

pub on_err : {A E : Type 0} {P : Type 0} (r : Result A E) → P → OnErr r P
on_err (Ok a) p = tt
on_err (Err e) p = p

pub on_err_weaker : {A E : Type 0} {P Q : Type 0} (r : Result A E) → (P → Q) → OnErr r P → OnErr r Q
on_err_weaker (Ok a) f p = tt
on_err_weaker (Err e) f p = f p

-- ## Values

pub passed : (depth : ℕ) (ts r : List Token) (d : Data) → converted of_json (value depth ts) ≡ Some (d, r) → PassesValue depth ts r false
passed depth ts r d e = record { given = d; read = e; names = λ h. absurd (true≢false (sym h)) }

some_of : {A : Type 0} (o : Option A) → is_some o ≡ true → (a : A) × (o ≡ Some a)
some_of None e = absurd (cc)
some_of (Some a) e = (a, refl)

none_of : {A : Type 0} (o : Option A) → is_some o ≡ false → o ≡ None
none_of None e = refl
none_of (Some a) e = absurd (cc)

number_read : (depth : ℕ) (ts r : List Token) (s : List ℕ) → ts ≡ Token.number s ∷ r → converted of_json (value depth ts) ≡ option_map (λ b. (b, r)) (option_map number (number_of s))
number_read depth ts r s is = ap (converted of_json) (ap (value depth) is ∙ value_is depth (Token.number s ∷ r))

pub passes_number : (depth : ℕ) (ts r : List Token) (s : List ℕ) → ts ≡ Token.number s ∷ r → true ≡ is_some (number_of s) → PassesValue depth ts r false
passes_number depth ts r s is e =
    let n = some_of (number_of s) (sym e) in
    passed depth ts r (number n.0) (number_read depth ts r s is ∙ ap (λ (o : Option Num). option_map (λ b. (b, r)) (option_map number o)) n.1)

pub number_refused : (depth : ℕ) (ts r : List Token) (s : List ℕ) → ts ≡ Token.number s ∷ r → false ≡ is_some (number_of s) → converted of_json (value depth ts) ≡ None
number_refused depth ts r s is e = number_read depth ts r s is ∙ ap (λ (o : Option Num). option_map (λ b. (b, r)) (option_map number o)) (none_of (number_of s) (sym e))

array_read : (depth : ℕ) (ts s : List Token) → ts ≡ Token.begin_array ∷ s → 0 < depth → converted of_json (value depth ts) ≡ parse_map array (converted of_items (items (value (depth - 1)) (length s) s))
array_read depth ts s is deep = ap (converted of_json) (ap (value depth) is ∙ value-begin_array depth s deep) ∙ converted-array (items (value (depth - 1)) (length s) s)

pub passes_array : (depth : ℕ) (ts s r : List Token) (b : Bool) → ts ≡ Token.begin_array ∷ s → 0 < depth → PassesItems (depth - 1) s r b → PassesValue depth ts r b
passes_array depth ts s r b is deep h = record { given = array h.given; read = array_read depth ts s is deep ∙ ap (parse_map array) h.read; names = h.names }

pub array_refused : (depth : ℕ) (ts s : List Token) → ts ≡ Token.begin_array ∷ s → 0 < depth → converted of_items (items (value (depth - 1)) (length s) s) ≡ None → converted of_json (value depth ts) ≡ None
array_refused depth ts s is deep e = array_read depth ts s is deep ∙ ap (parse_map array) e

object_read : (depth : ℕ) (ts s : List Token) → ts ≡ Token.begin_object ∷ s → 0 < depth
    → converted of_json (value depth ts) ≡ parse_map object (converted (λ ms. of_members ms no_members) (members (value (depth - 1)) (length s) s))
object_read depth ts s is deep = ap (converted of_json) (ap (value depth) is ∙ value-begin_object depth s deep) ∙ converted-object (members (value (depth - 1)) (length s) s)

pub passes_object : (depth : ℕ) (ts s r : List Token) (b : Bool) → ts ≡ Token.begin_object ∷ s → 0 < depth → PassesMembers (depth - 1) s r b → PassesValue depth ts r b
passes_object depth ts s r b is deep h = record { given = object h.given; read = object_read depth ts s is deep ∙ ap (parse_map object) h.read; names = h.names }

pub object_refused : (depth : ℕ) (ts s : List Token) → ts ≡ Token.begin_object ∷ s → 0 < depth → converted (λ ms. of_members ms no_members) (members (value (depth - 1)) (length s) s) ≡ None
    → converted of_json (value depth ts) ≡ None
object_refused depth ts s is deep e = object_read depth ts s is deep ∙ ap (parse_map object) e

-- what stands too deep is refused
pub deep_array : (depth : ℕ) (ts s : List Token) → ts ≡ Token.begin_array ∷ s → depth ≡ 0 → converted of_json (value depth ts) ≡ None
unfolding value
deep_array depth ts s is none = ap (converted of_json) (ap₂ value none is)

pub deep_object : (depth : ℕ) (ts s : List Token) → ts ≡ Token.begin_object ∷ s → depth ≡ 0 → converted of_json (value depth ts) ≡ None
unfolding value
deep_object depth ts s is none = ap (converted of_json) (ap₂ value none is)
