-- Names that are indices.
use Rattle.std.proofs.Common.{◌≡◌, ℕ, ◌<◌, Bool, true, false, ◌&&◌, List, refl, sym, ap, ◌∙◌, subst, arith, Option, Some, None, if◌then◌else◌, nat_lt, lt-ltb, ltb-true}
use Rattle.std.specs.Prelude.{IfSome}
use Rattle.std.specs.Fmt.{decimal}
use Rattle.std.specs.Str.{bytes_eq}
use Rattle.std.specs.Str.Parse.{digits_value}
use Rattle.std.proofs.lemmas.Fmt.{decimal_is_IsNumeral}
use Rattle.std.proofs.lemmas.Slice.Eq.{bytes_eq-Decides}
use Rattle.code_units.specs.Whole.{is_numeral}
use Rattle.code_units.specs.Indices.{index_value, index_of}
use Rattle.code_units.specs.declared.index.TheConstants.{MAX_LENGTH}
use Rattle.code_units.proofs.Signs.{test-from_IsNumeral}

-- the text of an index is its name
value_known : (name : List ℕ) (n i : ℕ) → index_value name n ≡ Some i → (decimal i ≡ name) × (i < MAX_LENGTH)
value_known name n i = by (bytes_eq name (decimal n)) (nat_lt n MAX_LENGTH) refl refl
  where
    by : (a b : Bool) → bytes_eq name (decimal n) ≡ a → nat_lt n MAX_LENGTH ≡ b → (if a && b then Some n else None) ≡ Some i → (decimal i ≡ name) × (i < MAX_LENGTH)
    by true true same small is =
        let e : n ≡ i = cc in
        (ap decimal (sym e) ∙ sym ((bytes_eq-Decides name (decimal n)).0 same), subst (λ m. m < MAX_LENGTH) e (ltb-true n MAX_LENGTH small))
    by true false same small is = cc
    by false b same small is = cc

pub index_known : (name : List ℕ) (i : ℕ) → index_of name ≡ Some i → (decimal i ≡ name) × (i < MAX_LENGTH)
index_known name i = by (is_numeral 10 name)
  where
    by : (b : Bool) → (if b then index_value name (digits_value 10 name) else None) ≡ Some i → (decimal i ≡ name) × (i < MAX_LENGTH)
    by true is = value_known name (digits_value 10 name) i is
    by false is = cc

pub known_text : (name : List ℕ) (o : Option ℕ) → o ≡ index_of name → IfSome o (λ i. decimal i ≡ name)
known_text name None e = tt
known_text name (Some i) e = (index_known name i (sym e)).0

pub known_small : (name : List ℕ) (o : Option ℕ) → o ≡ index_of name → IfSome o (λ i. i < MAX_LENGTH)
known_small name None e = tt
known_small name (Some i) e = (index_known name i (sym e)).1

-- an index is the one whose text the name is
pub index_only : (name : List ℕ) (i : ℕ) → i < MAX_LENGTH → decimal i ≡ name → index_of name ≡ Some i
index_only name i small is =
    let numeral = decimal_is_IsNumeral i (omega arith) in
    let same : bytes_eq (decimal i) (decimal i) ≡ true = (bytes_eq-Decides (decimal i) (decimal i)).1 refl in
    subst (λ x. index_of x ≡ Some i) is (
    ap (λ b. if b then index_value (decimal i) (digits_value 10 (decimal i)) else None) (test-from_IsNumeral 10 (decimal i) numeral.0)
    ∙ ap (index_value (decimal i)) numeral.1
    ∙ (λ j. if same j && lt-ltb i MAX_LENGTH small j then Some i else None))
