-- What a plan says of a write.
use Rattle.std.proofs.Common.{◌≡◌, ℕ, ◌+◌, List, refl, sym, ap, ◌∙◌, Option, Some, None, Bool, true, false, if◌then◌else◌, true≢false, length}
use Rattle.std.specs.Fmt.{decimal}
use Rattle.std.specs.Prelude.{nat_lt, ◌<◌}
use Rattle.std.specs.Option.{option_map, option_map_or, option_and_then}
use Rattle.std.specs.Str.{bytes_eq}
use Rattle.code_units.proofs.Indexed.{index_only}
use Rattle.property_names.proofs.Digits.{index_no_length}
use Rattle.keyed_names.specs.Interned.{IsTable}
use Rattle.keyed_names.proofs.Interning.{same_test}
use Rattle.store_cells.specs.declared.value.Value.{Value}
use Rattle.store_cells.specs.declared.cell.Write.{Write}
use Rattle.store_cells.specs.declared.cell.Write.TheVariants as write
use Rattle.code_units.specs.Indices.{index_of}
use Rattle.store_cells.specs.Cells.{is_array}
use Rattle.store_cells.specs.Arrays.{end_of, length_in, length_name, length_of, count_value, written, cut, stored, placed, is_bad_length}
use Rattle.store_cells.specs.Numbered.{NumberedCell, plain, named, plan_of, by_plan, element_plan, numbered_length}
use Rattle.store_cells.specs.Shape.{Known, AreWords}
use Rattle.store_cells.proofs.Lists.{none_some, some_same}
use Rattle.store_cells.proofs.Look.{look}

length_own : (n e : ℕ) → Some (write.Length n) ≡ Some (write.Own e) → ⊥
length_own n e h = cc

longer_own : (n e : ℕ) → write.Longer n ≡ write.Own e → ⊥
longer_own n e h = cc

length_longer : (n e : ℕ) → Some (write.Length n) ≡ Some (write.Longer e) → ⊥
length_longer n e h = cc

own_longer : (n e : ℕ) → write.Own n ≡ write.Longer e → ⊥
own_longer n e h = cc

own_length : (n e : ℕ) → Some (write.Own n) ≡ Some (write.Length e) → ⊥
own_length n e h = cc

longer_length : (n e : ℕ) → Some (write.Longer n) ≡ Some (write.Length e) → ⊥
longer_length n e h = cc

own_same : (n e : ℕ) → write.Own n ≡ write.Own e → n ≡ e
own_same n e h = cc

longer_same : (n e : ℕ) → write.Longer n ≡ write.Longer e → n ≡ e
longer_same n e h = cc

length_same : (n e : ℕ) → Some (write.Length n) ≡ Some (write.Length e) → n ≡ e
length_same n e h = cc

-- the plan of the name of an index
pub index_plan_is : (i : ℕ) (v : Value) (c : NumberedCell) → i < 4294967295 → plan_of (decimal i) v c ≡ Some (if is_array c.head.form then element_plan (numbered_length c.entries) (Some i) else write.Own 0)
index_plan_is i v c lt = by (is_array c.head.form)
  where
    no : bytes_eq (decimal i) length_name ≡ false
    no = index_no_length i

    is : index_of (decimal i) ≡ Some i
    is = index_only (decimal i) i lt refl

    by : (a : Bool) → (if a then (if bytes_eq (decimal i) length_name then option_map (λ n. write.Length n) (length_in v) else Some (element_plan (numbered_length c.entries) (index_of (decimal i)))) else Some (write.Own 0)) ≡ Some (if a then element_plan (numbered_length c.entries) (Some i) else write.Own 0)
    by true = λ j. if no j then option_map (λ n. write.Length n) (length_in v) else Some (element_plan (numbered_length c.entries) (is j))
    by false = refl

-- an element plan that writes under the name alone
own_element : (len e : ℕ) (o : Option ℕ) → element_plan len o ≡ write.Own e → e ≡ option_map_or (λ i. i + 1) o 0
own_element len e None h = sym (own_same 0 e h)
own_element len e (Some i) h = by (nat_lt i len) h
  where
    by : (b : Bool) → (if b then write.Own (i + 1) else write.Longer (i + 1)) ≡ write.Own e → e ≡ i + 1
    by true g = sym (own_same (i + 1) e g)
    by false g = absurd (longer_own (i + 1) e g)

longer_element : (len e : ℕ) (o : Option ℕ) → element_plan len o ≡ write.Longer e → e ≡ option_map_or (λ i. i + 1) o 0
longer_element len e None h = absurd (own_longer 0 e h)
longer_element len e (Some i) h = by (nat_lt i len) h
  where
    by : (b : Bool) → (if b then write.Own (i + 1) else write.Longer (i + 1)) ≡ write.Longer e → e ≡ i + 1
    by true g = absurd (own_longer (i + 1) e g)
    by false g = sym (longer_same (i + 1) e g)

module _ (name : List ℕ) (v : Value) (c : NumberedCell) where
  pub own_facts : (e : ℕ) → plan_of name v c ≡ Some (write.Own e) → is_array c.head.form ≡ true → (bytes_eq name length_name ≡ false) × (e ≡ end_of name)
  own_facts e h array = by (is_array c.head.form) (bytes_eq name length_name) (length_in v) h array
    where
      by : (a b : Bool) (l : Option ℕ) → (if a then (if b then option_map (λ n. write.Length n) l else Some (element_plan (numbered_length c.entries) (index_of name))) else Some (write.Own 0)) ≡ Some (write.Own e) → a ≡ true → (b ≡ false) × (e ≡ end_of name)
      by true true None g t = absurd (none_some g)
      by true true (Some n) g t = absurd (length_own n e g)
      by true false l g t = (refl, own_element (numbered_length c.entries) e (index_of name) (some_same _ _ g))
      by false b l g t = absurd (true≢false (sym t))

  pub longer_facts : (e : ℕ) → plan_of name v c ≡ Some (write.Longer e) → (bytes_eq name length_name ≡ false) × (e ≡ end_of name)
  longer_facts e h = by (is_array c.head.form) (bytes_eq name length_name) (length_in v) h
    where
      by : (a b : Bool) (l : Option ℕ) → (if a then (if b then option_map (λ n. write.Length n) l else Some (element_plan (numbered_length c.entries) (index_of name))) else Some (write.Own 0)) ≡ Some (write.Longer e) → (b ≡ false) × (e ≡ end_of name)
      by true true None g = absurd (none_some g)
      by true true (Some n) g = absurd (length_longer n e g)
      by true false l g = (refl, longer_element (numbered_length c.entries) e (index_of name) (some_same _ _ g))
      by false b l g = absurd (own_longer 0 e (some_same _ _ g))

  pub length_facts : (n : ℕ) → plan_of name v c ≡ Some (write.Length n) → (is_array c.head.form ≡ true) × (length_in v ≡ Some n)
  length_facts n h = by (is_array c.head.form) (bytes_eq name length_name) (length_in v) h
    where
      element : (len : ℕ) (o : Option ℕ) → Some (element_plan len o) ≡ Some (write.Length n) → ⊥
      element len None g = own_length 0 n g
      element len (Some i) g = pick (nat_lt i len) g
        where
          pick : (b : Bool) → Some (if b then write.Own (i + 1) else write.Longer (i + 1)) ≡ Some (write.Length n) → ⊥
          pick true g = own_length (i + 1) n g
          pick false g = longer_length (i + 1) n g

      by : (a b : Bool) (l : Option ℕ) → (if a then (if b then option_map (λ n. write.Length n) l else Some (element_plan (numbered_length c.entries) (index_of name))) else Some (write.Own 0)) ≡ Some (write.Length n) → (a ≡ true) × (l ≡ Some n)
      by true true None g = absurd (none_some g)
      by true true (Some m) g = (refl, ap Some (length_same m n g))
      by true false l g = absurd (element (numbered_length c.entries) (index_of name) g)
      by false b l g = absurd (own_length 0 n g)

  pub no_plan : plan_of name v c ≡ None → (names : List (List ℕ)) → is_bad_length name v (plain names c) ≡ true
  no_plan h names = by (is_array c.head.form) (bytes_eq name length_name) (length_in v) h
    where
      by : (a b : Bool) (l : Option ℕ) → (if a then (if b then option_map (λ n. write.Length n) l else Some (element_plan (numbered_length c.entries) (index_of name))) else Some (write.Own 0)) ≡ None → (if a then (if b then option_map_or (λ n. false) l true else false) else false) ≡ true
      by true true None g = refl
      by true true (Some m) g = absurd (none_some (sym g))
      by true false l g = absurd (none_some (sym g))
      by false b l g = absurd (none_some (sym g))

  pub some_plan : (p : Write) → plan_of name v c ≡ Some p → (names : List (List ℕ)) → is_bad_length name v (plain names c) ≡ false
  some_plan p h names = by (is_array c.head.form) (bytes_eq name length_name) (length_in v) h
    where
      by : (a b : Bool) (l : Option ℕ) → (if a then (if b then option_map (λ n. write.Length n) l else Some (element_plan (numbered_length c.entries) (index_of name))) else Some (write.Own 0)) ≡ Some p → (if a then (if b then option_map_or (λ n. false) l true else false) else false) ≡ false
      by true true None g = absurd (none_some g)
      by true true (Some m) g = refl
      by true false l g = refl
      by false b l g = refl

  -- the plan does what a write under the name is
  module _ (names : List (List ℕ)) (len : numbered_length c.entries ≡ length_of (named names c.entries)) where
    done_element : (b : Bool) (i : ℕ) → by_plan (if b then write.Own (i + 1) else write.Longer (i + 1)) name v (plain names c) ≡ (if b then written name v (plain names c) else written length_name (count_value (i + 1)) (written name v (plain names c)))
    done_element true i = refl
    done_element false i = refl

    element_done : (o : Option ℕ) → by_plan (element_plan (numbered_length c.entries) o) name v (plain names c) ≡ placed name v (plain names c) o
    element_done None = refl
    element_done (Some i) = done_element (nat_lt i (numbered_length c.entries)) i ∙ ap (λ n. if nat_lt i n then written name v (plain names c) else written length_name (count_value (i + 1)) (written name v (plain names c))) len

    pub plan_done : (p : Write) → plan_of name v c ≡ Some p → by_plan p name v (plain names c) ≡ stored name v (plain names c)
    plan_done p h = by (is_array c.head.form) (bytes_eq name length_name) (length_in v) h
      where
        by : (a b : Bool) (l : Option ℕ) → (if a then (if b then option_map (λ n. write.Length n) l else Some (element_plan (numbered_length c.entries) (index_of name))) else Some (write.Own 0)) ≡ Some p
            → by_plan p name v (plain names c) ≡ (if a then (if b then option_map_or (λ n. cut n (written length_name v (plain names c))) l (plain names c) else placed name v (plain names c) (index_of name)) else written name v (plain names c))
        by true true None g = absurd (none_some g)
        by true true (Some m) g = ap (λ q. by_plan q name v (plain names c)) (sym (some_same _ _ g))
        by true false l g = ap (λ q. by_plan q name v (plain names c)) (sym (some_same _ _ g)) ∙ element_done (index_of name)
        by false b l g = ap (λ q. by_plan q name v (plain names c)) (sym (some_same _ _ g))

-- a length by number, and by name
pub length_alike : (names : List (List ℕ)) → IsTable names → AreWords names → (es : List (ℕ × Value)) → Known (length names) es → numbered_length es ≡ length_of (named names es)
length_alike names table words es known = ap (λ (o : Option Value). option_map_or (λ n. n) (option_and_then length_in o) 0) (look names length_name 0 (same_test names length_name 0 table words.length) es known)
