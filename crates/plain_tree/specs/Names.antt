-- Names of tags and attributes. A name is its list of units.
use Rattle.std.specs.Prelude.{ℕ, Bool, false, List, [], ◌∷◌, nat_le, nat_eq, ◌&&◌, ◌||◌, codes}
use Rattle.std.specs.List.{list_all, list_any}
use Rattle.std.specs.Str.{bytes_eq}

-- `a` to `z`
abbrev pub is_letter : ℕ → Bool
is_letter c = nat_le 97 c && nat_le c 122

-- `0` to `9`
abbrev pub is_digit : ℕ → Bool
is_digit c = nat_le 48 c && nat_le c 57

-- what goes on in the name of a tag: letters and digits
abbrev pub is_in_tag : ℕ → Bool
is_in_tag c = is_letter c || is_digit c

-- what goes on in the name of an attribute: letters and `-`
abbrev pub is_in_attribute : ℕ → Bool
is_in_attribute c = is_letter c || nat_eq c 45

-- a letter, and then what passes the test
abbrev pub is_name : (ℕ → Bool) → List ℕ → Bool
is_name p [] = false
is_name p (c ∷ cs) = is_letter c && list_all p cs

-- the name of a tag
abbrev pub is_tag_name : List ℕ → Bool
is_tag_name us = is_name is_in_tag us

-- the name of an attribute
abbrev pub is_attribute_name : List ℕ → Bool
is_attribute_name us = is_name is_in_attribute us

-- an element with this tag has neither content nor an end tag
unfoldable pub is_void : List ℕ → Bool
is_void tag = list_any (bytes_eq tag) (codes "br" ∷ codes "hr" ∷ codes "img" ∷ codes "input" ∷ [])

-- an element with this tag has raw text
unfoldable pub is_script : List ℕ → Bool
is_script tag = bytes_eq tag (codes "script")

-- an attribute with this name may stand without a value, and has its name as its value
unfoldable pub is_bare : List ℕ → Bool
is_bare name = list_any (bytes_eq name) (codes "checked" ∷ codes "disabled" ∷ [])
