-- The words that the markup rules cite. A text is its list of units.
use Rattle.std.specs.Prelude.{ℕ, ◌+◌, Bool, true, false, List, [], ◌∷◌, nat_le, nat_eq, ◌&&◌, ◌||◌, codes, if◌then◌else◌}
use Rattle.std.specs.List.{list_all, list_any}
use Rattle.std.specs.Str.{bytes_eq}

-- the attributes that an element other than a `script` may have: those of any element, and those of what is filled in
unfoldable pub is_common : List ℕ → Bool
is_common name = list_any (bytes_eq name)
    (codes "alt" ∷ codes "class" ∷ codes "cols" ∷ codes "colspan" ∷ codes "height" ∷ codes "href" ∷ codes "id" ∷ codes "rows" ∷ codes "rowspan" ∷ codes "src" ∷ codes "style" ∷ codes "title" ∷ codes "width" ∷ [])

unfoldable pub is_of_form : List ℕ → Bool
is_of_form name = list_any (bytes_eq name)
    (codes "checked" ∷ codes "disabled" ∷ codes "for" ∷ codes "maxlength" ∷ codes "name" ∷ codes "size" ∷ codes "type" ∷ codes "value" ∷ [])

abbrev pub is_listed_attribute : List ℕ → Bool
is_listed_attribute name = is_common name || is_of_form name

-- those of a `script`
unfoldable pub is_script_attribute : List ℕ → Bool
is_script_attribute name = bytes_eq name (codes "src") || bytes_eq name (codes "type")

-- those whose value is plain words
unfoldable pub is_wordy : List ℕ → Bool
is_wordy name = bytes_eq name (codes "class") || bytes_eq name (codes "name") || bytes_eq name (codes "type")

-- those whose value is an address
unfoldable pub is_address : List ℕ → Bool
is_address name = bytes_eq name (codes "href") || bytes_eq name (codes "src")

-- what may follow the slot's name in an `id`: an ASCII letter or digit, `_` or `-`
abbrev pub is_in_id : ℕ → Bool
is_in_id u = (nat_le 48 u && nat_le u 57) || (nat_le 65 u && nat_le u 90) || (nat_le 97 u && nat_le u 122) || nat_eq u 95 || nat_eq u 45

-- the slot's name, and then one unit or more of an `id`
abbrev pub is_own_id : List ℕ → List ℕ → Bool
is_own_id [] [] = false
is_own_id [] (u ∷ us) = list_all is_in_id (u ∷ us)
is_own_id (n ∷ name) [] = false
is_own_id (n ∷ name) (u ∷ us) = nat_eq u n && is_own_id name us

-- the small letter of an ASCII capital
abbrev pub lowered : ℕ → ℕ
lowered u = if nat_le 65 u && nat_le u 90 then u + 32 else u

-- the word stands at the start of the units, in any case; the word is in lower case
abbrev pub begins_with : List ℕ → List ℕ → Bool
begins_with [] us = true
begins_with (letter ∷ word) [] = false
begins_with (letter ∷ word) (u ∷ us) = nat_eq (lowered u) letter && begins_with word us

-- the word stands somewhere in the units, in any case
abbrev pub has_word : List ℕ → List ℕ → Bool
has_word word [] = false
has_word word (u ∷ us) = begins_with word (u ∷ us) || has_word word us
