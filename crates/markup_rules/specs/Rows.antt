-- The markup rules M02 to M12, as sets of breaches: which rule is broken, and at which place.
use Rattle.std.specs.Prelude.{◌≡◌, ℕ, ◌+◌, ◌-◌, Bool, true, false, List, [], ◌∷◌, codes, map, Option, Some, None, if◌then◌else◌, ◌||◌, ◌&&◌, not, fold, length, take, filter, nat_lt}
use Rattle.std.specs.List.{list_any, list_all, flat_map}
use Rattle.std.specs.Str.{bytes_eq}
use Rattle.first_breach.specs.Breaches.{Nothing, Either, One, If, Each, IsFirst, IsClean}
use Rattle.plain_tree.specs.declared.plain.Attr.{Attr}
use Rattle.plain_tree.specs.Trees.{Trees, size}
use Rattle.plain_tree.specs.Plains.{Places}
use Rattle.plain_tree.specs.Tags.{is_listed_tag}
use Rattle.plain_tree.specs.Words.{is_plain_words}
use Rattle.style_text.specs.Styles.{Pair, StyleSpells}
use Rattle.markup_rules.specs.declared.repeats.Saying.{Saying}
use Rattle.markup_rules.specs.declared.rule_numbers.TheConstants.{M02, M03, M04, M05, M06, M07, M08, M09, M10, M11, M12}
use Rattle.markup_rules.specs.Words.{is_listed_attribute, is_script_attribute, is_wordy, is_address, is_own_id, has_word}
use Rattle.markup_rules.specs.Elements.{Element, elements, roots, others, scripts, is_script, is_sourced, first_named, has_named, is_named, before_scripts, Item, items, item_at, is_div_item, is_script_item, is_own_script}

-- the rule at the place, if there is one
abbrev pub Perhaps : ℕ → Option ℕ → ℕ → ℕ → Type 0
Perhaps rule None = Nothing
Perhaps rule (Some place) = One rule place

-- ## The file

abbrev pub first_place : List Item → Option ℕ
first_place [] = None
first_place (i ∷ rest) = Some (item_at i)

-- where the items are not one `div`: nowhere, at the first where it is another, at the second, or at the start where there is none
abbrev pub misrooted : List Item → Option ℕ
misrooted [] = Some 0
misrooted (i ∷ rest) = if is_div_item i then first_place rest else Some (item_at i)

abbrev pub is_content : Item → Bool
is_content i = not (is_script_item i)

-- M05: a script is followed by what is no script
abbrev pub Followed : List Item → ℕ → ℕ → Type 0
Followed [] = Nothing
Followed (i ∷ rest) = Either (If (is_script_item i && list_any is_content rest) (One M05 (item_at i))) (Followed rest)

-- each that says what one before it says
abbrev pub Twice : ℕ → List Saying → ℕ → ℕ → Type 0
Twice rule [] = Nothing
Twice rule (s ∷ rest) = Either (Each (λ t. If (bytes_eq t.text s.text) (One rule t.at)) rest) (Twice rule rest)

abbrev pub name_of : Attr → Saying
name_of a = record { text = a.name; at = a.at }

abbrev pub value_of : Attr → Saying
value_of a = record { text = a.value; at = a.value_at }

-- what the `id`s of elements say
abbrev pub ids : List Element → List Saying
ids es = flat_map (λ e. map value_of (filter (is_named (codes "id")) e.attrs)) es

abbrev pub FileRows : Trees Places → ℕ → ℕ → Type 0
FileRows file =
    -- M02: it is not one `div`
    Either (Perhaps M02 (misrooted (items file)))
    -- M05: a script beside the root is followed by what is no script
    (Either (Followed (items file))
    -- M08: an `id` stands twice
    (Twice M08 (ids (elements file))))

-- ## The root

-- where the `id` is not the name
abbrev pub misnamed : List ℕ → ℕ → Option Attr → Option ℕ
misnamed name at None = Some at
misnamed name at (Some a) = if bytes_eq a.value name then None else Some a.value_at

-- the item ends the root, or does not
abbrev pub ending : Option ℕ → Item → Option ℕ
ending p i = if is_own_script i then None else Some (item_at i)

-- where the root is not ended by a script without `src`: at its last item, or at the root where there is none
abbrev pub unended : ℕ → List Item → Option ℕ
unended at is = fold ending (Some at) is

-- M05: the first script may have no `src`, and each after it has one
abbrev pub Disordered : Bool → List Element → ℕ → ℕ → Type 0
Disordered is_first [] = Nothing
Disordered is_first (s ∷ rest) = Either (If (if is_first then is_sourced s else not (is_sourced s)) (One M05 s.at)) (Disordered false rest)

abbrev pub before_last : List Element → List Element
before_last ss = take (length ss - 1) ss

-- the nodes that a widget may have
abbrev pub node_limit : ℕ
node_limit = 16384

abbrev pub RootRows : List ℕ → Element → ℕ → ℕ → Type 0
RootRows name root =
    -- M03: its `id` is not the slot's name
    Either (Perhaps M03 (misnamed name root.at (first_named (codes "id") root.attrs)))
    -- M04: its last item is no script without `src`
    (Either (Perhaps M04 (unended root.at (items root.kids)))
    -- M05: its scripts before the last are out of order
    (Either (Disordered true (before_last (scripts root)))
    -- M12: with what stands before its scripts it has too many nodes
    (If (nat_lt node_limit (size (before_scripts root.kids) + 1)) (One M12 root.at))))

-- ## Another element than the root

-- M08: an `id` is not the slot's
abbrev pub IdRow : List ℕ → Attr → ℕ → ℕ → Type 0
IdRow name a = If (is_named (codes "id") a && not (is_own_id name a.value)) (One M08 a.value_at)

-- M05: a script stands in it
abbrev pub InsideRow : Element → ℕ → ℕ → Type 0
InsideRow s = One M05 s.at

abbrev pub OtherRows : List ℕ → Element → ℕ → ℕ → Type 0
OtherRows name e = Either (Each InsideRow (scripts e)) (Each (IdRow name) e.attrs)

-- ## Any element

abbrev pub is_allowed : Bool → List ℕ → Bool
is_allowed of_script name = if of_script then is_script_attribute name else is_listed_attribute name

-- words with another character, or an address that says `javascript:`
abbrev pub is_unsafe : Attr → Bool
is_unsafe a = (is_wordy a.name && not (is_plain_words a.value)) || (is_address a.name && has_word (codes "javascript:") a.value)

-- M10: a `style` is no list of styles
pub record Unstyled (a : Attr) (r p : ℕ) : Type 0 where
  pub named : is_named (codes "style") a ≡ true
  pub unspelled : (pairs : List Pair) → StyleSpells a.value pairs → ⊥
  pub broken : One M10 a.value_at r p

abbrev pub AttributeRows : Bool → Attr → ℕ → ℕ → Type 0
AttributeRows of_script a =
    -- M07: it is not listed, or is not for a script
    Either (If (not (is_allowed of_script a.name)) (One M07 a.at))
    -- M09: its value is unsafe
    (Either (If (is_unsafe a) (One M09 a.value_at))
    (Unstyled a))

-- M06: the tag is not listed
abbrev pub is_foreign : List ℕ → Bool
is_foreign tag = not (is_script tag) && not (is_listed_tag tag)

-- the rules of a slot's file and of an `html` text
abbrev pub MarkupRows : Element → ℕ → ℕ → Type 0
MarkupRows e =
    Either (If (is_foreign e.tag) (One M06 e.at))
    -- M07: an attribute stands twice
    (Either (Twice M07 (map name_of e.attrs))
    (Each (AttributeRows (is_script e.tag)) e.attrs))

abbrev pub SlotAttributeRows : List ℕ → List (List ℕ) → Bool → Attr → ℕ → ℕ → Type 0
SlotAttributeRows name libs of_script a =
    -- M08: a `for` is not the slot's
    Either (If (is_named (codes "for") a && not (is_own_id name a.value)) (One M08 a.value_at))
    -- M11: the `src` of a script is no library of the slot
    (If (of_script && is_named (codes "src") a && not (list_any (bytes_eq a.value) libs)) (One M11 a.value_at))

-- the rules of a slot's file alone
abbrev pub SlotRows : List ℕ → List (List ℕ) → Element → ℕ → ℕ → Type 0
SlotRows name libs e =
    -- M05: a script in it is followed by what is no script
    Either (Followed (items e.kids))
    (Each (SlotAttributeRows name libs (is_script e.tag)) e.attrs)

-- ## All

-- the slot of this name, with these libraries, breaks the rule at the place of its file
abbrev pub Breaks : List ℕ → List (List ℕ) → Trees Places → ℕ → ℕ → Type 0
Breaks name libs file =
    Either (FileRows file)
    (Either (Each (RootRows name) (roots file))
    (Either (Each (OtherRows name) (others file))
    (Either (Each MarkupRows (elements file))
    (Each (SlotRows name libs) (elements file)))))

-- its first broken rule of M02 to M12
abbrev pub First : List ℕ → List (List ℕ) → Trees Places → ℕ → ℕ → Type 0
First name libs file rule place = IsFirst (Breaks name libs file) rule place

-- it breaks none
abbrev pub IsGood : List ℕ → List (List ℕ) → Trees Places → Type 0
IsGood name libs file = IsClean (Breaks name libs file)

-- ## Texts of the page

-- neither a script nor with an `id` or a `for`
abbrev pub is_free : Element → Bool
is_free e = not (is_script e.tag) && (not (has_named (codes "id") e) && not (has_named (codes "for") e))

-- what may stand in the page beside the slots
pub record IsHostMarkup (file : Trees Places) : Type 0 where
  pub clean : IsClean (Each MarkupRows (elements file))
  pub free : list_all is_free (elements file) ≡ true
