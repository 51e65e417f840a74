-- The tags that a widget may have, by what they are for; `script` is none of them.
use Rattle.std.specs.Prelude.{ℕ, Bool, List, [], ◌∷◌, ◌||◌, codes}
use Rattle.std.specs.List.{list_any}
use Rattle.std.specs.Str.{bytes_eq}

-- what stands in a line
unfoldable pub is_phrase : List ℕ → Bool
is_phrase tag = list_any (bytes_eq tag)
    (codes "a" ∷ codes "abbr" ∷ codes "b" ∷ codes "br" ∷ codes "code" ∷ codes "em" ∷ codes "i" ∷ codes "img"
    ∷ codes "small" ∷ codes "span" ∷ codes "strong" ∷ codes "sub" ∷ codes "sup" ∷ [])

-- what stands by itself
unfoldable pub is_block : List ℕ → Bool
is_block tag = list_any (bytes_eq tag)
    (codes "blockquote" ∷ codes "div" ∷ codes "h1" ∷ codes "h2" ∷ codes "h3" ∷ codes "h4" ∷ codes "h5" ∷ codes "h6"
    ∷ codes "hr" ∷ codes "p" ∷ codes "pre" ∷ [])

-- what makes a list
unfoldable pub is_list : List ℕ → Bool
is_list tag = list_any (bytes_eq tag)
    (codes "dd" ∷ codes "dl" ∷ codes "dt" ∷ codes "li" ∷ codes "ol" ∷ codes "ul" ∷ [])

-- what is filled in
unfoldable pub is_form : List ℕ → Bool
is_form tag = list_any (bytes_eq tag)
    (codes "button" ∷ codes "input" ∷ codes "label" ∷ codes "option" ∷ codes "select" ∷ codes "textarea" ∷ [])

-- what makes a table
unfoldable pub is_table : List ℕ → Bool
is_table tag = list_any (bytes_eq tag)
    (codes "caption" ∷ codes "table" ∷ codes "tbody" ∷ codes "td" ∷ codes "tfoot" ∷ codes "th" ∷ codes "thead"
    ∷ codes "tr" ∷ [])

-- a listed tag
abbrev pub is_listed_tag : List ℕ → Bool
is_listed_tag tag = is_phrase tag || is_block tag || is_list tag || is_form tag || is_table tag
