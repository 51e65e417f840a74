-- The machine of the grammar: it takes one character at a time. It is there for proofs alone.
use Rattle.std.specs.Prelude.{ℕ, suc, ◌+◌, ◌-◌, ◌*◌, List, [], ◌∷◌, ◌++◌, Bool, true, false, Option, Some, None, nat_lt, nat_eq, ◌&&◌, ◌||◌, codes, length, if◌then◌else◌}
use Rattle.std.specs.Char.Escape.{encode_utf16}
use Rattle.markup_grammar.specs.declared.Sign.{Sign}
use Rattle.markup_grammar.specs.declared.Sign.TheVariants as sign
use Rattle.markup_grammar.specs.Signs.{Spot, Char, in_tag}
use Rattle.markup_grammar.specs.Grammar.{limit, is_referable}
use Rattle.plain_tree.specs.declared.plain.Attr.{Attr}
use Rattle.plain_tree.specs.Names.{is_void, is_script, is_bare}
use Rattle.plain_tree.specs.Trees.{Trees, End, beside}
use Rattle.plain_tree.specs.Plains.{Places, text_node, element_node}

-- an element whose head is read, up to some attribute
pub record Opening : Type 0 where
  pub tag : List ℕ
  pub attrs : List Attr
  pub at : ℕ

-- an element whose content is read, and the trees that stand before it
pub record Open : Type 0 where
  pub before : Trees Places
  pub head : Opening

-- a reference whose front is read
pub data Referring : Type 0 where
  Ampersand : Referring
  -- what is left of the name, and the character
  Named : List ℕ → ℕ → Referring
  -- how many digits, and their value
  Number : ℕ → ℕ → Referring

-- units that are read: of a text, with its place, or of a value, with the name of its attribute, its place and that of the value, and its quote
pub data Run : Type 0 where
  InText : ℕ → List ℕ → Run
  InValue : Opening → List ℕ → ℕ → ℕ → Bool → List ℕ → Run

-- what has been read since the last element
pub data Mode : Type 0 where
  Between : Mode
  In : Run → Mode
  Refers : Run → Referring → Mode
  -- behind `<`
  Begun : ℕ → Mode
  TagName : ℕ → List ℕ → Mode
  -- behind a value
  Valued : Opening → Mode
  -- behind blanks
  Spaced : Opening → Mode
  AttributeName : Opening → ℕ → List ℕ → Mode
  -- behind `=`
  Assigned : Opening → ℕ → List ℕ → Mode
  -- behind the `/` of a void element
  Slashed : Opening → Mode
  -- what is left of the name of an end tag
  Ending : List ℕ → Mode
  Ended : Mode
  -- raw text with its place; the same and `<`; the same and `</`, with what is left of the name
  InRaw : Opening → ℕ → List ℕ → Mode
  RawBegun : Opening → ℕ → List ℕ → Mode
  RawEnding : Opening → ℕ → List ℕ → List ℕ → Mode

-- the trees before, and the open elements, the innermost first
pub data State : Type 0 where
  State_at : Mode → Trees Places → List Open → State

abbrev pub begin : State
begin = State_at Between End []

-- more units
abbrev pub grown : Run → List ℕ → Run
grown (InText at us) vs = InText at (us ++ vs)
grown (InValue h name at value_at double us) vs = InValue h name at value_at double (us ++ vs)

-- behind a value
abbrev pub valued : Opening → List ℕ → ℕ → ℕ → List ℕ → Trees Places → List Open → State
valued h name at value_at us ts k = State_at (Valued (record h { attrs = h.attrs ++ record { name = name; value = us; at = at; value_at = value_at } ∷ [] })) ts k

-- a text or a value goes on
abbrev pub in_run : Run → Trees Places → List Open → Sign → Spot → Option State
in_run (InText at us) ts k sign.Less x = Some (State_at (Begun x.at) (beside ts (text_node us at)) k)
in_run (InText at us) ts k sign.Ampersand x = Some (State_at (Refers (InText at us) Ampersand) ts k)
in_run (InText at us) ts k s x = Some (State_at (In (InText at (us ++ encode_utf16 x.code))) ts k)
in_run (InValue h name at value_at double us) ts k sign.Less x = None
in_run (InValue h name at value_at double us) ts k sign.Ampersand x = Some (State_at (Refers (InValue h name at value_at double us) Ampersand) ts k)
in_run (InValue h name at value_at true us) ts k sign.DoubleQuote x = Some (valued h name at value_at us ts k)
in_run (InValue h name at value_at false us) ts k sign.SingleQuote x = Some (valued h name at value_at us ts k)
in_run (InValue h name at value_at double us) ts k s x = Some (State_at (In (InValue h name at value_at double (us ++ encode_utf16 x.code))) ts k)

-- content goes on behind an element, or begins
abbrev pub between : Trees Places → List Open → Sign → Spot → Option State
between ts k sign.Less x = Some (State_at (Begun x.at) ts k)
between ts k sign.Ampersand x = Some (State_at (Refers (InText x.at []) Ampersand) ts k)
between ts k s x = Some (State_at (In (InText x.at (encode_utf16 x.code))) ts k)

-- the names of references, by their first letter
abbrev pub name_of : ℕ → Option Referring
name_of c =
    if nat_eq c 97 then Some (Named (codes "mp") 38)
    else (if nat_eq c 108 then Some (Named (codes "t") 60)
    else (if nat_eq c 103 then Some (Named (codes "t") 62)
    else (if nat_eq c 113 then Some (Named (codes "uot") 34)
    else (if nat_eq c 110 then Some (Named (codes "bsp") 160)
    else None))))

abbrev pub refers : Run → Trees Places → List Open → Option Referring → Option State
refers r ts k None = None
refers r ts k (Some f) = Some (State_at (Refers r f) ts k)

-- behind a reference to a character
abbrev pub referred : Run → ℕ → Trees Places → List Open → State
referred r c ts k = State_at (In (grown r (encode_utf16 c))) ts k

-- so many digits, which are a code point where they are seven
abbrev pub more_digits : Run → ℕ → ℕ → Trees Places → List Open → Option State
more_digits r n v ts k = if nat_lt n 7 || (nat_eq n 7 && is_referable v) then Some (State_at (Refers r (Number n v)) ts k) else None

-- one digit more
abbrev pub digit : Run → ℕ → ℕ → ℕ → Trees Places → List Open → Option State
digit r n v c ts k = if nat_lt v 1000000 then more_digits r (suc n) (v * 10 + (c - 48)) ts k else None

-- the end of a number
abbrev pub numbered : Run → ℕ → ℕ → Trees Places → List Open → Option State
numbered r n v ts k = if nat_lt 0 n && is_referable v then Some (referred r v ts k) else None

abbrev pub in_reference : Run → Referring → Trees Places → List Open → Sign → Spot → Option State
in_reference r Ampersand ts k sign.Hash x = Some (State_at (Refers r (Number 0 0)) ts k)
in_reference r Ampersand ts k s x = if in_tag s then refers r ts k (name_of x.code) else None
in_reference r (Named [] c) ts k sign.Semicolon x = Some (referred r c ts k)
in_reference r (Named [] c) ts k s x = None
in_reference r (Named (u ∷ us) c) ts k s x = if in_tag s && nat_eq x.code u then Some (State_at (Refers r (Named us c)) ts k) else None
in_reference r (Number n v) ts k sign.Digit x = digit r n v x.code ts k
in_reference r (Number n v) ts k sign.Semicolon x = numbered r n v ts k
in_reference r (Number n v) ts k s x = None

-- the first letter of a tag, which is not nested too deep
abbrev pub tag_begun : ℕ → Trees Places → List Open → Spot → Option State
tag_begun at ts k x = if nat_lt (length k) limit then Some (State_at (TagName at (x.code ∷ [])) ts k) else None

-- behind `</`
abbrev pub end_begun : Trees Places → List Open → Option State
end_begun ts [] = None
end_begun ts (o ∷ k) = Some (State_at (Ending (o.head).tag) ts (o ∷ k))

-- behind `<`
abbrev pub begun : ℕ → Trees Places → List Open → Sign → Spot → Option State
begun at ts k sign.Letter x = tag_begun at ts k x
begun at ts k sign.Slash x = end_begun ts k
begun at ts k s x = None

-- behind an element
abbrev pub added : Opening → Trees Places → Trees Places → List Open → State
added h kids ts k = State_at Between (beside ts (element_node h.tag h.attrs kids h.at)) k

-- the `>` of a head
abbrev pub opened : Opening → Trees Places → List Open → ℕ → State
opened h ts k at =
    if is_void h.tag then added h End ts k
    else (if is_script h.tag then State_at (InRaw h (suc at) []) ts k
    else State_at Between End (record { before = ts; head = h } ∷ k))

-- behind the name of a tag or an attribute
abbrev pub in_head : Opening → Trees Places → List Open → Sign → Spot → Option State
in_head h ts k sign.Blank x = Some (State_at (Spaced h) ts k)
in_head h ts k sign.Greater x = Some (opened h ts k x.at)
in_head h ts k sign.Slash x = if is_void h.tag then Some (State_at (Slashed h) ts k) else None
in_head h ts k s x = None

abbrev pub tag_name : ℕ → List ℕ → Trees Places → List Open → Sign → Spot → Option State
tag_name at us ts k s x = if in_tag s then Some (State_at (TagName at (us ++ x.code ∷ [])) ts k) else in_head (record { tag = us; attrs = []; at = at }) ts k s x

abbrev pub spaced : Opening → Trees Places → List Open → Sign → Spot → Option State
spaced h ts k sign.Letter x = Some (State_at (AttributeName h x.at (x.code ∷ [])) ts k)
spaced h ts k s x = in_head h ts k s x

-- an attribute that stands bare is followed as any other
abbrev pub bared : Opening → ℕ → List ℕ → Trees Places → List Open → Sign → Spot → Option State
bared h at us ts k s x = if is_bare us then in_head (record h { attrs = h.attrs ++ record { name = us; value = us; at = at; value_at = at } ∷ [] }) ts k s x else None

abbrev pub attribute_name : Opening → ℕ → List ℕ → Trees Places → List Open → Sign → Spot → Option State
attribute_name h at us ts k sign.Letter x = Some (State_at (AttributeName h at (us ++ x.code ∷ [])) ts k)
attribute_name h at us ts k sign.Hyphen x = Some (State_at (AttributeName h at (us ++ x.code ∷ [])) ts k)
attribute_name h at us ts k sign.Equals x = Some (State_at (Assigned h at us) ts k)
attribute_name h at us ts k s x = bared h at us ts k s x

abbrev pub assigned : Opening → ℕ → List ℕ → Trees Places → List Open → Sign → Spot → Option State
assigned h at us ts k sign.DoubleQuote x = Some (State_at (In (InValue h us at (suc x.at) true [])) ts k)
assigned h at us ts k sign.SingleQuote x = Some (State_at (In (InValue h us at (suc x.at) false [])) ts k)
assigned h at us ts k s x = None

abbrev pub slashed : Opening → Trees Places → List Open → Sign → Spot → Option State
slashed h ts k sign.Greater x = Some (added h End ts k)
slashed h ts k s x = None

-- the innermost element ends
abbrev pub closed : Trees Places → List Open → Option State
closed ts [] = None
closed ts (o ∷ k) = Some (added o.head ts o.before k)

abbrev pub ended : Trees Places → List Open → Sign → Spot → Option State
ended ts k sign.Blank x = Some (State_at Ended ts k)
ended ts k sign.Greater x = closed ts k
ended ts k s x = None

abbrev pub ending : List ℕ → Trees Places → List Open → Sign → Spot → Option State
ending [] ts k s x = ended ts k s x
ending (u ∷ us) ts k s x = if in_tag s && nat_eq x.code u then Some (State_at (Ending us) ts k) else None

abbrev pub in_raw : Opening → ℕ → List ℕ → Trees Places → List Open → Sign → Spot → Option State
in_raw h at us ts k sign.Less x = Some (State_at (RawBegun h at us) ts k)
in_raw h at us ts k s x = Some (State_at (InRaw h at (us ++ encode_utf16 x.code)) ts k)

abbrev pub raw_begun : Opening → ℕ → List ℕ → Trees Places → List Open → Sign → Spot → Option State
raw_begun h at us ts k sign.Slash x = Some (State_at (RawEnding h at us (codes "script")) ts k)
raw_begun h at us ts k s x = in_raw h at (us ++ codes "<") ts k s x

abbrev pub raw_ending : Opening → ℕ → List ℕ → List ℕ → Trees Places → List Open → Sign → Spot → Option State
raw_ending h at us [] ts k sign.Greater x = Some (added h (text_node us at) ts k)
raw_ending h at us [] ts k s x = None
raw_ending h at us (w ∷ ws) ts k s x = if in_tag s && nat_eq x.code w then Some (State_at (RawEnding h at us ws) ts k) else None

-- the state behind one character more; none where no content goes on so
abbrev pub step : State → Sign → Spot → Option State
step (State_at Between ts k) s x = between ts k s x
step (State_at (In r) ts k) s x = in_run r ts k s x
step (State_at (Refers r f) ts k) s x = in_reference r f ts k s x
step (State_at (Begun at) ts k) s x = begun at ts k s x
step (State_at (TagName at us) ts k) s x = tag_name at us ts k s x
step (State_at (Valued h) ts k) s x = in_head h ts k s x
step (State_at (Spaced h) ts k) s x = spaced h ts k s x
step (State_at (AttributeName h at us) ts k) s x = attribute_name h at us ts k s x
step (State_at (Assigned h at us) ts k) s x = assigned h at us ts k s x
step (State_at (Slashed h) ts k) s x = slashed h ts k s x
step (State_at (Ending us) ts k) s x = ending us ts k s x
step (State_at Ended ts k) s x = ended ts k s x
step (State_at (InRaw h at us) ts k) s x = in_raw h at us ts k s x
step (State_at (RawBegun h at us) ts k) s x = raw_begun h at us ts k s x
step (State_at (RawEnding h at us ws) ts k) s x = raw_ending h at us ws ts k s x

-- the state behind these characters
abbrev pub run : Option State → List Char → Option State
run None cs = None
run (Some st) [] = Some st
run (Some st) (c ∷ cs) = run (step st (c.0) (c.1)) cs

-- the trees, where the text may end
abbrev pub finished : Option State → Option (Trees Places)
finished (Some (State_at Between ts [])) = Some ts
finished (Some (State_at (In (InText at us)) ts [])) = Some (beside ts (text_node us at))
finished _ = None
