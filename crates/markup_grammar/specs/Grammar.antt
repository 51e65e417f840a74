-- Which characters spell which trees.
-- A relation `R x cs rest` says that what stands in the characters cs, before rest, spells x.
use Rattle.std.specs.Prelude.{◌≡◌, ℕ, suc, ◌+◌, ◌-◌, ◌*◌, ◌<◌, ◌≤◌, List, [], ◌∷◌, ◌++◌, Bool, true, false, nat_lt, nat_le, ◌&&◌, ◌||◌, codes}
use Rattle.std.specs.Char.Escape.{encode_utf16}
use Rattle.markup_grammar.specs.declared.Sign.{Sign}
use Rattle.markup_grammar.specs.declared.Sign.TheVariants as sign
use Rattle.markup_grammar.specs.Signs.{Spot, Char, in_tag, in_attribute, in_text, in_value, quote, is_less, is_slash}
use Rattle.plain_tree.specs.declared.plain.Attr.{Attr}
use Rattle.plain_tree.specs.Names.{is_void, is_script, is_bare}
use Rattle.plain_tree.specs.Trees.{Trees, End, beside}
use Rattle.plain_tree.specs.Plains.{Places, text_node, element_node}

-- so many elements stand one above the other at most
unfoldable pub limit : ℕ
limit = 200

-- blanks or none
pub data Blanks : List Char → List Char → Type 0 where
  no_blank : {rest : List Char} → Blanks rest rest
  and_blank : {x : Spot} {cs rest : List Char} → Blanks cs ((sign.Blank, x) ∷ rest) → Blanks cs rest

-- a name: a letter, and then characters that pass the test; with the place of the letter
pub data Name (p : Sign → Bool) : List ℕ → ℕ → List Char → List Char → Type 0 where
  first : {x : Spot} {rest : List Char} → Name p (x.code ∷ []) x.at ((sign.Letter, x) ∷ rest) rest
  next : {s : Sign} {x : Spot} {name : List ℕ} {at : ℕ} {cs rest : List Char} → Name p name at cs ((s, x) ∷ rest) → p s ≡ true → Name p (name ++ x.code ∷ []) at cs rest

-- a word of letters and digits that is known
pub data Word : List ℕ → List Char → List Char → Type 0 where
  done : {rest : List Char} → Word [] rest rest
  letter : {s : Sign} {c at : ℕ} {word : List ℕ} {cs rest : List Char} → in_tag s ≡ true → Word word cs rest → Word (c ∷ word) ((s, record { code = c; at = at }) ∷ cs) rest

-- so many digits, and their value
pub data Digits : ℕ → ℕ → List Char → List Char → Type 0 where
  no_digit : {rest : List Char} → Digits 0 0 rest rest
  and_digit : {x : Spot} {n v : ℕ} {cs rest : List Char} → Digits n v cs ((sign.Digit, x) ∷ rest) → Digits (suc n) (v * 10 + (x.code - 48)) cs rest

-- a code point that is not 0 and no surrogate
abbrev pub is_referable : ℕ → Bool
is_referable c = nat_lt 0 c && (nat_lt c 0xD800 || (nat_le 0xE000 c && nat_lt c 0x11_0000))

-- a reference to a code point, from behind its `&`
pub data Reference : ℕ → List Char → List Char → Type 0 where
  amp : {x : Spot} {cs rest : List Char} → Word (codes "amp") cs ((sign.Semicolon, x) ∷ rest) → Reference 38 cs rest
  lt : {x : Spot} {cs rest : List Char} → Word (codes "lt") cs ((sign.Semicolon, x) ∷ rest) → Reference 60 cs rest
  gt : {x : Spot} {cs rest : List Char} → Word (codes "gt") cs ((sign.Semicolon, x) ∷ rest) → Reference 62 cs rest
  quot : {x : Spot} {cs rest : List Char} → Word (codes "quot") cs ((sign.Semicolon, x) ∷ rest) → Reference 34 cs rest
  nbsp : {x : Spot} {cs rest : List Char} → Word (codes "nbsp") cs ((sign.Semicolon, x) ∷ rest) → Reference 160 cs rest
  number : {x y : Spot} {n c : ℕ} {cs rest : List Char} → Digits n c cs ((sign.Semicolon, y) ∷ rest) → 0 < n → n ≤ 7 → is_referable c ≡ true → Reference c ((sign.Hash, x) ∷ cs) rest

-- one character, or a reference to it; with its units and its place
pub data Piece (p : Sign → Bool) : List ℕ → ℕ → List Char → List Char → Type 0 where
  itself : {s : Sign} {x : Spot} {rest : List Char} → p s ≡ true → Piece p (encode_utf16 x.code) x.at ((s, x) ∷ rest) rest
  reference : {x : Spot} {c : ℕ} {cs rest : List Char} → Reference c cs rest → Piece p (encode_utf16 c) x.at ((sign.Ampersand, x) ∷ cs) rest

-- a text: one piece or more, with the place of the first
pub data Text : List ℕ → ℕ → List Char → List Char → Type 0 where
  one_piece : {us : List ℕ} {at : ℕ} {cs rest : List Char} → Piece in_text us at cs rest → Text us at cs rest
  more_text : {us vs : List ℕ} {at other : ℕ} {cs ds rest : List Char} → Text us at cs ds → Piece in_text vs other ds rest → Text (us ++ vs) at cs rest

-- a value between its quotes: pieces or none
pub data Value (double : Bool) : List ℕ → List Char → List Char → Type 0 where
  empty : {rest : List Char} → Value double [] rest rest
  more_value : {us vs : List ℕ} {other : ℕ} {cs ds rest : List Char} → Value double us cs ds → Piece (in_value double) vs other ds rest → Value double (us ++ vs) cs rest

-- an attribute with its value, which begins behind its quote; or one that stands bare
pub data Attribute : Attr → List Char → List Char → Type 0 where
  valued : {double : Bool} {e q r : Spot} {name us : List ℕ} {at : ℕ} {cs ds rest : List Char} →
      Name in_attribute name at cs ((sign.Equals, e) ∷ (quote double, q) ∷ ds) → Value double us ds ((quote double, r) ∷ rest) →
      Attribute (record { name = name; value = us; at = at; value_at = suc q.at }) cs rest
  bare : {name : List ℕ} {at : ℕ} {cs rest : List Char} →
      Name in_attribute name at cs rest → is_bare name ≡ true → Attribute (record { name = name; value = name; at = at; value_at = at }) cs rest

-- attributes, each behind blanks
pub data Attributes : List Attr → List Char → List Char → Type 0 where
  no_attribute : {rest : List Char} → Attributes [] rest rest
  and_attribute : {b : Spot} {attrs : List Attr} {a : Attr} {cs ds es rest : List Char} →
      Attributes attrs cs ((sign.Blank, b) ∷ ds) → Blanks ds es → Attribute a es rest → Attributes (attrs ++ a ∷ []) cs rest

-- `<`, the name of the tag, attributes and blanks
pub data Head : List ℕ → List Attr → ℕ → List Char → List Char → Type 0 where
  head : {x : Spot} {tag : List ℕ} {attrs : List Attr} {at : ℕ} {cs ds es rest : List Char} →
      Name in_tag tag at cs ds → Attributes attrs ds es → Blanks es rest → Head tag attrs x.at ((sign.Less, x) ∷ cs) rest

-- raw text: any characters, but no `/` behind a `<`
pub data Raw : List ℕ → List Char → List Char → Type 0 where
  no_raw : {rest : List Char} → Raw [] rest rest
  raw_character : {s : Sign} {x : Spot} {us : List ℕ} {cs rest : List Char} → Raw us cs ((s, x) ∷ rest) → is_less s ≡ false → Raw (us ++ encode_utf16 x.code) cs rest
  raw_less : {s : Sign} {x y : Spot} {us : List ℕ} {cs rest : List Char} → Raw us cs ((sign.Less, x) ∷ (s, y) ∷ rest) → is_slash s ≡ false → Raw (us ++ codes "<") cs ((s, y) ∷ rest)

-- what characters may spell, below so many elements
pub data Thing : Type 0 where
  -- elements and texts
  Content : ℕ → Trees Places → Thing
  -- the same, the last of which is no text
  Closed : ℕ → Trees Places → Thing
  -- one element
  Element : ℕ → Trees Places → Thing

pub data Spells : Thing → List Char → List Char → Type 0 where
  -- a text stands behind an element or is the first
  no_text : {d : ℕ} {ts : Trees Places} {cs rest : List Char} → Spells (Closed d ts) cs rest → Spells (Content d ts) cs rest
  and_text : {d : ℕ} {ts : Trees Places} {us : List ℕ} {at : ℕ} {cs ds rest : List Char} →
      Spells (Closed d ts) cs ds → Text us at ds rest → Spells (Content d (beside ts (text_node us at))) cs rest
  nothing : {d : ℕ} {rest : List Char} → Spells (Closed d End) rest rest
  and_element : {d : ℕ} {ts e : Trees Places} {cs ds rest : List Char} →
      Spells (Content d ts) cs ds → Spells (Element d e) ds rest → Spells (Closed d (beside ts e)) cs rest
  -- a void element has neither content nor end tag, and may end with `/>`
  void_element : {d : ℕ} {g : Spot} {tag : List ℕ} {attrs : List Attr} {at : ℕ} {cs rest : List Char} →
      nat_lt d limit ≡ true → Head tag attrs at cs ((sign.Greater, g) ∷ rest) → is_void tag ≡ true →
      Spells (Element d (element_node tag attrs End at)) cs rest
  void_slash : {d : ℕ} {s g : Spot} {tag : List ℕ} {attrs : List Attr} {at : ℕ} {cs rest : List Char} →
      nat_lt d limit ≡ true → Head tag attrs at cs ((sign.Slash, s) ∷ (sign.Greater, g) ∷ rest) → is_void tag ≡ true →
      Spells (Element d (element_node tag attrs End at)) cs rest
  -- a script has one text, up to the first `</`, which begins `</script>`
  script : {d : ℕ} {g l s h : Spot} {tag us : List ℕ} {attrs : List Attr} {at : ℕ} {cs ds es rest : List Char} →
      nat_lt d limit ≡ true → Head tag attrs at cs ((sign.Greater, g) ∷ ds) → is_void tag ≡ false → is_script tag ≡ true →
      Raw us ds ((sign.Less, l) ∷ (sign.Slash, s) ∷ es) → Word (codes "script") es ((sign.Greater, h) ∷ rest) →
      Spells (Element d (element_node tag attrs (text_node us (suc g.at)) at)) cs rest
  -- every other element has content and an end tag of its name
  element : {d : ℕ} {g l s h : Spot} {tag : List ℕ} {attrs : List Attr} {at : ℕ} {ts : Trees Places} {cs ds es fs rest : List Char} →
      nat_lt d limit ≡ true → Head tag attrs at cs ((sign.Greater, g) ∷ ds) → is_void tag ≡ false → is_script tag ≡ false →
      Spells (Content (suc d) ts) ds ((sign.Less, l) ∷ (sign.Slash, s) ∷ es) → Word tag es fs → Blanks fs ((sign.Greater, h) ∷ rest) →
      Spells (Element d (element_node tag attrs ts at)) cs rest
