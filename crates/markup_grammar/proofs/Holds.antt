-- What a state says of the characters that are read.
use Rattle.std.proofs.Common.{◌≡◌, ℕ, suc, ◌≤◌, List, [], ◌∷◌, ◌++◌, Bool, true, false, length, nat_lt}
use Rattle.std.specs.Prelude.{codes}
use Rattle.std.specs.Char.Escape.{encode_utf16}
use Rattle.markup_grammar.specs.declared.Sign.TheVariants as sign
use Rattle.markup_grammar.specs.Signs.{Spot, Char, in_tag, in_attribute, quote}
use Rattle.markup_grammar.specs.Grammar.{limit, Blanks, Name, Word, Digits, Reference, Text, Value, Attributes, Head, Raw, Content, Closed, Spells}
use Rattle.markup_grammar.specs.Machine.{Opening, Open, InText, InValue, Referring, Ampersand, Named, Number, State, State_at, Between, In, Refers, Begun, TagName, Valued, Spaced, AttributeName, Assigned, Slashed, Ending, Ended, InRaw, RawBegun, RawEnding}
use Rattle.plain_tree.specs.declared.plain.Attr.{Attr}
use Rattle.plain_tree.specs.Names.{is_void, is_script}
use Rattle.plain_tree.specs.Trees.{Trees}
use Rattle.plain_tree.specs.Plains.{Places}

-- one blank or more
pub data Gap : List Char → List Char → Type 0 where
  one_blank : {x : Spot} {rest : List Char} → Gap ((sign.Blank, x) ∷ rest) rest
  more_blanks : {x : Spot} {cs rest : List Char} → Gap cs ((sign.Blank, x) ∷ rest) → Gap cs rest

-- the open elements of the text w, up to where the content of the innermost begins
pub data Opened (w : List Char) : List Open → List Char → Type 0 where
  outermost : Opened w [] w
  inner : {o : Open} {k : List Open} {g : Spot} {us hs vs : List Char} →
      Opened w k us → Spells (Content (length k) o.before) us hs → nat_lt (length k) limit ≡ true →
      Head (o.head).tag (o.head).attrs (o.head).at hs ((sign.Greater, g) ∷ vs) → is_void (o.head).tag ≡ false → is_script (o.head).tag ≡ false →
      Opened w (o ∷ k) vs

-- the head of an element behind these trees, up to some attribute
pub data Heads (w : List Char) (ts : Trees Places) (k : List Open) : Opening → List Char → Type 0 where
  heads : {x : Spot} {tag : List ℕ} {attrs : List Attr} {at : ℕ} {us cs ds rest : List Char} →
      Opened w k us → Spells (Content (length k) ts) us ((sign.Less, x) ∷ cs) → nat_lt (length k) limit ≡ true →
      Name in_tag tag at cs ds → Attributes attrs ds rest → Heads w ts k (record { tag = tag; attrs = attrs; at = x.at }) rest

-- the front of a reference that begins with cs
pub data Refer : Referring → List Char → List Char → Type 0 where
  at_ampersand : {cs : List Char} → Refer Ampersand cs cs
  in_name : {us : List ℕ} {c : ℕ} {cs rest : List Char} → ((x : Spot) (tail : List Char) → Word us rest ((sign.Semicolon, x) ∷ tail) → Reference c cs tail) → Refer (Named us c) cs rest
  in_number : {x : Spot} {n v : ℕ} {cs rest : List Char} → Digits n v cs rest → n ≤ 7 → Refer (Number n v) ((sign.Hash, x) ∷ cs) rest

-- what is read of the text w, where `rest` is left
pub data Holds (w : List Char) : State → List Char → Type 0 where
  between : {ts : Trees Places} {k : List Open} {us rest : List Char} → Opened w k us → Spells (Closed (length k) ts) us rest → Holds w (State_at Between ts k) rest
  in_text : {ts : Trees Places} {k : List Open} {at : ℕ} {xs : List ℕ} {us vs rest : List Char} →
      Opened w k us → Spells (Closed (length k) ts) us vs → Text xs at vs rest → Holds w (State_at (In (InText at xs)) ts k) rest
  text_refers : {ts : Trees Places} {k : List Open} {at : ℕ} {xs : List ℕ} {f : Referring} {us vs cs rest : List Char} →
      Opened w k us → Spells (Closed (length k) ts) us vs → ((c : ℕ) (tail : List Char) → Reference c cs tail → Text (xs ++ encode_utf16 c) at vs tail) → Refer f cs rest →
      Holds w (State_at (Refers (InText at xs) f) ts k) rest
  begun : {x : Spot} {ts : Trees Places} {k : List Open} {us rest : List Char} → Opened w k us → Spells (Content (length k) ts) us ((sign.Less, x) ∷ rest) → Holds w (State_at (Begun x.at) ts k) rest
  tag_name : {x : Spot} {ts : Trees Places} {k : List Open} {tag : List ℕ} {at : ℕ} {us cs rest : List Char} →
      Opened w k us → Spells (Content (length k) ts) us ((sign.Less, x) ∷ cs) → nat_lt (length k) limit ≡ true → Name in_tag tag at cs rest → Holds w (State_at (TagName x.at tag) ts k) rest
  valued : {ts : Trees Places} {k : List Open} {h : Opening} {rest : List Char} → Heads w ts k h rest → Holds w (State_at (Valued h) ts k) rest
  spaced : {ts : Trees Places} {k : List Open} {h : Opening} {es rest : List Char} → Heads w ts k h es → Gap es rest → Holds w (State_at (Spaced h) ts k) rest
  attribute_name : {ts : Trees Places} {k : List Open} {h : Opening} {name : List ℕ} {at : ℕ} {es fs rest : List Char} →
      Heads w ts k h es → Gap es fs → Name in_attribute name at fs rest → Holds w (State_at (AttributeName h at name) ts k) rest
  assigned : {e : Spot} {ts : Trees Places} {k : List Open} {h : Opening} {name : List ℕ} {at : ℕ} {es fs rest : List Char} →
      Heads w ts k h es → Gap es fs → Name in_attribute name at fs ((sign.Equals, e) ∷ rest) → Holds w (State_at (Assigned h at name) ts k) rest
  in_value : {e q : Spot} {ts : Trees Places} {k : List Open} {h : Opening} {name : List ℕ} {at : ℕ} {double : Bool} {xs : List ℕ} {es fs vs rest : List Char} →
      Heads w ts k h es → Gap es fs → Name in_attribute name at fs ((sign.Equals, e) ∷ (quote double, q) ∷ vs) → Value double xs vs rest →
      Holds w (State_at (In (InValue h name at (suc q.at) double xs)) ts k) rest
  value_refers : {e q : Spot} {ts : Trees Places} {k : List Open} {h : Opening} {name : List ℕ} {at : ℕ} {double : Bool} {xs : List ℕ} {f : Referring} {es fs vs cs rest : List Char} →
      Heads w ts k h es → Gap es fs → Name in_attribute name at fs ((sign.Equals, e) ∷ (quote double, q) ∷ vs) →
      ((c : ℕ) (tail : List Char) → Reference c cs tail → Value double (xs ++ encode_utf16 c) vs tail) → Refer f cs rest →
      Holds w (State_at (Refers (InValue h name at (suc q.at) double xs) f) ts k) rest
  slashed : {s : Spot} {ts : Trees Places} {k : List Open} {h : Opening} {es rest : List Char} → Heads w ts k h es → Blanks es ((sign.Slash, s) ∷ rest) → is_void h.tag ≡ true → Holds w (State_at (Slashed h) ts k) rest
  ending : {l s : Spot} {ts : Trees Places} {o : Open} {k : List Open} {word : List ℕ} {us es rest : List Char} →
      Opened w (o ∷ k) us → Spells (Content (suc (length k)) ts) us ((sign.Less, l) ∷ (sign.Slash, s) ∷ es) → ((tail : List Char) → Word word rest tail → Word (o.head).tag es tail) →
      Holds w (State_at (Ending word) ts (o ∷ k)) rest
  ended : {l s : Spot} {ts : Trees Places} {o : Open} {k : List Open} {us es fs rest : List Char} →
      Opened w (o ∷ k) us → Spells (Content (suc (length k)) ts) us ((sign.Less, l) ∷ (sign.Slash, s) ∷ es) → Word (o.head).tag es fs → Blanks fs rest →
      Holds w (State_at Ended ts (o ∷ k)) rest
  in_raw : {g : Spot} {ts : Trees Places} {k : List Open} {h : Opening} {xs : List ℕ} {es ds rest : List Char} →
      Heads w ts k h es → Blanks es ((sign.Greater, g) ∷ ds) → is_void h.tag ≡ false → is_script h.tag ≡ true → Raw xs ds rest → Holds w (State_at (InRaw h (suc g.at) xs) ts k) rest
  raw_begun : {g l : Spot} {ts : Trees Places} {k : List Open} {h : Opening} {xs : List ℕ} {es ds rest : List Char} →
      Heads w ts k h es → Blanks es ((sign.Greater, g) ∷ ds) → is_void h.tag ≡ false → is_script h.tag ≡ true → Raw xs ds ((sign.Less, l) ∷ rest) → Holds w (State_at (RawBegun h (suc g.at) xs) ts k) rest
  raw_ending : {g l s : Spot} {ts : Trees Places} {k : List Open} {h : Opening} {xs word : List ℕ} {es ds fs rest : List Char} →
      Heads w ts k h es → Blanks es ((sign.Greater, g) ∷ ds) → is_void h.tag ≡ false → is_script h.tag ≡ true → Raw xs ds ((sign.Less, l) ∷ (sign.Slash, s) ∷ fs) →
      ((tail : List Char) → Word word rest tail → Word (codes "script") fs tail) → Holds w (State_at (RawEnding h (suc g.at) xs word) ts k) rest
