-- What the machine takes is spelled, and has the machine's trees.
use Rattle.std.proofs.Common.{◌≡◌, ℕ, suc, ◌+◌, ◌-◌, ◌*◌, ◌≤◌, List, [], ◌∷◌, ◌++◌, Bool, true, false, Option, Some, None, length, refl, subst, arith, cond, nat_lt, nat_eq}
use Rattle.std.specs.Prelude.{◌&&◌, ◌||◌, codes}
use Rattle.std.specs.Char.Escape.{encode_utf16}
use Rattle.std.proofs.lemmas.Bool.{ltb-true, eqb-true}
use Rattle.markup_grammar.specs.declared.Sign.{Sign}
use Rattle.markup_grammar.specs.declared.Sign.TheVariants as sign
use Rattle.markup_grammar.specs.Signs.{Spot, Char, in_tag, in_attribute, quote}
use Rattle.markup_grammar.specs.Grammar.{limit, Blanks, Name, Word, is_referable, Reference, Text, Value, Attribute, Attributes, Head, Raw, Content, Closed, Spells}
use Rattle.markup_grammar.specs.Grammar.Blanks.{no_blank, and_blank}
use Rattle.markup_grammar.specs.Grammar.Name.{first, next}
use Rattle.markup_grammar.specs.Grammar.Word.{done, letter}
use Rattle.markup_grammar.specs.Grammar.Digits.{no_digit, and_digit}
use Rattle.markup_grammar.specs.Grammar.Reference.{amp, lt, gt, quot, nbsp, number}
use Rattle.markup_grammar.specs.Grammar.Piece.{itself, reference}
use Rattle.markup_grammar.specs.Grammar.Text.{one_piece, more_text}
use Rattle.markup_grammar.specs.Grammar.Value.{empty, more_value}
use Rattle.markup_grammar.specs.Grammar.Attribute.{valued as with_value, bare as stands_bare}
use Rattle.markup_grammar.specs.Grammar.Attributes.{no_attribute, and_attribute}
use Rattle.markup_grammar.specs.Grammar.Head.{head}
use Rattle.markup_grammar.specs.Grammar.Raw.{no_raw, raw_character, raw_less}
use Rattle.markup_grammar.specs.Grammar.Spells.{no_text, and_text, nothing, and_element, void_element, void_slash, script, element}
use Rattle.markup_grammar.specs.Machine as machine
use Rattle.markup_grammar.specs.Machine.{Opening, Open, Run, InText, InValue, Referring, Ampersand, Named, Number, State, State_at, In, Refers, grown, step, run, begin, finished}
use Rattle.markup_grammar.proofs.Holds.{Gap, one_blank, more_blanks, Opened, outermost, inner, Heads, heads, Refer, at_ampersand, in_name, in_number, Holds, between, in_text, text_refers, begun, tag_name, valued, spaced, attribute_name, assigned, in_value, value_refers, slashed, ending, ended, in_raw, raw_begun, raw_ending}
use Rattle.plain_tree.specs.declared.plain.Attr.{Attr}
use Rattle.plain_tree.specs.Names.{is_void, is_script, is_bare}
use Rattle.plain_tree.specs.Trees.{Trees}
use Rattle.plain_tree.specs.Plains.{Places}

split : (a b : Bool) → (a && b) ≡ true → (a ≡ true) × (b ≡ true)
split true b e = (refl, e)
split false b e = cc

gap : {cs rest : List Char} {x : Spot} → Blanks cs ((sign.Blank, x) ∷ rest) → Gap cs rest
gap no_blank = one_blank
gap (and_blank b) = more_blanks (gap b)

blanks_of : {cs rest : List Char} → Gap cs rest → Blanks cs rest
blanks_of one_blank = and_blank no_blank
blanks_of (more_blanks g) = and_blank (blanks_of g)

gap_opens : {cs rest : List Char} → Gap cs rest → (x : Spot) × (ds : List Char) × (cs ≡ (sign.Blank, x) ∷ ds) × Blanks ds rest
gap_opens (one_blank {x = x} {rest = rest}) = (x, rest, refl, no_blank)
gap_opens (more_blanks g) = let p = gap_opens g in (p.0, p.1, p.2, and_blank p.3)

-- one letter of a word, which is known
letter_is : {s : Sign} {x : Spot} {c : ℕ} {word : List ℕ} {cs rest : List Char} → in_tag s ≡ true → x.code ≡ c → Word word cs rest → Word (c ∷ word) ((s, x) ∷ cs) rest
letter_is {s} {x} {c} {word} {cs} {rest} e is w = subst (λ d. Word (d ∷ word) ((s, x) ∷ cs) rest) is (letter e w)

module _ (w : List Char) where
  abbrev HoldsO : Option State → List Char → Type 0
  HoldsO None rest = Unit {0}
  HoldsO (Some st) rest = Holds w st rest

  if_some : (rest : List Char) (b : Bool) (o p : Option State) → (b ≡ true → HoldsO o rest) → (b ≡ false → HoldsO p rest) → HoldsO (cond b o p) rest
  if_some rest true o p f g = f refl
  if_some rest false o p f g = g refl

  if_state : (rest : List Char) (b : Bool) (st other : State) → (b ≡ true → Holds w st rest) → (b ≡ false → Holds w other rest) → Holds w (cond b st other) rest
  if_state rest true st other f g = f refl
  if_state rest false st other f g = g refl

  grow : {ts : Trees Places} {k : List Open} {h : Opening} {a : Attr} {es fs rest : List Char} → Heads w ts k h es → Gap es fs → Attribute a fs rest → Heads w ts k (record h { attrs = h.attrs ++ a ∷ [] }) rest
  grow (heads {attrs = attrs} {cs = cs} {ds = ds} o c few n others) g a =
      let p = gap_opens g in
      heads o c few n (and_attribute (subst (λ l. Attributes attrs ds l) p.2 others) p.3 a)

  -- ## In a head

  greater_keeps : (h : Opening) (ts : Trees Places) (k : List Open) (x : Spot) (es rest : List Char) → Heads w ts k h es → Blanks es ((sign.Greater, x) ∷ rest) → Holds w (machine.opened h ts k x.at) rest
  greater_keeps h ts k x es rest (heads {x = l} {tag = tag} {attrs = attrs} {cs = cs} o c few n others) bs =
      let hd : Head tag attrs l.at ((sign.Less, l) ∷ cs) ((sign.Greater, x) ∷ rest) = head n others bs in
      let hs : Heads w ts k (record { tag = tag; attrs = attrs; at = l.at }) es = heads o c few n others in
      if_state rest (is_void tag) _ _
      (λ v. between o (and_element c (void_element few hd v)))
      (λ v. if_state rest (is_script tag) _ _
      (λ i. in_raw hs bs v i no_raw)
      (λ i. between (inner o c few hd v i) nothing))

  in_head_keeps : (h : Opening) (ts : Trees Places) (k : List Open) (s : Sign) (x : Spot) (es rest : List Char) → Heads w ts k h es → Blanks es ((s, x) ∷ rest) → HoldsO (machine.in_head h ts k s x) rest
  in_head_keeps h ts k sign.Blank x es rest hs bs = spaced hs (gap bs)
  in_head_keeps h ts k sign.Greater x es rest hs bs = greater_keeps h ts k x es rest hs bs
  in_head_keeps h ts k sign.Slash x es rest hs bs = if_some rest (is_void h.tag) _ _ (λ v. slashed hs bs v) (λ _. tt)
  in_head_keeps h ts k s x es rest hs bs = tt

  tag_name_keeps : (x : Spot) (us : List ℕ) (at : ℕ) (ts : Trees Places) (k : List Open) (s : Sign) (y : Spot) (from cs rest : List Char) → Opened w k from → Spells (Content (length k) ts) from ((sign.Less, x) ∷ cs) → nat_lt (length k) limit ≡ true → Name in_tag us at cs ((s, y) ∷ rest) → HoldsO (machine.tag_name x.at us ts k s y) rest
  tag_name_keeps x us at ts k s y from cs rest o c few n = if_some rest (in_tag s) _ _ (λ e. tag_name o c few (next n e)) (λ _. in_head_keeps (record { tag = us; attrs = []; at = x.at }) ts k s y ((s, y) ∷ rest) rest (heads o c few n no_attribute) no_blank)

  spaced_keeps : (h : Opening) (ts : Trees Places) (k : List Open) (s : Sign) (x : Spot) (es rest : List Char) → Heads w ts k h es → Gap es ((s, x) ∷ rest) → HoldsO (machine.spaced h ts k s x) rest
  spaced_keeps h ts k sign.Letter x es rest hs g = attribute_name hs g first
  spaced_keeps h ts k s x es rest hs g = in_head_keeps h ts k s x es rest hs (blanks_of g)

  bared_keeps : (h : Opening) (at : ℕ) (us : List ℕ) (ts : Trees Places) (k : List Open) (s : Sign) (x : Spot) (es fs rest : List Char) → Heads w ts k h es → Gap es fs → Name in_attribute us at fs ((s, x) ∷ rest) → HoldsO (machine.bared h at us ts k s x) rest
  bared_keeps h at us ts k s x es fs rest hs g n = if_some rest (is_bare us) _ _
      (λ e. in_head_keeps (record h { attrs = h.attrs ++ record { name = us; value = us; at = at; value_at = at } ∷ [] }) ts k s x ((s, x) ∷ rest) rest (grow hs g (stands_bare n e)) no_blank)
      (λ _. tt)

  attribute_name_keeps : (h : Opening) (at : ℕ) (us : List ℕ) (ts : Trees Places) (k : List Open) (s : Sign) (x : Spot) (es fs rest : List Char) → Heads w ts k h es → Gap es fs → Name in_attribute us at fs ((s, x) ∷ rest) → HoldsO (machine.attribute_name h at us ts k s x) rest
  attribute_name_keeps h at us ts k sign.Letter x es fs rest hs g n = attribute_name hs g (next n refl)
  attribute_name_keeps h at us ts k sign.Hyphen x es fs rest hs g n = attribute_name hs g (next n refl)
  attribute_name_keeps h at us ts k sign.Equals x es fs rest hs g n = assigned hs g n
  attribute_name_keeps h at us ts k s x es fs rest hs g n = bared_keeps h at us ts k s x es fs rest hs g n

  assigned_keeps : (h : Opening) (at : ℕ) (us : List ℕ) (ts : Trees Places) (k : List Open) (e : Spot) (s : Sign) (x : Spot) (es fs rest : List Char) → Heads w ts k h es → Gap es fs → Name in_attribute us at fs ((sign.Equals, e) ∷ (s, x) ∷ rest) → HoldsO (machine.assigned h at us ts k s x) rest
  assigned_keeps h at us ts k e sign.DoubleQuote x es fs rest hs g n = in_value {double = true} hs g n empty
  assigned_keeps h at us ts k e sign.SingleQuote x es fs rest hs g n = in_value {double = false} hs g n empty
  assigned_keeps h at us ts k e s x es fs rest hs g n = tt

  slashed_keeps : (h : Opening) (ts : Trees Places) (k : List Open) (l : Spot) (s : Sign) (x : Spot) (es rest : List Char) → Heads w ts k h es → Blanks es ((sign.Slash, l) ∷ (s, x) ∷ rest) → is_void h.tag ≡ true → HoldsO (machine.slashed h ts k s x) rest
  slashed_keeps h ts k l sign.Greater x es rest (heads o c few n others) bs v = between o (and_element c (void_slash few (head n others bs) v))
  slashed_keeps h ts k l s x es rest hs bs v = tt

  -- ## References

  module _ (r : Run) (ts : Trees Places) (k : List Open) (s : Sign) (x : Spot) (rest : List Char) (on : (f : Referring) (tail : List Char) → Refer f ((s, x) ∷ rest) tail → Holds w (State_at (Refers r f) ts k) tail) where
    first_keeps : in_tag s ≡ true → HoldsO (machine.refers r ts k (machine.name_of x.code)) rest
    first_keeps e =
        pick (nat_eq x.code 97) (Some (Named (codes "mp") 38)) _ (λ q. on _ rest (in_name (λ y tail v. amp (letter_is e (eqb-true x.code 97 q) v))))
        (λ _. pick (nat_eq x.code 108) (Some (Named (codes "t") 60)) _ (λ q. on _ rest (in_name (λ y tail v. lt (letter_is e (eqb-true x.code 108 q) v))))
        (λ _. pick (nat_eq x.code 103) (Some (Named (codes "t") 62)) _ (λ q. on _ rest (in_name (λ y tail v. gt (letter_is e (eqb-true x.code 103 q) v))))
        (λ _. pick (nat_eq x.code 113) (Some (Named (codes "uot") 34)) _ (λ q. on _ rest (in_name (λ y tail v. quot (letter_is e (eqb-true x.code 113 q) v))))
        (λ _. pick (nat_eq x.code 110) (Some (Named (codes "bsp") 160)) None (λ q. on _ rest (in_name (λ y tail v. nbsp (letter_is e (eqb-true x.code 110 q) v))))
        (λ _. tt)))))
      where
        pick : (b : Bool) (o p : Option Referring) → (b ≡ true → HoldsO (machine.refers r ts k o) rest) → (b ≡ false → HoldsO (machine.refers r ts k p) rest) → HoldsO (machine.refers r ts k (cond b o p)) rest
        pick true o p f g = f refl
        pick false o p f g = g refl

  seven_digits : (n v : ℕ) → (nat_lt n 7 || (nat_eq n 7 && is_referable v)) ≡ true → n ≤ 7
  seven_digits n v e = pick (nat_lt n 7) (nat_eq n 7) refl refl e
    where
      pick : (a b : Bool) → nat_lt n 7 ≡ a → nat_eq n 7 ≡ b → (a || (b && is_referable v)) ≡ true → n ≤ 7
      pick true b h q t = let l = ltb-true n 7 h in omega (arith, l)
      pick false true h q t = let l = eqb-true n 7 q in omega (arith, l)
      pick false false h q t = cc

  reference_keeps : {cs : List Char} (r : Run) (ts : Trees Places) (k : List Open) → ((c : ℕ) (tail : List Char) → Reference c cs tail → Holds w (State_at (In (grown r (encode_utf16 c))) ts k) tail) → ((f : Referring) (tail : List Char) → Refer f cs tail → Holds w (State_at (Refers r f) ts k) tail)
      → (f : Referring) (s : Sign) (x : Spot) (rest : List Char) → Refer f cs ((s, x) ∷ rest) → HoldsO (machine.in_reference r f ts k s x) rest
  reference_keeps r ts k back on Ampersand sign.Hash x rest at_ampersand = on (Number 0 0) rest (in_number no_digit (omega arith))
  reference_keeps r ts k back on Ampersand s x rest at_ampersand = if_some rest (in_tag s) _ None (λ e. first_keeps r ts k s x rest on e) (λ _. tt)
  reference_keeps r ts k back on (Named [] c) sign.Semicolon x rest (in_name f) = back c rest (f x rest done)
  reference_keeps r ts k back on (Named [] c) s x rest (in_name f) = tt
  reference_keeps r ts k back on (Named (u ∷ us) c) s x rest (in_name f) = if_some rest (in_tag s && nat_eq x.code u) _ None
      (λ e. let p = split (in_tag s) (nat_eq x.code u) e in on (Named us c) rest (in_name (λ y tail v. f y tail (letter_is p.0 (eqb-true x.code u p.1) v))))
      (λ _. tt)
  reference_keeps r ts k back on (Number n v) sign.Digit x rest (in_number d le) = if_some rest (nat_lt v 1000000) _ None
      (λ _. if_some rest (nat_lt (suc n) 7 || (nat_eq (suc n) 7 && is_referable (v * 10 + (x.code - 48)))) _ None
      (λ e. on (Number (suc n) (v * 10 + (x.code - 48))) rest (in_number (and_digit d) (seven_digits (suc n) (v * 10 + (x.code - 48)) e)))
      (λ _. tt))
      (λ _. tt)
  reference_keeps r ts k back on (Number n v) sign.Semicolon x rest (in_number d le) = if_some rest (nat_lt 0 n && is_referable v) _ None
      (λ e. let p = split (nat_lt 0 n) (is_referable v) e in back v rest (number d (ltb-true 0 n p.0) le p.1))
      (λ _. tt)
  reference_keeps r ts k back on (Number n v) s x rest (in_number d le) = tt

  -- ## Texts and values

  between_keeps : (ts : Trees Places) (k : List Open) (s : Sign) (x : Spot) (from rest : List Char) → Opened w k from → Spells (Closed (length k) ts) from ((s, x) ∷ rest) → HoldsO (machine.between ts k s x) rest
  between_keeps ts k sign.Less x from rest o c = begun o (no_text c)
  between_keeps ts k sign.Ampersand x from rest o c = text_refers o c (λ d tail v. one_piece (reference v)) at_ampersand
  between_keeps ts k s x from rest o c = in_text o c (one_piece (itself refl))

  in_text_keeps : (at : ℕ) (us : List ℕ) (ts : Trees Places) (k : List Open) (s : Sign) (x : Spot) (from vs rest : List Char) → Opened w k from → Spells (Closed (length k) ts) from vs → Text us at vs ((s, x) ∷ rest) → HoldsO (machine.in_run (InText at us) ts k s x) rest
  in_text_keeps at us ts k sign.Less x from vs rest o c t = begun o (and_text c t)
  in_text_keeps at us ts k sign.Ampersand x from vs rest o c t = text_refers o c (λ d tail v. more_text t (reference v)) at_ampersand
  in_text_keeps at us ts k s x from vs rest o c t = in_text o c (more_text t (itself refl))

  in_value_keeps : (h : Opening) (name : List ℕ) (at : ℕ) (e q : Spot) (double : Bool) (us : List ℕ) (ts : Trees Places) (k : List Open) (s : Sign) (x : Spot) (es fs vs rest : List Char) → Heads w ts k h es → Gap es fs → Name in_attribute name at fs ((sign.Equals, e) ∷ (quote double, q) ∷ vs) → Value double us vs ((s, x) ∷ rest) → HoldsO (machine.in_run (InValue h name at (suc q.at) double us) ts k s x) rest
  in_value_keeps h name at e q double us ts k sign.Less x es fs vs rest hs g n v = tt
  in_value_keeps h name at e q double us ts k sign.Ampersand x es fs vs rest hs g n v = value_refers hs g n (λ d tail r. more_value v (reference r)) at_ampersand
  in_value_keeps h name at e q true us ts k sign.DoubleQuote x es fs vs rest hs g n v = valued (grow hs g (with_value n v))
  in_value_keeps h name at e q false us ts k sign.SingleQuote x es fs vs rest hs g n v = valued (grow hs g (with_value n v))
  in_value_keeps h name at e q true us ts k s x es fs vs rest hs g n v = in_value hs g n (more_value v (itself refl))
  in_value_keeps h name at e q false us ts k s x es fs vs rest hs g n v = in_value hs g n (more_value v (itself refl))

  -- ## The ends of elements

  ended_keeps : (ts : Trees Places) (o : Open) (k : List Open) (l d : Spot) (s : Sign) (x : Spot) (from es fs rest : List Char) → Opened w (o ∷ k) from → Spells (Content (suc (length k)) ts) from ((sign.Less, l) ∷ (sign.Slash, d) ∷ es) → Word (o.head).tag es fs → Blanks fs ((s, x) ∷ rest) → HoldsO (machine.ended ts (o ∷ k) s x) rest
  ended_keeps ts o k l d sign.Blank x from es fs rest op c v bs = ended op c v (and_blank bs)
  ended_keeps ts o k l d sign.Greater x from es fs rest (inner op before few hd void is) c v bs = between op (and_element before (element few hd void is c v bs))
  ended_keeps ts o k l d s x from es fs rest op c v bs = tt

  ending_keeps : (word : List ℕ) (ts : Trees Places) (o : Open) (k : List Open) (l d : Spot) (s : Sign) (x : Spot) (from es rest : List Char) → Opened w (o ∷ k) from → Spells (Content (suc (length k)) ts) from ((sign.Less, l) ∷ (sign.Slash, d) ∷ es) → ((tail : List Char) → Word word ((s, x) ∷ rest) tail → Word (o.head).tag es tail) → HoldsO (machine.ending word ts (o ∷ k) s x) rest
  ending_keeps [] ts o k l d s x from es rest op c f = ended_keeps ts o k l d s x from es ((s, x) ∷ rest) rest op c (f ((s, x) ∷ rest) done) no_blank
  ending_keeps (u ∷ us) ts o k l d s x from es rest op c f = if_some rest (in_tag s && nat_eq x.code u) _ None
      (λ e. let p = split (in_tag s) (nat_eq x.code u) e in ending op c (λ tail v. f tail (letter_is p.0 (eqb-true x.code u p.1) v)))
      (λ _. tt)

  end_begun_keeps : (ts : Trees Places) (k : List Open) (l x : Spot) (from rest : List Char) → Opened w k from → Spells (Content (length k) ts) from ((sign.Less, l) ∷ (sign.Slash, x) ∷ rest) → HoldsO (machine.end_begun ts k) rest
  end_begun_keeps ts [] l x from rest op c = tt
  end_begun_keeps ts (o ∷ k) l x from rest op c = ending op c (λ tail v. v)

  begun_keeps : (l : Spot) (ts : Trees Places) (k : List Open) (s : Sign) (x : Spot) (from rest : List Char) → Opened w k from → Spells (Content (length k) ts) from ((sign.Less, l) ∷ (s, x) ∷ rest) → HoldsO (machine.begun l.at ts k s x) rest
  begun_keeps l ts k sign.Letter x from rest op c = if_some rest (nat_lt (length k) limit) _ None (λ few. tag_name op c few first) (λ _. tt)
  begun_keeps l ts k sign.Slash x from rest op c = end_begun_keeps ts k l x from rest op c
  begun_keeps l ts k s x from rest op c = tt

  -- ## Scripts

  in_raw_keeps : (h : Opening) (g : Spot) (us : List ℕ) (ts : Trees Places) (k : List Open) (s : Sign) (x : Spot) (es ds rest : List Char) → Heads w ts k h es → Blanks es ((sign.Greater, g) ∷ ds) → is_void h.tag ≡ false → is_script h.tag ≡ true → Raw us ds ((s, x) ∷ rest) → HoldsO (machine.in_raw h (suc g.at) us ts k s x) rest
  in_raw_keeps h g us ts k sign.Less x es ds rest hs bs v i r = raw_begun hs bs v i r
  in_raw_keeps h g us ts k s x es ds rest hs bs v i r = in_raw hs bs v i (raw_character r refl)

  raw_begun_keeps : (h : Opening) (g l : Spot) (us : List ℕ) (ts : Trees Places) (k : List Open) (s : Sign) (x : Spot) (es ds rest : List Char) → Heads w ts k h es → Blanks es ((sign.Greater, g) ∷ ds) → is_void h.tag ≡ false → is_script h.tag ≡ true → Raw us ds ((sign.Less, l) ∷ (s, x) ∷ rest) → HoldsO (machine.raw_begun h (suc g.at) us ts k s x) rest
  raw_begun_keeps h g l us ts k sign.Slash x es ds rest hs bs v i r = raw_ending hs bs v i r (λ tail t. t)
  raw_begun_keeps h g l us ts k s x es ds rest hs bs v i r = in_raw_keeps h g (us ++ codes "<") ts k s x es ds rest hs bs v i (raw_less r refl)

  raw_ending_keeps : (h : Opening) (g l d : Spot) (us word : List ℕ) (ts : Trees Places) (k : List Open) (s : Sign) (x : Spot) (es ds fs rest : List Char) → Heads w ts k h es → Blanks es ((sign.Greater, g) ∷ ds) → is_void h.tag ≡ false → is_script h.tag ≡ true → Raw us ds ((sign.Less, l) ∷ (sign.Slash, d) ∷ fs) → ((tail : List Char) → Word word ((s, x) ∷ rest) tail → Word (codes "script") fs tail) → HoldsO (machine.raw_ending h (suc g.at) us word ts k s x) rest
  raw_ending_keeps h g l d us [] ts k sign.Greater x es ds fs rest (heads o c few n others) bs v i r f = between o (and_element c (script few (head n others bs) v i r (f ((sign.Greater, x) ∷ rest) done)))
  raw_ending_keeps h g l d us [] ts k s x es ds fs rest hs bs v i r f = tt
  raw_ending_keeps h g l d us (u ∷ word) ts k s x es ds fs rest hs bs v i r f = if_some rest (in_tag s && nat_eq x.code u) _ None
      (λ e. let p = split (in_tag s) (nat_eq x.code u) e in raw_ending hs bs v i r (λ tail t. f tail (letter_is p.0 (eqb-true x.code u p.1) t)))
      (λ _. tt)

  -- ## Every state

  keeps : {st : State} {s : Sign} {x : Spot} {rest : List Char} → Holds w st ((s, x) ∷ rest) → HoldsO (step st s x) rest
  keeps {s = s} {x = x} {rest = rest} (between {ts = ts} {k = k} {us = us} o c) = between_keeps ts k s x us rest o c
  keeps {s = s} {x = x} {rest = rest} (in_text {ts = ts} {k = k} {at = at} {xs = xs} {us = us} {vs = vs} o c t) = in_text_keeps at xs ts k s x us vs rest o c t
  keeps {s = s} {x = x} {rest = rest} (text_refers {ts = ts} {k = k} {at = at} {xs = xs} {f = f} o c g i) = reference_keeps (InText at xs) ts k (λ d tail v. in_text o c (g d tail v)) (λ e tail v. text_refers o c g v) f s x rest i
  keeps {s = s} {x = x} {rest = rest} (begun {x = l} {ts = ts} {k = k} {us = us} o c) = begun_keeps l ts k s x us rest o c
  keeps {s = s} {x = x} {rest = rest} (tag_name {x = l} {ts = ts} {k = k} {tag = tag} {at = at} {us = us} {cs = cs} o c few n) = tag_name_keeps l tag at ts k s x us cs rest o c few n
  keeps {s = s} {x = x} {rest = rest} (valued {ts = ts} {k = k} {h = h} hs) = in_head_keeps h ts k s x ((s, x) ∷ rest) rest hs no_blank
  keeps {s = s} {x = x} {rest = rest} (spaced {ts = ts} {k = k} {h = h} {es = es} hs g) = spaced_keeps h ts k s x es rest hs g
  keeps {s = s} {x = x} {rest = rest} (attribute_name {ts = ts} {k = k} {h = h} {name = name} {at = at} {es = es} {fs = fs} hs g n) = attribute_name_keeps h at name ts k s x es fs rest hs g n
  keeps {s = s} {x = x} {rest = rest} (assigned {e = e} {ts = ts} {k = k} {h = h} {name = name} {at = at} {es = es} {fs = fs} hs g n) = assigned_keeps h at name ts k e s x es fs rest hs g n
  keeps {s = s} {x = x} {rest = rest} (in_value {e = e} {q = q} {ts = ts} {k = k} {h = h} {name = name} {at = at} {double = double} {xs = xs} {es = es} {fs = fs} {vs = vs} hs g n v) = in_value_keeps h name at e q double xs ts k s x es fs vs rest hs g n v
  keeps {s = s} {x = x} {rest = rest} (value_refers {q = q} {ts = ts} {k = k} {h = h} {name = name} {at = at} {double = double} {xs = xs} {f = f} hs g n v i) = reference_keeps (InValue h name at (suc q.at) double xs) ts k (λ d tail r. in_value hs g n (v d tail r)) (λ e tail r. value_refers hs g n v r) f s x rest i
  keeps {s = s} {x = x} {rest = rest} (slashed {s = l} {ts = ts} {k = k} {h = h} {es = es} hs bs v) = slashed_keeps h ts k l s x es rest hs bs v
  keeps {s = s} {x = x} {rest = rest} (ending {l = l} {s = d} {ts = ts} {o = o} {k = k} {word = word} {us = us} {es = es} op c f) = ending_keeps word ts o k l d s x us es rest op c f
  keeps {s = s} {x = x} {rest = rest} (ended {l = l} {s = d} {ts = ts} {o = o} {k = k} {us = us} {es = es} {fs = fs} op c v bs) = ended_keeps ts o k l d s x us es fs rest op c v bs
  keeps {s = s} {x = x} {rest = rest} (in_raw {g = g} {ts = ts} {k = k} {h = h} {xs = xs} {es = es} {ds = ds} hs bs v i r) = in_raw_keeps h g xs ts k s x es ds rest hs bs v i r
  keeps {s = s} {x = x} {rest = rest} (raw_begun {g = g} {l = l} {ts = ts} {k = k} {h = h} {xs = xs} {es = es} {ds = ds} hs bs v i r) = raw_begun_keeps h g l xs ts k s x es ds rest hs bs v i r
  keeps {s = s} {x = x} {rest = rest} (raw_ending {g = g} {l = l} {s = d} {ts = ts} {k = k} {h = h} {xs = xs} {word = word} {es = es} {ds = ds} {fs = fs} hs bs v i r f) = raw_ending_keeps h g l d xs word ts k s x es ds fs rest hs bs v i r f

  outer : {us : List Char} → Opened w [] us → us ≡ w
  outer outermost = refl

  trees_are : (ts us : Trees Places) → Some ts ≡ Some us → ts ≡ us
  trees_are ts us e = cc

  ends : {st : State} {ts : Trees Places} → Holds w st [] → finished (Some st) ≡ Some ts → Spells (Content 0 ts) w []
  ends {ts = ts} (between {ts = us} {k = []} {us = from} o c) e = subst (λ l. Spells (Content 0 ts) l []) (outer o) (subst (λ t. Spells (Content 0 t) from []) (trees_are us ts e) (no_text c))
  ends {ts = ts} (in_text {ts = us} {k = []} {us = from} o c t) e = subst (λ l. Spells (Content 0 ts) l []) (outer o) (subst (λ q. Spells (Content 0 q) from []) (trees_are _ ts e) (and_text c t))
  ends _ e = cc

  spelled : {ts : Trees Places} (o : Option State) (cs : List Char) → HoldsO o cs → finished (run o cs) ≡ Some ts → Spells (Content 0 ts) w []
  spelled None cs h e = cc
  spelled (Some st) [] h e = ends h e
  spelled (Some st) ((s, x) ∷ cs) h e = spelled (step st s x) cs (keeps h) e

pub sound : {cs : List Char} {ts : Trees Places} → finished (run (Some begin) cs) ≡ Some ts → Spells (Content 0 ts) cs []
sound {cs} e = spelled cs (Some begin) cs (between outermost nothing) e
