-- What is read of JSON: the strings and the keys are contents of strings.
use Rattle.std.proofs.Common.{◌≡◌, ◌<◌, refl, arith, ℕ, zero, suc, Bool, true, false, cond, List, [], ◌∷◌, length}
use Rattle.std.proofs.lemmas.Bool.{eqb-true}
use Rattle.json.specs.Word.{is_operator, is_space, head, word, literal, number_before, after_number, ends_word}
use Rattle.std.specs.Prelude.{Option, Some, None, option_map, option_and_then, ⊤, ◌==◌, nat_eq, drop, ◌&&◌}
use Rattle.std.specs.List.{AllByRecursion, starts_with}
use Rattle.std.specs.Ordering.{match_ordering, nat_cmp}
use Rattle.std.specs.declared.cmp.Ordering.{Ordering}
use Rattle.std.specs.declared.cmp.Ordering.TheVariants.{Less, Equal, Greater}
use Rattle.std.specs.Cmp.Lexicographic.{slice_cmp}
use Rattle.json.specs.Token.{Token, begin_object, end_object, begin_array, end_array, key, string, number, boolean, null, bad}
use Rattle.json.specs.Text.{content, plain}
use Rattle.json.specs.Lex.{Lexeme, token, comma, colon, Class, quote, backslash, operator, space, other, class, operator_lexeme, string_token, Mode, between, in_word, in_string, in_escape, lex_byte, lex, Place, fresh, after_value, after_comma, after_key, begins_colon, may_begin, may_close, if_allowed, place_token, punctuate, tokens}
use Rattle.json.specs.Json as grammar
use Rattle.json.specs.Json.{after_end_array, read_key, items_step, members_step, items, members, value_with, value, if_last, Parse, parse_map}
use Rattle.serde_json.specs.Data as json
use Rattle.serde_json.specs.Read.{of_json, of_items, of_members, read, max_depth, number_of}
use Rattle.json.specs.Ascii as ascii

abbrev pub OfSome : {A : Type 0} → (A → Type 0) → Option A → Type 0
OfSome P None = ⊤
OfSome P (Some a) = P a

-- a quote is ASCII
quote_low : (x : ℕ) → class x ≡ quote → x < 128
quote_low x = by (x == ascii.quote) (x == ascii.backslash) (is_operator x) (is_space x) refl
  where
    small : x ≡ ascii.quote → x < 128
    small i = omega (arith, i)

    by : (a b c d : Bool) → (x == ascii.quote) ≡ a → cond a quote (cond b backslash (cond c operator (cond d space other))) ≡ quote → x < 128
    by true b c d i e = small (eqb-true x ascii.quote i)
    by false true c d i e = cc
    by false false true d i e = cc
    by false false false true i e = cc
    by false false false false i e = cc

module _ (P : List ℕ → Type 0) where
  -- ## Tokens

  abbrev OfToken : Token → Type 0
  OfToken begin_object = ⊤
  OfToken end_object = ⊤
  OfToken begin_array = ⊤
  OfToken end_array = ⊤
  OfToken (key s) = P s
  OfToken (string s) = P s
  OfToken (number s) = ⊤
  OfToken (boolean b) = ⊤
  OfToken null = ⊤
  OfToken bad = ⊤

  abbrev OfLexeme : Lexeme → Type 0
  OfLexeme (token t) = OfToken t
  OfLexeme comma = ⊤
  OfLexeme colon = ⊤

  -- what is known of the contents of strings in bytes
  module _ (Q : List ℕ → Type 0) (rest : (x : ℕ) (xs : List ℕ) → Q (x ∷ xs) → Q xs) (found : (x : ℕ) (xs : List ℕ) → x < 128 → Q (x ∷ xs) → OfSome P (content plain xs)) where
    string_is : (o : Option (List ℕ)) → OfSome P o → OfToken (string_token o)
    string_is None h = tt
    string_is (Some s) h = h

    either_token : (b : Bool) (t u : Token) → OfToken t → OfToken u → OfToken (cond b t u)
    either_token true t u h k = h
    either_token false t u h k = k

    number_is : (t : List ℕ) (o : Option (List ℕ)) → OfToken (number_before t o)
    number_is t None = tt
    number_is t (Some r) = either_token (ends_word r) (number _) bad tt tt

    literal_is : (name : List ℕ) (u : Token) (t : List ℕ) → OfToken u → OfToken (literal name u t)
    literal_is name u t h = either_token (starts_with nat_eq t name && ends_word (drop (length name) t)) u bad h tt

    word_is : (t : List ℕ) → OfToken (word t)
    unfolding word
    word_is t = by (head t == ascii.lower_t) (head t == ascii.lower_f) (head t == ascii.lower_n)
      where
        by : (a b c : Bool) → OfToken (cond a (literal ascii.true_text (boolean true) t) (cond b (literal ascii.false_text (boolean false) t) (cond c (literal ascii.null_text null t) (number_before t (after_number t)))))
        by true b c = literal_is ascii.true_text (boolean true) t tt
        by false true c = literal_is ascii.false_text (boolean false) t tt
        by false false true = literal_is ascii.null_text null t tt
        by false false false = number_is t (after_number t)

    operator_is : (x : ℕ) → OfLexeme (operator_lexeme x)
    operator_is x = by (x == ascii.open_brace) (x == ascii.close_brace) (x == ascii.open_bracket) (x == ascii.close_bracket) (x == ascii.comma)
      where
        by : (a b c d e : Bool) → OfLexeme (cond a (token begin_object) (cond b (token end_object) (cond c (token begin_array) (cond d (token end_array) (cond e comma colon)))))
        by true b c d e = tt
        by false true c d e = tt
        by false false true d e = tt
        by false false false true e = tt
        by false false false false true = tt
        by false false false false false = tt

    byte_is : (m : Mode) (c : Class) (x : ℕ) (xs : List ℕ) (k : Mode → List Lexeme) → class x ≡ c → Q (x ∷ xs) → ((n : Mode) → AllByRecursion OfLexeme (k n)) → AllByRecursion OfLexeme (lex_byte m c x xs k)
    byte_is between quote x xs k e q f = (string_is (content plain xs) (found x xs (quote_low x e) q), f in_string)
    byte_is between backslash x xs k e q f = (tt, f in_word)
    byte_is between operator x xs k e q f = (operator_is x, f between)
    byte_is between space x xs k e q f = f between
    byte_is between other x xs k e q f = (word_is (x ∷ xs), f in_word)
    byte_is in_word quote x xs k e q f = f in_word
    byte_is in_word backslash x xs k e q f = f in_word
    byte_is in_word operator x xs k e q f = (operator_is x, f between)
    byte_is in_word space x xs k e q f = f between
    byte_is in_word other x xs k e q f = f in_word
    byte_is in_string quote x xs k e q f = f between
    byte_is in_string backslash x xs k e q f = f in_escape
    byte_is in_string operator x xs k e q f = f in_string
    byte_is in_string space x xs k e q f = f in_string
    byte_is in_string other x xs k e q f = f in_string
    byte_is in_escape c x xs k e q f = f in_string

    lexed : (m : Mode) (bs : List ℕ) → Q bs → AllByRecursion OfLexeme (lex m bs)
    unfolding lex
    lexed m [] q = tt
    lexed m (x ∷ xs) q = byte_is m (class x) x xs (λ n. lex n xs) refl q (λ n. lexed n xs (rest x xs q))

    allowed : (b : Bool) (t : Token) (k : Place → List Token) (next : Place) → OfToken t → AllByRecursion OfToken (k next) → AllByRecursion OfToken (if_allowed b t k next)
    allowed true t k next h f = (h, f)
    allowed false t k next h f = (tt, tt)

    placed : (p : Place) (t : Token) (b : Bool) (k : Place → List Token) → OfToken t → ((n : Place) → AllByRecursion OfToken (k n)) → AllByRecursion OfToken (place_token p t b k)
    placed p begin_object b k h f = allowed (may_begin p) begin_object k fresh tt (f fresh)
    placed p end_object b k h f = allowed (may_close p) end_object k after_value tt (f after_value)
    placed p begin_array b k h f = allowed (may_begin p) begin_array k fresh tt (f fresh)
    placed p end_array b k h f = allowed (may_close p) end_array k after_value tt (f after_value)
    placed p (key s) b k h f = (tt, tt)
    placed p (string s) true k h f = allowed (may_begin p) (key s) k after_key h (f after_key)
    placed p (string s) false k h f = allowed (may_begin p) (string s) k after_value h (f after_value)
    placed p (number s) b k h f = allowed (may_begin p) (number s) k after_value tt (f after_value)
    placed p (boolean s) b k h f = allowed (may_begin p) (boolean s) k after_value tt (f after_value)
    placed p null b k h f = allowed (may_begin p) null k after_value tt (f after_value)
    placed p bad b k h f = (tt, tt)

    punctuated : (p : Place) (ls : List Lexeme) → AllByRecursion OfLexeme ls → AllByRecursion OfToken (punctuate p ls)
    unfolding punctuate
    punctuated fresh [] h = tt
    punctuated after_value [] h = tt
    punctuated after_comma [] h = (tt, tt)
    punctuated after_key [] h = (tt, tt)
    punctuated fresh (token t ∷ ls) h = placed fresh t (begins_colon ls) (λ n. punctuate n ls) h.0 (λ n. punctuated n ls h.1)
    punctuated after_value (token t ∷ ls) h = placed after_value t (begins_colon ls) (λ n. punctuate n ls) h.0 (λ n. punctuated n ls h.1)
    punctuated after_comma (token t ∷ ls) h = placed after_comma t (begins_colon ls) (λ n. punctuate n ls) h.0 (λ n. punctuated n ls h.1)
    punctuated after_key (token t ∷ ls) h = placed after_key t (begins_colon ls) (λ n. punctuate n ls) h.0 (λ n. punctuated n ls h.1)
    punctuated fresh (comma ∷ ls) h = (tt, tt)
    punctuated after_value (comma ∷ ls) h = punctuated after_comma ls h.1
    punctuated after_comma (comma ∷ ls) h = (tt, tt)
    punctuated after_key (comma ∷ ls) h = (tt, tt)
    punctuated fresh (colon ∷ ls) h = (tt, tt)
    punctuated after_value (colon ∷ ls) h = (tt, tt)
    punctuated after_comma (colon ∷ ls) h = (tt, tt)
    punctuated after_key (colon ∷ ls) h = punctuated fresh ls h.1

    tokens_are : (bs : List ℕ) → Q bs → AllByRecursion OfToken (tokens bs)
    tokens_are bs q = punctuated fresh (lex between bs) (lexed between bs q)

  -- ## Values

  abbrev mutual
    OfJson : grammar.Json → Type 0
    OfJson grammar.null = ⊤
    OfJson (grammar.boolean b) = ⊤
    OfJson (grammar.number s) = ⊤
    OfJson (grammar.string s) = P s
    OfJson (grammar.array js) = OfItems js
    OfJson (grammar.object ms) = OfMembers ms

    OfItems : grammar.Items → Type 0
    OfItems grammar.no_items = ⊤
    OfItems (grammar.item j js) = OfJson j × OfItems js

    OfMembers : grammar.Members → Type 0
    OfMembers grammar.no_members = ⊤
    OfMembers (grammar.member k j ms) = P k × (OfJson j × OfMembers ms)

  abbrev mutual
    -- the strings and the keys in what was read
    pub HasStrings : json.Data → Type 0
    HasStrings json.null = ⊤
    HasStrings (json.boolean b) = ⊤
    HasStrings (json.number x) = ⊤
    HasStrings (json.string bs) = P bs
    HasStrings (json.array ds) = ItemsHaveStrings ds
    HasStrings (json.object ms) = MembersHaveStrings ms

    pub ItemsHaveStrings : json.Items → Type 0
    ItemsHaveStrings json.no_items = ⊤
    ItemsHaveStrings (json.item d ds) = HasStrings d × ItemsHaveStrings ds

    pub MembersHaveStrings : json.Members → Type 0
    MembersHaveStrings json.no_members = ⊤
    MembersHaveStrings (json.member k d ms) = P k × (HasStrings d × MembersHaveStrings ms)

  -- what a parser gives
  abbrev OfParsed : {A : Type 0} → (A → Type 0) → Option (A × List Token) → Type 0
  OfParsed R None = ⊤
  OfParsed R (Some p) = R p.0 × AllByRecursion OfToken p.1

  parsed_map : {A B : Type 0} (R : A → Type 0) (S : B → Type 0) (f : A → B) → ((a : A) → R a → S (f a)) → (o : Option (A × List Token)) → OfParsed R o → OfParsed S (parse_map f o)
  parsed_map R S f k None h = tt
  parsed_map R S f k (Some p) h = (k p.0 h.0, h.1)

  parsed_then : {A B : Type 0} (R : A → Type 0) (S : B → Type 0) (f : A × List Token → Option (B × List Token)) → ((p : A × List Token) → R p.0 → AllByRecursion OfToken p.1 → OfParsed S (f p)) → (o : Option (A × List Token)) → OfParsed R o → OfParsed S (option_and_then f o)
  parsed_then R S f k None h = tt
  parsed_then R S f k (Some p) h = k p h.0 h.1

  abbrev Parses : {A : Type 0} → (A → Type 0) → Parse A → Type 0
  Parses R f = (ts : List Token) → AllByRecursion OfToken ts → OfParsed R (f ts)

  after_array : (ts : List Token) → AllByRecursion OfToken ts → OfSome (AllByRecursion OfToken) (after_end_array ts)
  after_array [] h = tt
  after_array (begin_object ∷ ts) h = tt
  after_array (end_object ∷ ts) h = tt
  after_array (begin_array ∷ ts) h = tt
  after_array (end_array ∷ ts) h = h.1
  after_array (key s ∷ ts) h = tt
  after_array (string s ∷ ts) h = tt
  after_array (number s ∷ ts) h = tt
  after_array (boolean b ∷ ts) h = tt
  after_array (null ∷ ts) h = tt
  after_array (bad ∷ ts) h = tt

  key_read : Parses (OfSome P) read_key
  key_read [] h = tt
  key_read (begin_object ∷ ts) h = tt
  key_read (end_object ∷ ts) h = (tt, h.1)
  key_read (begin_array ∷ ts) h = tt
  key_read (end_array ∷ ts) h = tt
  key_read (key s ∷ ts) h = (h.0, h.1)
  key_read (string s ∷ ts) h = tt
  key_read (number s ∷ ts) h = tt
  key_read (boolean b ∷ ts) h = tt
  key_read (null ∷ ts) h = tt
  key_read (bad ∷ ts) h = tt

  item_read : (v : Parse grammar.Json) (more : Parse grammar.Items) (ts : List Token) (o : Option (List Token)) → Parses OfJson v → Parses OfItems more → AllByRecursion OfToken ts → OfSome (AllByRecursion OfToken) o → OfParsed OfItems (items_step v more ts o)
  item_read v more ts (Some rest) f g h k = (tt, k)
  item_read v more ts None f g h k = parsed_then OfJson OfItems _ (λ p q r. parsed_map OfItems OfItems (grammar.item p.0) (λ js s. (q, s)) (more p.1) (g p.1 r)) (v ts) (f ts h)

  member_read : (v : Parse grammar.Json) (more : Parse grammar.Members) (o : Option (List ℕ)) (ts : List Token) → Parses OfJson v → Parses OfMembers more → OfSome P o → AllByRecursion OfToken ts → OfParsed OfMembers (members_step v more o ts)
  member_read v more None ts f g k h = (tt, h)
  member_read v more (Some x) ts f g k h = parsed_then OfJson OfMembers _ (λ p q r. parsed_map OfMembers OfMembers (grammar.member x p.0) (λ ms s. (k, (q, s))) (more p.1) (g p.1 r)) (v ts) (f ts h)

  items_read : (v : Parse grammar.Json) → Parses OfJson v → (n : ℕ) → Parses OfItems (items v n)
  unfolding items
  items_read v f zero ts h = tt
  items_read v f (suc n) ts h = item_read v (items v n) ts (after_end_array ts) f (items_read v f n) h (after_array ts h)

  members_read : (v : Parse grammar.Json) → Parses OfJson v → (n : ℕ) → Parses OfMembers (members v n)
  unfolding members
  members_read v f zero ts h = tt
  members_read v f (suc n) ts h = parsed_then (OfSome P) OfMembers _ (λ p q r. member_read v (members v n) p.0 p.1 f (members_read v f n) q r) (read_key ts) (key_read ts h)

  with_read : (a : Parse grammar.Items) (o : Parse grammar.Members) → Parses OfItems a → Parses OfMembers o → Parses OfJson (value_with a o)
  with_read a o f g [] h = tt
  with_read a o f g (begin_object ∷ ts) h = parsed_map OfMembers OfJson grammar.object (λ ms q. q) (o ts) (g ts h.1)
  with_read a o f g (end_object ∷ ts) h = tt
  with_read a o f g (begin_array ∷ ts) h = parsed_map OfItems OfJson grammar.array (λ js q. q) (a ts) (f ts h.1)
  with_read a o f g (end_array ∷ ts) h = tt
  with_read a o f g (key s ∷ ts) h = tt
  with_read a o f g (string s ∷ ts) h = (h.0, h.1)
  with_read a o f g (number s ∷ ts) h = (tt, h.1)
  with_read a o f g (boolean b ∷ ts) h = (tt, h.1)
  with_read a o f g (null ∷ ts) h = (tt, h.1)
  with_read a o f g (bad ∷ ts) h = tt

  value_read : (n : ℕ) → Parses OfJson (value n)
  unfolding value
  value_read zero ts h = with_read (λ us. None) (λ us. None) (λ us k. tt) (λ us k. tt) ts h
  value_read (suc n) ts h = with_read (λ us. items (value n) (length us) us) (λ us. members (value n) (length us) us)
      (λ us k. items_read (value n) (value_read n) (length us) us k) (λ us k. members_read (value n) (value_read n) (length us) us k) ts h

  some_map : {A B : Type 0} (R : A → Type 0) (S : B → Type 0) (f : A → B) → ((a : A) → R a → S (f a)) → (o : Option A) → OfSome R o → OfSome S (option_map f o)
  some_map R S f k None h = tt
  some_map R S f k (Some a) h = k a h

  some_then : {A B : Type 0} (R : A → Type 0) (S : B → Type 0) (f : A → Option B) → ((a : A) → R a → OfSome S (f a)) → (o : Option A) → OfSome R o → OfSome S (option_and_then f o)
  some_then R S f k None h = tt
  some_then R S f k (Some a) h = k a h

  put_by : (o : Ordering) (k l : List ℕ) (d e : json.Data) (ms : json.Members) → P k → HasStrings d → MembersHaveStrings (json.member l e ms) → MembersHaveStrings (json.put k d ms)
      → MembersHaveStrings (match_ordering o (json.member k d (json.member l e ms)) (json.member l d ms) (json.member l e (json.put k d ms)))
  put_by Less k l d e ms h i q r = (h, (i, q))
  put_by Equal k l d e ms h i q r = (q.0, (i, q.1.1))
  put_by Greater k l d e ms h i q r = (q.0, (q.1.0, r))

  put_is : (k : List ℕ) (d : json.Data) (ms : json.Members) → P k → HasStrings d → MembersHaveStrings ms → MembersHaveStrings (json.put k d ms)
  put_is k d json.no_members h i q = (h, (i, tt))
  put_is k d (json.member l e ms) h i q = put_by (slice_cmp nat_cmp k l) k l d e ms h i q (put_is k d ms h i q.1.1)

  mutual
    json_is : (j : grammar.Json) → OfJson j → OfSome HasStrings (of_json j)
    json_is grammar.null h = tt
    json_is (grammar.boolean b) h = tt
    json_is (grammar.number s) h = some_map (λ x. ⊤) HasStrings json.number (λ x q. tt) (number_of s) (any (number_of s))
      where
        any : (o : Option json.Num) → OfSome (λ x. ⊤) o
        any None = tt
        any (Some x) = tt
    json_is (grammar.string s) h = h
    json_is (grammar.array js) h = some_map ItemsHaveStrings HasStrings json.array (λ ds q. q) (of_items js) (items_are js h)
    json_is (grammar.object ms) h = some_map MembersHaveStrings HasStrings json.object (λ ms q. q) (of_members ms json.no_members) (members_are ms json.no_members h tt)

    items_are : (js : grammar.Items) → OfItems js → OfSome ItemsHaveStrings (of_items js)
    items_are grammar.no_items h = tt
    items_are (grammar.item j js) h = some_then HasStrings ItemsHaveStrings _ (λ d q. some_map ItemsHaveStrings ItemsHaveStrings (json.item d) (λ ds r. (q, r)) (of_items js) (items_are js h.1)) (of_json j) (json_is j h.0)

    members_are : (ms : grammar.Members) (found : json.Members) → OfMembers ms → MembersHaveStrings found → OfSome MembersHaveStrings (of_members ms found)
    members_are grammar.no_members found h q = q
    members_are (grammar.member k j ms) found h q = some_then HasStrings MembersHaveStrings _ (λ d r. members_are ms (json.put k d found) h.1.1 (put_is k d found h.0 r q)) (of_json j) (json_is j h.1.0)

  last_is : (j : grammar.Json) (ts : List Token) → OfJson j → OfSome OfJson (if_last j ts)
  last_is j [] h = h
  last_is j (t ∷ ts) h = tt

  whole_is : (o : Option (grammar.Json × List Token)) → OfParsed OfJson o → OfSome OfJson (option_and_then (λ p. if_last p.0 p.1) o)
  whole_is None h = tt
  whole_is (Some p) h = last_is p.0 p.1 h.0

  -- the contents of strings in bytes have it, and so do all strings that are read
  pub read_is : (Q : List ℕ → Type 0) → ((x : ℕ) (xs : List ℕ) → Q (x ∷ xs) → Q xs) → ((x : ℕ) (xs : List ℕ) → x < 128 → Q (x ∷ xs) → OfSome P (content plain xs))
      → (bs : List ℕ) → Q bs → OfSome HasStrings (read bs)
  read_is Q rest found bs q = some_then OfJson HasStrings of_json json_is _ (whole_is (value max_depth (tokens bs)) (value_read max_depth (tokens bs) (tokens_are Q rest found bs q)))
