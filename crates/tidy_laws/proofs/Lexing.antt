-- The tidied text is read as its tokens.
use Rattle.std.proofs.Common.{◌≡◌, ℕ, ◌+◌, ◌-◌, List, [], ◌∷◌, ◌++◌, length, Bool, true, false, refl, ap, sym, subst, ◌∙◌, arith, append_assoc, map}
use Rattle.std.specs.Prelude.{slice_range}
use Rattle.js_grammar.specs.declared.Sign.{Sign}
use Rattle.js_grammar.specs.Grammar.{Lexeme, Deep}
use Rattle.js_grammar.specs.Unplaced.{spellings}
use Rattle.js_parser.specs.Signs.{sign_as, sign_of}
use Rattle.js_print.specs.Tidy.{Tokens, spaced}
use Rattle.js_tokens.specs.declared.token.Token.{Token as Lexed}
use Rattle.js_tokens.specs.declared.token.TokenKind.{TokenKind}
use Rattle.js_tokens.specs.Lexes.{Reads, size}
use Rattle.js_tokens.specs.Lexes.Reads.{done, blank, token}
use Rattle.js_tokens.specs.Value.{text_of, text_between}
use Rattle.js_tokens.proofs.Fronts.{IsToken}
use Rattle.tidy_laws.specs.Laws.{IsReadAs}
use Rattle.tidy_laws.specs.Proper.{IsProper}
use Rattle.tidy_laws.specs.Told.{Written, end, next}
use Rattle.tidy_laws.proofs.Words.{is_ascii, ascii_append, encodes_ascii, chars_ascii, utf8_ascii, slice_middle, gap, IsWord}
use Rattle.tidy_laws.proofs.Readings.{Reading, reading}

-- a space or the line feed comes after a token
after : (ws : Tokens) → (g : Bool) × (rest : List ℕ) × (spaced true ws ≡ gap g ∷ rest)
after [] = (false, [], refl)
after (w ∷ ws) = (true, w ++ spaced true ws, refl)

token_before : (k : TokenKind) (w : List ℕ) (ws : Tokens) → IsWord k w → IsToken k (w ++ spaced true ws) (spaced true ws)
token_before k w ws is = let a = after ws in subst (λ l. IsToken k (w ++ l) l) (sym a.2) (is.token a.0 a.1)

text_ascii : {Allowed : ℕ → Type 0} {words : Tokens} {ts rest : List Deep} (b : Bool) → Written Allowed IsProper words ts rest → is_ascii (spaced b words) ≡ true
text_ascii b end = refl
text_ascii true (next {bytes = w} t fit le v) = ascii_append w _ (reading t fit).word.ascii (text_ascii true v)
text_ascii false (next {bytes = w} t fit le v) = ascii_append w _ (reading t fit).word.ascii (text_ascii true v)

size_ascii : (cs : List ℕ) → is_ascii cs ≡ true → size cs ≡ length cs
size_ascii cs e = ap length (encodes_ascii cs e)

length_append : (w r : List ℕ) → length (w ++ r) ≡ length w + length r
length_append [] r = omega arith
length_append (c ∷ w) r = let e = length_append w r in omega (arith, e)

module _ (bytes : List ℕ) where
  -- the characters are read as the tokens
  record Read (cs : List ℕ) (ts rest : List Deep) : Type 0 where
    lexed : List Lexed
    reads : Reads (length bytes) cs lexed
    same : spellings ts ≡ map (λ t. (sign_of bytes t, text_of bytes t)) lexed ++ spellings rest

  one : (pre w post : List ℕ) (s : Sign) (x : Lexeme) (d : ℕ) (ts rest : List Deep) (r : Reading w s x.text) → bytes ≡ pre ++ (w ++ post) → is_ascii (w ++ post) ≡ true → is_ascii post ≡ true → IsToken r.k (w ++ post) post → Read post ts rest → Read (w ++ post) (((s, x), d) ∷ ts) rest
  unfolding text_of
  one pre w post s x d ts rest r whole all more is m =
      let n = length bytes in
      let total : n ≡ length pre + (length w + length post) = ap length whole ∙ length_append pre (w ++ post) ∙ ap (λ l. length pre + l) (length_append w post) in
      let a : size (w ++ post) ≡ length w + length post = size_ascii (w ++ post) all ∙ length_append w post in
      let b : size post ≡ length post = size_ascii post more in
      let from : n - size (w ++ post) ≡ length pre = omega (arith, total, a) in
      let to : n - size post ≡ length pre + length w = omega (arith, total, b) in
      record {
        lexed = record { kind = r.k; from = n - size (w ++ post); to = n - size post } ∷ m.lexed;
        reads = token is.spelled is.longest is.apart m.reads;
        same =
            let sign_same : s ≡ sign_as r.k (slice_range bytes (n - size (w ++ post)) (n - size post)) = sym (r.sign_is) ∙ ap (sign_as r.k) (sym (slice_middle pre w post (length pre) (length pre + length w) refl refl)) ∙ (λ i. sign_as r.k (slice_range (sym whole i) (sym from i) (sym to i))) in
            let text_same : x.text ≡ text_between r.k bytes (n - size (w ++ post)) (n - size post) = sym (r.text_is pre post) ∙ (λ i. text_between r.k (sym whole i) (sym from i) (sym to i)) in
            λ i. (sign_same i, text_same i) ∷ m.same i;
      }

  all_read : {Allowed : ℕ → Type 0} {words : Tokens} {ts rest : List Deep} (b : Bool) (pre : List ℕ) → Written Allowed IsProper words ts rest → bytes ≡ pre ++ spaced b words → Read (spaced b words) ts rest
  all_read b pre end whole = record { lexed = []; reads = blank refl done; same = refl }
  all_read {words = w ∷ ws} true pre (next {s = s} {x = x} {d = d} {ts = ts} {rest = rest} t fit le v) whole =
      let r = reading t fit in
      let here : bytes ≡ (pre ++ 32 ∷ []) ++ (w ++ spaced true ws) = whole ∙ sym (append_assoc pre (32 ∷ []) (w ++ spaced true ws)) in
      let m = all_read true ((pre ++ 32 ∷ []) ++ w) v (here ∙ sym (append_assoc (pre ++ 32 ∷ []) w (spaced true ws))) in
      let o = one (pre ++ 32 ∷ []) w (spaced true ws) s x d ts rest r here (ascii_append w _ r.word.ascii (text_ascii true v)) (text_ascii true v) (token_before r.k w ws r.word) m in
      record { lexed = o.lexed; reads = blank refl o.reads; same = o.same }
  all_read {words = w ∷ ws} false pre (next {s = s} {x = x} {d = d} {ts = ts} {rest = rest} t fit le v) whole =
      let r = reading t fit in
      let m = all_read true (pre ++ w) v (whole ∙ sym (append_assoc pre w (spaced true ws))) in
      one pre w (spaced true ws) s x d ts rest r whole (ascii_append w _ r.word.ascii (text_ascii true v)) (text_ascii true v) (token_before r.k w ws r.word) m

-- the text of proper tokens is read as these
pub read_back : (Allowed : ℕ → Type 0) (words : Tokens) (ts rest : List Deep) → Written Allowed IsProper words ts rest → IsReadAs (spaced false words) ts rest
read_back Allowed words ts rest w =
    let a = text_ascii false w in
    let bytes = spaced false words in
    let m = all_read bytes false [] w refl in
    record {
      lexed = m.lexed;
      lexes = (utf8_ascii bytes a, subst (λ cs. Reads (length bytes) cs m.lexed) (sym (chars_ascii bytes a)) m.reads);
      same = m.same;
    }
