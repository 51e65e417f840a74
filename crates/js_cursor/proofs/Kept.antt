-- Texts that are kept.
use Rattle.std.proofs.Common.{◌≡◌, ℕ, zero, leb, suc, ◌+◌, ◌<◌, ◌≤◌, List, [], ◌∷◌, ◌++◌, Option, Some, None, length, map, get_or, take, refl, ap, sym, subst, ◌∙◌, arith, length-append, length-take-le, append-nil}
use Rattle.std.specs.Prelude.{slice_range}
use Rattle.std.proofs.lemmas.List.{get_or_default, length-map}
use Rattle.std.proofs.Common.{inl, inr}
use Rattle.std.specs.Prelude.{◌⊎◌, true, false}
use Rattle.std.proofs.lemmas.Bool.Decides.{leb_tells}
use lib.ListN.{get_or-append}
use lib.Seq.{get_or-append_seam, get_or-take}
use Rattle.js_tokens.specs.declared.token.Token.{Token as Lexed}
use Rattle.js_tokens.specs.declared.token.TokenKind.TheVariants as kind
use Rattle.js_tokens.specs.Value.{text_of, text_between}
use Rattle.js_grammar.specs.Grammar.{Token}
use Rattle.js_cursor.specs.Signs.{seen, input}
use Rattle.js_cursor.specs.Reads.{lexeme_at}
use Rattle.js_cursor.specs.Texts.{IsSpelled, HasText, IsKept, AddsText, AreTexts}

-- a text of such a kind is its spelling
pub spelled : (bytes : List ℕ) (t : Lexed) → IsSpelled t.kind → slice_range bytes t.from t.to ≡ text_of bytes t
unfolding text_of
spelled bytes t h = between (t.kind) h
  where
    between : (k : _) → IsSpelled k → slice_range bytes t.from t.to ≡ text_between k bytes t.from t.to
    between kind.Name h = refl
    between kind.Number h = refl
    between kind.Reserved h = absurd h
    between kind.Str h = absurd h
    between kind.Mark h = absurd h

pub has_more : (texts more : List (List ℕ)) (place : ℕ) (units : List ℕ) → HasText texts place units → HasText (texts ++ more) place units
has_more texts more place units h = record {
  inside = omega (arith, h.inside, length-append texts more);
  same = get_or-append texts more [] place h.inside ∙ h.same;
}

pub kept_more : (texts more : List (List ℕ)) (place : Option ℕ) (units : List ℕ) → IsKept texts place units → IsKept (texts ++ more) place units
kept_more texts more None units h = tt
kept_more texts more (Some place) units h = has_more texts more place units h

pub adds_none : (texts : List (List ℕ)) (units : List ℕ) → AddsText texts texts None units
adds_none texts units = record { more = []; grown = sym (append-nil texts); told = tt }

pub adds_spelled : (bytes : List ℕ) (t : Lexed) (kept texts : List (List ℕ)) (place : ℕ) → kept ≡ texts → IsSpelled t.kind → HasText kept place (slice_range bytes t.from t.to) → AddsText texts texts (Some place) (text_of bytes t)
adds_spelled bytes t kept texts place is h has = record {
  more = [];
  grown = sym (append-nil texts);
  told = subst (λ l. HasText l place (text_of bytes t)) is (subst (HasText kept place) (spelled bytes t h) has);
}

module _ (bytes : List ℕ) (ts : List Lexed) (i : ℕ) (t : Lexed) (lt : i < length ts) (is : t ≡ get_or ts i t) (places : List (Option ℕ)) (texts : List (List ℕ)) (h : AreTexts bytes (take i ts) places texts) where
  pub texts_more : (place : Option ℕ) (new : List (List ℕ)) → AddsText texts new place (text_of bytes t) → AreTexts bytes (take (i + 1) ts) (places ++ place ∷ []) new
  texts_more place new adds =
      let front = length-take-le i ts (omega (arith, lt)) in
      let longer = length-take-le (i + 1) ts (omega (arith, lt)) in
      let one = length-append places (place ∷ []) in
      record { long = omega (arith, one, h.long, front, longer); told = said }
    where
      same_token : (l : List Lexed) (j : ℕ) (d e : Lexed) → j < length l → get_or l j d ≡ get_or l j e
      same_token [] j d e lt = absurd (omega (arith, lt))
      same_token (x ∷ l) zero d e lt = refl
      same_token (x ∷ l) (suc j) d e lt = same_token l j d e (omega (arith, lt))

      front : length (take i ts) ≡ i
      front = length-take-le i ts (omega (arith, lt))

      old : (j : ℕ) (u : Lexed) → j < i → u ≡ get_or (take (i + 1) ts) j u → IsKept new (get_or (places ++ place ∷ []) j None) (text_of bytes u)
      old j u before here =
          let same : get_or (places ++ place ∷ []) j None ≡ get_or places j None = get_or-append places (place ∷ []) None j (omega (arith, h.long, front, before)) in
          let token : u ≡ get_or (take i ts) j u = here ∙ get_or-take (i + 1) ts j u (omega (arith, before)) ∙ sym (get_or-take i ts j u before) in
          subst (λ m. IsKept new m (text_of bytes u)) (sym same)
          (subst (λ l. IsKept l (get_or places j None) (text_of bytes u)) (sym adds.grown)
          (kept_more texts adds.more (get_or places j None) (text_of bytes u) (h.told j u (omega (arith, front, before)) token)))

      last : (j : ℕ) (u : Lexed) → j ≡ i → u ≡ get_or (take (i + 1) ts) j u → IsKept new (get_or (places ++ place ∷ []) j None) (text_of bytes u)
      last j u at here =
          let behind : j ≡ length places = omega (arith, at, h.long, front) in
          let same : get_or (places ++ place ∷ []) j None ≡ place = ap (λ k. get_or (places ++ place ∷ []) k None) behind ∙ get_or-append_seam places place [] None in
          let token : u ≡ t = here ∙ get_or-take (i + 1) ts j u (omega (arith, at)) ∙ ap (λ k. get_or ts k u) at ∙ same_token ts i u t lt ∙ sym is in
          subst (λ m. IsKept new m (text_of bytes u)) (sym same) (subst (λ v. IsKept new place (text_of bytes v)) (sym token) adds.told)

      said : (j : ℕ) (u : Lexed) → j < length (take (i + 1) ts) → u ≡ get_or (take (i + 1) ts) j u → IsKept new (get_or (places ++ place ∷ []) j None) (text_of bytes u)
      said j u inside here = by (leb_tells i j)
        where
          by : ((leb i j ≡ true) × (i ≤ j)) ⊎ ((leb i j ≡ false) × (j < i)) → IsKept new (get_or (places ++ place ∷ []) j None) (text_of bytes u)
          by (inl past) = last j u (omega (arith, past.1, inside, length-take-le (i + 1) ts (omega (arith, lt)))) here
          by (inr before) = old j u before.1 here

-- a token that stands there
pub token_at : (ts : List Lexed) (at : ℕ) → at < length ts → (t : Lexed) × (t ≡ get_or ts at t)
token_at [] at lt = absurd (omega (arith, lt))
token_at (t ∷ ts) zero lt = (t, refl)
token_at (t ∷ ts) (suc at) lt = token_at ts at (omega (arith, lt))

seen_at : (f : Lexed → Token) (ts : List Lexed) (e d : Token) (at : ℕ) (t : Lexed) → at < length ts → t ≡ get_or ts at t → get_or (map f ts ++ e ∷ []) at d ≡ f t
seen_at f [] e d at t lt is = absurd (omega (arith, lt))
seen_at f (x ∷ ts) e d zero t lt is = ap f (sym is)
seen_at f (x ∷ ts) e d (suc at) t lt is = seen_at f ts e d at t (omega (arith, lt)) is

-- the text of a token that has a place is what the grammar sees of it
pub has_text : (bytes : List ℕ) (ts : List Lexed) (places : List (Option ℕ)) (texts : List (List ℕ)) (at : ℕ) → AreTexts bytes ts places texts → at < length ts → IsKept texts (get_or places at None) (lexeme_at (input bytes ts) at).text
has_text bytes ts places texts at h lt =
    let t = token_at ts at lt in
    let same : (lexeme_at (input bytes ts) at).text ≡ text_of bytes t.0 = ap (λ x. x.1.text) (seen_at (seen bytes) ts _ _ at t.0 lt t.1) in
    subst (IsKept texts (get_or places at None)) (sym same) (h.told at t.0 lt t.1)

-- a token before the end of the text
pub before_end : (bytes : List ℕ) (ts : List Lexed) (script : List Token) (at : ℕ) → input bytes ts ≡ script → at + 1 < length script → at < length ts
before_end bytes ts script at is lt =
    let long : length (input bytes ts) ≡ length (map (seen bytes) ts) + 1 = length-append (map (seen bytes) ts) _ in
    let same : length (input bytes ts) ≡ length script = ap length is in
    let many : length (map (seen bytes) ts) ≡ length ts = length-map ts (seen bytes) in
    omega (arith, lt, long, same, many)

-- the place that is read, and its text
pub kept_at : (bytes : List ℕ) (ts : List Lexed) (places : List (Option ℕ)) (texts : List (List ℕ)) (script : List Token) (at place : ℕ) → input bytes ts ≡ script → AreTexts bytes ts places texts → at + 1 < length script → Some place ≡ get_or places at (Some place) → HasText texts place (lexeme_at script at).text
kept_at bytes ts places texts script at place is h lt here =
    let before = before_end bytes ts script at is lt in
    subst (λ s. HasText texts place (lexeme_at s at).text) is
    (subst (λ p. IsKept texts p (lexeme_at (input bytes ts) at).text) (sym (here ∙ get_or_default places at (Some place) None (omega (arith, before, h.long)))) (has_text bytes ts places texts at h before))

pub text_read : (texts : List (List ℕ)) (place : ℕ) (units x : List ℕ) → HasText texts place units → x ≡ get_or texts place x → x ≡ units
text_read texts place units x h is = is ∙ get_or_default texts place x [] h.inside ∙ h.same
