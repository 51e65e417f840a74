-- The tokens of a script, as the grammar sees them.
use Rattle.std.proofs.Common.{◌≡◌, ◌≢◌, ℕ, zero, suc, ◌<◌, List, [], ◌∷◌, ◌++◌, length, map, drop, get_or, refl, ap, sym, subst, arith, add-one, Bool, true, false, if◌then◌else◌}
use Rattle.std.proofs.lemmas.List.{length-map}
use Rattle.js_grammar.specs.declared.Sign.{Sign}
use Rattle.js_grammar.specs.declared.Sign.TheVariants as sign
use Rattle.js_grammar.specs.Grammar.{Token}
use Rattle.js_tokens.specs.declared.token.Token.{Token as Lexed}
use Rattle.js_tokens.specs.declared.token.TokenKind.{TokenKind}
use Rattle.js_tokens.specs.declared.token.TokenKind.TheVariants as kind
use Rattle.std.specs.Str.{bytes_eq}
use Rattle.js_cursor.specs.Signs.{look_up, words, marks, sign_as, sign_of, seen, input, IsScript}
use Rattle.js_cursor.specs.Reads.{Next}

-- a token among others, and one at their end
next_in : (f : Lexed → Token) (ts : List Lexed) (e d : Token) (at : ℕ) (s : Sign) → at < length ts → s ≡ get_or (map (λ t. (f t).0) ts) at s → drop at (map f ts ++ e ∷ []) ≡ (s, (get_or (map f ts ++ e ∷ []) at d).1) ∷ drop (suc at) (map f ts ++ e ∷ [])
next_in f [] e d at s lt is = absurd (omega (arith, lt))
next_in f (t ∷ ts) e d zero s lt is = ap (λ x. (x, (f t).1) ∷ (map f ts ++ e ∷ [])) (sym is)
next_in f (t ∷ ts) e d (suc at) s lt is = next_in f ts e d at s (omega (arith, lt)) is

pub in_tokens : (bytes : List ℕ) (ts : List Lexed) (signs : List Sign) (at : ℕ) → IsScript bytes ts signs → at < length signs → at < length ts
in_tokens bytes ts signs at h lt = omega (arith, lt, ap length h.signed, length-map ts (sign_of bytes))

pub token_next : (bytes : List ℕ) (ts : List Lexed) (signs : List Sign) (at : ℕ) (s : Sign) → IsScript bytes ts signs → at < length signs → s ≡ get_or signs at s → Next (input bytes ts) at s
token_next bytes ts signs at s h lt is = rw add-one (next_in (seen bytes) ts _ _ at s (in_tokens bytes ts signs at h lt) (subst (λ l. s ≡ get_or l at s) h.signed is))

-- no token is the end of the text
abbrev is_end : Sign → Bool
is_end sign.End = true
is_end _ = false

abbrev none_ends : List (List ℕ × Sign) → Bool
none_ends [] = true
none_ends (row ∷ rows) = if is_end row.1 then false else none_ends rows

not_end : (s : Sign) → is_end s ≡ false → s ≢ sign.End
not_end s h e = let ends : is_end s ≡ true = ap is_end e in cc

found : (b : Bool) (here there : Sign) → is_end here ≡ false → is_end there ≡ false → is_end (if b then here else there) ≡ false
found true here there p q = p
found false here there p q = q

not_first : (b c : Bool) → (if b then false else c) ≡ true → (b ≡ false) × (c ≡ true)
not_first true c h = cc
not_first false c h = (refl, h)

looked_up : (rows : List (List ℕ × Sign)) (text : List ℕ) → none_ends rows ≡ true → is_end (look_up rows text) ≡ false
looked_up [] text h = refl
looked_up (row ∷ rows) text h =
    let parts = not_first (is_end row.1) (none_ends rows) h in
    found (bytes_eq text row.0) row.1 (look_up rows text) (parts.0) (looked_up rows text (parts.1))

words_end : none_ends words ≡ true
unfolding words
words_end = refl

marks_end : none_ends marks ≡ true
unfolding marks
marks_end = refl

sign_as_end : (k : TokenKind) (text : List ℕ) → is_end (sign_as k text) ≡ false
sign_as_end kind.Name text = refl
sign_as_end kind.Number text = refl
sign_as_end kind.Str text = refl
sign_as_end kind.Reserved text = looked_up words text words_end
sign_as_end kind.Mark text = looked_up marks text marks_end

signs_end : (bytes : List ℕ) (ts : List Lexed) (at : ℕ) (s : Sign) → at < length ts → s ≡ get_or (map (sign_of bytes) ts) at s → is_end s ≡ false
signs_end bytes [] at s lt is = absurd (omega (arith, lt))
signs_end bytes (t ∷ ts) zero s lt is = subst (λ x. is_end x ≡ false) (sym is) (sign_as_end t.kind _)
signs_end bytes (t ∷ ts) (suc at) s lt is = signs_end bytes ts at s (omega (arith, lt)) is

pub token_no_end : (bytes : List ℕ) (ts : List Lexed) (signs : List Sign) (at : ℕ) (s : Sign) → IsScript bytes ts signs → at < length signs → s ≡ get_or signs at s → s ≢ sign.End
token_no_end bytes ts signs at s h lt is = not_end s (signs_end bytes ts at s (in_tokens bytes ts signs at h lt) (subst (λ l. s ≡ get_or l at s) h.signed is))
