-- Reading a text character by character.
use Rattle.std.proofs.Common.{◌≡◌, ℕ, ◌+◌, ◌<◌, ◌≤◌, List, [], ◌∷◌, ◌++◌, Some, None, length, drop, sym, subst, ap, ◌∙◌, arith, length-append, encode_utf8}
use Rattle.std.specs.Str.{IsUtf8, IsCharBoundary, chars}
use Rattle.std.specs.Char.{len_utf8}
use Rattle.std.proofs.lemmas.List.{length-drop}
use Rattle.std.proofs.lemmas.Str.{IsUtf8-drop, IsUtf8-past_char, chars_past_char, chars-nil, length-encode, len_utf8_bounds}
use Rattle.markup_grammar.specs.Signs.{sign_of}
use Rattle.std.proofs.Common.{Option}
use Rattle.markup_grammar.proofs.Places.{whole}
use Rattle.markup_grammar.specs.Machine.{State, begin, step, finished}
use Rattle.plain_tree.specs.Trees.{Trees}
use Rattle.plain_tree.specs.Plains.{Places}
use Rattle.markup_reader.specs.declared.fault.MarkupFault.{MarkupFault}
use Rattle.markup_reader.specs.declared.fault.MarkupFault.TheVariants as fault
use Rattle.markup_grammar.specs.Judge.{Reached, Stuck, goes_on, reads, judged, behind, ends}
use Rattle.markup_steps.specs.States.{spot}
use Rattle.markup_reader.specs.Faults.{IsStuck, IsJudged}

-- what is left of the text, and what comes of it
pub record Left (text rest : List ℕ) (st : State) (at : ℕ) : Type 0 where
  pub place : at + length rest ≡ length text
  pub utf8 : IsUtf8 rest
  pub same : reads st at (chars rest) ≡ reads begin 0 (chars text)

-- one character more
pub one_more : (text rest tail : List ℕ) (st next : State) (at c : ℕ) → Left text rest st at → rest ≡ encode_utf8 c ++ tail → step st (sign_of c) (spot c at) ≡ Some next → Left text tail next (at + len_utf8 c)
one_more text rest tail st next at c l e s = record {
  place = omega (arith, l.place, ap length e, length-append (encode_utf8 c) tail, length-encode c);
  utf8 = IsUtf8-past_char rest tail c l.utf8 e;
  same = sym (ap (λ o. goes_on o at (λ st2. reads st2 (at + len_utf8 c) (chars tail))) s) ∙ ap (reads st at) (sym (chars_past_char rest tail c l.utf8 e)) ∙ l.same;
}

-- raw text more
pub run_more : (text tail rest after : List ℕ) (st next : State) (at n : ℕ) → Left text tail st at → rest ≡ tail → IsCharBoundary rest n → reads st at (chars rest) ≡ reads next (at + n) (chars (drop n rest)) → after ≡ drop n rest → Left text after next (at + n)
run_more text tail rest after st next at n l e b r is =
    let k : Left text rest st at = subst (λ t. Left text t st at) (sym e) l in
    subst (λ t. Left text t next (at + n)) (sym is) (record {
      place = omega (arith, k.place, length-drop n rest, b.0);
      utf8 = IsUtf8-drop rest n k.utf8 b;
      same = sym r ∙ k.same;
    })

-- less is left
pub run_less : (before tail rest after : List ℕ) (c n : ℕ) → before ≡ encode_utf8 c ++ tail → rest ≡ tail → after ≡ drop n rest → length after < length before
run_less before tail rest after c n e r is = let k = len_utf8_bounds c in omega (arith, k.0, ap length e, length-append (encode_utf8 c) tail, length-encode c, ap length r, ap length is, length-drop n rest)

-- no character more
pub no_more : (text rest tail : List ℕ) (st : State) (at c : ℕ) → Left text rest st at → rest ≡ encode_utf8 c ++ tail → step st (sign_of c) (spot c at) ≡ None → reads begin 0 (chars text) ≡ Stuck at
no_more text rest tail st at c l e s = sym l.same ∙ ap (reads st at) (chars_past_char rest tail c l.utf8 e) ∙ ap (λ o. goes_on o at (λ st2. reads st2 (at + len_utf8 c) (chars tail))) s

-- the end
pub all_read : (text rest : List ℕ) (st : State) (at : ℕ) → Left text rest st at → length rest ≡ 0 → reads begin 0 (chars text) ≡ Reached st
all_read text [] st at l e = sym l.same ∙ ap (reads st at) chars-nil
all_read text (b ∷ rest) st at l e = absurd (omega (arith, e))

-- at the start
pub starts : (text : List ℕ) (st : State) → IsUtf8 text → st ≡ begin → Left text text st 0
starts text st u e = record { place = omega arith; utf8 = u; same = ap (λ s. reads s 0 (chars text)) e }

-- the place of a character is inside the text
pub inside : (text rest tail : List ℕ) (st : State) (at c : ℕ) → Left text rest st at → rest ≡ encode_utf8 c ++ tail → at + 1 ≤ length text
inside text rest tail st at c l e = let n = len_utf8_bounds c in omega (arith, l.place, ap length e, length-append (encode_utf8 c) tail, length-encode c, n.0)

pub whole_end : (text : List ℕ) (st : State) (end : Option (Trees Places)) → IsUtf8 text → reads begin 0 (chars text) ≡ Reached st → finished (Some st) ≡ end → judged text ≡ ends end (length text)
whole_end text st end u r f = whole text u ∙ ap (λ o. behind o (length text) []) r ∙ ap (λ o. ends o (length text)) f

pub whole_stuck : (text : List ℕ) (e : MarkupFault) → IsUtf8 text → IsStuck (reads begin 0 (chars text)) e → IsJudged (judged text) e
whole_stuck text (fault.BadMarkup at) u r = whole text u ∙ ap (λ o. behind o (length text) []) r
whole_stuck text fault.Memory u r = tt
