-- The tidied text is read as the program that it is the text of.
use Rattle.std.proofs.Common.{◌≡◌, ℕ, ◌≤◌, ◌<◌, List, [], ◌∷◌, ◌++◌, length, true, false, refl, ap, sym, ◌∙◌, arith, map, ◌+◌}
use Rattle.std.specs.Prelude.{nat_eq, if◌then◌else◌}
use Rattle.std.proofs.lemmas.Bool.Decides.{nat_tests}
use Rattle.exact_refusals.specs.Places.{signs, Within}
use Rattle.js_grammar.specs.declared.Sign.{Sign}
use Rattle.js_grammar.specs.declared.Sign.TheVariants as sign
use Rattle.js_grammar.specs.Grammar.{Token, Deep, IsProgram}
use Rattle.js_grammar.specs.Unplaced.{spellings, unplaced_stmts}
use Rattle.js_parser.specs.Signs.{sign_of, input}
use Rattle.js_print.specs.Tidy.{Tokens, stmts_tokens, tidy}
use Rattle.js_tokens.specs.declared.token.Token.{Token as Lexed}
use Rattle.js_tokens.specs.Value.{text_of}
use Rattle.js_tree.specs.Plain.{Stmts}
use Rattle.tidy_laws.specs.Laws.{the_end, Respells, IsTidied}
use Rattle.tidy_laws.specs.Proper.{IsProper}
use Rattle.tidy_laws.specs.Tame.{TameStmts}
use Rattle.tidy_laws.specs.Told.{UpTo, AnyDepth, Written, end, next, AreFit}
use Rattle.tidy_laws.proofs.Lexing.{read_back}
use Rattle.tidy_laws.proofs.Moving.{moved, moves}
use Rattle.tidy_laws.proofs.Places.{one_text}
use Rattle.tidy_laws.proofs.Proper.{any_proper, tame_proper}

-- ## Depths

within_written : {limit : ℕ} {Fit : Sign → List ℕ → Type 0} {words : Tokens} {ts rest : List Deep} → Written (UpTo limit) Fit words ts rest → Within limit rest → Within limit ts
within_written end w = w
within_written (next t fit le v) w = (le, within_written v w)

within_moved : (place : ℕ → ℕ) (limit : ℕ) (ts : List Deep) → Within limit ts → Within limit (moved place ts)
within_moved place limit [] w = tt
within_moved place limit (((s, x), d) ∷ ts) w = (w.0, within_moved place limit ts w.1)

-- ## Places

abbrev pairs : List Token → List (Sign × List ℕ)
pairs [] = []
pairs ((s, x) ∷ ts) = (s, x.text) ∷ pairs ts

-- the place of the token before that many others
abbrev place_in : List Token → ℕ → ℕ
place_in [] k = 0
place_in ((s, x) ∷ ts) k = if nat_eq k (length ts) then x.at else place_in ts k

abbrev first_of : Sign × List ℕ → List (Sign × List ℕ) → Sign × List ℕ
first_of p [] = p
first_of p (q ∷ qs) = q

abbrev rest_of : List (Sign × List ℕ) → List (Sign × List ℕ)
rest_of [] = []
rest_of (q ∷ qs) = qs

same_length : (ts : List Deep) (us : List Token) → spellings ts ≡ pairs us → length ts ≡ length us
same_length [] [] e = refl
same_length [] (u ∷ us) e = absurd (cc e)
same_length (((s, x), d) ∷ ts) [] e = absurd (cc e)
same_length (((s, x), d) ∷ ts) ((r, y) ∷ us) e = let l = same_length ts us (ap rest_of e) in omega (arith, l)

here : (k n : ℕ) (a b : ℕ) → k ≡ n → (if nat_eq k n then a else b) ≡ a
here k n a b e = let t : nat_eq k n ≡ true = grind (arith, nat_tests) in rw t refl

elsewhere : (k n : ℕ) (a b : ℕ) → k < n → (if nat_eq k n then a else b) ≡ b
elsewhere k n a b e = let t : nat_eq k n ≡ false = grind (arith, nat_tests) in rw t refl

-- tokens with these signs and texts, moved to these places, are these tokens
same_signs : (place : ℕ → ℕ) (ts : List Deep) (us : List Token) → spellings ts ≡ pairs us → ((k : ℕ) → k < length us → place k ≡ place_in us k) → signs (moved place ts) ≡ us
same_signs place [] [] e h = refl
same_signs place [] (u ∷ us) e h = absurd (cc e)
same_signs place (((s, x), d) ∷ ts) [] e h = absurd (cc e)
same_signs place (((s, x), d) ∷ ts) ((r, y) ∷ us) e h =
    let l = same_length ts us (ap rest_of e) in
    let at : place (length ts) ≡ y.at = h (length ts) (omega (arith, l)) ∙ here (length ts) (length us) y.at (place_in us (length ts)) l in
    let later = same_signs place ts us (ap rest_of e) (λ k lt. h k (omega (arith, lt)) ∙ elsewhere k (length us) y.at (place_in us k) lt) in
    let first : (s, x.text) ≡ (r, y.text) = ap (first_of (s, x.text)) e in
    λ i. ((first i).0, record { text = (first i).1; at = at i }) ∷ later i

pairs_input : (bytes : List ℕ) (ts : List Lexed) → pairs (input bytes ts) ≡ map (λ t. (sign_of bytes t, text_of bytes t)) ts ++ (sign.End, []) ∷ []
pairs_input bytes [] = refl
pairs_input bytes (t ∷ ts) = ap (λ l. (sign_of bytes t, text_of bytes t) ∷ l) (pairs_input bytes ts)

-- ## The whole

zero_least : (limit : ℕ) → 0 ≤ limit
zero_least limit = omega arith

tidied : (Allowed : ℕ → Type 0) (limit : ℕ) (p : Stmts) (r : Respells Allowed IsProper p) → Within limit r.tokens → IsTidied limit p
tidied Allowed limit p r w =
    let back = read_back Allowed (stmts_tokens p) r.tokens the_end r.written in
    let us = input (tidy p) back.lexed in
    let place = place_in us in
    let a = moves place r.spells in
    record {
      lexed = back.lexed;
      lexes = back.lexes;
      tree = a.tree;
      parsed = record {
        tokens = moved place r.tokens;
        same = same_signs place r.tokens us (back.same ∙ sym (pairs_input (tidy p) back.lexed)) (λ k lt. refl);
        within = within_moved place limit r.tokens w;
        spelled = (_, a.spells);
      };
      same = a.same ∙ r.same;
    }

-- some limit that tokens keep to
depth_sum : List Deep → ℕ
depth_sum [] = 0
depth_sum ((t, d) ∷ ts) = d + depth_sum ts

within_sum : (m : ℕ) (ts : List Deep) → depth_sum ts ≤ m → Within m ts
unfolding depth_sum
within_sum m [] h = tt
within_sum m ((t, d) ∷ ts) h = (omega (arith, h), within_sum m ts (omega (arith, h)))

pub any_tidied : (ts : List Deep) (p : Stmts) → IsProgram ts p → AreFit IsProper ts → (limit : ℕ) × IsTidied limit p
any_tidied ts p is f =
    let r = any_proper ts p is f in
    (depth_sum r.tokens, tidied AnyDepth (depth_sum r.tokens) p r (within_sum (depth_sum r.tokens) r.tokens (omega arith)))

pub tame_tidied : (limit : ℕ) (ts : List Deep) (p q : Stmts) → IsProgram ts q → Within limit ts → AreFit IsProper ts → unplaced_stmts q ≡ unplaced_stmts p → TameStmts p → IsTidied limit p
tame_tidied limit ts p q is w f e t =
    let r = tame_proper limit ts p q is w f e t in
    tidied (UpTo limit) limit p r (within_written r.written (zero_least limit, tt))

-- tidied once more it is the same
pub tidied_again : (limit : ℕ) (p : Stmts) (t : IsTidied limit p) → tidy t.tree ≡ tidy p
tidied_again limit p t = one_text t.tree p t.same
