-- What is found means what the relations say.
use Rattle.std.proofs.Common.{◌≡◌, ℕ, List, [], ◌∷◌, Bool, true, false, Option, Some, None, refl, ap, ◌∙◌, arith}
use Rattle.std.specs.Prelude.{nat_eq, if◌then◌else◌}
use Rattle.std.proofs.lemmas.Bool.{cond_both, eqb-true}
use Rattle.std.proofs.lemmas.Bool.Decides.{nat_tests}
use Rattle.js_tokens.specs.declared.token.Token.{Token}
use Rattle.js_tokens.specs.declared.token.TokenKind.{TokenKind}
use Rattle.js_tokens.specs.declared.token.TokenKind.TheVariants as kind
use Rattle.js_tokens.specs.declared.class.Class.{Class}
use Rattle.js_tokens.specs.declared.class.Class.TheVariants as class
use Rattle.js_tokens.specs.Characters.{class_of, is_letter, is_digit, is_blank, is_in_line, is_part, Begins}
use Rattle.js_tokens.specs.Lexes.{begins_comment, Spelled, IsLongest, IsApart, Reads, Bad, FirstBad}
use Rattle.js_tokens.specs.Lexes.Reads.{blank, line_comment, comment}
use Rattle.js_tokens.specs.Lexes.Bad.{glued, unclosed, bad_escape, open_comment, other}
use Rattle.js_tokens.specs.Lexes.FirstBad.{past_blank, past_line_comment, past_comment}
use Rattle.js_tokens.specs.Scan as scan
use Rattle.js_tokens.specs.Scan.{after_run, after_exponent, after_assign, after_string, first_bad, after_comment, word_kind, Found, found_number, found_string, found_comment, found_slash, found_at, found}
use Rattle.js_tokens.proofs.Runs.{run_sound, run_stops}
use Rattle.js_tokens.proofs.Strings.{closed_sound, closed_none, bad_sound, comment_sound, comment_none}
use Rattle.js_tokens.proofs.Longest.{ClassIs, class_means, scan_of, scan_at, scan_string, scan_point, scan_slash, scanned_spelled, scanned_longest}

-- what is read, or bad, behind a gap is so before it
pub record IsGap (cs rest : List ℕ) : Type 0 where
  pub reads : (n : ℕ) (ts : List Token) → Reads n rest ts → Reads n cs ts
  pub fails : (place : List ℕ) → FirstBad rest place → FirstBad cs place

pub record IsToken (k : TokenKind) (cs rest : List ℕ) : Type 0 where
  pub spelled : Spelled k cs rest
  pub longest : IsLongest cs rest
  pub apart : IsApart k rest

abbrev pub Means : List ℕ → Found → Type 0
Means cs scan.End = cs ≡ []
Means cs (scan.Gap rest) = IsGap cs rest
Means cs (scan.Token k rest) = IsToken k cs rest
Means cs (scan.Bad place) = Bad cs place

token_means : (k : TokenKind) (cs rest : List ℕ) → scan_of cs ≡ scan.Token k rest → IsApart k rest → IsToken k cs rest
token_means k cs rest e apart = record { spelled = scanned_spelled k cs rest e; longest = scanned_longest k cs rest e; apart = apart }

word_means : (b : Bool) (cs rest : List ℕ) → scan_of cs ≡ scan.Token (word_kind b) rest → IsToken (word_kind b) cs rest
word_means true cs rest e = token_means kind.Reserved cs rest e tt
word_means false cs rest e = token_means kind.Name cs rest e tt

number_means : (cs rest : List ℕ) → scan_of cs ≡ scan.Token kind.Number rest → Means cs (found_number cs rest)
number_means cs rest e =
    cond_both (Begins is_part rest) (scan.Bad cs) (scan.Token kind.Number rest) (λ f. Means cs f)
    (λ on. glued (scanned_spelled kind.Number cs rest e) (scanned_longest kind.Number cs rest e) on)
    (λ off. token_means kind.Number cs rest e off)

scanned : (c : ℕ) (cs : List ℕ) (x : Class) → class_of c ≡ x → scan_of (c ∷ cs) ≡ scan_at x c cs
scanned c cs x e = ap (λ y. scan_at y c cs) e

string_means : (c : ℕ) (cs : List ℕ) (r p : Option (List ℕ)) → class_of c ≡ class.Quote → after_string c false cs ≡ r → first_bad c false cs ≡ p → Means (c ∷ cs) (found_string (c ∷ cs) r p)
string_means c cs None p q e f = unclosed q (λ rest. closed_none c cs rest e)
string_means c cs (Some rest) None q e f = token_means kind.Str (c ∷ cs) rest (scanned c cs class.Quote q ∙ (λ i. scan_string (e i) (f i))) tt
string_means c cs (Some rest) (Some place) q e f = bad_escape q (closed_sound c cs rest e) (bad_sound c cs place f)

point_means : (c : ℕ) (cs : List ℕ) (b : Bool) → class_of c ≡ class.Point → Begins is_digit cs ≡ b → Means (c ∷ cs) (if b then found_number (c ∷ cs) (after_exponent (after_run is_digit cs)) else scan.Token kind.Mark cs)
point_means c cs true q e = number_means (c ∷ cs) (after_exponent (after_run is_digit cs)) (scanned c cs class.Point q ∙ ap (λ b. scan_point b cs) e)
point_means c cs false q e = token_means kind.Mark (c ∷ cs) cs (scanned c cs class.Point q ∙ ap (λ b. scan_point b cs) e) tt

blank_class : (c : ℕ) → is_blank c ≡ true → class_of c ≡ class.Blank
blank_class c e =
    let no_letter : is_letter c ≡ false = grind (arith, nat_tests) in
    let no_digit : is_digit c ≡ false = grind (arith, nat_tests) in
    rw (no_letter, no_digit, e) refl

-- blanks are gaps, one by one
pub blanks_gap : (cs : List ℕ) → IsGap cs (after_run is_blank cs)
blanks_gap [] = record { reads = λ n ts h. h; fails = λ place h. h }
blanks_gap (c ∷ cs) =
    cond_both (is_blank c) (after_run is_blank cs) (c ∷ cs) (λ rest. IsGap (c ∷ cs) rest)
    (λ e.
    let more = blanks_gap cs in
    let q = blank_class c e in
    record { reads = λ n ts h. blank q (more.reads n ts h); fails = λ place h. past_blank q (more.fails place h) })
    (λ _. record { reads = λ n ts h. h; fails = λ place h. h })

line_means : (a b : ℕ) (cs : List ℕ) → class_of a ≡ class.Slash → b ≡ 47 → IsGap (a ∷ b ∷ cs) (after_run is_in_line cs)
line_means a b cs q e = record {
  reads = λ n ts. line_comment q e (run_sound is_in_line cs) (run_stops is_in_line cs);
  fails = λ place. past_line_comment q e (run_sound is_in_line cs) (run_stops is_in_line cs);
}

comment_means : (a b : ℕ) (cs : List ℕ) (r : Option (List ℕ)) → class_of a ≡ class.Slash → b ≡ 42 → after_comment cs ≡ r → Means (a ∷ b ∷ cs) (found_comment (a ∷ b ∷ cs) r)
comment_means a b cs None q e f = open_comment q e (λ rest. comment_none cs rest f)
comment_means a b cs (Some rest) q e f = record { reads = λ n ts. comment q e (comment_sound cs rest f); fails = λ place. past_comment q e (comment_sound cs rest f) }

slash_token : (c : ℕ) (cs : List ℕ) → class_of c ≡ class.Slash → begins_comment (c ∷ cs) ≡ false → IsToken kind.Mark (c ∷ cs) (after_assign cs)
slash_token c cs q bare = token_means kind.Mark (c ∷ cs) (after_assign cs) (scanned c cs class.Slash q ∙ ap (λ b. scan_slash b cs) bare) tt

slash_means : (c : ℕ) (cs : List ℕ) → class_of c ≡ class.Slash → nat_eq c 47 ≡ true → Means (c ∷ cs) (found_slash (c ∷ cs) cs)
slash_means c [] q s = slash_token c [] q (rw s refl)
slash_means c (d ∷ cs) q s =
    cond_both (nat_eq d 47) (scan.Gap (after_run is_in_line cs)) _ (λ f. Means (c ∷ d ∷ cs) f)
    (λ e. line_means c d cs q (eqb-true d 47 e))
    (λ e.
    cond_both (nat_eq d 42) (found_comment (c ∷ d ∷ cs) (after_comment cs)) (scan.Token kind.Mark (after_assign (d ∷ cs))) (λ f. Means (c ∷ d ∷ cs) f)
    (λ g. comment_means c d cs (after_comment cs) q (eqb-true d 42 g) refl)
    (λ g. slash_token c (d ∷ cs) q (rw (s, e, g) refl)))

means_at : (c : ℕ) (cs : List ℕ) (x : Class) → class_of c ≡ x → ClassIs x c → Means (c ∷ cs) (found_at x c cs)
means_at c cs class.Letter e h = word_means _ (c ∷ cs) (after_run is_part cs) (scanned c cs class.Letter e)
means_at c cs class.Digit e h = number_means (c ∷ cs) _ (scanned c cs class.Digit e)
means_at c cs class.Blank e h = record { reads = λ n ts. blank e; fails = λ place. past_blank e }
means_at c cs class.Quote e h = string_means c cs (after_string c false cs) (first_bad c false cs) e refl refl
means_at c cs class.Point e h = point_means c cs (Begins is_digit cs) e refl
means_at c cs class.Slash e h = slash_means c cs e h
means_at c cs class.Mark e h = token_means kind.Mark (c ∷ cs) _ (scanned c cs class.Mark e) tt
means_at c cs class.Other e h = other e

pub found_means : (cs : List ℕ) → Means cs (found cs)
found_means [] = refl
found_means (c ∷ cs) = means_at c cs (class_of c) refl (class_means c)
