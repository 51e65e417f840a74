-- A text has one reading or one bad place.
use Rattle.std.proofs.Common.{◌≡◌, ℕ, ◌-◌, List, [], ◌∷◌, true, false, Option, Some, None, refl, ap, ◌∙◌, subst, sym}
use Rattle.std.specs.Prelude.{nat_eq}
use Rattle.js_tokens.specs.declared.token.Token.{Token}
use Rattle.js_tokens.specs.declared.token.TokenKind.TheVariants as kind
use Rattle.js_tokens.specs.declared.class.Class.{Class}
use Rattle.js_tokens.specs.declared.class.Class.TheVariants as class
use Rattle.js_tokens.specs.Characters.{class_of, is_in_line, Begins}
use Rattle.js_tokens.specs.Lexes.{Run, Closed, Comment, size, Reads, Bad, FirstBad}
use Rattle.js_tokens.specs.Lexes.Reads.{done, blank, line_comment, comment, token}
use Rattle.js_tokens.specs.Lexes.Bad.{glued, unclosed, bad_escape, open_comment, other}
use Rattle.js_tokens.specs.Lexes.FirstBad.{bad, past_blank, past_line_comment, past_comment, past_token}
use Rattle.js_tokens.specs.Scan as scan
use Rattle.js_tokens.specs.Scan.{after_string, first_bad, after_comment, Found, found_string, found_comment, found_at, found}
use Rattle.js_tokens.proofs.Runs.{run_once}
use Rattle.js_tokens.proofs.Strings.{closed_sound, closed_found, bad_found, comment_sound, comment_found}
use Rattle.js_tokens.proofs.Longest.{token_scanned, found_scanned, token_found}

-- gaps and bad places are what is found

at_found : (c : ℕ) (cs : List ℕ) (x : Class) (f : Found) → class_of c ≡ x → found_at x c cs ≡ f → found (c ∷ cs) ≡ f
at_found c cs x f e h = subst (λ y. found_at y c cs ≡ f) (sym e) h

blank_found : (c : ℕ) (cs : List ℕ) → class_of c ≡ class.Blank → found (c ∷ cs) ≡ scan.Gap cs
blank_found c cs e = at_found c cs class.Blank (scan.Gap cs) e refl

line_found : (a b : ℕ) (cs rest : List ℕ) → class_of a ≡ class.Slash → b ≡ 47 → Run is_in_line cs rest → Begins is_in_line rest ≡ false → found (a ∷ b ∷ cs) ≡ scan.Gap rest
line_found a b cs rest e f r stop =
    let slash : nat_eq b 47 ≡ true = ap (λ x. nat_eq x 47) f in
    at_found a (b ∷ cs) class.Slash (scan.Gap rest) e (rw slash (ap scan.Gap (run_once r stop)))

star_found : (a b : ℕ) (cs : List ℕ) (f : Found) → class_of a ≡ class.Slash → b ≡ 42 → found_comment (a ∷ b ∷ cs) (after_comment cs) ≡ f → found (a ∷ b ∷ cs) ≡ f
star_found a b cs f e g h =
    let slash : nat_eq b 47 ≡ false = ap (λ x. nat_eq x 47) g in
    let star : nat_eq b 42 ≡ true = ap (λ x. nat_eq x 42) g in
    at_found a (b ∷ cs) class.Slash f e (rw (slash, star) h)

comment_gap : (a b : ℕ) (cs rest : List ℕ) → class_of a ≡ class.Slash → b ≡ 42 → Comment cs rest → found (a ∷ b ∷ cs) ≡ scan.Gap rest
comment_gap a b cs rest e f c = star_found a b cs (scan.Gap rest) e f (ap (found_comment (a ∷ b ∷ cs)) (comment_found c))

closed_option : (q : ℕ) (cs : List ℕ) (r : Option (List ℕ)) → after_string q false cs ≡ r → ((rest : List ℕ) → Closed q cs rest → ⊥) → r ≡ None
closed_option q cs None e h = refl
closed_option q cs (Some rest) e h = absurd (h rest (closed_sound q cs rest e))

comment_option : (cs : List ℕ) (r : Option (List ℕ)) → after_comment cs ≡ r → ((rest : List ℕ) → Comment cs rest → ⊥) → r ≡ None
comment_option cs None e h = refl
comment_option cs (Some rest) e h = absurd (h rest (comment_sound cs rest e))

bad_is_found : {cs place : List ℕ} → Bad cs place → found cs ≡ scan.Bad place
bad_is_found (glued {cs} {rest} s long on) = found_scanned kind.Number cs rest (token_scanned s long) ∙ rw on refl
bad_is_found (unclosed {quote = q} {cs} e h) = at_found q cs class.Quote (scan.Bad (q ∷ cs)) e (ap (λ r. found_string (q ∷ cs) r (first_bad q false cs)) (closed_option q cs (after_string q false cs) refl h))
bad_is_found (bad_escape {quote = q} {cs} {rest} {place} e c b) =
    let closed : after_string q false cs ≡ Some rest = closed_found c in
    let first : first_bad q false cs ≡ Some place = bad_found b in
    at_found q cs class.Quote (scan.Bad place) e (rw (closed, first) refl)
bad_is_found (open_comment {a} {b} {cs} e f h) = star_found a b cs (scan.Bad (a ∷ b ∷ cs)) e f (ap (found_comment (a ∷ b ∷ cs)) (comment_option cs (after_comment cs) refl h))
bad_is_found (other {c} {cs} e) = at_found c cs class.Other (scan.Bad (c ∷ cs)) e refl

-- one reading

abbrev ReadsAs : ℕ → Found → List ℕ → List Token → Type 0
ReadsAs n scan.End cs ts = ts ≡ []
ReadsAs n (scan.Gap rest) cs ts = Reads n rest ts
ReadsAs n (scan.Token k rest) cs ts = (us : List Token) × (ts ≡ record { kind = k; from = n - size cs; to = n - size rest } ∷ us) × Reads n rest us
ReadsAs n (scan.Bad place) cs ts = ⊥

reads_as : {n : ℕ} {cs : List ℕ} {ts : List Token} → Reads n cs ts → ReadsAs n (found cs) cs ts
reads_as done = refl
reads_as {n} (blank {c} {cs} {ts} e h) = subst (λ f. ReadsAs n f (c ∷ cs) ts) (sym (blank_found c cs e)) h
reads_as {n} (line_comment {a} {b} {cs} {rest} {ts} e f r stop h) = subst (λ g. ReadsAs n g (a ∷ b ∷ cs) ts) (sym (line_found a b cs rest e f r stop)) h
reads_as {n} (comment {a} {b} {cs} {rest} {ts} e f c h) = subst (λ g. ReadsAs n g (a ∷ b ∷ cs) ts) (sym (comment_gap a b cs rest e f c)) h
reads_as {n} (token {k} {cs} {rest} {ts} s long apart h) =
    subst (λ g. ReadsAs n g cs (record { kind = k; from = n - size cs; to = n - size rest } ∷ ts)) (sym (token_found s long apart)) (ts, refl, h)

reads_at : (n : ℕ) (cs : List ℕ) (ts : List Token) (f : Found) → found cs ≡ f → Reads n cs ts → ReadsAs n f cs ts
reads_at n cs ts f e h = subst (λ g. ReadsAs n g cs ts) e (reads_as h)

pub reads_once : {n : ℕ} {cs : List ℕ} {ts us : List Token} → Reads n cs ts → Reads n cs us → ts ≡ us
reads_once {n} {us = us} done g = sym (reads_at n [] us scan.End refl g)
reads_once {n} {us = us} (blank {c} {cs} e h) g = reads_once h (reads_at n (c ∷ cs) us (scan.Gap cs) (blank_found c cs e) g)
reads_once {n} {us = us} (line_comment {a} {b} {cs} {rest} e f r stop h) g = reads_once h (reads_at n (a ∷ b ∷ cs) us (scan.Gap rest) (line_found a b cs rest e f r stop) g)
reads_once {n} {us = us} (comment {a} {b} {cs} {rest} e f c h) g = reads_once h (reads_at n (a ∷ b ∷ cs) us (scan.Gap rest) (comment_gap a b cs rest e f c) g)
reads_once {n} {us = us} (token {k} {cs} {rest} {ts} s long apart h) g =
    let v = reads_at n cs us (scan.Token k rest) (token_found s long apart) g in
    let tails : ts ≡ v.0 = reads_once h (v.2) in
    ap (λ l. record { kind = k; from = n - size cs; to = n - size rest } ∷ l) tails ∙ sym (v.1)

-- a text with a bad place has no reading
pub bad_not : {n : ℕ} {cs place : List ℕ} {ts : List Token} → FirstBad cs place → Reads n cs ts → ⊥
bad_not {n} {cs} {place} {ts} (bad b) g = reads_at n cs ts (scan.Bad place) (bad_is_found b) g
bad_not {n} {ts = ts} (past_blank {c} {cs} e h) g = bad_not h (reads_at n (c ∷ cs) ts (scan.Gap cs) (blank_found c cs e) g)
bad_not {n} {ts = ts} (past_line_comment {a} {b} {cs} {rest} e f r stop h) g = bad_not h (reads_at n (a ∷ b ∷ cs) ts (scan.Gap rest) (line_found a b cs rest e f r stop) g)
bad_not {n} {ts = ts} (past_comment {a} {b} {cs} {rest} e f c h) g = bad_not h (reads_at n (a ∷ b ∷ cs) ts (scan.Gap rest) (comment_gap a b cs rest e f c) g)
bad_not {n} {ts = ts} (past_token {k} {cs} {rest} s long apart h) g = bad_not h (reads_at n cs ts (scan.Token k rest) (token_found s long apart) g).2

-- one bad place

abbrev BadAs : Found → List ℕ → Type 0
BadAs scan.End place = ⊥
BadAs (scan.Gap rest) place = FirstBad rest place
BadAs (scan.Token k rest) place = FirstBad rest place
BadAs (scan.Bad here) place = here ≡ place

bad_as : {cs place : List ℕ} → FirstBad cs place → BadAs (found cs) place
bad_as {cs} {place} (bad b) = subst (λ f. BadAs f place) (sym (bad_is_found b)) refl
bad_as {place = place} (past_blank {c} {cs} e h) = subst (λ f. BadAs f place) (sym (blank_found c cs e)) h
bad_as {place = place} (past_line_comment {a} {b} {cs} {rest} e f r stop h) = subst (λ g. BadAs g place) (sym (line_found a b cs rest e f r stop)) h
bad_as {place = place} (past_comment {a} {b} {cs} {rest} e f c h) = subst (λ g. BadAs g place) (sym (comment_gap a b cs rest e f c)) h
bad_as {place = place} (past_token {k} {cs} {rest} s long apart h) = subst (λ g. BadAs g place) (sym (token_found s long apart)) h

bad_at : (cs place : List ℕ) (f : Found) → found cs ≡ f → FirstBad cs place → BadAs f place
bad_at cs place f e h = subst (λ g. BadAs g place) e (bad_as h)

pub first_once : {cs place here : List ℕ} → FirstBad cs place → FirstBad cs here → place ≡ here
first_once {cs} {place} {here} (bad b) g = bad_at cs here (scan.Bad place) (bad_is_found b) g
first_once {here = here} (past_blank {c} {cs} e h) g = first_once h (bad_at (c ∷ cs) here (scan.Gap cs) (blank_found c cs e) g)
first_once {here = here} (past_line_comment {a} {b} {cs} {rest} e f r stop h) g = first_once h (bad_at (a ∷ b ∷ cs) here (scan.Gap rest) (line_found a b cs rest e f r stop) g)
first_once {here = here} (past_comment {a} {b} {cs} {rest} e f c h) g = first_once h (bad_at (a ∷ b ∷ cs) here (scan.Gap rest) (comment_gap a b cs rest e f c) g)
first_once {here = here} (past_token {k} {cs} {rest} s long apart h) g = first_once h (bad_at cs here (scan.Token k rest) (token_found s long apart) g)
