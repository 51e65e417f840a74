-- Strings and comments: what is found is what the relations say.
use Rattle.std.proofs.Common.{◌≡◌, ℕ, List, [], ◌∷◌, Bool, true, false, Option, Some, None, refl, ap, inl, inr, subst, sym}
use Rattle.std.specs.Prelude.{nat_eq, ◌&&◌, ◌||◌, if◌then◌else◌}
use Rattle.std.proofs.lemmas.Bool.{eqb-true, or_cases, and_parts, both_ways, false_from_ne_true, false≢true}
use Rattle.js_tokens.specs.Characters.{is_line_end, Starts}
use Rattle.js_tokens.specs.Lexes.{Part, Close, LineEnd, Backslash, Plain, part_of, is_escape, Inside, Closed, BadEscape, Comment}
use Rattle.js_tokens.specs.Lexes.Inside.{close, plain, escape}
use Rattle.js_tokens.specs.Lexes.Closed.{last, single, pair}
use Rattle.js_tokens.specs.Lexes.BadEscape.{here, past_plain, past_escape}
use Rattle.js_tokens.specs.Lexes.Comment.{ends, skip}
use Rattle.js_tokens.specs.Scan.{tail, is_backslash, string_step, after_string, bad_step, first_bad, after_comment}
use Rattle.js_tokens.proofs.Runs.{Suffix, whole, next}

-- ends

pub inside_suffix : {q : ℕ} {cs rest : List ℕ} → Inside q cs rest → Suffix cs rest
inside_suffix (close e) = next whole
inside_suffix (plain e i) = next (inside_suffix i)
inside_suffix (escape e f i) = next (next (inside_suffix i))

-- an escape does not stand before a line end
line_or : (P : ℕ → Type 0) → P 10 → P 13 → P 0x2028 → P 0x2029 → (c : ℕ) → is_line_end c ≡ true → P c
line_or P a b d e c h =
    elim (or_cases (nat_eq c 10 || nat_eq c 13 || nat_eq c 0x2028) (nat_eq c 0x2029) h) [
      | inl f ↦
          elim (or_cases (nat_eq c 10 || nat_eq c 13) (nat_eq c 0x2028) f) [
            | inl g ↦ elim (or_cases (nat_eq c 10) (nat_eq c 13) g) [ inl i ↦ subst P (sym (eqb-true c 10 i)) a | inr i ↦ subst P (sym (eqb-true c 13 i)) b ]
            | inr i ↦ subst P (sym (eqb-true c 0x2028 i)) d
          ]
      | inr i ↦ subst P (sym (eqb-true c 0x2029 i)) e
    ]

no_line_escape : (c : ℕ) (cs : List ℕ) → is_line_end c ≡ true → is_escape (c ∷ cs) ≡ false
no_line_escape c cs e = line_or (λ x. is_escape (x ∷ cs) ≡ false) refl refl refl refl c e

pub escape_no_line : (c : ℕ) (cs : List ℕ) → is_escape (c ∷ cs) ≡ true → is_line_end c ≡ false
escape_no_line c cs e = false_from_ne_true (is_line_end c) (λ h. both_ways (is_escape (c ∷ cs)) (no_line_escape c cs h) e)

-- what is found of a string

pub closed_found : {q : ℕ} {cs rest : List ℕ} → Closed q cs rest → after_string q false cs ≡ Some rest
closed_found (last e) = rw e refl
closed_found (single e c) = rw e (closed_found c)
closed_found (pair e f c) = rw (e, f) (closed_found c)

-- a good string is closed
inside_closed : {q : ℕ} {cs rest : List ℕ} → Inside q cs rest → Closed q cs rest
inside_closed (close e) = last e
inside_closed (plain e i) = single e (inside_closed i)
inside_closed (escape {c} {d} {cs} e f i) = pair e (escape_no_line d cs f) (inside_closed i)

first_none : {q : ℕ} {cs rest : List ℕ} → Inside q cs rest → first_bad q false cs ≡ None
first_none (close e) = rw e refl
first_none (plain e i) = rw e (first_none i)
first_none (escape e f i) = rw (e, f) (first_none i)

pub bad_found : {q : ℕ} {cs place : List ℕ} → BadEscape q cs place → first_bad q false cs ≡ Some place
bad_found (here e bad) = rw (e, bad) refl
bad_found (past_plain e b) = rw e (bad_found b)
bad_found (past_escape e good b) = rw (e, good) (bad_found b)

-- and the other way round

abbrev ClosedAt : ℕ → Bool → List ℕ → List ℕ → Type 0
ClosedAt q false cs rest = Closed q cs rest
ClosedAt q true [] rest = ⊥
ClosedAt q true (d ∷ ds) rest = (is_line_end d ≡ false) × Closed q ds rest

pair_at : (q c : ℕ) (cs rest : List ℕ) → part_of q c ≡ Backslash → ClosedAt q true cs rest → Closed q (c ∷ cs) rest
pair_at q c [] rest is h = absurd h
pair_at q c (d ∷ ds) rest is h = pair is (h.0) (h.1)

closed_part : (q c : ℕ) (cs rest : List ℕ) (p : Part) → part_of q c ≡ p → string_step p cs (after_string q (is_backslash p) cs) ≡ Some rest → ((e : Bool) → after_string q e cs ≡ Some rest → ClosedAt q e cs rest) → Closed q (c ∷ cs) rest
closed_part q c cs rest Close is h ih = let same : cs ≡ rest = cc in subst (λ r. Closed q (c ∷ cs) r) same (last is)
closed_part q c cs rest LineEnd is h ih = absurd (cc h)
closed_part q c cs rest Plain is h ih = single is (ih false h)
closed_part q c cs rest Backslash is h ih = pair_at q c cs rest is (ih true h)

no_line : (b : Bool) (x : Option (List ℕ)) (rest : List ℕ) → (if b then None else x) ≡ Some rest → (b ≡ false) × (x ≡ Some rest)
no_line true x rest h = absurd (cc h)
no_line false x rest h = (refl, h)

closed_from : (q : ℕ) (e : Bool) (cs rest : List ℕ) → after_string q e cs ≡ Some rest → ClosedAt q e cs rest
closed_from q true [] rest h = cc
closed_from q false [] rest h = absurd (cc h)
closed_from q true (c ∷ cs) rest h = let n = no_line (is_line_end c) (after_string q false cs) rest h in (n.0, closed_from q false cs rest (n.1))
closed_from q false (c ∷ cs) rest h = closed_part q c cs rest (part_of q c) refl h (λ e. closed_from q e cs rest)

pub closed_sound : (q : ℕ) (cs rest : List ℕ) → after_string q false cs ≡ Some rest → Closed q cs rest
closed_sound q cs rest h = closed_from q false cs rest h

pub closed_none : (q : ℕ) (cs rest : List ℕ) → after_string q false cs ≡ None → Closed q cs rest → ⊥
closed_none q cs rest h c = let e = closed_found c in cc

abbrev BadAt : ℕ → Bool → List ℕ → List ℕ → Type 0
BadAt q false cs place = BadEscape q cs place
BadAt q true [] place = ⊥
BadAt q true (d ∷ ds) place = BadEscape q ds place

bad_pair : (q c : ℕ) (cs place : List ℕ) → part_of q c ≡ Backslash → is_escape cs ≡ true → BadAt q true cs place → BadEscape q (c ∷ cs) place
bad_pair q c [] place is good h = absurd h
bad_pair q c (d ∷ ds) place is good h = past_escape is good h

bad_part : (q c : ℕ) (cs place : List ℕ) (p : Part) (b : Bool) → part_of q c ≡ p → is_escape cs ≡ b → bad_step p b (c ∷ cs) (first_bad q (is_backslash p) cs) ≡ Some place → ((e : Bool) → first_bad q e cs ≡ Some place → BadAt q e cs place) → BadEscape q (c ∷ cs) place
bad_part q c cs place Close b is good h ih = absurd (cc h)
bad_part q c cs place LineEnd b is good h ih = absurd (cc h)
bad_part q c cs place Plain b is good h ih = past_plain is (ih false h)
bad_part q c cs place Backslash true is good h ih = bad_pair q c cs place is good (ih true h)
bad_part q c cs place Backslash false is bad h ih = let same : c ∷ cs ≡ place = cc in subst (λ r. BadEscape q (c ∷ cs) r) same (here is bad)

bad_from : (q : ℕ) (e : Bool) (cs place : List ℕ) → first_bad q e cs ≡ Some place → BadAt q e cs place
bad_from q true [] place h = cc
bad_from q false [] place h = absurd (cc h)
bad_from q true (c ∷ cs) place h = bad_from q false cs place h
bad_from q false (c ∷ cs) place h = bad_part q c cs place (part_of q c) (is_escape cs) refl refl h (λ e. bad_from q e cs place)

pub bad_sound : (q : ℕ) (cs place : List ℕ) → first_bad q false cs ≡ Some place → BadEscape q cs place
bad_sound q cs place h = bad_from q false cs place h

abbrev InsideAt : ℕ → Bool → List ℕ → List ℕ → Type 0
InsideAt q false cs rest = Inside q cs rest
InsideAt q true [] rest = ⊥
InsideAt q true (d ∷ ds) rest = Inside q ds rest

inside_pair : (q c : ℕ) (cs rest : List ℕ) → part_of q c ≡ Backslash → is_escape cs ≡ true → InsideAt q true cs rest → Inside q (c ∷ cs) rest
inside_pair q c [] rest is good h = absurd h
inside_pair q c (d ∷ ds) rest is good h = escape is good h

inside_part : (q c : ℕ) (cs rest : List ℕ) (p : Part) (b : Bool) → part_of q c ≡ p → is_escape cs ≡ b → string_step p cs (after_string q (is_backslash p) cs) ≡ Some rest → bad_step p b (c ∷ cs) (first_bad q (is_backslash p) cs) ≡ None → ((e : Bool) → after_string q e cs ≡ Some rest → first_bad q e cs ≡ None → InsideAt q e cs rest) → Inside q (c ∷ cs) rest
inside_part q c cs rest Close b is good h g ih = let same : cs ≡ rest = cc in subst (λ r. Inside q (c ∷ cs) r) same (close is)
inside_part q c cs rest LineEnd b is good h g ih = absurd (cc h)
inside_part q c cs rest Plain b is good h g ih = plain is (ih false h g)
inside_part q c cs rest Backslash true is good h g ih = inside_pair q c cs rest is good (ih true h g)
inside_part q c cs rest Backslash false is bad h g ih = absurd (cc g)

inside_from : (q : ℕ) (e : Bool) (cs rest : List ℕ) → after_string q e cs ≡ Some rest → first_bad q e cs ≡ None → InsideAt q e cs rest
inside_from q true [] rest h g = cc
inside_from q false [] rest h g = absurd (cc h)
inside_from q true (c ∷ cs) rest h g = let n = no_line (is_line_end c) (after_string q false cs) rest h in inside_from q false cs rest (n.1) g
inside_from q false (c ∷ cs) rest h g = inside_part q c cs rest (part_of q c) (is_escape cs) refl refl h g (λ e. inside_from q e cs rest)

pub inside_sound : (q : ℕ) (cs rest : List ℕ) → after_string q false cs ≡ Some rest → first_bad q false cs ≡ None → Inside q cs rest
inside_sound q cs rest h g = inside_from q false cs rest h g

pub inside_found : {q : ℕ} {cs rest : List ℕ} → Inside q cs rest → (after_string q false cs ≡ Some rest) × (first_bad q false cs ≡ None)
inside_found i = (closed_found (inside_closed i), first_none i)

-- comments

pub comment_suffix : {cs rest : List ℕ} → Comment cs rest → Suffix cs rest
comment_suffix (ends e f) = next (next whole)
comment_suffix (skip e c) = next (comment_suffix c)

pub comment_found : {cs rest : List ℕ} → Comment cs rest → after_comment cs ≡ Some rest
comment_found (ends {a} {b} {rest} e f) =
    let star : nat_eq a 42 ≡ true = ap (λ x. nat_eq x 42) e in
    let slash : nat_eq b 47 ≡ true = ap (λ x. nat_eq x 47) f in
    rw (star, slash) refl
comment_found (skip e c) = rw e (comment_found c)

comment_end : (c : ℕ) (cs : List ℕ) → (nat_eq c 42 && Starts 47 cs) ≡ true → Comment (c ∷ cs) (tail cs)
comment_end c [] e = absurd (false≢true (and_parts (nat_eq c 42) false e).1)
comment_end c (d ∷ ds) e = let p = and_parts (nat_eq c 42) (nat_eq d 47) e in ends (eqb-true c 42 (p.0)) (eqb-true d 47 (p.1))

comment_step : (c : ℕ) (cs rest : List ℕ) (b : Bool) → (nat_eq c 42 && Starts 47 cs) ≡ b → (if b then Some (tail cs) else after_comment cs) ≡ Some rest → (after_comment cs ≡ Some rest → Comment cs rest) → Comment (c ∷ cs) rest
comment_step c cs rest true is h ih = let same : tail cs ≡ rest = cc in subst (λ r. Comment (c ∷ cs) r) same (comment_end c cs is)
comment_step c cs rest false is h ih = skip is (ih h)

pub comment_sound : (cs rest : List ℕ) → after_comment cs ≡ Some rest → Comment cs rest
comment_sound [] rest h = absurd (cc h)
comment_sound (c ∷ cs) rest h = comment_step c cs rest (nat_eq c 42 && Starts 47 cs) refl h (comment_sound cs rest)

pub comment_none : (cs rest : List ℕ) → after_comment cs ≡ None → Comment cs rest → ⊥
comment_none cs rest h c = let e = comment_found c in cc
