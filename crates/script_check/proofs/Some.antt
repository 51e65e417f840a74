-- A script has a verdict.
use Rattle.std.proofs.Common.{◌≡◌, ℕ, zero, suc, ◌<◌, ◌≤◌, ◌-◌, List, [], ◌∷◌, length, take, refl, sym, ap, subst, ◌∙◌, arith, inl, inr, ◌⊎◌, Bool, true, false, Option, Some, None}
use Rattle.std.specs.Prelude.{if◌then◌else◌}
use Rattle.std.specs.Str.{IsUtf8, IsValidUpTo, is_utf8, chars}
use Rattle.std.proofs.lemmas.Str.{IsUtf8-nil, IsUtf8-from_is_utf8, is_utf8-from_IsUtf8}
use Rattle.std.proofs.lemmas.List.{take_all}
use Rattle.js_tokens.specs.declared.token.Token.{Token}
use Rattle.js_tokens.specs.declared.token.TokenKind.{TokenKind}
use Rattle.js_tokens.specs.declared.token.TokenKind.TheVariants as kinds
use Rattle.js_tokens.specs.declared.class.Class.{Class}
use Rattle.js_tokens.specs.declared.class.Class.TheVariants as class
use Rattle.js_tokens.specs.Characters.{class_of, is_in_line, is_digit, is_part, Begins, Starts}
use Rattle.js_tokens.specs.Lexes.{Lexes, BadPlace, Reads, FirstBad, size}
use Rattle.js_tokens.specs.Lexes.BadPlace.{ill_formed, bad_token}
use Rattle.js_tokens.specs.Lexes.Reads.{done, token}
use Rattle.js_tokens.specs.Lexes.FirstBad.{bad, past_token}
use Rattle.js_tokens.specs.Scan as scan
use Rattle.js_tokens.specs.Scan.{tail, after_run, after_number, after_exponent, after_assign, after_string, first_bad, after_comment, Found, found_number, found_string, found_comment, found_at, found}
use Rattle.js_tokens.proofs.Fronts.{IsGap, IsToken, Means, found_means}
use Rattle.js_tokens.proofs.Runs.{suffix_length, run_suffix, run_sound}
use Rattle.js_tokens.proofs.Strings.{comment_suffix, comment_sound}
use Rattle.js_tree.specs.Plain.{Stmts}
use Rattle.js_grammar.specs.Grammar.{IsProgram}
use Rattle.js_grammar.proofs.Fronts.{answer}
use Rattle.js_parser.specs.Signs.{input}
use Rattle.js_parser.specs.Reads.{lexeme_at}
use Rattle.exact_refusals.specs.Places.{HasTree, IsSyntaxAt, IsTooDeepAt}
use Rattle.first_breach.proofs.Least.{order, no_first}
use Rattle.adsafe_rules.specs.declared.scope.Scope.{Scope}
use Rattle.adsafe_rules.specs.declared.scope.Scope.TheVariants as position
use Rattle.adsafe_rules.specs.Program.{Breaks}
use Rattle.script_check.specs.Script as script
use Rattle.script_check.specs.Script.{TextFirst, ScriptFirst, IsCleanScript, syntax, too_deep, unread, broken}
use Rattle.script_check.specs.Verdict.{HasProgram}
use Rattle.script_check.specs.Line.{IsLine, IsTidied, accepted, refused, tidied, not_tidied}
use Rattle.script_check.proofs.Counts.{spelled_shorter}

-- ## UTF-8

module _ (bytes : List ℕ) (ill : is_utf8 bytes ≡ false) where
  -- no front beyond m is UTF-8
  abbrev Past : ℕ → Type 0
  Past m = (k : ℕ) → m < k → IsUtf8 (take k bytes) → ⊥

  past_one : (m : ℕ) → is_utf8 (take (suc m) bytes) ≡ false → Past (suc m) → Past m
  past_one m e past k lt u = by (order k (suc m))
    where
      by : (k < suc m) ⊎ ((suc m < k) ⊎ (k ≡ suc m)) → ⊥
      by (inl l) = absurd (omega (arith, l, lt))
      by (inr (inl l)) = past k l u
      by (inr (inr same)) = let yes = is_utf8-from_IsUtf8 (take (suc m) bytes) (subst (λ n. IsUtf8 (take n bytes)) same u) in let both : true ≡ false = sym yes ∙ e in cc

  longest_step : (m : ℕ) → suc m < length bytes → Past (suc m) → (Past m → (n : ℕ) × IsValidUpTo bytes n) → (b : Bool) → is_utf8 (take (suc m) bytes) ≡ b → (n : ℕ) × IsValidUpTo bytes n
  longest_step m lt past shorter true e = (suc m, record { short = lt; front = IsUtf8-from_is_utf8 (take (suc m) bytes) e; longest = past })
  longest_step m lt past shorter false e = shorter (past_one m e past)

  longest : (m : ℕ) → m < length bytes → Past m → (n : ℕ) × IsValidUpTo bytes n
  longest zero lt past = (0, record { short = lt; front = IsUtf8-nil; longest = past })
  longest (suc m) lt past = longest_step m lt past (longest m (omega (arith, lt))) (is_utf8 (take (suc m) bytes)) refl

  past_all : (m : ℕ) → length bytes ≤ suc m → Past m
  past_all m le k lt u =
      let all : take k bytes ≡ bytes = take_all k bytes (omega (arith, le, lt)) in
      let yes = is_utf8-from_IsUtf8 bytes (subst IsUtf8 all u) in
      let both : true ≡ false = sym yes ∙ ill in
      cc

-- bytes are UTF-8, or some front of them is the longest that is
pub utf8_or_not : (bytes : List ℕ) → IsUtf8 bytes ⊎ ((n : ℕ) × IsValidUpTo bytes n)
utf8_or_not [] = inl IsUtf8-nil
utf8_or_not (b ∷ bs) = by (is_utf8 (b ∷ bs)) refl
  where
    by : (t : Bool) → is_utf8 (b ∷ bs) ≡ t → IsUtf8 (b ∷ bs) ⊎ ((n : ℕ) × IsValidUpTo (b ∷ bs) n)
    by true e = inl (IsUtf8-from_is_utf8 (b ∷ bs) e)
    by false e = inr (longest (b ∷ bs) e (length bs) (omega arith) (past_all (b ∷ bs) e (length bs) (omega arith)))

-- ## Tokens

-- what is behind a gap is shorter
no_number : (cs rest after : List ℕ) (b : Bool) → (if b then scan.Bad cs else scan.Token kinds.Number after) ≡ scan.Gap rest → ⊥
no_number cs rest after true e = cc
no_number cs rest after false e = cc

no_string : (here rest : List ℕ) (r p : Option (List ℕ)) → found_string here r p ≡ scan.Gap rest → ⊥
no_string here rest None p e = cc
no_string here rest (Some r) None e = cc
no_string here rest (Some r) (Some p) e = cc

no_point : (c : ℕ) (cs rest : List ℕ) (b : Bool) → (if b then found_number (c ∷ cs) (after_exponent (after_run is_digit cs)) else scan.Token kinds.Mark cs) ≡ scan.Gap rest → ⊥
no_point c cs rest true e = no_number (c ∷ cs) rest (after_exponent (after_run is_digit cs)) (Begins is_part (after_exponent (after_run is_digit cs))) e
no_point c cs rest false e = cc

tail_short : (cs : List ℕ) → length (tail cs) ≤ length cs
tail_short [] = omega arith
tail_short (c ∷ cs) = omega arith

comment_gap : (here cs rest : List ℕ) (r : Option (List ℕ)) → after_comment cs ≡ r → found_comment here r ≡ scan.Gap rest → length rest ≤ length cs
comment_gap here cs rest None e f = cc
comment_gap here cs rest (Some r) e f =
    let same : r ≡ rest = cc in
    let l = suffix_length (comment_suffix (comment_sound cs r e)) in
    omega (arith, l, ap length same)

slash_gap : (here cs rest : List ℕ) (a b : Bool) → (if a then scan.Gap (after_run is_in_line (tail cs)) else (if b then found_comment here (after_comment (tail cs)) else scan.Token kinds.Mark (after_assign cs))) ≡ scan.Gap rest → length rest ≤ length cs
slash_gap here cs rest true b e =
    let same : after_run is_in_line (tail cs) ≡ rest = cc in
    let l = suffix_length (run_suffix (run_sound is_in_line (tail cs))) in
    omega (arith, l, ap length same, tail_short cs)
slash_gap here cs rest false true e = let l = comment_gap here (tail cs) rest (after_comment (tail cs)) refl e in omega (arith, l, tail_short cs)
slash_gap here cs rest false false e = cc

gap_short : (c : ℕ) (cs rest : List ℕ) (x : Class) → found_at x c cs ≡ scan.Gap rest → length rest ≤ length cs
gap_short c cs rest class.Letter e = cc
gap_short c cs rest class.Digit e = absurd (no_number (c ∷ cs) rest (after_number c cs) (Begins is_part (after_number c cs)) e)
gap_short c cs rest class.Blank e = let same : cs ≡ rest = cc in omega (arith, ap length same)
gap_short c cs rest class.Quote e = absurd (no_string (c ∷ cs) rest (after_string c false cs) (first_bad c false cs) e)
gap_short c cs rest class.Point e = absurd (no_point c cs rest (Begins is_digit cs) e)
gap_short c cs rest class.Slash e = slash_gap (c ∷ cs) cs rest (Starts 47 cs) (Starts 42 cs) e
gap_short c cs rest class.Mark e = cc
gap_short c cs rest class.Other e = cc

-- characters are tokens and gaps, up to their end or to a bad place
abbrev Reading : ℕ → List ℕ → Type 0
Reading n cs = ((ts : List Token) × Reads n cs ts) ⊎ ((place : List ℕ) × FirstBad cs place)

behind_gap : (n : ℕ) (cs rest : List ℕ) → IsGap cs rest → Reading n rest → Reading n cs
behind_gap n cs rest m (inl r) = inl (r.0, m.reads n r.0 r.1)
behind_gap n cs rest m (inr b) = inr (b.0, m.fails b.0 b.1)

behind_token : (n : ℕ) (kind : TokenKind) (cs rest : List ℕ) → IsToken kind cs rest → Reading n rest → Reading n cs
behind_token n kind cs rest m (inl r) = inl (record { kind = kind; from = n - size cs; to = n - size rest } ∷ r.0, token m.spelled m.longest m.apart r.1)
behind_token n kind cs rest m (inr b) = inr (b.0, past_token m.spelled m.longest m.apart b.1)

reading_step : (n k c : ℕ) (cs : List ℕ) → length (c ∷ cs) ≤ suc k → ((rest : List ℕ) → length rest ≤ k → Reading n rest) → (f : Found) → found (c ∷ cs) ≡ f → Means (c ∷ cs) f → Reading n (c ∷ cs)
reading_step n k c cs le shorter scan.End e m = absurd (let no : c ∷ cs ≡ [] = m in cc)
reading_step n k c cs le shorter (scan.Gap rest) e m = behind_gap n (c ∷ cs) rest m (shorter rest (let l = gap_short c cs rest (class_of c) e in omega (arith, l, le)))
reading_step n k c cs le shorter (scan.Token kind rest) e m = behind_token n kind (c ∷ cs) rest m (shorter rest (let l = spelled_shorter m.spelled in omega (arith, l, le)))
reading_step n k c cs le shorter (scan.Bad place) e m = inr (place, bad m)

some_reading : (n k : ℕ) (cs : List ℕ) → length cs ≤ k → Reading n cs
some_reading n k [] le = inl ([], done)
some_reading n zero (c ∷ cs) le = absurd (omega (arith, le))
some_reading n (suc k) (c ∷ cs) le = reading_step n k c cs le (some_reading n k) (found (c ∷ cs)) refl (found_means (c ∷ cs))

-- bytes are tokens, or have a bad place
lexes_or_not : (bytes : List ℕ) → ((ts : List Token) × Lexes bytes ts) ⊎ ((at : ℕ) × BadPlace bytes at)
lexes_or_not bytes = elim (utf8_or_not bytes) [
  | inl u ↦ elim (some_reading (length bytes) (length (chars bytes)) (chars bytes) (omega arith)) [
    | inl r ↦ inl (r.0, (u, r.1))
    | inr b ↦ inr (length bytes - size b.0, bad_token b.0 u b.1 refl)
  ]
  | inr v ↦ inr (v.0, ill_formed v.1)
]

-- ## Scripts

-- a text has a program, or a rule that it breaks for want of one
pub program_or_not : (bytes : List ℕ) → ((program : Stmts) × HasProgram bytes program) ⊎ ((rule : ℕ) × (at : ℕ) × TextFirst bytes rule at)
program_or_not bytes = elim (lexes_or_not bytes) [
  | inl l ↦ by l.0 l.1 (answer 200 (input bytes l.0))
  | inr b ↦ inr (1, b.0, script.bad_token b.1)
]
  where
    by : (ts : List Token) → Lexes bytes ts → ((p : Stmts) × HasTree IsProgram 200 (input bytes ts) p) ⊎ ((at : ℕ) × IsSyntaxAt IsProgram 200 (input bytes ts) at) ⊎ ((at : ℕ) × IsTooDeepAt IsProgram 200 (input bytes ts) at) → ((program : Stmts) × HasProgram bytes program) ⊎ ((rule : ℕ) × (at : ℕ) × TextFirst bytes rule at)
    by ts l (inl p) = inl (p.0, record { tokens = ts; reads = record { lexes = l; spells = p.1 } })
    by ts l (inr (inl s)) = inr (1, (lexeme_at (input bytes ts) s.0).at, syntax l s.1)
    by ts l (inr (inr d)) = inr (20, (lexeme_at (input bytes ts) d.0).at, too_deep l d.1)

-- a script without a first broken rule is clean
pub some_verdict : (bytes : List ℕ) (scope : Scope) → ((rule at : ℕ) → ScriptFirst bytes scope rule at → ⊥) → IsCleanScript bytes scope
some_verdict bytes scope none = elim (program_or_not bytes) [
  | inl h ↦ record {
    program = h.0;
    script = record { tokens = h.1.tokens; reads = h.1.reads; clean = no_first (Breaks h.0 scope) (λ r p f. none r p (broken h.1.reads f)) };
  }
  | inr t ↦ absurd (none t.0 t.1 (unread t.2))
]

-- a library has a line, and a tidied text
pub some_line : (name file : List ℕ) → ((r : Bool) (b : List ℕ) → IsLine name file r b → ⊥) → ⊥
some_line name file none =
    let clean = some_verdict file position.Lib (λ n at f. none _ _ (refused f)) in
    none _ _ (accepted clean.script)

pub some_text : (name file : List ℕ) → ((r : Bool) (b : List ℕ) → IsTidied name file r b → ⊥) → ⊥
some_text name file none =
    let clean = some_verdict file position.Lib (λ n at f. none _ _ (not_tidied f)) in
    none _ _ (tidied clean.script)
