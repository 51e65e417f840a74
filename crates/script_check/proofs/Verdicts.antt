-- A script has one verdict.
use Rattle.std.proofs.Common.{◌≡◌, ℕ, List, Bool, refl, sym, ap, subst, ◌∙◌}
use Rattle.code_units.specs.Places.{place_at}
use Rattle.exact_refusals.specs.Places.{HasTree, IsSyntaxAt, IsTooDeepAt}
use Rattle.exact_refusals.proofs.Exact as exact
use Rattle.first_breach.proofs.Narrowing as breaches
use Rattle.js_tokens.specs.declared.token.Token.{Token as Lexed}
use Rattle.js_tokens.specs.Lexes.{Lexes}
use Rattle.js_tokens.proofs.Answer.{one_place, no_reading, one_reading}
use Rattle.js_tree.specs.Plain.{Stmts}
use Rattle.js_print.specs.Tidy.{tidy}
use Rattle.js_grammar.specs.Grammar.{IsProgram}
use Rattle.js_grammar.proofs.Laws.{one_tree}
use Rattle.js_parser.specs.Signs.{input}
use Rattle.js_parser.specs.Reads.{lexeme_at}
use Rattle.adsafe_rules.specs.declared.scope.Scope.{Scope}
use Rattle.adsafe_rules.specs.declared.scope.Scope.TheVariants as position
use Rattle.adsafe_rules.specs.Program.{First}
use Rattle.trace_text.specs.declared.line.Rule.TheVariants as rule
use Rattle.trace_text.specs.Report.{lib_refused}
use Rattle.script_check.specs.Line.{IsLine, accepted, refused, IsTidied, tidied, not_tidied}
use Rattle.script_check.specs.Script.{Reads, TextFirst, ScriptFirst, IsScript, IsCleanScript, bad_token, syntax, too_deep, unread, broken}

module _ (bytes : List ℕ) where
  -- one list of tokens, and one program
  once : (ts us : List Lexed) (P : List Lexed → Type 0) → Lexes bytes ts → Lexes bytes us → P us → P ts
  once ts us P l m p = subst P (one_reading bytes us ts m l) p

  program_once : (ts us : List Lexed) (p q : Stmts) → Reads bytes ts p → Reads bytes us q → p ≡ q
  program_once ts us p q a b =
      let other : HasTree IsProgram 200 (input bytes ts) q = once ts us (λ x. HasTree IsProgram 200 (input bytes x) q) a.lexes b.lexes b.spells in
      (one_tree a.spells.tokens other.tokens p q a.spells.spelled other.spelled (a.spells.same ∙ sym other.same)).1

  same_place : (ts us : List Lexed) (i j : ℕ) → ts ≡ us → i ≡ j → (lexeme_at (input bytes ts) i).at ≡ (lexeme_at (input bytes us) j).at
  same_place ts us i j e f = ap (λ x. (lexeme_at (input bytes x) i).at) e ∙ ap (λ k. (lexeme_at (input bytes us) k).at) f

  -- a text that is refused has no program
  no_syntax : (ts us : List Lexed) (i : ℕ) (q : Stmts) → Lexes bytes ts → IsSyntaxAt IsProgram 200 (input bytes ts) i → Reads bytes us q → ⊥
  no_syntax ts us i q l stuck b = exact.no_tree IsProgram 200 (input bytes ts) i q stuck (once ts us (λ x. HasTree IsProgram 200 (input bytes x) q) l b.lexes b.spells)

  no_depth : (ts us : List Lexed) (i : ℕ) (q : Stmts) → Lexes bytes ts → IsTooDeepAt IsProgram 200 (input bytes ts) i → Reads bytes us q → ⊥
  no_depth ts us i q l deep b = exact.no_flat_tree IsProgram 200 (input bytes ts) i q deep (once ts us (λ x. HasTree IsProgram 200 (input bytes x) q) l b.lexes b.spells)

  one_cause : (ts us : List Lexed) (i j : ℕ) → Lexes bytes ts → Lexes bytes us → IsSyntaxAt IsProgram 200 (input bytes ts) i → IsTooDeepAt IsProgram 200 (input bytes us) j → ⊥
  one_cause ts us i j l m s d = exact.one_cause IsProgram 200 (input bytes ts) i j s (once ts us (λ x. IsTooDeepAt IsProgram 200 (input bytes x) j) l m d)

  text_once : (rule at other place : ℕ) → TextFirst bytes rule at → TextFirst bytes other place → (rule ≡ other) × (at ≡ place)
  text_once rule at other place (bad_token a) (bad_token b) = (refl, one_place bytes at place a b)
  text_once rule at other place (bad_token a) (syntax l s) = absurd (no_reading bytes at _ a l)
  text_once rule at other place (bad_token a) (too_deep l d) = absurd (no_reading bytes at _ a l)
  text_once rule at other place (syntax l s) (bad_token b) = absurd (no_reading bytes place _ b l)
  text_once rule at other place (syntax {tokens = ts} {i = i} l s) (syntax {tokens = us} {i = j} m t) =
      let same = once ts us (λ x. IsSyntaxAt IsProgram 200 (input bytes x) j) l m t in
      (refl, same_place ts us i j (one_reading bytes ts us l m) (exact.one_syntax IsProgram 200 (input bytes ts) i j s same))
  text_once rule at other place (syntax {tokens = ts} {i = i} l s) (too_deep {tokens = us} {i = j} m d) = absurd (one_cause ts us i j l m s d)
  text_once rule at other place (too_deep l d) (bad_token b) = absurd (no_reading bytes place _ b l)
  text_once rule at other place (too_deep {tokens = ts} {i = i} l d) (syntax {tokens = us} {i = j} m s) = absurd (one_cause us ts j i m l s d)
  text_once rule at other place (too_deep {tokens = ts} {i = i} l d) (too_deep {tokens = us} {i = j} m e) =
      let same = once ts us (λ x. IsTooDeepAt IsProgram 200 (input bytes x) j) l m e in
      (refl, same_place ts us i j (one_reading bytes ts us l m) (exact.one_deep IsProgram 200 (input bytes ts) i j d same))

  -- a text without a program has none
  no_program : (rule at : ℕ) (us : List Lexed) (q : Stmts) → TextFirst bytes rule at → Reads bytes us q → ⊥
  no_program rule at us q (bad_token a) r = no_reading bytes at us a r.lexes
  no_program rule at us q (syntax {tokens = ts} {i = i} l s) r = no_syntax ts us i q l s r
  no_program rule at us q (too_deep {tokens = ts} {i = i} l d) r = no_depth ts us i q l d r

  first_once : (scope : Scope) (rule at other place : ℕ) → ScriptFirst bytes scope rule at → ScriptFirst bytes scope other place → (rule ≡ other) × (at ≡ place)
  first_once scope rule at other place (unread a) (unread b) = text_once rule at other place a b
  first_once scope rule at other place (unread a) (broken {tokens = us} {program = q} r f) = absurd (no_program rule at us q a r)
  first_once scope rule at other place (broken {tokens = us} {program = q} r f) (unread b) = absurd (no_program other place us q b r)
  first_once scope rule at other place (broken {tokens = ts} {program = p} r f) (broken {tokens = us} {program = q} s g) =
      breaches.one_first f (subst (λ x. First x scope other place) (program_once us ts q p s r) g)

  first_not_clean : (scope : Scope) (rule at : ℕ) (q : Stmts) → ScriptFirst bytes scope rule at → IsScript bytes scope q → ⊥
  first_not_clean scope rule at q (unread a) c = no_program rule at c.tokens q a c.reads
  first_not_clean scope rule at q (broken {tokens = ts} {program = p} r f) c =
      c.clean rule at (subst (λ x. First x scope rule at) (program_once ts c.tokens p q r c.reads) f).broken

  script_once : (scope : Scope) (p q : Stmts) → IsScript bytes scope p → IsScript bytes scope q → p ≡ q
  script_once scope p q a b = program_once a.tokens b.tokens p q a.reads b.reads

pub one_first : (bytes : List ℕ) (scope : Scope) (rule at other place : ℕ) → ScriptFirst bytes scope rule at → ScriptFirst bytes scope other place → (rule ≡ other) × (at ≡ place)
one_first bytes = first_once bytes

pub not_clean : (bytes : List ℕ) (scope : Scope) (rule at : ℕ) → ScriptFirst bytes scope rule at → IsCleanScript bytes scope → ⊥
not_clean bytes scope rule at first clean = first_not_clean bytes scope rule at clean.program first clean.script

refused_once : (name file : List ℕ) (n x m y : ℕ) → ScriptFirst file position.Lib n x → ScriptFirst file position.Lib m y → lib_refused name (rule.A n) (place_at file x) ≡ lib_refused name (rule.A m) (place_at file y)
refused_once name file n x m y f g =
    let e = one_first file position.Lib n x m y f g in
    ap (λ k. lib_refused name (rule.A k) (place_at file x)) e.0 ∙ ap (λ z. lib_refused name (rule.A m) (place_at file z)) e.1

-- a library has one line under its name
pub one_line : (name file b c : List ℕ) (r s : Bool) → IsLine name file r b → IsLine name file s c → (r ≡ s) × (b ≡ c)
one_line name file b c r s (accepted p) (accepted q) = (refl, refl)
one_line name file b c r s (accepted {program = p} a) (refused {number = n} {at = x} f) = absurd (first_not_clean file position.Lib n x p f a)
one_line name file b c r s (refused {number = n} {at = x} f) (accepted {program = q} a) = absurd (first_not_clean file position.Lib n x q f a)
one_line name file b c r s (refused {number = n} {at = x} f) (refused {number = m} {at = y} g) = (refl, refused_once name file n x m y f g)

-- and one tidied text
pub one_text : (name file b c : List ℕ) (r s : Bool) → IsTidied name file r b → IsTidied name file s c → (r ≡ s) × (b ≡ c)
one_text name file b c r s (tidied {program = p} a) (tidied {program = q} d) = (refl, ap tidy (script_once file position.Lib p q a d))
one_text name file b c r s (tidied {program = p} a) (not_tidied {number = n} {at = x} f) = absurd (first_not_clean file position.Lib n x p f a)
one_text name file b c r s (not_tidied {number = n} {at = x} f) (tidied {program = q} a) = absurd (first_not_clean file position.Lib n x q f a)
one_text name file b c r s (not_tidied {number = n} {at = x} f) (not_tidied {number = m} {at = y} g) = (refl, refused_once name file n x m y f g)
