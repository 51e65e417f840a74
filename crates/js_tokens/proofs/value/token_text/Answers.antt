use Rattle.std.proofs.Common.{◌≡◌, ℕ, List, IfOk, rules, arith, subst, sym, ◌∙◌}
use Rattle.std.specs.Str.{IsUtf8}
use Rattle.std.proofs.lemmas.Result.{IfOk-weaker}
use Rattle.js_tokens.specs.Says.{StandsFor, between_quotes}
use Rattle.js_tokens.proofs.Lies.{string_lies, token_range, says_string, says_bytes, said_string}
use Rattle.js_tokens.proofs.value.token_text.Goals as goal

pub overflow_add-token : goal.overflow_add-token
overflow_add-token c = let s = string_lies _ _ c.requires c.in-Str.is in let o = s.ordered in let w = s.within in search rules

pub overflow_sub-token : goal.overflow_sub-token
overflow_sub-token c = let s = string_lies _ _ c.requires c.in-Str.is in omega (arith, s.ordered)

pub between-inner-requires-clause-ordered : goal.between-inner-requires-clause-ordered
between-inner-requires-clause-ordered c = let s = string_lies _ _ c.requires c.in-Str.is in omega (arith, s.ordered)

pub between-inner-requires-clause-within : goal.between-inner-requires-clause-within
between-inner-requires-clause-within c = let s = string_lies _ _ c.requires c.in-Str.is in omega (arith, s.within)

pub string_text-requires : goal.string_text-requires
string_text-requires c = let s = string_lies _ _ c.requires c.in-Str.is in subst IsUtf8 (sym c.between-inner.ensures) s.inner

pub between-text-requires : goal.between-text-requires
between-text-requires c = let r = token_range _ _ c.requires in record { ordered = r.0; within = r.1 }

pub returns-in_ok-string_text-in-Str-clause-units : goal.returns-in_ok-string_text-in-Str-clause-units
returns-in_ok-string_text-in-Str-clause-units c =
    subst (λ (u : List ℕ). IfOk c.from_units.result (λ t. t ≡ u)) (says_string _ _ _ _ c.in-Str.is c.between-inner.ensures c.in_ok-string_text-in-Str.ensures) c.from_units.ensures

pub returns-in_ok-string_text-in-Str-clause-value : goal.returns-in_ok-string_text-in-Str-clause-value
returns-in_ok-string_text-in-Str-clause-value c = λ is.
    IfOk-weaker c.from_units.result _ _
    (λ t e. subst (StandsFor (between_quotes c.args.bytes.now c.args.token.now)) (sym (e ∙ says_string _ _ _ _ is c.between-inner.ensures c.in_ok-string_text-in-Str.ensures)) (said_string _ _ c.requires is)) c.from_units.ensures

pub returns-in_ok-byte_units-in_default-clause-units : goal.returns-in_ok-byte_units-in_default-clause-units
returns-in_ok-byte_units-in_default-clause-units c =
    subst (λ (u : List ℕ). IfOk c.from_units-in_default.result (λ t. t ≡ u)) (says_bytes _ _ _ _ c.in_default.not-Str c.between-text.ensures c.in_ok-byte_units-in_default.ensures) c.from_units-in_default.ensures

pub returns-in_ok-byte_units-in_default-clause-value : goal.returns-in_ok-byte_units-in_default-clause-value
returns-in_ok-byte_units-in_default-clause-value c = λ is. absurd (c.in_default.not-Str is)
