-- The value of a string, up to a place; where the tokens of a text lie.
use Rattle.std.proofs.Common.{◌≡◌, ℕ, List, [], ◌++◌, ap, ◌∙◌, sym, append_assoc, append-nil}
use Rattle.std.specs.Str.{chars}
use Rattle.js_tokens.specs.declared.value.Mode.{Mode}
use Rattle.js_tokens.specs.declared.value.Mode.TheVariants as mode
use Rattle.js_tokens.specs.Cursor.{from, IsPlace, IsNext}
use Rattle.js_tokens.specs.Modes.{IsFit}
use Rattle.js_tokens.specs.Value.{string_value, units_at, mode_after}

pub record UnitsSoFar (text : List ℕ) (place : ℕ) (m : Mode) (units : List ℕ) : Type 0 where
  pub is_place : IsPlace text place
  pub fit : IsFit m
  pub value : string_value mode.Plain (from text 0) ≡ units ++ string_value m (from text place)

pub units_more : (text : List ℕ) (place next c : ℕ) (m : Mode) (units : List ℕ) → IsNext text place c next → IsFit (mode_after m c) → UnitsSoFar text place m units → UnitsSoFar text next (mode_after m c) (units ++ units_at m c)
units_more text place next c m units n fit so =
    record {
      is_place = n.place;
      fit = fit;
      value = so.value ∙ ap (λ l. units ++ string_value m l) n.here ∙ sym (append_assoc units (units_at m c) (string_value (mode_after m c) (from text next)));
    }

pub units_end : (text : List ℕ) (place : ℕ) (m : Mode) (units : List ℕ) → from text place ≡ [] → UnitsSoFar text place m units → units ≡ string_value mode.Plain (chars text)
unfolding from
units_end text place m units e so = sym (so.value ∙ ap (λ l. units ++ string_value m l) e ∙ append-nil units)
