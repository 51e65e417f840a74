-- How a value grows by a unit.
use Rattle.std.specs.Prelude.{ℕ, ◌-◌, Bool, ◌&&◌, not, List, length, drop, slice_index, nat_le, ◌==◌, codes}
use Rattle.std.specs.List.{list_all}
use Rattle.style_text.specs.declared.value.TheConstants.{LONGEST_VALUE}
use Rattle.style_text.specs.Styles.{is_value_unit, begins_in_any_case, has_barred_word}

-- the word stands at the end of the units, in any case
abbrev pub ends_in_word : List ℕ → List ℕ → Bool
ends_in_word word us = nat_le (length word) (length us) && begins_in_any_case word (drop (length us - length word) us)

-- units of values, the first no space, with no barred word
unfoldable pub is_open : List ℕ → Bool
is_open us = list_all is_value_unit us && not (slice_index us 0 == 32) && not (has_barred_word us)

-- this last unit of units goes on with a value
abbrev pub extends : List ℕ → ℕ → Bool
extends front u =
    is_value_unit u && not (u == 32) && nat_le (length front) LONGEST_VALUE
    && not (ends_in_word (codes "url") front) && not (ends_in_word (codes "expression") front)
