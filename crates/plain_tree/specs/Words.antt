-- Plain words, which stand in a `class`, a `name` and a `type`, and the types of events.
use Rattle.std.specs.Prelude.{ℕ, Bool, List, length, nat_le, nat_eq, ◌&&◌, ◌||◌}
use Rattle.std.specs.List.{list_all}
use Rattle.plain_tree.specs.Names.{is_letter, is_digit}

-- `A` to `Z`
abbrev pub is_capital : ℕ → Bool
is_capital c = nat_le 65 c && nat_le c 90

-- an ASCII letter, a digit, a space, `-`, `/` or `_`
abbrev pub is_plain_unit : ℕ → Bool
is_plain_unit u =
    is_letter u || is_capital u || is_digit u || nat_eq u 32 || nat_eq u 45 || nat_eq u 47 || nat_eq u 95

-- each unit is plain
abbrev pub is_plain_words : List ℕ → Bool
is_plain_words us = list_all is_plain_unit us

-- of letters in one type of events
abbrev pub max_event_type : ℕ
max_event_type = 16

-- a type of events: 1 to 16 letters `a` to `z`
abbrev pub is_event_type : List ℕ → Bool
is_event_type us = nat_le 1 (length us) && nat_le (length us) max_event_type && list_all is_letter us
