-- The index that a name is (ECMA-262 3rd edition, 15.4).
use Rattle.std.specs.Prelude.{ℕ, ◌&&◌, List, Option, None, Some, if◌then◌else◌, nat_lt}
use Rattle.std.specs.Fmt.{decimal}
use Rattle.std.specs.Str.{bytes_eq}
use Rattle.std.specs.Str.Parse.{digits_value}
use Rattle.code_units.specs.Whole.{is_numeral}
use Rattle.code_units.specs.declared.index.TheConstants.{MAX_LENGTH}

-- the number, where the name is its decimal text and it is less than the greatest length
abbrev pub index_value : List ℕ → ℕ → Option ℕ
index_value name n = if bytes_eq name (decimal n) && nat_lt n MAX_LENGTH then Some n else None

-- the index that a name is: of 0 to 4294967294 the one whose decimal text it is
abbrev pub index_of : List ℕ → Option ℕ
index_of name = if is_numeral 10 name then index_value name (digits_value 10 name) else None
