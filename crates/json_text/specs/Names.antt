-- What stands between the parts of an object or array.
use Rattle.std.specs.Prelude.{Bool, List, ℕ, [], ◌++◌, codes, if◌then◌else◌}
use Rattle.code_units.specs.Utf8.{units_of, utf8_of}
use Rattle.json.specs.Print.{escape}
use Rattle.widget_meaning.specs.JsonTexts.{quoted_text}

-- a comma but before the first
abbrev pub comma : Bool → List ℕ
comma first = if first then [] else codes ","

-- what stands before the value of a member
abbrev pub name_text : Bool → List ℕ → List ℕ
name_text first name = comma first ++ (quoted_text name ++ codes ":")

-- what stands inside the quotes of a text: its UTF-8, with the escapes of a report
abbrev pub inside : List ℕ → List ℕ
inside us = units_of (escape (utf8_of us))
