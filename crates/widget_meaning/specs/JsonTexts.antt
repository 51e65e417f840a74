-- Values as JSON: the text that `ADSAFE.toJson` writes, from left to right; the first thing met decides.
use Rattle.std.specs.Prelude.{ℕ, zero, suc, ◌+◌, List, [], ◌∷◌, ◌++◌, length, nat_lt, if◌then◌else◌, codes, Option, Some, None}
use Rattle.std.specs.List.{filter}
use Rattle.code_units.specs.Permitted.{is_permitted}
use Rattle.code_units.specs.Utf8.{units_of, utf8_of}
use Rattle.json.specs.Print.{quoted}
use Rattle.widget_meaning.specs.Limits.{max_text, max_nesting}
use Rattle.widget_meaning.specs.Values.{Value, Undefined, Null, Truth, NaN, Num, Text, Own, Host, LongText, E4, to_text}
use Rattle.widget_meaning.specs.OwnState.{State, Kind, Object, Array, Function, Bunch, Pairs, lookup, cell_at}
use Rattle.widget_meaning.specs.Plan.{Plan, Halt, charge}
use Rattle.widget_meaning.specs.Costs.{make_text, throw, give}
use Rattle.widget_meaning.specs.Properties.{index_name}

-- the text so far; or what has no JSON was met, or the text grew too long
pub data Written : Type 0 where
  Wrote : List ℕ → Written
  NoJson : Written
  TooLong : Written

-- more is written
abbrev pub write : List ℕ → List ℕ → Written
write t more = if nat_lt max_text (length t + length more) then TooLong else Wrote (t ++ more)

-- and then, unless one of the two was met
abbrev pub and_write : Written → (List ℕ → Written) → Written
and_write (Wrote t) k = k t
and_write NoJson k = NoJson
and_write TooLong k = TooLong

-- a text in quotes: its UTF-8, U+FFFD for each lone surrogate, with the escapes of a report
abbrev pub quoted_text : List ℕ → List ℕ
quoted_text t = units_of (quoted (utf8_of t))

-- what is written for a part, after the text so far
abbrev pub Writer : Type 0
Writer = Value → List ℕ → Written

-- the elements from an index on, so many; a missing one has no JSON
abbrev pub element_text : Writer → Option Value → List ℕ → Written
element_text value None t = NoJson
element_text value (Some v) t = value v t

-- with what stands before the next element, and the closing bracket
abbrev pub elements_text : Writer → Pairs → List ℕ → ℕ → ℕ → List ℕ → Written
elements_text value ps before i zero t = write t (codes "]")
elements_text value ps before i (suc n) t =
    and_write (write t before) (λ u. and_write (element_text value (lookup ps (index_name i)) u)
    (λ w. elements_text value ps (codes ",") (i + 1) n w))

-- the names and values of an object
abbrev pub members_text : Writer → List ℕ → Pairs → List ℕ → Written
members_text value before [] t = write t (codes "}")
members_text value before (p ∷ ps) t =
    and_write (write t (before ++ (quoted_text p.0 ++ codes ":"))) (λ u. and_write (value p.1 u)
    (λ w. members_text value (codes ",") ps w))

-- an object gives its own permitted names, an array its elements below its length
abbrev pub cell_text : Writer → Kind → Pairs → List ℕ → Written
cell_text value Object ps t =
    and_write (write t (codes "{")) (members_text value [] (filter (λ p. is_permitted p.0) ps))
cell_text value (Array len) ps t = and_write (write t (codes "[")) (elements_text value ps [] 0 len)
cell_text value (Function f scope) ps t = NoJson
cell_text value (Bunch ns) ps t = NoJson

-- a value inside which so many arrays and objects may stand one in the other
abbrev pub value_text : ℕ → State → Value → List ℕ → Written
value_text m s Undefined t = NoJson
value_text m s Null t = write t (codes "null")
value_text m s (Truth b) t = write t (to_text (Truth b))
value_text m s NaN t = NoJson
value_text m s (Num z) t = write t (to_text (Num z))
value_text m s (Text u) t = write t (quoted_text u)
value_text m s (Host h) t = NoJson
value_text zero s (Own n) t = NoJson
value_text (suc m) s (Own n) t = cell_text (value_text m s) (cell_at s n).kind (cell_at s n).pairs t

-- the extra is the units of the text, one more than the longest where it is too long
abbrev pub give_json : Written → State → Plan
give_json (Wrote t) s = charge (length t) s (make_text t s (give (Text t)))
give_json NoJson s = throw E4 s
give_json TooLong s = charge (max_text + 1) s (Halt LongText s)

-- `toJson(v)`
abbrev pub to_json : Value → State → Plan
to_json v s = give_json (value_text max_nesting s v []) s
