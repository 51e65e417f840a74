-- Values of a widget by itself, and how a form ends.
use Rattle.std.specs.Prelude.{ℕ, ℤ, Bool, true, false, List, [], codes, length, nat_eq, not, pos, negsuc, unwrap_or, slice_get}
use Rattle.std.specs.Fmt.{signed_decimal}
use Rattle.code_units.specs.declared.whole.WholeRead.{WholeRead}
use Rattle.code_units.specs.declared.whole.WholeRead.TheVariants as read
use Rattle.code_units.specs.Whole.{number_in}
use Rattle.permitted_table.specs.declared.native.HostEntry.{HostEntry}

-- a primitive, an object of the widget by the number of its birth, or an entry of the permitted table
pub data Value : Type 0 where
  Undefined : Value
  Null : Value
  Truth : Bool → Value
  NaN : Value
  Num : ℤ → Value
  Text : List ℕ → Value
  Own : ℕ → Value
  Host : HostEntry → Value

-- what stands left of an assignment or before the arguments of a call
pub data Reference : Type 0 where
  Variable : List ℕ → Reference
  Property : Value → List ℕ → Reference
  Found : Value → Reference

-- how a form ends: an expression by a value or a throw, a target by a reference
pub data Completion : Type 0 where
  Normal : Completion
  Is : Value → Completion
  Refers : Reference → Completion
  Return : Value → Completion
  Break : Completion
  Continue : Completion
  Throw : Value → Completion

-- the faults that the language throws
pub data Fault : Type 0 where
  -- no property of undefined or null
  E1 : Fault
  -- not a function
  E2 : Fault
  -- bad receiver
  E3 : Fault
  -- bad argument
  E4 : Fault
  -- closed object
  E5 : Fault
  -- no primitive value
  E6 : Fault
  -- bad length
  E7 : Fault
  -- bad name
  E8 : Fault
  -- bad query
  E9 : Fault
  -- bad place in the page
  E10 : Fault
  -- too many timers
  E11 : Fault
  -- chain too long
  E12 : Fault

-- what ends a widget for good, beside want of fuel
pub data StopCause : Type 0 where
  Number : StopCause
  Depth : StopCause
  Cells : StopCause
  Slots : StopCause
  Units : StopCause
  LongText : StopCause
  Nodes : StopCause

-- a stop: want of fuel, or what was left or passed
pub data Stop : Type 0 where
  Fuel : Stop
  PastLimit : StopCause → Stop

-- an object, of the widget or of the host
abbrev pub is_object : Value → Bool
is_object (Own n) = true
is_object (Host h) = true
is_object _ = false

-- undefined and null have no properties
abbrev pub is_nothing : Value → Bool
is_nothing Undefined = true
is_nothing Null = true
is_nothing _ = false

-- the false values are undefined, null, false, 0, NaN and the empty text
abbrev pub is_true : Value → Bool
is_true Undefined = false
is_true Null = false
is_true (Truth b) = b
is_true NaN = false
is_true (Num (pos n)) = not (nat_eq n 0)
is_true (Num (negsuc n)) = true
is_true (Text t) = not (nat_eq (length t) 0)
is_true (Own n) = true
is_true (Host h) = true

-- the text of a primitive; an object has none
abbrev pub to_text : Value → List ℕ
to_text Undefined = codes "undefined"
to_text Null = codes "null"
to_text (Truth true) = codes "true"
to_text (Truth false) = codes "false"
to_text NaN = codes "NaN"
to_text (Num z) = signed_decimal z
to_text (Text t) = t
to_text (Own n) = []
to_text (Host h) = []

-- the number of a primitive: a whole number, no number, or one that leaves the numbers
abbrev pub to_number : Value → WholeRead
to_number Undefined = read.NotNumber
to_number Null = read.Whole (pos 0)
to_number (Truth true) = read.Whole (pos 1)
to_number (Truth false) = read.Whole (pos 0)
to_number NaN = read.NotNumber
to_number (Num z) = read.Whole z
to_number (Text t) = number_in t
to_number (Own n) = read.NotNumber
to_number (Host h) = read.NotNumber

-- the argument at a place, from 0; an absent one is undefined
abbrev pub nth : ℕ → List Value → Value
nth n vs = unwrap_or (slice_get vs n) Undefined
