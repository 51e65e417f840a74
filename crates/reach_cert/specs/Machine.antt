-- A machine that takes one line of a certificate at a time.
use Rattle.std.specs.Prelude.{◌≡◌, ◌<◌, ◌≤◌, ℕ, ◌+◌, Bool, false, ◌&&◌, not, List, [], ◌∷◌, ◌++◌, length, nat_lt, if◌then◌else◌, codes, Option, Some, None, option_map, option_and_then}
use Rattle.std.specs.Str.{bytes_eq}
use Rattle.exact_refusals.specs.Judge.{Outcome}
use Rattle.exact_refusals.specs.Judge as machine
use Rattle.exact_refusals.specs.Plain.{outcome}
use Rattle.reach_cert.specs.declared.fault.CertFault.{CertFault}
use Rattle.reach_cert.specs.declared.fault.CertFault.TheVariants as fault
use Rattle.reach_cert.specs.Certs.{Row, Slot, Refused, Shown}
use Rattle.reach_cert.specs.Shape.{is_name, is_used}
use Rattle.reach_cert.specs.Words.{behind, before_feed, refs_in, row_in, cell_behind}

-- What the next line may be. Each state has the slots before it.
pub data State : Type 0 where
  -- the head
  Start : State
  -- a slot, or the end
  Between : List Slot → State
  -- the next cell of a widget with this name and these cells, or what it holds
  Inside : List Slot → List ℕ → List Row → State
  -- none
  Over : List Slot → State

-- a further slot may have this name
unfoldable pub is_free : List Slot → List ℕ → Bool
is_free slots name = is_name name && nat_lt (length slots) 16 && not (is_used slots name)

abbrev pub named : List Slot → List ℕ → State → Option State
named slots name next = if is_free slots name then Some next else None

abbrev pub at_widget : List Slot → Option (List ℕ) → Option State
at_widget slots None = None
at_widget slots (Some name) = named slots name (Inside slots name [])

abbrev pub at_slot : List Slot → Option (List ℕ) → Option (List ℕ) → Option State
at_slot slots None widget = at_widget slots widget
at_slot slots (Some name) widget = named slots name (Between (slots ++ Refused name ∷ []))

abbrev pub at_held : List Slot → List ℕ → List Row → Option (List ℕ) → Option State
at_held slots name rows None = None
at_held slots name rows (Some text) = option_map (λ held. Between (slots ++ Shown name rows held ∷ [])) (refs_in text)

abbrev pub at_cell : List Slot → List ℕ → List Row → Option (List ℕ) → Option (List ℕ) → Option State
at_cell slots name rows None held = at_held slots name rows held
at_cell slots name rows (Some text) held = option_map (λ row. Inside slots name (rows ++ row ∷ [])) (row_in text)

-- a line without its line feed
abbrev pub step_on : State → List ℕ → Option State
step_on Start text = if bytes_eq text (codes "reach 1") then Some (Between []) else None
step_on (Between slots) text =
    if bytes_eq text (codes "end") then Some (Over slots)
    else at_slot slots (behind (codes "refused ") text) (behind (codes "widget ") text)
step_on (Inside slots name rows) text = at_cell slots name rows (cell_behind (length rows) text) (behind (codes "held") text)
step_on (Over slots) text = None

abbrev pub step : State → List ℕ → Option State
step st line = option_and_then (step_on st) (before_feed line)

-- where the lines may end, and the certificate then
abbrev pub done : State → Option (List Slot)
done (Over slots) = Some slots
done _ = None

-- what comes of the lines from a state on
unfoldable pub goes : State → List (List ℕ) → Outcome (List Slot)
goes st lines = outcome step done st lines

-- ## Lines that are left

-- the lines that are left, with the number of the first
pub record Ahead : Type 0 where
  pub number : ℕ
  pub lines : List (List ℕ)

-- all but the first
abbrev pub behind_first : Ahead → Ahead
behind_first ahead = elim ahead.lines [ [] ↦ ahead | line ∷ lines ↦ record { number = ahead.number + 1; lines = lines } ]

-- the first line, without its line feed
abbrev pub first_text : List (List ℕ) → Option (List ℕ)
first_text [] = None
first_text (line ∷ lines) = before_feed line

-- what the machine makes of the first line
abbrev pub step_first : State → List (List ℕ) → Option State
step_first st lines = option_and_then (step_on st) (first_text lines)

-- the first line is this one
abbrev pub text_is : List ℕ → List (List ℕ) → Bool
text_is word lines = elim (first_text lines) [ None ↦ false | Some text ↦ bytes_eq text word ]

-- what stands in it behind a front, and behind the number of a cell
abbrev pub text_behind : List ℕ → List (List ℕ) → Option (List ℕ)
text_behind front lines = option_and_then (behind front) (first_text lines)

abbrev pub cell_text : ℕ → List (List ℕ) → Option (List ℕ)
cell_text n lines = option_and_then (cell_behind n) (first_text lines)

-- some lines were read, or none
pub record Later (old new : Ahead) : Type 0 where
  pub fewer : length new.lines ≤ length old.lines
  pub same : new.number + length new.lines ≡ old.number + length old.lines

-- a line was read, and maybe more
pub record Fewer (old new : Ahead) : Type 0 where
  pub fewer : length new.lines < length old.lines
  pub same : new.number + length new.lines ≡ old.number + length old.lines

-- the machine, from a state on, refuses the line of the fault
abbrev pub Refuses : State → Ahead → CertFault → Type 0
Refuses st ahead (fault.BadCert line) =
    (left : ℕ) × (goes st ahead.lines ≡ machine.Outcome.Refused left) × (left ≤ length ahead.lines) × (line + left ≡ ahead.number + length ahead.lines)
Refuses st ahead fault.Memory = Unit {0}
