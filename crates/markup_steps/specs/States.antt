-- The machine's state for which a reader stands.
use Rattle.std.specs.Prelude.{◌≡◌, ◌||◌, true, ℕ, List, [], ◌∷◌, drop, codes, Option, Some, None, Result, MatchResult}
use Rattle.markup_grammar.specs.declared.Sign.{Sign}
use Rattle.markup_grammar.specs.Signs.{Spot, in_tag, in_attribute}
use Rattle.markup_grammar.specs.Machine as machine
use Rattle.markup_grammar.specs.Machine.{State, State_at, Opening, Run, InText, InValue, Referring, Mode}
use Rattle.plain_tree.specs.Trees.{Trees}
use Rattle.plain_tree.specs.Plains.{Places, placed_all}
use Rattle.markup_steps.specs.declared.mode.Mode.TheVariants as mode
use Rattle.markup_steps.specs.declared.mode.Mode.{Mode as CodeMode}
use Rattle.markup_steps.specs.declared.mode.Run.TheVariants as run
use Rattle.markup_steps.specs.declared.mode.Run.{Run as CodeRun}
use Rattle.markup_steps.specs.declared.mode.Referring.TheVariants as referring
use Rattle.markup_steps.specs.declared.mode.Referring.{Referring as CodeReferring}
use Rattle.markup_steps.specs.declared.mode.Named.TheVariants as named
use Rattle.markup_steps.specs.declared.mode.Named.{Named}
use Rattle.markup_steps.specs.declared.stop.Stop.{Stop}
use Rattle.markup_steps.specs.declared.stop.Stop.TheVariants as stop
use Rattle.markup_steps.specs.declared.reader.Reader.{Reader}
use Rattle.markup_steps.specs.declared.reader.Open.{Open}
use Rattle.markup_steps.specs.declared.reader.Head.{Head}

-- a character and its place
abbrev pub spot : ℕ → ℕ → Spot
spot c at = record { code = c; at = at }

abbrev pub opening_of : Head → Opening
opening_of h = record { tag = h.tag; attrs = h.attrs.items; at = h.at }

abbrev pub open_of : Open → machine.Open
open_of o = record { before = placed_all o.before.items; head = opening_of o.head }

-- the innermost first
abbrev pub stack_on : List machine.Open → List Open → List machine.Open
stack_on k [] = k
stack_on k (o ∷ others) = stack_on (open_of o ∷ k) others

abbrev pub trees_of : Reader → Trees Places
trees_of r = placed_all r.grown.nodes.items

abbrev pub opens_of : Reader → List machine.Open
opens_of r = stack_on [] r.grown.open.items

abbrev pub text_run : Reader → Run
text_run r = InText r.piece.at r.piece.units.items

abbrev pub value_run : Reader → Run
value_run r = InValue (opening_of r.head) r.attribute.name r.attribute.at r.attribute.value_at r.attribute.double r.piece.units.items

abbrev pub run_of : Reader → CodeRun → Run
run_of r run.Text = text_run r
run_of r run.Value = value_run r

abbrev pub name_of : Named → List ℕ
name_of named.Amp = codes "amp"
name_of named.Lt = codes "lt"
name_of named.Gt = codes "gt"
name_of named.Quot = codes "quot"
name_of named.Nbsp = codes "nbsp"

abbrev pub code_of : Named → ℕ
code_of named.Amp = 38
code_of named.Lt = 60
code_of named.Gt = 62
code_of named.Quot = 34
code_of named.Nbsp = 160

abbrev pub referring_of : CodeReferring → Referring
referring_of referring.Ampersand = machine.Ampersand
referring_of (referring.Named n read) = machine.Named (drop read (name_of n)) (code_of n)
referring_of (referring.Number n v) = machine.Number n v

-- the tag of the innermost element
abbrev pub top_tag : List machine.Open → List ℕ
top_tag [] = []
top_tag (o ∷ k) = (o.head).tag

abbrev pub mode_of : Reader → CodeMode → Mode
mode_of r mode.Between = machine.Between
mode_of r (mode.In x) = machine.In (run_of r x)
mode_of r (mode.Refers x f) = machine.Refers (run_of r x) (referring_of f)
mode_of r mode.Begun = machine.Begun (r.head).at
mode_of r mode.TagName = machine.TagName (r.head).at r.piece.units.items
mode_of r mode.Valued = machine.Valued (opening_of r.head)
mode_of r mode.Spaced = machine.Spaced (opening_of r.head)
mode_of r mode.AttributeName = machine.AttributeName (opening_of r.head) r.attribute.at r.piece.units.items
mode_of r mode.Assigned = machine.Assigned (opening_of r.head) r.attribute.at r.attribute.name
mode_of r mode.Slashed = machine.Slashed (opening_of r.head)
mode_of r (mode.Ending read) = machine.Ending (drop read (top_tag (opens_of r)))
mode_of r mode.Ended = machine.Ended
mode_of r mode.InRaw = machine.InRaw (opening_of r.head) r.piece.at r.piece.units.items
mode_of r mode.RawBegun = machine.RawBegun (opening_of r.head) r.piece.at r.piece.units.items
mode_of r (mode.RawEnding read) = machine.RawEnding (opening_of r.head) r.piece.at r.piece.units.items (drop read (codes "script"))

abbrev pub state_of : Reader → State
state_of r = State_at (mode_of r r.mode) (trees_of r) (opens_of r)

-- the step leads to the new state; or it is none, or memory was wanting
abbrev pub Took : Option State → Result (Unit {0}) Stop → State → Type 0
Took next result new = MatchResult result (λ _. next ≡ Some new) (λ e. e ≡ stop.Bad → next ≡ None)

-- the sign of a character of a name
abbrev pub IsInName : Sign → Type 0
IsInName s = (in_tag s || in_attribute s) ≡ true
