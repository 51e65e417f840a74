-- What the verdicts on a slot and on its parts say.
use Rattle.std.specs.Prelude.{◌≡◌, ℕ, ◌+◌, ◌<◌, ◌^◌, List, [], ◌∷◌, map, length, Some, None, Option, Result, MatchResult, string_bytes, slice_get}
use Rattle.first_breach.specs.declared.Breach.{Breach}
use Rattle.code_units.specs.Places.{place_at as place}
use Rattle.js_tree.specs.Plain.{Stmts}
use Rattle.js_tree.specs.Trees.{program_of}
use Rattle.plain_tree.specs.Trees.{Trees}
use Rattle.plain_tree.specs.Plains.{Places}
use Rattle.adsafe_rules.specs.declared.accepted.Accepted.{Accepted}
use Rattle.adsafe_rules.specs.declared.scope.Scope.{Scope}
use Rattle.adsafe_rules.specs.declared.scope.Scope.TheVariants as scope
use Rattle.adsafe_rules.specs.Accepts.{tree_of}
use Rattle.script_check.specs.Script.{ScriptFirst, LibFirst, IsCleanScript}
use Rattle.script_check.specs.Verdict.{IsAccepted}
use Rattle.trace_text.specs.declared.line.Rule.{Rule}
use Rattle.trace_text.specs.declared.line.Rule.TheVariants as rule
use Rattle.widget_form.specs.declared.form.Span.{Span}
use Rattle.widget_form.specs.Forms.{IsForm}
use Rattle.slot_check.specs.declared.sources.SourceFile.{SourceFile}
use Rattle.slot_check.specs.declared.libraries.Known.{Known}
use Rattle.slot_check.specs.declared.libraries.Known.TheVariants as known
use Rattle.slot_check.specs.declared.libraries.Libraries.{Libraries}
use Rattle.slot_check.specs.declared.fault.Refusal.{Refusal}
use Rattle.slot_check.specs.declared.fault.SlotFault.{SlotFault}
use Rattle.slot_check.specs.declared.fault.SlotFault.TheVariants as fault
use Rattle.slot_check.specs.declared.verdict.Widget.{Widget}
use Rattle.slot_check.specs.Sources.{Source, Slot, keys_of, script_text}
use Rattle.slot_check.specs.Slots.{FirstOfSlot}
use Rattle.slot_check.specs.Slot.{AreClean, LibrariesFirst, SlotFirst, IsWidget}

-- a file as a source
abbrev pub source_of : SourceFile → Source
source_of file = record { name = string_bytes file.name; bytes = file.bytes.items }

abbrev pub sources_of : List SourceFile → List Source
sources_of files = map source_of files

-- a slot of this name with this file, over these libraries
abbrev pub slot_of : List ℕ → SourceFile → List SourceFile → Slot
slot_of name file libs = record { name = name; file = source_of file; libs = sources_of libs }

-- places in the file fit their types
abbrev pub IsSmall : SourceFile → Type 0
IsSmall file = length file.bytes.items < 2 ^ 31

-- ## Refusals

-- the refusal names the rule, the file, and the place of the byte in it
pub record IsRefusalAt (source : Source) (rule : Rule) (byte : ℕ) (refusal : Refusal) : Type 0 where
  pub same : refusal.rule ≡ rule
  pub named : string_bytes refusal.file ≡ source.name
  pub placed : refusal.at ≡ place source.bytes byte

-- a fault that is such a refusal, or want of memory
abbrev pub Refuses : (Refusal → Type 0) → SlotFault → Type 0
Refuses P (fault.Broken refusal) = P refusal
Refuses P fault.Memory = Unit {0}

-- the first markup rule that a file breaks
pub record IsMarkupRefusal (name : List ℕ) (keys : List (List ℕ)) (file : Source) (refusal : Refusal) : Type 0 where
  pub number : ℕ
  pub at : ℕ
  pub first : FirstOfSlot name keys file.bytes number at
  pub is : IsRefusalAt file (rule.M number) at refusal

-- the first rule that the script breaks that stands there in a file
pub record IsSpanRefusal (file : Source) (span : Span) (scope : Scope) (refusal : Refusal) : Type 0 where
  pub number : ℕ
  pub behind : ℕ
  pub first : ScriptFirst (script_text file.bytes span) scope number behind
  pub is : IsRefusalAt file (rule.A number) (span.from + behind) refusal

-- the first rule that the `ADSAFE.id` script of a slot of this name breaks
pub record IsIdRefusal (name : List ℕ) (file : Source) (script : Option Span) (refusal : Refusal) : Type 0 where
  pub span : Span
  pub there : script ≡ Some span
  pub broken : IsSpanRefusal file span (scope.Id name) refusal

-- the first rule that the library at a place breaks
pub record IsLibraryRefusal (libs : List Source) (at : ℕ) (refusal : Refusal) : Type 0 where
  pub lib : Source
  pub there : slice_get libs at ≡ Some lib
  pub number : ℕ
  pub byte : ℕ
  pub first : LibFirst lib.bytes number byte
  pub is : IsRefusalAt lib (rule.A number) byte refusal

-- the first rule that is broken in the libraries of these names
pub record IsNamedRefusal (libs : List Source) (names : List (List ℕ)) (refusal : Refusal) : Type 0 where
  pub lib : Source
  pub number : ℕ
  pub byte : ℕ
  pub first : LibrariesFirst libs names number lib byte
  pub is : IsRefusalAt lib (rule.A number) byte refusal

-- the first rule that a slot breaks
pub record IsRefused (slot : Slot) (refusal : Refusal) : Type 0 where
  pub rule : Rule
  pub source : Source
  pub byte : ℕ
  pub first : SlotFirst slot rule source byte
  pub is : IsRefusalAt source rule byte refusal

-- ## Libraries

-- the library at a place breaks no rule
pub record IsCleanAt (libs : List Source) (at : ℕ) : Type 0 where
  pub lib : Source
  pub there : slice_get libs at ≡ Some lib
  pub clean : IsCleanScript lib.bytes scope.Lib

-- the first broken rule of the bytes of a library, if they break one
abbrev pub IsLibraryVerdict : List ℕ → Option Breach → Type 0
IsLibraryVerdict bytes None = IsCleanScript bytes scope.Lib
IsLibraryVerdict bytes (Some b) = LibFirst bytes b.rule b.at

-- the same of the library at a place
pub record IsVerdictAt (libs : List Source) (at : ℕ) (verdict : Option Breach) : Type 0 where
  pub lib : Source
  pub there : slice_get libs at ≡ Some lib
  pub is : IsLibraryVerdict lib.bytes verdict

-- what was accepted of the bytes of a library, or their first broken rule
abbrev pub IsLibraryJudged : List ℕ → Result Accepted Breach → Type 0
IsLibraryJudged bytes judged = MatchResult judged (IsAccepted bytes scope.Lib) (λ b. LibFirst bytes b.rule b.at)

-- the same of the library at a place
pub record IsJudgedAt (libs : List Source) (at : ℕ) (judged : Result Accepted Breach) : Type 0 where
  pub lib : Source
  pub there : slice_get libs at ≡ Some lib
  pub is : IsLibraryJudged lib.bytes judged

-- what is known of the bytes of a library
abbrev pub IsKnown : List ℕ → Known → Type 0
IsKnown bytes known.Unjudged = Unit {0}
IsKnown bytes known.Clean = IsCleanScript bytes scope.Lib
IsKnown bytes (known.Broken b) = LibFirst bytes b.rule b.at

-- something is known of each library, in order
pub data AreKnown : List Source → List Known → Type 0 where
  no_library : AreKnown [] []
  one_library : {lib : Source} {k : Known} {libs : List Source} {ks : List Known} → IsKnown lib.bytes k → AreKnown libs ks → AreKnown (lib ∷ libs) (k ∷ ks)

-- what is said of the libraries is true
pub record AreJudged (libs : List Source) (judged : Libraries) : Type 0 where
  pub keyed : judged.keys.items ≡ keys_of libs
  pub known : AreKnown libs judged.known.items

-- the libraries that a slot names break no rule, and stand at these places
pub record AreNamedClean (libs : List Source) (names : List (List ℕ)) (places : List ℕ) : Type 0 where
  pub programs : List Stmts
  pub clean : AreClean libs names places programs

-- ## Slots

-- the widget of a slot that breaks no rule
pub record IsAcceptedWidget (slot : Slot) (widget : Widget) : Type 0 where
  pub file : Trees Places
  pub programs : List Stmts
  pub form : IsForm slot.name file widget.form
  pub is : IsWidget slot file widget.libs.items programs (program_of (tree_of widget.script))
