-- The first rule that a slot breaks, and what a slot is that breaks none.
use Rattle.std.specs.Prelude.{◌≡◌, ℕ, ◌+◌, List, [], ◌∷◌, Option, Some, None, option_map, filter_map}
use Rattle.std.specs.List.{last_or}
use Rattle.js_tree.specs.Plain.{Stmts}
use Rattle.adsafe_rules.specs.declared.scope.Scope.TheVariants as scope
use Rattle.plain_tree.specs.Trees.{Trees}
use Rattle.plain_tree.specs.Plains.{Places}
use Rattle.markup_grammar.specs.Markup.{MarkupSpells}
use Rattle.widget_form.specs.declared.form.Span.{Span}
use Rattle.widget_form.specs.Rows.{IsGood}
use Rattle.widget_form.specs.Forms.{root_scripts, first_of_several, span_of, source}
use Rattle.slot_check.specs.Slots.{FirstOfSlot}
use Rattle.script_check.specs.Script.{ScriptFirst, LibFirst, IsScript, IsCleanScript}
use Rattle.trace_text.specs.declared.line.Rule.{Rule}
use Rattle.trace_text.specs.declared.line.Rule.TheVariants as rule
use Rattle.slot_check.specs.Sources.{Source, Slot, keys_of, IsLibrary, script_text}

-- the file of the slot is these trees, which break no markup rule
pub record IsFile (slot : Slot) (file : Trees Places) : Type 0 where
  pub spelled : MarkupSpells slot.file.bytes file
  pub good : IsGood slot.name (keys_of slot.libs) file

-- where the `ADSAFE.id` script of a file stands, if it has one; the libraries that it names; and where its last script stands
abbrev pub id_span : Trees Places → Option Span
id_span file = option_map span_of (first_of_several (root_scripts file))

abbrev pub named_libs : Trees Places → List (List ℕ)
named_libs file = filter_map source (root_scripts file)

abbrev pub last_span : Trees Places → Option Span
last_span file = option_map span_of (last_or None (root_scripts file))

-- the `ADSAFE.id` script, where there is one, breaks no rule
abbrev pub IsIdClean : List ℕ → List ℕ → Option Span → Type 0
IsIdClean name bytes None = Unit {0}
IsIdClean name bytes (Some span) = IsCleanScript (script_text bytes span) (scope.Id name)

-- the libraries of these names, with their places in the list and their programs, break no rule
pub data AreClean (libs : List Source) : List (List ℕ) → List ℕ → List Stmts → Type 0 where
  none : AreClean libs [] [] []
  more : {name : List ℕ} {place : ℕ} {lib : Source} {program : Stmts} {names : List (List ℕ)} {places : List ℕ} {programs : List Stmts} → IsLibrary libs name place lib → IsScript lib.bytes scope.Lib program → AreClean libs names places programs → AreClean libs (name ∷ names) (place ∷ places) (program ∷ programs)

-- the first of the libraries of these names that breaks a rule, with the rule and the byte
pub data LibrariesFirst (libs : List Source) : List (List ℕ) → ℕ → Source → ℕ → Type 0 where
  here : {name : List ℕ} {place : ℕ} {lib : Source} {rest : List (List ℕ)} {number at : ℕ} → IsLibrary libs name place lib → LibFirst lib.bytes number at → LibrariesFirst libs (name ∷ rest) number lib at
  later : {name : List ℕ} {place : ℕ} {lib broken : Source} {rest : List (List ℕ)} {number at : ℕ} → IsLibrary libs name place lib → IsCleanScript lib.bytes scope.Lib → LibrariesFirst libs rest number broken at → LibrariesFirst libs (name ∷ rest) number broken at

-- SlotFirst: the first broken rule of a slot, the file in which it is broken, and the byte of that file. The first of the four parts in which a rule is broken decides.
pub data SlotFirst (slot : Slot) : Rule → Source → ℕ → Type 0 where
  -- the markup of its file
  markup : {number at : ℕ} → FirstOfSlot slot.name (keys_of slot.libs) slot.file.bytes number at → SlotFirst slot (rule.M number) slot.file at
  -- its `ADSAFE.id` script
  id_script : {file : Trees Places} {span : Span} {number at : ℕ} → IsFile slot file → id_span file ≡ Some span → ScriptFirst (script_text slot.file.bytes span) (scope.Id slot.name) number at → SlotFirst slot (rule.A number) slot.file (span.from + at)
  -- the libraries that it names, in order
  library : {file : Trees Places} {number at : ℕ} {lib : Source} → IsFile slot file → IsIdClean slot.name slot.file.bytes (id_span file) → LibrariesFirst slot.libs (named_libs file) number lib at → SlotFirst slot (rule.A number) lib at
  -- its last script
  go_script : {file : Trees Places} {places : List ℕ} {programs : List Stmts} {span : Span} {number at : ℕ} → IsFile slot file → IsIdClean slot.name slot.file.bytes (id_span file) → AreClean slot.libs (named_libs file) places programs → last_span file ≡ Some span → ScriptFirst (script_text slot.file.bytes span) (scope.Go slot.name) number at → SlotFirst slot (rule.A number) slot.file (span.from + at)

-- Widget: the slot breaks no rule. Its widget is the subtree of its file, the programs of its libraries in order, with their places in the list, and the program of its last script.
pub record IsWidget (slot : Slot) (file : Trees Places) (places : List ℕ) (programs : List Stmts) (script : Stmts) : Type 0 where
  pub has : IsFile slot file
  pub id : IsIdClean slot.name slot.file.bytes (id_span file)
  pub libs : AreClean slot.libs (named_libs file) places programs
  pub span : Span
  pub there : last_span file ≡ Some span
  pub last : IsScript (script_text slot.file.bytes span) (scope.Go slot.name) script

-- the slot breaks no rule
pub record IsCleanSlot (slot : Slot) : Type 0 where
  pub file : Trees Places
  pub places : List ℕ
  pub programs : List Stmts
  pub script : Stmts
  pub widget : IsWidget slot file places programs script
