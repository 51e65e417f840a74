-- What a widget file is judged to be: a form, or its first broken markup rule.
use Rattle.std.specs.Prelude.{ℕ, List}
use Rattle.plain_tree.specs.Trees.{Trees}
use Rattle.plain_tree.specs.Plains.{Places}
use Rattle.markup_grammar.specs.Markup.{MarkupSpells, BadMarkupPlace}
use Rattle.markup_reader.specs.declared.fault.MarkupFault.{MarkupFault}
use Rattle.markup_reader.specs.declared.fault.MarkupFault.TheVariants as markup
use Rattle.markup_rules.specs.declared.rule_numbers.TheConstants as number
use Rattle.widget_form.specs.declared.form.Form.{Form}
use Rattle.widget_form.specs.declared.form.FormFault.{FormFault}
use Rattle.widget_form.specs.declared.form.FormFault.TheVariants as form
use Rattle.widget_form.specs.Rows.{First, IsGood}
use Rattle.widget_form.specs.Forms.{IsForm}
use Rattle.slot_check.specs.declared.markup.CheckMarkupFault.{CheckMarkupFault}
use Rattle.slot_check.specs.declared.markup.CheckMarkupFault.TheVariants as fault

-- the bytes are a file that breaks no markup rule, and has this form
pub record IsSlot (name : List ℕ) (libs : List (List ℕ)) (bytes : List ℕ) (form : Form) : Type 0 where
  pub file : Trees Places
  pub spelled : MarkupSpells bytes file
  pub good : IsGood name libs file
  pub parts : IsForm name file form

-- the first broken rule of M01 to M12: M01 where the bytes are no file, and otherwise the first of the others
pub data FirstOfSlot (name : List ℕ) (libs : List (List ℕ)) (bytes : List ℕ) : ℕ → ℕ → Type 0 where
  M01 : {at : ℕ} → BadMarkupPlace bytes at → FirstOfSlot name libs bytes number.M01 at
  of_file : {file : Trees Places} {rule at : ℕ} → MarkupSpells bytes file → First name libs file rule at → FirstOfSlot name libs bytes rule at

-- what comes of bytes that are no file, and of a file without a form
abbrev pub fault_of_markup : MarkupFault → CheckMarkupFault
fault_of_markup (markup.BadMarkup at) = fault.Broken number.M01 at
fault_of_markup markup.Memory = fault.Memory

abbrev pub fault_of_form : FormFault → CheckMarkupFault
fault_of_form (form.BadForm rule at) = fault.Broken rule at
fault_of_form form.Memory = fault.Memory

-- the fault is the first broken rule, or memory ran out
abbrev pub IsSlotFault : List ℕ → List (List ℕ) → List ℕ → CheckMarkupFault → Type 0
IsSlotFault name libs bytes (fault.Broken rule at) = FirstOfSlot name libs bytes rule at
IsSlotFault name libs bytes fault.Memory = Unit {0}
