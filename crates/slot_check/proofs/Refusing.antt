-- The faults of a widget file.
use Rattle.std.proofs.Common.{◌≡◌, ℕ, List, Result, Ok, Err, IfErr, sym, subst}
use Rattle.std.specs.Result.{IsErrAnd}
use Rattle.plain_tree.specs.Trees.{Trees}
use Rattle.plain_tree.specs.Plains.{Places}
use Rattle.markup_grammar.specs.Markup.{MarkupSpells}
use Rattle.markup_reader.specs.declared.fault.MarkupFault.{MarkupFault}
use Rattle.markup_reader.specs.declared.fault.MarkupFault.TheVariants as markup
use Rattle.markup_reader.specs.Faults.{IsMarkupFault}
use Rattle.widget_form.specs.declared.form.FormFault.{FormFault}
use Rattle.widget_form.specs.declared.form.FormFault.TheVariants as form
use Rattle.widget_form.specs.Forms.{IsFormFault}
use Rattle.slot_check.specs.declared.markup.CheckMarkupFault.{CheckMarkupFault}
use Rattle.slot_check.specs.Slots.{IsSlotFault, M01, of_file, fault_of_markup, fault_of_form}

module _ (name : List ℕ) (libs : List (List ℕ)) (bytes : List ℕ) where
  markup_fault : (f : MarkupFault) → IsMarkupFault bytes f → IsSlotFault name libs bytes (fault_of_markup f)
  markup_fault (markup.BadMarkup at) h = M01 h
  markup_fault markup.Memory h = tt

  form_fault : (file : Trees Places) (f : FormFault) → MarkupSpells bytes file → IsFormFault name libs file f → IsSlotFault name libs bytes (fault_of_form f)
  form_fault file (form.BadForm rule at) spelled h = of_file spelled h
  form_fault file form.Memory spelled h = tt

  -- what is handed on of bytes that are no file, and of a file without a form
  pub pass_markup : {X : Type 0} (r : Result X CheckMarkupFault) (f : MarkupFault) → IsErrAnd r (λ e. e ≡ fault_of_markup f) → IsMarkupFault bytes f → IfErr r (IsSlotFault name libs bytes)
  pass_markup (Ok x) f is h = absurd is
  pass_markup (Err e) f is h = subst (IsSlotFault name libs bytes) (sym is) (markup_fault f h)

  pub pass_form : {X : Type 0} (r : Result X CheckMarkupFault) (file : Trees Places) (f : FormFault) → IsErrAnd r (λ e. e ≡ fault_of_form f) → MarkupSpells bytes file → IsFormFault name libs file f → IfErr r (IsSlotFault name libs bytes)
  pass_form (Ok x) file f is spelled h = absurd is
  pass_form (Err e) file f is spelled h = subst (IsSlotFault name libs bytes) (sym is) (form_fault file f spelled h)
