-- A file has one answer of the markup rules.
use Rattle.std.proofs.Common.{◌≡◌, ℕ, List, refl, subst}
use Rattle.first_breach.proofs.Narrowing as breaches
use Rattle.plain_tree.specs.Trees.{Trees}
use Rattle.plain_tree.specs.Plains.{Places}
use Rattle.markup_grammar.specs.Markup.{MarkupSpells}
use Rattle.markup_grammar.proofs.Answers.{one_reading, one_place, one_kind}
use Rattle.widget_form.specs.declared.form.Form.{Form}
use Rattle.widget_form.specs.Rows.{First, IsGood}
use Rattle.slot_check.specs.Slots.{FirstOfSlot, M01, of_file, IsSlot}

module _ (name : List ℕ) (libs : List (List ℕ)) (bytes : List ℕ) where
  pub markup_once : (rule at other place : ℕ) → FirstOfSlot name libs bytes rule at → FirstOfSlot name libs bytes other place → (rule ≡ other) × (at ≡ place)
  markup_once rule at other place (M01 a) (M01 b) = (refl, one_place bytes at place a b)
  markup_once rule at other place (M01 a) (of_file {file = f} s b) = absurd (one_kind bytes f at s a)
  markup_once rule at other place (of_file {file = f} s a) (M01 b) = absurd (one_kind bytes f place s b)
  markup_once rule at other place (of_file {file = f} s a) (of_file {file = g} t b) =
      breaches.one_first a (subst (λ x. First name libs x other place) (one_reading bytes g f t s) b)

  pub no_file : (rule at : ℕ) (f : Trees Places) → FirstOfSlot name libs bytes rule at → MarkupSpells bytes f → IsGood name libs f → ⊥
  no_file rule at f (M01 a) s good = one_kind bytes f at s a
  no_file rule at f (of_file {file = g} t a) s good =
      good rule at (subst (λ x. First name libs x rule at) (one_reading bytes g f t s) a).broken

  pub no_form : (rule at : ℕ) (f : Form) → FirstOfSlot name libs bytes rule at → IsSlot name libs bytes f → ⊥
  no_form rule at f first h = no_file rule at h.file first h.spelled h.good
