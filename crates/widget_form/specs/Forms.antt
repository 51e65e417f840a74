-- The parts of a widget file that breaks no markup rule.
use Rattle.std.specs.Prelude.{◌≡◌, ℕ, ◌+◌, List, ◌∷◌, Option, Some, None, codes, length, option_map, filter_map}
use Rattle.std.specs.List.{last_or, flat_map}
use Rattle.code_units.specs.Utf8.{utf8_of}
use Rattle.plain_tree.specs.Trees.{Trees, End, Node, TextOf, ElementOf}
use Rattle.plain_tree.specs.Plains.{Places, placed}
use Rattle.widget_form.specs.declared.form.Span.{Span}
use Rattle.widget_form.specs.declared.form.Form.{Form}
use Rattle.widget_form.specs.declared.form.FormFault.{FormFault}
use Rattle.widget_form.specs.declared.form.FormFault.TheVariants as fault
use Rattle.widget_form.specs.declared.file.Scripts.{Scripts}
use Rattle.markup_rules.specs.Elements.{Element, roots, scripts, first_named, body_of}
use Rattle.markup_rules.specs.Rows.{First}

-- where the text of a script stands in the file: its one child; and an empty place where it has none
abbrev pub span_in : ℕ → Trees Places → Span
span_in at End = record { from = at; to = at }
span_in at (Node m (TextOf us) ks ts) = record { from = m.at; to = m.at + length (utf8_of us) }
span_in at (Node m (ElementOf tag attrs) ks ts) = record { from = at; to = at }

abbrev pub span_of : Element → Span
span_of e = span_in e.at e.kids

-- the scripts of the root
abbrev pub root_scripts : Trees Places → List Element
root_scripts file = flat_map scripts (roots file)

-- the library that a script names
abbrev pub source : Element → Option (List ℕ)
source s = option_map (λ a. a.value) (first_named (codes "src") s.attrs)

-- the first of several
abbrev pub first_of_several : List Element → Option Element
first_of_several (s ∷ t ∷ rest) = Some s
first_of_several _ = None

-- the form of a file
pub record IsForm (name : List ℕ) (file : Trees Places) (form : Form) : Type 0 where
  pub named : form.name ≡ name
  pub body : placed form.body ≡ body_of file
  pub id_script : form.id_script ≡ option_map span_of (first_of_several (root_scripts file))
  pub libs : form.libs.items ≡ filter_map source (root_scripts file)
  pub script : Some form.script ≡ option_map span_of (last_or None (root_scripts file))

-- the fault is the first broken rule, or memory ran out
abbrev pub IsFormFault : List ℕ → List (List ℕ) → Trees Places → FormFault → Type 0
IsFormFault name libs file (fault.BadForm rule at) = First name libs file rule at
IsFormFault name libs file fault.Memory = Unit {0}

-- the parts of scripts
pub record HasScripts (scripts : List Element) (s : Scripts) : Type 0 where
  pub id_script : s.id_script ≡ option_map span_of (first_of_several scripts)
  pub libs : s.libs.items ≡ filter_map source scripts
  pub script : Some s.script ≡ option_map span_of (last_or None scripts)
