-- The sixteen counters of `demo` break no rule.
use Rattle.std.proofs.Common.{◌≡◌, ℕ, List, [], ◌∷◌, map, Bool, true, false, not, ◌&&◌, Option, Some, None, refl, sym}
use Rattle.std.specs.List.{list_all, last_or}
use Rattle.std.specs.Str as str
use Rattle.std.proofs.lemmas.Bool.{false≢true, and_parts}
use Rattle.code_units.specs.Permitted as permitted
use Rattle.js_tokens.specs.Words as tokens
use Rattle.js_tokens.specs.Value as values
use Rattle.js_cursor.specs.Signs as signs
use Rattle.adsafe_rules.specs.declared.scope.Scope.TheVariants as scope
use Rattle.node_rules.specs.Words as words
use Rattle.node_rules.specs.Numbers as numbers
use Rattle.plain_tree.specs.Names as names
use Rattle.plain_tree.specs.Tags as tags
use Rattle.plain_tree.specs.Trees.{Trees}
use Rattle.plain_tree.specs.Plains.{Places}
use Rattle.markup_grammar.specs.Grammar as grammar
use Rattle.widget_form.specs.declared.form.Span.{Span}
use Rattle.widget_form.specs.Forms.{root_scripts}
use Rattle.markup_rules.specs.Words as attributes
use Rattle.slot_check.specs.Sources.{Slot, keys_of, script_text}
use Rattle.slot_check.specs.Slot as slots
use Rattle.slot_check.specs.Slot.{IsIdClean, AreClean, IsCleanSlot, id_span, named_libs}
use Rattle.adhost_run.specs.Demo.{demo_names, demo_run, demo_runs}
use Rattle.adhost_run.proofs.ScriptTests.{is_ascii, is_fine_script, fine_script}
use Rattle.adhost_run.proofs.MarkupTests.{is_bad_markup, good_markup, trees_of, trees_spelled, script_span, script_there}
use Rattle.adhost_run.proofs.SomeReport.{AreClean as AreCleanRuns}

-- ## A file with one script

-- more than a script of a counter is deep
abbrev depth : ℕ
depth = 40

abbrev is_none : Option Span → Bool
is_none None = true
is_none (Some span) = false

abbrev is_empty : List (List ℕ) → Bool
is_empty [] = true
is_empty (name ∷ names) = false

abbrev has_fine_script : Slot → Option Span → Bool
has_fine_script slot None = false
has_fine_script slot (Some span) = is_fine_script depth (scope.Go slot.name) (script_text slot.file.bytes span)

abbrev is_fine_file : Slot → Trees Places → Bool
is_fine_file slot file = not (is_bad_markup slot.name (keys_of slot.libs) file) && (is_none (id_span file) && (is_empty (named_libs file) && has_fine_script slot (script_span (last_or None (root_scripts file)))))

abbrev has_fine_file : Slot → Option (Trees Places) → Bool
has_fine_file slot None = false
has_fine_file slot (Some file) = is_fine_file slot file

abbrev is_fine_slot : Slot → Bool
is_fine_slot slot = is_ascii slot.file.bytes && has_fine_file slot (trees_of slot.file.bytes)

not_bad : (b : Bool) → not b ≡ true → b ≡ false
not_bad true e = sym e
not_bad false e = refl

no_id : (slot : Slot) (o : Option Span) → is_none o ≡ true → IsIdClean slot.name slot.file.bytes o
no_id slot None e = tt
no_id slot (Some span) e = absurd (false≢true e)

no_libs : (slot : Slot) (ns : List (List ℕ)) → is_empty ns ≡ true → AreClean slot.libs ns [] []
no_libs slot [] e = slots.none
no_libs slot (n ∷ ns) e = absurd (false≢true e)

module _ (slot : Slot) (ascii : is_ascii slot.file.bytes ≡ true) (file : Trees Places) (spelled : trees_of slot.file.bytes ≡ Some file) (fine : is_fine_file slot file ≡ true) where
  markup_fine : (not (is_bad_markup slot.name (keys_of slot.libs) file) ≡ true) × ((is_none (id_span file) && (is_empty (named_libs file) && has_fine_script slot (script_span (last_or None (root_scripts file))))) ≡ true)
  markup_fine = and_parts _ _ fine

  id_fine : (is_none (id_span file) ≡ true) × ((is_empty (named_libs file) && has_fine_script slot (script_span (last_or None (root_scripts file)))) ≡ true)
  id_fine = and_parts _ _ markup_fine.1

  libs_fine : (is_empty (named_libs file) ≡ true) × (has_fine_script slot (script_span (last_or None (root_scripts file))) ≡ true)
  libs_fine = and_parts _ _ id_fine.1

  by_script : (o : Option Span) → script_span (last_or None (root_scripts file)) ≡ o → has_fine_script slot o ≡ true → IsCleanSlot slot
  by_script None e is = absurd (false≢true is)
  by_script (Some span) e is =
      let script = fine_script depth (scope.Go slot.name) (script_text slot.file.bytes span) is in
      record {
        file = file;
        places = [];
        programs = [];
        script = script.program;
        widget = record {
          has = record { spelled = trees_spelled slot.file.bytes file ascii spelled; good = good_markup slot.name (keys_of slot.libs) file (not_bad (is_bad_markup slot.name (keys_of slot.libs) file) markup_fine.0) };
          id = no_id slot (id_span file) id_fine.0;
          libs = no_libs slot (named_libs file) libs_fine.0;
          span = span;
          there = script_there (last_or None (root_scripts file)) span e;
          last = script.script;
        };
      }

  fine_file : IsCleanSlot slot
  fine_file = by_script (script_span (last_or None (root_scripts file))) refl libs_fine.1

fine_slot : (slot : Slot) → is_fine_slot slot ≡ true → IsCleanSlot slot
fine_slot slot fine = by (trees_of slot.file.bytes) refl parts.1
  where
    parts : (is_ascii slot.file.bytes ≡ true) × (has_fine_file slot (trees_of slot.file.bytes) ≡ true)
    parts = and_parts _ _ fine

    by : (o : Option (Trees Places)) → trees_of slot.file.bytes ≡ o → has_fine_file slot o ≡ true → IsCleanSlot slot
    by None e is = absurd (false≢true is)
    by (Some file) e is = fine_file slot parts.0 file e is

-- ## The counters

abbrev is_fine_name : List ℕ → Bool
is_fine_name name = is_fine_slot (demo_run name).slot

fine_names : (ns : List (List ℕ)) → list_all is_fine_name ns ≡ true → AreCleanRuns (map demo_run ns)
fine_names [] fine = tt
fine_names (n ∷ ns) fine = let parts = and_parts (is_fine_name n) (list_all is_fine_name ns) fine in (fine_slot (demo_run n).slot parts.0, fine_names ns parts.1)

counters_fine : list_all is_fine_name demo_names ≡ true
unfolding str.chars permitted.is_banned permitted.has_edge_underscore tokens.reserved_words tokens.is_reserved values.text_of signs.words signs.marks words.is_global words.is_callable words.is_reaching numbers.is_refused_number words.is_digit names.is_void names.is_script names.is_bare tags.is_phrase tags.is_block tags.is_list tags.is_form tags.is_table grammar.limit attributes.is_common attributes.is_of_form attributes.is_script_attribute attributes.is_wordy attributes.is_address
counters_fine = refl

pub counters_clean : AreCleanRuns demo_runs
counters_clean = fine_names demo_names counters_fine
