-- A slot has one widget.
use Rattle.std.proofs.Common.{◌≡◌, ℕ, List, ◌∷◌, Some, refl, sym, ap, subst, ◌∙◌}
use Rattle.exact_refusals.specs.Places.{HasTree}
use Rattle.js_tokens.proofs.Answer.{one_reading}
use Rattle.js_tree.specs.Plain.{Stmts}
use Rattle.js_grammar.specs.Grammar.{IsProgram}
use Rattle.js_grammar.proofs.Laws.{one_tree}
use Rattle.js_parser.specs.Signs.{input}
use Rattle.adsafe_rules.specs.declared.scope.Scope.{Scope}
use Rattle.adsafe_rules.specs.declared.scope.Scope.TheVariants as scope
use Rattle.plain_tree.specs.Trees.{Trees}
use Rattle.plain_tree.specs.Plains.{Places}
use Rattle.markup_grammar.proofs.Answers as markup
use Rattle.script_check.specs.Script.{IsScript}
use Rattle.trace_text.specs.declared.line.Rule.{Rule}
use Rattle.slot_check.specs.Sources.{Source, Slot, script_text, IsLibrary}
use Rattle.slot_check.specs.Slot.{AreClean, none, more, SlotFirst, IsWidget, IsCleanSlot, named_libs, last_span}
use Rattle.slot_check.proofs.Firsts.{first_not_clean}
use Rattle.widget_meaning.specs.Alone.{Content}
use Rattle.page_check.specs.Widgets.{widget, HasWidget}

some_is : {A : Type 0} (x y : A) → Some x ≡ Some y → x ≡ y
some_is x y e = cc

-- a script has one program
pub one_script : (bytes : List ℕ) (position : Scope) (p q : Stmts) → IsScript bytes position p → IsScript bytes position q → p ≡ q
one_script bytes position p q a b =
    let other : HasTree IsProgram 200 (input bytes a.tokens) q = subst (λ ts. HasTree IsProgram 200 (input bytes ts) q) (one_reading bytes b.tokens a.tokens b.reads.lexes a.reads.lexes) b.reads.spells in
    (one_tree a.reads.spells.tokens other.tokens p q a.reads.spells.spelled other.spelled (a.reads.spells.same ∙ sym other.same)).1

-- the library of a name is one
one_library : (libs : List Source) (name : List ℕ) (p q : ℕ) (l m : Source) → IsLibrary libs name p l → IsLibrary libs name q m → l ≡ m
one_library libs name p q l m a b =
    let same : p ≡ q = some_is p q (sym a.first ∙ b.first) in
    let there : Some l ≡ Some m = cc (a.there, b.there, same) in
    some_is l m there

-- and so have libraries
programs_once : (libs : List Source) (names : List (List ℕ)) (ats bts : List ℕ) (ps qs : List Stmts) → AreClean libs names ats ps → AreClean libs names bts qs → ps ≡ qs
programs_once libs names ats bts ps qs none none = refl
programs_once libs names ats bts ps qs (more {name = n} {place = i} {lib = l} {program = p} {names = ns} {places = is} {programs = rest} at script others) (more {place = j} {lib = m} {program = q} {places = js} {programs = more_of} also scripts behind) =
    let same : l ≡ m = one_library libs n i j l m at also in
    let here : p ≡ q = one_script m.bytes scope.Lib p q (subst (λ s. IsScript s.bytes scope.Lib p) same script) scripts in
    ap (λ x. x ∷ rest) here ∙ ap (λ xs. q ∷ xs) (programs_once libs ns is js rest more_of others behind)

module _ (slot : Slot) where
  same_widget : (f g : Trees Places) (ats bts : List ℕ) (ps qs : List Stmts) (s t : Stmts) → IsWidget slot f ats ps s → IsWidget slot g bts qs t → widget f ps s ≡ widget g qs t
  same_widget f g ats bts ps qs s t a b =
      let file : f ≡ g = markup.one_reading slot.file.bytes f g a.has.spelled b.has.spelled in
      let programs : ps ≡ qs = programs_once slot.libs (named_libs g) ats bts ps qs (subst (λ x. AreClean slot.libs (named_libs x) ats ps) file a.libs) b.libs in
      let span : a.span ≡ b.span = some_is a.span b.span (sym a.there ∙ ap last_span file ∙ b.there) in
      let script : s ≡ t = one_script (script_text slot.file.bytes b.span) (scope.Go slot.name) s t (subst (λ x. IsScript (script_text slot.file.bytes x) (scope.Go slot.name) s) span a.last) b.last in
      ap (λ x. widget x ps s) file ∙ ap (λ xs. widget g xs s) programs ∙ ap (widget g qs) script

  pub widget_once : (x y : Content) → HasWidget slot x → HasWidget slot y → x ≡ y
  widget_once x y a b = a.same ∙ same_widget a.file b.file a.places b.places a.programs b.programs a.script b.script a.is b.is ∙ sym b.same

  pub widget_clean : (x : Content) → HasWidget slot x → IsCleanSlot slot
  widget_clean x a = record { file = a.file; places = a.places; programs = a.programs; script = a.script; widget = a.is }

  pub never_refused : (x : Content) (rule : Rule) (file : Source) (at : ℕ) → HasWidget slot x → SlotFirst slot rule file at → ⊥
  never_refused x rule file at a first = first_not_clean slot rule file at first (widget_clean x a)

  pub some_widget : IsCleanSlot slot → ((x : Content) → HasWidget slot x → ⊥) → ⊥
  some_widget clean never = never (widget clean.file clean.programs clean.script) (record { file = clean.file; places = clean.places; programs = clean.programs; script = clean.script; is = clean.widget; same = refl })
