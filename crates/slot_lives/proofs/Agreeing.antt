-- Slots that agree have one widget.
use Rattle.std.proofs.Common.{◌≡◌, ℕ, suc, List, ◌∷◌, Option, Some, None, is_some, true, refl, sym, ap, subst, ◌∙◌}
use Rattle.std.specs.Prelude.{slice_get}
use Rattle.js_tree.specs.Plain.{Stmts}
use Rattle.markup_grammar.specs.Markup.{MarkupSpells}
use Rattle.markup_grammar.proofs.Answers as markup
use Rattle.adsafe_rules.specs.declared.scope.Scope.TheVariants as scope
use Rattle.script_check.specs.Script.{IsScript}
use Rattle.widget_form.specs.declared.form.Span.{Span}
use Rattle.slot_check.specs.Sources.{Source, script_text, IsLibrary}
use Rattle.slot_check.specs.Slot.{AreClean, none, more, named_libs, last_span}
use Rattle.widget_meaning.specs.OwnState.{OwnState}
use Rattle.widget_meaning.specs.Items.{Item}
use Rattle.widget_meaning.specs.Alone.{Content, alone}
use Rattle.page_check.specs.Runs.{SlotRun}
use Rattle.page_check.specs.Widgets.{widget, HasWidget}
use Rattle.page_check.proofs.OneWidget.{one_script}
use Rattle.slot_lives.specs.Lives.{Life}
use Rattle.slot_lives.specs.Lines.{life_line}
use Rattle.slot_lives.specs.Ends.{IsLine, ran, refused}
use Rattle.slot_lives.specs.OtherSlots.{unended}
use Rattle.slot_lives.specs.EndLaws.{IsEnd, by_itself, not_accepted}
use Rattle.slot_lives.specs.TwoPages.{Agree, TwoPages}

some_span : (x y : Span) → Some x ≡ Some y → x ≡ y
some_span x y e = cc

-- libraries of the same names with the same bytes have the same programs
same_programs : (libs others : List Source) (names : List (List ℕ)) (ats bts : List ℕ) (ps qs : List Stmts) → ((at : ℕ) (name : List ℕ) (i j : ℕ) (l m : Source) → slice_get names at ≡ Some name → IsLibrary libs name i l → IsLibrary others name j m → l.bytes ≡ m.bytes) → AreClean libs names ats ps → AreClean others names bts qs → ps ≡ qs
same_programs libs others names ats bts ps qs agree none none = refl
same_programs libs others names ats bts ps qs agree (more {name = n} {place = i} {lib = l} {program = p} {names = ns} {places = is} {programs = rest} at script clean) (more {place = j} {lib = m} {program = q} {places = js} {programs = behind} also scripts others_clean) =
    let here : p ≡ q = one_script m.bytes scope.Lib p q (subst (λ bs. IsScript bs scope.Lib p) (agree 0 n i j l m refl at also) script) scripts in
    ap (λ x. x ∷ rest) here ∙ ap (λ xs. q ∷ xs) (same_programs libs others ns is js rest behind (λ k name u v x y there one two. agree (suc k) name u v x y there one two) clean others_clean)

pub one_content : (a b : SlotRun) (x y : Content) → Agree a b → HasWidget a.slot x → HasWidget b.slot y → x ≡ y
one_content a b x y agree has also =
    let bytes = b.slot.file.bytes in
    let file : has.file ≡ also.file = markup.one_reading bytes has.file also.file (subst (λ bs. MarkupSpells bs has.file) agree.file has.is.has.spelled) also.is.has.spelled in
    let programs : has.programs ≡ also.programs = same_programs a.slot.libs b.slot.libs (named_libs also.file) has.places also.places has.programs also.programs
    (λ at name i j l m there one two. agree.libs also.file at name i j l m also.is.has.spelled there one two)
    (subst (λ t. AreClean a.slot.libs (named_libs t) has.places has.programs) file has.is.libs) also.is.libs in
    let span : has.is.span ≡ also.is.span = some_span has.is.span also.is.span (sym has.is.there ∙ ap last_span file ∙ also.is.there) in
    let script : has.script ≡ also.script = one_script (script_text bytes also.is.span) (scope.Go b.slot.name) has.script also.script
    (subst (λ n. IsScript (script_text bytes also.is.span) (scope.Go n) has.script) agree.name
    (subst (λ s. IsScript (script_text bytes s) (scope.Go a.slot.name) has.script) span
    (subst (λ bs. IsScript (script_text bs has.is.span) (scope.Go a.slot.name) has.script) agree.file has.is.last))) also.is.last in
    has.same ∙ ap (λ t. widget t has.programs has.script) file ∙ ap (λ ps. widget also.file ps has.script) programs ∙ ap (widget also.file also.programs) script ∙ sym also.same

-- what such slots come to on the same items
pub same_end : (a b : SlotRun) (given other : List Item) (e f : Option OwnState) → Agree a b → given ≡ other → IsEnd a given e → IsEnd b other f → is_some e ≡ true → is_some f ≡ true → e ≡ f
same_end a b given other e f agree same (by_itself {content = x} has) (by_itself {content = y} also) some more_some =
    ap (λ c. Some (alone c a.fuel given)) (one_content a b x y agree has also) ∙ (ap (λ n. Some (alone y n given)) agree.fuel ∙ ap (λ (is : List Item). Some (alone y b.fuel is)) same)
same_end a b given other e f agree same (by_itself has) (not_accepted first) some more_some = absurd (let e = more_some in cc)
same_end a b given other e f agree same (not_accepted first) (by_itself has) some more_some = absurd (let e = some in cc)
same_end a b given other e f agree same (not_accepted first) (not_accepted second) some more_some = absurd (let e = some in cc)

some_state : (x y : OwnState) → Some x ≡ Some y → x ≡ y
some_state x y e = cc

same_line : (l m : Life SlotRun) (e f : Option OwnState) (a b : List ℕ) → l.runs.slot.name ≡ m.runs.slot.name → e ≡ f → is_some e ≡ true → is_some f ≡ true → IsLine (unended l) e a → IsLine (unended m) f b → a ≡ b
same_line l m e f a b name same some more_some (ran {own = x}) (ran {own = y}) = ap (λ (n : List ℕ). life_line n None x) name ∙ ap (life_line m.runs.slot.name None) (some_state x y same)
same_line l m e f a b name same some more_some (ran {own = x}) (refused first) = absurd (let e = more_some in cc)
same_line l m e f a b name same some more_some (refused first) (ran {own = x}) = absurd (let e = some in cc)
same_line l m e f a b name same some more_some (refused first) (refused second) = absurd (let e = some in cc)

pub two_pages : TwoPages
two_pages l m given other e f a b agree same is also some more_some line k =
    let one : e ≡ f = same_end l.runs m.runs given other e f agree same is also some more_some in
    (one, same_line l m e f a b agree.name one some more_some line k)
