use Rattle.std.proofs.Common.{◌≡◌, List, String, Global, string_bytes, bytes_eq, true, false, sym, ap, ◌∙◌}
use Rattle.std.specs.List.{list_any}
use Rattle.manifest_shape.proofs.LibLemmas.{no_lib_yet, too_many_libs, lib_no_text, lib_again, libs_more, all_libs}
use Rattle.manifest_shape.proofs.libs.read_names.Goals as goal

pub returns-then-texts-gt-MOST_LIBS-clause-misfit : goal.returns-then-texts-gt-MOST_LIBS-clause-misfit
returns-then-texts-gt-MOST_LIBS-clause-misfit c = λ err all are. too_many_libs c.args.texts.now all c.if-texts-gt-MOST_LIBS.true are

pub texts-init : goal.texts-init
texts-init c = no_lib_yet c.args.texts.now c.new-libs.result.items c.new-libs.ensures.items

pub returns-in_default-clause-misfit : goal.returns-in_default-clause-misfit
returns-in_default-clause-misfit c = λ err all are.
    lib_no_text c.args.texts.now c.texts.text-index c.text-item.result all c.texts-test.true c.text-item.is c.in_default.ensures are

pub returns-then-is_named-clause-misfit : goal.returns-then-is_named-clause-misfit
returns-then-is_named-clause-misfit c = λ err all are.
    let name = c.in-Some.name.now in
    let again : true ≡ list_any (λ lib. bytes_eq (string_bytes lib) name) c.texts.libs.items =
    sym c.if-is_named.true ∙ c.is_named.ensures ∙ ap (λ (ls : List (String Global)). list_any (λ lib. bytes_eq (string_bytes lib) name) ls) c.deref.ensures.value in
    lib_again c.args.texts.now c.texts.text-index c.text-item.result c.texts.libs.items all name c.texts-test.true c.text-item.is c.texts.invariant c.in-Some.ensures again are

pub texts-preserved : goal.texts-preserved
texts-preserved c =
    let name = c.in-Some.name.now in
    let fresh : false ≡ list_any (λ lib. bytes_eq (string_bytes lib) name) c.texts.libs.items =
    sym c.if-is_named.false ∙ c.is_named.ensures ∙ ap (λ (ls : List (String Global)). list_any (λ lib. bytes_eq (string_bytes lib) name) ls) c.deref.ensures.value in
    libs_more c.args.texts.now c.texts.text-index c.text-item.result c.texts.libs.items c.push.new.self.items c.in_ok-from_str.field-0 name c.texts-test.true c.text-item.is c.texts.invariant c.in-Some.ensures c.in_ok-from_str.ensures.ok fresh c.in_ok-push.ensures.items

pub returns-clause-ok : goal.returns-clause-ok
returns-clause-ok c = all_libs c.args.texts.now c.texts.text-index c.texts.libs.items c.texts-test.false c.if-texts-gt-MOST_LIBS.false c.texts.invariant
