use Rattle.std.proofs.Common.{◌≡◌, Err, Ok, ap, arith, refl, subst, sym, ◌∙◌}
use Rattle.adsafe_rules.specs.declared.scope.Scope.TheVariants as scope
use Rattle.script_check.specs.Script.{LibFirst}
use Rattle.script_check.specs.Verdict.{IsScriptFault}
use Rattle.slot_check.specs.declared.libraries.Known.TheVariants as known
use Rattle.slot_check.specs.declared.sources.SourceFile.{SourceFile}
use Rattle.slot_check.proofs.Accepting.{clean_script}
use Rattle.slot_check.proofs.Judging.{judged_at, known_now, within_known}
use Rattle.slot_check.proofs.libraries.Libraries.accept.Goals as goal

pub index_mut-requires : goal.index_mut-requires
index_mut-requires c =
    let within = within_known c.args.libs.now c.args.self.now c.args.place c.requires.judged c.requires.inside in
    omega (arith, within, c.args.self.now.known.ok.0)

pub index_mut-requires-in-Err-Broken : goal.index_mut-requires-in-Err-Broken
index_mut-requires-in-Err-Broken c =
    let within = within_known c.args.libs.now c.args.self.now c.args.place c.requires.judged c.requires.inside in
    omega (arith, within, c.args.self.now.known.ok.0)

pub returns-in-Ok-clause-accepted : goal.returns-in-Ok-clause-accepted
returns-in-Ok-clause-accepted c = judged_at c.args.libs.now c.args.place c.index-libs-place.result c.deref.result.now (Ok c.in-Ok.accepted) c.requires.inside c.index-libs-place.is (c.deref.ensures.value ∙ ap (λ (f : SourceFile). f.bytes.items) (sym c.index-libs-place.is)) c.in-Ok.ensures.accepted

pub returns-in-Ok-clause-judged : goal.returns-in-Ok-clause-judged
returns-in-Ok-clause-judged c =
    let shown = c.deref.result.now in
    known_now c.args.libs.now c.args.self.now _ c.args.place c.index-libs-place.result shown known.Clean c.requires.judged c.requires.inside c.index-libs-place.is (c.deref.ensures.value ∙ ap (λ (f : SourceFile). f.bytes.items) (sym c.index-libs-place.is)) (clean_script shown scope.Lib c.in-Ok.accepted c.in-Ok.ensures.accepted) refl refl

pub returns-in-Err-Broken-clause-accepted : goal.returns-in-Err-Broken-clause-accepted
returns-in-Err-Broken-clause-accepted c =
    let shown = c.deref.result.now in
    let b = c.in-Err-Broken.breach in
    let first : LibFirst shown b.rule b.at = subst (IsScriptFault shown scope.Lib) c.in-Err-Broken.field-0-is c.in-Err-Broken.ensures.refused in
    judged_at c.args.libs.now c.args.place c.index-libs-place.result shown (Err b) c.requires.inside c.index-libs-place.is (c.deref.ensures.value ∙ ap (λ (f : SourceFile). f.bytes.items) (sym c.index-libs-place.is)) first

pub returns-in-Err-Broken-clause-judged : goal.returns-in-Err-Broken-clause-judged
returns-in-Err-Broken-clause-judged c =
    let shown = c.deref.result.now in
    let b = c.in-Err-Broken.breach in
    let first : LibFirst shown b.rule b.at = subst (IsScriptFault shown scope.Lib) c.in-Err-Broken.field-0-is c.in-Err-Broken.ensures.refused in
    known_now c.args.libs.now c.args.self.now _ c.args.place c.index-libs-place.result shown (known.Broken b) c.requires.judged c.requires.inside c.index-libs-place.is (c.deref.ensures.value ∙ ap (λ (f : SourceFile). f.bytes.items) (sym c.index-libs-place.is)) first refl refl
