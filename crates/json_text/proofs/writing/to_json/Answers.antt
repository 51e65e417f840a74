use Rattle.std.proofs.Common.{ℕ, List, refl, sym, ap, ◌∙◌, arith}
use Rattle.widget_meaning.specs.Values as meaning
use Rattle.widget_meaning.specs.Plan.{Halt, charge}
use Rattle.widget_meaning.specs.Costs.{throw}
use Rattle.widget_meaning.specs.JsonTexts.{Wrote, give_json, to_json, value_text}
use Rattle.js_image.specs.Image.{image, seen}
use Rattle.js_image.specs.declared.outcome.Fault.TheVariants as fault
use Rattle.js_image.specs.declared.outcome.StopCause.TheVariants as cause
use Rattle.js_values.specs.declared.outcome.NativeOut.TheVariants as native
use Rattle.native_common.proofs.Meeting.{ends_here, refines_free}
use Rattle.json_text.specs.declared.steps.Step.TheVariants as step
use Rattle.json_text.proofs.Ended.{confined_as}
use Rattle.json_text.proofs.Texts.{step_is}
use Rattle.json_text.proofs.writing.to_json.Goals as goal

pub returns-in-NoJson-clause-native : goal.returns-in-NoJson-clause-native
returns-in-NoJson-clause-native c =
    let s = c.args.store.now in
    let w = c.args.w.index in
    confined_as w s s c.args.meter.now c.args.meter.now (λ d t. to_json (seen w s.cells c.args.v.now) t) (λ d t. throw meaning.E4 t) (native.Throw fault.E4)
    (λ fs r d confined. ap (λ x. give_json x (image fs r w s)) (sym (step_is _ step.NoJson c.write_value.new.out.items _ c.in-NoJson.is (c.in_ok-write_value.ensures fs r w confined c.requires)
    ∙ ap (value_text 100 (image fs r w s) (seen w s.cells c.args.v.now)) c.new-out.ensures.items)))
    (refines_free w s s (λ d t. throw meaning.E4 t) (native.Throw fault.E4) c.args.meter.now (ends_here w s (λ d t. throw meaning.E4 t) (native.Throw fault.E4) (λ fs r node d. refl) tt))

pub returns-in-TooLong-clause-native : goal.returns-in-TooLong-clause-native
returns-in-TooLong-clause-native c =
    let s = c.args.store.now in
    let w = c.args.w.index in
    confined_as w s s c.args.meter.now c.charged.new.meter (λ d t. to_json (seen w s.cells c.args.v.now) t) (λ d t. charge 65537 t (Halt meaning.LongText t)) c.charged.result
    (λ fs r d confined. ap (λ x. give_json x (image fs r w s)) (sym (step_is _ step.TooLong c.write_value.new.out.items _ c.in-TooLong.is (c.in_ok-write_value.ensures fs r w confined c.requires)
    ∙ ap (value_text 100 (image fs r w s) (seen w s.cells c.args.v.now)) c.new-out.ensures.items)))
    (c.charged.ensures w s (λ d t. Halt meaning.LongText t) 65537 (omega arith) (ends_here w s (λ d t. Halt meaning.LongText t) (native.Stop cause.LongText) (λ fs r node d. refl) tt))

pub returns-in_ok-from_units-in-Wrote-clause-native : goal.returns-in_ok-from_units-in-Wrote-clause-native
returns-in_ok-from_units-in-Wrote-clause-native c =
    let s = c.args.store.now in
    let w = c.args.w.index in
    let text : List ℕ = c.in_ok-from_units-in-Wrote.field-0 in
    confined_as w s c.give_json.new.store c.args.meter.now c.give_json.new.meter (λ d t. to_json (seen w s.cells c.args.v.now) t) (λ d t. give_json (Wrote text) t) c.give_json.result
    (λ fs r d confined. ap (λ x. give_json x (image fs r w s)) (sym (step_is _ step.Wrote c.write_value.new.out.items _ c.in-Wrote.is (c.in_ok-write_value.ensures fs r w confined c.requires)
    ∙ ap (value_text 100 (image fs r w s) (seen w s.cells c.args.v.now)) c.new-out.ensures.items) ∙ ap Wrote (sym c.in_ok-from_units-in-Wrote.ensures)))
    c.give_json.ensures
