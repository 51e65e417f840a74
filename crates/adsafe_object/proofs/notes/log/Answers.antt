use Rattle.std.proofs.Common.{ℕ, ◌+◌, length, refl, ap, ◌∙◌, None}
use Rattle.std.proofs.lemmas.Result.{IfOk-weaker}
use Rattle.widget_meaning.specs.Values.{Undefined}
use Rattle.widget_meaning.specs.OwnState.{State}
use Rattle.widget_meaning.specs.Plan.{Plan, charge}
use Rattle.widget_meaning.specs.Costs.{give, pay, units_cost}
use Rattle.widget_meaning.specs.AdsafeNatives.{log_native, log_text, with_entry}
use Rattle.js_image.specs.Image.{image, seen}
use Rattle.js_image.proofs.Grown.{kept_same}
use Rattle.adsafe_object.specs.Names.{text_plan}
use Rattle.adsafe_object.specs.Notes.{Notes}
use Rattle.adsafe_object.proofs.Exits.{noted_charged, noted_free, noted_refused, noted_same}
use Rattle.adsafe_object.proofs.notes.log.Goals as goal

pub returns-in_default-clause-native : goal.returns-in_default-clause-native
returns-in_default-clause-native c = λ waiting posts.
    let s = c.args.store.now in
    let w = c.args.w.index in
    let notes : Notes = record { log = c.args.log.now.items; posts = posts; asked = None } in
    noted_same w waiting s s notes notes (λ d t. log_native (seen w s.cells c.args.v.now) t) (λ d t. text_plan None t (λ x. log_text x t)) _ c.args.meter.now c.args.meter.now
    (λ fs r d. c.in_ok-text.ensures w s.cells (image fs r w s) (λ x. log_text x (image fs r w s)) ∙ ap (λ o. text_plan o (image fs r w s) (λ x. log_text x (image fs r w s))) c.in_default.is)
    (noted_free w waiting s s notes notes _ _ c.args.meter.now (record { leaves = λ fs r node d few. refl; fine = tt; paid = λ f. f; kept = λ fs. kept_same fs w s s refl }))

pub returns-in-Err : goal.returns-in-Err
returns-in-Err c = record {
  native = λ waiting posts.
      let s = c.args.store.now in
      let w = c.args.w.index in
      let t = c.in-Some.text in
      let notes : Notes = record { log = c.args.log.now.items; posts = posts; asked = None } in
      let rest : ℕ → State → Plan = λ d x. pay (units_cost (length t + 1)) x (λ u. give Undefined (with_entry u t)) in
      noted_same w waiting s s notes notes (λ d x. log_native (seen w s.cells c.args.v.now) x) (λ d x. charge (length t) x (rest d x)) _ c.args.meter.now c.take.new.meter
      (λ fs r d. c.in_ok-text.ensures w s.cells (image fs r w s) (λ x. log_text x (image fs r w s)) ∙ ap (λ o. text_plan o (image fs r w s) (λ x. log_text x (image fs r w s))) c.in-Some.is)
      (noted_refused w waiting s notes (length t) rest c.args.meter.now c.take.new.meter (c.in-Err.ensures.err (length t) c.text_len.ensures.counted) c.in-Err.ensures.same);
  memory = tt;
}

pub returns-in-Ok : goal.returns-in-Ok
returns-in-Ok c = record {
  native = IfOk-weaker c.append.result _ _ (λ o h. λ waiting posts.
      let s = c.args.store.now in
      let w = c.args.w.index in
      let t = c.in-Some.text in
      let before : Notes = record { log = c.args.log.now.items; posts = posts; asked = None } in
      let after : Notes = record { log = c.append.new.log.items; posts = posts; asked = None } in
      let rest : ℕ → State → Plan = λ d x. pay (units_cost (length t + 1)) x (λ u. give Undefined (with_entry u t)) in
      let paid = c.in-Ok.ensures.ok (length t) c.text_len.ensures.counted in
      noted_same w waiting s c.append.new.store before after (λ d x. log_native (seen w s.cells c.args.v.now) x) (λ d x. charge (length t) x (rest d x)) o c.args.meter.now c.take.new.meter
      (λ fs r d. c.in_ok-text.ensures w s.cells (image fs r w s) (λ x. log_text x (image fs r w s)) ∙ ap (λ p. text_plan p (image fs r w s) (λ x. log_text x (image fs r w s))) c.in-Some.is)
      (noted_charged w waiting s c.append.new.store before after (length t) rest o c.args.meter.now c.take.new.meter paid.0 paid.1 (h waiting posts))) c.append.ensures.ends;
  memory = c.append.ensures.memory;
}
