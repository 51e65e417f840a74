use Rattle.std.proofs.Common.{ℕ, ◌≤◌, length, ◌∙◌, subst, None}
use Rattle.std.proofs.lemmas.Result.{IfOk-weaker}
use Rattle.widget_meaning.specs.OwnState.{State}
use Rattle.widget_meaning.specs.Plan.{Plan, charge}
use Rattle.widget_meaning.specs.AdsafeNatives.{keep_post, post}
use Rattle.js_image.specs.Image.{image, seen}
use Rattle.adsafe_object.specs.Notes.{Notes}
use Rattle.adsafe_object.proofs.Exits.{noted_charged, noted_refused, noted_same}
use Rattle.adsafe_object.proofs.Noting.{post_short}
use Rattle.adsafe_object.proofs.notes.post.Goals as goal

pub returns-in-Err-clause-native : goal.returns-in-Err-clause-native
returns-in-Err-clause-native c = λ waiting log.
    let s = c.args.store.now in
    let w = c.args.w.index in
    let to = c.in-Text.to in
    let t = c.in-Text-text.text in
    let notes : Notes = record { log = log; posts = c.args.posts.now.items; asked = None } in
    let rest : ℕ → State → Plan = λ d x. keep_post to t x in
    noted_same w waiting s s notes notes (λ d x. post (seen w s.cells c.args.to.now) (seen w s.cells c.args.text.now) x) (λ d x. charge (length t) x (rest d x)) _ c.args.meter.now c.take.new.meter
    (λ fs r d. (λ j. post (seen w s.cells (c.in-Text.is j)) (seen w s.cells (c.in-Text-text.is j)) (image fs r w s)) ∙ post_short to t (image fs r w s) (subst (λ n. n ≤ 1024) c.text_len-len.ensures.exact c.if-len-gt-LONGEST_POST.false))
    (noted_refused w waiting s notes (length t) rest c.args.meter.now c.take.new.meter (c.in-Err.ensures.err (length t) c.text_len-len.ensures.counted) c.in-Err.ensures.same)

pub returns-in-Ok-clause-native : goal.returns-in-Ok-clause-native
returns-in-Ok-clause-native c = IfOk-weaker c.keep_post.result _ _ (λ o h. λ waiting log.
    let s = c.args.store.now in
    let w = c.args.w.index in
    let to = c.in-Text.to in
    let t = c.in-Text-text.text in
    let before : Notes = record { log = log; posts = c.args.posts.now.items; asked = None } in
    let after : Notes = record { log = log; posts = c.keep_post.new.posts.items; asked = None } in
    let rest : ℕ → State → Plan = λ d x. keep_post to t x in
    let paid = c.in-Ok.ensures.ok (length t) c.text_len-len.ensures.counted in
    noted_same w waiting s c.keep_post.new.store before after (λ d x. post (seen w s.cells c.args.to.now) (seen w s.cells c.args.text.now) x) (λ d x. charge (length t) x (rest d x)) o c.args.meter.now c.take.new.meter
    (λ fs r d. (λ j. post (seen w s.cells (c.in-Text.is j)) (seen w s.cells (c.in-Text-text.is j)) (image fs r w s)) ∙ post_short to t (image fs r w s) (subst (λ n. n ≤ 1024) c.text_len-len.ensures.exact c.if-len-gt-LONGEST_POST.false))
    (noted_charged w waiting s c.keep_post.new.store before after (length t) rest o c.args.meter.now c.take.new.meter paid.0 paid.1 (h waiting log))) c.keep_post.ensures.ends
