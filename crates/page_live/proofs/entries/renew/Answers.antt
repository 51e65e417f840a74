use Rattle.std.proofs.Common.{◌≡◌, ◌<◌, ◌+◌, List, Bool, Some, length, refl, subst, sym, ap, ◌∙◌, arith}
use Rattle.std.specs.Prelude.{slice_get, slice_set}
use Rattle.std.proofs.lemmas.List.{length-map, length_push}
use Rattle.live_text.specs.Answer.{shown}
use Rattle.page_live.specs.Page.{IsRenewed, told_at}
use Rattle.page_play.proofs.Telling.{read_at}
use Rattle.page_live.proofs.Entering.{AreDone, done_none, done_more, set_length, get_other}
use Rattle.page_live.proofs.entries.renew.Goals as goal

pub slots-init : goal.slots-init
slots-init c = record {
  within = omega arith;
  many = ap length c.new-flags.ensures.items;
  long = refl;
  done = λ pieces owns shows. subst (λ (bs : List Bool). AreDone c.args.page.now.findings owns c.args.touched 0 c.args.written.now.items c.args.written.now.items bs) (sym c.new-flags.ensures.items) (done_none c.args.page.now.findings owns c.args.touched c.args.written.now.items);
  rest = λ u less. refl;
}

pub slots-preserved : goal.slots-preserved
slots-preserved c =
    let i = c.slots.invariant in
    let f = c.args.page.now.findings in
    let w = c.slots.w in
    let now = c.slots.written.items in
    let old = c.args.written.now.items in
    let was = c.index_mut.result.now in
    let is = c.renew_one.new.entry in
    let less : w < length now = omega (arith, c.slots-test.true, c.len-w-end.ensures, c.args.written.now.ok.0, i.long) in
    let was_at : slice_get old w ≡ Some was = sym (i.rest w (omega arith)) ∙ read_at now w was less c.index_mut.ensures.value in
    let size = set_length now w is in
    record {
      within = omega (arith, less, size);
      many = ap length c.in_ok-push.ensures.items ∙ length_push c.slots.flags.items c.in_ok-flag.flag ∙ ap (λ n. n + 1) i.many;
      long = size ∙ i.long;
      done = λ pieces owns shows.
          subst (λ (bs : List Bool). AreDone f owns c.args.touched (w + 1) old (slice_set now w is) bs) (sym c.in_ok-push.ensures.items)
          (done_more f owns c.args.touched w old now c.slots.flags.items was is c.in_ok-flag.flag (sym i.many) less was_at (i.done pieces owns shows)
          (λ own at. subst (λ b. IsRenewed (told_at f w) own b (shown was) (shown is) c.in_ok-flag.flag) c.is_at-looks.ensures (c.in_ok-flag.ensures pieces owns own shows at)));
      rest = λ u beyond. get_other now w u is (λ e. absurd (omega (arith, e, beyond))) ∙ i.rest u (omega (arith, beyond));
    }

pub returns-clause-renewed : goal.returns-clause-renewed
returns-clause-renewed c = λ pieces owns shows.
    let i = c.slots.invariant in
    let new = length-map c.slots.written.items shown in
    let old = length-map c.args.written.now.items shown in
    record {
      many = new ∙ i.long ∙ sym old;
      flagged = omega (arith, i.many, i.within, i.long, old, c.slots-test.false, c.len-w-end.ensures, c.args.written.now.ok.0);
      each = (i.done pieces owns shows).each;
    }

pub returns-clause-flags : goal.returns-clause-flags
returns-clause-flags c = let i = c.slots.invariant in omega (arith, i.many, i.within, i.long, c.slots-test.false, c.len-w-end.ensures, c.args.written.now.ok.0)
