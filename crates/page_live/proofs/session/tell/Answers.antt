use Rattle.std.proofs.Common.{ap, ◌∙◌, ◌++◌, length, map, sym}
use Rattle.live_text.specs.Answer.{answer_text, shown}
use Rattle.page_live.specs.Page.{picked}
use Rattle.page_live.proofs.session.tell.Goals as goal

pub returns-clause-answer : goal.returns-clause-answer
returns-clause-answer c = λ pieces owns shows. record {
  flags = c.in_ok-flags.flags.items;
  renewed = c.in_ok-flags.ensures.renewed pieces owns shows;
  appended = c.in_ok-push_answer.ensures ∙ ap (λ ss. c.args.out.now.items ++ answer_text c.args.page.now.taken ss) (ap (map (λ e. shown e.now)) c.deref-3.ensures.value ∙ c.in_ok-some.ensures ∙ ap (λ bs. picked bs (map shown c.deref.result.now)) c.deref-2.ensures.value ∙ ap (λ es. picked c.in_ok-flags.flags.items (map shown es)) c.deref.ensures.value);
}

pub flagged-requires : goal.flagged-requires
flagged-requires c = ap length c.deref-2.ensures.value ∙ c.in_ok-flags.ensures.flags ∙ sym (ap length c.deref.ensures.value ∙ c.renew.ensures.many)
