use Rattle.std.proofs.Common.{◌+◌, List, map, length, subst, sym, ap, ◌∙◌, arith}
use Rattle.std.specs.Prelude.{slice_get}
use Rattle.std.proofs.lemmas.List.{length-map, length_push}
use Rattle.live_text.specs.declared.entry.Entry.{Entry}
use Rattle.live_text.specs.Answer.{shown}
use Rattle.page_live.specs.Page.{IsEntry, told_at}
use Rattle.page_live.proofs.Entering.{AreSaid, said_push}
use Rattle.page_live.proofs.entries.entries.Goals as goal

pub slots-init : goal.slots-init
slots-init c = record { within = omega arith; many = ap length c.new-all.ensures.items; each = λ pieces owns shows w own s own_at s_at. absurd (let e = ap (λ (xs : List Entry). slice_get (map shown xs) w) (sym c.new-all.ensures.items) ∙ s_at in cc) }

pub slots-preserved : goal.slots-preserved
slots-preserved c =
    let i = c.slots.invariant in
    let f = c.args.page.now.findings in
    let e : Entry = record { line = c.in_ok-line.line; root = c.in_ok-root.root } in
    record {
      within = omega (arith, c.slots-test.true, c.len-w-end.ensures);
      many = ap length c.in_ok-push.ensures.items ∙ length_push c.slots.all.items e ∙ ap (λ n. n + 1) i.many;
      each = λ pieces owns shows.
          subst (λ (xs : List Entry). AreSaid (λ w own s. IsEntry (told_at f w) own s) owns (map shown xs)) (sym c.in_ok-push.ensures.items)
          (said_push (λ w own s. IsEntry (told_at f w) own s) owns c.slots.all.items e (i.each pieces owns shows)
          (λ own at. subst (λ n. IsEntry (told_at f n) own (shown e)) (sym i.many)
          (let here = ap (slice_get owns) (sym i.many) ∙ at in record { line = c.in_ok-line.ensures pieces owns own shows here; root = c.in_ok-root.ensures pieces owns own shows here })));
    }

pub returns : goal.returns
returns c = λ pieces owns shows. record {
  many = length-map c.slots.all.items shown ∙ c.slots.invariant.many ∙ omega (arith, c.slots-test.false, c.len-w-end.ensures, c.slots.invariant.within);
  each = c.slots.invariant.each pieces owns shows;
}
