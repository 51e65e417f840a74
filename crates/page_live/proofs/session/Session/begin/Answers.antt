use Rattle.std.proofs.Common.{ap, ◌∙◌, ◌++◌, map, append_assoc, sym}
use Rattle.std.specs.List.{flat_map}
use Rattle.std.proofs.lemmas.List.{length-map}
use Rattle.trace_text.specs.Report.{page_line}
use Rattle.live_text.specs.Answer.{shown, slot_text}
use Rattle.page_live.proofs.Showing.{alive_shows}
use Rattle.page_live.proofs.session.Session.begin.Goals as goal

pub entries-requires : goal.entries-requires
entries-requires c = record { showing = alive_shows c.args.page c.requires.alive }

pub push_page-requires : goal.push_page-requires
push_page-requires c = record { showing = alive_shows c.args.page c.requires.alive }

pub returns-clause-many : goal.returns-clause-many
returns-clause-many c =
    let s = alive_shows c.args.page c.requires.alive in
    sym (length-map c.in_ok-written.written.items shown) ∙ (c.in_ok-written.ensures s.pieces s.owns s.shows).many

pub returns-clause-first : goal.returns-clause-first
returns-clause-first c = λ pieces owns shows.
    let page = c.in_ok-push_page.ensures pieces owns shows in
    record {
      entries = c.in_ok-written.ensures pieces owns shows;
      text = page.text;
      printed = page.printed;
      appended =
          page.appended ∙ ap (λ xs. xs ++ page_line page.text) (c.in_ok-push_slots.ensures ∙ ap (λ es. c.args.out.now.items ++ flat_map slot_text (map shown es)) c.deref.ensures.value)
          ∙ append_assoc c.args.out.now.items (flat_map slot_text (map shown c.in_ok-written.written.items)) (page_line page.text);
    }
