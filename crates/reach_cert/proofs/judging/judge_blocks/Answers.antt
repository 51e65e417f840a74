use Rattle.std.proofs.Common.{[], ◌∷◌, ◌++◌, sym, ◌∙◌, subst}
use Rattle.std.specs.List.{flat_map}
use Rattle.reach_cert.specs.Blocks.{words_of}
use Rattle.reach_cert.specs.Judged.{IsLeak}
use Rattle.reach_cert.specs.Machine.{Between, Over, first_text}
use Rattle.reach_cert.specs.Walks.{slot_leaks}
use Rattle.reach_cert.proofs.Blocks.{blocks_more}
use Rattle.reach_cert.proofs.Judged.{slot_more}
use Rattle.reach_cert.proofs.Steps.{end_taken, moved}
use Rattle.reach_cert.proofs.judging.judge_blocks.Goals as goal

pub each-preserved : goal.each-preserved
each-preserved c =
    let now = c.judge_block.new in
    let i = c.each.invariant in
    let told = c.in_ok-found.ensures.block in (
      i.0 ++ told.0 ∷ [],
      blocks_more (words_of c.each.names.items) (words_of now.names.items) c.args.lines.now c.each.lines now.lines i.0 told.0 i.1 told.1,
      subst (IsLeak c.args.lines.now.number now.lines.number (flat_map slot_leaks (i.0 ++ told.0 ∷ []))) (sym c.or-leak.ensures)
          (slot_more c.args.lines.now.number c.each.lines.number now.lines.number i.0 told.0 c.each.leak c.in_ok-found.found i.2 told.2),
    )

pub returns-clause-read : goal.returns-clause-read
returns-clause-read c =
    let i = c.each.invariant in
    (i.0, i.2.leak_is, i.1.read ∙ moved (Between i.0) (Over i.0) c.each.lines c.advance.new.self c.advance.ensures (end_taken i.0 (first_text c.each.lines.lines) (sym c.text_is.ensures ∙ c.each-test.false)))
