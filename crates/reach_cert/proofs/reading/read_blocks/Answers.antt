use Rattle.std.proofs.Common.{[], ◌∷◌, map, sym, ap, ◌∙◌, codes, subst}
use Rattle.std.proofs.lemmas.List.{map-append}
use Rattle.reach_cert.specs.Blocks.{words_of, AreBlocks}
use Rattle.reach_cert.specs.Certs.{slot_of}
use Rattle.reach_cert.specs.Machine.{Between, Over, first_text, Refuses}
use Rattle.reach_cert.proofs.Blocks.{blocks_more}
use Rattle.reach_cert.proofs.Steps.{later_both, fewer_later, word_read, moved, end_taken, carried, if_err}
use Rattle.reach_cert.proofs.reading.read_blocks.Goals as goal

pub each-preserved : goal.each-preserved
each-preserved c =
    let now = c.read_block.new in
    subst (AreBlocks (words_of now.names.items) c.args.lines.now now.lines)
    (sym (map-append slot_of c.each.blocks.items (c.in_ok-block.block ∷ [])) ∙ ap (map slot_of) (sym c.in_ok-push.ensures.items))
    (blocks_more (words_of c.each.names.items) (words_of now.names.items) c.args.lines.now c.each.lines now.lines (map slot_of c.each.blocks.items) (slot_of c.in_ok-block.block) c.each.invariant c.in_ok-block.ensures.block)

pub each-smaller : goal.each-smaller
each-smaller c = c.in_ok-block.ensures.block.fewer.fewer

pub returns-in_err-block-clause-fault : goal.returns-in_err-block-clause-fault
returns-in_err-block-clause-fault c =
    let i = c.each.invariant in
    let slots = map slot_of c.each.blocks.items in
    if_err c.from_residual.result _ (Refuses (Between []) c.args.lines.now) c.from_residual.ensures.1
    (carried (Between []) (Between slots) c.args.lines.now c.each.lines i.read _ i.later (c.in_err-block.ensures.fault slots i.names_are))

pub returns-clause-read : goal.returns-clause-read
returns-clause-read c =
    let slots = map slot_of c.each.blocks.items in
    c.each.invariant.read ∙ moved (Between slots) (Over slots) c.each.lines c.advance.new.self c.advance.ensures (end_taken slots (first_text c.each.lines.lines) (sym c.text_is.ensures ∙ c.each-test.false))

pub returns-clause-later : goal.returns-clause-later
returns-clause-later c = later_both _ _ _ c.each.invariant.later (fewer_later _ _ (word_read (codes "end") c.each.lines c.advance.new.self (sym c.text_is.ensures ∙ c.each-test.false) c.advance.ensures))
