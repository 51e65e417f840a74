use Rattle.std.proofs.Common.{sym, ap, ◌∙◌, arith}
use Rattle.std.specs.Prelude.{not}
use Rattle.reach_cert.proofs.Blocks.{names_count, names_used}
use Rattle.reach_cert.proofs.Steps.{not_named, no_room, room_for}
use Rattle.reach_cert.proofs.first_line.is_free.Goals as goal

pub returns-then-not-is_name : goal.returns-then-not-is_name
returns-then-not-is_name c = λ slots same. not_named slots c.args.word.now (sym c.is_name.ensures ∙ c.if-not-is_name.true)

pub returns-then-names-ge-MOST_SLOTS : goal.returns-then-names-ge-MOST_SLOTS
returns-then-names-ge-MOST_SLOTS c = λ slots same. no_room slots c.args.word.now (sym c.is_name.ensures ∙ c.if-not-is_name.false) (omega (arith, names_count c.args.names.now slots same, c.if-names-ge-MOST_SLOTS.true))

pub returns : goal.returns
returns c =
    λ slots same. ap not (c.is_used.ensures ∙ names_used c.args.names.now c.args.word.now slots same)
    ∙ room_for slots c.args.word.now (sym c.is_name.ensures ∙ c.if-not-is_name.false) (omega (arith, names_count c.args.names.now slots same, c.if-names-ge-MOST_SLOTS.false))
