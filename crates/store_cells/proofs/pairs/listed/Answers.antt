use Rattle.std.proofs.Common.{◌∙◌, ap, is_some, sym}
use Rattle.store_cells.proofs.Live.{key_hole, key_listed, key_unlisted}
use Rattle.store_cells.proofs.pairs.listed.Goals as goal

pub returns-then-k-ge-FIRST_HOLE-clause-name : goal.returns-then-k-ge-FIRST_HOLE-clause-name
returns-then-k-ge-FIRST_HOLE-clause-name c = key_hole c.args.names.now c.args.array c.args.k c.if-k-ge-FIRST_HOLE.true

pub returns-then-k-ge-FIRST_HOLE-clause-there : goal.returns-then-k-ge-FIRST_HOLE-clause-there
returns-then-k-ge-FIRST_HOLE-clause-there c = ap is_some (key_hole c.args.names.now c.args.array c.args.k c.if-k-ge-FIRST_HOLE.true)

pub returns-then-is_listed-clause-name : goal.returns-then-is_listed-clause-name
returns-then-is_listed-clause-name c = (key_listed c.args.names.now c.args.array c.args.k c.if-k-ge-FIRST_HOLE.false (sym c.is_listed.ensures ∙ c.if-is_listed.true)).0

pub returns-then-is_listed-clause-there : goal.returns-then-is_listed-clause-there
returns-then-is_listed-clause-there c = (key_listed c.args.names.now c.args.array c.args.k c.if-k-ge-FIRST_HOLE.false (sym c.is_listed.ensures ∙ c.if-is_listed.true)).1

pub returns-else-is_listed-clause-name : goal.returns-else-is_listed-clause-name
returns-else-is_listed-clause-name c = key_unlisted c.args.names.now c.args.array c.args.k c.if-k-ge-FIRST_HOLE.false (sym c.is_listed.ensures ∙ c.if-is_listed.false)

pub returns-else-is_listed-clause-there : goal.returns-else-is_listed-clause-there
returns-else-is_listed-clause-there c = ap is_some (key_unlisted c.args.names.now c.args.array c.args.k c.if-k-ge-FIRST_HOLE.false (sym c.is_listed.ensures ∙ c.if-is_listed.false))
