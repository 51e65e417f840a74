use Rattle.std.proofs.Common.{subst}
use Rattle.host_io.specs.Lines.{Took}
use Rattle.host_io.proofs.Reading.{more_front, feed_gives, end_gives}
use Rattle.host_io.proofs.real_lines.read_line.Goals as goal

pub returns-in-Feed : goal.returns-in-Feed
returns-in-Feed g c =
    let took = c.in_ok-take_some.ensures in
    let now = c.take_some.new in
    feed_gives c.args.max _ _ _ c.parts.line.items now.line.items took.0 c.parts.invariant took.1 took.2
    (subst (λ seen. Took took.0 seen (g.B.Read.remaining c.parts.reader) (g.B.Read.remaining now.reader)) c.in-Feed.is took.3)

pub returns-in-End : goal.returns-in-End
returns-in-End g c =
    let took = c.in_ok-take_some.ensures in
    let now = c.take_some.new in
    end_gives c.args.max _ _ _ c.parts.line.items now.line.items took.0 c.last_line.result c.parts.invariant took.1 took.2
    (subst (λ seen. Took took.0 seen (g.B.Read.remaining c.parts.reader) (g.B.Read.remaining now.reader)) c.in-End.is took.3) c.last_line.ensures

pub parts-preserved : goal.parts-preserved
parts-preserved g c =
    let took = c.in_ok-take_some.ensures in
    let now = c.take_some.new in
    more_front c.args.max _ _ _ c.parts.line.items now.line.items took.0 c.parts.invariant took.1 took.2
    (subst (λ seen. Took took.0 seen (g.B.Read.remaining c.parts.reader) (g.B.Read.remaining now.reader)) c.in-More.is took.3)
