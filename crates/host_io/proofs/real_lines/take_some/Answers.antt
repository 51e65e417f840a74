use Rattle.std.proofs.Common.{◌≢◌, ◌≤◌, [], length, take, subst, arith}
use Rattle.std.proofs.lemmas.List.Elements.{All-nil}
use Rattle.std.proofs.KnownBytes.{Consumes-nil, Consumes-kept}
use Rattle.std.proofs.BufReadLemmas.{Consumes_shown}
use Rattle.std.specs.Io.BufRead.{FillKeeps}
use Rattle.host_io.proofs.Reading.{none_more, took_more, took_shown}
use Rattle.host_io.proofs.real_lines.take_some.Goals as goal

pub returns-then-is_interrupted : goal.returns-then-is_interrupted
returns-then-is_interrupted g c = (
  [],
  All-nil (λ b. b ≢ 10),
  none_more c.args.line.now.items _,
  took_more _ _ [] (Consumes-kept _ _ _ [] (Consumes-nil _) c.fill_buf.follows.holds-at-none.0),
)

pub returns : goal.returns
returns g c =
    let shown = c.in-Ok.seen.now in
    let len = c.line_len-len in
    let count = c.taken-count in
    let seen = c.seen_of in
    let rested = c.fill_buf.follows.lender-at-none in
    let filled = subst (FillKeeps _ (g.B.Read.remaining rested) (g.B.BufRead.consumable_len rested)) c.in-Ok.is c.fill_buf.follows.holds-at-none in
    let fits : count.result ≤ length shown = omega (arith, count.ensures) in
    let moved = Consumes_shown _ _ _ _ shown count.result fits c.in-Ok.ensures.front c.in-Ok.ensures.end filled.0 filled.1 c.consume.ensures.bytes in (
      take len.result shown,
      len.ensures.line,
      c.in-Ok-push_start.ensures,
      took_shown _ _ shown len.result count.result seen.result seen.ensures.more seen.ensures.feed seen.ensures.end
          len.ensures.feed len.ensures.within count.ensures moved.0 moved.1,
    )
