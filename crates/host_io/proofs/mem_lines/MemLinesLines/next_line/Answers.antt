use Rattle.std.proofs.Common.{rules, ◌≡◌, drop}
use Rattle.host_io.proofs.Cutting.{mem_line, mem_rest, some_length}
use Rattle.host_io.proofs.mem_lines.MemLinesLines.next_line.Goals as goal

pub returns-clause-line : goal.returns-clause-line
returns-clause-line c =
    let self = c.args.self.now in
    let rest = c.rest_of-rest.result.now in
    let len = c.line_len-len in
    let is : rest ≡ drop self.at self.bytes.items = search rules in
    mem_line self.bytes.items rest c.in-Ok.line.items self.at len.result c.args.max is len.ensures.within len.ensures.line len.ensures.feed
    (some_length rest c.is_empty.result c.is_empty.ensures c.if-is_empty.false) (search rules)

pub returns-clause-rest : goal.returns-clause-rest
returns-clause-rest c =
    let self = c.args.self.now in
    let rest = c.rest_of-rest.result.now in
    let len = c.line_len-len in
    let is : rest ≡ drop self.at self.bytes.items = search rules in
    rw (c.past-self.ensures) (mem_rest self.bytes.items rest self.at len.result is len.ensures.within len.ensures.line len.ensures.feed
    (some_length rest c.is_empty.result c.is_empty.ensures c.if-is_empty.false))
