use Rattle.std.proofs.Common.{rules, codes}
use Rattle.live_text.proofs.Texts.{three_pieces}
use Rattle.live_text.proofs.answer.push_refusal.Goals as goal

pub returns : goal.returns
returns c =
    three_pieces c.args.out.now.items (codes "{\"refused\":\"") c.args.name.now (codes "\"}\n") c.extend_from_slice.new.self.items c.extend_from_slice-2.new.self.items c.extend_from_slice-3.new.self.items c.as_bytes.result.now
    c.in_ok-extend_from_slice.ensures.items c.in_ok-extend_from_slice-2.ensures.items (search rules) c.in_ok-extend_from_slice-3.ensures.items
