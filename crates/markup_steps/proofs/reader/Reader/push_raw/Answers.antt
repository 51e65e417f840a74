use Rattle.markup_steps.proofs.Raw.{raw_taken}
use Rattle.markup_steps.proofs.reader.Reader.push_raw.Goals as goal

pub returns-clause-read : goal.returns-clause-read
returns-clause-read c = λ at. raw_taken c.args.self.now c.push_text.new.units c.args.text.now c.split_at.result.0.now c.raw_len-end.result at c.requires c.utf8.text c.raw_len-end.ensures.boundary c.raw_len-end.ensures.raw c.split_at.ensures.front c.in_ok-push_text.ensures
