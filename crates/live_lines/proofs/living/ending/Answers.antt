use Rattle.live_lines.proofs.Replying.{even_of}
use Rattle.live_lines.proofs.living.ending.Goals as goal

pub some_refused-requires : goal.some_refused-requires
some_refused-requires c = even_of c.args.session.now c.requires.stands
