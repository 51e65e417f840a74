use Rattle.std.proofs.Common.{◌≡◌, ◌+◌, ap, arith}
use Rattle.std.proofs.lemmas.Str.{IsCharBoundary-start}
use Rattle.std.specs.Str.{chars}
use Rattle.markup_grammar.specs.Judge.{reads}
use Rattle.markup_steps.specs.States.{state_of}
use Rattle.markup_steps.proofs.reader.Reader.take_raw.Goals as goal

pub returns-in_default : goal.returns-in_default
returns-in_default c = record {
  boundary = IsCharBoundary-start c.args.text.now c.utf8.text;
  read = λ at. let same : at ≡ at + 0 = omega arith in ap (λ n. reads (state_of c.args.self.now) n (chars c.args.text.now)) same;
}
