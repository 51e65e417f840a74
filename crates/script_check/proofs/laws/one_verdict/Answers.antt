use Rattle.script_check.proofs.Verdicts.{one_first, not_clean, one_line, one_text}
use Rattle.script_check.proofs.Some.{some_verdict, some_line, some_text}
use Rattle.script_check.proofs.laws.one_verdict.Goals as goal

pub returns : goal.returns
returns c = record {
  first = one_first;
  clean = λ bytes scope. ((λ is rule at first. not_clean bytes scope rule at first is), some_verdict bytes scope);
  line = one_line;
  some_line = some_line;
  tidied = one_text;
  some_tidied = some_text;
}
