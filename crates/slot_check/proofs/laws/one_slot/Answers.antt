use Rattle.slot_check.proofs.Firsts.{first_once, first_not_clean}
use Rattle.slot_check.proofs.Written.{line_once, lines_once}
use Rattle.slot_check.proofs.Some.{some_slot, some_slot_line}
use Rattle.slot_check.proofs.laws.one_slot.Goals as goal

pub returns : goal.returns
returns c = record {
  first = λ slot r q a b x y f g. let same = first_once slot r q a b x y f g in (same.rule, same.source, same.at);
  clean = λ slot. ((λ is r a x first. first_not_clean slot r a x first is), some_slot slot);
  line = line_once;
  some_line = some_slot_line;
  lines = lines_once;
}
