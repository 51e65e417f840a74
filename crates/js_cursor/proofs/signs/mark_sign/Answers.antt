use Rattle.std.proofs.Common.{◌≡◌, ◌∙◌, length, false, ap, sym, arith}
use Rattle.std.specs.Prelude.{nat_eq}
use Rattle.std.proofs.lemmas.Bool.Decides.{nat_tests}
use Rattle.js_cursor.specs.Signs.{look_up, marks}
use Rattle.js_cursor.proofs.LongMarks.{look_up_long, one_byte}
use Rattle.js_cursor.proofs.signs.mark_sign.Goals as goal

pub returns-then-spelling-eq1 : goal.returns-then-spelling-eq1
returns-then-spelling-eq1 c = c.single_sign.ensures ∙ ap (look_up marks) (sym (one_byte c.args.spelling.now (omega arith)))

pub returns : goal.returns
unfolding marks
returns c = let long : nat_eq (length c.args.spelling.now) 1 ≡ false = grind (arith, nat_tests) in c.sign_in.ensures ∙ look_up_long marks c.args.spelling.now long
