use Rattle.std.proofs.Common.{◌≡◌, ◌∙◌, sym, length, false, arith}
use Rattle.std.proofs.lemmas.Bool.Decides.{nat_tests}
use Rattle.js_tokens.specs.Words.{reserved_words}
use Rattle.js_tokens.proofs.WordLemmas.{reserved_at, no_length, is_length}
use Rattle.js_tokens.proofs.word.is_reserved.Goals as goal

pub returns-in-2 : goal.returns-in-2
unfolding reserved_words
returns-in-2 c = c.is_one_of.ensures ∙ reserved_at c.args.word.now 2 c.in-2.is

pub returns-in-3 : goal.returns-in-3
unfolding reserved_words
returns-in-3 c = c.is_one_of-in-3.ensures ∙ reserved_at c.args.word.now 3 c.in-3.is

pub returns-in-4 : goal.returns-in-4
unfolding reserved_words
returns-in-4 c = c.is_one_of-in-4.ensures ∙ reserved_at c.args.word.now 4 c.in-4.is

pub returns-in-5 : goal.returns-in-5
unfolding reserved_words
returns-in-5 c = c.is_one_of-in-5.ensures ∙ reserved_at c.args.word.now 5 c.in-5.is

pub returns-in-6 : goal.returns-in-6
unfolding reserved_words
returns-in-6 c = c.is_one_of-in-6.ensures ∙ reserved_at c.args.word.now 6 c.in-6.is

pub returns-in-7 : goal.returns-in-7
unfolding reserved_words
returns-in-7 c = c.is_one_of-in-7.ensures ∙ reserved_at c.args.word.now 7 c.in-7.is

pub returns-in-8 : goal.returns-in-8
unfolding reserved_words
returns-in-8 c = c.is_one_of-in-8.ensures ∙ reserved_at c.args.word.now 8 c.in-8.is

pub returns-in-9 : goal.returns-in-9
unfolding reserved_words
returns-in-9 c = c.is_one_of-in-9.ensures ∙ reserved_at c.args.word.now 9 c.in-9.is

pub returns-in-10 : goal.returns-in-10
unfolding reserved_words
returns-in-10 c = c.is_one_of-in-10.ensures ∙ reserved_at c.args.word.now 10 c.in-10.is

pub returns-in-12 : goal.returns-in-12
unfolding reserved_words
returns-in-12 c = c.is_one_of-in-12.ensures ∙ reserved_at c.args.word.now 12 c.in-12.is

pub returns-in_default : goal.returns-in_default
returns-in_default c = let other : is_length (length c.args.word.now) ≡ false = grind (arith, nat_tests) in sym (no_length c.args.word.now other)
