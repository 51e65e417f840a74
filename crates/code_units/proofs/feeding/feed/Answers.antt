use Rattle.std.proofs.Common.{◌<◌, ◌+◌, length, arith, ◌∙◌, drop, length-drop, ap, ◌-◌}
use Rattle.std.proofs.lemmas.List.{take_all}
use Rattle.code_units.specs.Feeding.{last}
use Rattle.code_units.proofs.Fed.{feed_four, feed_last}
use Rattle.code_units.proofs.feeding.feed.Goals as goal

-- four units more
pub words-preserved : goal.words-preserved
words-preserved g c =
    let l : c.words.at + 3 < length c.args.units.now = omega (arith, c.words-test.true, c.words.invariant.0) in
    (omega (arith, l), feed_four g.H.Hasher.write c.args.units.now c.words.at c.word_of.result c.words.state c.write_u64.new.self l c.word_of.ensures c.write_u64.ensures ∙ c.words.invariant.1)

-- what is left
pub returns : goal.returns
returns g c =
    let l : length (drop c.words.at c.args.units.now) < 4 = omega (arith, length-drop c.words.at c.args.units.now, c.words-test.false, c.words.invariant.0) in
    feed_last g.H.Hasher.write c.args.units.now c.words.at c.last_word.result c.words.state c.write_u64-2.new.self l (c.last_word.ensures ∙ ap last (take_all (length c.args.units.now - c.words.at) (drop c.words.at c.args.units.now) (omega (arith, length-drop c.words.at c.args.units.now)))) c.write_u64-2.ensures ∙ c.words.invariant.1
