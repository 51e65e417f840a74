use Rattle.std.proofs.Common.{◌∙◌, sym, ap, ◌+◌, ◌<◌, length, length-drop, arith}
use Rattle.std.specs.List.{list_any}
use Rattle.std.specs.Str.{bytes_eq}
use Rattle.query_grammar.specs.Filters.{words}
use Rattle.query_walks.proofs.Between.{word_met, last_word, next_word}
use Rattle.query_walks.proofs.nodes.has_word.Goals as goal

pub returns-then-eq : goal.returns-then-eq
returns-then-eq c = word_met c.args.word.now c.words.rest.now c.word_end-end.result c.word_end-end.ensures.end c.word_end-end.ensures.inside (sym c.eq.ensures ∙ c.if-eq.true) ∙ sym c.words.invariant

pub returns-then-end-rest : goal.returns-then-end-rest
returns-then-end-rest c = last_word c.args.word.now c.words.rest.now c.word_end-end.result c.word_end-end.ensures.end c.if-end-rest.true (sym c.eq.ensures ∙ c.if-eq.false) ∙ sym c.words.invariant

pub words-preserved : goal.words-preserved
words-preserved c =
    let lt : c.word_end-end.result < length c.words.rest.now = omega (arith, c.word_end-end.ensures.inside) in
    c.words.invariant ∙ next_word c.args.word.now c.words.rest.now c.word_end-end.result c.word_end-end.ensures.end lt (sym c.eq.ensures ∙ c.if-eq.false)
    ∙ ap (λ l. list_any (bytes_eq c.args.word.now) (words l)) (sym c.units_behind-rest.ensures)

pub words-smaller : goal.words-smaller
words-smaller c =
    let lt : c.word_end-end.result < length c.words.rest.now = omega (arith, c.word_end-end.ensures.inside) in
    omega (arith, lt, ap length c.units_behind-rest.ensures, length-drop (c.word_end-end.result + 1) c.words.rest.now)
