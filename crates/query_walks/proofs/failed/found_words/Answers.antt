use Rattle.std.proofs.Common.{◌≡◌, ◌<◌, ◌+◌, ◌∙◌, false, not, refl, sym, ap, subst, replicate, length, length-drop, drop, arith}
use Rattle.std.specs.List.{filter}
use Rattle.query_walks.proofs.Found.{Tell, among, all_left, none_marked, word_marked, same_length, all_told, all_marked, last_among, next_among}
use Rattle.query_walks.proofs.failed.found_words.Goals as goal

pub words-init : goal.words-init
words-init c =
    let us = c.args.units.now in
    let ks = c.args.wanted.now.keys in
    let none : c.in_ok-found.found.items ≡ replicate (length ks) false = c.in_ok-found.ensures.items_if_clones_equal (λ y h. h) ∙ ap (λ n. replicate n false) c.len-left.ensures.len in
    record {
      left = c.len-left.ensures.len ∙ sym (ap (λ l. length (filter not l)) none ∙ all_left ks);
      told = subst (λ l. Tell (among us) (among us) ks l) (sym none) (none_marked (among us) ks);
    }

pub mark_word-left-requires-clause-long : goal.mark_word-left-requires-clause-long
mark_word-left-requires-clause-long c = same_length (among c.words.rest.now) (among c.args.units.now) c.args.wanted.now.keys c.words.found.items c.words.invariant.told

pub returns-then-end-rest : goal.returns-then-end-rest
returns-then-end-rest c =
    let us = c.words.rest.now in
    let all = among c.args.units.now in
    let ks = c.args.wanted.now.keys in
    all_told all ks c.mark_word-left.new.found.items
    (subst (λ l. Tell (λ k. false) all ks l) (sym c.mark_word-left.ensures.marked)
    (word_marked _ (among us) (λ k. false) all (last_among us _ c.word_end-end.result refl c.word_end-end.ensures.end c.if-end-rest.true) ks c.words.found.items c.len-left.ensures.unique c.words.invariant.told))

pub words-preserved : goal.words-preserved
words-preserved c =
    let us = c.words.rest.now in
    let all = among c.args.units.now in
    let ks = c.args.wanted.now.keys in
    let lt : c.word_end-end.result < length us = omega (arith, c.word_end-end.ensures.inside) in
    record {
      left = c.mark_word-left.ensures.left;
      told = subst (λ l. Tell (among l) all ks c.mark_word-left.new.found.items) (sym c.units_behind-rest.ensures)
          (subst (λ l. Tell (among (drop (c.word_end-end.result + 1) us)) all ks l) (sym c.mark_word-left.ensures.marked)
          (word_marked _ (among us) (among (drop (c.word_end-end.result + 1) us)) all (next_among us _ c.word_end-end.result refl c.word_end-end.ensures.end lt) ks c.words.found.items c.len-left.ensures.unique c.words.invariant.told));
    }

pub words-smaller : goal.words-smaller
words-smaller c =
    let lt : c.word_end-end.result < length c.words.rest.now = omega (arith, c.word_end-end.ensures.inside) in
    omega (arith, lt, ap length c.units_behind-rest.ensures, length-drop (c.word_end-end.result + 1) c.words.rest.now)

pub returns : goal.returns
returns c =
    let none : c.words.left ≡ 0 = omega (arith, c.words-test.false) in
    all_marked (among c.words.rest.now) (among c.args.units.now) c.args.wanted.now.keys c.words.found.items (sym c.words.invariant.left ∙ none) c.words.invariant.told
