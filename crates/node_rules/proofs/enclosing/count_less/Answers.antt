use Rattle.std.proofs.Common.{◌≡◌, ◌<◌, ◌+◌, length, arith, refl, subst, count_by, take}
use Rattle.std.specs.Str.{bytes_eq}
use Rattle.std.proofs.lemmas.List.{take_all}
use Rattle.node_rules.specs.Enclosing.{count_of}
use Rattle.node_rules.proofs.Open.{less_room, less_step}
use Rattle.node_rules.proofs.enclosing.count_less.Goals as goal

pub uncount-requires : goal.uncount-requires
uncount-requires c =
    let q = c.name-item.result in
    let i = c.less.name-index in
    let ns = c.args.names.now in
    let lt : i < length ns = c.less-test.true in
    less_room ns i q q lt c.name-item.is refl _ _ (c.less.invariant q) (c.requires q)

pub less-preserved : goal.less-preserved
less-preserved c = λ q.
    let x = c.name-item.result in
    let i = c.less.name-index in
    let ns = c.args.names.now in
    let lt : i < length ns = c.less-test.true in
    less_step ns i x x lt c.name-item.is refl q _ _ _ (c.uncount.ensures q) (c.less.invariant q)

pub returns : goal.returns
returns c = λ q.
    let i = c.less.name-index in
    let ns = c.args.names.now in
    let all : take i ns ≡ ns = take_all i ns (omega (arith, c.less-test.false)) in
    subst (λ l. count_of c.less.counts q + count_by (bytes_eq q) l ≡ count_of c.args.counts.now q) all (c.less.invariant q)
