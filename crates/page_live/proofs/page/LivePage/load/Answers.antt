use Rattle.std.proofs.Common.{◌≡◌, List, length, take, drop, All, refl, sym, ap, subst, arith}
use Rattle.std.proofs.lemmas.List.Elements.{All-take, All-drop}
use Rattle.slot_check.specs.declared.sources.SourceFile.{SourceFile}
use Rattle.slot_check.specs.Verdicts.{IsSmall}
use Rattle.page_live.proofs.Fresh.{fresh, paired}
use Rattle.page_live.proofs.page.LivePage.load.Goals as goal

pub split_at-requires : goal.split_at-requires
split_at-requires c = omega (arith, c.requires.many, c.len.ensures, c.args.names.ok.0, ap length c.deref.ensures.value)

pub judge_page-requires-clause-paired : goal.judge_page-requires-clause-paired
judge_page-requires-clause-paired c =
    let many : c.len.result ≡ length c.args.names.items = omega (arith, c.len.ensures, c.args.names.ok.0) in
    let front : c.split_at.result.0.now ≡ take (length c.args.names.items) c.args.sources.items = subst (λ n. c.split_at.result.0.now ≡ take n c.args.sources.items) many (subst (λ (xs : List SourceFile). c.split_at.result.0.now ≡ take c.len.result xs) c.deref.ensures.value c.split_at.ensures.front) in
    let back : c.split_at.result.1.now ≡ drop (length c.args.names.items) c.args.sources.items = subst (λ n. c.split_at.result.1.now ≡ drop n c.args.sources.items) many (subst (λ (xs : List SourceFile). c.split_at.result.1.now ≡ drop c.len.result xs) c.deref.ensures.value c.split_at.ensures.back) in
    let even : length c.args.names.items ≡ length c.split_at.result.0.now = omega (arith, c.split_at.ensures.front_len, many) in
    paired c.args.manifest c.args.sources.items c.split_at.result.0.now c.split_at.result.1.now c.args.names.items c.requires.named front back even

pub judge_page-requires-clause-small : goal.judge_page-requires-clause-small
judge_page-requires-clause-small c =
    subst (All IsSmall) (sym c.split_at.ensures.front) (All-take IsSmall c.len.result c.deref.result.now (subst (All IsSmall) (sym c.deref.ensures.value) c.requires.small))

pub judge_page-requires-clause-small_libs : goal.judge_page-requires-clause-small_libs
judge_page-requires-clause-small_libs c =
    subst (All IsSmall) (sym c.split_at.ensures.back) (All-drop IsSmall c.len.result c.deref.result.now (subst (All IsSmall) (sym c.deref.ensures.value) c.requires.small))

pub returns : goal.returns
returns c =
    let many : c.len.result ≡ length c.args.names.items = omega (arith, c.len.ensures, c.args.names.ok.0) in
    let front : c.split_at.result.0.now ≡ take (length c.args.names.items) c.args.sources.items = subst (λ n. c.split_at.result.0.now ≡ take n c.args.sources.items) many (subst (λ (xs : List SourceFile). c.split_at.result.0.now ≡ take c.len.result xs) c.deref.ensures.value c.split_at.ensures.front) in
    let back : c.split_at.result.1.now ≡ drop (length c.args.names.items) c.args.sources.items = subst (λ n. c.split_at.result.1.now ≡ drop n c.args.sources.items) many (subst (λ (xs : List SourceFile). c.split_at.result.1.now ≡ drop c.len.result xs) c.deref.ensures.value c.split_at.ensures.back) in
    let even : length c.args.names.items ≡ length c.split_at.result.0.now = omega (arith, c.split_at.ensures.front_len, many) in
    let f = c.first_findings-findings.ensures in
    fresh c.args.manifest c.args.sources.items c.split_at.result.0.now c.split_at.result.1.now c.args.names.items c.requires.named front back even _ c.in_ok-page.page _ c.requires.fit c.in_ok-page.ensures.page c.in_ok-page.ensures.later
    c.in_ok-host.ensures (ap (λ ns. ns.items) f.names) (ap (λ rs. rs.items) f.refusals) f.slots f.positions f.brought refl c.requires.some refl c.requires.many c.requires.small
