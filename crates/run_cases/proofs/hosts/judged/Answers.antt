use Rattle.std.proofs.Common.{length, ap, arith}
use Rattle.run_cases.proofs.Staying.{loading_brought}
use Rattle.adhost_run.proofs.Paged.{names_within, as_many_named}
use Rattle.run_cases.proofs.hosts.judged.Goals as goal

pub split_at-requires : goal.split_at-requires
split_at-requires c =
    let within = names_within c.args.manifest c.args.names.now (length c.args.sources.now) c.requires.named c.requires.many in
    omega (arith, within)

pub judge_page-requires-clause-paired : goal.judge_page-requires-clause-paired
judge_page-requires-clause-paired c =
    let within = names_within c.args.manifest c.args.names.now (length c.args.sources.now) c.requires.named c.requires.many in
    omega (arith, as_many_named c.args.manifest.entries.items, ap length c.requires.named, c.split_at.ensures.front_len, within)

pub returns : goal.returns
returns c = loading_brought c.in_ok-page.page.spec c.args.to c.in_ok-page.page.swaps.contents.items c.pop.new.self.items c.pop.result c.in_ok-page.ensures.loadable c.in_ok-page.ensures.swaps c.pop.ensures.items
