use Rattle.std.proofs.Common.{arith}
use Rattle.slot_check.proofs.Judging.{within_known, recalled_clean, recalled_broken}
use Rattle.slot_check.proofs.libraries.Libraries.verdict.Goals as goal

pub index-before-requires : goal.index-before-requires
index-before-requires c =
    let within = within_known c.args.libs.now c.args.self.now c.args.place c.requires.judged c.requires.inside in
    omega (arith, within, c.args.self.now.known.ok.0)

pub returns-in-Clean-clause-verdict : goal.returns-in-Clean-clause-verdict
returns-in-Clean-clause-verdict c = recalled_clean c.args.libs.now c.args.self.now c.args.place c.requires.judged c.requires.inside c.index-before.result.now c.index-before.ensures c.in-Clean.is

pub returns-in-Broken-clause-verdict : goal.returns-in-Broken-clause-verdict
returns-in-Broken-clause-verdict c = recalled_broken c.args.libs.now c.args.self.now c.args.place c.requires.judged c.requires.inside c.index-before.result.now c.in-Broken.breach c.index-before.ensures c.in-Broken.is

pub returns-in_ok-judged-in-Unjudged-clause-verdict : goal.returns-in_ok-judged-in-Unjudged-clause-verdict
returns-in_ok-judged-in-Unjudged-clause-verdict c =
    let h = c.in_ok-judged-in-Unjudged.ensures.accepted in
    record { lib = h.lib; there = h.there; is = c.breach_of.ensures h.lib.bytes h.is }
