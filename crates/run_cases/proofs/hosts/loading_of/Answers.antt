use Rattle.run_cases.proofs.hosts.loading_of.Goals as goal

pub judged-requires-clause-fit : goal.judged-requires-clause-fit
judged-requires-clause-fit c = let r = c.in-Ok.ensures.reads in c.read_manifests_fit.ensures r.bytes c.in-Ok.manifest r.reads
