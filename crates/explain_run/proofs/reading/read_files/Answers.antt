use Rattle.std.proofs.lemmas.Result.{err_from_is_err_and}
use Rattle.std.proofs.Common.{length, take, IfSome, ap, subst, ◌∙◌, refl, arith}
use Rattle.slot_check.specs.Verdicts.{source_of, sources_of}
use Rattle.run_steps.specs.Page.{texts, file_limit}
use Rattle.explain_run.specs.Page.{IsRead, AreRead}
use Rattle.explain_run.specs.Steps.{NoFile, NoFiles}
use Rattle.explain_run.proofs.Gathered.{read_more, long_here, read_all, all_small, many_more, no_read, none_small}
use Rattle.explain_run.proofs.Stepping.{read_well as all_read, ended_after, no_memory_after}
use Rattle.explain_run.proofs.reading.read_files.Goals as goal

pub names-init : goal.names-init
names-init g c =
    let none = c.new-sources.ensures.items in
    record {
      same = refl;
      count = omega arith;
      ok = no_read (g.F.Files.told c.args.files.now) c.new-sources.result.items none;
      many = ap length none;
      small = none_small c.new-sources.result.items none;
    }

pub names-preserved : goal.names-preserved
names-preserved g c =
    let i = c.names.invariant in
    let e = c.in_ok-source.ensures in
    let s = c.in_ok-source.source in
    let grown = c.in_ok-push.ensures.items in
    let one = subst (λ t. IfSome t (λ m. IsRead m file_limit c.as_str.result.now (source_of s))) i.same e.step.gives in
    record {
      same = e.step.same ∙ i.same;
      count = omega (arith, i.count, e.step.count);
      ok = read_more c.args.names.now c.names.name-index c.name-item.result c.as_str.result.now c.names-test.true c.name-item.is c.as_str.ensures.value (g.F.Files.told c.args.files.now) c.names.sources.items c.push.new.self.items s i.ok one grown;
      many = many_more c.names.sources.items c.push.new.self.items s c.names.name-index i.many grown;
      small = all_small c.names.sources.items c.push.new.self.items s i.small e.small grown;
    }

pub returns-in_err-source-clause-step : goal.returns-in_err-source-clause-step
returns-in_err-source-clause-step g c =
    let p = err_from_is_err_and c.from_residual.result c.from_residual.ensures.1 in
    let i = c.names.invariant in
    rw (p.1, p.2) (ended_after g.F.Files.told g.F.Files.faults (λ m s. IsRead m file_limit c.as_str.result.now (source_of s)) (λ m v. AreRead m file_limit (texts c.args.names.now) (sources_of v.items)) (λ m. NoFile m file_limit c.as_str.result.now) (λ m. NoFiles m (texts c.args.names.now)) (λ m. AreRead m file_limit (texts (take c.names.name-index c.args.names.now)) (sources_of c.names.sources.items)) i.same i.count i.ok c.in_err-source.ensures.step
    (λ m before s is. long_here c.args.names.now c.names.name-index c.name-item.result c.as_str.result.now c.names-test.true c.name-item.is c.as_str.ensures.value m c.names.sources.items s before is))

pub returns-in_err-push-clause-step : goal.returns-in_err-push-clause-step
returns-in_err-push-clause-step g c =
    let p = err_from_is_err_and c.from_residual-in_err-push.result c.from_residual-in_err-push.ensures.1 in
    rw (p.1, p.2) (no_memory_after g.F.Files.told g.F.Files.faults (λ m v. AreRead m file_limit (texts c.args.names.now) (sources_of v.items)) (λ m. NoFiles m (texts c.args.names.now)) (c.in_ok-source.ensures.step.same ∙ c.names.invariant.same) (omega (arith, c.names.invariant.count, c.in_ok-source.ensures.step.count)))

pub returns-clause-step : goal.returns-clause-step
returns-clause-step g c =
    all_read g.F.Files.told g.F.Files.faults c.names.sources (λ m v. AreRead m file_limit (texts c.args.names.now) (sources_of v.items)) (λ m. NoFiles m (texts c.args.names.now)) c.names.invariant.same c.names.invariant.count
    (read_all (g.F.Files.told c.args.files.now) c.args.names.now c.names.name-index (sources_of c.names.sources.items) c.names-test.false c.names.invariant.ok)
