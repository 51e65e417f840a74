use Rattle.std.proofs.Common.{length, IfSome, IsSomeAnd, sym, ap, subst}
use Rattle.std.proofs.lemmas.Result.{err_from_is_err_and}
use Rattle.host_io.specs.Files.{IsThere}
use Rattle.slot_check.specs.Verdicts.{source_of, sources_of}
use Rattle.run_steps.specs.Page.{texts, file_limit, IsRead}
use Rattle.run_steps.specs.Reading.{IsLong, ComesThrough}
use Rattle.run_steps.specs.declared.reading.NoReport.TheVariants as stop
use Rattle.run_steps.proofs.Gathered.{all_small, many_more, read_more, readable_here, read_all, no_read, none_small, long_here}
use Rattle.run_steps.proofs.ReadsLemmas.{reads_nothing, reads_as, reads_then}
use Rattle.run_steps.proofs.Stepping.{again}
use Rattle.run_steps.proofs.reading.read_files.Goals as goal

pub names-preserved : goal.names-preserved
names-preserved g c =
    let told = g.F.Files.told c.args.files.now in
    let i = c.names.invariant in
    let e = c.in_ok-source.ensures in
    let s = c.in_ok-source.source in
    let at = c.names.name-index in
    let ns = c.args.names.now in
    let item = c.name-item.result in
    let name = c.as_str.result.now in
    let one = subst (λ t. IfSome t (λ m. IsRead m file_limit name (source_of s))) i.reads.same e.ok in
    let grown = c.in_ok-push.ensures.items in
    let here : IsSomeAnd told (λ m. ComesThrough m file_limit (texts ns)) → IsThere (g.F.Files.told c.names.files) name = λ through. subst (λ t. IsThere t name) (sym i.reads.same) (readable_here ns at item name c.names-test.true c.name-item.is c.as_str.ensures.value told file_limit c.names.sources.items i.ok through) in
    record {
      reads = reads_then g.F.Files.told g.F.Files.calm g.F.Files.faults i.reads e.reads (λ never. absurd never) (λ through. through) here;
      ok = read_more ns at item name c.names-test.true c.name-item.is c.as_str.ensures.value told file_limit c.names.sources.items c.push.new.self.items s i.ok one grown;
      many = many_more c.names.sources.items c.push.new.self.items s at i.many grown;
      small = all_small c.names.sources.items c.push.new.self.items s i.small e.small grown;
    }

pub returns-clause-ok : goal.returns-clause-ok
returns-clause-ok g c = read_all (g.F.Files.told c.args.files.now) file_limit c.args.names.now c.names.name-index (sources_of c.names.sources.items) c.names-test.false c.names.invariant.ok

pub returns-clause-reads : goal.returns-clause-reads
returns-clause-reads g c = reads_as g.F.Files.told g.F.Files.calm g.F.Files.faults c.names.invariant.reads (λ failed. (let e = failed in cc)) (λ through. through)

pub names-init : goal.names-init
names-init g c =
    let none = c.new-sources.ensures.items in
    record {
      reads = reads_nothing g.F.Files.told g.F.Files.calm g.F.Files.faults (λ never. never);
      ok = no_read (g.F.Files.told c.args.files.now) file_limit c.new-sources.result.items none;
      many = ap length none;
      small = none_small c.new-sources.result.items none;
    }

-- where the files can be read, the one that was not is there
here : (g : _) (c : goal.After-drop-sources g) → IsSomeAnd (g.F.Files.told c.args.files.now) (λ m. ComesThrough m file_limit (texts c.args.names.now)) → IsThere (g.F.Files.told c.names.files) c.as_str.result.now
here g c through =
    subst (λ t. IsThere t c.as_str.result.now) (sym c.names.invariant.reads.same)
    (readable_here c.args.names.now c.names.name-index c.name-item.result c.as_str.result.now c.names-test.true c.name-item.is c.as_str.ensures.value (g.F.Files.told c.args.files.now) file_limit c.names.sources.items c.names.invariant.ok through)

pub returns-in_err-source-clause-large : goal.returns-in_err-source-clause-large
returns-in_err-source-clause-large g c =
    let p = err_from_is_err_and c.from_residual.result c.from_residual.ensures.1 in
    rw (p.1, p.2) (λ is.
    long_here c.args.names.now c.names.name-index c.name-item.result c.as_str.result.now c.names-test.true c.name-item.is c.as_str.ensures.value (g.F.Files.told c.args.files.now) file_limit c.names.sources.items c.names.invariant.ok
    (subst (λ t. IfSome t (λ m. IsLong (m c.as_str.result.now) file_limit)) c.names.invariant.reads.same (c.in_err-source.ensures.large (again c.in_err-source.field-0.0 stop.TooLarge is))))

pub returns-in_err-source-clause-reads : goal.returns-in_err-source-clause-reads
returns-in_err-source-clause-reads g c =
    let p = err_from_is_err_and c.from_residual.result c.from_residual.ensures.1 in
    rw (p.1, p.2) (reads_then g.F.Files.told g.F.Files.calm g.F.Files.faults c.names.invariant.reads c.in_err-source.ensures.reads (again c.in_err-source.field-0.0 stop.ReadFault) (λ through. through) (here g c))
