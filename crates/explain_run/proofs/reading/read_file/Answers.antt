use Rattle.std.proofs.Common.{Err, ap, arith}
use Rattle.explain_run.specs.declared.reading.Why.TheVariants as why
use Rattle.explain_run.specs.Page.{HasBytes}
use Rattle.explain_run.specs.Steps.{NoFile}
use Rattle.explain_run.proofs.Gathered.{bytes_of, long_of}
use Rattle.explain_run.proofs.Stepping.{none_told, for_reason, read_well, no_memory_after}
use Rattle.explain_run.proofs.reading.read_file.Goals as goal

pub returns-then-len-limit-clause-step : goal.returns-then-len-limit-clause-step
returns-then-len-limit-clause-step g c =
    for_reason g.F.Files.told g.F.Files.faults (λ m v. HasBytes m c.args.limit c.args.name.now v.items) (λ m. NoFile m c.args.limit c.args.name.now) (why.TooLong c.args.limit) c.in-Ok.ensures.told c.in-Ok.ensures.count c.bad_file.ensures
    (long_of (g.F.Files.told c.args.files.now) c.args.limit c.args.name.now c.in-Ok.bytes.items c.in-Ok.ensures.bytes (omega (arith, c.if-len-limit.true, c.len.ensures, c.in-Ok.bytes.ok.0))) (λ never. absurd (let e = never in cc))

pub returns-else-len-limit-clause-step : goal.returns-else-len-limit-clause-step
returns-else-len-limit-clause-step g c =
    read_well g.F.Files.told g.F.Files.faults c.in-Ok.bytes (λ m v. HasBytes m c.args.limit c.args.name.now v.items) (λ m. NoFile m c.args.limit c.args.name.now) c.in-Ok.ensures.told c.in-Ok.ensures.count
    (bytes_of (g.F.Files.told c.args.files.now) c.args.limit c.args.name.now c.in-Ok.bytes.items c.in-Ok.ensures.bytes (omega (arith, c.if-len-limit.false, c.len.ensures, c.in-Ok.bytes.ok.0)))

pub returns-else-len-limit-clause-within : goal.returns-else-len-limit-clause-within
returns-else-len-limit-clause-within g c = omega (arith, c.if-len-limit.false, c.len.ensures, c.in-Ok.bytes.ok.0)

pub returns-in-Err-Failed-clause-step : goal.returns-in-Err-Failed-clause-step
returns-in-Err-Failed-clause-step g c =
    for_reason g.F.Files.told g.F.Files.faults (λ m v. HasBytes m c.args.limit c.args.name.now v.items) (λ m. NoFile m c.args.limit c.args.name.now) why.Unread c.read.ensures.told c.read.ensures.count c.bad_file-in-Err-Failed.ensures
    (none_told (g.F.Files.told c.args.files.now)) (λ failed. c.in-Err-Failed.ensures.cause (ap Err c.in-Err-Failed.field-0-is))

pub returns-in-Err-Memory-clause-step : goal.returns-in-Err-Memory-clause-step
returns-in-Err-Memory-clause-step g c = no_memory_after g.F.Files.told g.F.Files.faults (λ m v. HasBytes m c.args.limit c.args.name.now v.items) (λ m. NoFile m c.args.limit c.args.name.now) c.read.ensures.told c.read.ensures.count
