use Rattle.std.proofs.Common.{◌≤◌, length, map, sym, subst, rules}
use Rattle.std.proofs.lemmas.List.{length-map}
use Rattle.serde_json.specs.View.{view}
use Rattle.trace_reader.specs.Trace.{IsValueFault, IsItemsFault}
use Rattle.trace_reader.proofs.TraceLemmas.{pass_fault}
use Rattle.trace_reader.proofs.trace.read_value.Goals as goal

pub returns-in_err-items-clause-err : goal.returns-in_err-items-clause-err
returns-in_err-items-clause-err c =
    let few : length (map view c.in-Some.entries.now) ≤ 4096 = subst (λ n. n ≤ 4096) (sym (length-map c.in-Some.entries.now view)) c.if-entries-gt-MOST_ITEMS.false in
    let fault = subst (λ version. IsItemsFault version c.args.names.now (map view c.in-Some.entries.now) c.in_err-items.field-0.0) c.judged_version.ensures c.in_err-items.ensures.err in
    let h : IsValueFault c.args.names.now (view c.args.value.now) c.in_err-items.field-0.0 =
    pass_fault c.args.names.now (view c.args.value.now) (map view c.in-Some.entries.now) c.in_err-items.field-0.0 c.in-Some.ensures few fault in
    search rules
