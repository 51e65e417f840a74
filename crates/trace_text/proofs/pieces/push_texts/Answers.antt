use Rattle.std.proofs.Common.{sym, subst}
use Rattle.std.specs.List.{flat_map}
use Rattle.trace_text.specs.Report.{quoted, next_quoted, quoted_list, AppendsPart}
use Rattle.trace_text.proofs.Parts.{first_part, later_part}
use Rattle.trace_text.proofs.pieces.push_texts.Goals as goal

pub returns-in_err-push_quoted-clause-part : goal.returns-in_err-push_quoted-clause-part
returns-in_err-push_quoted-clause-part c =
    let first = c.in-Some.first.now in
    let rest = c.in-Some.rest.now in
    subst (λ texts. AppendsPart c.args.out.now.items c.push_quoted.new.out.items (quoted_list texts)) (sym c.in-Some.ensures.cases.0)
    (first_part c.args.out.now.items c.push_quoted.new.out.items (quoted first) (flat_map next_quoted rest) c.push_quoted.ensures.part)

pub returns-clause-part : goal.returns-clause-part
returns-clause-part c =
    let first = c.in-Some.first.now in
    let rest = c.in-Some.rest.now in
    subst (λ texts. AppendsPart c.args.out.now.items c.push_rest.new.out.items (quoted_list texts)) (sym c.in-Some.ensures.cases.0)
    (later_part c.args.out.now.items c.push_quoted.new.out.items c.push_rest.new.out.items (quoted first) (flat_map next_quoted rest) c.in_ok-push_quoted.ensures.ok c.push_rest.ensures.part)
