use Rattle.std.proofs.Common.{◌++◌, ap, ◌∙◌}
use Rattle.std.specs.Prelude.{codes, decimal}
use Rattle.trace_text.specs.Report.{rule_mark, rule_number}
use Rattle.explain_run.proofs.Telling.{behind}
use Rattle.explain_run.proofs.refusals.push_head.Goals as goal

pub returns : goal.returns
returns c =
    let t8 = (decimal (rule_number c.args.rule)) ++ (codes ": ") in
    let t7 = (rule_mark c.args.rule) ++ t8 in
    let t6 = (codes ": ") ++ t7 in
    let t5 = (decimal c.args.at.column) ++ t6 in
    let t4 = (codes ":") ++ t5 in
    let t3 = (decimal c.args.at.line) ++ t4 in
    let t2 = (codes ":") ++ t3 in
    let e8 = behind c.extend_from_slice-5.new.self.items c.push_number-3.new.out.items c.extend_from_slice-6.new.self.items (decimal (rule_number c.args.rule)) (codes ": ") (c.in_ok-push_number-3.ensures ∙ ap (λ n. c.extend_from_slice-5.new.self.items ++ decimal n) (c.from.ensures ∙ c.number.ensures)) c.in_ok-extend_from_slice-6.ensures.items in
    let e7 = behind c.extend_from_slice-4.new.self.items c.extend_from_slice-5.new.self.items c.extend_from_slice-6.new.self.items (rule_mark c.args.rule) t8 (c.in_ok-extend_from_slice-5.ensures.items ∙ ap (λ t. c.extend_from_slice-4.new.self.items ++ t) (c.as_bytes-2.ensures.value ∙ c.mark.ensures)) e8 in
    let e6 = behind c.push_number-2.new.out.items c.extend_from_slice-4.new.self.items c.extend_from_slice-6.new.self.items (codes ": ") t7 c.in_ok-extend_from_slice-4.ensures.items e7 in
    let e5 = behind c.extend_from_slice-3.new.self.items c.push_number-2.new.out.items c.extend_from_slice-6.new.self.items (decimal c.args.at.column) t6 c.in_ok-push_number-2.ensures e6 in
    let e4 = behind c.push_number.new.out.items c.extend_from_slice-3.new.self.items c.extend_from_slice-6.new.self.items (codes ":") t5 c.in_ok-extend_from_slice-3.ensures.items e5 in
    let e3 = behind c.extend_from_slice-2.new.self.items c.push_number.new.out.items c.extend_from_slice-6.new.self.items (decimal c.args.at.line) t4 c.in_ok-push_number.ensures e4 in
    let e2 = behind c.extend_from_slice.new.self.items c.extend_from_slice-2.new.self.items c.extend_from_slice-6.new.self.items (codes ":") t3 c.in_ok-extend_from_slice-2.ensures.items e3 in
    behind c.args.out.now.items c.extend_from_slice.new.self.items c.extend_from_slice-6.new.self.items c.args.file.now t2 (c.in_ok-extend_from_slice.ensures.items ∙ ap (λ t. c.args.out.now.items ++ t) c.as_bytes.ensures.value) e2
