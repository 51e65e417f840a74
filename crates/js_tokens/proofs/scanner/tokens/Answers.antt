use Rattle.js_tokens.proofs.Answer.{found_answer, place_answer, only_answer}
use Rattle.js_tokens.proofs.scanner.tokens.Goals as goal

pub returns-in-Ok-clause-found : goal.returns-in-Ok-clause-found
returns-in-Ok-clause-found c = found_answer (λ v. v.items) c.in-Ok.text.now c.args.bytes.now c.in-Ok.ensures.cases.0 c.in-Ok.ensures.cases.1 c.text_tokens.result c.text_tokens.ensures.found

pub returns-in-Ok-clause-only : goal.returns-in-Ok-clause-only
returns-in-Ok-clause-only c =
    let same = c.in-Ok.ensures.cases.0 in
    let utf8 = c.in-Ok.ensures.cases.1 in
    only_answer (λ v. v.items) c.in-Ok.text.now c.args.bytes.now same utf8 c.text_tokens.result
    (found_answer (λ v. v.items) c.in-Ok.text.now c.args.bytes.now same utf8 c.text_tokens.result c.text_tokens.ensures.found)
    (place_answer (λ v. v.items) c.in-Ok.text.now c.args.bytes.now same utf8 c.text_tokens.result c.text_tokens.ensures.place)

pub returns-in-Ok-clause-place : goal.returns-in-Ok-clause-place
returns-in-Ok-clause-place c = place_answer (λ v. v.items) c.in-Ok.text.now c.args.bytes.now c.in-Ok.ensures.cases.0 c.in-Ok.ensures.cases.1 c.text_tokens.result c.text_tokens.ensures.place
