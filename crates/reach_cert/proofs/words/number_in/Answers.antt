use Rattle.std.proofs.Common.{◌≡◌, true, sym, ◌∙◌, arith}
use Rattle.std.specs.Fmt.{decimal}
use Rattle.std.proofs.lemmas.Slice.Eq.{bytes_eq-Decides}
use Rattle.reach_cert.proofs.Numbers.{number_only, number_none}
use Rattle.reach_cert.proofs.words.number_in.Goals as goal
use Rattle.reach_cert.proofs.words.number_in.Goals.{else-eq-via-then-eq+else-n-lt-LIMIT, else-eq-via-else-eq}

pub returns-then-n-lt-LIMIT : goal.returns-then-n-lt-LIMIT
returns-then-n-lt-LIMIT c =
    let printed : c.as_bytes.result.now ≡ decimal c.value_of-n.result = c.as_bytes.ensures.value ∙ c.format.ensures.text in
    let same = (bytes_eq-Decides c.args.word.now c.as_bytes.result.now).0 (sym c.eq.ensures ∙ c.if-eq.true) in
    sym (number_only c.args.word.now c.value_of-n.result c.if-n-lt-LIMIT.true (sym (same ∙ printed)))

pub returns-else-eq : goal.returns-else-eq
returns-else-eq c =
    number_none c.args.word.now c.value_of-n.result c.value_of-n.ensures (λ is small.
    let printed : c.as_bytes.result.now ≡ decimal c.value_of-n.result = c.as_bytes.ensures.value ∙ c.format.ensures.text in
    let yes : c.eq.result ≡ true = c.eq.ensures ∙ (bytes_eq-Decides c.args.word.now c.as_bytes.result.now).1 (is ∙ sym printed) in
    elim c.else-eq.branch [ else-eq-via-then-eq+else-n-lt-LIMIT w ↦ omega (arith, w.if-n-lt-LIMIT.false, small) | else-eq-via-else-eq w ↦ cc (yes, w.if-eq.false) ])
