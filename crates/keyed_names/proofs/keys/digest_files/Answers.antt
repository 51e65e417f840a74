use Rattle.std.proofs.Common.{[], ◌++◌, List, ℕ, Bor, get_or, subst, ap, take, ◌∙◌}
use Rattle.std.proofs.lemmas.List.{take_all}
use Rattle.sha2.specs.Sha256.{sha256}
use Rattle.sha2.specs.Hashers.{Holds256}
use Rattle.keyed_names.proofs.Framing.{message, message_more}
use Rattle.keyed_names.specs.Keying.{digest_of}
use Rattle.keyed_names.proofs.keys.digest_files.Goals as goal

-- one file more
pub each-preserved : goal.each-preserved
each-preserved c =
    let none : Bor (List ℕ) = record { ref_ptr = (0, 0); now = [] } in
    let before = message (take c.each.file-index c.args.files.now) in
    let file = (get_or c.args.files.now c.each.file-index none).now in
    subst (λ m. Holds256 c.update-in-each.new.self m)
    (ap (λ b. (before ++ b) ++ file) c.length_bytes.ensures ∙ message_more c.args.files.now c.each.file-index none c.each-test.true)
    (c.update-in-each.ensures (before ++ c.length_bytes.result) (c.update.ensures before c.each.invariant))

-- all files
pub returns : goal.returns
unfolding digest_of
returns c =
    c.finalize.ensures (message (take c.each.file-index c.args.files.now)) c.each.invariant ∙ ap (λ files. sha256 (message files)) (take_all c.each.file-index c.args.files.now c.each-test.false)
