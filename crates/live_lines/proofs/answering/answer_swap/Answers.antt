use Rattle.std.proofs.Common.{◌≡◌, Some, Err, refl, ap, subst, arith}
use Rattle.std.specs.Prelude.{IfSome, string_bytes}
use Rattle.run_steps.specs.Page.{file_limit}
use Rattle.run_steps.specs.Reading.{IsLong}
use Rattle.live_text.specs.declared.answer.Cause.TheVariants as cause
use Rattle.live_lines.specs.Transcript.{ReadFailed, WasRead}
use Rattle.live_lines.proofs.ReadOne.{was_read, was_unread}
use Rattle.live_lines.proofs.Replying.{alive_of, as_read, fifth, long, on_one, on_three, swap_answered, unread}
use Rattle.live_lines.proofs.Causes.{other_refused, swap_taken}
use Rattle.live_lines.proofs.answering.answer_swap.Goals as goal

pub swap-requires-clause-alive : goal.swap-requires-clause-alive
swap-requires-clause-alive g c = alive_of c.args.session.now c.requires.stands

pub swap-requires-clause-many : goal.swap-requires-clause-many
swap-requires-clause-many g c = c.requires.stands.at.many

pub returns-then-len-ge-MOST_SWAPS-clause-answered : goal.returns-then-len-ge-MOST_SWAPS-clause-answered
returns-then-len-ge-MOST_SWAPS-clause-answered g c =
    on_one c.push_refused.result _ _ (λ appended. fifth g.F.Files.told g.F.Files.calm g.F.Files.faults c.args.to _ c.args.session.now _ _ c.args.files.now c.requires.stands appended (omega (arith, c.if-len-ge-MOST_SWAPS.true, c.len.ensures))) c.push_refused.ensures

pub returns-then-len-ge-MOST_SWAPS-clause-no_file : goal.returns-then-len-ge-MOST_SWAPS-clause-no_file
returns-then-len-ge-MOST_SWAPS-clause-no_file g c = on_one c.push_refused.result _ _ (other_refused cause.BadShape _ _ refl) c.push_refused.ensures

pub returns-in-Ok-clause-answered : goal.returns-in-Ok-clause-answered
returns-in-Ok-clause-answered g c =
    let told = g.F.Files.told c.args.files.now in
    let name = string_bytes c.args.name in
    on_three c.swap.result _ _ _ _ (λ lives answer many. swap_answered g.F.Files.told g.F.Files.calm g.F.Files.faults c.args.to name (record { name = name; bytes = c.in-Ok.bytes.items }) c.args.session.now c.swap.new.self _ _ c.args.files.now c.read_file.new.files c.requires.stands
    (as_read told name c.in-Ok.bytes.items (subst (λ n. IfSome told (λ m. m n ≡ Some c.in-Ok.bytes.items)) c.as_str.ensures.value c.in-Ok.ensures.ok) c.in-Ok.ensures.within)
    (subst (λ n. WasRead g.F.Files.told g.F.Files.calm g.F.Files.faults c.args.files.now c.read_file.new.files n) c.as_str.ensures.value (was_read g.F.Files.told g.F.Files.calm g.F.Files.faults _ c.in-Ok.ensures.reads)) lives answer many)
    c.swap.ensures.lives c.swap.ensures.answer c.swap.ensures.many

pub returns-in-Ok-clause-no_file : goal.returns-in-Ok-clause-no_file
returns-in-Ok-clause-no_file g c =
    let name = string_bytes c.args.name in
    on_three c.swap.result _ _ _ _ (λ lives answer many. swap_taken c.args.to name (record { name = name; bytes = c.in-Ok.bytes.items }) c.args.session.now c.swap.new.self _ _ c.requires.stands lives answer)
    c.swap.ensures.lives c.swap.ensures.answer c.swap.ensures.many

pub returns-in-Err-TooLarge-clause-answered : goal.returns-in-Err-TooLarge-clause-answered
returns-in-Err-TooLarge-clause-answered g c =
    let told = g.F.Files.told c.args.files.now in
    on_one c.push_refused-in-Err-TooLarge.result _ _ (λ appended. long g.F.Files.told g.F.Files.calm g.F.Files.faults c.args.to (string_bytes c.args.name) c.args.session.now _ _ c.args.files.now c.requires.stands c.read_file.new.files appended
    (subst (λ n. IfSome told (λ m. IsLong (m n) file_limit)) c.as_str.ensures.value (c.in-Err-TooLarge.ensures.large (ap Err c.in-Err-TooLarge.field-0-is)))
    (subst (λ n. WasRead g.F.Files.told g.F.Files.calm g.F.Files.faults c.args.files.now c.read_file.new.files n) c.as_str.ensures.value (was_read g.F.Files.told g.F.Files.calm g.F.Files.faults _ c.in-Err-TooLarge.ensures.reads))) c.push_refused-in-Err-TooLarge.ensures

pub returns-in-Err-TooLarge-clause-no_file : goal.returns-in-Err-TooLarge-clause-no_file
returns-in-Err-TooLarge-clause-no_file g c = on_one c.push_refused-in-Err-TooLarge.result _ _ (other_refused cause.TooLarge _ _ refl) c.push_refused-in-Err-TooLarge.ensures

pub returns-in-Err-ReadFault-clause-answered : goal.returns-in-Err-ReadFault-clause-answered
returns-in-Err-ReadFault-clause-answered g c =
    on_one c.push_refused-in-Err-ReadFault.result _ _ (λ appended. unread g.F.Files.told g.F.Files.calm g.F.Files.faults c.args.to (string_bytes c.args.name) c.args.session.now _ _ c.args.files.now c.requires.stands c.read_file.new.files appended
    (subst (λ n. ReadFailed g.F.Files.told g.F.Files.calm g.F.Files.faults c.args.files.now c.read_file.new.files n) c.as_str.ensures.value (was_unread g.F.Files.told g.F.Files.calm g.F.Files.faults _ c.in-Err-ReadFault.field-0-is c.in-Err-ReadFault.ensures.reads))) c.push_refused-in-Err-ReadFault.ensures

pub returns-in-Err-ReadFault-clause-no_file : goal.returns-in-Err-ReadFault-clause-no_file
returns-in-Err-ReadFault-clause-no_file g c =
    on_one c.push_refused-in-Err-ReadFault.result _ _ (λ appended same.
    subst (λ n. ReadFailed g.F.Files.told g.F.Files.calm g.F.Files.faults c.args.files.now c.read_file.new.files n) c.as_str.ensures.value (was_unread g.F.Files.told g.F.Files.calm g.F.Files.faults _ c.in-Err-ReadFault.field-0-is c.in-Err-ReadFault.ensures.reads)) c.push_refused-in-Err-ReadFault.ensures
