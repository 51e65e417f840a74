-- What the machine's answer says of the bytes.
use Rattle.std.proofs.Common.{◌≡◌, ℕ, List, refl, sym, ap, subst, ◌∙◌}
use Rattle.std.specs.Prelude.{Result, Ok, Err, IfOk, IfErr, MatchResult}
use Rattle.std.specs.Global.{Vec}
use Rattle.plain_tree.specs.declared.plain.Plain.{Plain}
use Rattle.std.specs.Str.{IsUtf8, IsValidUpTo}
use Rattle.markup_grammar.specs.Judge.{Read, Bad, judged}
use Rattle.markup_grammar.specs.Markup.{MarkupSpells}
use Rattle.markup_grammar.proofs.Answers.{trees_are}
use Rattle.markup_grammar.proofs.Places.{spells_judged, text_judged}
use Rattle.markup_grammar.proofs.Broken.{broken_judged}
use Rattle.markup_reader.specs.declared.fault.MarkupFault.{MarkupFault}
use Rattle.markup_reader.specs.declared.fault.MarkupFault.TheVariants as fault
use Rattle.markup_reader.specs.Faults.{IsMarkupFault, IsJudged}
use Rattle.plain_tree.specs.Trees.{Trees}
use Rattle.plain_tree.specs.Plains.{Places, placed_all}

pub read_is : (bytes : List ℕ) (ts : Trees Places) → IsUtf8 bytes → judged bytes ≡ Read ts → MarkupSpells bytes ts
read_is bytes ts u e = text_judged bytes u (Read ts) e

pub read_only : (bytes : List ℕ) (ts us : Trees Places) → judged bytes ≡ Read ts → MarkupSpells bytes us → ts ≡ us
read_only bytes ts us e m = trees_are ts us (sym e ∙ spells_judged bytes us m)

pub fault_is : (bytes : List ℕ) (e : MarkupFault) → IsUtf8 bytes → IsJudged (judged bytes) e → IsMarkupFault bytes e
fault_is bytes (fault.BadMarkup at) u j = text_judged bytes u (Bad at) j
fault_is bytes fault.Memory u j = tt

pub broken_is : (bytes : List ℕ) (n : ℕ) (e : MarkupFault) → IsValidUpTo bytes n → IsJudged (judged bytes) e → IsMarkupFault bytes e
broken_is bytes n (fault.BadMarkup at) v j = broken_judged bytes n v (Bad at) j
broken_is bytes n fault.Memory v j = tt

-- bytes that are spelled are refused for want of memory alone
pub fault_only : (bytes : List ℕ) (e : MarkupFault) (ts : Trees Places) → IsJudged (judged bytes) e → MarkupSpells bytes ts → e ≡ fault.Memory
fault_only bytes (fault.BadMarkup at) ts j m = absurd (clash ts at (sym (spells_judged bytes ts m) ∙ j))
  where
    clash : (us : Trees Places) (p : ℕ) → Read us ≡ Bad p → ⊥
    clash us p h = cc
fault_only bytes fault.Memory ts j m = refl

-- ## The three clauses, of a result

pub in_read : (text bytes : List ℕ) (r : Result (Vec Plain) MarkupFault) → text ≡ bytes → IsUtf8 bytes → MatchResult r (λ v. judged text ≡ Read (placed_all v.items)) (IsJudged (judged text)) → IfOk r (λ v. MarkupSpells bytes (placed_all v.items))
in_read text bytes (Ok v) e u m = read_is bytes (placed_all v.items) u (sym (ap judged e) ∙ m)
in_read text bytes (Err f) e u m = tt

pub in_only : (text bytes : List ℕ) (r : Result (Vec Plain) MarkupFault) → text ≡ bytes → MatchResult r (λ v. judged text ≡ Read (placed_all v.items)) (IsJudged (judged text)) → (ts : Trees Places) → MarkupSpells bytes ts → MatchResult r (λ v. placed_all v.items ≡ ts) (λ f. f ≡ fault.Memory)
in_only text bytes (Ok v) e m ts s = read_only bytes (placed_all v.items) ts (sym (ap judged e) ∙ m) s
in_only text bytes (Err f) e m ts s = fault_only bytes f ts (subst (λ l. IsJudged (judged l) f) e m) s

pub in_place : (text bytes : List ℕ) (r : Result (Vec Plain) MarkupFault) → text ≡ bytes → IsUtf8 bytes → MatchResult r (λ v. judged text ≡ Read (placed_all v.items)) (IsJudged (judged text)) → IfErr r (IsMarkupFault bytes)
in_place text bytes (Ok v) e u m = tt
in_place text bytes (Err f) e u m = fault_is bytes f u (subst (λ l. IsJudged (judged l) f) e m)
