-- The pairs of a style that is read.
use Rattle.std.proofs.Common.{◌≡◌, ℕ, List, [], refl, sym, ap, ◌∙◌, Option, None, Some}
use Rattle.style_text.specs.Styles.{Pair, StyleSpells}
use Rattle.style_text.specs.declared.StyleFault.{StyleFault}
use Rattle.style_text.specs.declared.StyleFault.TheVariants as fault
use Rattle.widget_meaning.specs.Styles.{pairs_or_none, style_of, style_pairs}
use Rattle.widget_meaning.proofs.TextsHold.{style_laws}

pub style_read : (t : List ℕ) (pairs : List Pair) → StyleSpells t pairs → style_pairs t ≡ pairs
style_read t pairs h = ap pairs_or_none ((style_laws t pairs).found h)

pub style_none : (t : List ℕ) → ((pairs : List Pair) → StyleSpells t pairs → ⊥) → style_pairs t ≡ []
style_none t none = by (style_of t) refl
  where
    by : (o : Option (List Pair)) → style_of t ≡ o → pairs_or_none o ≡ []
    by None e = refl
    by (Some pairs) e = absurd (none pairs ((style_laws t pairs).spelled e))

pub bad_style : (f : StyleFault) (k : ℕ) → f ≡ fault.BadStyle k → f ≡ fault.Memory → ⊥
bad_style f k e g = by (sym e ∙ g)
  where
    by : fault.BadStyle k ≡ fault.Memory → ⊥
    by h = cc
