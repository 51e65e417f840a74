-- The methods that make a text of a text by itself.
use Rattle.std.proofs.Common.{◌≡◌, ℕ, List, length, refl}
use Rattle.permitted_table.specs.declared.native.TextNative.{TextNative}
use Rattle.permitted_table.specs.declared.native.TextNative.TheVariants as method
use Rattle.widget_meaning.specs.Values.{Value}
use Rattle.widget_meaning.specs.OwnState.{State}
use Rattle.widget_meaning.specs.NativeForms.{give_text}
use Rattle.widget_meaning.specs.TextNatives.{made_of, text_method}

-- they are those that are not named
pub others_made : (w : TextNative) → (w ≡ method.CharAt → ⊥) → (w ≡ method.CharCodeAt → ⊥) → (w ≡ method.TextConcat → ⊥) → (w ≡ method.IndexOf → ⊥) → (w ≡ method.LastIndexOf → ⊥) → (w ≡ method.TextSlice → ⊥) → (w ≡ method.Substring → ⊥) → (w ≡ method.Split → ⊥) → (t : List ℕ) (vs : List Value) (s : State) → text_method w t vs s ≡ give_text (length t) (made_of w t) s
others_made method.CharAt a b c d e f g h t vs s = absurd (a refl)
others_made method.CharCodeAt a b c d e f g h t vs s = absurd (b refl)
others_made method.TextConcat a b c d e f g h t vs s = absurd (c refl)
others_made method.IndexOf a b c d e f g h t vs s = absurd (d refl)
others_made method.LastIndexOf a b c d e f g h t vs s = absurd (e refl)
others_made method.TextSlice a b c d e f g h t vs s = absurd (f refl)
others_made method.Substring a b c d e f g h t vs s = absurd (g refl)
others_made method.Split a b c d e f g h t vs s = absurd (h refl)
others_made _ a b c d e f g h t vs s = refl
