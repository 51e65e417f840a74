-- What is an entry, and what is none.
use Rattle.std.proofs.Common.{◌≡◌, ℕ, Bool, true, false, List, [], ◌∷◌, codes, nat_eq, Option, Some, None, is_some, option_and_then, if◌then◌else◌, refl, ap}
use Rattle.serde_json.specs.Data.{Data}
use Rattle.serde_json.specs.Find.{get, as_str}
use Rattle.json_shapes.specs.Keys.{has_only, is_key}
use Rattle.json_shapes.specs.Look.{text_at}
use Rattle.manifest_shape.specs.Slots.{IsHtml, slot_keys, IsSlot, IsEntry}
use Rattle.manifest_shape.specs.declared.slot.SlotEntry.{SlotEntry}
use Rattle.manifest_shape.specs.declared.slot.PageEntry.{PageEntry}
use Rattle.manifest_shape.specs.declared.slot.PageEntry.TheVariants.{Html, Slot}
use Rattle.json_shapes.proofs.KeyLemmas.{listed}

-- a slot has no markup
slot_without : (version : ℕ) (d : Data) → is_some (get (codes "html") d) ≡ true → has_only (slot_keys version) d ≡ true → ⊥
slot_without version d some only = without (nat_eq version 2) (listed (codes "html") d (slot_keys version) some only) where
  without : (two : Bool) → is_key (if two then codes "widget" ∷ codes "file" ∷ codes "fuel" ∷ [] else codes "widget" ∷ codes "file" ∷ []) (codes "html") ≡ true → ⊥
  without true there = cc
  without false there = cc

no_text : (key : List ℕ) (d : Data) (text : List ℕ) (o : Option Data) → get key d ≡ o → is_some o ≡ false → text_at key d ≡ Some text → ⊥
no_text key d text None is none found = let nothing : text_at key d ≡ None = ap (λ o. option_and_then as_str o) is in cc
no_text key d text (Some e) is none found = cc

-- markup is nothing else
pub no_html : (version : ℕ) (d : Data) → is_some (get (codes "html") d) ≡ true → ((text : List ℕ) → IsHtml d text → ⊥) → (e : PageEntry) → IsEntry version d e → ⊥
no_html version d some none (Html text) is = none _ is
no_html version d some none (Slot slot) is = slot_without version d some is.keys

-- what has no markup is a slot
pub no_slot : (version : ℕ) (d : Data) → is_some (get (codes "html") d) ≡ false → ((slot : SlotEntry) → IsSlot version d slot → ⊥) → (e : PageEntry) → IsEntry version d e → ⊥
no_slot version d apart none (Html text) is = no_text (codes "html") d _ (get (codes "html") d) refl apart is.html
no_slot version d apart none (Slot slot) is = none slot is
