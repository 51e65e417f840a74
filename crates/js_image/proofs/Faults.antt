-- The object of a fault may be made.
use Rattle.std.proofs.Common.{◌≡◌, ℕ, ◌<◌, ◌≤◌, List, ◌∷◌, [], length, refl, sym, subst, arith, true, false, map}
use Rattle.std.specs.Prelude.{codes}
use Rattle.std.specs.List.{IsDistinct}
use Rattle.std.specs.Str.{bytes_eq}
use Rattle.permitted_table.specs.declared.native.HostEntry.TheVariants as entry
use Rattle.store_cells.specs.declared.value.Value.{Value}
use Rattle.store_cells.specs.Cells.{PlainCell, is_bunch_at, is_scope_at, prototypes}
use Rattle.store_cells.specs.Host.{is_permitted_cell, place_of}
use Rattle.object_store.specs.Calls.{IsPrototype}
use Rattle.widget_meaning.specs.Values as meaning
use Rattle.js_image.specs.Held.{ArePairs, IsHeld}
use Rattle.js_image.specs.Laws.{AreLawful}
use Rattle.js_image.specs.Plans.{fault_values}
use Rattle.js_image.proofs.Hosts.{permitted_held}

two_names : IsDistinct bytes_eq (codes "name" ∷ codes "message" ∷ [])
unfolding IsDistinct
two_names = ((refl, tt), (tt, tt))

pub fault_new : (w : ℕ) (cells : List PlainCell) → AreLawful cells → (proto : ℕ) → proto ≡ place_of entry.ObjectPrototype → is_permitted_cell proto ≡ true → is_scope_at cells proto ≡ false → is_bunch_at cells proto ≡ false → prototypes cells proto ≤ 2 → proto < length cells → (e : meaning.Fault) (ps : List (List ℕ × Value)) → ps ≡ fault_values e
    → IsHeld w cells proto × IsPrototype cells proto × IsDistinct bytes_eq (map (λ p. p.0) ps) × ArePairs w cells ps
fault_new w cells laws proto place within object plain few born e ps is =
    (permitted_held w cells laws proto within, record { within = born; object = object; unbunched = plain; few = omega (arith, few) }, subst (λ (l : List (List ℕ × Value)). IsDistinct bytes_eq (map (λ p. p.0) l)) (sym is) two_names, subst (ArePairs w cells) (sym is) (tt, (tt, tt)))
