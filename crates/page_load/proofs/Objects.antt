-- The object `lib` comes into the store.
use Rattle.std.proofs.Common.{◌≡◌, ℕ, ◌<◌, ◌≤◌, List, [], ◌∷◌, ◌++◌, Bool, true, false, refl, sym, ap, ◌∙◌, length, arith, if◌then◌else◌}
use Rattle.std.specs.Prelude.{◌||◌}
use Rattle.std.proofs.lemmas.Bool.Decides.{nat_tests}
use Rattle.js_tree.specs.Forest.{Forest}
use Rattle.store_cells.specs.Cells.{Cells, PlainCell, is_bunch_at, is_scope_at, own_count, prototypes}
use Rattle.store_cells.specs.Host.{host_count, is_permitted_cell, object_prototype}
use Rattle.object_store.specs.declared.store.NewCell.TheVariants as fresh
use Rattle.object_store.specs.Calls.{IsMade, IsPrototype}
use Rattle.object_store.specs.Grows.{Grows}
use Rattle.object_store.specs.Owned as store
use Rattle.object_store.specs.Owned.{Made, Owned, first_cell, own_link, own_paid, owned, visible_at}
use Rattle.widget_meaning.specs.Values as meaning
use Rattle.js_image.specs.Held.{IsHeld, Kept}
use Rattle.js_image.specs.Image.{meant}
use Rattle.js_image.specs.Laws.{AreLawful}
use Rattle.js_image.proofs.Hosts.{permitted_held, permitted_unseen}
use Rattle.js_image.proofs.Makes.{new_held, new_kept}
use Rattle.page_load.specs.Laying.{nothing_owned}
use Rattle.page_load.specs.Lives.{IsLib}
use Rattle.page_load.specs.Owning.{one_object}

-- the prototype of objects may be one
pub is_prototype : (cells : List PlainCell) (proto : ℕ) → is_scope_at cells proto ≡ false → is_bunch_at cells proto ≡ false → prototypes cells proto ≤ 2 → proto < length cells → IsPrototype cells proto
is_prototype cells proto object plain few born = record { within = born; object = object; unbunched = plain; few = omega (arith, few) }

not_permitted : (i : ℕ) → host_count ≤ i → is_permitted_cell i ≡ false
not_permitted i le = grind (arith, nat_tests, le)

left_of : (a b : Bool) → b ≡ false → (a || b) ≡ true → a ≡ true
left_of true b e h = refl
left_of false b e h = sym e ∙ h

module _ (w : ℕ) (old new : Cells) (laws : AreLawful old.cells) (proto id : ℕ) (is : proto ≡ object_prototype) (permitted : is_permitted_cell proto ≡ true) (able : IsPrototype old.cells proto) (nothing : owned w old ≡ nothing_owned) (made : IsMade old new w id (fresh.Object proto)) (own : Made w old new id (fresh.Object proto)) where
  held : IsHeld w old.cells proto
  held = permitted_held w old.cells laws proto permitted

  visible : visible_at w new.cells id ≡ true
  visible = left_of (visible_at w new.cells id) (is_permitted_cell id) (not_permitted id (omega (arith, laws.enough, made.place))) (new_held w old new (fresh.Object proto) (held, able) id made).1

  pub lib_is : IsLib w new id
  lib_is = record {
    held = new_held w old new (fresh.Object proto) (held, able) id made;
    first = ap (λ b. meant (if b then store.Own (own_count w new.cells id) else store.Other id)) visible ∙ ap meaning.Own (own.number ∙ ap (λ (o : Owned). length o.heap) nothing);
  }

  link : own_link w old.cells proto ≡ store.Other object_prototype
  link = ap (λ b. if b then store.Own (own_count w old.cells proto) else store.Other proto) (permitted_unseen w old.cells laws proto permitted) ∙ ap store.Other is

  pub one_is : owned w new ≡ one_object
  one_is = own.seen ∙ (λ j. own_paid 1 0 0 (record (nothing j) { heap = (nothing j).heap ++ first_cell store.Object (link j) ∷ []; scopes = (nothing j).scopes ++ [] }))

  pub lib_kept : ((v : ℕ) → Grows v old.cells new.cells) → ((v : ℕ) → (w ≡ v → ⊥) → owned v new ≡ owned v old) → (fs : List Forest) → Kept fs w old new
  lib_kept grows others fs = new_kept w old new (fresh.Object proto) (held, able) id laws.enough made own grows others fs tt refl
