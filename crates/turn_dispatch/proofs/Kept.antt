-- What is kept of the store.
use Rattle.std.proofs.Common.{ℕ, List, []}
use Rattle.js_tree.specs.Forest.{Forest}
use Rattle.store_cells.specs.Cells.{Cells}
use Rattle.page_tree.specs.declared.page.Page.{Page}
use Rattle.js_image.specs.Held.{Kept}
use Rattle.native_image.proofs.Joint.{keeps_of, sound_stays}
use Rattle.native_image.proofs.Keeping.{store_same, store_then}
use Rattle.turn_dispatch.specs.Took.{StaysSound}

-- nothing changed
pub sound_same : (w : ℕ) (p : Page) (s : Cells) → StaysSound w p s s
sound_same w p s = record { sound = λ l h. h; kept = store_same w s }

-- one call after the other
pub sound_then : (w : ℕ) (p : Page) (a b c : Cells) → StaysSound w p a b → StaysSound w p b c → StaysSound w p a c
sound_then w p a b c f g = record { sound = λ l h. g.sound l (f.sound l h); kept = store_then w a b c f.kept g.kept }

-- a call of the store
pub sound_of : (w : ℕ) (p : Page) (s t : Cells) → ((fs : List Forest) → Kept fs w s t) → StaysSound w p s t
sound_of w p s t k = record { sound = λ l h. sound_stays w s t p l h (k []); kept = keeps_of w s t k }
