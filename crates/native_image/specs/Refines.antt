-- When a native carries out its plan at the image of its owner. Plans are given by call depth and state.
use Rattle.std.specs.Prelude.{◌≡◌, ℕ, ◌+◌, List, true}
use Rattle.js_tree.specs.Forest.{Forest}
use Rattle.query_grammar.specs.Finds.{has_number}
use Rattle.widget_meaning.specs.OwnState.{State}
use Rattle.widget_meaning.specs.Plan.{Plan}
use Rattle.js_image.specs.Image.{seen}
use Rattle.js_values.specs.Answers.{Answers, IsFineOut, IsOutOfFuel, Leaves}
use Rattle.js_values.specs.Fuel.{Fuel}
use Rattle.js_values.specs.declared.outcome.NativeOut.{NativeOut}
use Rattle.js_values.specs.declared.outcome.NativeOut.TheVariants as native
use Rattle.js_values.specs.declared.outcome.Plan.TheVariants as calls
use Rattle.page_image.specs.Image.{number, owns}
use Rattle.native_image.specs.Image.{Outside, Parts, image}
use Rattle.native_image.specs.Sound.{IsSound}

-- the nodes to which an answer asks for a dispatch are the widget's
abbrev pub FiresAtOwn : ℕ → Parts → NativeOut → Type 0
FiresAtOwn w h (native.Call (calls.Fire kind nodes last)) = (n : ℕ) → has_number nodes.items n ≡ true → owns h.page w n ≡ true
FiresAtOwn w h o = Unit {0}

-- An answer ends a plan of widget w: it is what is left of it after the changes, of what the widget may hold, and all is sound.
pub record EndsAt (w : ℕ) (old new : Parts) (plan : ℕ → State → Plan) (o : NativeOut) : Type 0 where
  pub leaves : (fs : List Forest) (x : Outside) (d : ℕ) → Leaves (seen w new.store.cells) (number new.page w) d o (image fs x w new) (plan d (image fs x w old))
  pub fine : IsFineOut w new.store.cells o
  pub fires : FiresAtOwn w new o
  pub sound : IsSound w new.store new.page new.around

-- An answer refines a plan of widget w, with the fuel before and after it: it is what the plan gives, of what the widget may hold; all fuel that was taken was spent; nothing changed where fuel is wanting; and all is sound.
pub record RefinesAt (w : ℕ) (old new : Parts) (had has : Fuel) (plan : ℕ → State → Plan) (o : NativeOut) : Type 0 where
  pub answer : (fs : List Forest) (x : Outside) (d : ℕ) → Answers (seen w new.store.cells) (number new.page w) d (plan d (image fs x w old)) (image fs x w old) o (image fs x w new) had.left has.left
  pub fine : IsFineOut w new.store.cells o
  pub fires : FiresAtOwn w new o
  pub spent : has.left + has.spent ≡ had.left + had.spent
  pub unpaid : IsOutOfFuel o → (new ≡ old) × (has ≡ had)
  pub sound : IsSound w new.store new.page new.around
