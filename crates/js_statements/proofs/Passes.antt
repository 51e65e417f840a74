-- `for-in` at a name that is found.
use Rattle.std.proofs.Common.{◌≡◌, ℕ, suc, List, [], ◌∷◌, ◌<◌, Bool, true, if◌then◌else◌, is_some, drop, get_or, length, unwrap_or, refl, sym, ap, ◌∙◌}
use Rattle.std.proofs.Math.Seq.{drop-cons}
use Rattle.std.proofs.lemmas.Option.{slice_get_read}
use Rattle.js_tree.specs.Plain.{Stmt}
use Rattle.widget_meaning.specs.OwnState.{State}
use Rattle.widget_meaning.specs.Values.{Value}
use Rattle.widget_meaning.specs.Plan.{Place, Ret, Do, Pass, ForInLoop}
use Rattle.widget_meaning.specs.Properties.{property}
use Rattle.widget_meaning.specs.Statements.{for_in}
use Rattle.js_flow.specs.Views.{name_at}

-- such a name is the next pass
pub found : (v : Value) (x : List ℕ) (b : List Stmt) (p : Place) (s : State) (ys : List (List ℕ)) (n : ℕ) (y : List ℕ) → n < length ys → y ≡ get_or ys n y
    → is_some (property s v y) ≡ true → for_in v x (drop n ys) b p s ≡ Do (Pass (ForInLoop v x (name_at ys n) (drop (suc n) ys) b) p) s Ret
found v x b p s ys n y lt e h =
    let cons = drop-cons ys n y lt ∙ ap (λ z. z ∷ drop (suc n) ys) (sym e) in
    let name : name_at ys n ≡ y = ap (λ o. unwrap_or o []) (slice_get_read ys (length ys) n y refl lt e) in
    ap (λ l. for_in v x l b p s) cons
    ∙ (ap (λ (t : Bool). if t then Do (Pass (ForInLoop v x y (drop (suc n) ys) b) p) s Ret else for_in v x (drop (suc n) ys) b p s) h
    ∙ ap (λ z. Do (Pass (ForInLoop v x z (drop (suc n) ys) b) p) s Ret) (sym name))
