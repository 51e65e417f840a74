-- What is queued for a life that begins comes to the load of its widget.
use Rattle.std.proofs.Common.{◌≡◌, ℕ, ◌+◌, ◌≤◌, List, [], ◌∷◌, ◌++◌, refl, ap, ◌∙◌, length, Option, None, Some, arith}
use Rattle.std.specs.List.{fold}
use Rattle.js_tree.specs.Plain.{Fun, Stmts}
use Rattle.widget_meaning.specs.Values.{Stop}
use Rattle.widget_meaning.specs.OwnState.{OwnState}
use Rattle.widget_meaning.specs.Items.{unless_stopped}
use Rattle.widget_meaning.specs.Alone.{Content, beginning, call_parts, go_turn, library_turn, load_library, loaded}
use Rattle.life_laws.specs.Life as todo
use Rattle.life_laws.specs.Life.{due, potentials, waiting, work}
use Rattle.page_load.specs.Queues.{go_works, libraries_works, library_works, loads}

-- works in front of works
fold_both : (o : OwnState) (is js : List todo.Work) → fold work o (is ++ js) ≡ fold work (fold work o is) js
fold_both o [] js = refl
fold_both o (i ∷ is) js = fold_both (work o i) is js

-- a library, by what it hands over
library_done : (o : OwnState) (h : Option (List ℕ × Fun)) → fold work o (library_works h) ≡ unless_stopped o.stop o (library_turn h)
library_done o (Some h) = refl
library_done o None = still o.stop
  where
    still : (c : Option Stop) → o ≡ unless_stopped c o (library_turn None)
    still None = refl
    still (Some c) = refl

libraries_done : (o : OwnState) (programs : List Stmts) → fold work o (libraries_works programs) ≡ fold load_library o programs
libraries_done o [] = refl
libraries_done o (p ∷ programs) =
    fold_both o (library_works (call_parts p)) (libraries_works programs)
    ∙ ap (λ s. fold work s (libraries_works programs)) (library_done o (call_parts p))
    ∙ libraries_done (load_library o p) programs

go_done : (o : OwnState) (h : Option (List ℕ × Fun)) → fold work o (go_works h) ≡ unless_stopped o.stop o (go_turn h)
go_done o (Some h) = refl
go_done o None = still o.stop
  where
    still : (c : Option Stop) → o ≡ unless_stopped c o (go_turn None)
    still None = refl
    still (Some c) = refl

pub loads_due : (c : Content) (fuel : ℕ) → due (waiting (beginning c fuel) (loads c)) ≡ loaded c fuel
loads_due c fuel =
    fold_both (beginning c fuel) (libraries_works c.libraries) (go_works (call_parts c.script))
    ∙ ap (λ s. fold work s (go_works (call_parts c.script))) (libraries_done (beginning c fuel) c.libraries)
    ∙ go_done (fold load_library (beginning c fuel) c.libraries) (call_parts c.script)

-- ## How many turns they are

potentials_both : (is js : List todo.Work) → potentials (is ++ js) ≡ potentials is + potentials js
potentials_both [] js = let e : (n : ℕ) → n ≡ 0 + n = λ n. omega arith in e (potentials js)
potentials_both (i ∷ is) js = ap (λ n. todo.potential i + n) (potentials_both is js) ∙ (let e : (a b c : ℕ) → a + (b + c) ≡ (a + b) + c = λ a b c. omega arith in e (todo.potential i) (potentials is) (potentials js))

one_library : (h : Option (List ℕ × Fun)) → potentials (library_works h) ≤ 1
one_library None = omega arith
one_library (Some h) = omega arith

one_go : (h : Option (List ℕ × Fun)) → potentials (go_works h) ≤ 1
one_go None = omega arith
one_go (Some h) = omega arith

few_libraries : (programs : List Stmts) → potentials (libraries_works programs) ≤ length programs
few_libraries [] = omega arith
few_libraries (p ∷ programs) = omega (arith, potentials_both (library_works (call_parts p)) (libraries_works programs), one_library (call_parts p), few_libraries programs)

pub few_loads : (programs : List Stmts) (script : Stmts) → potentials (libraries_works programs ++ go_works (call_parts script)) ≤ length programs + 1
few_loads programs script = omega (arith, potentials_both (libraries_works programs) (go_works (call_parts script)), few_libraries programs, one_go (call_parts script))
