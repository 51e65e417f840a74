-- Items that are given.
use Rattle.std.proofs.Common.{◌≡◌, ℕ, zero, suc, List, [], ◌∷◌, ◌++◌, map, refl, sym, ap, ◌∙◌, subst, Some}
use Rattle.std.specs.Prelude.{slice_get}
use Rattle.std.specs.List.{fold}
use Rattle.widget_meaning.specs.OwnState.{OwnState}
use Rattle.life_laws.specs.Life as todo
use Rattle.life_laws.specs.Life.{Seen, due, image, held}
use Rattle.life_laws.specs.declared.entry.PickEntry.{PickEntry}
use Rattle.life_laws.specs.Journal.{Joined, AllJoined, queued, on_at}

folded : (q : List todo.Work) (x : todo.Work) (o : OwnState) → fold todo.work o (q ++ x ∷ []) ≡ todo.work (fold todo.work o q) x
folded [] x o = refl
folded (i ∷ q) x o = folded q x (todo.work o i)

pub due_queued : (x : todo.Work) (s : Seen) → due (queued x s) ≡ todo.work (due s) x
due_queued x s = folded s.queue x (held s.going s.own)

pub dues_on : (n : ℕ) (x : todo.Work) (ss : List Seen) → map due (on_at n (queued x) ss) ≡ on_at n (λ o. todo.work o x) (map due ss)
dues_on n x [] = refl
dues_on zero x (s ∷ ss) = ap (λ o. o ∷ map due ss) (due_queued x s)
dues_on (suc n) x (s ∷ ss) = ap (λ os. due s ∷ os) (dues_on n x ss)

pub dues_all : (x : todo.Work) (ss : List Seen) → map due (map (queued x) ss) ≡ map (λ o. todo.work o x) (map due ss)
dues_all x [] = refl
dues_all x (s ∷ ss) = ap (λ o. o ∷ map due (map (queued x) ss)) (due_queued x s) ∙ ap (λ os. todo.work (due s) x ∷ os) (dues_all x ss)

pub images_on : (n : ℕ) (x : todo.Work) (ss : List Seen) → map image (on_at n (queued x) ss) ≡ map image ss
images_on n x [] = refl
images_on zero x (s ∷ ss) = refl
images_on (suc n) x (s ∷ ss) = ap (λ os. image s ∷ os) (images_on n x ss)

pub images_all : (x : todo.Work) (ss : List Seen) → map image (map (queued x) ss) ≡ map image ss
images_all x [] = refl
images_all x (s ∷ ss) = ap (λ os. image s ∷ os) (images_all x ss)

head_of : (x y : OwnState) (xs ys : List OwnState) → x ∷ xs ≡ y ∷ ys → x ≡ y
head_of x y xs ys e = cc

tail_of : (x y : OwnState) (xs ys : List OwnState) → x ∷ xs ≡ y ∷ ys → xs ≡ ys
tail_of x y xs ys e = cc

image_at : (ss ts : List Seen) (w : ℕ) (s : Seen) → map image ss ≡ map image ts → slice_get ss w ≡ Some s → (t : Seen) × (slice_get ts w ≡ Some t) × (image t ≡ image s)
image_at [] ts w s e f = cc
image_at (x ∷ ss) [] w s e f = cc
image_at (x ∷ ss) (y ∷ ts) zero s e f = let same : x ≡ s = cc in (y, refl, sym (head_of (image x) (image y) (map image ss) (map image ts) e) ∙ ap image same)
image_at (x ∷ ss) (y ∷ ts) (suc w) s e f = image_at ss ts w s (tail_of (image x) (image y) (map image ss) (map image ts) e) f

-- the journal is that of the same images
pub joined_given : (js : List PickEntry) (old new : List Seen) → map image new ≡ map image old → AllJoined js old → AllJoined js new
joined_given js old new e j = λ w s f. (let t = image_at new old w s e f in let P : OwnState → Type 0 = λ o. Joined w js o.spent in subst P t.2 (j w t.0 t.1))
