-- The walk: what was written, and what the stack has still to say.
use Rattle.std.proofs.Common.{◌≡◌, ℕ, ◌+◌, ◌<◌, arith, refl, List, [], ◌∷◌, ◌++◌, sym, ap, ◌∙◌, subst, append-nil}
use Rattle.std.specs.Prelude.{Bool}
use Rattle.js_tree.specs.Forest.{Forest}
use Rattle.js_pieces.specs.declared.work.Work.{Work}
use Rattle.js_pieces.specs.declared.work.Work.TheVariants as work
use Rattle.js_pieces.specs.Tidy.{spaced}
use Rattle.js_pieces.specs.Todo.{work_tokens, work_cost, IsWork, IsToken, row_cost, AreWork, todo}
use Rattle.js_print.specs.Walk.{Steps}
use Rattle.js_print.specs.Writing.{AppendsFront}
use Rattle.js_print.proofs.Fronts.{Goes, goes_on, goes_part}
use Rattle.js_pieces.proofs.Stacks.{todo-push, row_cost-push, are_front, are_last}

module _ (f : Forest) (start now whole : List ℕ) (begun : Bool) (ws rest : List Work) (piece : Work) (split : ws ≡ rest ++ piece ∷ []) (g : Goes start now whole (spaced begun (todo f ws))) where
  -- the piece on top comes next
  opened : Goes start now whole (spaced begun (work_tokens f piece ++ todo f rest))
  opened = subst (λ ts. Goes start now whole (spaced begun ts)) (ap (todo f) split ∙ todo-push f rest piece) g

  pub walked : (later : List ℕ) (next : Bool) (new : List Work) → Steps f (work_tokens f piece) (work_cost f piece) begun next rest new now later → Goes start later whole (spaced next (todo f new))
  walked later next new s = goes_on start now later whole s.written _ (subst (Goes start now whole) s.rest_is opened) s.after_is

  pub stopped : (later : List ℕ) → AppendsFront now later (spaced begun (work_tokens f piece ++ todo f rest)) → AppendsFront start later whole
  stopped later h = goes_part start now later whole (spaced begun (work_tokens f piece ++ todo f rest)) [] (subst (Goes start now whole) (sym (append-nil _)) opened) h

pub popped_is : (f : Forest) (ws rest : List Work) (piece : Work) → ws ≡ rest ++ piece ∷ [] → AreWork f ws → IsWork f piece
popped_is f ws rest piece split h = are_last f rest piece (subst (AreWork f) split h)

pub popped_are : (f : Forest) (ws rest : List Work) (piece : Work) → ws ≡ rest ++ piece ∷ [] → AreWork f ws → AreWork f rest
popped_are f ws rest piece split h = are_front f rest piece (subst (AreWork f) split h)

-- each step leaves less to do
pub popped_less : (f : Forest) (ws rest new : List Work) (piece : Work) → ws ≡ rest ++ piece ∷ [] → row_cost f new < work_cost f piece + row_cost f rest → row_cost f new < row_cost f ws
popped_less f ws rest new piece split lt = rw split (omega (arith, lt, row_cost-push f rest piece))

-- what is no mark, name or string is no token
pub no_token : (w : Work) → ((t : _) → w ≡ work.Mark t → ⊥) → ((t : _) → w ≡ work.Name t → ⊥) → ((t : _) → w ≡ work.Quoted t → ⊥) → IsToken w → ⊥
no_token (work.Mark t) a b c h = a t refl
no_token (work.Name t) a b c h = b t refl
no_token (work.Quoted t) a b c h = c t refl
no_token _ a b c h = h
