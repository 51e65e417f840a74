-- The arguments of a call, one after the other.
use Rattle.std.proofs.Common.{◌≡◌, ℕ, ◌+◌, List, [], ◌∷◌, ◌++◌, sym, ap, ◌∙◌, drop}
use Rattle.js_tree.specs.declared.nodes.ExprId.{ExprId}
use Rattle.js_tree.specs.Plain.{Expr}
use Rattle.js_tree.specs.Forest.{Forest, expr_at}
use Rattle.store_cells.specs.Cells.{PlainCell}
use Rattle.widget_meaning.specs.OwnState.{State}
use Rattle.widget_meaning.specs.Plan.{Do, Eval}
use Rattle.widget_meaning.specs.Expressions.{arguments_then}
use Rattle.std.proofs.lemmas.List.{map-append}
use Rattle.store_cells.specs.declared.value.Value.{Value as Stored}
use Rattle.widget_meaning.specs.Values.{Is}
use Rattle.js_image.specs.Image.{all_seen, seen}
use Rattle.js_flow.specs.declared.frame.Argument.{Argument}
use Rattle.js_flow.specs.Parts.{arguments_of, forest_at}
use Rattle.js_flow.specs.Views.{place_of, reference_of}
use Rattle.js_flow.specs.Calls.{argument_taken}
use Rattle.js_calls.specs.Called.{arguments_left}

module _ (fs : List Forest) (w : ℕ) (cells : List PlainCell) (a : Argument) (s : State) where
  abbrev arguments : List Expr
  arguments = arguments_of (expr_at (forest_at fs a.place.code) a.call)

  -- what is left, by the list of what is left
  left_is : (l : List Expr) → drop a.next arguments ≡ l → arguments_then (reference_of w cells a.of) (all_seen w cells a.args.items) l (place_of w cells a.place) s ≡ arguments_left fs w cells a s
  left_is l e = ap (λ es. arguments_then (reference_of w cells a.of) (all_seen w cells a.args.items) es (place_of w cells a.place) s) (sym e)

  pub next_argument : (b : Argument) (e : ExprId) → b ≡ record a { next = a.next + 1 } → drop a.next arguments ≡ expr_at (forest_at fs a.place.code) e ∷ drop (a.next + 1) arguments
      → Do (Eval (expr_at (forest_at fs a.place.code) e) (place_of w cells a.place)) s (argument_taken fs w cells b) ≡ arguments_left fs w cells a s
  next_argument b e same more =
      ap (λ q. Do (Eval (expr_at (forest_at fs a.place.code) e) (place_of w cells a.place)) s (argument_taken fs w cells q)) same
      ∙ left_is (expr_at (forest_at fs a.place.code) e ∷ drop (a.next + 1) arguments) more

  pub no_argument : drop a.next arguments ≡ [] → arguments_then (reference_of w cells a.of) (all_seen w cells a.args.items) [] (place_of w cells a.place) s ≡ arguments_left fs w cells a s
  no_argument e = left_is [] e

-- one argument more
pub one_argument : (fs : List Forest) (w : ℕ) (cells : List PlainCell) (s : State) (a b : Argument) (v : Stored) → b.of ≡ a.of → b.args.items ≡ a.args.items ++ v ∷ [] → b.call ≡ a.call → b.next ≡ a.next → b.place ≡ a.place
    → arguments_left fs w cells b s ≡ argument_taken fs w cells a (Is (seen w cells v)) s
one_argument fs w cells s a b v o i e n p =
    let vs : all_seen w cells b.args.items ≡ all_seen w cells a.args.items ++ seen w cells v ∷ [] = ap (all_seen w cells) i ∙ map-append (seen w cells) a.args.items (v ∷ []) in
    λ j. arguments_then (reference_of w cells (o j)) (vs j) (drop (n j) (arguments_of (expr_at (forest_at fs (p j).code) (e j)))) (place_of w cells (p j)) s
