-- `slice` and `substring`.
use Rattle.std.proofs.Common.{◌≡◌, ℤ, pos, List, ℕ, [], ◌∷◌, Bool, true, false, Some, None, length, refl, sym, ap, ◌∙◌}
use Rattle.std.specs.List.{list_any}
use Rattle.widget_meaning.specs.Values as meaning
use Rattle.widget_meaning.specs.Values.{Value, is_object, to_number}
use Rattle.widget_meaning.specs.OwnState.{State}
use Rattle.widget_meaning.specs.Plan.{Halt, Plan, charge}
use Rattle.widget_meaning.specs.NativeForms.{give_text, want_primitives, with_number, with_optional}
use Rattle.native_common.specs.Numbers.{number_or, optional_number}
use Rattle.text_methods.specs.Choices as choices
use Rattle.text_methods.specs.Choices.{part}
use Rattle.plain_natives.proofs.Exits.{numbered, numbered_not, optional, optional_not, wants}

module _ (slice : Bool) (t : List ℕ) (a b : Value) (s : State) where
  second : ℤ → Plan
  second x = with_optional (pos (length t)) b (length t) s (λ y. give_text (length t) (part slice t x y) s)

  -- both by the part that they give
  whole : choices.cut slice t a b s ≡ want_primitives (a ∷ b ∷ []) s (with_number (to_number a) (length t) s second)
  unfolding second
  whole = by slice
    where
      by : (k : Bool) → choices.cut k t a b s ≡ want_primitives (a ∷ b ∷ []) s (with_number (to_number a) (length t) s (λ x. with_optional (pos (length t)) b (length t) s (λ y. give_text (length t) (part k t x y) s)))
      by true = refl
      by false = refl

  pub cut_made : (x y : ℤ) (u : List ℕ) → false ≡ list_any is_object (a ∷ b ∷ []) → Some x ≡ number_or (pos 0) (to_number a) → Some y ≡ optional_number (pos (length t)) b → u ≡ part slice t x y → choices.cut slice t a b s ≡ give_text (length t) u s
  unfolding second
  cut_made x y u plain first last is =
      whole ∙ wants (a ∷ b ∷ []) s (with_number (to_number a) (length t) s second) plain
      ∙ numbered (pos 0) (to_number a) (length t) s second x first
      ∙ optional (pos (length t)) b (length t) s (λ z. give_text (length t) (part slice t x z) s) y last
      ∙ ap (λ (v : List ℕ). give_text (length t) v s) (sym is)

  pub cut_left : false ≡ list_any is_object (a ∷ b ∷ []) → None ≡ number_or (pos 0) (to_number a) → choices.cut slice t a b s ≡ charge (length t) s (Halt meaning.Number s)
  cut_left plain first =
      whole ∙ wants (a ∷ b ∷ []) s (with_number (to_number a) (length t) s second) plain
      ∙ numbered_not (pos 0) (to_number a) (length t) s second first

  pub cut_last_left : (x : ℤ) → false ≡ list_any is_object (a ∷ b ∷ []) → Some x ≡ number_or (pos 0) (to_number a) → None ≡ optional_number (pos (length t)) b → choices.cut slice t a b s ≡ charge (length t) s (Halt meaning.Number s)
  unfolding second
  cut_last_left x plain first last =
      whole ∙ wants (a ∷ b ∷ []) s (with_number (to_number a) (length t) s second) plain
      ∙ numbered (pos 0) (to_number a) (length t) s second x first
      ∙ optional_not (pos (length t)) b (length t) s (λ z. give_text (length t) (part slice t x z) s) last
