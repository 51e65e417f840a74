-- How the loops write elements and members.
use Rattle.std.proofs.Common.{◌≡◌, ℕ, zero, suc, ◌+◌, ◌-◌, ◌<◌, ◌≤◌, List, [], refl, sym, ap, ◌∙◌, false, arith}
use Rattle.std.proofs.lemmas.Bool.Decides.{nat_tests}
use Rattle.std.specs.Prelude.{codes, nat_eq}
use Rattle.widget_meaning.specs.Values.{Value, Undefined}
use Rattle.widget_meaning.specs.OwnState.{Pairs, State}
use Rattle.widget_meaning.specs.NativeForms.{element}
use Rattle.widget_meaning.specs.JsonTexts.{Written, Wrote, NoJson, and_write, elements_text, value_text, write}
use Rattle.json_text.specs.Names.{comma}
use Rattle.json_text.specs.Steps.{meant_step}
use Rattle.json_text.specs.declared.steps.Step.{Step}
use Rattle.json_text.proofs.Parts.{element_then}

-- undefined has no JSON
undefined_text : (m : ℕ) (s : State) (u : List ℕ) → value_text m s Undefined u ≡ NoJson
undefined_text zero s u = refl
undefined_text (suc m) s u = refl

comma_next : (i : ℕ) → comma (nat_eq (i + 1) 0) ≡ codes ","
comma_next i =
    let other : nat_eq (i + 1) 0 ≡ false = grind (arith, nat_tests) in
    ap comma other

-- a step that ended so
pub step_is : (p q : Step) (t : List ℕ) (x : Written) → p ≡ q → meant_step p t ≡ x → meant_step q t ≡ x
step_is p q t x e h = sym (ap (λ a. meant_step a t) e) ∙ h

-- ## Elements

module _ (m : ℕ) (s : State) (ps : Pairs) (len : ℕ) where
  abbrev texts : List ℕ → ℕ → ℕ → List ℕ → Written
  texts before i n t = elements_text (value_text m s) ps before i n t

  -- one element
  pub stepped : (i : ℕ) (t : List ℕ) (x : Written) (v : Value) (before : List ℕ) → i < len → v ≡ element ps i → before ≡ comma (nat_eq i 0) → x ≡ and_write (write t before) (value_text m s v)
      → texts (comma (nat_eq i 0)) i (len - i) t ≡ and_write x (texts (codes ",") (i + 1) (len - (i + 1)))
  stepped i t x v before lt is sep h =
      let more : len - i ≡ suc (len - (i + 1)) = omega (arith, lt) in
      ap (λ n. texts (comma (nat_eq i 0)) i n t) more
      ∙ element_then (value_text m s) ps (comma (nat_eq i 0)) i (len - (i + 1)) t (undefined_text m s)
      ∙ sym (λ j. and_write ((h ∙ (λ k. and_write (write t (sep k)) (value_text m s (is k)))) j) (texts (codes ",") (i + 1) (len - (i + 1))))

  -- all that was written before the elements
  pub opened : (old begun : List ℕ) → Wrote begun ≡ write old (codes "[") → texts [] 0 len begun ≡ and_write (write old (codes "[")) (texts [] 0 len)
  opened old begun e = ap (λ y. and_write y (texts [] 0 len)) e

  -- the next element
  pub next_element : (i : ℕ) (t u : List ℕ) (v : Value) (before : List ℕ) → i < len → v ≡ element ps i → before ≡ comma (nat_eq i 0) → Wrote u ≡ and_write (write t before) (value_text m s v)
      → texts (comma (nat_eq (i + 1) 0)) (i + 1) (len - (i + 1)) u ≡ texts (comma (nat_eq i 0)) i (len - i) t
  next_element i t u v before lt is sep h = ap (λ b. texts b (i + 1) (len - (i + 1)) u) (comma_next i) ∙ sym (stepped i t (Wrote u) v before lt is sep h)

  -- none is left
  pub closed : (i : ℕ) (t : List ℕ) → len ≤ i → texts (comma (nat_eq i 0)) i (len - i) t ≡ write t (codes "]")
  closed i t le =
      let none : len - i ≡ 0 = omega (arith, le) in
      ap (λ n. texts (comma (nat_eq i 0)) i n t) none
