-- What is read of names alone: keys, labels, parameters, the heads of functions and of `for-in`.
use Rattle.std.specs.Prelude.{◌≡◌, ◌≢◌, ℕ, suc, ◌+◌, ◌≤◌, ◌<◌, List, [], ◌∷◌, length, All, Option, Some, None, ◌++◌, false, Bool, true, ◌⊎◌}
use Rattle.js_grammar.specs.declared.Sign.{Sign}
use Rattle.js_grammar.specs.Grammar.{Token, Lexeme, texts, places}
use Rattle.js_grammar.specs.Machine.{Frame, Wants}
use Rattle.js_grammar.specs.Tables.{is_key}
use Rattle.js_grammar.specs.declared.Sign.TheVariants as sign
use Rattle.js_grammar.specs.Machine as machine
use Rattle.js_cursor.specs.declared.refusal.Refusal.{Refusal}
use Rattle.js_cursor.specs.Reads.{goes, lexeme_at, Next, IsOther, IsNext}
use Rattle.js_cursor.specs.declared.refusal.Refusal.TheVariants as refusal

-- the own name of a function, by its place
abbrev pub own_at : List Token → Option ℕ → Option Lexeme
own_at ts None = None
own_at ts (Some at) = Some (lexeme_at ts at)

-- a function's own name, where it has one, stands at `at`, and `bracket` is the place after it
abbrev pub IsHead : List Token → ℕ → Option ℕ → ℕ → Type 0
IsHead ts at None bracket = (bracket ≡ at) × IsOther ts at sign.Name
IsHead ts at (Some own) bracket = (own ≡ at) × Next ts at sign.Name × (bracket ≡ at + 1) × (bracket < length ts)

-- the own name is a token before the end
abbrev pub IsOwn : List Token → Option ℕ → Type 0
IsOwn ts None = Unit {0}
IsOwn ts (Some at) = at + 1 < length ts

-- no key stands here
abbrev pub IsNoKey : List Token → ℕ → Refusal → Type 0
IsNoKey ts at (refusal.Syntax place) = (place ≡ at) × IsNext ts at (λ s. is_key s (lexeme_at ts at).text ≡ false)
IsNoKey ts at (refusal.TooDeep place) = ⊥
IsNoKey ts at refusal.Memory = Unit {0}

-- labels, innermost last, before what is to come
abbrev pub labelled : List Token → List ℕ → List Frame → List Frame
labelled ts [] k = k
labelled ts (x ∷ xs) k = labelled ts xs (machine.Labelled (lexeme_at ts x) ∷ k)

-- no label stands here
abbrev pub IsUnlabelled : List Token → ℕ → Type 0
IsUnlabelled ts at = (s : Sign) × Next ts at s × (s ≡ sign.Name → IsOther ts (at + 1) sign.Colon)

-- labels are read
pub record ReadsLabels (ts : List Token) (at : ℕ) (labels : List ℕ) (next : ℕ) : Type 0 where
  pub in_text : next < length ts
  pub long : at + length labels + length labels ≡ next
  pub tokens : All (λ x. x + 1 < length ts) labels
  pub ends : IsUnlabelled ts next
  pub leads : (d : ℕ) (k : List Frame) → d ≤ 200 → goes ts (Wants (machine.Statement d ∷ k)) at ≡ goes ts (Wants (machine.Statement d ∷ labelled ts labels k)) next

-- a jump's label is read, where it has one, and the semicolon
abbrev pub IsJump : List Token → ℕ → Option ℕ → ℕ → Type 0
IsJump ts at None next = Next ts at sign.Semicolon × (next ≡ at + 1) × (next < length ts)
IsJump ts at (Some x) next = (x ≡ at) × Next ts at sign.Name × Next ts (at + 1) sign.Semicolon × (next ≡ at + 1 + 1) × (next < length ts)

-- no label and semicolon stand there: the token at `place` is refused
abbrev pub IsNoJump : List Token → ℕ → ℕ → Type 0
IsNoJump ts at place = ((place ≡ at) × (s : Sign) × Next ts at s × (s ≢ sign.Name) × (s ≢ sign.Semicolon)) ⊎ ((place ≡ at + 1) × (place < length ts) × Next ts at sign.Name × IsOther ts place sign.Semicolon)

-- the variable of a `for-in` stands here: whether `var` stands before it, and its place
abbrev pub IsForIn : List Token → ℕ → Option (Bool × ℕ) → Type 0
IsForIn ts at (Some (true, x)) = (x ≡ at + 1) × (x + 1 + 1 < length ts) × Next ts at sign.Var × Next ts x sign.Name × Next ts (x + 1) sign.In
IsForIn ts at (Some (false, x)) = (x ≡ at) × (x + 1 + 1 < length ts) × Next ts x sign.Name × Next ts (x + 1) sign.In
IsForIn ts at None = (s : Sign) × Next ts at s × (s ≡ sign.Name → IsOther ts (at + 1) sign.In) × (s ≡ sign.Var → (v : Sign) × Next ts (at + 1) v × (v ≡ sign.Name → IsOther ts (at + 1 + 1) sign.In))

-- parameters are read, after their bracket and with the closing one
pub record ReadsParams (d : ℕ) (ts : List Token) (at : ℕ) (names : List (List ℕ)) (before after : List ℕ) (next : ℕ) : Type 0 where
  pub in_text : next < length ts
  pub later : at < next
  pub params : List Lexeme
  pub named : names ≡ texts params
  pub placed : after ≡ before ++ places params
  pub leads : (w : Lexeme) (own : Option Lexeme) (k : List Frame) → goes ts (Wants (machine.FirstName (suc d) ∷ machine.NamesEnd d w own ∷ k)) at ≡ goes ts (Wants (machine.FunBody d w own params ∷ k)) next
