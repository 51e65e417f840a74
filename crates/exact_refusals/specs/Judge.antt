-- A machine that takes one token at a time, and what comes of a text.
-- `step` gives the depth of the token and the next state, or nothing where the token is refused.
-- `done` gives the tree of a state at which the text may end.
use Rattle.std.specs.Prelude.{◌≡◌, ℕ, suc, ◌≤◌, List, [], ◌∷◌, Option, Some, None, length, nat_lt, if◌then◌else◌}
use Rattle.exact_refusals.specs.Places.{Within}

-- the tree, or how many tokens are left from the refused one on
pub data Outcome (Tree : Type 0) : Type 0 where
  Read : Tree → Outcome Tree
  Refused : ℕ → Outcome Tree
  Deeper : ℕ → Outcome Tree

-- what comes of the end of the text
abbrev pub ended : {Tree : Type 0} → Option Tree → Outcome Tree
ended (Some p) = Read p
ended None = Refused 0

-- what comes of one step, where `left` tokens are left with this one
abbrev pub judge_step : {State Tree : Type 0} → ℕ → Option (ℕ × State) → ℕ → (State → Outcome Tree) → Outcome Tree
judge_step limit None left next = Refused left
judge_step limit (Some (d, st)) left next = if nat_lt limit d then Deeper left else next st

-- what comes of the tokens, from a state on
abbrev pub judge : {Token State Tree : Type 0} → (State → Token → Option (ℕ × State)) → (State → Option Tree) → ℕ → State → List Token → Outcome Tree
judge step done limit st [] = ended (done st)
judge step done limit st (t ∷ ts) = judge_step limit (step st t) (suc (length ts)) (λ next. judge step done limit next ts)

-- the machine takes all these tokens, at these depths, and then has the tree
abbrev pub Takes : {Token State Tree : Type 0} → (State → Token → Option (ℕ × State)) → (State → Option Tree) → State → List (Token × ℕ) → Tree → Type 0
Takes step done st [] p = done st ≡ Some p
Takes {State = State} step done st (t ∷ ts) p = (next : State) × (step st t.0 ≡ Some (t.1, next)) × Takes step done next ts p

-- the machine goes over these tokens, at these depths, to the last state
abbrev pub Moves : {Token State : Type 0} → (State → Token → Option (ℕ × State)) → State → List (Token × ℕ) → State → Type 0
Moves step st [] last = st ≡ last
Moves {State = State} step st (t ∷ ts) last = (next : State) × (step st t.0 ≡ Some (t.1, next)) × Moves step next ts last

-- from each state that arises some tokens lead to an end
abbrev pub IsClosable : {Token State Tree : Type 0} → (State → Token → Option (ℕ × State)) → (State → Option Tree) → State → Type 0
IsClosable {Token = Token} {State = State} {Tree = Tree} step done begin =
    (front : List (Token × ℕ)) (last : State) → Moves step begin front last → (more : List (Token × ℕ)) × (p : Tree) × Takes step done last more p

-- a token opens at most one link: it is at most one deeper than those before it
abbrev pub OpensOne : {Token State : Type 0} → (State → Token → Option (ℕ × State)) → State → Type 0
OpensOne {Token = Token} {State = State} step begin =
    (limit : ℕ) (front : List (Token × ℕ)) (last next : State) (t : Token) (d : ℕ) → Moves step begin front last → Within limit front → step last t ≡ Some (d, next) → d ≤ suc limit
