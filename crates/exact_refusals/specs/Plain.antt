-- Machines and grammars without depth: what comes of a text, and where it is refused.
-- A text is a list of tokens, such as units or bytes. `Spells ts tree` says that these tokens are a whole text, and that they spell the tree.
use Rattle.std.specs.Prelude.{◌≡◌, ℕ, suc, ◌≤◌, List, [], ◌∷◌, ◌++◌, Option, Some, None, length, take}
use Rattle.exact_refusals.specs.Judge.{Outcome, judge, Read}

-- the next state, and no depth for the token
abbrev pub at_no_depth : {State : Type 0} → Option State → Option (ℕ × State)
at_no_depth None = None
at_no_depth (Some next) = Some (0, next)

-- what comes of the tokens, from a state on
abbrev pub outcome : {Token State Tree : Type 0} → (State → Token → Option State) → (State → Option Tree) → State → List Token → Outcome Tree
outcome step done st ts = judge (λ s t. at_no_depth (step s t)) done 0 st ts

-- the machine reads the tree from these tokens
abbrev pub Reads : {Token State Tree : Type 0} → (State → Token → Option State) → (State → Option Tree) → State → List Token → Tree → Type 0
Reads step done st ts tree = outcome step done st ts ≡ Read tree

-- from the state some tokens lead to an end
abbrev pub Closes : {Token State Tree : Type 0} → (State → Token → Option State) → (State → Option Tree) → State → Type 0
Closes {Token = Token} {Tree = Tree} step done st = (more : List Token) × (tree : Tree) × Reads step done st more tree

-- the machine goes over these tokens to the last state
abbrev pub Moves : {Token State : Type 0} → (State → Token → Option State) → State → List Token → State → Type 0
Moves step st [] last = st ≡ last
Moves {State = State} step st (t ∷ ts) last = (next : State) × (step st t ≡ Some next) × Moves step next ts last

-- each state that arises closes
abbrev pub EachCloses : {Token State Tree : Type 0} → (State → Token → Option State) → (State → Option Tree) → State → Type 0
EachCloses {Token = Token} {State = State} step done begin = (front : List Token) (last : State) → Moves step begin front last → Closes step done last

-- The tokens before `at` begin a text, and no text begins with these and the token `at`.
-- Where `at` is the length, the input begins a text and is none.
pub record IsRefusedAt {Token Tree : Type 0} (Spells : List Token → Tree → Type 0) (input : List Token) (at : ℕ) : Type 0 where
  pub more : List Token
  pub tree : Tree
  pub begins : Spells (take at input ++ more) tree
  pub inside : at ≤ length input
  pub refused : (ts : List Token) (other : Tree) → Spells ts other → take (suc at) ts ≡ take (suc at) input → ⊥
