-- What the words of the command line ask for. A word is its bytes.
use Rattle.std.specs.Prelude.{◌≡◌, ℕ, ◌≤◌, List, [], ◌∷◌, codes}
use Rattle.std.specs.Fmt.{decimal}
use Rattle.run_steps.specs.declared.request.Request.{Request as CodeRequest}
use Rattle.run_steps.specs.declared.request.Request.TheVariants as code

-- what is asked for, with the names of files
pub data Request : Type 0 where
  Check : List ℕ → Request
  CheckLib : List ℕ → Request
  Tidy : List ℕ → Request
  Render : List ℕ → Request
  Replay : List ℕ → List ℕ → ℕ → Request
  Audit : List ℕ → List ℕ → ℕ → Request
  CheckAudit : List ℕ → Request
  Demo : ℕ → Request

-- the greatest slice of `replay` and `audit`, and the greatest number of `demo`
abbrev pub slice_limit : ℕ
slice_limit = 1000000

abbrev pub demo_limit : ℕ
demo_limit = 4096

-- the word is a number from 1 to the limit, in decimal digits without a leading zero
pub record IsCount (limit : ℕ) (word : List ℕ) (number : ℕ) : Type 0 where
  pub positive : 1 ≤ number
  pub within : number ≤ limit
  pub spelled : word ≡ decimal number

-- the eight forms of words, and what each asks for
pub data Asks : List (List ℕ) → Request → Type 0 where
  check : {manifest : List ℕ} → Asks (codes "check" ∷ manifest ∷ []) (Check manifest)
  check_lib : {file : List ℕ} → Asks (codes "check-lib" ∷ file ∷ []) (CheckLib file)
  tidy : {file : List ℕ} → Asks (codes "tidy" ∷ file ∷ []) (Tidy file)
  render : {manifest : List ℕ} → Asks (codes "render" ∷ manifest ∷ []) (Render manifest)
  replay : {manifest trace word : List ℕ} {slice : ℕ} → IsCount slice_limit word slice → Asks (codes "replay" ∷ manifest ∷ trace ∷ word ∷ []) (Replay manifest trace slice)
  audit : {manifest trace word : List ℕ} {slice : ℕ} → IsCount slice_limit word slice → Asks (codes "audit" ∷ manifest ∷ trace ∷ word ∷ []) (Audit manifest trace slice)
  check_audit : {file : List ℕ} → Asks (codes "check-audit" ∷ file ∷ []) (CheckAudit file)
  demo : {word : List ℕ} {count : ℕ} → IsCount demo_limit word count → Asks (codes "demo" ∷ word ∷ []) (Demo count)

-- the words are of one of the eight forms
pub record IsForm (words : List (List ℕ)) : Type 0 where
  pub request : Request
  pub asks : Asks words request

-- the slice of a request is one, and so is its number
abbrev pub IsSliced : Request → Type 0
IsSliced (Replay manifest trace slice) = (1 ≤ slice) × (slice ≤ slice_limit)
IsSliced (Audit manifest trace slice) = (1 ≤ slice) × (slice ≤ slice_limit)
IsSliced (Demo count) = count ≤ demo_limit
IsSliced request = Unit {0}

-- a request of the code, by the bytes of its names
abbrev pub request_of : CodeRequest → Request
request_of (code.Check manifest) = Check manifest.now
request_of (code.CheckLib file) = CheckLib file.now
request_of (code.Tidy file) = Tidy file.now
request_of (code.Render manifest) = Render manifest.now
request_of (code.Replay manifest trace slice) = Replay manifest.now trace.now slice
request_of (code.Audit manifest trace slice) = Audit manifest.now trace.now slice
request_of (code.CheckAudit file) = CheckAudit file.now
request_of (code.Demo count) = Demo count
