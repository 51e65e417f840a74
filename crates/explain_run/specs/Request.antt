-- What the words of the command line ask for. A word is its bytes.
use Rattle.std.specs.Prelude.{◌≡◌, ℕ, List, [], ◌∷◌, codes, Option, Some, None, option_copied, Bool, true, false, nat_eq}
use Rattle.std.specs.List.{ends_with}
use Rattle.explain_run.specs.declared.request.Request.{Request as CodeRequest}
use Rattle.explain_run.specs.declared.request.Request.TheVariants as code

-- what is to be explained, by the names of files
pub data Request : Type 0 where
  Library : List ℕ → Request
  Page : List ℕ → Option (List ℕ) → Request

-- a name that ends in `.js`
unfoldable pub is_script_name : List ℕ → Bool
is_script_name name = ends_with nat_eq name (codes ".js")

-- the forms of words, and what each asks for
pub data Asks : List (List ℕ) → Request → Type 0 where
  library : {file : List ℕ} → is_script_name file ≡ true → Asks (file ∷ []) (Library file)
  page : {manifest : List ℕ} → is_script_name manifest ≡ false → Asks (manifest ∷ []) (Page manifest None)
  traced : {manifest trace : List ℕ} → Asks (manifest ∷ trace ∷ []) (Page manifest (Some trace))

-- the words are of one of these forms
pub record IsForm (words : List (List ℕ)) : Type 0 where
  pub request : Request
  pub asks : Asks words request

-- a request of the code, by the bytes of its names
abbrev pub request_of : CodeRequest → Request
request_of (code.Library file) = Library file.now
request_of (code.Page manifest trace) = Page manifest.now (option_copied trace)
