-- The names of the functions of a tree.
use Rattle.std.specs.Prelude.{◌≡◌, List, Some, slice_get}
use Rattle.js_tree.specs.declared.nodes.FunId.{FunId}
use Rattle.js_tree.specs.Forest.{Forest, fun_at}
use Rattle.js_names.specs.declared.names.FunNames.{FunNames}
use Rattle.js_names.specs.Names.{AreNames}

-- what stands under a function's number are its names
abbrev pub AreFound : Forest → List FunNames → Type 0
AreFound f ns = (id : FunId) (n : FunNames) → slice_get ns id.0 ≡ Some n → AreNames (fun_at f id) n
