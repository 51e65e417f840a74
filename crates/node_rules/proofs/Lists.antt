-- The lists of a plain node are those of its node.
use Rattle.std.proofs.Common.{◌≡◌, ℕ, List, [], ◌∷◌, ◌++◌, refl, sym, ap, ◌∙◌, append_assoc}
use Rattle.std.specs.Prelude.{map}
use Rattle.js_tree.specs.declared.nodes.ExprId.{ExprId}
use Rattle.js_tree.specs.declared.nodes.Decl.{Decl}
use Rattle.js_tree.specs.Plain.{Properties, NoProperties, AndProperty, Decls, NoDecls, AndDecl}
use Rattle.js_tree.specs.Forest.{Forest, expr_at, optional_at, properties_more, properties_at, decls_more, decls_at}
use Rattle.node_rules.specs.Names.{keys, declared_names, decl_name}

pub append_nothing : {A : Type 0} (xs : List A) → xs ++ [] ≡ xs
append_nothing [] = refl
append_nothing (x ∷ xs) = ap (λ l. x ∷ l) (append_nothing xs)

keys_more : (f : Forest) (before : Properties) (ps : List (List ℕ × ExprId)) → keys (properties_more f before ps) ≡ keys before ++ map (λ p. p.0) ps
keys_more f before [] = sym (append_nothing (keys before))
keys_more f before (p ∷ ps) = keys_more f (AndProperty before p.0 (expr_at f p.1)) ps ∙ append_assoc (keys before) (p.0 ∷ []) (map (λ q. q.0) ps)

pub keys_at : (f : Forest) (ps : List (List ℕ × ExprId)) → keys (properties_at f ps) ≡ map (λ p. p.0) ps
keys_at f ps = keys_more f NoProperties ps

names_more : (f : Forest) (before : Decls) (ds : List Decl) → declared_names (decls_more f before ds) ≡ declared_names before ++ map decl_name ds
names_more f before [] = sym (append_nothing (declared_names before))
names_more f before (d ∷ ds) = names_more f (AndDecl before d.name d.at (optional_at f d.init)) ds ∙ append_assoc (declared_names before) (decl_name d ∷ []) (map decl_name ds)

pub names_at : (f : Forest) (ds : List Decl) → declared_names (decls_at f ds) ≡ map decl_name ds
names_at f ds = names_more f NoDecls ds
