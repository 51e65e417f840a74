-- What was gathered for a function is the names of its scope.
use Rattle.std.proofs.Common.{◌≡◌, ℕ, List, [], ◌++◌, refl, sym, ap, ◌∙◌, subst, Option, Some, None, map, append_assoc}
use Rattle.std.specs.Prelude.{if◌then◌else◌}
use Rattle.js_tree.specs.declared.nodes.Fun.{Fun as FunNode}
use Rattle.js_tree.specs.Plain.{Fun}
use Rattle.js_tree.specs.Forest.{Forest, plain_fun, stmts_at}
use Rattle.widget_meaning.specs.Properties.{is_listed}
use Rattle.widget_meaning.specs.Scopes.{distinct, stmts_vars}
use Rattle.js_names.specs.declared.names.FunNames.{FunNames}
use Rattle.js_tree.specs.declared.nodes.ScopeName.{ScopeName}
use Rattle.js_names.specs.Hoisting.{fun_texts}
use Rattle.js_names.specs.Names.{AreNames, ArePlaced, last_place, unlisted}
use Rattle.js_names.proofs.Hoisted.{texts_at}
use Rattle.js_names.proofs.Listed.{listed_once}

same_unlisted : (xs ys : List (List ℕ)) (o : Option (List ℕ)) → ((t : List ℕ) → is_listed xs t ≡ is_listed ys t) → unlisted xs o ≡ unlisted ys o
same_unlisted xs ys None e = refl
same_unlisted xs ys (Some x) e = ap (λ b. if b then None else Some x) (e x)

same_places : (p q : List ℕ → Option ℕ) → ((x : List ℕ) → p x ≡ q x) → (ns : List ScopeName) → ArePlaced p ns → ArePlaced q ns
same_places p q e ns h = h ∙ ap (λ (f : List ℕ → Option ℕ). map (λ (n : ScopeName). f n.text) ns) (λ i x. e x i)

-- three lists, one behind the other
pub three : (o a b c p q r x y z : List (List ℕ)) → o ≡ [] → a ≡ o ++ x → x ≡ p → b ≡ a ++ y → y ≡ q → c ≡ b ++ z → z ≡ r → c ≡ p ++ (q ++ r)
three o a b c p q r x y z e h k m n s t =
    s ∙ (λ i. (m ∙ (λ j. (h ∙ (λ l. e l ++ k l)) j ++ n j)) i ++ t i) ∙ append_assoc p q r

pub found : (f : Forest) (node : FunNode) (at : List ℕ) (g : Fun) → plain_fun f node at ≡ g → (all each : List (List ℕ)) (n : FunNames) (place : List ℕ → Option ℕ)
    → all ≡ node.params.items ++ (stmts_vars (stmts_at f node.body.items) ++ fun_texts f node.funs.items)
    → each ≡ distinct [] all → map (λ (x : ScopeName). x.text) n.names.items ≡ each
    → ((x : List ℕ) → place x ≡ last_place node.params.items x) → ArePlaced place n.names.items
    → n.own ≡ unlisted each node.name → AreNames g n
found f node at g same all each n place a e m p h o =
    let whole : all ≡ node.params.items ++ (stmts_vars (stmts_at f node.body.items) ++ _) =
    a ∙ ap (λ l. node.params.items ++ (stmts_vars (stmts_at f node.body.items) ++ l)) (sym (texts_at f node.funs.items)) in
    subst (λ x. AreNames x n) same (record {
      names = m ∙ e ∙ ap (distinct []) whole;
      places = same_places place (last_place node.params.items) p n.names.items h;
      own = o ∙ ap (λ l. unlisted l node.name) e ∙ same_unlisted (distinct [] all) all node.name (listed_once [] all) ∙ ap (λ l. unlisted l node.name) whole;
    })
