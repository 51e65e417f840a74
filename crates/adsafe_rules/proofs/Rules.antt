-- The rows of a node, one after the other, are what it breaks.
use Rattle.std.proofs.Common.{◌≡◌, ℕ, List, ◌++◌, refl, sym, subst, inl, inr, Bool, true, false, Option}
use Rattle.code_units.specs.Permitted.{is_banned, has_edge_underscore}
use Rattle.js_tree.specs.Plain.{ExprAt, ExprForm, StmtAt, StmtForm, Fun}
use Rattle.js_tree.specs.Parts.{Spot, AnExpr, AStmt, AFun}
use Rattle.first_breach.specs.declared.Breach.{Breach}
use Rattle.first_breach.specs.Lists.{In}
use Rattle.first_breach.specs.Breaches.{Nothing, Either, One, If, Each}
use Rattle.first_breach.specs.Narrowing.{Narrows}
use Rattle.first_breach.proofs.Members.{in_front, in_back, in_split, in_none}
use Rattle.first_breach.proofs.Narrowing.{narrows_as}
use Rattle.node_rules.specs.Words.{is_global, is_reaching}
use Rattle.node_rules.specs.Names.{Named, uses, binders, properties, targets}
use Rattle.node_rules.specs.Binding.{IsBound}
use Rattle.adsafe_rules.specs.Rows.{Broken, A03, A04, A05, A05_name, A06, A07, A08, A09, A10, A11, A12, A13, A14, A15, A16, A17, A18, A19}
use Rattle.node_rules.specs.Sets.{UseRow, BinderRow, TargetRow, PropertyRow, FormRows, ExprRows, StmtRows, FunRows}

-- at a rule and a place that are equal to those of a row
along : {env : List Spot} {n : Spot} {k at r p : ℕ} → One k at r p → Broken env n k at → Broken env n r p
along {env} {n} {k} {at} {r} {p} e b = subst (λ x. Broken env n x p) (sym e.same_rule) (subst (λ x. Broken env n k x) (sym e.same_place) b)

one : {k at : ℕ} → One k at k at
one = record { same_rule = refl; same_place = refl }

hit : {test : Bool} {k at : ℕ} → test ≡ true → If test (One k at) k at
hit h = record { passed = h; broken = one }

module _ (env : List Spot) (n : Spot) where
  -- rows of names
  used_to : (x : Named) → In x (uses n) → (r p : ℕ) → UseRow env x r p → Broken env n r p
  used_to x i r p h = elim h [
    | inl a ↦ along a.broken (A03 (in_front (binders n ++ properties n) i) a.passed)
    | inr k ↦ elim k [
      | inl a ↦ along a.broken (A05_name (in_front (binders n) i) a.passed)
      | inr a ↦ along a.broken (A06 i a.free a.foreign)
    ]
  ]

  bound_to : (x : Named) → In x (binders n) → (r p : ℕ) → BinderRow x r p → Broken env n r p
  bound_to x i r p h = elim h [
    | inl a ↦ along a.broken (A03 (in_back (uses n) (in_front (properties n) i)) a.passed)
    | inr k ↦ elim k [
      | inl a ↦ along a.broken (A05_name (in_back (uses n) i) a.passed)
      | inr a ↦ along a.broken (A08 (in_front (targets n) i) a.passed)
    ]
  ]

  written_to : (x : Named) → In x (targets n) → (r p : ℕ) → TargetRow x r p → Broken env n r p
  written_to x i r p a = along a.broken (A08 (in_back (binders n) i) a.passed)

  property_to : (x : Named) → In x (properties n) → (r p : ℕ) → PropertyRow x r p → Broken env n r p
  property_to x i r p h = elim h [
    | inl a ↦ along a.broken (A03 (in_back (uses n) (in_back (binders n) i)) a.passed)
    | inr a ↦ along a.broken (A05 i a.passed)
  ]

  each_use : (r p : ℕ) → Each (UseRow env) (uses n) r p → Broken env n r p
  each_use r p h = used_to h.item h.is_in r p h.broken

  each_binder : (r p : ℕ) → Each BinderRow (binders n) r p → Broken env n r p
  each_binder r p h = bound_to h.item h.is_in r p h.broken

  each_target : (r p : ℕ) → Each TargetRow (targets n) r p → Broken env n r p
  each_target r p h = written_to h.item h.is_in r p h.broken

  each_property : (r p : ℕ) → Each PropertyRow (properties n) r p → Broken env n r p
  each_property r p h = property_to h.item h.is_in r p h.broken

  -- what a name breaks, by the list in which it is
  abbrev NameRows : ℕ → ℕ → Type 0
  NameRows = Either (Each (UseRow env) (uses n)) (Either (Each BinderRow (binders n)) (Either (Each TargetRow (targets n)) (Each PropertyRow (properties n))))

  barred_in : (x : Named) → In x (uses n ++ (binders n ++ properties n)) → has_edge_underscore x.text ≡ true → NameRows 3 x.at
  barred_in x i h = elim (in_split (uses n) (binders n ++ properties n) i) [
    | inl j ↦ inl (record { item = x; is_in = j; broken = inl (hit h) })
    | inr j ↦ elim (in_split (binders n) (properties n) j) [
      | inl k ↦ inr (inl (record { item = x; is_in = k; broken = inl (hit h) }))
      | inr k ↦ inr (inr (inr (record { item = x; is_in = k; broken = inl (hit h) })))
    ]
  ]

  reaching_in : (x : Named) → In x (uses n ++ binders n) → is_reaching x.text ≡ true → NameRows 5 x.at
  reaching_in x i h = elim (in_split (uses n) (binders n) i) [
    | inl j ↦ inl (record { item = x; is_in = j; broken = inr (inl (hit h)) })
    | inr j ↦ inr (inl (record { item = x; is_in = j; broken = inr (inl (hit h)) }))
  ]

  banned_in : (x : Named) → In x (properties n) → is_banned x.text ≡ true → NameRows 5 x.at
  banned_in x i h = inr (inr (inr (record { item = x; is_in = i; broken = inr (hit h) })))

  unbound_in : (x : Named) → In x (uses n) → (IsBound env x.text → ⊥) → is_global x.text ≡ false → NameRows 6 x.at
  unbound_in x i u g = inl (record { item = x; is_in = i; broken = inr (inr (record { free = u; foreign = g; broken = one })) })

  global_in : (x : Named) → In x (binders n ++ targets n) → is_global x.text ≡ true → NameRows 8 x.at
  global_in x i h = elim (in_split (binders n) (targets n) i) [
    | inl j ↦ inr (inl (record { item = x; is_in = j; broken = inr (inr (hit h)) }))
    | inr j ↦ inr (inr (inl (record { item = x; is_in = j; broken = hit h })))
  ]

-- an expression
module _ (env : List Spot) (at : ℕ) (names : List ℕ) (form : ExprForm) where
  abbrev it : Spot
  it = AnExpr (ExprAt at names form)

  form_to : (r p : ℕ) → FormRows at form r p → Broken env it r p
  form_to r p h = elim h [
    | inl a ↦ along a.broken (A04 a.passed)
    | inr h2 ↦ elim h2 [
      | inl a ↦ along a.broken (A09 a.passed)
      | inr h3 ↦ elim h3 [
        | inl a ↦ along a.broken (A12 a.passed)
        | inr h4 ↦ elim h4 [
          | inl a ↦ along a.broken (A13 a.passed)
          | inr h5 ↦ elim h5 [
            | inl a ↦ along a.broken (A14 a.passed)
            | inr h6 ↦ elim h6 [
              | inl a ↦ along a.broken (A15 a.passed)
              | inr a ↦ along a.broken (A17 a.passed)
            ]
          ]
        ]
      ]
    ]
  ]

  expr_to : (r p : ℕ) → ExprRows env at names form r p → Broken env it r p
  expr_to r p h = elim h [
    | inl a ↦ form_to r p a
    | inr h2 ↦ elim h2 [
      | inl a ↦ each_use env it r p a
      | inr h3 ↦ elim h3 [
        | inl a ↦ each_property env it r p a
        | inr h4 ↦ elim h4 [
          | inl a ↦ let b = a.broken in let c = b.broken in along c.broken (A10 a.passed b.is_in c.passed)
          | inr h5 ↦ elim h5 [
            | inl a ↦ each_target env it r p a
            | inr h6 ↦ elim h6 [
              | inl a ↦ along a.broken (A07 a.is_in)
              | inr a ↦ along a.broken (A19 a.is_in)
            ]
          ]
        ]
      ]
    ]
  ]

  names_of_expr : (r p : ℕ) → NameRows env it r p → ExprRows env at names form r p
  names_of_expr r p h = elim h [
    | inl a ↦ inr (inl a)
    | inr h2 ↦ elim h2 [
      | inl a ↦ absurd (in_none a.is_in)
      | inr h3 ↦ elim h3 [ inl a ↦ inr (inr (inr (inr (inl a)))) | inr a ↦ inr (inr (inl a)) ]
    ]
  ]

from_expr : {env : List Spot} {at : ℕ} {names : List ℕ} {form : ExprForm} {r p : ℕ} → Broken env (AnExpr (ExprAt at names form)) r p → ExprRows env at names form r p
from_expr {env} {at} {names} {form} (A03 {x = x} i h) = names_of_expr env at names form _ _ (barred_in env (AnExpr (ExprAt at names form)) x i h)
from_expr (A04 h) = inl (inl (hit h))
from_expr {env} {at} {names} {form} (A05 {x = x} i h) = names_of_expr env at names form _ _ (banned_in env (AnExpr (ExprAt at names form)) x i h)
from_expr {env} {at} {names} {form} (A05_name {x = x} i h) = names_of_expr env at names form _ _ (reaching_in env (AnExpr (ExprAt at names form)) x i h)
from_expr {env} {at} {names} {form} (A06 {x = x} i u g) = names_of_expr env at names form _ _ (unbound_in env (AnExpr (ExprAt at names form)) x i u g)
from_expr (A07 {p = p} i) = inr (inr (inr (inr (inr (inl (record { item = p; is_in = i; broken = one }))))))
from_expr {env} {at} {names} {form} (A08 {x = x} i h) = names_of_expr env at names form _ _ (global_in env (AnExpr (ExprAt at names form)) x i h)
from_expr (A09 h) = inl (inr (inl (hit h)))
from_expr (A10 {x = x} m i h) = inr (inr (inr (inl (record { passed = m; broken = record { item = x; is_in = i; broken = hit h } }))))
from_expr (A12 h) = inl (inr (inr (inl (hit h))))
from_expr (A13 h) = inl (inr (inr (inr (inl (hit h)))))
from_expr (A14 h) = inl (inr (inr (inr (inr (inl (hit h))))))
from_expr (A15 h) = inl (inr (inr (inr (inr (inr (inl (hit h)))))))
from_expr (A17 h) = inl (inr (inr (inr (inr (inr (inr (hit h)))))))
from_expr (A19 {p = p} i) = inr (inr (inr (inr (inr (inr (record { item = p; is_in = i; broken = one }))))))

pub expr_rows : (env : List Spot) (at : ℕ) (names : List ℕ) (form : ExprForm) (a b : Option Breach) → Narrows (ExprRows env at names form) a Nothing b → Narrows (Broken env (AnExpr (ExprAt at names form))) a Nothing b
expr_rows env at names form a b s = narrows_as s (expr_to env at names form) (λ r p h. from_expr h)

-- a statement
module _ (env : List Spot) (at : ℕ) (names : List ℕ) (form : StmtForm) where
  abbrev so : Spot
  so = AStmt (StmtAt at names form)

  stmt_to : (r p : ℕ) → StmtRows env at names form r p → Broken env so r p
  stmt_to r p h = elim h [
    | inl a ↦ along a.broken (A11 a.passed)
    | inr h2 ↦ elim h2 [
      | inl a ↦ along a.broken (A16 a.passed)
      | inr h3 ↦ elim h3 [
        | inl a ↦ along a.broken (A18 a.passed)
        | inr h4 ↦ elim h4 [
          | inl a ↦ each_use env so r p a
          | inr h5 ↦ elim h5 [ inl a ↦ each_binder env so r p a | inr a ↦ each_target env so r p a ]
        ]
      ]
    ]
  ]

  names_of_stmt : (r p : ℕ) → NameRows env so r p → StmtRows env at names form r p
  names_of_stmt r p h = elim h [
    | inl a ↦ inr (inr (inr (inl a)))
    | inr h2 ↦ elim h2 [
      | inl a ↦ inr (inr (inr (inr (inl a))))
      | inr h3 ↦ elim h3 [ inl a ↦ inr (inr (inr (inr (inr a)))) | inr a ↦ absurd (in_none a.is_in) ]
    ]
  ]

from_stmt : {env : List Spot} {at : ℕ} {names : List ℕ} {form : StmtForm} {r p : ℕ} → Broken env (AStmt (StmtAt at names form)) r p → StmtRows env at names form r p
from_stmt {env} {at} {names} {form} (A03 {x = x} i h) = names_of_stmt env at names form _ _ (barred_in env (AStmt (StmtAt at names form)) x i h)
from_stmt {env} {at} {names} {form} (A05 {x = x} i h) = names_of_stmt env at names form _ _ (banned_in env (AStmt (StmtAt at names form)) x i h)
from_stmt {env} {at} {names} {form} (A05_name {x = x} i h) = names_of_stmt env at names form _ _ (reaching_in env (AStmt (StmtAt at names form)) x i h)
from_stmt {env} {at} {names} {form} (A06 {x = x} i u g) = names_of_stmt env at names form _ _ (unbound_in env (AStmt (StmtAt at names form)) x i u g)
from_stmt {env} {at} {names} {form} (A08 {x = x} i h) = names_of_stmt env at names form _ _ (global_in env (AStmt (StmtAt at names form)) x i h)
from_stmt (A11 h) = inl (hit h)
from_stmt (A16 h) = inr (inl (hit h))
from_stmt (A18 h) = inr (inr (inl (hit h)))

pub stmt_rows : (env : List Spot) (at : ℕ) (names : List ℕ) (form : StmtForm) (a b : Option Breach) → Narrows (StmtRows env at names form) a Nothing b → Narrows (Broken env (AStmt (StmtAt at names form))) a Nothing b
stmt_rows env at names form a b s = narrows_as s (stmt_to env at names form) (λ r p h. from_stmt h)

-- a function
names_of_fun : (env : List Spot) (g : Fun) (r p : ℕ) → NameRows env (AFun g) r p → FunRows g r p
names_of_fun env g r p h = elim h [
  | inl a ↦ absurd (in_none a.is_in)
  | inr h2 ↦ elim h2 [
    | inl a ↦ a
    | inr h3 ↦ elim h3 [ inl a ↦ absurd (in_none a.is_in) | inr a ↦ absurd (in_none a.is_in) ]
  ]
]

from_fun : {env : List Spot} {g : Fun} {r p : ℕ} → Broken env (AFun g) r p → FunRows g r p
from_fun {env} {g} (A03 {x = x} i h) = names_of_fun env g _ _ (barred_in env (AFun g) x i h)
from_fun {env} {g} (A05 {x = x} i h) = names_of_fun env g _ _ (banned_in env (AFun g) x i h)
from_fun {env} {g} (A05_name {x = x} i h) = names_of_fun env g _ _ (reaching_in env (AFun g) x i h)
from_fun {env} {g} (A06 {x = x} i u k) = names_of_fun env g _ _ (unbound_in env (AFun g) x i u k)
from_fun {env} {g} (A08 {x = x} i h) = names_of_fun env g _ _ (global_in env (AFun g) x i h)

pub fun_rows : (env : List Spot) (g : Fun) (a b : Option Breach) → Narrows (FunRows g) a Nothing b → Narrows (Broken env (AFun g)) a Nothing b
fun_rows env g a b s = narrows_as s (each_binder env (AFun g)) (λ r p h. from_fun h)
