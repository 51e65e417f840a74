-- What the functions for lists of expressions and for object literals have read, from what their calls read.
use Rattle.std.proofs.Common.{◌≡◌, ℕ, suc, ◌+◌, ◌<◌, ◌≤◌, List, [], ◌∷◌, ◌++◌, Bool, true, false, Some, None, refl, ap, sym, subst, ◌∙◌, length, get_or, arith}
use Rattle.std.specs.Prelude.{Result, All, ◌≢◌}
use Rattle.std.proofs.lemmas.List.Elements.{All-push}
use Rattle.js_tree.specs.declared.nodes.ExprId.{ExprId}
use Rattle.js_tree.specs.Plain.{Expr, ExprAt, Exprs, Object, NoExprs, AndExpr, Properties, NoProperties, AndProperty}
use Rattle.js_tree.specs.Forest.{Forest, Keeps, IsExpr, expr_at, exprs_at, exprs_more, properties_at, properties_more, size}
use Rattle.js_grammar.specs.declared.Sign.{Sign}
use Rattle.js_grammar.specs.declared.Sign.TheVariants as sign
use Rattle.js_grammar.specs.Tables.{is_key}
use Rattle.js_grammar.specs.Grammar.{Token, Lexeme}
use Rattle.js_grammar.specs.Machine.{Frame, Step, step, items, listed, expr, Wants, Gives, PrimaryAt, ItemsAt, FirstKey, NextKey, KeyColon, MoreItems, Value, ObjectEnd}
use Rattle.js_cursor.specs.declared.refusal.Refusal.{Refusal}
use Rattle.js_cursor.specs.declared.refusal.Refusal.TheVariants as refusal
use Rattle.js_cursor.specs.Reads.{goes, lexeme_at, Next, IsOther, Refuses, MadeExpr, IsNext}
use Rattle.js_descent.specs.Rows.{IsReady, Reads, ReadsExpr}
use Rattle.js_descent.specs.Forms.{ReadsProperty, ReadsKeys}
use Rattle.js_cursor.specs.Named.{IsNoKey}
use Rattle.js_descent.specs.Walks.{goes_by, ReadsItems}
use Rattle.js_cursor.proofs.Reading.{take_one, take_to, refuse_one, same_one, other_refused}
use Rattle.js_descent.proofs.Joins.{keeps_same, keeps_then, refuses_before, ends_made}
use Rattle.js_descent.proofs.Exprs.{as_by}

-- lists of parts in a newer tree
exprs_more_kept : (a b : Forest) (before : Exprs) (ids : List ExprId) → ((i : ℕ) (d : ExprId) → i < length ids → IsExpr a (get_or ids i d)) → Keeps a b → exprs_more b before ids ≡ exprs_more a before ids
exprs_more_kept a b before [] h kept = refl
exprs_more_kept a b before (id ∷ ids) h kept = ap (λ e. exprs_more b (AndExpr before e) ids) (kept.exprs id (h 0 id (omega arith))).1 ∙ exprs_more_kept a b (AndExpr before (expr_at a id)) ids (λ i d lt. h (suc i) d (omega arith)) kept

exprs_more_push : (f : Forest) (before : Exprs) (ids : List ExprId) (id : ExprId) → exprs_more f before (ids ++ id ∷ []) ≡ AndExpr (exprs_more f before ids) (expr_at f id)
exprs_more_push f before [] id = refl
exprs_more_push f before (x ∷ ids) id = exprs_more_push f (AndExpr before (expr_at f x)) ids id

exprs_in : (a b : Forest) (ids : List ExprId) (id : ExprId) → All (IsExpr a) ids → Keeps a b → IsExpr b id → All (IsExpr b) (ids ++ id ∷ [])
exprs_in a b ids id h kept is = All-push (IsExpr b) ids id (λ i d lt. (kept.exprs (get_or ids i d) (h i d lt)).0) is

abbrev Pair : Type 0
Pair = List ℕ × ExprId

properties_more_kept : (a b : Forest) (before : Properties) (ps : List Pair) → ((i : ℕ) (d : Pair) → i < length ps → IsExpr a ((get_or ps i d).1)) → Keeps a b → properties_more b before ps ≡ properties_more a before ps
properties_more_kept a b before [] h kept = refl
properties_more_kept a b before (p ∷ ps) h kept = ap (λ e. properties_more b (AndProperty before p.0 e) ps) (kept.exprs p.1 (h 0 p (omega arith))).1 ∙ properties_more_kept a b (AndProperty before p.0 (expr_at a p.1)) ps (λ i d lt. h (suc i) d (omega arith)) kept

properties_more_push : (f : Forest) (before : Properties) (ps : List Pair) (p : Pair) → properties_more f before (ps ++ p ∷ []) ≡ AndProperty (properties_more f before ps) p.0 (expr_at f p.1)
properties_more_push f before [] p = refl
properties_more_push f before (q ∷ ps) p = properties_more_push f (AndProperty before q.0 (expr_at f q.1)) ps p

properties_in : (a b : Forest) (ps : List Pair) (p : Pair) → All (λ q. IsExpr a q.1) ps → Keeps a b → IsExpr b p.1 → All (λ q. IsExpr b q.1) (ps ++ p ∷ [])
properties_in a b ps p h kept is = All-push (λ q. IsExpr b q.1) ps p (λ i d lt. (kept.exprs ((get_or ps i d).1) (h i d lt)).0) is

-- ## Assignment expressions between commas

pub record ItemsSoFar (b : Bool) (d : ℕ) (ts : List Token) (at place : ℕ) (a m : Forest) (ids : List ExprId) : Type 0 where
  pub ready : IsReady ts place d m
  pub later : at ≤ place
  pub few : size m + at ≤ size a + place
  pub kept : Keeps a m
  pub are_in : All (IsExpr m) ids
  pub leads : (k : List Frame) → goes ts (Wants (ItemsAt b d ∷ k)) at ≡ goes ts (Wants (expr b d (MoreItems b d (exprs_at m ids) ∷ k))) place

pub items_none : (b : Bool) (d : ℕ) (ts : List Token) (at : ℕ) (a : Forest) (none : List ExprId) (s : Sign) → IsReady ts at d a → Next ts at s → ((k : List Frame) (x : Lexeme) → ◌≡◌ {A = Step} (items b d k (s, x)) (listed NoExprs k (s, x))) → none ≡ [] → ReadsItems b d ts at a a none at
items_none b d ts at a none s ready here ends is = subst (λ ids. ReadsItems b d ts at a a ids at) (sym is) (record {
  walks = record { in_text = ready.in_text; later = omega arith; few = omega arith; kept = keeps_same a };
  are_in = λ i x lt. absurd (omega arith);
  leads = λ k. as_by ts (Wants (ItemsAt b d ∷ k)) (listed NoExprs k) at s here (ends k (lexeme_at ts at));
})

pub items_begin : (b : Bool) (d : ℕ) (ts : List Token) (at : ℕ) (a : Forest) (none : List ExprId) (s : Sign) → IsReady ts at d a → Next ts at s → s ≢ sign.Close → s ≢ sign.CloseSquare → s ≢ sign.Semicolon → none ≡ [] → ItemsSoFar b d ts at at a a none
items_begin b d ts at a none s ready here p q r is = subst (λ ids. ItemsSoFar b d ts at at a a ids) (sym is) (record {
  ready = ready;
  later = omega arith;
  few = omega arith;
  kept = keeps_same a;
  are_in = λ i x lt. absurd (omega arith);
  leads = λ k. same_one ts (Wants (ItemsAt b d ∷ k)) (Wants (expr b d (MoreItems b d NoExprs ∷ k))) at s here (same k s (lexeme_at ts at) p q r);
})
  where
    same : (k : List Frame) (s : Sign) (x : Lexeme) → s ≢ sign.Close → s ≢ sign.CloseSquare → s ≢ sign.Semicolon → step (Wants (ItemsAt b d ∷ k)) (s, x) ≡ step (Wants (expr b d (MoreItems b d NoExprs ∷ k))) (s, x)
    same k sign.Close x p q r = absurd (p refl)
    same k sign.CloseSquare x p q r = absurd (q refl)
    same k sign.Semicolon x p q r = absurd (r refl)
    same k _ x p q r = refl

pub items_refused : (b : Bool) (d : ℕ) (ts : List Token) (at place : ℕ) (a m : Forest) (ids : List ExprId) (e : Refusal) → ItemsSoFar b d ts at place a m ids → Refuses (λ k. Wants (expr b d k)) ts place e → Refuses (λ k. Wants (ItemsAt b d ∷ k)) ts at e
items_refused b d ts at place a m ids e so_far h = refuses_before _ (λ k. Wants (expr b d k)) (λ k. MoreItems b d (exprs_at m ids) ∷ k) ts at place e so_far.leads h

module _ (b : Bool) (d : ℕ) (ts : List Token) (at place next : ℕ) (a m c : Forest) (ids : List ExprId) (id : ExprId) (so_far : ItemsSoFar b d ts at place a m ids) (h : Reads (λ k. Wants (expr b d k)) (λ k. k) ts place m c id next) where
  items_read : (k : List Frame) → goes ts (Wants (ItemsAt b d ∷ k)) at ≡ goes ts (Gives (expr_at c id) (MoreItems b d (exprs_at c ids) ∷ k)) next
  items_read k =
      let same : exprs_at m ids ≡ exprs_at c ids = sym (exprs_more_kept m c NoExprs ids (λ i x lt. so_far.are_in i x lt) h.kept) in
      so_far.leads k ∙ ap (λ xs. goes ts (Wants (expr b d (MoreItems b d xs ∷ k))) place) same ∙ h.leads (MoreItems b d (exprs_at c ids) ∷ k)

  no_comma : (e : Expr) (xs : Exprs) (k : List Frame) (s : Sign) (x : Lexeme) → s ≢ sign.Comma → ◌≡◌ {A = Step} (step (Gives e (MoreItems b d xs ∷ k)) (s, x)) (listed (AndExpr xs e) k (s, x))
  no_comma e xs k sign.Comma x p = absurd (p refl)
  no_comma e xs k _ x p = refl

  pub items_end : (s : Sign) → Next ts next s → s ≢ sign.Comma → ReadsItems b d ts at a c (ids ++ id ∷ []) next
  items_end s here other = record {
    walks = record { in_text = h.in_text; later = omega (arith, so_far.later, h.later); few = omega (arith, so_far.few, h.few); kept = keeps_then a m c so_far.kept h.kept };
    are_in = exprs_in m c ids id so_far.are_in h.kept h.is_in;
    leads = λ k. items_read k
        ∙ as_by ts (Gives (expr_at c id) (MoreItems b d (exprs_at c ids) ∷ k)) (listed (AndExpr (exprs_at c ids) (expr_at c id)) k) next s here (no_comma (expr_at c id) (exprs_at c ids) k s (lexeme_at ts next) other)
        ∙ ap (λ xs. goes_by ts (listed xs k) next) (sym (exprs_more_push c NoExprs ids id));
  }

  pub items_more : Next ts next sign.Comma → next + 1 < length ts → ItemsSoFar b d ts at (next + 1) a c (ids ++ id ∷ [])
  items_more here inside = record {
    ready = record { in_text = inside; shallow = so_far.ready.shallow; short = so_far.ready.short; few = omega (arith, so_far.ready.few, h.few) };
    later = omega (arith, so_far.later, h.later);
    few = omega (arith, so_far.few, h.few);
    kept = keeps_then a m c so_far.kept h.kept;
    are_in = exprs_in m c ids id so_far.are_in h.kept h.is_in;
    leads = λ k. items_read k
        ∙ take_one ts (Gives (expr_at c id) (MoreItems b d (exprs_at c ids) ∷ k)) (Wants (expr b d (MoreItems b d (AndExpr (exprs_at c ids) (expr_at c id)) ∷ k))) next d sign.Comma here refl so_far.ready.shallow
        ∙ ap (λ xs. goes ts (Wants (expr b d (MoreItems b d xs ∷ k))) (next + 1)) (sym (exprs_more_push c NoExprs ids id));
  }

-- ## Keys and values

key_there : (d : ℕ) (ps : Properties) (names : List ℕ) (k : List Frame) (s : Sign) (x : Lexeme) → is_key s x.text ≡ true → ◌≡◌ {A = Step} (step (Wants (NextKey d ps names ∷ k)) (s, x)) (Some (d, Wants (KeyColon d ps x.text (names ++ x.at ∷ []) ∷ k)))
key_there d ps names k s x is = rw is refl

key_missing : (d : ℕ) (ps : Properties) (names : List ℕ) (k : List Frame) (s : Sign) (x : Lexeme) → is_key s x.text ≡ false → ◌≡◌ {A = Step} (step (Wants (NextKey d ps names ∷ k)) (s, x)) None
key_missing d ps names k s x is = rw is refl

no_colon : (d : ℕ) (ps : Properties) (n : List ℕ) (names : List ℕ) (k : List Frame) (s : Sign) (x : Lexeme) → s ≢ sign.Colon → ◌≡◌ {A = Step} (step (Wants (KeyColon d ps n names ∷ k)) (s, x)) None
no_colon d ps n names k sign.Colon x h = absurd (h refl)
no_colon d ps n names k _ x h = refl

pub property_no_key : (ts : List Token) (at d : ℕ) (a : Forest) (e : Refusal) → IsReady ts at d a → IsNoKey ts at e → (ps : Properties) (names : List ℕ) → Refuses (λ k. Wants (NextKey d ps names ∷ k)) ts at e
property_no_key ts at d a (refusal.Syntax place) ready h ps names =
    let there = h.1 in
    subst (λ p. Refuses (λ k. Wants (NextKey d ps names ∷ k)) ts at (refusal.Syntax p)) (sym (h.0)) (ready.in_text, λ k. refuse_one ts (Wants (NextKey d ps names ∷ k)) at (there.0) (there.1) (key_missing d ps names k (there.0) (lexeme_at ts at) (there.2)))
property_no_key ts at d a (refusal.TooDeep place) ready h ps names = absurd h
property_no_key ts at d a refusal.Memory ready h ps names = tt

module _ (ts : List Token) (at d : ℕ) (a : Forest) (ready : IsReady ts at d a) (there : IsNext ts at (λ s. is_key s (lexeme_at ts at).text ≡ true)) where
  property_key : (ps : Properties) (names : List ℕ) (k : List Frame) → goes ts (Wants (NextKey d ps names ∷ k)) at ≡ goes ts (Wants (KeyColon d ps (lexeme_at ts at).text (names ++ (lexeme_at ts at).at ∷ []) ∷ k)) (at + 1)
  property_key ps names k = take_one ts (Wants (NextKey d ps names ∷ k)) (Wants (KeyColon d ps (lexeme_at ts at).text (names ++ (lexeme_at ts at).at ∷ []) ∷ k)) at d (there.0) (there.1) (key_there d ps names k (there.0) (lexeme_at ts at) (there.2)) ready.shallow

  pub property_no_colon : at + 1 < length ts → IsOther ts (at + 1) sign.Colon → (ps : Properties) (names : List ℕ) → Refuses (λ k. Wants (NextKey d ps names ∷ k)) ts at (refusal.Syntax (at + 1))
  property_no_colon inside other ps names = other_refused _ ts at (at + 1) sign.Colon (λ k. Wants (KeyColon d ps (lexeme_at ts at).text (names ++ (lexeme_at ts at).at ∷ []) ∷ k)) inside other (property_key ps names) (no_colon d ps (lexeme_at ts at).text (names ++ (lexeme_at ts at).at ∷ []))

  module _ (first : ℕ) (mark : Next ts (at + 1) sign.Colon) (to : first ≡ at + 1 + 1) where
    property_value : (ps : Properties) (names : List ℕ) (k : List Frame) → goes ts (Wants (NextKey d ps names ∷ k)) at ≡ goes ts (Wants (expr false d (Value d ps (lexeme_at ts at).text (names ++ (lexeme_at ts at).at ∷ []) ∷ k))) first
    property_value ps names k =
        let n = (lexeme_at ts at).text in
        let l = names ++ (lexeme_at ts at).at ∷ [] in
        property_key ps names k ∙ take_to ts (Wants (KeyColon d ps n l ∷ k)) (Wants (expr false d (Value d ps n l ∷ k))) (at + 1) first d sign.Colon mark refl ready.shallow to

    pub property_refused : (e : Refusal) → Refuses (λ k. Wants (expr false d k)) ts first e → (ps : Properties) (names : List ℕ) → Refuses (λ k. Wants (NextKey d ps names ∷ k)) ts at e
    property_refused e h ps names = refuses_before _ (λ k. Wants (expr false d k)) (λ k. Value d ps (lexeme_at ts at).text (names ++ (lexeme_at ts at).at ∷ []) ∷ k) ts at first e (property_value ps names) h

    pub property_ends : (next : ℕ) (b : Forest) (id : ExprId) (name : List ℕ) → name ≡ (lexeme_at ts at).text → Reads (λ k. Wants (expr false d k)) (λ k. k) ts first a b id next → ReadsProperty d ts at a b name id next
    property_ends next b id name is h = subst (λ n. ReadsProperty d ts at a b n id next) (sym is) (record {
      in_text = h.in_text;
      later = omega (arith, h.later, to);
      few = omega (arith, h.few, to);
      kept = h.kept;
      is_in = h.is_in;
      named = refl;
      leads = λ ps names k. property_value ps names k ∙ h.leads (Value d ps (lexeme_at ts at).text (names ++ (lexeme_at ts at).at ∷ []) ∷ k);
    })

-- the keys so far
pub record KeysSoFar (d : ℕ) (ts : List Token) (at place : ℕ) (a m : Forest) (list : List Pair) (names : List ℕ) : Type 0 where
  pub ready : IsReady ts place d m
  pub later : at ≤ place
  pub few : size m + at ≤ size a + place
  pub kept : Keeps a m
  pub are_in : All (λ p. IsExpr m p.1) list
  pub leads : (o : ℕ) (w : Lexeme) (k : List Frame) → goes ts (Wants (FirstKey d ∷ ObjectEnd o w ∷ k)) at ≡ goes ts (Wants (NextKey d (properties_at m list) names ∷ ObjectEnd o w ∷ k)) place

pub keys_none : (d : ℕ) (ts : List Token) (at : ℕ) (a : Forest) (list : List Pair) (names : List ℕ) → IsReady ts at d a → Next ts at sign.CloseBrace → at + 1 < length ts → list ≡ [] → names ≡ [] → ReadsKeys d ts at a a list names (at + 1)
keys_none d ts at a list names ready here inside list_is names_is = subst (λ l. ReadsKeys d ts at a a l names (at + 1)) (sym list_is) (subst (λ l. ReadsKeys d ts at a a [] l (at + 1)) (sym names_is) (record {
  in_text = inside;
  later = omega arith;
  few = omega arith;
  kept = keeps_same a;
  are_in = λ i x lt. absurd (omega arith);
  leads = λ o w k. take_one ts (Wants (FirstKey d ∷ ObjectEnd o w ∷ k)) (Gives (ExprAt w.at [] (Object NoProperties)) k) at d sign.CloseBrace here refl ready.shallow;
}))

pub keys_begin : (d : ℕ) (ts : List Token) (at : ℕ) (a : Forest) (list : List Pair) (names : List ℕ) (s : Sign) → IsReady ts at d a → Next ts at s → s ≢ sign.CloseBrace → list ≡ [] → names ≡ [] → KeysSoFar d ts at at a a list names
keys_begin d ts at a list names s ready here other list_is names_is = subst (λ l. KeysSoFar d ts at at a a l names) (sym list_is) (subst (λ l. KeysSoFar d ts at at a a [] l) (sym names_is) (record {
  ready = ready;
  later = omega arith;
  few = omega arith;
  kept = keeps_same a;
  are_in = λ i x lt. absurd (omega arith);
  leads = λ o w k. same_one ts (Wants (FirstKey d ∷ ObjectEnd o w ∷ k)) (Wants (NextKey d NoProperties [] ∷ ObjectEnd o w ∷ k)) at s here (same (ObjectEnd o w ∷ k) s (lexeme_at ts at) other);
}))
  where
    same : (k : List Frame) (s : Sign) (x : Lexeme) → s ≢ sign.CloseBrace → step (Wants (FirstKey d ∷ k)) (s, x) ≡ step (Wants (NextKey d NoProperties [] ∷ k)) (s, x)
    same k sign.CloseBrace x p = absurd (p refl)
    same k _ x p = refl

pub keys_refused : (d : ℕ) (ts : List Token) (at place : ℕ) (a m : Forest) (list : List Pair) (names : List ℕ) (e : Refusal) → KeysSoFar d ts at place a m list names → ((ps : Properties) (names : List ℕ) → Refuses (λ k. Wants (NextKey d ps names ∷ k)) ts place e) → (o : ℕ) (w : Lexeme) → Refuses (λ k. Wants (FirstKey d ∷ ObjectEnd o w ∷ k)) ts at e
keys_refused d ts at place a m list names e so_far h o w = refuses_before _ (λ k. Wants (NextKey d (properties_at m list) names ∷ k)) (λ k. ObjectEnd o w ∷ k) ts at place e (so_far.leads o w) (h (properties_at m list) names)

no_key_end : (e : Expr) (d : ℕ) (ps : Properties) (n : List ℕ) (names : List ℕ) (k : List Frame) (s : Sign) (x : Lexeme) → s ≢ sign.Comma → s ≢ sign.CloseBrace → ◌≡◌ {A = Step} (step (Gives e (Value d ps n names ∷ k)) (s, x)) None
no_key_end e d ps n names k sign.Comma x p q = absurd (p refl)
no_key_end e d ps n names k sign.CloseBrace x p q = absurd (q refl)
no_key_end e d ps n names k _ x p q = refl

module _ (d : ℕ) (ts : List Token) (at place next : ℕ) (a m c : Forest) (list : List Pair) (names : List ℕ) (name : List ℕ) (id : ExprId) (so_far : KeysSoFar d ts at place a m list names) (h : ReadsProperty d ts place m c name id next) where
  keys_read : (o : ℕ) (w : Lexeme) (k : List Frame) → goes ts (Wants (FirstKey d ∷ ObjectEnd o w ∷ k)) at ≡ goes ts (Gives (expr_at c id) (Value d (properties_at c list) name (names ++ (lexeme_at ts place).at ∷ []) ∷ ObjectEnd o w ∷ k)) next
  keys_read o w k =
      let same : properties_at m list ≡ properties_at c list = sym (properties_more_kept m c NoProperties list (λ i x lt. so_far.are_in i x lt) h.kept) in
      so_far.leads o w k ∙ ap (λ ps. goes ts (Wants (NextKey d ps names ∷ ObjectEnd o w ∷ k)) place) same ∙ h.leads (properties_at c list) names (ObjectEnd o w ∷ k)

  module _ (last : List ℕ) (last_is : last ≡ names ++ (lexeme_at ts place).at ∷ []) where
    pub keys_end : Next ts next sign.CloseBrace → next + 1 < length ts → ReadsKeys d ts at a c (list ++ (name, id) ∷ []) last (next + 1)
    keys_end here inside = subst (λ l. ReadsKeys d ts at a c (list ++ (name, id) ∷ []) l (next + 1)) (sym last_is) (record {
      in_text = inside;
      later = omega (arith, so_far.later, h.later);
      few = omega (arith, so_far.few, h.few);
      kept = keeps_then a m c so_far.kept h.kept;
      are_in = properties_in m c list (name, id) so_far.are_in h.kept h.is_in;
      leads = λ o w k. keys_read o w k
          ∙ take_one ts (Gives (expr_at c id) (Value d (properties_at c list) name (names ++ (lexeme_at ts place).at ∷ []) ∷ ObjectEnd o w ∷ k)) (Gives (ExprAt w.at (names ++ (lexeme_at ts place).at ∷ []) (Object (AndProperty (properties_at c list) name (expr_at c id)))) k) next d sign.CloseBrace here refl so_far.ready.shallow
          ∙ ap (λ ps. goes ts (Gives (ExprAt w.at (names ++ (lexeme_at ts place).at ∷ []) (Object ps)) k) (next + 1)) (sym (properties_more_push c NoProperties list (name, id)));
    })

    pub keys_more : Next ts next sign.Comma → next + 1 < length ts → KeysSoFar d ts at (next + 1) a c (list ++ (name, id) ∷ []) last
    keys_more here inside = subst (λ l. KeysSoFar d ts at (next + 1) a c (list ++ (name, id) ∷ []) l) (sym last_is) (record {
      ready = record { in_text = inside; shallow = so_far.ready.shallow; short = so_far.ready.short; few = omega (arith, so_far.ready.few, h.few) };
      later = omega (arith, so_far.later, h.later);
      few = omega (arith, so_far.few, h.few);
      kept = keeps_then a m c so_far.kept h.kept;
      are_in = properties_in m c list (name, id) so_far.are_in h.kept h.is_in;
      leads = λ o w k. keys_read o w k
          ∙ take_one ts (Gives (expr_at c id) (Value d (properties_at c list) name (names ++ (lexeme_at ts place).at ∷ []) ∷ ObjectEnd o w ∷ k)) (Wants (NextKey d (AndProperty (properties_at c list) name (expr_at c id)) (names ++ (lexeme_at ts place).at ∷ []) ∷ ObjectEnd o w ∷ k)) next d sign.Comma here refl so_far.ready.shallow
          ∙ ap (λ ps. goes ts (Wants (NextKey d ps (names ++ (lexeme_at ts place).at ∷ []) ∷ ObjectEnd o w ∷ k)) (next + 1)) (sym (properties_more_push c NoProperties list (name, id)));
    })

  pub keys_stuck : (s : Sign) → Next ts next s → s ≢ sign.Comma → s ≢ sign.CloseBrace → (o : ℕ) (w : Lexeme) → Refuses (λ k. Wants (FirstKey d ∷ ObjectEnd o w ∷ k)) ts at (refusal.Syntax next)
  keys_stuck s here p q o w = (h.in_text, λ k. keys_read o w k ∙ refuse_one ts (Gives (expr_at c id) (Value d (properties_at c list) name (names ++ (lexeme_at ts place).at ∷ []) ∷ ObjectEnd o w ∷ k)) next s here (no_key_end (expr_at c id) d (properties_at c list) name (names ++ (lexeme_at ts place).at ∷ []) (ObjectEnd o w ∷ k) s (lexeme_at ts next) p q))

-- the object literal
module _ (ts : List Token) (at d inner : ℕ) (a : Forest) (here : Next ts at sign.OpenBrace) (is : inner ≡ suc d) (le : inner ≤ 200) where
  object_opens : (k : List Frame) → goes ts (Wants (PrimaryAt d ∷ k)) at ≡ goes ts (Wants (FirstKey inner ∷ ObjectEnd d (lexeme_at ts at) ∷ k)) (at + 1)
  object_opens k = take_one ts (Wants (PrimaryAt d ∷ k)) (Wants (FirstKey inner ∷ ObjectEnd d (lexeme_at ts at) ∷ k)) at inner sign.OpenBrace here (rw is refl) le

  pub object_refused : (e : Refusal) → ((o : ℕ) (w : Lexeme) → Refuses (λ k. Wants (FirstKey inner ∷ ObjectEnd o w ∷ k)) ts (at + 1) e) → Refuses (λ k. Wants (PrimaryAt d ∷ k)) ts at e
  object_refused e h = refuses_before _ (λ k. Wants (FirstKey inner ∷ ObjectEnd d (lexeme_at ts at) ∷ k)) (λ k. k) ts at (at + 1) e object_opens (h d (lexeme_at ts at))

  pub object_ends : (next : ℕ) (b c : Forest) (list : List Pair) (names : List ℕ) (place : ℕ) (result : Result (ExprId × ℕ) Refusal) → ReadsKeys inner ts (at + 1) a b list names next → place ≡ (lexeme_at ts at).at → MadeExpr b c (ExprAt place names (Object (properties_at b list))) next result → ReadsExpr (λ k. Wants (PrimaryAt d ∷ k)) (λ k. k) ts at a c result
  object_ends next b c list names place result h place_is made =
      ends_made _ _ ts at next a b c _ result h.in_text (omega (arith, h.later)) (omega (arith, h.few, h.later)) h.kept
      (λ k. rw place_is (object_opens k ∙ h.leads d (lexeme_at ts at) k)) made
