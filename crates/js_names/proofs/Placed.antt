-- The places of parameters, and names with places.
use Rattle.std.proofs.Common.{◌≡◌, ℕ, zero, suc, ◌<◌, ◌+◌, Bool, true, false, List, [], ◌∷◌, ◌++◌, refl, sym, ap, ◌∙◌, subst, inl, inr, ◌⊎◌, cond, length, get_or, take, arith}
use Rattle.std.specs.Prelude.{Option, Some, None, option_map, map, if◌then◌else◌, slice_get, slice_index_or}
use Rattle.std.specs.Option.{option_or}
use Rattle.std.specs.Str.{bytes_eq}
use Rattle.std.specs.Ordering.{nat_cmp, is_eq}
use Rattle.std.specs.Cmp.Lexicographic.{slice_cmp}
use Rattle.std.proofs.lemmas.Map.Text.{is_eq-slice_cmp}
use Rattle.std.proofs.lemmas.List.{length-take, take_more, map-append}
use Rattle.js_tree.specs.Plain.{FunAt, NoStmts, NoFuns}
use Rattle.js_tree.specs.Forest.{Forest, fun_at}
use Rattle.js_names.specs.declared.names.FunNames.{FunNames}
use Rattle.js_tree.specs.declared.nodes.ScopeName.{ScopeName}
use Rattle.js_names.specs.Names.{AreNames, ArePlaced, last_place}
use Rattle.js_names.specs.Found.{AreFound}

-- one parameter more
some_suc : (n : ℕ) (b : Bool) → option_map suc (if b then Some n else None) ≡ (if b then Some (suc n) else None)
some_suc n true = refl
some_suc n false = refl

next : (n : ℕ) (o : Option ℕ) (b c : Bool) → option_or (option_map suc (option_or (if b then Some n else None) o)) (if c then Some 0 else None) ≡ option_or (if b then Some (suc n) else None) (option_or (option_map suc o) (if c then Some 0 else None))
next n o true c = refl
next n o false c = refl

first_place : (n : ℕ) (b : Bool) → (if b then Some n else None) ≡ option_or (if b then Some n else None) None
first_place n true = refl
first_place n false = refl

last_push : (ps : List (List ℕ)) (p x : List ℕ) → last_place (ps ++ p ∷ []) x ≡ option_or (if bytes_eq p x then Some (length ps) else None) (last_place ps x)
last_push [] p x = first_place 0 (bytes_eq p x)
last_push (q ∷ ps) p x =
    ap (λ o. option_or (option_map suc o) (if bytes_eq q x then Some 0 else None)) (last_push ps p x)
    ∙ next (length ps) (last_place ps x) (bytes_eq p x) (bytes_eq q x)

latest : (b : Bool) (i : ℕ) (o : Option ℕ) → cond b (Some i) o ≡ option_or (if b then Some i else None) o
latest true i o = refl
latest false i o = refl

pub place_more : (params : List (List ℕ)) (i : ℕ) (p copy x : List ℕ) (old new : Option ℕ) → i < length params → p ≡ get_or params i p → copy ≡ p → old ≡ last_place (take i params) x → new ≡ cond (is_eq (slice_cmp nat_cmp copy x)) (Some i) old → new ≡ last_place (take (i + 1) params) x
place_more params i p copy x old new lt is same h e =
    let here : length (take i params) ≡ i = omega (arith, length-take i params) in
    e ∙ (λ j. cond (is_eq-slice_cmp copy x j) (Some i) (h j)) ∙ latest (bytes_eq copy x) i (last_place (take i params) x)
    ∙ (λ j. option_or (if bytes_eq (same j) x then Some (sym here j) else None) (last_place (take i params) x))
    ∙ sym (last_push (take i params) p x)
    ∙ ap (λ l. last_place l x) (ap (λ q. take i params ++ q ∷ []) is ∙ sym (take_more params i p lt))

-- one name more
pub placed_push : (place : List ℕ → Option ℕ) (ns : List ScopeName) (n : ScopeName) → ArePlaced place ns → n.argument ≡ place n.text → ArePlaced place (ns ++ n ∷ [])
placed_push place ns n h e =
    map-append (λ (m : ScopeName). m.argument) ns (n ∷ []) ∙ (λ i. h i ++ e i ∷ []) ∙ sym (map-append (λ (m : ScopeName). place m.text) ns (n ∷ []))

pub texts_push : (ns : List ScopeName) (n : ScopeName) (names : List (List ℕ)) (i : ℕ) (x : List ℕ) → i < length names → x ≡ get_or names i x → n.text ≡ x → map (λ m. m.text) ns ≡ take i names → map (λ m. m.text) (ns ++ n ∷ []) ≡ take (i + 1) names
texts_push ns n names i x lt is same h =
    map-append (λ (m : ScopeName). m.text) ns (n ∷ [])
    ∙ (λ j. h j ++ (same ∙ is) j ∷ [])
    ∙ sym (take_more names i x lt)

-- one function more
found_at : (ns : List FunNames) (n m : FunNames) (k : ℕ) → slice_get (ns ++ n ∷ []) k ≡ Some m → (slice_get ns k ≡ Some m) ⊎ ((k ≡ length ns) × (n ≡ m))
found_at [] n m zero e = inr (refl, cc)
found_at [] n m (suc k) e = absurd (cc)
found_at (x ∷ ns) n m zero e = inl e
found_at (x ∷ ns) n m (suc k) e = elim (found_at ns n m k e) [ inl i ↦ inl i | inr p ↦ inr (ap suc p.0, p.1) ]

pub found_push : (f : Forest) (ns : List FunNames) (n : FunNames) (last : ℕ) → AreFound f ns → length ns ≡ last → AreNames (slice_index_or f.funs last (FunAt 0 [] None [] NoStmts NoFuns)) n → AreFound f (ns ++ n ∷ [])
found_push f ns n last h l a = λ id m e. elim (found_at ns n m id.0 e) [
  | inl i ↦ h id m i
  | inr p ↦
      let g : slice_index_or f.funs last (FunAt 0 [] None [] NoStmts NoFuns) ≡ fun_at f id = ap (λ k. slice_index_or f.funs k (FunAt 0 [] None [] NoStmts NoFuns)) (sym (p.0 ∙ l)) in
      subst (AreNames (fun_at f id)) p.1 (subst (λ g. AreNames g n) g a)
]

pub found_none : (f : Forest) → AreFound f []
found_none f id n e = absurd (cc)
