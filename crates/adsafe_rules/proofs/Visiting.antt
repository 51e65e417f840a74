-- One visit: what was to be found in the node is in what it breaks itself and in its parts.
use Rattle.std.proofs.Common.{◌≡◌, ℕ, suc, ◌+◌, ◌<◌, ◌≤◌, List, [], ◌∷◌, ◌++◌, refl, sym, ap, ◌∙◌, subst, inl, inr, ◌⊎◌, arith, length, take, Option, None, length-append}
use Rattle.std.specs.Prelude.{map}
use Rattle.std.proofs.lemmas.List.{take_all}
use Rattle.js_tree.specs.declared.nodes.Part.{Part}
use Rattle.js_tree.specs.Forest.{Forest}
use Rattle.js_tree.specs.Parts.{Spot, spot_at, IsIn, spot_size, spots_size}
use Rattle.first_breach.specs.declared.Breach.{Breach}
use Rattle.first_breach.specs.Lists.{In, here}
use Rattle.first_breach.specs.Breaches.{Nothing}
use Rattle.first_breach.specs.Narrowing.{Narrows}
use Rattle.first_breach.proofs.Members.{in_front, in_back, in_split, in_none, in_one, in_map, in_unmap, map_append}
use Rattle.first_breach.proofs.Narrowing.{narrows_none, narrows_then, narrows_beside}
use Rattle.node_rules.specs.declared.pushes.Work.{Work}
use Rattle.node_rules.specs.declared.enclosing.Opened.{Opened}
use Rattle.node_rules.specs.declared.enclosing.Enclosing.{Enclosing}
use Rattle.node_rules.specs.Parts.{Stands, itself, outside, inside, outer, inner}
use Rattle.node_rules.specs.Binding.{no_jumps, jumps_in}
use Rattle.adsafe_rules.specs.Rows.{Broken, Found, AnyFound}
use Rattle.node_rules.specs.Enclosing.{IsCounted, IsKnown, AreKnown, AreJumps, IsEnclosing, env_of, jumps_of}
use Rattle.node_rules.specs.Work.{at_depth}
use Rattle.adsafe_rules.specs.Walk.{Left, Rises, AreIn, IsGoing, load, Pushes, Opens}
use Rattle.node_rules.proofs.Lists.{append_nothing}
use Rattle.node_rules.proofs.Open.{known_more, known_take, env_take, env_length, jumps_more, jumps_take}
use Rattle.node_rules.proofs.Sizes.{parts_less}
use Rattle.adsafe_rules.proofs.Stacking.{all_in, take_less, length_take, take_front, rises_front, rises_last, level, rises_level, rises_both, trees_at, load_append}

-- what is found in a node
record InParts (env : List Spot) (n : Spot) (r p : ℕ) : Type 0 where
  part : Spot
  is_in : In part (outer n)
  found : Found env part r p

record InScope (env : List Spot) (n : Spot) (r p : ℕ) : Type 0 where
  part : Spot
  is_in : In part (inner n)
  found : Found (env ++ n ∷ []) part r p

found_at : {env around : List Spot} {n m : Spot} {r p : ℕ} → Stands env n around m → Broken around m r p → Broken env n r p ⊎ (InParts env n r p ⊎ InScope env n r p)
found_at itself b = inl b
found_at (outside {p = q} i s) b = inr (inl (record { part = q; is_in = i; found = record { around = _; node = _; stands = s; broken = b } }))
found_at (inside {p = q} i s) b = inr (inr (record { part = q; is_in = i; found = record { around = _; node = _; stands = s; broken = b } }))

module _ (f : Forest) (env env2 : List Spot) (n : Spot) (w : Work) (same : n ≡ spot_at f w.part) (ws : List Work) (ops ips : List Part)
    (outs : outer n ≡ map (spot_at f) ops) (ins : inner n ≡ map (spot_at f) ips)
    (stays : take w.depth env2 ≡ take w.depth env)
    (around : (p : Spot) → In p (inner n) → take (suc w.depth) env2 ≡ take w.depth env ++ n ∷ [])
    (low : (v : Work) → In v ws → v.depth ≤ w.depth) where
  -- what lies below keeps what encloses it
  below_same : (v : Work) → In v ws → take v.depth env2 ≡ take v.depth env
  below_same v i = sym (take_less v.depth w.depth env2 (low v i)) ∙ ap (take v.depth) stays ∙ take_less v.depth w.depth env (low v i)

  abbrev next : List Work
  next = (ws ++ map (at_depth w.depth) ops) ++ map (at_depth (suc w.depth)) ips

  left_split : (r p : ℕ) → Left f env (ws ++ w ∷ []) r p → Broken (take w.depth env) n r p ⊎ Left f env2 next r p
  left_split r p h = elim (in_split ws (w ∷ []) h.is_in) [
    | inl i ↦ inr (record { work = h.work; is_in = in_front (map (at_depth (suc w.depth)) ips) (in_front (map (at_depth w.depth) ops) i); inside = subst (λ e. Found e (spot_at f h.work.part) r p) (sym (below_same h.work i)) h.inside })
    | inr i ↦
        let g : Found (take w.depth env) n r p = subst (λ x. Found (take w.depth env) x r p) (sym same) (subst (λ (v : Work). Found (take v.depth env) (spot_at f v.part) r p) (in_one i) h.inside) in
        elim (found_at g.stands g.broken) [
          | inl b ↦ inl b
          | inr k ↦ elim k [
            | inl o ↦
                let m = in_unmap (spot_at f) ops (subst (λ l. In o.part l) outs o.is_in) in
                inr (record { work = at_depth w.depth m.from; is_in = in_front (map (at_depth (suc w.depth)) ips) (in_back ws (in_map (at_depth w.depth) m.is_in)); inside = subst (λ e. Found e (spot_at f m.from) r p) (sym stays) (subst (λ x. Found (take w.depth env) x r p) (sym m.same) o.found) })
            | inr o ↦
                let m = in_unmap (spot_at f) ips (subst (λ l. In o.part l) ins o.is_in) in
                inr (record { work = at_depth (suc w.depth) m.from; is_in = in_back (ws ++ map (at_depth w.depth) ops) (in_map (at_depth (suc w.depth)) m.is_in); inside = subst (λ e. Found e (spot_at f m.from) r p) (sym (around o.part o.is_in)) (subst (λ x. Found (take w.depth env ++ n ∷ []) x r p) (sym m.same) o.found) })
          ]
        ]
  ]

  last_left : (r p : ℕ) → Found (take w.depth env) n r p → Left f env (ws ++ w ∷ []) r p
  last_left r p h = record { work = w; is_in = in_back ws here; inside = subst (λ x. Found (take w.depth env) x r p) same h }

  left_back : (r p : ℕ) → Left f env2 next r p → Left f env (ws ++ w ∷ []) r p
  left_back r p h = elim (in_split (ws ++ map (at_depth w.depth) ops) (map (at_depth (suc w.depth)) ips) h.is_in) [
    | inl i ↦ elim (in_split ws (map (at_depth w.depth) ops) i) [
      | inl j ↦ record { work = h.work; is_in = in_front (w ∷ []) j; inside = subst (λ e. Found e (spot_at f h.work.part) r p) (below_same h.work j) h.inside }
      | inr j ↦
          let m = in_unmap (at_depth w.depth) ops j in
          let g : Found (take w.depth env2) (spot_at f m.from) r p = subst (λ (v : Work). Found (take v.depth env2) (spot_at f v.part) r p) (sym m.same) h.inside in
          let k : Found (take w.depth env) (spot_at f m.from) r p = subst (λ e. Found e (spot_at f m.from) r p) stays g in
          last_left r p (record { around = k.around; node = k.node; stands = outside (subst (λ l. In (spot_at f m.from) l) (sym outs) (in_map (spot_at f) m.is_in)) k.stands; broken = k.broken })
    ]
    | inr i ↦
        let m = in_unmap (at_depth (suc w.depth)) ips i in
        let is_in : In (spot_at f m.from) (inner n) = subst (λ l. In (spot_at f m.from) l) (sym ins) (in_map (spot_at f) m.is_in) in
        let g : Found (take (suc w.depth) env2) (spot_at f m.from) r p = subst (λ (v : Work). Found (take v.depth env2) (spot_at f v.part) r p) (sym m.same) h.inside in
        let k : Found (take w.depth env ++ n ∷ []) (spot_at f m.from) r p = subst (λ e. Found e (spot_at f m.from) r p) (around (spot_at f m.from) is_in) g in
        last_left r p (record { around = k.around; node = k.node; stands = inside is_in k.stands; broken = k.broken })
  ]

  pub visited : (a b : Option Breach) → Narrows (Broken (take w.depth env) n) a Nothing b → Narrows (Left f env (ws ++ w ∷ [])) a (Left f env2 next) b
  visited a b s = narrows_beside s left_split (λ r p h. last_left r p (record { around = take w.depth env; node = n; stands = itself; broken = h })) left_back

-- a node without a scope
pub opens_none : (f : Forest) (d : ℕ) (n : Spot) (e : Enclosing) (ws : List Work) → inner n ≡ [] → length e.stack.items ≡ d → IsEnclosing f e → Opens f d n e e ws ws
opens_none f d n e ws ins len k = record {
  pushes = record { parts = []; same = ins; are_in = tt; pushed = sym (append_nothing ws) };
  same = take_all d _ (omega (arith, env_length f e.stack.items));
  around = λ p i. absurd (in_none (subst (λ l. In p l) ins i));
  deep = λ p i. absurd (in_none (subst (λ l. In p l) ins i));
  longer = omega arith;
  enclosing = k;
}

-- a node with one
pub opens_some : (f : Forest) (d : ℕ) (n : Spot) (opened : Opened) (ps : List Part) (old new : Enclosing) (before after : List Work) → inner n ≡ map (spot_at f) ps → AreIn f ps → new.stack.items ≡ old.stack.items ++ opened ∷ [] → n ≡ spot_at f opened.opener → IsKnown f opened → length old.stack.items ≡ d → IsEnclosing f old → opened.jumps ≡ jumps_in (jumps_of no_jumps old.stack.items) n → IsCounted new → after ≡ before ++ map (at_depth (d + 1)) ps → Opens f d n old new before after
opens_some f d n opened ps old new before after ins are e same isk len k jumps counted p =
    let one : d + 1 ≡ suc d = omega arith in
    let env : env_of f new.stack.items ≡ env_of f old.stack.items ++ n ∷ [] = ap (env_of f) e ∙ map_append (λ (o : Opened). spot_at f o.opener) old.stack.items (opened ∷ []) ∙ ap (λ x. env_of f old.stack.items ++ x ∷ []) (sym same) in
    let size_is : length (env_of f old.stack.items) ≡ d = env_length f old.stack.items ∙ len in
    let stack_is : length new.stack.items ≡ suc d = omega (arith, ap length e, length-append old.stack.items (opened ∷ [])) in
    record {
      pushes = record { parts = ps; same = ins; are_in = are; pushed = p ∙ ap (λ m. before ++ map (at_depth m) ps) one };
      same = ap (take d) env ∙ take_front d _ (n ∷ []) size_is;
      around = λ q i. ap (take (suc d)) env ∙ take_all (suc d) _ (omega (arith, length-append (env_of f old.stack.items) (n ∷ [])));
      deep = λ q i. omega arith;
      longer = omega arith;
      enclosing = record {
        known = subst (AreKnown f) (sym e) (known_more f old.stack.items opened k.known isk);
        jumps = subst (AreJumps f no_jumps) (sym e) (jumps_more f no_jumps old.stack.items opened k.jumps (jumps ∙ ap (jumps_in (jumps_of no_jumps old.stack.items)) same));
        counted = counted;
      };
    }

-- what is left of the open nodes
pub enclosing_take : (f : Forest) (d : ℕ) (old new : Enclosing) → new.stack.items ≡ take d old.stack.items → IsCounted new → IsEnclosing f old → IsEnclosing f new
enclosing_take f d old new e c h = record {
  known = subst (AreKnown f) (sym e) (known_take f d old.stack.items h.known);
  jumps = subst (AreJumps f no_jumps) (sym e) (jumps_take f no_jumps d old.stack.items h.jumps);
  counted = c;
}

-- the whole visit
module _ (f : Forest) (w : Work) (ws w1 w2 : List Work) (e0 e1 e2 : Enclosing)
    (going : IsGoing f e0 (ws ++ w ∷ []))
    (left : e1.stack.items ≡ take w.depth e0.stack.items)
    (pushes : Pushes f w.depth (outer (spot_at f w.part)) ws w1)
    (opens : Opens f w.depth (spot_at f w.part) e1 e2 w1 w2) where
  abbrev n : Spot
  n = spot_at f w.part

  abbrev ops : List Part
  ops = pushes.parts

  abbrev ips : List Part
  ips = opens.pushes.parts

  abbrev after : List Work
  after = (ws ++ map (at_depth w.depth) ops) ++ map (at_depth (suc w.depth)) ips

  is_after : w2 ≡ after
  is_after = opens.pushes.pushed ∙ ap (λ l. l ++ map (at_depth (suc w.depth)) ips) pushes.pushed

  env_left : env_of f e1.stack.items ≡ take w.depth (env_of f e0.stack.items)
  env_left = ap (env_of f) left ∙ env_take f w.depth e0.stack.items

  low : (v : Work) → In v ws → v.depth ≤ w.depth
  low = rises_last ws w going.rises

  depth_is : length e1.stack.items ≡ w.depth
  depth_is = ap length left ∙ length_take w.depth e0.stack.items (going.deep w (in_back ws here))

  pub visit_narrows : (a b : Option Breach) → Narrows (Broken (env_of f e1.stack.items) n) a Nothing b → Narrows (Left f (env_of f e0.stack.items) (ws ++ w ∷ [])) a (Left f (env_of f e2.stack.items) w2) b
  visit_narrows a b s =
      subst (λ l. Narrows (Left f (env_of f e0.stack.items) (ws ++ w ∷ [])) a (Left f (env_of f e2.stack.items) l) b) (sym is_after)
      (visited f (env_of f e0.stack.items) (env_of f e2.stack.items) n w refl ws ops ips pushes.same opens.pushes.same
      (opens.same ∙ env_left) (λ p i. opens.around p i ∙ ap (λ e. e ++ n ∷ []) env_left) low a b
      (subst (λ e. Narrows (Broken e n) a Nothing b) env_left s))

  in_ops : (v : Work) → In v (map (at_depth w.depth) ops) → IsIn f v.part
  in_ops v j = let m = in_unmap (at_depth w.depth) ops j in let e : m.from ≡ v.part = ap (λ (x : Work). x.part) m.same in subst (IsIn f) e (all_in f ops pushes.are_in m.from m.is_in)

  in_ips : (v : Work) → In v (map (at_depth (suc w.depth)) ips) → IsIn f v.part
  in_ips v j = let m = in_unmap (at_depth (suc w.depth)) ips j in let e : m.from ≡ v.part = ap (λ (x : Work). x.part) m.same in subst (IsIn f) e (all_in f ips opens.pushes.are_in m.from m.is_in)

  after_parts : (v : Work) → In v after → IsIn f v.part
  after_parts v h = elim (in_split (ws ++ map (at_depth w.depth) ops) _ h) [
    | inl i ↦ elim (in_split ws _ i) [ inl j ↦ going.parts v (in_front (w ∷ []) j) | inr j ↦ in_ops v j ]
    | inr i ↦ in_ips v i
  ]

  deep_inside : (v : Work) → In v (map (at_depth (suc w.depth)) ips) → v.depth ≤ length e2.stack.items
  deep_inside v i =
      let m = in_unmap (at_depth (suc w.depth)) ips i in
      let s : In (spot_at f m.from) (inner n) = subst (λ l. In (spot_at f m.from) l) (sym opens.pushes.same) (in_map (spot_at f) m.is_in) in
      omega (arith, level (suc w.depth) ips v i, opens.deep (spot_at f m.from) s)

  after_deep : (v : Work) → In v after → v.depth ≤ length e2.stack.items
  after_deep v h = elim (in_split (ws ++ map (at_depth w.depth) ops) _ h) [
    | inl i ↦ elim (in_split ws _ i) [
      | inl j ↦ omega (arith, low v j, depth_is, opens.longer)
      | inr j ↦ omega (arith, level w.depth ops v j, depth_is, opens.longer)
    ]
    | inr i ↦ deep_inside v i
  ]

  after_rises : Rises after
  after_rises = rises_both (ws ++ map (at_depth w.depth) ops) _
      (rises_both ws _ (rises_front ws (w ∷ []) going.rises) (rises_level w.depth ops) (λ u v i j. omega (arith, low u i, level w.depth ops v j)))
      (rises_level (suc w.depth) ips)
      (λ u v i j. elim (in_split ws _ i) [
        | inl k ↦ omega (arith, low u k, level (suc w.depth) ips v j)
        | inr k ↦ omega (arith, level w.depth ops u k, level (suc w.depth) ips v j)
      ])

  pub visit_going : IsGoing f e2 w2
  visit_going = record {
    parts = subst (λ l. (v : Work) → In v l → IsIn f v.part) (sym is_after) after_parts;
    rises = subst Rises (sym is_after) after_rises;
    deep = subst (λ l. (v : Work) → In v l → v.depth ≤ length e2.stack.items) (sym is_after) after_deep;
    enclosing = opens.enclosing;
  }

  pub visit_lighter : load f w2 < load f (ws ++ w ∷ [])
  visit_lighter =
      let a : load f w2 ≡ load f (ws ++ map (at_depth w.depth) ops) + load f (map (at_depth (suc w.depth)) ips) = ap (load f) is_after ∙ load_append f (ws ++ map (at_depth w.depth) ops) _ in
      let b = load_append f ws (map (at_depth w.depth) ops) in
      let c : load f (map (at_depth w.depth) ops) ≡ spots_size (outer n) = ap spots_size (trees_at f w.depth ops) ∙ sym (ap spots_size pushes.same) in
      let d : load f (map (at_depth (suc w.depth)) ips) ≡ spots_size (inner n) = ap spots_size (trees_at f (suc w.depth) ips) ∙ sym (ap spots_size opens.pushes.same) in
      let e = load_append f ws (w ∷ []) in
      let one : load f (w ∷ []) ≡ spot_size n + 0 = refl in
      omega (arith, a, b, c, d, e, one, parts_less n)

-- before the first visit
module _ (f : Forest) (spots : List Spot) (e : Enclosing) (ws : List Work) (pushes : Pushes f 0 spots [] ws) (none : e.stack.items ≡ []) where
  start_in : (v : Work) → In v (map (at_depth 0) pushes.parts) → IsIn f v.part
  start_in v j = let m = in_unmap (at_depth 0) pushes.parts j in let d : m.from ≡ v.part = ap (λ (x : Work). x.part) m.same in subst (IsIn f) d (all_in f pushes.parts pushes.are_in m.from m.is_in)

  pub walk_going : IsCounted e → IsGoing f e ws
  walk_going c = record {
    parts = λ v i. start_in v (subst (λ l. In v l) pushes.pushed i);
    rises = subst Rises (sym pushes.pushed) (rises_level 0 pushes.parts);
    deep = λ v i. omega (arith, level 0 pushes.parts v (subst (λ l. In v l) pushes.pushed i));
    enclosing = record { known = subst (AreKnown f) (sym none) tt; jumps = subst (AreJumps f no_jumps) (sym none) tt; counted = c };
  }

  start_to : (r p : ℕ) → AnyFound [] spots r p → Left f [] (map (at_depth 0) pushes.parts) r p
  start_to r p h =
      let m = in_unmap (spot_at f) pushes.parts (subst (λ l. In h.top l) pushes.same h.is_in) in
      record { work = at_depth 0 m.from; is_in = in_map (at_depth 0) m.is_in; inside = subst (λ n. Found [] n r p) (sym m.same) h.found }

  start_from : (r p : ℕ) → Left f [] (map (at_depth 0) pushes.parts) r p → AnyFound [] spots r p
  start_from r p h =
      let m = in_unmap (at_depth 0) pushes.parts h.is_in in
      let g : Found [] (spot_at f m.from) r p = subst (λ (v : Work). Found (take v.depth []) (spot_at f v.part) r p) (sym m.same) h.inside in
      record { top = spot_at f m.from; is_in = subst (λ l. In (spot_at f m.from) l) (sym pushes.same) (in_map (spot_at f) m.is_in); found = g }

  env_none : env_of f e.stack.items ≡ []
  env_none = ap (env_of f) none

  pub walk_to : (r p : ℕ) → AnyFound [] spots r p → Left f (env_of f e.stack.items) ws r p
  walk_to r p h = subst (λ l. Left f l ws r p) (sym env_none) (subst (λ l. Left f [] l r p) (sym pushes.pushed) (start_to r p h))

  pub walk_from : (r p : ℕ) → Left f (env_of f e.stack.items) ws r p → AnyFound [] spots r p
  walk_from r p h = start_from r p (subst (λ l. Left f [] l r p) pushes.pushed (subst (λ l. Left f l ws r p) env_none h))

pub walk_ends : (f : Forest) (B : ℕ → ℕ → Type 0) (env : List Spot) (ws : List Work) (b : Option Breach) → length ws ≡ 0 → Narrows B None (Left f env ws) b → Narrows B None Nothing b
walk_ends f B env [] b e h = narrows_then h (narrows_none (Left f env []) b (λ r p l. in_none l.is_in))
walk_ends f B env (w ∷ ws) b e h = absurd (omega arith)
