-- A filter that stood before keeps all.
use Rattle.std.proofs.Common.{◌≡◌, inl, inr, ℕ, List, [], ◌∷◌, Bool, true, false, refl, ap, sym, ◌∙◌, subst, cond, eqb, ⊎_elim, Option}
use Rattle.std.proofs.lemmas.Bool.{or_cases}
use Rattle.std.specs.List.{filter}
use Rattle.query_grammar.specs.declared.query.Filter.{Filter}
use Rattle.query_grammar.specs.declared.query.StepFilter.{StepFilter}
use Rattle.query_grammar.specs.declared.query.StepFilter.TheVariants as kind
use Rattle.query_grammar.specs.Filters.{Look}
use Rattle.query_grammar.specs.Finds.{has_number, passes, filtered, all_filtered}
use Rattle.query_grammar.specs.Spelled.{IsIn, Thins, no_filters, first_time, again, on_list}
use Rattle.query_grammar.proofs.Truths.{or_right, no_true, same_number}
use Rattle.query_grammar.proofs.Numbers.{has_first, kept_is}
use Rattle.query_grammar.proofs.Kept.{filtered_is}

-- what a test keeps passes it
kept_passes : (t : ℕ → Bool) (ns : List ℕ) (x : ℕ) → has_number (filter t ns) x ≡ true → t x ≡ true
kept_passes t [] x h = absurd (no_true h)
kept_passes t (n ∷ ns) x h = by_test (t n) refl (λ g. kept_passes t ns x g) h
  where
    by_test : (b : Bool) → t n ≡ b → (has_number (filter t ns) x ≡ true → t x ≡ true) → has_number (cond b (n ∷ filter t ns) (filter t ns)) x ≡ true → t x ≡ true
    by_test true e more h = ⊎_elim (λ g. subst (λ y. t y ≡ true) (sym (same_number x n g)) e) more (or_cases (eqb x n) (has_number (filter t ns) x) h)
    by_test false e more h = more h

-- all pass
all_pass : (t : ℕ → Bool) (ns : List ℕ) → ((x : ℕ) → has_number ns x ≡ true → t x ≡ true) → filter t ns ≡ ns
all_pass t [] h = refl
all_pass t (n ∷ ns) h =
    ap (λ b. cond b (n ∷ filter t ns) (filter t ns)) (h n (has_first n ns))
    ∙ ap (λ l. n ∷ l) (all_pass t ns (λ x e. h x (or_right (eqb x n) (has_number ns x) e)))

module _ (look : ℕ → Look) (focus : Option ℕ) where
  -- the nodes pass each of these filters
  abbrev Pass : List Filter → List ℕ → Type 0
  Pass seen ns = (f : Filter) → IsIn f seen → (x : ℕ) → has_number ns x ≡ true → passes look focus f x ≡ true

  -- so do those that a filter keeps
  pass_still : (seen : List Filter) (f : StepFilter) (ns : List ℕ) → Pass seen ns → Pass seen (filtered look focus f ns)
  pass_still seen f ns h g is x e = h g is x (filtered_is look focus f ns x e)

  pass_more : (seen : List Filter) (f : Filter) (ns : List ℕ) → Pass seen ns → Pass (f ∷ seen) (filter (passes look focus f) ns)
  pass_more seen f ns h g (inl is) x e = subst (λ y. passes look focus y x ≡ true) (sym is) (kept_passes (passes look focus f) ns x e)
  pass_more seen f ns h g (inr is) x e = h g is x (kept_is (passes look focus f) ns x e)

  thinned : {seen : List Filter} {fs gs : List StepFilter} → Thins seen fs gs → (ns : List ℕ) → Pass seen ns → all_filtered look focus gs ns ≡ all_filtered look focus fs ns
  thinned no_filters ns h = refl
  thinned {seen = seen} (first_time {f = f} more) ns h = thinned more (filter (passes look focus f) ns) (pass_more seen f ns h)
  thinned (again {f = f} {fs = fs} is more) ns h = thinned more ns h ∙ ap (λ l. all_filtered look focus fs l) (sym (all_pass (passes look focus f) ns (λ x e. h f is x e)))
  thinned {seen = seen} (on_list {f = f} more) ns h = thinned more (filtered look focus (kind.List f) ns) (pass_still seen (kind.List f) ns h)

nothing_in : (look : ℕ → Look) (focus : Option ℕ) (ns : List ℕ) → Pass look focus [] ns
nothing_in look focus ns f is x e = absurd is

pub keeps_same : (look : ℕ → Look) (focus : Option ℕ) (fs gs : List StepFilter) (ns : List ℕ) → Thins [] fs gs → all_filtered look focus gs ns ≡ all_filtered look focus fs ns
keeps_same look focus fs gs ns h = thinned look focus h ns (nothing_in look focus ns)
