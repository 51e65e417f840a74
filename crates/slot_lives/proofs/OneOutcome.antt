-- A page comes to one outcome.
use Rattle.std.proofs.Common.{◌≡◌, ℕ, List, [], ◌∷◌, ◌++◌, map, length, Option, Some, Bool, refl, sym, ap, subst, ◌∙◌}
use Rattle.code_units.specs.Places.{place_at as place}
use Rattle.plain_tree.specs.Trees.{PlainTrees}
use Rattle.page_output.specs.Printing.{Prints}
use Rattle.slot_lives.proofs.Forms.{has_form}
use Rattle.trace_text.specs.Report.{refused_life, page_line}
use Rattle.trace_reader.specs.Said.{Said}
use Rattle.manifest_reader.specs.Page.{Part}
use Rattle.slot_check.specs.Sources.{Source}
use Rattle.slot_check.proofs.Firsts.{first_once}
use Rattle.widget_meaning.specs.OwnState.{OwnState}
use Rattle.life_laws.specs.Fed.{Fed, RoundsTo}
use Rattle.life_laws.proofs.Ending.{one}
use Rattle.page_plan.specs.Pages.{roots, page_of}
use Rattle.page_check.specs.Runs.{SlotRun, pieces}
use Rattle.page_check.proofs.OneWidget.{widget_once, never_refused}
use Rattle.slot_lives.specs.Lives.{Life, ended_lives}
use Rattle.slot_lives.specs.Lines.{life_line}
use Rattle.slot_lives.specs.Ends.{run_name, life_name, Begins, accepted, broken, IsLine, ran, refused, end_of, AllBegin, no_life, one_life, AreLines, no_line, one_line, AreEnded, no_end, one_end, some_refused}
use Rattle.slot_lives.specs.Outcome.{all_lives, last_lives, ComeTo, Outcome, IsReport}

some_state : (x y : OwnState) → Some x ≡ Some y → x ≡ y
some_state x y e = cc

-- a life begins in one way
pub begin_once : (l : Life SlotRun) (f g : Option Fed) → Begins l f → Begins l g → f ≡ g
begin_once l f g (accepted {content = x} has) (accepted {content = y} also) =
    ap (λ c. Some (record { content = c; grant = l.runs.fuel; items = l.items; told = 0 })) (widget_once l.runs.slot x y has also)
begin_once l f g (accepted {content = x} has) (broken {rule = r} {file = a} {at = n} first) = absurd (never_refused l.runs.slot x r a n has first)
begin_once l f g (broken {rule = r} {file = a} {at = n} first) (accepted {content = x} has) = absurd (never_refused l.runs.slot x r a n has first)
begin_once l f g (broken first) (broken also) = refl

-- and has one line
pub line_once : (l : Life SlotRun) (e f : Option OwnState) (a b : List ℕ) → e ≡ f → IsLine l e a → IsLine l f b → a ≡ b
line_once l e f a b same (ran {own = x}) (ran {own = y}) = ap (life_line l.runs.slot.name l.until) (some_state x y same)
line_once l e f a b same (ran {own = x}) (refused first) = cc
line_once l e f a b same (refused first) (ran {own = y}) = cc
line_once l e f a b same (refused {rule = r} {file = x} {at = n} first) (refused {rule = q} {file = y} {at = k} also) =
    let one = first_once l.runs.slot r q x y n k first also in
    ap (λ z. refused_life l.runs.slot.name l.until x.name z (place x.bytes n)) one.rule
    ∙ ap (λ z. refused_life l.runs.slot.name l.until z.name q (place z.bytes n)) one.source
    ∙ ap (λ z. refused_life l.runs.slot.name l.until y.name q (place y.bytes z)) one.at

pub begins_once : (ls : List (Life SlotRun)) (fs gs : List (Option Fed)) → AllBegin ls fs → AllBegin ls gs → fs ≡ gs
begins_once ls fs gs no_life no_life = refl
begins_once ls fs gs (one_life {life = l} {fed = f} {lives = ls1} {feds = fs1} is rest) (one_life {fed = g} {feds = gs1} also others) =
    ap (λ x. x ∷ fs1) (begin_once l f g is also) ∙ ap (λ (xs : List (Option Fed)). g ∷ xs) (begins_once ls1 fs1 gs1 rest others)

head_state : (x y : Option OwnState) (xs ys : List (Option OwnState)) → x ∷ xs ≡ y ∷ ys → x ≡ y
head_state x y xs ys e = cc

tail_state : (x y : Option OwnState) (xs ys : List (Option OwnState)) → x ∷ xs ≡ y ∷ ys → xs ≡ ys
tail_state x y xs ys e = cc

pub lines_once : (ls : List (Life SlotRun)) (es fs : List (Option OwnState)) (a b : List ℕ) → es ≡ fs → AreLines ls es a → AreLines ls fs b → a ≡ b
lines_once ls es fs a b same no_line no_line = refl
lines_once ls es fs a b same (one_line {life = l} {end = e} {line = x} {lives = ls1} {ends = es1} {lines = xs} is rest) (one_line {end = f} {line = y} {ends = fs1} {lines = ys} also others) =
    let here : x ≡ y = line_once l e f x y (head_state e f es1 fs1 same) is also in
    let more : xs ≡ ys = lines_once ls1 es1 fs1 xs ys (tail_state e f es1 fs1 same) rest others in
    λ k. here k ++ more k

pub ended_once : (ls : List (Life SlotRun)) (es fs : List (Option OwnState)) (a b : List ℕ) → AreEnded ls es a → AreEnded ls fs b → (es ≡ fs) × (a ≡ b)
ended_once ls es fs a b no_end no_end = (refl, refl)
ended_once ls es fs a b (one_end {life = l} {fed = f} {line = x} {lives = ls1} {ends = es1} {lines = xs} begins is rest) (one_end {fed = g} {line = y} {ends = fs1} {lines = ys} begin also others) =
    let same : end_of f ≡ end_of g = ap end_of (begin_once l f g begins begin) in
    let here : x ≡ y = line_once l (end_of f) (end_of g) x y same is also in
    let more = ended_once ls1 es1 fs1 xs ys rest others in
    ((λ k. same k ∷ more.0 k), (λ k. here k ++ more.1 k))

pub come_once : (channels : List (ℕ × ℕ)) (ls : List (Life SlotRun)) (es fs : List (Option OwnState)) → ComeTo channels ls es → ComeTo channels ls fs → es ≡ fs
come_once channels ls es fs x y =
    let names : List (List ℕ) = map life_name ls in
    let begun : x.begun ≡ y.begun = begins_once ls x.begun y.begun x.begin y.begin in
    let fed : x.fed ≡ y.fed = one channels names y.begun x.fed y.fed (subst (λ bs. RoundsTo channels names bs x.fed) begun x.rounds) y.rounds in
    x.ends_are ∙ (ap (map end_of) fed ∙ sym y.ends_are)

module _ (channels : List (ℕ × ℕ)) (runs : List SlotRun) (files : List Source) (items : List Said) where
  pub outcome_once : (r q : Bool) (es fs : List (Option OwnState)) (a b : List ℕ) → Outcome channels runs files items r es a → Outcome channels runs files items q fs b → (r ≡ q) × ((es ≡ fs) × (a ≡ b))
  outcome_once r q es fs a b x y =
      let lasts : List (Life SlotRun) = last_lives files items 0 runs in
      let same : es ≡ fs = come_once channels lasts es fs x.lasts y.lasts in
      let here : x.last_text ≡ y.last_text = lines_once lasts es fs x.last_text y.last_text same x.last_lines y.last_lines in
      let before = ended_once (ended_lives (all_lives files items 0 runs) (length items)) x.before y.before x.ended_text y.ended_text x.ended y.ended in (
        x.flag ∙ ((λ k. some_refused (same k ++ before.0 k)) ∙ sym y.flag),
        (same, x.text ∙ ((λ k. here k ++ before.1 k) ∙ sym y.text)),
      )

  -- trees have one printed text
  printed_once : (trees : PlainTrees) (a b : List ℕ) → Prints trees [] a → Prints trees [] b → a ≡ b
  printed_once trees a b x y = x has_form.0 has_form.1 ∙ sym (y has_form.0 has_form.1)

  pub report_once : (parts : List Part) (r q : Bool) (a b : List ℕ) → IsReport parts channels runs files items r a → IsReport parts channels runs files items q b → (r ≡ q) × (a ≡ b)
  report_once parts r q a b x y =
      let all = outcome_once r q x.ends y.ends x.lines y.lines x.outcome y.outcome in
      let text : x.text ≡ y.text = printed_once (page_of (pieces parts) (roots (map run_name runs) y.ends)) x.text y.text
      (subst (λ (es : List (Option OwnState)). Prints (page_of (pieces parts) (roots (map run_name runs) es)) [] x.text) all.1.0 x.printed) y.printed in
      (all.0, x.whole ∙ ((λ k. all.1.1 k ++ page_line (text k)) ∙ sym y.whole))
