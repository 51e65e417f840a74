-- Lives over twins: what they begin with, what rounds give them, and their lines.
use Rattle.std.proofs.Common.{◌≡◌, ℕ, ◌+◌, List, [], ◌∷◌, ◌++◌, map, length, Option, Some, None, refl, sym, ap, subst, ◌∙◌}
use Rattle.std.specs.Prelude.{drop, is_some, not, ◌||◌}
use Rattle.std.specs.Option.{option_map}
use Rattle.slot_check.specs.Sources.{Source}
use Rattle.widget_meaning.specs.OwnState.{OwnState}
use Rattle.widget_meaning.specs.Items.{Item}
use Rattle.widget_meaning.specs.Alone.{alone}
use Rattle.post_rounds.specs.declared.posts.Post.{Post}
use Rattle.post_rounds.specs.News.{news}
use Rattle.life_laws.specs.Fed.{Fed, state, posts_of, fresh_of, fresh, event_of, fed_on, round_from, round, AreQuiet, IsQuiet, RoundsTo, ended, again}
use Rattle.place_laws.specs.Bare.{bare_content, bare_own}
use Rattle.place_laws.proofs.Alone.{alone_bare}
use Rattle.page_plan.specs.Pages.{root_of, roots}
use Rattle.page_check.specs.Runs.{SlotRun}
use Rattle.slot_lives.specs.Lives.{Life}
use Rattle.slot_lives.specs.Lines.{life_line}
use Rattle.slot_lives.specs.Ends.{life_name, Begins, accepted, broken, IsLine, ran, refused, end_of, AllBegin, no_life, one_life, AreLines, no_line, one_line, AreEnded, no_end, one_end, some_refused}
use Rattle.slot_lives.specs.EndLaws.{IsEnd, by_itself, not_accepted}
use Rattle.slot_lives.proofs.Alike.{AreAlike}
use Rattle.slot_lives.proofs.Alike as lives
use Rattle.slot_lives.proofs.OneOutcome.{line_once}
use Rattle.page_check.proofs.OneWidget.{never_refused}
use Rattle.slot_lives.specs.Tidied.{AreTidied, run_over, life_over}
use Rattle.slot_lives.proofs.Twins.{AllTwins, all_back, twins, refused_twin, widget_twin, one_widget}

-- ## What is seen of an own state does not hang on places

abbrev pub bare_end : Option OwnState → Option OwnState
bare_end e = option_map bare_own e

abbrev pub bare_fed : Fed → Fed
bare_fed f = record f { content = bare_content f.content }

abbrev pub bare_feed : Option Fed → Option Fed
bare_feed f = option_map bare_fed f

state_bare : (f : Fed) → state (bare_fed f) ≡ bare_own (state f)
state_bare f = alone_bare f.content f.grant f.items

pub end_bare : (f : Option Fed) → end_of (bare_feed f) ≡ bare_end (end_of f)
end_bare None = refl
end_bare (Some f) = ap Some (state_bare f)

root_bare : (name : List ℕ) (e : Option OwnState) → root_of name (bare_end e) ≡ root_of name e
root_bare name None = refl
root_bare name (Some o) = refl

pub same_root : (name : List ℕ) (e f : Option OwnState) → bare_end e ≡ bare_end f → root_of name e ≡ root_of name f
same_root name e f same = sym (root_bare name e) ∙ (ap (root_of name) same ∙ root_bare name f)

roots_bare : (names : List (List ℕ)) (es : List (Option OwnState)) → roots names (map bare_end es) ≡ roots names es
roots_bare [] es = refl
roots_bare (n ∷ ns) [] = refl
roots_bare (n ∷ ns) (e ∷ es) = λ i. root_bare n e i ∷ roots_bare ns es i

pub same_roots : (names : List (List ℕ)) (es fs : List (Option OwnState)) → map bare_end es ≡ map bare_end fs → roots names es ≡ roots names fs
same_roots names es fs same = sym (roots_bare names es) ∙ (ap (roots names) same ∙ roots_bare names fs)

some_bare : (e : Option OwnState) → is_some (bare_end e) ≡ is_some e
some_bare None = refl
some_bare (Some o) = refl

refused_bare : (es : List (Option OwnState)) → some_refused (map bare_end es) ≡ some_refused es
refused_bare [] = refl
refused_bare (e ∷ es) = λ i. not (some_bare e i) || refused_bare es i

pub same_refused : (es fs : List (Option OwnState)) → map bare_end es ≡ map bare_end fs → some_refused es ≡ some_refused fs
same_refused es fs same = sym (refused_bare es) ∙ (ap some_refused same ∙ refused_bare fs)

-- ## Rounds

fresh_bare : (f : Option Fed) → fresh_of (bare_feed f) ≡ fresh_of f
fresh_bare None = refl
fresh_bare (Some f) = ap (λ o. drop f.told (posts_of o)) (state_bare f)

all_fresh : (fs : List (Option Fed)) → fresh (map bare_feed fs) ≡ fresh fs
all_fresh [] = refl
all_fresh (f ∷ fs) = λ i. fresh_bare f i ∷ all_fresh fs i

fed_bare : (vs : List (List ℕ)) (f : Option Fed) → option_map (fed_on vs) (bare_feed f) ≡ bare_feed (option_map (fed_on vs) f)
fed_bare vs None = refl
fed_bare vs (Some f) = λ i. Some (record { content = bare_content f.content; grant = f.grant; items = f.items ++ map event_of vs; told = f.told + length (fresh_bare (Some f) i) })

head : (x y : Option Fed) (xs ys : List (Option Fed)) → x ∷ xs ≡ y ∷ ys → x ≡ y
head x y xs ys e = cc

tail : (x y : Option Fed) (xs ys : List (Option Fed)) → x ∷ xs ≡ y ∷ ys → xs ≡ ys
tail x y xs ys e = cc

module _ (channels : List (ℕ × ℕ)) (names : List (List ℕ)) where
  from_bare : (posts : List (List Post)) (w : ℕ) (fs : List (Option Fed)) → round_from channels names posts w (map bare_feed fs) ≡ map bare_feed (round_from channels names posts w fs)
  from_bare posts w [] = refl
  from_bare posts w (f ∷ fs) = λ i. fed_bare (news channels names posts w) f i ∷ from_bare posts (w + 1) fs i

  round_bare : (fs : List (Option Fed)) → round channels names (map bare_feed fs) ≡ map bare_feed (round channels names fs)
  round_bare fs = ap (λ (ps : List (List Post)). round_from channels names ps 0 (map bare_feed fs)) (all_fresh fs) ∙ from_bare (fresh fs) 0 fs

  quiet_from : (posts : List (List Post)) (w : ℕ) (fs gs : List (Option Fed)) → map bare_feed fs ≡ map bare_feed gs → AreQuiet channels names posts w fs → AreQuiet channels names posts w gs
  quiet_from posts w [] [] same q = tt
  quiet_from posts w [] (g ∷ gs) same q = absurd (let e = same in cc)
  quiet_from posts w (f ∷ fs) [] same q = absurd (let e = same in cc)
  quiet_from posts w (None ∷ fs) (None ∷ gs) same q = quiet_from posts (w + 1) fs gs (tail _ _ _ _ same) q
  quiet_from posts w (None ∷ fs) (Some g ∷ gs) same q = absurd (let e = head _ _ _ _ same in cc)
  quiet_from posts w (Some f ∷ fs) (None ∷ gs) same q = absurd (let e = head _ _ _ _ same in cc)
  quiet_from posts w (Some f ∷ fs) (Some g ∷ gs) same q = (q.0, quiet_from posts (w + 1) fs gs (tail _ _ _ _ same) q.1)

  same_fresh : (fs gs : List (Option Fed)) → map bare_feed fs ≡ map bare_feed gs → fresh fs ≡ fresh gs
  same_fresh fs gs same = sym (all_fresh fs) ∙ (ap fresh same ∙ all_fresh gs)

  quiet : (fs gs : List (Option Fed)) → map bare_feed fs ≡ map bare_feed gs → IsQuiet channels names fs → IsQuiet channels names gs
  quiet fs gs same q = subst (λ (ps : List (List Post)). AreQuiet channels names ps 0 gs) (same_fresh fs gs same) (quiet_from (fresh fs) 0 fs gs same q)

  -- rounds go on as those of the others do
  pub record Rounds (gs hs : List (Option Fed)) : Type 0 where
    pub fed : List (Option Fed)
    pub rounds : RoundsTo channels names gs fed
    pub same : map bare_feed hs ≡ map bare_feed fed

  pub rounds_alike : (fs hs gs : List (Option Fed)) → map bare_feed fs ≡ map bare_feed gs → RoundsTo channels names fs hs → Rounds gs hs
  rounds_alike fs hs gs same (ended q) = record { fed = gs; rounds = ended (quiet fs gs same q); same = same }
  rounds_alike fs hs gs same (again loud rest) =
      let next = rounds_alike (round channels names fs) hs (round channels names gs) (sym (round_bare fs) ∙ (ap (round channels names) same ∙ round_bare gs)) rest in
      record { fed = next.fed; rounds = again (λ q. loud (quiet gs fs (sym same) q)) next.rounds; same = next.same }

-- ## Runs and lives

-- the second run has twins of the libraries of the first
pub record AreTwins (r q : SlotRun) : Type 0 where
  pub libs : AllTwins r.slot.libs q.slot.libs
  pub is : q ≡ run_over q.slot.libs r

-- a life over twins of the libraries of another
pub record AreTwinLives (l m : Life SlotRun) : Type 0 where
  pub runs : AreTwins l.runs m.runs
  pub items : l.items ≡ m.items
  pub until : l.until ≡ m.until

record Begun (m : Life SlotRun) (f : Option Fed) : Type 0 where
  fed : Option Fed
  begins : Begins m fed
  same : bare_feed f ≡ bare_feed fed

begins_over : (l : Life SlotRun) (libs : List Source) (f : Option Fed) → AllTwins l.runs.slot.libs libs → Begins l f → Begun (life_over libs l) f
begins_over l libs f ts (accepted {content = x} has) =
    let other = widget_twin l.runs.slot libs x ts has in
    record {
      fed = Some (record { content = other.content; grant = l.runs.fuel; items = l.items; told = 0 });
      begins = accepted other.has;
      same = ap (λ c. Some (record { content = c; grant = l.runs.fuel; items = l.items; told = 0 })) (sym other.bare);
    }
begins_over l libs f ts (broken {rule = r} {file = a} {at = n} first) = record { fed = None; begins = broken (refused_twin l.runs.slot libs r a n ts first); same = refl }

-- a life over twins is known by the other one
twin_is : (l m : Life SlotRun) → AreTwinLives l m → m ≡ life_over m.runs.slot.libs l
twin_is l m t = λ i. record { runs = t.runs.is i; items = sym t.items i; until = sym t.until i }

by_twin : (P : Life SlotRun → Type 0) (l m : Life SlotRun) → AreTwinLives l m → P (life_over m.runs.slot.libs l) → P m
by_twin P l m t p = subst P (sym (twin_is l m t)) p

begins_twin : (l m : Life SlotRun) (f : Option Fed) → AreTwinLives l m → Begins l f → Begun m f
begins_twin l m f t b = by_twin (λ x. Begun x f) l m t (begins_over l m.runs.slot.libs f t.runs.libs b)

-- ## Lines

some_state : (x y : OwnState) → Some x ≡ Some y → x ≡ y
some_state x y e = cc

line_over : (l : Life SlotRun) (libs : List Source) (e f : Option OwnState) (line : List ℕ) → AllTwins l.runs.slot.libs libs → bare_end e ≡ bare_end f → IsLine l e line → IsLine (life_over libs l) f line
line_over l libs e None line ts same (ran {own = x}) = absurd (let q = same in cc)
line_over l libs e (Some y) line ts same (ran {own = x}) =
    subst (IsLine (life_over libs l) (Some y)) (sym (ap (life_line l.runs.slot.name l.until) (some_state (bare_own x) (bare_own y) same))) ran
line_over l libs e None line ts same (refused {rule = r} {file = a} {at = n} first) = refused (refused_twin l.runs.slot libs r a n ts first)
line_over l libs e (Some y) line ts same (refused first) = absurd (let q = same in cc)

pub line_twin : (l m : Life SlotRun) (e f : Option OwnState) (line : List ℕ) → AreTwinLives l m → bare_end e ≡ bare_end f → IsLine l e line → IsLine m f line
line_twin l m e f line t same is = by_twin (λ x. IsLine x f line) l m t (line_over l m.runs.slot.libs e f line t.runs.libs same is)

name_twin : (l m : Life SlotRun) → AreTwinLives l m → life_name m ≡ life_name l
name_twin l m t = ap life_name (twin_is l m t)

-- ## What slots come to

pub same_end : (run : SlotRun) (libs : List Source) (items : List Item) (e f : Option OwnState) → AllTwins run.slot.libs libs → IsEnd run items e → IsEnd (run_over libs run) items f → bare_end e ≡ bare_end f
same_end run libs items e f ts (by_itself {content = x} has) (by_itself {content = y} also) =
    ap Some (sym (alone_bare x run.fuel items) ∙ (ap (λ c. alone c run.fuel items) (one_widget run.slot libs x y ts has also) ∙ alone_bare y run.fuel items))
same_end run libs items e f ts (by_itself {content = x} has) (not_accepted {rule = r} {file = a} {at = n} first) =
    absurd (never_refused run.slot x r a n has (refused_twin (run_over libs run).slot run.slot.libs r a n (all_back run.slot.libs libs ts) first))
same_end run libs items e f ts (not_accepted {rule = r} {file = a} {at = n} first) (by_itself {content = y} also) =
    absurd (never_refused (run_over libs run).slot y r a n also (refused_twin run.slot libs r a n ts first))
same_end run libs items e f ts (not_accepted first) (not_accepted other) = refl

pub same_line : (l : Life SlotRun) (libs : List Source) (items : List Item) (e f : Option OwnState) (a b : List ℕ) → AreTidied l.runs.slot.libs libs → IsEnd l.runs items e → IsEnd (run_over libs l.runs) items f → IsLine l e a → IsLine (life_over libs l) f b → a ≡ b
same_line l libs items e f a b t x y line other =
    let ts = twins l.runs.slot.libs libs t in
    line_once (life_over libs l) f f a b refl (line_over l libs e f a ts (same_end l.runs libs items e f ts x y) line) other

pub same_subtree : (run : SlotRun) (libs : List Source) (items : List Item) (e f : Option OwnState) → AreTidied run.slot.libs libs → IsEnd run items e → IsEnd (run_over libs run) items f → root_of run.slot.name e ≡ root_of run.slot.name f
same_subtree run libs items e f t x y = same_root run.slot.name e f (same_end run libs items e f (twins run.slot.libs libs t) x y)

-- ## Many lives

abbrev pub Twins : List (Life SlotRun) → List (Life SlotRun) → Type 0
Twins = AreAlike AreTwins

pub record AllBegun (ms : List (Life SlotRun)) (fs : List (Option Fed)) : Type 0 where
  pub fed : List (Option Fed)
  pub begin : AllBegin ms fed
  pub same : map bare_feed fs ≡ map bare_feed fed

pub begin_alike : (ls ms : List (Life SlotRun)) (fs : List (Option Fed)) → Twins ls ms → AllBegin ls fs → AllBegun ms fs
begin_alike ls ms fs lives.no_life no_life = record { fed = []; begin = no_life; same = refl }
begin_alike ls ms fs (lives.one_life {l = l} {m = m} {ls = ls1} {ms = ms1} here items until rest) (one_life {fed = f} {feds = fs1} b bs) =
    let one = begins_twin l m f (record { runs = here; items = items; until = until }) b in
    let others = begin_alike ls1 ms1 fs1 rest bs in
    record { fed = one.fed ∷ others.fed; begin = one_life one.begins others.begin; same = λ i. one.same i ∷ others.same i }

pub names_alike : (ls ms : List (Life SlotRun)) → Twins ls ms → map life_name ls ≡ map life_name ms
names_alike ls ms lives.no_life = refl
names_alike ls ms (lives.one_life {l = l} {m = m} {ls = ls1} {ms = ms1} here items until rest) =
    λ i. sym (name_twin l m (record { runs = here; items = items; until = until })) i ∷ names_alike ls1 ms1 rest i

head_end : (x y : Option OwnState) (xs ys : List (Option OwnState)) → x ∷ xs ≡ y ∷ ys → x ≡ y
head_end x y xs ys e = cc

tail_end : (x y : Option OwnState) (xs ys : List (Option OwnState)) → x ∷ xs ≡ y ∷ ys → xs ≡ ys
tail_end x y xs ys e = cc

pub lines_alike : (ls ms : List (Life SlotRun)) (es fs : List (Option OwnState)) (text : List ℕ) → Twins ls ms → map bare_end es ≡ map bare_end fs → AreLines ls es text → AreLines ms fs text
lines_alike ls ms es [] text lives.no_life same no_line = no_line
lines_alike ls ms es (f ∷ fs) text lives.no_life same no_line = absurd (let e = same in cc)
lines_alike ls ms es [] text (lives.one_life here items until rest) same (one_line is others) = absurd (let e = same in cc)
lines_alike ls ms es (f ∷ fs) text (lives.one_life {l = l} {m = m} {ls = ls1} {ms = ms1} here items until rest) same (one_line {end = e} {line = x} {ends = es1} {lines = xs} is others) =
    one_line (line_twin l m e f x (record { runs = here; items = items; until = until }) (head_end _ _ _ _ same) is) (lines_alike ls1 ms1 es1 fs xs rest (tail_end _ _ _ _ same) others)

pub record Ended (ms : List (Life SlotRun)) (es : List (Option OwnState)) (text : List ℕ) : Type 0 where
  pub ends : List (Option OwnState)
  pub ended : AreEnded ms ends text
  pub same : map bare_end es ≡ map bare_end ends

pub ended_alike : (ls ms : List (Life SlotRun)) (es : List (Option OwnState)) (text : List ℕ) → Twins ls ms → AreEnded ls es text → Ended ms es text
ended_alike ls ms es text lives.no_life no_end = record { ends = []; ended = no_end; same = refl }
ended_alike ls ms es text (lives.one_life {l = l} {m = m} {ls = ls1} {ms = ms1} here items until rest) (one_end {fed = f} {line = x} {ends = es1} {lines = xs} b is others) =
    let t : AreTwinLives l m = record { runs = here; items = items; until = until } in
    let one = begins_twin l m f t b in
    let same : bare_end (end_of f) ≡ bare_end (end_of one.fed) = sym (end_bare f) ∙ (ap end_of one.same ∙ end_bare one.fed) in
    let next = ended_alike ls1 ms1 es1 xs rest others in
    record { ends = end_of one.fed ∷ next.ends; ended = one_end one.begins (line_twin l m (end_of f) (end_of one.fed) x t same is) next.ended; same = λ i. same i ∷ next.same i }
