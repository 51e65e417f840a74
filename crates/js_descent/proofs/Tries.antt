-- `try` with what catches.
use Rattle.std.proofs.Common.{◌≡◌, ℕ, suc, ◌+◌, ◌<◌, ◌≤◌, List, [], ◌∷◌, None, refl, ap, sym, subst, ◌∙◌, length, arith}
use Rattle.std.specs.Prelude.{Result, All, ◌≢◌}
use Rattle.js_tree.specs.declared.nodes.StmtId.{StmtId}
use Rattle.js_tree.specs.Plain.{StmtAt, Try, Stmts, NoStmts, Catch, NoCatch, CatchAs, NoBlock, SomeBlock}
use Rattle.js_tree.specs.Forest.{Forest, Keeps, IsStmt, stmts_at}
use Rattle.js_grammar.specs.declared.Sign.{Sign}
use Rattle.js_grammar.specs.declared.Sign.TheVariants as sign
use Rattle.js_grammar.specs.Grammar.{Token, Lexeme}
use Rattle.js_grammar.specs.Machine.{Frame, Step, step, Wants, Did, Statement, InBlock, BlockAt, AfterTry, CatchOpen, CatchName, CatchClose, AfterCatch, TryBlock, CatchBlock, FinallyBlock}
use Rattle.js_cursor.specs.declared.refusal.Refusal.{Refusal}
use Rattle.js_cursor.specs.declared.refusal.Refusal.TheVariants as refusal
use Rattle.js_cursor.specs.Reads.{goes, lexeme_at, Next, IsOther, Refuses, MadeStmt}
use Rattle.js_descent.specs.Rows.{IsReady, ReadsOne}
use Rattle.js_descent.specs.Walks.{OnlyBlock, ReadsBlock, ReadsCaught}
use Rattle.js_cursor.proofs.Reading.{take_one, take_to, refuse_one, same_one}
use Rattle.js_descent.proofs.Joins.{keeps_then, refuses_before}
use Rattle.js_descent.proofs.Chain.{Chain, chain_start, chain_take, chain_refused, chain_other, chain_deep}
use Rattle.js_descent.proofs.Steps.{made_of, only_block}
use Rattle.js_descent.proofs.Lists.{stmts_more_kept, stmts_kept_all}

no_open : (d : ℕ) (w : Lexeme) (ss : Stmts) (k : List Frame) (s : Sign) (x : Lexeme) → s ≢ sign.Open → ◌≡◌ {A = Step} (step (Wants (CatchOpen d w ss ∷ k)) (s, x)) None
no_open d w ss k sign.Open x p = absurd (p refl)
no_open d w ss k _ x p = refl

no_name : (d : ℕ) (w : Lexeme) (ss : Stmts) (k : List Frame) (s : Sign) (x : Lexeme) → s ≢ sign.Name → ◌≡◌ {A = Step} (step (Wants (CatchName d w ss ∷ k)) (s, x)) None
no_name d w ss k sign.Name x p = absurd (p refl)
no_name d w ss k _ x p = refl

no_close : (d : ℕ) (w : Lexeme) (ss : Stmts) (y : Lexeme) (k : List Frame) (s : Sign) (x : Lexeme) → s ≢ sign.Close → ◌≡◌ {A = Step} (step (Wants (CatchClose d w ss y ∷ k)) (s, x)) None
no_close d w ss y k sign.Close x p = absurd (p refl)
no_close d w ss y k _ x p = refl

no_try : (d : ℕ) (w : Lexeme) (ss : Stmts) (k : List Frame) (s : Sign) (x : Lexeme) → s ≢ sign.Catch → s ≢ sign.Finally → ◌≡◌ {A = Step} (step (Wants (AfterTry d w ss ∷ k)) (s, x)) None
no_try d w ss k sign.Catch x p q = absurd (p refl)
no_try d w ss k sign.Finally x p q = absurd (q refl)
no_try d w ss k _ x p q = refl

no_finally : (d : ℕ) (w : Lexeme) (ss : Stmts) (y : Lexeme) (cs : Stmts) (k : List Frame) (s : Sign) (x : Lexeme) → s ≢ sign.Finally → step (Wants (AfterCatch d w ss y cs ∷ k)) (s, x) ≡ step (Did (StmtAt w.at (y.at ∷ []) (Try ss (CatchAs y.text cs) NoBlock)) k) (s, x)
no_finally d w ss y cs k sign.Finally x p = absurd (p refl)
no_finally d w ss y cs k _ x p = refl

only_caught : (d : ℕ) (w : Lexeme) (ss : Stmts) (x : Lexeme) → OnlyBlock (CatchBlock d w ss x)
only_caught d w ss x = only_block (CatchBlock d w ss x) (λ d bs k. refl) (λ bs k s. refl)

only_tried : (d : ℕ) (w : Lexeme) → OnlyBlock (TryBlock d w)
only_tried d w = only_block (TryBlock d w) (λ d bs k. refl) (λ bs k s. refl)

only_last : (w : Lexeme) (names : List ℕ) (ss : Stmts) (c : Catch) → OnlyBlock (FinallyBlock w names ss c)
only_last w names ss c = only_block (FinallyBlock w names ss c) (λ d bs k. refl) (λ bs k s. refl)

-- ## After `catch`

module _ (ts : List Token) (at d : ℕ) (a : Forest) (ready : IsReady ts at d a) where
  module _ (w : Lexeme) (ss : Stmts) where
    pub caught_start : Chain 0 ts (λ k. Wants (CatchOpen d w ss ∷ k)) (λ k. Wants (CatchOpen d w ss ∷ k)) at at a a
    caught_start = chain_start ts (λ k. Wants (CatchOpen d w ss ∷ k)) at a ready.in_text

    pub caught_unopened : IsOther ts at sign.Open → Refuses (λ k. Wants (CatchOpen d w ss ∷ k)) ts at (refusal.Syntax at)
    caught_unopened other = chain_other caught_start sign.Open other (λ k s x p. no_open d w ss k s x p)

    module _ (here : Next ts at sign.Open) where
      pub caught_deep : d ≡ 200 → Refuses (λ k. Wants (CatchOpen d w ss ∷ k)) ts at (refusal.TooDeep at)
      caught_deep is = chain_deep caught_start (λ k. Wants (CatchName d w ss ∷ k)) (suc d) sign.Open here (λ k. refl) (omega (arith, is))

      module _ (deep : suc d ≤ 200) (name : ℕ) (to : name ≡ at + 1) (inside : name < length ts) where
        caught_named : Chain 1 ts (λ k. Wants (CatchOpen d w ss ∷ k)) (λ k. Wants (CatchName d w ss ∷ k)) at name a a
        caught_named = chain_take caught_start (λ k. Wants (CatchName d w ss ∷ k)) (suc d) name sign.Open here (λ k. refl) deep to inside

        pub caught_unnamed : IsOther ts name sign.Name → Refuses (λ k. Wants (CatchOpen d w ss ∷ k)) ts at (refusal.Syntax name)
        caught_unnamed other = chain_other caught_named sign.Name other (λ k s x p. no_name d w ss k s x p)

        module _ (is_name : Next ts name sign.Name) (close : ℕ) (to2 : close ≡ name + 1) (inside2 : close < length ts) where
          caught_closed : Chain 2 ts (λ k. Wants (CatchOpen d w ss ∷ k)) (λ k. Wants (CatchClose d w ss (lexeme_at ts name) ∷ k)) at close a a
          caught_closed = chain_take caught_named (λ k. Wants (CatchClose d w ss (lexeme_at ts name) ∷ k)) (suc d) close sign.Name is_name (λ k. refl) deep to2 inside2

          pub caught_unclosed : IsOther ts close sign.Close → Refuses (λ k. Wants (CatchOpen d w ss ∷ k)) ts at (refusal.Syntax close)
          caught_unclosed other = chain_other caught_closed sign.Close other (λ k s x p. no_close d w ss (lexeme_at ts name) k s x p)

          module _ (is_close : Next ts close sign.Close) (first : ℕ) (to3 : first ≡ close + 1) (inside3 : first < length ts) where
            caught_block : Chain 3 ts (λ k. Wants (CatchOpen d w ss ∷ k)) (λ k. Wants (BlockAt d ∷ CatchBlock d w ss (lexeme_at ts name) ∷ k)) at first a a
            caught_block = chain_take caught_closed (λ k. Wants (BlockAt d ∷ CatchBlock d w ss (lexeme_at ts name) ∷ k)) (suc d) first sign.Close is_close (λ k. refl) deep to3 inside3

            pub caught_refused : (e : Refusal) → ((f : Frame) → OnlyBlock f → Refuses (λ k. Wants (BlockAt d ∷ f ∷ k)) ts first e) → Refuses (λ k. Wants (CatchOpen d w ss ∷ k)) ts at e
            caught_refused e h = chain_refused caught_block (λ k. Wants (BlockAt d ∷ CatchBlock d w ss (lexeme_at ts name) ∷ k)) (λ k. k) e (λ k. refl) (h (CatchBlock d w ss (lexeme_at ts name)) (only_caught d w ss (lexeme_at ts name)))

            pub caught_goes : (b : Forest) (ids : List StmtId) (next : ℕ) → ReadsBlock d ts first a b ids next → (k : List Frame) → goes ts (Wants (CatchOpen d w ss ∷ k)) at ≡ goes ts (Wants (AfterCatch d w ss (lexeme_at ts name) (stmts_at b ids) ∷ k)) next
            caught_goes b ids next h k = caught_block.leads k ∙ h.leads (CatchBlock d w ss (lexeme_at ts name) ∷ k)
                ∙ take_to ts (Wants (InBlock (suc d) (stmts_at b ids) ∷ CatchBlock d w ss (lexeme_at ts name) ∷ k)) (Wants (AfterCatch d w ss (lexeme_at ts name) (stmts_at b ids) ∷ k)) h.last next (suc d) sign.CloseBrace h.mark refl h.deep h.to

  pub caught_reads : Next ts at sign.Open → suc d ≤ 200 → (name : ℕ) → name ≡ at + 1 → name < length ts → Next ts name sign.Name → (close : ℕ) → close ≡ name + 1 → close < length ts → Next ts close sign.Close → (first : ℕ) → first ≡ close + 1 → first < length ts → (b : Forest) (ids : List StmtId) (next : ℕ) → ReadsBlock d ts first a b ids next → ReadsCaught d ts at a b name ids next
  caught_reads here deep name to inside is_name close to2 inside2 is_close first to3 inside3 b ids next h = record {
    walks = record { in_text = h.walks.in_text; later = omega (arith, h.walks.later, to, to2, to3); few = omega (arith, h.walks.few, to, to2, to3); kept = h.walks.kept };
    named = subst (λ n. n < length ts) to2 inside2;
    are_in = h.are_in;
    leads = λ w ss k. caught_goes w ss here deep name to inside is_name close to2 inside2 is_close first to3 inside3 b ids next h k;
  }

-- ## `try`

module _ (ts : List Token) (at d : ℕ) (a : Forest) (ready : IsReady ts at d a) (here : Next ts at sign.Try) where
  try_goes : (k : List Frame) → goes ts (Wants (Statement d ∷ k)) at ≡ goes ts (Wants (BlockAt d ∷ TryBlock d (lexeme_at ts at) ∷ k)) (at + 1)
  try_goes k = take_one ts (Wants (Statement d ∷ k)) (Wants (BlockAt d ∷ TryBlock d (lexeme_at ts at) ∷ k)) at d sign.Try here refl ready.shallow

  pub try_refused : (e : Refusal) → ((f : Frame) → OnlyBlock f → Refuses (λ k. Wants (BlockAt d ∷ f ∷ k)) ts (at + 1) e) → Refuses (λ k. Wants (Statement d ∷ k)) ts at e
  try_refused e h = refuses_before _ (λ k. Wants (BlockAt d ∷ TryBlock d (lexeme_at ts at) ∷ k)) (λ k. k) ts at (at + 1) e try_goes (h (TryBlock d (lexeme_at ts at)) (only_tried d (lexeme_at ts at)))

  module _ (b : Forest) (ids : List StmtId) (first : ℕ) (body : ReadsBlock d ts (at + 1) a b ids first) where
    tried : (k : List Frame) → goes ts (Wants (Statement d ∷ k)) at ≡ goes ts (Wants (AfterTry d (lexeme_at ts at) (stmts_at b ids) ∷ k)) first
    tried k = try_goes k ∙ body.leads (TryBlock d (lexeme_at ts at) ∷ k)
        ∙ take_to ts (Wants (InBlock (suc d) (stmts_at b ids) ∷ TryBlock d (lexeme_at ts at) ∷ k)) (Wants (AfterTry d (lexeme_at ts at) (stmts_at b ids) ∷ k)) body.last first (suc d) sign.CloseBrace body.mark refl body.deep body.to

    pub try_alone : (s : Sign) → Next ts first s → s ≢ sign.Catch → s ≢ sign.Finally → Refuses (λ k. Wants (Statement d ∷ k)) ts at (refusal.Syntax first)
    try_alone s next p q = (body.walks.in_text, λ k. tried k ∙ refuse_one ts (Wants (AfterTry d (lexeme_at ts at) (stmts_at b ids) ∷ k)) first s next (no_try d (lexeme_at ts at) (stmts_at b ids) k s (lexeme_at ts first) p q))

    try_kept : (c : Forest) → Keeps b c → stmts_at b ids ≡ stmts_at c ids
    try_kept c kept = sym (stmts_more_kept b c NoStmts ids (λ i x lt. body.are_in i x lt) kept)

    -- with `finally` alone
    module _ (final : Next ts first sign.Finally) where
      final_goes : (k : List Frame) → goes ts (Wants (Statement d ∷ k)) at ≡ goes ts (Wants (BlockAt d ∷ FinallyBlock (lexeme_at ts at) [] (stmts_at b ids) NoCatch ∷ k)) (first + 1)
      final_goes k = tried k ∙ take_one ts (Wants (AfterTry d (lexeme_at ts at) (stmts_at b ids) ∷ k)) (Wants (BlockAt d ∷ FinallyBlock (lexeme_at ts at) [] (stmts_at b ids) NoCatch ∷ k)) first d sign.Finally final refl ready.shallow

      pub final_refused : (e : Refusal) → ((f : Frame) → OnlyBlock f → Refuses (λ k. Wants (BlockAt d ∷ f ∷ k)) ts (first + 1) e) → Refuses (λ k. Wants (Statement d ∷ k)) ts at e
      final_refused e h = refuses_before _ (λ k. Wants (BlockAt d ∷ FinallyBlock (lexeme_at ts at) [] (stmts_at b ids) NoCatch ∷ k)) (λ k. k) ts at (first + 1) e final_goes (h (FinallyBlock (lexeme_at ts at) [] (stmts_at b ids) NoCatch) (only_last (lexeme_at ts at) [] (stmts_at b ids) NoCatch))

      pub final_parts : (c : Forest) (last : List StmtId) (next : ℕ) → ReadsBlock d ts (first + 1) b c last next → All (IsStmt c) ids × Unit {0} × All (IsStmt c) last
      final_parts c last next h = (stmts_kept_all b c ids body.are_in h.walks.kept, tt, h.are_in)

      pub final_ends : (c g : Forest) (last : List StmtId) (next : ℕ) (result : Result (StmtId × ℕ) Refusal) → ReadsBlock d ts (first + 1) b c last next → MadeStmt c g (StmtAt (lexeme_at ts at).at [] (Try (stmts_at c ids) NoCatch (SomeBlock (stmts_at c last)))) next result → ReadsOne (λ k. Wants (Statement d ∷ k)) ts at a g result
      final_ends c g last next result h m =
          let w = lexeme_at ts at in
          made_of ts at next d a c g (StmtAt w.at [] (Try (stmts_at c ids) NoCatch (SomeBlock (stmts_at c last)))) result
          (record { in_text = h.walks.in_text; later = omega (arith, body.walks.later, h.walks.later); few = omega (arith, body.walks.few, h.walks.few); kept = keeps_then a b c body.walks.kept h.walks.kept })
          (omega (arith, body.walks.later, h.walks.later))
          (λ k. final_goes k ∙ h.leads (FinallyBlock w [] (stmts_at b ids) NoCatch ∷ k)
          ∙ take_to ts (Wants (InBlock (suc d) (stmts_at c last) ∷ FinallyBlock w [] (stmts_at b ids) NoCatch ∷ k)) (Did (StmtAt w.at [] (Try (stmts_at b ids) NoCatch (SomeBlock (stmts_at c last)))) k) h.last next (suc d) sign.CloseBrace h.mark refl h.deep h.to
          ∙ ap (λ bs. goes ts (Did (StmtAt w.at [] (Try bs NoCatch (SomeBlock (stmts_at c last)))) k) next) (try_kept c h.walks.kept)) m

    -- with `catch`
    module _ (mark : Next ts first sign.Catch) where
      catch_goes : (k : List Frame) → goes ts (Wants (Statement d ∷ k)) at ≡ goes ts (Wants (CatchOpen d (lexeme_at ts at) (stmts_at b ids) ∷ k)) (first + 1)
      catch_goes k = tried k ∙ take_one ts (Wants (AfterTry d (lexeme_at ts at) (stmts_at b ids) ∷ k)) (Wants (CatchOpen d (lexeme_at ts at) (stmts_at b ids) ∷ k)) first d sign.Catch mark refl ready.shallow

      pub catch_refused : (e : Refusal) → ((w : Lexeme) (ss : Stmts) → Refuses (λ k. Wants (CatchOpen d w ss ∷ k)) ts (first + 1) e) → Refuses (λ k. Wants (Statement d ∷ k)) ts at e
      catch_refused e h = refuses_before _ (λ k. Wants (CatchOpen d (lexeme_at ts at) (stmts_at b ids) ∷ k)) (λ k. k) ts at (first + 1) e catch_goes (h (lexeme_at ts at) (stmts_at b ids))

      module _ (c : Forest) (name : ℕ) (caught : List StmtId) (end : ℕ) (read : ReadsCaught d ts (first + 1) b c name caught end) where
        catch_done : (k : List Frame) → goes ts (Wants (Statement d ∷ k)) at ≡ goes ts (Wants (AfterCatch d (lexeme_at ts at) (stmts_at c ids) (lexeme_at ts name) (stmts_at c caught) ∷ k)) end
        catch_done k = catch_goes k ∙ read.leads (lexeme_at ts at) (stmts_at b ids) k ∙ ap (λ bs. goes ts (Wants (AfterCatch d (lexeme_at ts at) bs (lexeme_at ts name) (stmts_at c caught) ∷ k)) end) (try_kept c read.walks.kept)

        pub catch_parts : All (IsStmt c) ids × All (IsStmt c) caught × Unit {0}
        catch_parts = (stmts_kept_all b c ids body.are_in read.walks.kept, read.are_in, tt)

        pub catch_ends : (text : List ℕ) → text ≡ (lexeme_at ts name).text → (g : Forest) (s : Sign) → Next ts end s → s ≢ sign.Finally → (result : Result (StmtId × ℕ) Refusal) → MadeStmt c g (StmtAt (lexeme_at ts at).at ((lexeme_at ts name).at ∷ []) (Try (stmts_at c ids) (CatchAs text (stmts_at c caught)) NoBlock)) end result → ReadsOne (λ k. Wants (Statement d ∷ k)) ts at a g result
        catch_ends text is g s next p result m =
            let w = lexeme_at ts at in
            let x = lexeme_at ts name in
            made_of ts at end d a c g (StmtAt w.at (x.at ∷ []) (Try (stmts_at c ids) (CatchAs x.text (stmts_at c caught)) NoBlock)) result
            (record { in_text = read.walks.in_text; later = omega (arith, body.walks.later, read.walks.later); few = omega (arith, body.walks.few, read.walks.few); kept = keeps_then a b c body.walks.kept read.walks.kept })
            (omega (arith, body.walks.later, read.walks.later))
            (λ k. catch_done k ∙ same_one ts (Wants (AfterCatch d w (stmts_at c ids) x (stmts_at c caught) ∷ k)) (Did (StmtAt w.at (x.at ∷ []) (Try (stmts_at c ids) (CatchAs x.text (stmts_at c caught)) NoBlock)) k) end s next (no_finally d w (stmts_at c ids) x (stmts_at c caught) k s (lexeme_at ts end) p))
            (subst (λ t. MadeStmt c g (StmtAt w.at (x.at ∷ []) (Try (stmts_at c ids) (CatchAs t (stmts_at c caught)) NoBlock)) end result) is m)

        module _ (final : Next ts end sign.Finally) where
          both_goes : (k : List Frame) → goes ts (Wants (Statement d ∷ k)) at ≡ goes ts (Wants (BlockAt d ∷ FinallyBlock (lexeme_at ts at) ((lexeme_at ts name).at ∷ []) (stmts_at c ids) (CatchAs (lexeme_at ts name).text (stmts_at c caught)) ∷ k)) (end + 1)
          both_goes k = catch_done k ∙ take_one ts (Wants (AfterCatch d (lexeme_at ts at) (stmts_at c ids) (lexeme_at ts name) (stmts_at c caught) ∷ k)) (Wants (BlockAt d ∷ FinallyBlock (lexeme_at ts at) ((lexeme_at ts name).at ∷ []) (stmts_at c ids) (CatchAs (lexeme_at ts name).text (stmts_at c caught)) ∷ k)) end d sign.Finally final refl ready.shallow

          pub both_refused : (e : Refusal) → ((f : Frame) → OnlyBlock f → Refuses (λ k. Wants (BlockAt d ∷ f ∷ k)) ts (end + 1) e) → Refuses (λ k. Wants (Statement d ∷ k)) ts at e
          both_refused e h = refuses_before _ (λ k. Wants (BlockAt d ∷ FinallyBlock (lexeme_at ts at) ((lexeme_at ts name).at ∷ []) (stmts_at c ids) (CatchAs (lexeme_at ts name).text (stmts_at c caught)) ∷ k)) (λ k. k) ts at (end + 1) e both_goes (h (FinallyBlock (lexeme_at ts at) ((lexeme_at ts name).at ∷ []) (stmts_at c ids) (CatchAs (lexeme_at ts name).text (stmts_at c caught))) (only_last (lexeme_at ts at) ((lexeme_at ts name).at ∷ []) (stmts_at c ids) (CatchAs (lexeme_at ts name).text (stmts_at c caught))))

          pub both_parts : (f : Forest) (last : List StmtId) (next : ℕ) → ReadsBlock d ts (end + 1) c f last next → All (IsStmt f) ids × All (IsStmt f) caught × All (IsStmt f) last
          both_parts f last next h = (stmts_kept_all b f ids body.are_in (keeps_then b c f read.walks.kept h.walks.kept), stmts_kept_all c f caught read.are_in h.walks.kept, h.are_in)

          pub both_ends : (text : List ℕ) → text ≡ (lexeme_at ts name).text → (f g : Forest) (last : List StmtId) (next : ℕ) (result : Result (StmtId × ℕ) Refusal) → ReadsBlock d ts (end + 1) c f last next → MadeStmt f g (StmtAt (lexeme_at ts at).at ((lexeme_at ts name).at ∷ []) (Try (stmts_at f ids) (CatchAs text (stmts_at f caught)) (SomeBlock (stmts_at f last)))) next result → ReadsOne (λ k. Wants (Statement d ∷ k)) ts at a g result
          both_ends text is f g last next result h m =
              let w = lexeme_at ts at in
              let x = lexeme_at ts name in
              let kept_c : Keeps a c = keeps_then a b c body.walks.kept read.walks.kept in
              let in_c : All (IsStmt c) ids = stmts_kept_all b c ids body.are_in read.walks.kept in
              let same : stmts_at c ids ≡ stmts_at f ids = sym (stmts_more_kept c f NoStmts ids (λ i y lt. in_c i y lt) h.walks.kept) in
              let same_caught : stmts_at c caught ≡ stmts_at f caught = sym (stmts_more_kept c f NoStmts caught (λ i y lt. read.are_in i y lt) h.walks.kept) in
              made_of ts at next d a f g (StmtAt w.at (x.at ∷ []) (Try (stmts_at f ids) (CatchAs x.text (stmts_at f caught)) (SomeBlock (stmts_at f last)))) result
              (record { in_text = h.walks.in_text; later = omega (arith, body.walks.later, read.walks.later, h.walks.later); few = omega (arith, body.walks.few, read.walks.few, h.walks.few); kept = keeps_then a c f kept_c h.walks.kept })
              (omega (arith, body.walks.later, read.walks.later, h.walks.later))
              (λ k. both_goes k ∙ h.leads (FinallyBlock w (x.at ∷ []) (stmts_at c ids) (CatchAs x.text (stmts_at c caught)) ∷ k)
              ∙ take_to ts (Wants (InBlock (suc d) (stmts_at f last) ∷ FinallyBlock w (x.at ∷ []) (stmts_at c ids) (CatchAs x.text (stmts_at c caught)) ∷ k)) (Did (StmtAt w.at (x.at ∷ []) (Try (stmts_at c ids) (CatchAs x.text (stmts_at c caught)) (SomeBlock (stmts_at f last)))) k) h.last next (suc d) sign.CloseBrace h.mark refl h.deep h.to
              ∙ ap (λ bs. goes ts (Did (StmtAt w.at (x.at ∷ []) (Try bs (CatchAs x.text (stmts_at c caught)) (SomeBlock (stmts_at f last)))) k) next) same
              ∙ ap (λ cs. goes ts (Did (StmtAt w.at (x.at ∷ []) (Try (stmts_at f ids) (CatchAs x.text cs) (SomeBlock (stmts_at f last)))) k) next) same_caught)
              (subst (λ t. MadeStmt f g (StmtAt w.at (x.at ∷ []) (Try (stmts_at f ids) (CatchAs t (stmts_at f caught)) (SomeBlock (stmts_at f last)))) next result) is m)
