-- What jobs and frames hold is the widget's, and their ids are of its trees.
use Rattle.std.specs.Prelude.{◌≡◌, ◌<◌, ℕ, List, [], IfSome, length}
use Rattle.std.specs.List.{AllByRecursion}
use Rattle.js_tree.specs.Forest.{Forest, IsExpr, IsStmt}
use Rattle.js_tree.specs.declared.nodes.ExprId.{ExprId}
use Rattle.js_tree.specs.declared.nodes.StmtId.{StmtId}
use Rattle.store_cells.specs.Cells.{PlainCell}
use Rattle.store_cells.specs.declared.value.Value.TheVariants as value
use Rattle.js_image.specs.Held.{AreFine, IsFine, IsHeld, IsPlaceScope}
use Rattle.js_flow.specs.declared.job.Place.{Place}
use Rattle.js_flow.specs.declared.job.Block.{Block}
use Rattle.js_flow.specs.declared.job.Reference.{Reference}
use Rattle.js_flow.specs.declared.job.Reference.TheVariants as reference
use Rattle.js_flow.specs.declared.job.Completion.{Completion}
use Rattle.js_flow.specs.declared.job.Completion.TheVariants as completion
use Rattle.js_flow.specs.declared.job.Call.{Call}
use Rattle.js_flow.specs.declared.job.NativeCall.{NativeCall}
use Rattle.js_flow.specs.declared.job.Job.{Job}
use Rattle.js_flow.specs.declared.job.Job.TheVariants as job
use Rattle.js_flow.specs.declared.job.Next.{Next}
use Rattle.js_flow.specs.declared.job.Next.TheVariants as next
use Rattle.js_flow.specs.declared.frame.ForInNames.{ForInNames}
use Rattle.js_flow.specs.declared.frame.Argument.{Argument}
use Rattle.js_flow.specs.declared.frame.Assigning.{Assigning}
use Rattle.js_flow.specs.declared.frame.Calling.{Calling}
use Rattle.js_flow.specs.declared.frame.Gathering.{Gathering}
use Rattle.js_flow.specs.declared.frame.FormFrame.{FormFrame}
use Rattle.js_flow.specs.declared.frame.FormFrame.TheVariants as form
use Rattle.js_flow.specs.declared.frame.StatementFrame.{StatementFrame}
use Rattle.js_flow.specs.declared.frame.StatementFrame.TheVariants as statement
use Rattle.js_flow.specs.declared.frame.CallFrame.{CallFrame}
use Rattle.js_flow.specs.declared.frame.CallFrame.TheVariants as call
use Rattle.js_flow.specs.declared.frame.Frame.{Frame}
use Rattle.js_flow.specs.declared.frame.Frame.TheVariants as frame
use Rattle.js_flow.specs.declared.task.Control.{Control}
use Rattle.js_flow.specs.declared.task.Control.TheVariants as control
use Rattle.js_flow.specs.declared.task.Stepped.{Stepped}
use Rattle.js_flow.specs.declared.task.Stepped.TheVariants as stepped
use Rattle.js_flow.specs.Parts.{IsBlock, forest_at}
use Rattle.js_flow.specs.Left.{Left, all_frames}

-- only an expression begins with the unit of another
abbrev pub IsBegun : Job → Type 0
IsBegun (job.Eval e p) = Unit {0}
IsBegun _ = ⊥

module _ (w : ℕ) (cells : List PlainCell) where
  abbrev pub FineReference : Reference → Type 0
  FineReference (reference.Variable x) = Unit {0}
  FineReference (reference.Property v x) = IsFine w cells v
  FineReference (reference.Element i n) = IsFine w cells (value.Ref i) × (n < 1073741824)
  FineReference (reference.Found v) = IsFine w cells v

  abbrev pub FineCompletion : Completion → Type 0
  FineCompletion completion.Normal = Unit {0}
  FineCompletion (completion.Is v) = IsFine w cells v
  FineCompletion (completion.Refers r) = FineReference r
  FineCompletion (completion.Return v) = IsFine w cells v
  FineCompletion completion.Break = Unit {0}
  FineCompletion completion.Continue = Unit {0}
  FineCompletion (completion.Throw v) = IsFine w cells v

  abbrev pub FineCall : Call → Type 0
  FineCall c = IsFine w cells c.func × IfSome c.this (IsFine w cells) × AreFine w cells c.args.items

  abbrev pub FineNative : NativeCall → Type 0
  FineNative c = IfSome c.this (IsFine w cells) × AreFine w cells c.args.items

  abbrev pub FineCalling : Calling → Type 0
  FineCalling c = IsHeld w cells c.func × AreFine w cells c.items.items × IsFine w cells c.last

  abbrev pub FineGathering : Gathering → Type 0
  FineGathering g = IsHeld w cells g.func × AreFine w cells g.items.items × AreFine w cells g.results.items

module _ (fs : List Forest) (w : ℕ) (cells : List PlainCell) where
  abbrev pub IsPlace : Place → Type 0
  IsPlace p = (p.code < length fs) × IsPlaceScope w cells p.scope

  abbrev pub IsExprAt : ExprId → Place → Type 0
  IsExprAt e p = IsPlace p × IsExpr (forest_at fs p.code) e

  abbrev pub IsStmtAt : StmtId → Place → Type 0
  IsStmtAt i p = IsPlace p × IsStmt (forest_at fs p.code) i

  abbrev pub IsBlockAt : Block → Place → Type 0
  IsBlockAt b p = IsPlace p × IsBlock (forest_at fs p.code) b

  abbrev pub FineNames : ForInNames → Place → Type 0
  FineNames l p = IsFine w cells l.object × IsStmtAt l.id p

  abbrev pub FineJob : Job → Type 0
  FineJob (job.Eval e p) = IsExprAt e p
  FineJob (job.Target e p) = IsExprAt e p
  FineJob (job.Exec i p) = IsStmtAt i p
  FineJob (job.Pass i p) = IsStmtAt i p
  FineJob (job.PassIn l p) = FineNames l.value p × (l.value.at < length l.value.names.items)
  FineJob (job.Call c) = FineCall w cells c.value
  FineJob (job.RunNative c) = FineNative w cells c.value

  abbrev pub FineAssigning : Assigning → Type 0
  FineAssigning a = FineReference w cells a.of × IsFine w cells a.has × IsPlace a.place

  abbrev pub FineForm : FormFrame → Type 0
  FineForm (form.Dot x) = Unit {0}
  FineForm (form.TargetDot x) = Unit {0}
  FineForm (form.SubBase e p) = IsExprAt e p
  FineForm (form.Sub b) = IsFine w cells b
  FineForm (form.TargetSubBase e p) = IsExprAt e p
  FineForm (form.TargetSub b) = IsFine w cells b
  FineForm form.Found = Unit {0}
  FineForm (form.Element a e n p) = IsHeld w cells a × IsExprAt e p
  FineForm (form.Property a e n p) = IsHeld w cells a × IsExprAt e p
  FineForm (form.Right op e p) = IsExprAt e p
  FineForm (form.Operate op v d) = IsFine w cells v
  FineForm (form.ConvertedLeft op v d) = IsFine w cells v
  FineForm (form.ConvertedRight op v) = IsFine w cells v
  FineForm (form.Prefix op p) = IsPlace p
  FineForm (form.ConvertedPrefix op) = Unit {0}
  FineForm form.Delete = Unit {0}
  FineForm (form.StepTarget op p) = IsPlace p
  FineForm (form.StepConverted op r p) = FineReference w cells r.value × IsPlace p
  FineForm (form.AssignTarget op e p) = IsExprAt e p
  FineForm (form.AssignWith a) = FineAssigning a.value
  FineForm (form.Write r p) = FineReference w cells r × IsPlace p
  FineForm (form.And e p) = IsExprAt e p
  FineForm (form.Or e p) = IsExprAt e p
  FineForm (form.Choose a b p) = IsExprAt a p × IsExprAt b p

  abbrev pub FineStatement : StatementFrame → Type 0
  FineStatement (statement.Seq b n p) = IsBlockAt b p
  FineStatement statement.Only = Unit {0}
  FineStatement (statement.Declared i n p) = IsStmtAt i p
  FineStatement (statement.First i n p) = IsStmtAt i p
  FineStatement (statement.Last i n p) = IsStmtAt i p
  FineStatement (statement.Branch i p) = IsStmtAt i p
  FineStatement (statement.Test i p) = IsStmtAt i p
  FineStatement (statement.LoopNext i p) = IsStmtAt i p
  FineStatement (statement.ForAgain i p) = IsStmtAt i p
  FineStatement (statement.ForInOver i p) = IsStmtAt i p
  FineStatement (statement.ForInNext l p) = FineNames l.value p
  FineStatement statement.ToReturn = Unit {0}
  FineStatement statement.ToThrow = Unit {0}
  FineStatement (statement.Switch i p) = IsStmtAt i p
  FineStatement (statement.Case v i n p) = IsFine w cells v × IsStmtAt i p
  FineStatement statement.SwitchEnd = Unit {0}
  FineStatement (statement.Caught i p) = IsStmtAt i p
  FineStatement (statement.Finally i p) = IsStmtAt i p
  FineStatement (statement.LastEnd o) = FineCompletion w cells o.value

  abbrev pub FineArgument : Argument → Type 0
  FineArgument a = FineReference w cells a.of × AreFine w cells a.args.items × IsExprAt a.call a.place

  abbrev pub FineCallFrame : CallFrame → Type 0
  FineCallFrame (call.Callee e p) = IsExprAt e p
  FineCallFrame (call.Argument a) = FineArgument a.value
  FineCallFrame call.CallEnd = Unit {0}
  FineCallFrame (call.ToPrimitive d) = Unit {0}
  FineCallFrame call.Primitive = Unit {0}
  FineCallFrame call.TextOf = Unit {0}
  FineCallFrame (call.MakeText x) = Unit {0}
  FineCallFrame (call.Each c) = FineCalling w cells c.value
  FineCallFrame (call.Gather g) = FineGathering w cells g.value

  abbrev pub FineFrame : Frame → Type 0
  FineFrame (frame.Form f) = FineForm f
  FineFrame (frame.Statement f) = FineStatement f
  FineFrame (frame.Call f) = FineCallFrame f

  abbrev pub FineFrames : List Frame → Type 0
  FineFrames frames = AllByRecursion FineFrame frames

  -- what a form leaves is neither nothing nor the end of the task
  abbrev pub FineNext : Next → Type 0
  FineNext next.Nothing = ⊥
  FineNext (next.Go j) = FineJob j
  FineNext (next.Begin j) = FineJob j × IsBegun j
  FineNext (next.Run b p) = IsBlockAt b p
  FineNext (next.Give o) = FineCompletion w cells o
  FineNext (next.Pay n) = Unit {0}
  FineNext (next.Native c) = FineNative w cells c.value
  FineNext (next.Stop c) = Unit {0}
  FineNext (next.Done o) = ⊥

  -- no frame waits for a native alone
  abbrev pub FineOver : List Frame → Next → Type 0
  FineOver above (next.Native c) = (above ≡ []) × FineNative w cells c.value
  FineOver above n = FineNext n

  -- what a form leaves
  abbrev pub FineLeft : Left → Type 0
  FineLeft l = FineFrames l.above × FineOver l.above l.next

  -- what is next; at the end of the task no frame is left
  abbrev pub FineLast : List Frame → Next → Type 0
  FineLast frames (next.Done o) = (frames ≡ []) × FineCompletion w cells o
  FineLast frames n = FineNext n

  -- all frames, and what is next
  abbrev pub FineFlow : Left → Type 0
  FineFlow l = FineFrames (all_frames l) × FineLast (all_frames l) l.next

  abbrev pub FineControl : Control → Type 0
  FineControl (control.Do j) = FineJob j
  FineControl (control.Begin j) = FineJob j
  FineControl (control.Give o) = FineCompletion w cells o
  FineControl (control.Pay n) = Unit {0}
  FineControl (control.Waits d) = Unit {0}
  FineControl control.Over = Unit {0}

  abbrev pub FineStepped : Stepped → Type 0
  FineStepped stepped.Went = Unit {0}
  FineStepped (stepped.Native c) = FineNative w cells c.value
  FineStepped (stepped.Done o) = FineCompletion w cells o
  FineStepped (stepped.Stop c) = Unit {0}
  FineStepped stepped.OutOfFuel = Unit {0}

-- a completion that is no value
abbrev pub IsOther : Completion → Type 0
IsOther (completion.Is v) = ⊥
IsOther _ = Unit {0}
