-- A turn that has begun, as the host has it: its cells are made, and its plan is what is left then.
use Rattle.std.proofs.Common.{◌≡◌, List, ap, sym}
use Rattle.std.specs.Prelude.{Some, ◌+◌, ◌-◌}
use Rattle.std.specs.List.{fold}
use Rattle.widget_meaning.specs.OwnState.{OwnState, State}
use Rattle.widget_meaning.specs.Plan.{Plan}
use Rattle.widget_meaning.specs.Turns.{begun}
use Rattle.life_laws.specs.Life.{Fixed, Same, Turn, Work, ended, fixed, started, work}

pub started_same : (k : State → Plan) (p : OwnState) (is : List Work) (o : OwnState) (q : Plan) → k (begun p) ≡ q → fixed o ≡ fixed (begun p).own
    → Same (started k p is) (record { own = o; going = Some (record { plan = q; left = p.grant }); queue = is })
started_same k p is o q e f =
    let was : Turn = record { fixed = fixed (begun p).own; plan = k (begun p); left = p.grant } in
    let now : Turn = record { fixed = fixed o; plan = q; left = p.grant } in
    let same : now ≡ was = λ j. (let t : Turn = record { fixed = f j; plan = sym e j; left = p.grant } in t) in
    record {
      begins = ap Some same;
      due = ap (λ t. fold work (ended t) is) same;
      spent = ap (λ (x : Fixed). x.spent + (x.grant - p.grant)) f;
    }
