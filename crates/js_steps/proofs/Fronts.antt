-- The first frames of a list.
use Rattle.std.proofs.Common.{ℕ, zero, suc, ◌≤◌, List, [], ◌∷◌, take, arith}
use Rattle.js_tree.specs.Forest.{Forest}
use Rattle.store_cells.specs.Cells.{PlainCell}
use Rattle.js_flow.specs.declared.frame.Frame.{Frame}
use Rattle.js_flow.specs.Fine.{FineFrames}
use Rattle.js_flow.specs.Free.{frames_free}

pub fine_front : (fs : List Forest) (w : ℕ) (cells : List PlainCell) (n : ℕ) (frames : List Frame) → FineFrames fs w cells frames → FineFrames fs w cells (take n frames)
fine_front fs w cells zero frames h = tt
fine_front fs w cells (suc n) [] h = tt
fine_front fs w cells (suc n) (f ∷ frames) h = (h.0, fine_front fs w cells n frames h.1)

pub free_front : (n : ℕ) (frames : List Frame) → frames_free (take n frames) ≤ frames_free frames
free_front zero frames = omega arith
free_front (suc n) [] = omega arith
free_front (suc n) (f ∷ frames) = omega (arith, free_front n frames)
