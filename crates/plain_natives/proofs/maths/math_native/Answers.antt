use Rattle.std.proofs.Common.{ℕ, ap, ◌∙◌, length, true, false, None}
use Rattle.store_cells.specs.Cells.{Cells}
use Rattle.widget_meaning.specs.Values.{nth}
use Rattle.widget_meaning.specs.MathNatives as maths
use Rattle.js_image.specs.Image.{all_seen, image, seen}
use Rattle.native_common.specs.Refines.{Refines}
use Rattle.native_common.proofs.Meeting.{refines_same}
use Rattle.plain_natives.proofs.Exits.{nth_is}
use Rattle.plain_natives.specs.Choices as choices
use Rattle.std.proofs.lemmas.Result.{IfOk-weaker}
use Rattle.std.proofs.lemmas.List.{length-map}
use Rattle.plain_natives.proofs.maths.math_native.Goals as goal

pub returns-in-Abs : goal.returns-in-Abs
returns-in-Abs c =
    IfOk-weaker c.of_one.result (λ o. (w : ℕ) (s : Cells) → Refines w s s c.args.meter.now c.of_one.new.meter (λ d t. maths.of_one (all_seen w s.cells c.args.args.now) (choices.changed true) t) o) (λ o. (w : ℕ) (s : Cells) → Refines w s s c.args.meter.now c.of_one.new.meter (maths.math_native c.args.which None (all_seen w s.cells c.args.args.now)) o)
    (λ o h w s. refines_same w s s (maths.math_native c.args.which None (all_seen w s.cells c.args.args.now)) (λ d t. maths.of_one (all_seen w s.cells c.args.args.now) (choices.changed true) t) o c.args.meter.now c.of_one.new.meter (λ fs r d. ap (λ x. maths.math_native x None (all_seen w s.cells c.args.args.now) d (image fs r w s)) c.in-Abs.is) (h w s))
    c.of_one.ensures

pub returns-in-Ceil : goal.returns-in-Ceil
returns-in-Ceil c =
    IfOk-weaker c.of_one-in-Ceil.result (λ o. (w : ℕ) (s : Cells) → Refines w s s c.args.meter.now c.of_one-in-Ceil.new.meter (λ d t. maths.of_one (all_seen w s.cells c.args.args.now) (choices.changed false) t) o) (λ o. (w : ℕ) (s : Cells) → Refines w s s c.args.meter.now c.of_one-in-Ceil.new.meter (maths.math_native c.args.which None (all_seen w s.cells c.args.args.now)) o)
    (λ o h w s. refines_same w s s (maths.math_native c.args.which None (all_seen w s.cells c.args.args.now)) (λ d t. maths.of_one (all_seen w s.cells c.args.args.now) (choices.changed false) t) o c.args.meter.now c.of_one-in-Ceil.new.meter (λ fs r d. ap (λ x. maths.math_native x None (all_seen w s.cells c.args.args.now) d (image fs r w s)) c.in-Ceil.is) (h w s))
    c.of_one-in-Ceil.ensures

pub returns-in-Floor : goal.returns-in-Floor
returns-in-Floor c =
    IfOk-weaker c.of_one-in-Floor.result (λ o. (w : ℕ) (s : Cells) → Refines w s s c.args.meter.now c.of_one-in-Floor.new.meter (λ d t. maths.of_one (all_seen w s.cells c.args.args.now) (choices.changed false) t) o) (λ o. (w : ℕ) (s : Cells) → Refines w s s c.args.meter.now c.of_one-in-Floor.new.meter (maths.math_native c.args.which None (all_seen w s.cells c.args.args.now)) o)
    (λ o h w s. refines_same w s s (maths.math_native c.args.which None (all_seen w s.cells c.args.args.now)) (λ d t. maths.of_one (all_seen w s.cells c.args.args.now) (choices.changed false) t) o c.args.meter.now c.of_one-in-Floor.new.meter (λ fs r d. ap (λ x. maths.math_native x None (all_seen w s.cells c.args.args.now) d (image fs r w s)) c.in-Floor.is) (h w s))
    c.of_one-in-Floor.ensures

pub returns-in-Round : goal.returns-in-Round
returns-in-Round c =
    IfOk-weaker c.of_one-in-Round.result (λ o. (w : ℕ) (s : Cells) → Refines w s s c.args.meter.now c.of_one-in-Round.new.meter (λ d t. maths.of_one (all_seen w s.cells c.args.args.now) (choices.changed false) t) o) (λ o. (w : ℕ) (s : Cells) → Refines w s s c.args.meter.now c.of_one-in-Round.new.meter (maths.math_native c.args.which None (all_seen w s.cells c.args.args.now)) o)
    (λ o h w s. refines_same w s s (maths.math_native c.args.which None (all_seen w s.cells c.args.args.now)) (λ d t. maths.of_one (all_seen w s.cells c.args.args.now) (choices.changed false) t) o c.args.meter.now c.of_one-in-Round.new.meter (λ fs r d. ap (λ x. maths.math_native x None (all_seen w s.cells c.args.args.now) d (image fs r w s)) c.in-Round.is) (h w s))
    c.of_one-in-Round.ensures

pub returns-in-Max : goal.returns-in-Max
returns-in-Max c =
    λ w s. refines_same w s s (maths.math_native c.args.which None (all_seen w s.cells c.args.args.now)) (λ d t. maths.of_all (all_seen w s.cells c.args.args.now) (choices.better true) t) c.of_all.result c.args.meter.now c.of_all.new.meter (λ fs r d. ap (λ x. maths.math_native x None (all_seen w s.cells c.args.args.now) d (image fs r w s)) c.in-Max.is) (c.of_all.ensures w s)

pub returns-in-Min : goal.returns-in-Min
returns-in-Min c =
    λ w s. refines_same w s s (maths.math_native c.args.which None (all_seen w s.cells c.args.args.now)) (λ d t. maths.of_all (all_seen w s.cells c.args.args.now) (choices.better false) t) c.of_all-in-Min.result c.args.meter.now c.of_all-in-Min.new.meter (λ fs r d. ap (λ x. maths.math_native x None (all_seen w s.cells c.args.args.now) d (image fs r w s)) c.in-Min.is) (c.of_all-in-Min.ensures w s)

pub returns : goal.returns
returns c =
    λ w s. refines_same w s s (maths.math_native c.args.which None (all_seen w s.cells c.args.args.now)) (λ d t. maths.pow (seen w s.cells c.nth-first.result.now) (seen w s.cells c.nth-second.result.now) (length c.args.args.now) t) c.pow.result c.args.meter.now c.pow.new.meter (λ fs r d. ap (λ x. maths.math_native x None (all_seen w s.cells c.args.args.now) d (image fs r w s)) c.in-Pow.is
    ∙ ap (λ v. maths.pow v (nth 1 (all_seen w s.cells c.args.args.now)) (length (all_seen w s.cells c.args.args.now)) (image fs r w s)) (nth_is w s.cells c.args.args.now 0 c.nth-first.result.now c.nth-first.ensures)
    ∙ ap (λ v. maths.pow (seen w s.cells c.nth-first.result.now) v (length (all_seen w s.cells c.args.args.now)) (image fs r w s)) (nth_is w s.cells c.args.args.now 1 c.nth-second.result.now c.nth-second.ensures)
    ∙ ap (λ n. maths.pow (seen w s.cells c.nth-first.result.now) (seen w s.cells c.nth-second.result.now) n (image fs r w s)) (length-map c.args.args.now (seen w s.cells))) (c.pow.ensures w s)
