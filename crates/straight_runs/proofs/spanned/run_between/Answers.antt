use Rattle.std.proofs.Common.{◌≡◌, ℕ, Some, sym, subst, arith}
use Rattle.grid_base.specs.declared.place.Place.{Place}
use Rattle.grid_base.specs.declared.size.Size.{Size}
use Rattle.straight_runs.specs.declared.direction.Direction.{Direction}
use Rattle.straight_runs.specs.declared.direction.Direction.TheVariants.{East, North, Up}
use Rattle.straight_runs.specs.declared.run.Run.{Run}
use Rattle.straight_runs.specs.Between.{IsRunBetween}
use Rattle.straight_runs.proofs.Between.{across_run, along_run, through_run}
use Rattle.straight_runs.proofs.spanned.run_between.Goals as goal

abbrev part : Direction → ℕ → ℕ → Run
part d v count = record { direction = d; first = record { 0 = v }; count = count }

-- the run by other names of its first vertex and its count
named : (s : Size) (from to : Place) (d : Direction) (v w m n : ℕ) → v ≡ w → m ≡ n → IsRunBetween s from to (Some (part d w n)) → IsRunBetween s from to (Some (part d v m))
named s from to d v w m n first count is =
    subst (λ x. IsRunBetween s from to (Some (part d x m))) (sym first) (subst (λ k. IsRunBetween s from to (Some (part d w k))) (sym count) is)

pub returns-then-cols-gt0 : goal.returns-then-cols-gt0
returns-then-cols-gt0 c =
    named c.args.size c.args.from c.args.to East _ _ _ _ c.lowest_corner-first.ensures c.abs_diff-cols.ensures
    (across_run c.args.size c.args.from c.args.to c.requires.from c.requires.to c.requires.straight (omega (arith, c.if-cols-gt0.true, c.abs_diff-cols.ensures)))

pub returns-then-rows-gt0 : goal.returns-then-rows-gt0
returns-then-rows-gt0 c =
    named c.args.size c.args.from c.args.to North _ _ _ _ c.lowest_corner-first.ensures c.abs_diff-rows.ensures
    (along_run c.args.size c.args.from c.args.to c.requires.from c.requires.to c.requires.straight (omega (arith, c.if-cols-gt0.false, c.abs_diff-cols.ensures)) (omega (arith, c.if-rows-gt0.true, c.abs_diff-rows.ensures)))

pub returns-then-layers-gt0 : goal.returns-then-layers-gt0
returns-then-layers-gt0 c =
    named c.args.size c.args.from c.args.to Up _ _ _ _ c.lowest_corner-first.ensures c.abs_diff-layers.ensures
    (through_run c.args.size c.args.from c.args.to c.requires.from c.requires.to c.requires.straight (omega (arith, c.if-cols-gt0.false, c.abs_diff-cols.ensures)) (omega (arith, c.if-rows-gt0.false, c.abs_diff-rows.ensures)) (omega (arith, c.if-layers-gt0.true, c.abs_diff-layers.ensures)))
