use Rattle.std.proofs.Common.{None}
use Rattle.std.specs.List.{AllZip}
use Rattle.dual_bound.specs.DesignBounds.{IsAtMostEachRoute}
use Rattle.overflow_bounds.specs.ClassGraphs.{IsGraphAt}
use Rattle.overflow_bounds.proofs.lows.write_lows.Given as goal

abbrev pub invariant-loop-net : goal.invariant-loop-net
invariant-loop-net l = record {
  class : IsGraphAt l.design.grid l.fn.reused.class.prices.now l.reused.class;
  low : AllZip (IsAtMostEachRoute l.design.grid l.fn.reused.class.prices.now None) l.design.nets l.lows;
}
