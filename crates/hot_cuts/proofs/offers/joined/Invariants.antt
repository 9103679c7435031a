use Rattle.std.proofs.Common.{◌≡◌, drop, fold}
use Rattle.hot_cuts.specs.Standings.{joined_in, none_joined, with_standing}
use Rattle.hot_cuts.proofs.offers.joined.Given as goal

-- the offers left are still to be joined
abbrev pub invariant-loop-standing : goal.invariant-loop-standing
invariant-loop-standing l = fold (with_standing l.offers) (joined_in l.marks.items l.all) (drop l.standing-index l.standing-items)
    ≡ fold (with_standing l.offers) (none_joined l.count) l.standing-items
