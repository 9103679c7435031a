use Rattle.std.proofs.Common.{◌≡◌, drop}
use Rattle.net_search.specs.Known.{KeepsKinds, laid_all}
use Rattle.net_search.proofs.search.NetSearch.lay_own.Given as goal

abbrev pub invariant-loop-piece : goal.invariant-loop-piece
invariant-loop-piece l = record {
  kinds : KeepsKinds l.initial.self.wave.labels l.self.wave.labels;
  laid : laid_all l.self.wave.labels.labels.items (drop l.piece-index l.own) l.is_own
      ≡ laid_all l.initial.self.wave.labels.labels.items l.own l.is_own;
}
