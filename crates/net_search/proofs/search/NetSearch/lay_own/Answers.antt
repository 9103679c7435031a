use Rattle.std.proofs.Common.{◌≡◌, ◌+◌, List, drop, sym, subst, arith}
use Rattle.net_search.specs.Known.{KeepsKinds, laid_piece, laid_all}
use Rattle.net_search.specs.declared.label.Label.{Label}
use Rattle.net_search.specs.declared.search.NetSearch.{NetSearch}
use Rattle.net_search.proofs.Keeping.{keeps_laid, laid_on, laid_end}
use Rattle.net_search.proofs.search.NetSearch.lay_own.Goals as goal
use Rattle.net_search.proofs.search.NetSearch.lay_own.Goals.{in-Edge, in_default}

pub loop-piece-preserved : goal.loop-piece-preserved
unfolding laid_piece
loop-piece-preserved c =
    let Kept : NetSearch → Type 0 = λ search. KeepsKinds c.args.self.now.wave.labels search.wave.labels in
    let Laid : NetSearch → Type 0 = λ search. laid_all search.wave.labels.labels.items (drop (c.loop-piece.piece-index + 1) c.args.own.now) c.args.is_own
    ≡ laid_all c.args.self.now.wave.labels.labels.items c.args.own.now c.args.is_own in
    elim c.match-piece.branch [
      | in-Edge w ↦ record {
        kinds = subst Kept (sym w.self-is)
            (keeps_laid c.args.self.now.wave.labels c.loop-piece.self.wave.labels w.lay.new.self _ _ c.args.is_own c.loop-piece.invariant.kinds w.lay.ensures.labels);
        laid = subst Laid (sym w.self-is) (subst (λ (items : List Label). laid_all items (drop (c.loop-piece.piece-index + 1) c.args.own.now) c.args.is_own
            ≡ laid_all c.args.self.now.wave.labels.labels.items c.args.own.now c.args.is_own) (sym w.lay.ensures.labels)
            (laid_on c.loop-piece.self.wave.labels.labels.items c.args.own.now c.pieces-piece-items.result.now c.loop-piece.piece-index _ _ c.args.is_own _
            c.pieces-piece-items.ensures.listed c.loop-piece-test.true w.in-Edge.is c.loop-piece.invariant.laid));
      }
      | in_default w ↦ record {
        kinds = subst Kept (sym w.self-is) c.loop-piece.invariant.kinds;
        laid = subst Laid (sym w.self-is) (laid_on c.loop-piece.self.wave.labels.labels.items c.args.own.now c.pieces-piece-items.result.now
            c.loop-piece.piece-index _ _ c.args.is_own _ c.pieces-piece-items.ensures.listed c.loop-piece-test.true w.in_default.is c.loop-piece.invariant.laid);
      }
    ]

pub returns-clause-laid : goal.returns-clause-laid
returns-clause-laid c =
    laid_end c.loop-piece.self.wave.labels.labels.items c.args.own.now c.pieces-piece-items.result.now c.loop-piece.piece-index c.args.is_own _
    c.pieces-piece-items.ensures.listed (omega (arith, c.loop-piece-test.false)) c.loop-piece.invariant.laid
