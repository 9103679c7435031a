use Rattle.std.proofs.Common.{◌≡◌, ◌+◌, ◌≤◌, ◌⊎◌, sym, ◌∙◌, inl, inr, slice_index, arith}
use Rattle.std.proofs.lemmas.Grind.{get_or_default_zero}
use Rattle.label_search.specs.Stamped.{far}
use Rattle.shortest_paths.specs.LabelWords.{labels_number}
use Rattle.terminal_balls.specs.Balls.{widest}
use Rattle.terminal_balls.proofs.Lowering.{put_below, lowered_kept, lowered_on, lowered_past}
use Rattle.terminal_balls.proofs.terminal_balls.TerminalBalls.offer.Goals as goal
use Rattle.terminal_balls.proofs.terminal_balls.TerminalBalls.offer.Goals.{else-reached-lt-FAR-via-then-reached-lt-FAR+else-index-owner, else-reached-lt-FAR-via-else-reached-lt-FAR}

pub lower-requires-clause-key : goal.lower-requires-clause-key
lower-requires-clause-key c = λ k held.
    omega (arith, c.requires.kept.keys c.args.to.vertex.0 k held, c.number-reached.ensures.number, c.if-offered-reached.true)

pub returns-then-index-owner-clause-kept : goal.returns-then-index-owner-clause-kept
returns-then-index-owner-clause-kept c =
    let kept = c.requires.kept in
    record {
      owners = kept.owners;
      few = kept.few;
      small = λ place. (let low = put_below c.args.self.now.radii c.from-then-index-owner.result c.args.offered (widest + 1) place (omega (arith, c.if-offered-self.false, kept.small c.from.result)) (omega (arith, kept.small place)) in omega (arith, low));
      keys = kept.keys;
    }

pub returns-then-offered-reached-clause-kept : goal.returns-then-offered-reached-clause-kept
returns-then-offered-reached-clause-kept c =
    lowered_kept c.args.self.now c.lower.new.self c.args.self.now.radii c.args.to.vertex.0 c.args.owner c.args.offered
    c.requires.kept c.requires.kept.small c.requires.owner c.lower.ensures

pub returns-then-offered-reached-clause-grow_on : goal.returns-then-offered-reached-clause-grow_on
returns-then-offered-reached-clause-grow_on c =
    let old = c.args.self.now in
    let to = c.args.to.vertex.0 in
    let free : (far ≤ labels_number old.labels to) ⊎ (slice_index old.owners.items to ≡ c.args.owner) =
    elim c.else-reached-lt-FAR.branch [
      | else-reached-lt-FAR-via-then-reached-lt-FAR+else-index-owner w ↦ inr (sym (w.index.ensures
          ∙ get_or_default_zero old.owners.items to w.index.result.now (omega (arith, c.requires.to.vertex, c.requires.kept.owners)))
          ∙ w.if-index-owner.false)
      | else-reached-lt-FAR-via-else-reached-lt-FAR w ↦ inl (omega (arith, c.number-reached.ensures.number, w.if-reached-lt-FAR.false))
    ] in
    lowered_on old c.lower.new.self to c.args.owner c.args.offered c.lower.ensures
    (omega (arith, c.requires.to.vertex, c.requires.kept.owners)) (omega (arith, c.number-reached.ensures.number, c.if-offered-reached.true)) free

pub returns-then-offered-reached-clause-same : goal.returns-then-offered-reached-clause-same
returns-then-offered-reached-clause-same c =
    lowered_past c.args.self.now c.lower.new.self c.args.self.now.radii c.args.to.vertex.0 c.args.owner c.args.offered
    c.lower.ensures (omega (arith, c.number-reached.ensures.number, c.if-offered-reached.true))
