use Rattle.std.proofs.Common.{◌≡◌, min, ◌∙◌, ap, refl, slice_index, arith}
use Rattle.std.proofs.lemmas.Grind.{get_or_default_zero}
use Rattle.terminal_balls.specs.Balls.{balls_of}
use Rattle.terminal_balls.proofs.MaskSums.{IsWhole, is_whole}
use Rattle.terminal_balls.proofs.terminal_balls.TerminalBalls.shares.Goals as goal
use Rattle.terminal_balls.proofs.terminal_balls.TerminalBalls.shares.Goals.{After-from-owner}

owner : (c : After-from-owner) → c.from-owner.result ≡ slice_index c.args.self.now.owners.items c.args.v.0
owner c = c.from-owner.ensures ∙ (c.index.ensures
    ∙ get_or_default_zero c.args.self.now.owners.items c.args.v.0 c.index.result.now (omega (arith, c.requires.grid.owners, c.requires.vertex)))

whole : (c : After-from-owner)
    → IsWhole (balls_of c.args.self.now) c.args.mask c.args.v.0 c.from-owner.result (slice_index c.args.self.now.sums c.args.mask)
whole c = is_whole (balls_of c.args.self.now) c.args.mask c.args.v.0 c.from-owner.result (slice_index c.args.self.now.sums c.args.mask)
    (owner c) (c.requires.grid.few c.args.v.0) (c.requires.grid.summed c.args.mask c.requires.mask)

pub returns-then-whole-eq0 : goal.returns-then-whole-eq0
returns-then-whole-eq0 c =
    let owner = slice_index c.args.self.now.owners.items c.args.v.0 in
    (is_whole (balls_of c.args.self.now) c.args.mask c.args.v.0 owner (slice_index c.args.self.now.sums c.args.mask)
    refl (c.requires.grid.few c.args.v.0) (c.requires.grid.summed c.args.mask c.requires.mask)).none c.if-whole-eq0.true

pub overflow_shr-mask : goal.overflow_shr-mask
overflow_shr-mask c = omega (arith, owner c, c.requires.grid.few c.args.v.0)

pub returns-then-mask-owner-eq0 : goal.returns-then-mask-owner-eq0
returns-then-mask-owner-eq0 c = (whole (goal.at.returns-then-mask-owner-eq0 c).After-from-owner).without c.if-mask-owner-eq0.true

pub bounds-self-owner : goal.bounds-self-owner
bounds-self-owner c = omega (arith, owner (goal.at.bounds-self-owner c).After-from-owner, c.requires.grid.few c.args.v.0)

pub overflow_sub-result-2 : goal.overflow_sub-result-2
overflow_sub-result-2 c =
    let least = c.min.ensures ∙ ap (λ n. min (slice_index c.args.self.now.radii c.from-owner.result) n) c.number.ensures.number in
    omega (arith, least, (whole (goal.at.overflow_sub-result-2 c).After-from-owner).less c.if-mask-owner-eq0.false)

pub returns : goal.returns
returns c =
    let least = c.min.ensures ∙ ap (λ n. min (slice_index c.args.self.now.radii c.from-owner.result) n) c.number.ensures.number in
    omega (arith, least, (whole (goal.at.returns c).After-from-owner).with c.if-mask-owner-eq0.false)
