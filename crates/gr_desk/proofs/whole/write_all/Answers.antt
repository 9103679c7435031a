use Rattle.std.proofs.Common.{arith, ◌∙◌, length-take, length-drop, subst, List, ℕ}
use Rattle.gr_desk.specs.Runs.{Adds}
use Rattle.gr_desk.proofs.Runs.{adds-then, adds-write, one-more}
use Rattle.gr_desk.proofs.whole.write_all.Goals as goal

pub loop-at-preserved : goal.loop-at-preserved
loop-at-preserved g c = record {
  within = (let b = simp (length-take, length-drop) at c.in_ok-at.ensures.bound in omega (arith, b, c.loop-at.invariant.within));
  adds = subst (λ (l : List ℕ). Adds (g.D.Desk.told c.args.desk.now) (g.D.Desk.told c.write.new.self) c.args.port l) (one-more c.loop-at.at c.in_ok-at.field-0 c.args.bytes.now) (adds-then _ _ _ _ _ _ c.loop-at.invariant.adds (adds-write _ _ _ _ _ c.in_ok-at.ensures.does));
  quiet = c.in_ok-at.ensures.does.cause.quiet ∙ c.loop-at.invariant.quiet;
}
