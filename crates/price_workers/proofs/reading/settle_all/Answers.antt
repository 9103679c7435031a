use Rattle.std.proofs.Common.{◌≤◌, ◌<◌, ⊎_elim, arith}
use Rattle.price_workers.proofs.Common.{cases_lt, KeepsSetting-trans, grid_of, size_of}
use Rattle.price_workers.proofs.reading.settle_all.Goals as goal

pub next_after-requires : goal.next_after-requires
next_after-requires c = omega (arith, c.loop-word-test.true, c.requires.entries, (size_of (grid_of c.args.kept.now)).within.vertex_limit)

pub loop-word-preserved : goal.loop-word-preserved
loop-word-preserved c =
    let inv = c.loop-word.invariant in
    let its = c.settle_run.ensures in
    record {
      most = omega arith;
      found = λ e low early. ⊎_elim
          (λ (before : e < c.loop-word.word). its.keeps e (inv.found e low before))
          (λ (behind : c.loop-word.word ≤ e). its.found e behind early)
          (cases_lt e c.loop-word.word);
      keeps = λ e same. its.keeps e (inv.keeps e same);
      setting = KeepsSetting-trans _ _ _ inv.setting its.setting;
    }
