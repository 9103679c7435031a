use Rattle.std.proofs.Common.{◌≤◌, ◌<◌, ◌∙◌, ⊎_elim, arith}
use Rattle.price_workers.proofs.Common.{cases_lt, KeepsSetting-trans}
use Rattle.load_table.proofs.RunSteps.{run_of_two}
use Rattle.price_workers.proofs.reading.load_all.Goals as goal

pub loop-word-preserved : goal.loop-word-preserved
loop-word-preserved c =
    let inv = c.loop-word.invariant in
    let its = c.load_some-word.ensures in
    record {
      most = its.next.1;
      read = run_of_two 0 c.loop-word.word c.load_some-word.result _ _ _ (omega arith) (omega (arith, its.next.0)) inv.read its.read;
      limit = λ e early. ⊎_elim
          (λ (before : e < c.loop-word.word). omega (arith, inv.limit e before, its.read.before e before))
          (λ (behind : c.loop-word.word ≤ e). its.limit e behind early)
          (cases_lt e c.loop-word.word);
      keeps = λ e same. its.keeps e (inv.keeps e same);
      table = its.table ∙ inv.table;
      setting = KeepsSetting-trans _ _ _ inv.setting its.setting;
      valid = λ some. its.valid;
    }
