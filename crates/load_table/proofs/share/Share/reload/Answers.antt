use Rattle.std.proofs.Common.{◌≡◌, ◌<◌, ◌≤◌, ◌+◌, slice_index, ◌∙◌, ap, ⊎_elim, arith}
use Rattle.std.proofs.lemmas.Bool.{cases_lt}
use Rattle.load_table.proofs.RunSteps.{run_of_two}
use Rattle.load_table.proofs.share.Share.reload.Goals as goal

pub returns-then-not-reload_block-clause-read : goal.returns-then-not-reload_block-clause-read
returns-then-not-reload_block-clause-read c =
    run_of_two c.args.first c.loop-word.word (c.loop-word.word + 8) _ _ _ c.loop-word.invariant.low (omega arith) c.loop-word.invariant.read c.reload_block.ensures.read

pub loop-word-preserved : goal.loop-word-preserved
loop-word-preserved c =
    let inv = c.loop-word.invariant in
    let its = c.reload_block.ensures in
    let word = c.loop-word.word in
    let same : c.reload_block.new.self.party.last ≡ c.loop-word.self.party.last = its.same c.if-not-reload_block.false in
    record {
      low = omega (arith, inv.low);
      most = omega (arith, c.loop-word-test.true, inv.most);
      read = run_of_two c.args.first word (word + 8) _ _ _ inv.low (omega arith) inv.read its.read;
      last = same ∙ inv.last;
      whole = λ w low early. ⊎_elim
          (λ (before : w < word). omega (arith, inv.whole w low before, ap (λ l. slice_index l w) same))
          (λ (behind : word ≤ w). its.whole w behind early)
          (cases_lt w word);
      table = its.table ∙ inv.table;
      share = λ some. its.share;
    }

pub returns-then-word-end-clause-read : goal.returns-then-word-end-clause-read
returns-then-word-end-clause-read c =
    run_of_two c.args.first c.loop-word.word c.args.end _ _ _ c.loop-word.invariant.low c.loop-word.invariant.most c.loop-word.invariant.read c.load_each.ensures.read
