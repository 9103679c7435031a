use Rattle.std.proofs.Common.{◌≡◌, ◌<◌, ℕ, length, ◌∙◌, ap, arith}
use Rattle.std.proofs.lemmas.List.{get_or-set_other, length-set}
use Rattle.load_core.specs.Parties.{loaded}
use Rattle.load_table.proofs.RunSteps.{run_of_more, whole_more}
use Rattle.load_table.proofs.share.Share.load_each.Goals as goal

pub loop-word-preserved : goal.loop-word-preserved
loop-word-preserved c =
    let inv = c.loop-word.invariant in
    let k = c.loop-word.word in
    let p = c.loop-word.self.party in
    let n : ℕ = c.load.result in
    let is : c.load.new.self.party ≡ loaded p k n = ap (λ h. h.party) c.load.ensures.event in
    let table = ap (λ h. h.table) c.load.ensures.event ∙ inv.table in
    let words = ap (λ t. t.words) (table ∙ c.requires.table) in
    let within : k < length p.last = omega (arith, c.load.ensures.share.wide.last, ap (λ q. length q.last) is, length-set p.last k n, words, c.requires.words, c.loop-word-test.true) in
    record {
      low = omega (arith, inv.low);
      read = rw is (run_of_more c.args.first k n c.args.self.now.party p inv.low inv.read within c.load.ensures.close);
      whole = rw is (whole_more c.args.first k n p.last within inv.whole c.load.ensures.whole);
      behind = λ w high. rw is (get_or-set_other p.last k w n 0 (λ at. omega (arith, high, at)) ∙ inv.behind w (omega (arith, high)));
      table = table;
      share = λ some. c.load.ensures.share;
    }
