use Rattle.std.proofs.Common.{◌≡◌, ◌<◌, ◌≤◌, ◌+◌, ℕ, length, slice_index, slice_set, sym, ◌∙◌, ap, subst, ⊎_elim, arith}
use Rattle.std.proofs.lemmas.Bool.{cases_eq}
use Rattle.std.proofs.lemmas.List.{get_or-set_other, get_or-set_same, length-set}
use Rattle.load_core.specs.Parties.{whole_allotment}
use Rattle.load_table.specs.Runs.{LoadsBetween}
use Rattle.load_table.proofs.Blocks.{put_next}
use Rattle.load_table.proofs.RunSteps.{run_of_more, share_loaded, fits_whole}
use Rattle.load_table.proofs.reloading.load_block.Goals as goal

pub load-requires : goal.load-requires
load-requires c = record {
  may = record {
    same = c.loop-k.invariant.table ∙ c.requires.same;
    inside = omega (arith, c.loop-k-test.true, c.requires.block);
    told = c.requires.told;
    free = c.loop-k.invariant.free;
    live = c.loop-k.invariant.share.live;
  };
}

pub loop-k-preserved : goal.loop-k-preserved
loop-k-preserved c =
    let inv = c.loop-k.invariant in
    let k = c.loop-k.k in
    let word : ℕ = c.args.first + k in
    let before = c.loop-k.seat.me.0 in
    let found : ℕ = c.load.result in
    let within : word < length before.last = omega (arith, c.loop-k-test.true, c.requires.block, inv.share.wide.last, ap (λ t. t.words) (inv.table ∙ c.requires.same)) in
    let room : k < length c.loop-k.found = omega (arith, c.loop-k-test.true, inv.long) in
    let fits : found ≤ whole_allotment = fits_whole c.loop-k.seat.table_id before word found inv.share c.load.ensures.close in
    let run : LoadsBetween c.args.first (word + 1) c.args.seat.now.me.0 c.load.new.seat.me.0 =
    rw c.load.ensures.party (run_of_more c.args.first word found c.args.seat.now.me.0 before (omega arith) inv.read within c.load.ensures.close) in
    let behind : word + 1 ≡ c.args.first + (k + 1) = omega arith in
    record {
      table = c.load.ensures.table ∙ inv.table;
      free = ap (λ m. m.1) c.load.ensures.party;
      share = rw (c.load.ensures.table, c.load.ensures.party) (share_loaded c.loop-k.seat.table_id before word found inv.share);
      read = subst (λ (end : ℕ). LoadsBetween c.args.first end c.args.seat.now.me.0 c.load.new.seat.me.0) behind run;
      put = rw c.load.ensures.party
          (put_next c.args.first k found c.loop-k.found (slice_set c.loop-k.found k found) c.args.seat.now.me.0.last before.last inv.put within
          (λ j early. get_or-set_other c.loop-k.found k j found 0 (λ at. omega (arith, early, at)))
          (get_or-set_same c.loop-k.found k found 0 room));
      whole = λ j. ⊎_elim
          (λ (at : k ≡ j). subst (λ (i : ℕ). slice_index (slice_set c.loop-k.found k found) i ≤ whole_allotment) at (omega (arith, fits, get_or-set_same c.loop-k.found k found 0 room)))
          (λ (apart : k ≡ j → ⊥). omega (arith, inv.whole j, get_or-set_other c.loop-k.found k j found 0 (λ at. apart (sym at))))
          (cases_eq k j);
      long = length-set c.loop-k.found k found ∙ inv.long;
    }
