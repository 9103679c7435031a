use Rattle.std.proofs.Common.{eqb}
use Rattle.std.proofs.lemmas.List.Filters.{dedup_is}
use Rattle.std.proofs.lemmas.List.Kept.{Contains-dedup_nat, Contains-from_dedup}
use Rattle.std.proofs.lemmas.List.Sorted.{Contains-permutation, IsPermutation-sym}
use Rattle.std.proofs.lemmas.Map.Keys.{IsStrictlyIncreasing-dedup}
use Rattle.net_extents.proofs.spread.sort_once.Goals as goal

pub returns : goal.returns
returns c =
    let given = c.args.numbers.now.items in
    let sorted = c.sort_unstable.new.self.items in
    let moved = c.sort_unstable.ensures.permutation in
    rw (dedup_is eqb _ _ c.dedup.ensures.filtered) (record {
      rising = IsStrictlyIncreasing-dedup sorted c.sort_unstable.ensures.sorted;
      same = λ n. (
        λ h. Contains-permutation sorted given n (IsPermutation-sym given sorted moved) (Contains-from_dedup eqb sorted n h),
        λ h. Contains-dedup_nat sorted n (Contains-permutation given sorted n moved h),
      );
    })
