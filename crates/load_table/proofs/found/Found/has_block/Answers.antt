use Rattle.std.proofs.Common.{◌≡◌, ◌<◌, ◌+◌, ℕ, List, length, slice_index, ap, arith}
use Rattle.load_table.proofs.ShortValues.{at-short, length-found}
use Rattle.load_table.proofs.found.Found.has_block.Goals as goal

pub stand_for-requires-clause-block : goal.stand_for-requires-clause-block
stand_for-requires-clause-block c =
    omega (arith, c.requires.block, ap length c.self.view_is, length-found c.self.inside.short.items c.self.inside.wide.items, ap length c.as_slice.ensures.value)

pub returns : goal.returns
returns c = record {
  same = λ yes k early.
      let word : ℕ = c.args.first + k in
      let short = c.self.inside.short.items in
      let wide = c.self.inside.wide.items in
      let stood : slice_index short word ≡ slice_index c.args.values.now k + 1 = rw (← c.as_slice.ensures.value) (c.stand_for.ensures.each yes k early) in
      let within : word < length short = omega (arith, early, c.requires.block, ap length c.self.view_is, length-found short wide) in
      omega (arith, stood, at-short short wide word within (λ none. omega (arith, stood, none)), ap (λ (l : List ℕ). slice_index l word) c.self.view_is);
}
