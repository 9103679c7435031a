use Rattle.std.proofs.Common.{◌≡◌, ◌≤◌, ◌<◌, ℕ, List, length, slice_index, slice_set, sym, ◌∙◌, ap, subst, ⊎_elim, arith, below_more}
use Rattle.price_workers.proofs.Common.{cases_eq, get_or-set_same, get_or-set_other, entries, grid_of, loads_of, KeepsSetting-trans}
use Rattle.price_workers.proofs.reading.settle_each.Goals as goal

pub loop-word-preserved : goal.loop-word-preserved
loop-word-preserved c =
    let inv = c.loop-word.invariant in
    let k = c.loop-word.word in
    let last : List ℕ = c.args.share.now.party.last in
    let old : List ℕ = loads_of c.loop-word.kept in
    let new : List ℕ = loads_of c.settle.new.kept in
    let v : ℕ = c.last_of.result in
    let is : v ≡ slice_index last k = c.last_of.ensures.last in
    let long : length old ≡ entries (grid_of c.args.kept.now) = c.loop-word.kept.kept.loaded.long ∙ ap entries inv.setting.grid in
    let within : k < length old = omega (arith, long, c.loop-word-test.true, c.requires.entries) in
    let set : (e : ℕ) → slice_index new e ≡ slice_index (slice_set old k v) e = λ e. ap (λ (l : List ℕ). slice_index l e) c.settle.ensures.loads in
    let here : slice_index new k ≡ slice_index last k = set k ∙ get_or-set_same old k v 0 within ∙ is in
    let there : (e : ℕ) → (e ≡ k → ⊥) → slice_index new e ≡ slice_index old e = λ e apart. set e ∙ get_or-set_other old k e v 0 apart in
    record {
      low = omega (arith, inv.low);
      found = λ e low early. below_more (λ w. c.args.first ≤ w → slice_index new w ≡ slice_index last w) k
          (λ w before from. there w (λ at. omega (arith, before, at)) ∙ inv.found w from before)
          (λ from. here) e early low;
      keeps = λ e same. ⊎_elim
          (λ (at : k ≡ e). subst (λ (w : ℕ). slice_index new w ≡ slice_index last w) at here)
          (λ (apart : k ≡ e → ⊥). there e (λ at. apart (sym at)) ∙ inv.keeps e same)
          (cases_eq k e);
      setting = KeepsSetting-trans _ _ _ inv.setting c.settle.ensures.setting;
    }

pub settle-requires-clause-load : goal.settle-requires-clause-load
settle-requires-clause-load c =
    omega (
      arith,
      c.last_of.ensures.last,
      c.requires.limit c.loop-word.word c.loop-word.invariant.low c.loop-word-test.true,
    )
