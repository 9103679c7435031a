use Rattle.std.proofs.Common.{◌≡◌, ◌-◌, ◌≤◌, ℕ, false, sym, subst, ⊎_elim, arith}
use Rattle.std.specs.Bool.{IsTrue}
use Rattle.std.proofs.lemmas.Bool.{cases_eq}
use Rattle.steiner_tables.specs.Masks.{AreParts}
use Rattle.label_search.specs.Rows.{number_in}
use Rattle.steiner_tables.specs.RowWork.{table_of, IsSumOffered}
use Rattle.label_search.proofs.Finding.{FindsMore-trans}
use Rattle.steiner_tables.proofs.Masks.{parts_sum}
use Rattle.steiner_tables.proofs.Seeding.{seeded_none, sum_offered_on}
use Rattle.label_search.proofs.Relaxing.{still_answered}
use Rattle.steiner_tables.proofs.seeds.seed.Goals as goal
use Rattle.steiner_tables.proofs.seeds.seed.Goals.{then-one-mask+then-is_part, else-one-mask}
use Rattle.steiner_tables.proofs.seeds.seed.Goals.{else-one-mask-via-then-one-mask+else-is_part}
use Rattle.steiner_tables.proofs.seeds.seed.Goals.{else-one-mask-via-else-one-mask}

pub seed_alone-requires-clause-search : goal.seed_alone-requires-clause-search
seed_alone-requires-clause-search g c =
    (seeded_none c.args.rows.now c.args.terminals.now c.args.mask
    (g.B.Bound.rest c.args.bound.now) c.args.limit c.args.row.now c.requires.kept c.requires.none c.requires.idle).search

pub loop-one-init : goal.loop-one-init
loop-one-init g c =
    let begun = seeded_none c.args.rows.now c.args.terminals.now c.args.mask
    (g.B.Bound.rest c.args.bound.now) c.args.limit c.args.row.now c.requires.kept c.requires.none c.requires.idle in
    record {
      found = c.seed_alone.ensures.found;
      seeded = c.seed_alone.ensures.seeded c.args.rows.now begun;
      alone = c.seed_alone.ensures.alone;
      splits = λ one other v low less parts. absurd (omega (arith, low, parts.some));
    }

pub loop-one-preserved : goal.loop-one-preserved
loop-one-preserved g c =
    let rows = c.args.rows.now in
    let rest = g.B.Bound.rest c.args.bound.now in
    let limit = c.args.limit in
    let mask = c.args.mask in
    let first = c.loop-one.one in
    let old = c.loop-one.row in
    let before = c.loop-one.invariant in
    elim c.if-one-mask.branch [
      | then-one-mask+then-is_part w ↦
          let after = w.seed_split.ensures in
          let new = w.seed_split.new.row in
          rw w.row-is (record {
            found = FindsMore-trans c.args.row.now.found old.found new.found before.found after.found;
            seeded = after.seeded c.args.terminals.now before.seeded;
            alone = λ place v low at is. still_answered (number_in old) (number_in new) rest limit v.0 0 after.falls
                (before.alone place v low at is);
            splits = λ one other v low less parts. ⊎_elim
                (λ last.
                let same : other ≡ mask - first = omega (arith, last, parts_sum one other mask parts) in
                subst (λ m. IsSumOffered (table_of rows new) m other rest limit (number_in new) v) (sym last)
                (subst (λ m. IsSumOffered (table_of rows new) first m rest limit (number_in new) v) (sym same)
                (after.offered v)))
                (λ earlier. sum_offered_on rows old new one other rest limit v after.found before.seeded.kept after.falls
                (before.splits one other v (omega arith) less parts))
                (cases_eq one first);
          })
      | else-one-mask w ↦
          let none : (other : ℕ) → first ≤ other → AreParts first other mask → ⊥ = λ other less parts.
          let same : other ≡ mask - first = omega (arith, parts_sum first other mask parts) in
          elim w.else-one-mask.branch [
            | else-one-mask-via-then-one-mask+else-is_part x
                ↦ (let yes : IsTrue false = x.if-is_part.ensures.1 (subst (λ m. AreParts first m mask) same parts) in cc)
            | else-one-mask-via-else-one-mask x ↦ omega (arith, x.if-one-mask.false, less, same)
          ] in
          rw w.row-is (record {
            found = before.found;
            seeded = before.seeded;
            alone = before.alone;
            splits = λ one other v low less parts. ⊎_elim
                (λ last. absurd (none other (omega (arith, last, less)) (subst (λ m. AreParts m other mask) last parts)))
                (λ earlier. before.splits one other v (omega arith) less parts)
                (cases_eq one first);
          })
    ]
