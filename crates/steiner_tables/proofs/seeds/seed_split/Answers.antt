use Rattle.std.proofs.Common.{◌≡◌, ◌+◌, ◌-◌, ◌<◌, ◌≤◌, ◌⊎◌, ℕ, sym, ◌∙◌, ap, subst, inl, inr, ⊎_elim, arith}
use Rattle.std.proofs.lemmas.Bool.{cases_eq}
use Rattle.label_search.specs.Founds.{index_in}
use Rattle.steiner_tables.specs.Kept.{kept_in, kept_len}
use Rattle.label_search.specs.Rows.{number_in}
use Rattle.steiner_tables.specs.RowWork.{table_of, IsSum, IsSumOffered}
use Rattle.label_search.specs.Runs.{IsAnswered}
use Rattle.label_search.specs.Stamped.{far}
use Rattle.label_search.proofs.Finding.{FindsMore-trans, index_in-differ}
use Rattle.steiner_tables.proofs.Seeding.{seeded_offer, sum_offered_on, kept_same}
use Rattle.steiner_tables.proofs.seeds.seed_split.Goals as goal
use Rattle.steiner_tables.proofs.seeds.seed_split.Goals.{then-first-lt-FAR+then-second-lt-FAR, else-first-lt-FAR}
use Rattle.steiner_tables.proofs.seeds.seed_split.Goals.{else-first-lt-FAR-via-then-first-lt-FAR+else-second-lt-FAR}
use Rattle.steiner_tables.proofs.seeds.seed_split.Goals.{else-first-lt-FAR-via-else-first-lt-FAR}

pub spot-at-requires : goal.spot-at-requires
spot-at-requires g c = omega (
  arith,
  c.loop-index-test.true,
  c.shared_len-index-end.ensures.within,
  c.requires.kept c.args.one,
  c.loop-index.invariant.found.more,
)

pub loop-index-preserved : goal.loop-index-preserved
loop-index-preserved g c =
    let rows = c.args.rows.now in
    let rest = g.B.Bound.rest c.args.bound.now in
    let limit = c.args.limit in
    let first = c.args.one in
    let second = c.args.mask - c.args.one in
    let initial = c.args.row.now in
    let old = c.loop-index.row in
    let before = c.loop-index.invariant in
    let found : c.loop-index.index < initial.found.len =
    omega (arith, c.loop-index-test.true, c.shared_len-index-end.ensures.within, c.requires.kept first) in
    let kept : (m : ℕ) → kept_len rows m ≤ old.found.len = λ m. omega (arith, c.requires.kept m, before.found.more) in
    let here : (v : ℕ) → index_in initial.found v ≡ c.loop-index.index → index_in old.found v ≡ c.loop-index.index =
    λ v at. before.found.kept v (omega (arith, at, found)) ∙ at in
    elim c.if-first-lt-FAR.branch [
      | then-first-lt-FAR+then-second-lt-FAR w ↦
          let after = w.offer.ensures in
          let new = w.offer.new.row in
          let to = w.spot-at.result.vertex.0 in
          let at : index_in old.found to ≡ c.loop-index.index = w.spot-at.ensures.index in
          let one_here : c.number-first.result ≡ table_of rows old first to =
          c.number-first.ensures.number ∙ ap (kept_in rows first) (sym at) in
          let other_here : c.number-second.result ≡ table_of rows old second to =
          c.number-second.ensures.number ∙ ap (kept_in rows second) (sym at) in
          rw w.row-is (record {
            search = after.search;
            found = FindsMore-trans initial.found old.found new.found before.found after.taken.found;
            falls = λ v. omega (arith, before.falls v, after.taken.falls v);
            seeded = λ terminals seeded.
                let sum : IsSum (table_of rows old) c.args.mask to (c.number-first.result + c.number-second.result) = record {
                  one = first;
                  other = second;
                  parts = c.requires.parts;
                  has_one = omega (arith, one_here, w.if-first-lt-FAR.true);
                  has_other = omega (arith, other_here, w.if-second-lt-FAR.true);
                  less = omega (arith, one_here, other_here);
                } in
                seeded_offer rows terminals c.args.mask rest limit old new to
                (c.number-first.result + c.number-second.result) after.taken after.search w.spot-at.ensures.spot.vertex
                (inr sum) (before.seeded terminals seeded);
            offered = λ v inside. ⊎_elim
                (λ last.
                let same : v ≡ to = index_in-differ old.found v to (omega (arith, here v last, found, before.found.more))
                (here v last ∙ sym at) in
                let one_new = kept_same rows old.found new.found first to after.taken.found (kept first) in
                let other_new = kept_same rows old.found new.found second to after.taken.found (kept second) in
                let sum : c.number-first.result + c.number-second.result
                ≡ table_of rows new first to + table_of rows new second to =
                omega (arith, one_here, other_here, one_new, other_new) in
                subst (IsSumOffered (table_of rows new) first second rest limit (number_in new)) (sym same)
                (λ has_one has_other. subst (IsAnswered (number_in new) rest limit to) sum after.answered))
                (λ earlier. sum_offered_on rows old new first second rest limit v after.taken.found kept after.taken.falls
                (before.offered v (omega arith)))
                (cases_eq (index_in initial.found v) c.loop-index.index);
          })
      | else-first-lt-FAR w ↦
          let refused : (far ≤ c.number-first.result) ⊎ (far ≤ c.number-second.result) = elim w.else-first-lt-FAR.branch [
            | else-first-lt-FAR-via-then-first-lt-FAR+else-second-lt-FAR x ↦ inr x.if-second-lt-FAR.false
            | else-first-lt-FAR-via-else-first-lt-FAR x ↦ inl x.if-first-lt-FAR.false
          ] in
          rw w.row-is (record {
            search = before.search;
            found = before.found;
            falls = before.falls;
            seeded = before.seeded;
            offered = λ v inside. ⊎_elim
                (λ last has_one has_other.
                let one_here : c.number-first.result ≡ table_of rows old first v =
                c.number-first.ensures.number ∙ ap (kept_in rows first) (sym (here v last)) in
                let other_here : c.number-second.result ≡ table_of rows old second v =
                c.number-second.ensures.number ∙ ap (kept_in rows second) (sym (here v last)) in
                absurd (⊎_elim (λ none. omega (arith, none, one_here, has_one))
                (λ none. omega (arith, none, other_here, has_other)) refused))
                (λ earlier. before.offered v (omega arith))
                (cases_eq (index_in initial.found v) c.loop-index.index);
          })
    ]

pub returns-clause-offered : goal.returns-clause-offered
returns-clause-offered g c = λ v has_one has_other.
    let rows = c.args.rows.now in
    let first = c.args.one in
    let second = c.args.mask - c.args.one in
    let initial = c.args.row.now in
    let row = c.loop-index.row in
    let before = c.loop-index.invariant in
    let one_same = kept_same rows initial.found row.found first v before.found (c.requires.kept first) in
    let other_same = kept_same rows initial.found row.found second v before.found (c.requires.kept second) in
    let inside = c.shared_len-index-end.ensures.shared (index_in initial.found v) (omega (arith, one_same, has_one))
    (omega (arith, other_same, has_other)) in
    before.offered v (omega (arith, inside)) has_one has_other
