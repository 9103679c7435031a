use Rattle.std.proofs.Common.{◌≡◌, ◌-◌, ◌*◌, ◌^◌, ◌%◌, ℕ, List, length, get_or, sym, ◌∙◌, ap, subst, arith}
use Rattle.std.proofs.lemmas.List.{length-take}
use Rattle.label_search.specs.declared.found.Found.{Found}
use Rattle.label_search.specs.Founds.{index_in, FindsMore}
use Rattle.steiner_tables.specs.Masks.{all_of}
use Rattle.label_search.specs.Rows.{number_in}
use Rattle.label_search.specs.Stamped.{far}
use Rattle.steiner_tables.specs.RowWork.{table_of}
use Rattle.steiner_tables.specs.Tables.{rest_of}
use Rattle.label_search.proofs.Finding.{FindsMore-trans}
use Rattle.steiner_tables.proofs.RowTables.{IsRowFor, row_for, table_more, taken_same, kept_limit, lens_within}
use Rattle.steiner_tables.proofs.Seeding.{seeded_settled, kept_same, single_of}
use Rattle.steiner_tables.proofs.filling.fill.Goals as goal

pub seed-requires-clause-idle : goal.seed-requires-clause-idle
seed-requires-clause-idle g c = λ v key held. c.clear.ensures.idle (index_in c.clear.new.self.found v) key held

pub exhaust-requires-clause-settled : goal.exhaust-requires-clause-settled
exhaust-requires-clause-settled g c =
    seeded_settled (g.W.Weights.size c.args.weights.now) (g.W.Weights.pieces c.args.weights.now) c.args.rows.now c.args.terminals.now c.args.mask _ c.args.limit c.seed.new.row c.seed.ensures.seeded

pub returns-clause-found : goal.returns-clause-found
returns-clause-found g c =
    let old = c.args.row.now in
    let begun = c.seed.new.row in
    FindsMore-trans old.found begun.found c.exhaust.new.row.found (subst (λ (f : Found). FindsMore f begun.found) c.clear.ensures.found c.seed.ensures.found)
    c.exhaust.ensures.fell.found

pub returns-clause-kept : goal.returns-clause-kept
returns-clause-kept g c =
    let done = c.exhaust.new.row in
    let more = c.exhaust.ensures.fell.found.more in
    lens_within c.args.rows.now c.store.new.self c.args.mask done.found.len
    (omega (arith, c.store.ensures.count, ap (λ (xs : List ℕ). length xs) c.numbers.ensures, length-take done.found.len done.numbers.items))
    c.store.ensures.other_lens (λ m. omega (arith, c.seed.ensures.seeded.kept m, more))

pub returns-clause-table : goal.returns-clause-table
returns-clause-table g c =
    let s = g.W.Weights.size c.args.weights.now in
    let pieces = g.W.Weights.pieces c.args.weights.now in
    let terminals = c.args.terminals.now in
    let low = g.F.Family.low c.args.family.now in
    let limit = c.args.limit in
    let mask = c.args.mask in
    let old = c.args.row.now in
    let rows = c.args.rows.now in
    let kept = c.store.new.self in
    let begun = c.seed.new.row in
    let done = c.exhaust.new.row in
    let found : FindsMore old.found begun.found = subst (λ (f : Found). FindsMore f begun.found) c.clear.ensures.found c.seed.ensures.found in
    let later : FindsMore old.found done.found = FindsMore-trans old.found begun.found done.found found c.exhaust.ensures.fell.found in
    let label = table_of rows old in
    let left : 1 * 2 ^ length terminals % 4294967296 - 1 - mask ≡ all_of terminals - mask = ap (λ n. n - 1 - mask) (single_of (length terminals) c.requires.few) in
    let row : IsRowFor s pieces terminals (rest_of terminals low mask) limit label mask (number_in done) =
    subst (λ m. IsRowFor s pieces terminals (low m) limit label mask (number_in done)) left
    (row_for s pieces terminals low label _ limit mask rows begun done c.requires.table (found.size ∙ c.requires.size) (λ m v. sym (kept_same rows old.found begun.found m v found (c.requires.kept m)))
    c.seed.ensures.seeded c.seed.ensures.alone c.seed.ensures.splits c.exhaust.ensures.fell c.exhaust.ensures.search c.exhaust.ensures.relaxed) in
    table_more s pieces terminals low label (table_of kept done) limit mask (number_in done) c.requires.some c.requires.table row
    (λ m v some apart. c.store.ensures.others m (index_in done.found v) some apart ∙ kept_same rows old.found done.found m v later (c.requires.kept m))
    (λ v. c.store.ensures.stored (index_in done.found v) ∙ ap (λ (xs : List ℕ). get_or xs (index_in done.found v) far) c.numbers.ensures ∙ taken_same done.numbers.items done.found.len (index_in done.found v) done.parts.beyond)
    (λ m v. kept_limit kept m (index_in done.found v))
