use Rattle.std.proofs.Common.{◌≡◌, ◌-◌, ◌*◌, ◌^◌, ◌%◌, ◌<◌, ◌≤◌, ◌+◌, ℕ, List, length, get_or, ◌∙◌, ap, subst, arith}
use Rattle.std.proofs.lemmas.List.{length-take}
use Rattle.std.proofs.lemmas.Nat.{pow_pos}
use Rattle.grid_base.specs.declared.vertex.Vertex.{Vertex}
use Rattle.steiner_tables.specs.declared.kept_rows.KeptRows.{KeptRows}
use Rattle.label_search.specs.declared.found.Found.{Found}
use Rattle.label_search.specs.declared.row.Row.{Row}
use Rattle.label_search.specs.Held.{IsHeld}
use Rattle.steiner_tables.specs.Kept.{kept_len}
use Rattle.label_search.specs.Founds.{index_in, FindsMore}
use Rattle.steiner_tables.specs.Masks.{few_terminals, single, all_of}
use Rattle.label_search.specs.Rows.{number_in}
use Rattle.label_search.specs.Stamped.{far}
use Rattle.steiner_tables.specs.RowWork.{IsSeeded, table_of}
use Rattle.label_search.proofs.Finding.{FindsMore-trans}
use Rattle.steiner_tables.proofs.LoneRows.{lone_row, rest_slow, single_below}
use Rattle.steiner_tables.proofs.RowTables.{taken_same, lens_within}
use Rattle.steiner_tables.proofs.Seeding.{seeded_none, seeded_settled, kept_same, single_of}
use Rattle.steiner_tables.proofs.filling.fill_alone.Goals as goal

-- the row from which the search begins
none_yet : (rows : KeptRows) (terminals : List Vertex) (mask : ℕ) (rest : ℕ → ℕ) (limit : ℕ) (old cleared : Row) → ((m : ℕ) → kept_len rows m ≤ old.found.len)
    → cleared.found ≡ old.found → ((i : ℕ) → get_or cleared.numbers.items i far ≡ far) → ((i key : ℕ) → ¬ IsHeld cleared.heap i key) → IsSeeded rows terminals mask rest limit cleared
none_yet rows terminals mask rest limit old cleared kept same erased idle =
    seeded_none rows terminals mask rest limit cleared (λ m. omega (arith, kept m, ap (λ (f : Found). f.len) same))
    (λ v. erased (index_in cleared.found v)) (λ v key held. idle (index_in cleared.found v) key held)

found_more : (old cleared begun done : Found) → cleared ≡ old → FindsMore cleared begun → FindsMore begun done → FindsMore old done
found_more old cleared begun done same first second = FindsMore-trans old begun done (subst (λ (f : Found). FindsMore f begun) same first) second

-- the mask, and that of the other terminals
record AreMasks (n place : ℕ) : Type 0 where
  own : 1 * 2 ^ place % 4294967296 ≡ single place
  all : 1 * 2 ^ n % 4294967296 ≡ 2 ^ n
  below : single place + 1 < 2 ^ n
  some : 0 < single place

masks : (n place : ℕ) → 2 ≤ n → n ≤ few_terminals → place < n → AreMasks n place
masks n place several few inside = record {
  own = single_of place (omega (arith, inside, few));
  all = single_of n few;
  below = single_below n place several inside;
  some = pow_pos place;
}

pub overflow_sub-rest : goal.overflow_sub-rest
overflow_sub-rest g c =
    let are = masks (length c.args.terminals.now) c.args.place c.requires.several c.requires.few c.requires.place in
    omega (arith, are.own, are.all, are.below)

pub invariant_of-rest-clause-some : goal.invariant_of-rest-clause-some
invariant_of-rest-clause-some g c =
    let are = masks (length c.args.terminals.now) c.args.place c.requires.several c.requires.few c.requires.place in
    omega (arith, are.own, are.all, are.below)

pub invariant_of-rest-clause-within : goal.invariant_of-rest-clause-within
invariant_of-rest-clause-within g c =
    let are = masks (length c.args.terminals.now) c.args.place c.requires.several c.requires.few c.requires.place in
    omega (arith, are.own, are.all, are.below, are.some, ap (λ (xs : List Vertex). all_of xs) c.requires.family_terminals)

pub seed_alone-requires-clause-search : goal.seed_alone-requires-clause-search
seed_alone-requires-clause-search g c =
    (none_yet c.args.rows.now c.args.terminals.now 0 _ c.args.limit c.args.row.now c.clear.new.self c.requires.kept c.clear.ensures.found c.clear.ensures.erased c.clear.ensures.idle).search

pub exhaust-requires-clause-settled : goal.exhaust-requires-clause-settled
exhaust-requires-clause-settled g c =
    seeded_settled (g.W.Weights.size c.args.weights.now) (g.W.Weights.pieces c.args.weights.now) c.args.rows.now c.args.terminals.now _ _ c.args.limit c.seed_alone.new.row
    (c.seed_alone.ensures.seeded c.args.rows.now
    (none_yet c.args.rows.now c.args.terminals.now _ _ c.args.limit c.args.row.now c.clear.new.self c.requires.kept c.clear.ensures.found c.clear.ensures.erased c.clear.ensures.idle))

pub store-requires-clause-limits : goal.store-requires-clause-limits
store-requires-clause-limits g c = λ i.
    let done = c.exhaust.new.row in
    omega (arith, ap (λ (xs : List ℕ). get_or xs i far) c.numbers.ensures, taken_same done.numbers.items done.found.len i done.parts.beyond, done.parts.limits i)

pub returns-clause-found : goal.returns-clause-found
returns-clause-found g c = found_more c.args.row.now.found c.clear.new.self.found c.seed_alone.new.row.found c.exhaust.new.row.found c.clear.ensures.found c.seed_alone.ensures.found c.exhaust.ensures.fell.found

pub returns-clause-kept : goal.returns-clause-kept
returns-clause-kept g c =
    let done = c.exhaust.new.row in
    let later = found_more c.args.row.now.found c.clear.new.self.found c.seed_alone.new.row.found done.found c.clear.ensures.found c.seed_alone.ensures.found c.exhaust.ensures.fell.found in
    lens_within c.args.rows.now c.store.new.self _ done.found.len
    (omega (arith, c.store.ensures.count, ap (λ (xs : List ℕ). length xs) c.numbers.ensures, length-take done.found.len done.numbers.items))
    c.store.ensures.other_lens (λ m. omega (arith, c.requires.kept m, later.more))

pub returns-clause-others : goal.returns-clause-others
returns-clause-others g c =
    let done = c.exhaust.new.row in
    let later = found_more c.args.row.now.found c.clear.new.self.found c.seed_alone.new.row.found done.found c.clear.ensures.found c.seed_alone.ensures.found c.exhaust.ensures.fell.found in
    let own = single_of c.args.place (omega (arith, c.requires.place, c.requires.few)) in
    λ m v some apart. c.store.ensures.others m (index_in done.found v) some (λ same. apart (same ∙ own))
    ∙ kept_same c.args.rows.now c.args.row.now.found done.found m v later (c.requires.kept m)

pub returns-clause-alone : goal.returns-clause-alone
returns-clause-alone g c =
    let s = g.W.Weights.size c.args.weights.now in
    let pieces = g.W.Weights.pieces c.args.weights.now in
    let terminals = c.args.terminals.now in
    let family = c.args.family.now in
    let low = g.F.Family.low family in
    let rows = c.args.rows.now in
    let place = c.args.place in
    let kept = c.store.new.self in
    let begun = c.seed_alone.new.row in
    let done = c.exhaust.new.row in
    let mask = 1 * 2 ^ place % 4294967296 in
    let left = 1 * 2 ^ length terminals % 4294967296 - 1 - mask in
    let are = masks (length terminals) place c.requires.several c.requires.few c.requires.place in
    let own : mask ≡ single place = are.own in
    let others : left ≡ all_of terminals - single place = omega (arith, own, are.all) in
    let slow = rest_slow s (g.F.Family.size family) pieces (g.F.Family.pieces family) terminals (g.F.Family.terminals family) low left
    c.requires.family_size c.requires.family c.requires.family_terminals (g.met.F.Family.holds family)
    (omega (arith, others, are.below)) (omega (arith, others, are.below, are.some)) in
    lone_row s pieces terminals low (table_of kept done) c.args.limit place mask left rows begun done own others slow
    (c.seed_alone.ensures.found.size ∙ ap (λ (f : Found). f.size) c.clear.ensures.found ∙ c.requires.size)
    (c.seed_alone.ensures.seeded rows (none_yet rows terminals mask (low left) c.args.limit c.args.row.now c.clear.new.self c.requires.kept c.clear.ensures.found c.clear.ensures.erased c.clear.ensures.idle))
    c.seed_alone.ensures.alone c.exhaust.ensures.fell c.exhaust.ensures.search c.exhaust.ensures.idle c.exhaust.ensures.relaxed
    (λ v. subst (λ m. table_of kept done m v ≡ number_in done v) own
    (omega (
      arith,
      c.store.ensures.stored (index_in done.found v),
      ap (λ (xs : List ℕ). get_or xs (index_in done.found v) far) c.numbers.ensures,
      taken_same done.numbers.items done.found.len (index_in done.found v) done.parts.beyond,
    )))
