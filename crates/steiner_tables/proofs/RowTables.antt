-- The table with one more row.
use Rattle.std.proofs.Common.{◌≡◌, ◌≢◌, ℕ, ◌+◌, ◌-◌, ◌<◌, ◌≤◌, ◌⊎◌, List, [], ◌∷◌, length, get_or, take, sym, ◌∙◌, ap, subst, inl, inr, ⊎_elim, arith}
use Rattle.std.proofs.lemmas.Bool.{cases_eq, cases_lt}
use Rattle.std.proofs.lemmas.List.{get_or-take, length-take}
use Rattle.std.proofs.Math.ListN.{get_or-eq_default}
use Rattle.std.proofs.lemmas.Nat.{pow_pos}
use Rattle.std.proofs.lemmas.Option.{slice_get_within}
use Rattle.grid_base.specs.declared.piece.Piece.{Piece}
use Rattle.grid_base.specs.declared.size.Size.{Size}
use Rattle.grid_base.specs.declared.vertex.Vertex.{Vertex}
use Rattle.grid_base.specs.Lists.{At}
use Rattle.grid_base.specs.Numbers.{IsVertex}
use Rattle.steiner_tables.specs.declared.kept_rows.KeptRows.{KeptRows}
use Rattle.label_search.specs.declared.row.Row.{Row}
use Rattle.label_search.specs.Founds.{index_in}
use Rattle.steiner_tables.specs.Kept.{kept_in, kept_len}
use Rattle.steiner_tables.specs.Masks.{single, AreParts}
use Rattle.label_search.specs.Paths.{IsPath}
use Rattle.label_search.specs.Rows.{size_in, number_in}
use Rattle.steiner_tables.specs.RowWork.{table_of, IsSum, IsSeeded, AreOffered, AreSplitsOffered}
use Rattle.label_search.specs.Runs.{IsSearch, IsAnswered, IsRelaxedWithin, FallsFrom}
use Rattle.label_search.specs.Searches.{IsBehind}
use Rattle.label_search.specs.Stamped.{far}
use Rattle.steiner_tables.specs.Tables.{IsPrunedTable, IsReachedBy, IsAlone, HasTree, rest_of}
use Rattle.steiner_tables.proofs.Masks.{parts_sum, parts_turned}
use Rattle.steiner_tables.proofs.Seeding.{sum_as}
use Rattle.label_search.proofs.Relaxing.{still_answered}
use Rattle.steiner_tables.proofs.Trees.{has_alone, has_step, has_union, has_more}

-- the numbers of one mask, where those of smaller masks are in a table
pub record IsRowFor (s : Size) (pieces : List (Piece × ℕ)) (terminals : List Vertex) (rest : ℕ → ℕ) (limit : ℕ) (label : ℕ → ℕ → ℕ) (mask : ℕ) (num : ℕ → ℕ) : Type 0 where
  pub within : (v : ℕ) → num v < far → num v + rest v ≤ limit
  pub above : (v : ℕ) → num v ≤ far
  pub trees : (v : ℕ) → num v < far → HasTree s pieces terminals mask v (num v)
  pub reached : (v : ℕ) → num v < far → IsAlone terminals mask v ⊎ (IsBehind s pieces num v ⊎ IsSum label mask v (num v))
  pub own : (place : ℕ) (v : Vertex) → At terminals place v → single place ≡ mask → IsAnswered num rest limit v.0 0
  pub steps : (v : ℕ) → IsRelaxedWithin s pieces rest limit num v
  pub splits : (one other v : ℕ) → AreParts one other mask → label one v < far → label other v < far → IsAnswered num rest limit v (label one v + label other v)

-- a tree is carried along a path
pub path_tree : (s : Size) (pieces : List (Piece × ℕ)) (terminals : List Vertex) (mask a b x total : ℕ) (path : List Piece) → IsPath s pieces a b total path → HasTree s pieces terminals mask a x → HasTree s pieces terminals mask b (x + total)
path_tree s pieces terminals mask a b x total [] (here, nothing) has =
    subst (λ v. HasTree s pieces terminals mask v (x + total)) here (has_more s pieces terminals mask a x (x + total) has (omega arith))
path_tree s pieces terminals mask a b x total (p ∷ path) (next, weight, left, step, rest, sum) has =
    has_more s pieces terminals mask b (x + weight + left) (x + total)
    (path_tree s pieces terminals mask next b (x + weight) left path rest (has_step s pieces terminals mask a next x weight p has step.weighs step.connects)) (omega (arith, sum))

-- a terminal alone, where the mask is its own
pub alone_tree : (s : Size) (pieces : List (Piece × ℕ)) (terminals : List Vertex) (mask v number : ℕ) → IsVertex s v → IsAlone terminals mask v → HasTree s pieces terminals mask v number
alone_tree s pieces terminals mask v number vertex alone =
    subst (λ m. HasTree s pieces terminals m v number) (sym alone.2)
    (has_more s pieces terminals (single alone.0) v 0 number (has_alone s pieces terminals alone.0 (record { 0 = v }) alone.1 vertex) (omega arith))

-- what a seed stands for
seed_tree : (s : Size) (pieces : List (Piece × ℕ)) (terminals : List Vertex) (low label : ℕ → ℕ → ℕ) (limit mask v number : ℕ) → IsPrunedTable s pieces terminals (mask - 1) low limit far label → IsVertex s v →
    IsAlone terminals mask v ⊎ IsSum label mask v number → HasTree s pieces terminals mask v number
seed_tree s pieces terminals low label limit mask v number table vertex reason = ⊎_elim
    (alone_tree s pieces terminals mask v number vertex)
    (λ sum.
    let whole = parts_sum sum.one sum.other mask sum.parts in
    let first = table.trees sum.one v sum.parts.some (omega (arith, whole, sum.parts.others)) sum.has_one in
    let second = table.trees sum.other v sum.parts.others (omega (arith, whole, sum.parts.some)) sum.has_other in
    has_more s pieces terminals mask v (label sum.one v + label sum.other v) number (has_union s pieces terminals sum.one sum.other mask v (label sum.one v) (label sum.other v) sum.parts first second) sum.less)
    reason

-- the row that a search makes of its seeds
pub row_for : (s : Size) (pieces : List (Piece × ℕ)) (terminals : List Vertex) (low label : ℕ → ℕ → ℕ) (rest : ℕ → ℕ) (limit mask : ℕ) (rows : KeptRows) (begun done : Row) → IsPrunedTable s pieces terminals (mask - 1) low limit far label → size_in begun ≡ s →
    ((m v : ℕ) → label m v ≡ table_of rows begun m v) → IsSeeded rows terminals mask rest limit begun → AreOffered terminals mask rest limit (number_in begun) (length terminals) → AreSplitsOffered (table_of rows begun) mask rest limit (number_in begun) mask →
    FallsFrom s pieces begun done → IsSearch rest limit done → ((v : ℕ) → IsRelaxedWithin s pieces rest limit (number_in done) v) → IsRowFor s pieces terminals rest limit label mask (number_in done)
row_for s pieces terminals low label rest limit mask rows begun done table size same seeded alone splits fell search relaxed =
    let reason : (v : ℕ) → number_in begun v < far → IsAlone terminals mask v ⊎ IsSum label mask v (number_in begun v) = λ v has. ⊎_elim
    (λ is. inl is)
    (λ sum. inr (sum_as (table_of rows begun) label mask v (number_in begun v) same sum))
    (seeded.reasons v has) in
    let split : (one other v : ℕ) → one ≤ other → AreParts one other mask → label one v < far → label other v < far → IsAnswered (number_in done) rest limit v (label one v + label other v) = λ one other v less parts has_one has_other.
    let sum : table_of rows begun one v + table_of rows begun other v ≡ label one v + label other v = omega (arith, same one v, same other v) in
    subst (IsAnswered (number_in done) rest limit v) sum (still_answered (number_in begun) (number_in done) rest limit v (table_of rows begun one v + table_of rows begun other v) fell.falls
    (splits one other v (omega (arith, parts_sum one other mask parts, parts.others)) less parts (omega (arith, same one v, has_one)) (omega (arith, same other v, has_other)))) in
    record {
      within = search.within;
      above = λ v. done.parts.limits (index_in done.found v);
      trees = λ v has.
          let from = fell.from v has in
          let seed = seed_tree s pieces terminals low label limit mask from.before (number_in begun from.before) table (subst (λ (x : Size). IsVertex x from.before) size (seeded.vertices from.before from.numbered)) (reason from.before from.numbered) in
          has_more s pieces terminals mask v (number_in begun from.before + from.length) (number_in done v) (path_tree s pieces terminals mask from.before v (number_in begun from.before) from.length from.path from.is_path seed) from.light;
      reached = λ v has. ⊎_elim
          (λ still. ⊎_elim
          (λ is. inl is)
          (λ sum. inr (inr (subst (IsSum label mask v) (sym still) sum)))
          (reason v (omega (arith, still, has))))
          (λ behind. inr (inl behind))
          (fell.behind v has);
      own = λ place v at is. still_answered (number_in begun) (number_in done) rest limit v.0 0 fell.falls (alone place v (slice_get_within terminals place v at) at is);
      steps = relaxed;
      splits = λ one other v parts has_one has_other. ⊎_elim
          (λ more.
          let turned : label other v + label one v ≡ label one v + label other v = omega arith in
          subst (IsAnswered (number_in done) rest limit v) turned (split other one v (omega (arith, more)) (parts_turned one other mask parts) has_other has_one))
          (λ less. split one other v less parts has_one has_other)
          (cases_lt other one);
    }

-- a table of all smaller masks and the row of a mask are a table of one mask more
pub table_more : (s : Size) (pieces : List (Piece × ℕ)) (terminals : List Vertex) (low label new : ℕ → ℕ → ℕ) (limit mask : ℕ) (num : ℕ → ℕ) → 0 < mask → IsPrunedTable s pieces terminals (mask - 1) low limit far label →
    IsRowFor s pieces terminals (rest_of terminals low mask) limit label mask num → ((m v : ℕ) → 0 < m → m ≢ mask → new m v ≡ label m v) → ((v : ℕ) → new mask v ≡ num v) → ((m v : ℕ) → new m v ≤ far) → IsPrunedTable s pieces terminals mask low limit far new
table_more s pieces terminals low label new limit mask num positive table row others here above =
    let lower : (one other : ℕ) → AreParts one other mask → (one ≢ mask) × (other ≢ mask) = λ one other parts. (λ is. omega (arith, is, parts_sum one other mask parts, parts.others), λ is. omega (arith, is, parts_sum one other mask parts, parts.some)) in
    let at : (P : ℕ → Type 0) (m : ℕ) → m ≡ mask → P mask → P m = λ P m is holds. subst P (sym is) holds in
    record {
      within = λ m v some inside has. ⊎_elim
          (λ is. at (λ n. new n v + rest_of terminals low n v ≤ limit) m is (omega (arith, here v, row.within v (omega (arith, here v, has, ap (λ n. new n v) is)))))
          (λ other. omega (arith, others m v some other, table.within m v some (omega (arith, inside, other)) (omega (arith, others m v some other, has))))
          (cases_eq m mask);
      above = above;
      trees = λ m v some inside has. ⊎_elim
          (λ is. at (λ n. HasTree s pieces terminals n v (new n v)) m is (subst (HasTree s pieces terminals mask v) (sym (here v)) (row.trees v (omega (arith, here v, has, ap (λ n. new n v) is)))))
          (λ other. subst (HasTree s pieces terminals m v) (sym (others m v some other)) (table.trees m v some (omega (arith, inside, other)) (omega (arith, others m v some other, has))))
          (cases_eq m mask);
      reached = λ m v some inside has. ⊎_elim
          (λ is. at (λ n. IsReachedBy s pieces terminals new n v) m is
          (⊎_elim
          (λ alone. inl alone)
          (λ further. inr (⊎_elim
          (λ behind. inl (record { before = behind.before; piece = behind.piece; by = behind.by; connects = behind.connects; weighs = behind.weighs; less = omega (arith, behind.less, here v, here behind.before) }))
          (λ sum.
          let apart = lower sum.one sum.other sum.parts in
          inr (record { one = sum.one; other = sum.other; parts = sum.parts; less = omega (arith, sum.less, here v, others sum.one v sum.parts.some apart.0, others sum.other v sum.parts.others apart.1) }))
          further))
          (row.reached v (omega (arith, here v, has, ap (λ n. new n v) is)))))
          (λ other. ⊎_elim
          (λ alone. inl alone)
          (λ further. inr (⊎_elim
          (λ behind. inl (record { before = behind.before; piece = behind.piece; by = behind.by; connects = behind.connects; weighs = behind.weighs; less = omega (arith, behind.less, others m v some other, others m behind.before some other) }))
          (λ split.
          let whole = parts_sum split.one split.other m split.parts in
          let first = others split.one v split.parts.some (λ same. omega (arith, same, whole, inside, split.parts.others)) in
          let second = others split.other v split.parts.others (λ same. omega (arith, same, whole, inside, split.parts.some)) in
          inr (record { one = split.one; other = split.other; parts = split.parts; less = omega (arith, split.less, others m v some other, first, second) }))
          further))
          (table.reached m v some (omega (arith, inside, other)) (omega (arith, others m v some other, has))))
          (cases_eq m mask);
      own = λ place v is inside. ⊎_elim
          (λ same. at (λ n. (new n v.0 ≡ 0) ⊎ (limit < rest_of terminals low n v.0)) (single place) same
          (⊎_elim (λ taken. inl (omega (arith, taken, here v.0))) (λ refused. inr (omega (arith, refused))) (row.own place v is same)))
          (λ other.
          let some : 0 < single place = pow_pos place in
          ⊎_elim
          (λ zero. inl (others (single place) v.0 some other ∙ zero))
          (λ over. inr over)
          (table.own place v is (omega (arith, inside, other))))
          (cases_eq (single place) mask);
      steps = λ m p k v u some inside weighs connects has. ⊎_elim
          (λ is. at (λ n. (new n u ≤ new n v + k) ⊎ (limit < new n v + k + rest_of terminals low n u)) m is
          (⊎_elim
          (λ taken. inl (omega (arith, taken, here u, here v)))
          (λ refused. inr (omega (arith, refused, here v)))
          (row.steps v p k u weighs connects)))
          (λ other. ⊎_elim
          (λ taken. inl (omega (arith, taken, others m u some other, others m v some other)))
          (λ refused. inr (omega (arith, refused, others m v some other)))
          (table.steps m p k v u some (omega (arith, inside, other)) weighs connects (omega (arith, others m v some other, has))))
          (cases_eq m mask);
      splits = λ one other m v parts inside vertex has_one has_other.
          let whole = parts_sum one other m parts in
          let first = others one v parts.some (λ same. omega (arith, same, whole, inside, parts.others)) in
          let second = others other v parts.others (λ same. omega (arith, same, whole, inside, parts.some)) in
          ⊎_elim
          (λ is. at (λ n. (new n v ≤ new one v + new other v) ⊎ (limit < new one v + new other v + rest_of terminals low n v)) m is
          (⊎_elim
          (λ taken. inl (omega (arith, taken, here v, first, second)))
          (λ refused. inr (omega (arith, refused, first, second)))
          (row.splits one other v (subst (AreParts one other) is parts) (omega (arith, first, has_one)) (omega (arith, second, has_other)))))
          (λ apart.
          let some : 0 < m = omega (arith, whole, parts.some) in
          ⊎_elim
          (λ taken. inl (omega (arith, taken, others m v some apart, first, second)))
          (λ refused. inr (omega (arith, refused, first, second)))
          (table.splits one other m v parts (omega (arith, inside, apart)) vertex (omega (arith, first, has_one)) (omega (arith, second, has_other))))
          (cases_eq m mask);
    }

-- the first numbers of a list, where all others are `far`
pub taken_same : (numbers : List ℕ) (len i : ℕ) → ((j : ℕ) → len ≤ j → get_or numbers j far ≡ far) → get_or (take len numbers) i far ≡ get_or numbers i far
taken_same numbers len i beyond = ⊎_elim
    (λ inside. get_or-take len numbers i far inside)
    (λ past. get_or-eq_default (take len numbers) far (omega (arith, past, length-take len numbers)) ∙ sym (beyond i past))
    (cases_lt i len)

-- no kept number is above `far`
pub kept_limit : (rows : KeptRows) (mask i : ℕ) → kept_in rows mask i ≤ far
kept_limit rows mask i = rows.kept.limits (mask - 1) i

-- the lengths of all rows where one was stored
pub lens_within : (old new : KeptRows) (mask len : ℕ) → kept_len new mask ≤ len → ((other : ℕ) → 0 < other → other ≢ mask → kept_len new other ≡ kept_len old other) → ((m : ℕ) → kept_len old m ≤ len) → (m : ℕ) → kept_len new m ≤ len
lens_within old new mask len here others before m =
    let some : (n : ℕ) → 0 < n → kept_len new n ≤ len = λ n positive. ⊎_elim
    (λ is. subst (λ i. kept_len new i ≤ len) (sym is) here)
    (λ apart. omega (arith, others n positive apart, before n))
    (cases_eq n mask) in
    ⊎_elim
    (λ none. subst (λ i. kept_len new i ≤ len) (sym none) (some 1 (omega arith)))
    (λ apart. some m (omega (arith, apart)))
    (cases_eq m 0)

-- a table without rows
pub table_none : (s : Size) (pieces : List (Piece × ℕ)) (terminals : List Vertex) (low number : ℕ → ℕ → ℕ) (limit : ℕ) → ((m v : ℕ) → number m v ≤ far) → IsPrunedTable s pieces terminals 0 low limit far number
table_none s pieces terminals low number limit above = record {
  within = λ m v some none has. absurd (omega (arith, some, none));
  above = above;
  trees = λ m v some none has. absurd (omega (arith, some, none));
  reached = λ m v some none has. absurd (omega (arith, some, none));
  own = λ place v is none. absurd (omega (arith, none, pow_pos place));
  steps = λ m p k v u some none weighs connects has. absurd (omega (arith, some, none));
  splits = λ one other m v parts none vertex has_one has_other. absurd (omega (arith, none, parts_sum one other m parts, parts.some));
}
