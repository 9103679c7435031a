use Rattle.std.proofs.Common.{ℕ, ◌≡◌, ◌-◌, ◌<◌, false, List, Option, Some, None, IsSome, Result, Ok, Err, IfOk, inl, inr, refl, subst, arith}
use Rattle.std.specs.Bool.{IsTrue}
use Rattle.grid_base.specs.declared.piece.Piece.{Piece}
use Rattle.grid_base.specs.declared.size.Size.{Size}
use Rattle.grid_base.specs.declared.vertex.Vertex.{Vertex}
use Rattle.label_search.specs.Searches.{IsBehind}
use Rattle.steiner_tables.specs.Tables.{IsAlone, IsSplit, IsReachedBy}
use Rattle.std.specs.Option.{IfSome}
use Rattle.grid_base.specs.declared.no_memory.NoMemory.{NoMemory}
use Rattle.shortest_paths.specs.LabelWords.{label_of}
use Rattle.steiner_tables.proofs.Masks.{parts_sum}
use Rattle.steiner_exact.specs.Reading.{IsSplitBy, IsReadOn}
use Rattle.steiner_exact.proofs.TreesRead.{read_end, read_both}
use Rattle.steiner_exact.proofs.reading.+read_part.Goals as goal

pub returns-then-is_alone : goal.returns-then-is_alone
returns-then-is_alone g t c =
    read_end (g.W.Weights.size c.args.weights.now) (g.W.Weights.pieces c.args.weights.now) c.args.terminals.now c.args.mask (label_of c.args.labels.now c.args.mask) c.args.v.0 c.in_ok-here.here.0
    c.args.tree.now.items c.follow.new.tree.items c.in_ok-here.ensures.vertex (c.if-is_alone.ensures.0 refl) c.in_ok-here.ensures.leads

-- a number that was reached neither at a terminal alone nor from a neighbour was reached by a split
split_found : (s : Size) (pieces : List (Piece × ℕ)) (terminals : List Vertex) (number : ℕ → ℕ → ℕ) (mask v : ℕ) (o : Option ℕ) → IsReachedBy s pieces terminals number mask v → ¬ IsAlone terminals mask v → ¬ IsBehind s pieces (number mask) v →
    (o ≡ None → ¬ IsSplit number mask v) → IsSome o
split_found s pieces terminals number mask v (Some one) reached alone behind none = refl
split_found s pieces terminals number mask v None (inl is) alone behind none = absurd (alone is)
split_found s pieces terminals number mask v None (inr (inl is)) alone behind none = absurd (behind is)
split_found s pieces terminals number mask v None (inr (inr is)) alone behind none = absurd (none refl is)

pub unwrap-one-requires : goal.unwrap-one-requires
unwrap-one-requires g t c =
    let s = g.W.Weights.size c.args.weights.now in
    let pieces = g.W.Weights.pieces c.args.weights.now in
    let number = label_of c.args.labels.now in
    let here = c.in_ok-here.here.0 in
    split_found s pieces c.args.terminals.now number c.args.mask here c.split_of.result (c.requires.reached c.args.mask here c.requires.some (omega arith) c.in_ok-here.ensures.kept)
    (λ alone. let yes : IsTrue false = c.if-is_alone.ensures.1 alone in cc) c.in_ok-here.ensures.end c.split_of.ensures.none

pub read_part-requires : goal.read_part-requires
read_part-requires g t c κs within =
    let split : IsSplitBy (label_of c.args.labels.now) c.unwrap-one.result (c.args.mask - c.unwrap-one.result) c.args.mask c.in_ok-here.here.0 =
    subst (λ (o : Option ℕ). IfSome o (λ one. IsSplitBy (label_of c.args.labels.now) one (c.args.mask - one) c.args.mask c.in_ok-here.here.0)) c.unwrap-one.ensures c.split_of.ensures.some in
    let sum = parts_sum c.unwrap-one.result (c.args.mask - c.unwrap-one.result) c.args.mask split.parts in
    let less : c.unwrap-one.result < c.args.mask = omega (arith, sum, split.parts.others) in
    let q = c.requires in (
      omega (arith, less, c.decreases),
      (
        within,
        (
          q.size,
          (
            q.positive,
            (
              q.few,
              (
                split.parts.some,
                (
                  omega (arith, less, q.mask),
                  (
                    c.in_ok-here.ensures.vertex,
                    (
                      omega (arith, less, q.room),
                      (omega (arith, split.less, c.in_ok-here.ensures.kept), (λ mask v some below kept. q.reached mask v some (omega (arith, below, less)) kept)),
                    ),
                  ),
                ),
              ),
            ),
          ),
        ),
      ),
    )

pub read_part-requires-2 : goal.read_part-requires-2
read_part-requires-2 g t c κs within =
    let split : IsSplitBy (label_of c.args.labels.now) c.unwrap-one.result (c.args.mask - c.unwrap-one.result) c.args.mask c.in_ok-here.here.0 =
    subst (λ (o : Option ℕ). IfSome o (λ one. IsSplitBy (label_of c.args.labels.now) one (c.args.mask - one) c.args.mask c.in_ok-here.here.0)) c.unwrap-one.ensures c.split_of.ensures.some in
    let sum = parts_sum c.unwrap-one.result (c.args.mask - c.unwrap-one.result) c.args.mask split.parts in
    let less : c.args.mask - c.unwrap-one.result < c.args.mask = omega (arith, sum, split.parts.some) in
    let q = c.requires in (
      omega (arith, less, c.decreases),
      (
        within,
        (
          q.size,
          (
            q.positive,
            (
              q.few,
              (
                split.parts.others,
                (
                  omega (arith, less, q.mask),
                  (
                    c.in_ok-here.ensures.vertex,
                    (
                      omega (arith, less, q.room),
                      (omega (arith, split.less, c.in_ok-here.ensures.kept), (λ mask v some below kept. q.reached mask v some (omega (arith, below, less)) kept)),
                    ),
                  ),
                ),
              ),
            ),
          ),
        ),
      ),
    )

-- what follows from an answer
on_ok : (r : Result Unit NoMemory) (P Q : Type 0) → (P → Q) → IfOk r (λ _. P) → IfOk r (λ _. Q)
on_ok (Ok x) P Q follows is = follows is
on_ok (Err e) P Q follows is = tt

pub returns : goal.returns
returns g t c =
    let s = g.W.Weights.size c.args.weights.now in
    let pieces = g.W.Weights.pieces c.args.weights.now in
    let terminals = c.args.terminals.now in
    let number = label_of c.args.labels.now in
    let one = c.unwrap-one.result in
    let mask = c.args.mask in
    let here = c.in_ok-here.here.0 in
    let split : IsSplitBy number one (mask - one) mask here =
    subst (λ (o : Option ℕ). IfSome o (λ one. IsSplitBy number one (mask - one) mask here)) c.unwrap-one.ensures c.split_of.ensures.some in
    let first : IsReadOn s pieces terminals one here (number one here) c.follow.new.tree.items c.read_part.new.tree.items = c.in_ok-read_part.ensures in
    on_ok c.read_part-2.result (IsReadOn s pieces terminals (mask - one) here (number (mask - one) here) c.read_part.new.tree.items c.read_part-2.new.tree.items)
    (IsReadOn s pieces terminals mask c.args.v.0 (number mask c.args.v.0) c.args.tree.now.items c.read_part-2.new.tree.items)
    (λ second.
    read_both s pieces terminals one (mask - one) mask (number mask) c.args.v.0 here (number one here) (number (mask - one) here)
    c.args.tree.now.items c.follow.new.tree.items c.read_part.new.tree.items c.read_part-2.new.tree.items split.parts split.less c.in_ok-here.ensures.leads first second)
    c.read_part-2.ensures
