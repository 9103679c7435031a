-- When the number of a vertex is at most the weight of each set that joins it to the source.
use Rattle.std.proofs.Common.{◌≡◌, ℕ, ◌+◌, ◌<◌, ◌≤◌, List, subst, ⊎_elim, arith}
use Rattle.std.proofs.lemmas.Bool.{cases_lt}
use Rattle.grid_base.specs.declared.piece.Piece.{Piece}
use Rattle.grid_base.specs.declared.size.Size.{Size}
use Rattle.grid_base.specs.Walks.{WalkBetween}
use Rattle.grid_base.proofs.Pieces.{connects_back}
use Rattle.grid_graph.specs.Weighed.{IsAllowed}
use Rattle.label_search.specs.Runs.{IsRelaxedWithin}
use Rattle.label_search.specs.Searches.{IsLow, known}
use Rattle.label_search.specs.Sets.{IsSetOf, RisesSlowly, weight}
use Rattle.label_search.proofs.Law.{rises_by_weight}

refuted : (m n : ℕ) → ¬ (n < m) → m ≤ n
refuted m n none = ⊎_elim (λ less. absurd (none less)) (λ le. le) (cases_lt n m)

-- it rises slowly where all that waits has a key of at least x and all else is relaxed within a limit that x is not past
pub known_slow : (s : Size) (pieces : List (Piece × ℕ)) (num rest : ℕ → ℕ) (limit : ℕ) (Waiting : ℕ → Type 0) (x : ℕ)
    → RisesSlowly s pieces rest → ((v : ℕ) → ¬ Waiting v → IsRelaxedWithin s pieces rest limit num v)
    → ((v : ℕ) → Waiting v → x ≤ num v + rest v) → x ≤ limit + 1 →
    RisesSlowly s pieces (known num rest x)
known_slow s pieces num rest limit Waiting x slow settled far inside p k a b weighs connects =
    refuted (known num rest x b) (known num rest x a + k) (λ less.
    let back = slow p k b a weighs (connects_back s p a b connects) in
    let near : num a + rest a < x = omega (arith, less, back) in
    ⊎_elim
    (λ taken. omega (arith, less, back, taken, near))
    (λ refused. omega (arith, less, back, refused, inside, near))
    (settled a (λ waits. omega (arith, near, far a waits)) p k b weighs connects))

-- where no key is below x, and neither is the number of the goal with what is still to go, a set that joins it weighs as much
pub least_past : (s : Size) (pieces : List (Piece × ℕ)) (num rest : ℕ → ℕ) (limit : ℕ) (Waiting : ℕ → Type 0)
    (source goal x : ℕ) → RisesSlowly s pieces rest → ((v : ℕ) → ¬ Waiting v → IsRelaxedWithin s pieces rest limit num v) →
    ((v : ℕ) → Waiting v → x ≤ num v + rest v) → x ≤ limit + 1 → num source ≡ 0 → x ≤ num goal + rest goal
    → (set : List (Piece × ℕ)) → IsSetOf pieces set → WalkBetween s (IsAllowed set) source goal → x ≤ weight set + rest goal
least_past s pieces num rest limit Waiting source goal x slow settled far inside start past set is walk =
    omega (
      arith,
      start,
      past,
      rises_by_weight s pieces (known num rest x)
          (known_slow s pieces num rest limit Waiting x slow settled far inside) set is.allowed source goal walk,
    )

-- a number that no key is below is at most the weight of each set that joins its vertex
pub least_of_all : (s : Size) (pieces : List (Piece × ℕ)) (num rest : ℕ → ℕ) (limit : ℕ) (Waiting : ℕ → Type 0)
    (source goal : ℕ) → RisesSlowly s pieces rest → ((v : ℕ) → ¬ Waiting v → IsRelaxedWithin s pieces rest limit num v) →
    ((v : ℕ) → Waiting v → num goal + rest goal ≤ num v + rest v) → num goal + rest goal ≤ limit + 1 → num source ≡ 0
    → IsLow s pieces source num goal
least_of_all s pieces num rest limit Waiting source goal slow settled far inside start set is walk =
    omega (
      arith,
      least_past s pieces num rest limit Waiting source goal (num goal + rest goal) slow settled far inside start
          (omega arith) set is walk,
    )

-- a bound of weights of the same size and pieces
pub RisesSlowly-as : (s t : Size) (pieces others : List (Piece × ℕ)) (rest : ℕ → ℕ) → t ≡ s → others ≡ pieces
    → RisesSlowly t others rest → RisesSlowly s pieces rest
RisesSlowly-as s t pieces others rest size same slow =
    subst (λ (x : Size). RisesSlowly x pieces rest) size (subst (λ (xs : List (Piece × ℕ)). RisesSlowly t xs rest) same slow)
