-- Goals of a search, and what the first of them that is taken out says of all.
use Rattle.std.proofs.Common.{◌≡◌, ℕ, ◌+◌, ◌<◌, ◌≤◌, List, ⊎_elim, arith}
use Rattle.std.proofs.lemmas.Bool.{cases_lt}
use Rattle.grid_base.specs.declared.piece.Piece.{Piece}
use Rattle.grid_base.specs.declared.size.Size.{Size}
use Rattle.grid_base.specs.declared.vertex.Vertex.{Vertex}
use Rattle.grid_base.proofs.Walks.{walk_vertices}
use Rattle.grid_graph.specs.Weighed.{IsAllowed, AreWithinLimit}
use Rattle.label_search.specs.declared.row.Row.{Row}
use Rattle.label_search.specs.Founds.{index_in, FindsMore, AreFoundFirst}
use Rattle.shortest_paths.specs.Nearest.{IsGoal, NoneIsNearer, IsLeastToGoal, IsFoundGoal, DoGoalsWait}
use Rattle.label_search.specs.Rows.{number_in, Waits, IsWaiting, IsLeastWaiting}
use Rattle.label_search.specs.Runs.{IsSearch, IsSettled}
use Rattle.label_search.specs.Searches.{IsReached}
use Rattle.label_search.specs.Sets.{IsEither, AreApart}
use Rattle.label_search.specs.Stamped.{far}
use Rattle.label_search.proofs.LeastNumbers.{least_past}
use Rattle.label_search.proofs.Forests.{light_part}
use Rattle.label_search.proofs.Sets.{least_found, ends_joined}

-- what was found first was found before
pub goal_before : (old new : Row) (count source v : ℕ) → FindsMore old.found new.found → count ≤ old.found.len
    → IsFoundGoal new count source v → IsFoundGoal old count source v
goal_before old new count source v more room is = ⊎_elim
    (λ found. (omega (arith, is.0, more.kept v found), is.1))
    (λ past. absurd (omega (arith, is.0, room, more.others v past)))
    (cases_lt (index_in old.found v) old.found.len)

-- fewer goals, or a smaller number
pub nearer_of : (s : Size) (pieces : List (Piece × ℕ)) (source : ℕ) (Goal Fewer : ℕ → Type 0) (x y : ℕ)
    → ((v : ℕ) → Fewer v → Goal v) → y ≤ x → NoneIsNearer s pieces source Goal x → NoneIsNearer s pieces source Fewer y
nearer_of s pieces source Goal Fewer x y fewer less is v goal set is_set walk =
    omega (arith, less, is v (fewer v goal) set is_set walk)

-- where all goals wait that have a number, and no key is below this number, none is nearer
none_nearer : (s : Size) (pieces : List (Piece × ℕ)) (limit : ℕ) (r : Row) (count source x : ℕ) → IsSearch (λ _. 0) limit r
    → IsSettled s pieces (λ _. 0) limit r → DoGoalsWait r count source → number_in r source ≡ 0
    → ((v key : ℕ) → IsWaiting r v key → x ≤ key) → x ≤ far → far ≤ limit
    → NoneIsNearer s pieces source (IsFoundGoal r count source) x
none_nearer s pieces limit r count source x search settled waits start least small room v goal set is walk =
    let past : x ≤ number_in r v + 0 = ⊎_elim
    (λ has. let w = waits v goal has in omega (arith, least v w.0 w.1, search.keys v w.0 w.1))
    (λ none. omega (arith, none, small))
    (cases_lt (number_in r v) far) in
    omega (
      arith,
      least_past s pieces (number_in r) (λ _. 0) limit (Waits r) source v x (λ p k a b weighs connects. omega arith) settled
          (λ u w. omega (arith, least u w.0 w.1, search.keys u w.0 w.1)) (omega (arith, small, room)) start past set is walk,
    )

pub taken_nearest : (s : Size) (pieces : List (Piece × ℕ)) (limit : ℕ) (r : Row) (count source at : ℕ)
    → IsSearch (λ _. 0) limit r → IsSettled s pieces (λ _. 0) limit r → DoGoalsWait r count source → number_in r source ≡ 0
    → IsLeastWaiting r at → far ≤ limit → NoneIsNearer s pieces source (IsFoundGoal r count source) (number_in r at)
taken_nearest s pieces limit r count source at search settled waits start first room =
    let key = search.keys at first.key first.waits in
    none_nearer s pieces limit r count source (number_in r at) search settled waits start
    (λ v k held. omega (arith, first.least v k held, key)) (omega (arith, search.numbered at first.key first.waits)) room

pub idle_nearest : (s : Size) (pieces : List (Piece × ℕ)) (limit : ℕ) (r : Row) (count source : ℕ) → IsSearch (λ _. 0) limit r
    → IsSettled s pieces (λ _. 0) limit r → DoGoalsWait r count source → number_in r source ≡ 0
    → ((v key : ℕ) → ¬ IsWaiting r v key) → far ≤ limit → NoneIsNearer s pieces source (IsFoundGoal r count source) far
idle_nearest s pieces limit r count source search settled waits start idle room =
    none_nearer s pieces limit r count source far search settled waits start (λ v key held. absurd (idle v key held))
    (omega arith) room

-- goals that are found first
pub goal_found : (goals : List Vertex) (count : ℕ) (r : Row) (source v : ℕ) → AreFoundFirst goals count r.found
    → IsGoal goals source v → IsFoundGoal r count source v
goal_found goals count r source v first is = (first.first v is.0, is.1)

pub found_goal : (goals : List Vertex) (count : ℕ) (r : Row) (source v : ℕ) → AreFoundFirst goals count r.found
    → IsFoundGoal r count source v → IsGoal goals source v
found_goal goals count r source v first is = (first.in_list v is.0, is.1)

-- the nearest of them
pub nearest_goal : (s : Size) (pieces : List (Piece × ℕ)) (goals : List Vertex) (source v : ℕ) (num : ℕ → ℕ)
    → IsReached s pieces source num → IsGoal goals source v → num v < far
    → NoneIsNearer s pieces source (IsGoal goals source) (num v) → IsLeastToGoal s pieces goals source (num v)
nearest_goal s pieces goals source v num reached goal small nearest =
    let has = reached.joined v (omega (arith, small)) in
    record {
      goal = v;
      is_goal = goal;
      joined = least_found s pieces has.set source v (num v) has.is_set has.walk has.light
          (λ set is walk. nearest v goal set is walk);
      nearest = nearest;
    }

-- where none is nearer than what has no number, none is joined
pub none_joined : (s : Size) (pieces : List (Piece × ℕ)) (goals : List Vertex) (source : ℕ) → AreWithinLimit pieces
    → NoneIsNearer s pieces source (IsGoal goals source) far → (v : ℕ) → IsGoal goals source v
    → AreApart s pieces (IsEither source v)
none_joined s pieces goals source small nearest v goal set is joins =
    let walk = ends_joined s (IsAllowed set) source v joins in
    let light = light_part s pieces set source small is (walk_vertices s (IsAllowed set) source v walk).0 in
    omega (arith, light.light, nearest v goal light.part light.is_set (light.joins source v walk))
