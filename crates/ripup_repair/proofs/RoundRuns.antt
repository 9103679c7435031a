-- Rounds of repair, one after another.
use Rattle.std.proofs.Common.{◌≡◌, ◌≢◌, ℕ, zero, suc, ◌+◌, ◌-◌, ◌≤◌, ◌<◌, List, [], ◌∷◌, ◌++◌, length, min, replicate}
use Rattle.std.proofs.Common.{Vec, Global, slice_index, slice_index_or, Option, refl, sym, ◌∙◌, ap, subst, arith, ⊎_elim}
use Rattle.ripup_repair.proofs.Common.{fill_by_all, flat_map, range_with_len, cases_lt, append_assoc, append-nil, All-nil}
use Rattle.ripup_repair.proofs.Common.{All-cons, get_or_from_slice_get, same_Some, slice_get_within, TableId, Piece, At, Design}
use Rattle.ripup_repair.proofs.Common.{entries, Holding, IsShare, load_list, load_on, IsRouting, load_list-at, load_list-long}
use Rattle.ripup_repair.proofs.Common.{IsRepairResult, IsRepairRound, IsRepairRun, routing_overflow, AreRoundsDone, HasLoadOf}
use Rattle.ripup_repair.proofs.Common.{IsRoundDone}
use Rattle.edge_prices.specs.Vectors.{IsLoadList}
use Rattle.routing_stages.specs.declared.chosen.Chosen.{Chosen}
use Rattle.routing_stages.specs.declared.routed.Routed.{Routed}
use Rattle.routing_stages.specs.declared.settings.Settings.{Settings}
use Rattle.routing_stages.specs.Whole.{IsWholeChosen, IsWholeShare}
use Rattle.routing_passes.proofs.WorkerSteps.{zeros_are_loads}
use Rattle.ripup_repair.specs.declared.left.Left.{Left}
use Rattle.ripup_repair.specs.declared.repaired.Repaired.{Repaired}
use Rattle.ripup_repair.specs.declared.routing.Routing.{Routing}
use Rattle.ripup_repair.specs.RepairHistories.{IsRepaired, repair_history, round_history}

-- what is so of the first number and of all behind it
abbrev pub from_first : (P : ℕ → Type 0) → P 0 → ((k : ℕ) → P (suc k)) → (k : ℕ) → P k
from_first P first behind zero = first
from_first P first behind (suc k) = behind k

-- what is so of the first of a list and of all behind it
among : {X : Type 0} (P : ℕ → X → Type 0) (x : X) (xs : List X) → P 0 x → ((k : ℕ) (y : X) → At xs k y → P (suc k) y)
    → (k : ℕ) (y : X) → At (x ∷ xs) k y → P k y
among P x xs first behind zero y at = subst (P 0) (same_Some x y at) first
among P x xs first behind (suc k) y at = behind k y at

-- there was no overflow, or no round was left
pub none_done : {d : Design} {left : Left} {old : Routing} → 1 ≤ left.workers
    → (0 < left.rounds → routing_overflow d old.trees.items ≡ 0) → HasLoadOf d old.table old.trees.items old.share
    → AreRoundsDone d left old (record { routing = old; rounds = 0; least = left.least })
none_done {d} {left} {old} some over has = record {
  later = [];
  run = record {
    some = some;
    read = λ round start. replicate (entries d.grid) 0;
    read_loads = λ round start. zeros_are_loads d.grid;
    seen = λ round turn. replicate (entries d.grid) 0;
    each = λ round before after at next. absurd (omega (arith, slice_get_within (old.trees.items ∷ []) (round + 1) after next));
    most = omega arith;
    goes_on = λ round t at more. absurd (omega (arith, more));
    ends = among (λ round t. round + 1 ≡ 1 → round < left.rounds → routing_overflow d t ≡ 0) old.trees.items [] (λ last. over)
        (λ k t at. absurd (omega (arith, slice_get_within [] k t at)));
  };
  count = refl;
  routings = All-nil (IsRouting d.grid d.nets);
  table = refl;
  share = λ t at. subst (λ (x : List (List Piece)). HasLoadOf d old.table x old.share) (same_Some old.trees.items t at) has;
  history = sym (append-nil old.share.party.history);
  within = omega arith;
  better = λ less. absurd (omega (arith, less));
  none = λ equal. (refl, refl, λ k t at. absurd (omega (arith, slice_get_within [] k t at)));
}

-- what f gives along a range, one further on
flat_map-shift : {A : Type 0} (f : ℕ → List A) (a n : ℕ)
    → flat_map f (range_with_len (a + 1) n) ≡ flat_map (λ k. f (suc k)) (range_with_len a n)
flat_map-shift f a zero = refl
flat_map-shift f a (suc n) =
    let here : a + 1 ≡ suc a = omega arith in
    ap (λ k. f k ++ flat_map f (range_with_len (a + 1 + 1) n)) here
    ∙ ap (λ rest. f (suc a) ++ rest) (flat_map-shift f (a + 1) n)

-- the history of a round and of the rounds behind it
history-first : (d : Design) (workers : ℕ) (before : List (List Piece)) (routings : List (List (List Piece)))
    (first : ℕ → List ℕ) (read : ℕ → ℕ → List ℕ) (rounds : ℕ)
    → repair_history d workers (before ∷ routings) (from_first (λ _. ℕ → List ℕ) first read) (suc rounds)
    ≡ round_history d workers before first ++ repair_history d workers routings read rounds
history-first d workers before routings first read rounds =
    ap (λ rest. round_history d workers before first ++ rest)
    (flat_map-shift (λ round. round_history d workers (slice_index_or (before ∷ routings) round [])
    (from_first (λ _. ℕ → List ℕ) first read round)) 0 rounds)

-- a round more at the front of a run
abbrev run_first : (d : Design) (workers : ℕ) (budget : Option ℕ) (rounds : ℕ) (before after : List (List Piece))
    (later : List (List (List Piece))) (read seen : ℕ → List ℕ) → 0 < rounds → 0 < routing_overflow d before
    → IsRepairRound d workers budget before after read seen → ((start : ℕ) → IsLoadList d.grid (read start))
    → IsRepairRun d workers budget (rounds - 1) (after ∷ later) → IsRepairRun d workers budget rounds (before ∷ after ∷ later)
run_first d workers budget rounds before after later read seen left over round loads run =
    let routings : List (List (List Piece)) = before ∷ after ∷ later in
    let reads : ℕ → ℕ → List ℕ = from_first (λ _. ℕ → List ℕ) read run.read in
    let sights : ℕ → ℕ → List ℕ = from_first (λ _. ℕ → List ℕ) seen run.seen in
    record {
      some = run.some;
      read = reads;
      read_loads = from_first (λ k. (start : ℕ) → IsLoadList d.grid (reads k start)) loads run.read_loads;
      seen = sights;
      each = from_first (λ k. (b a : List (List Piece)) → At routings k b → At routings (k + 1) a
          → IsRepairRound d workers budget b a (reads k) (sights k))
          (λ b a at next. subst (λ (x : List (List Piece)). IsRepairRound d workers budget x a read seen) (same_Some before b at)
          (subst (λ (x : List (List Piece)). IsRepairRound d workers budget before x read seen) (same_Some after a next) round))
          (λ k b a at next. let further : suc k + 1 ≡ suc (k + 1) = omega arith in
          run.each k b a at (subst (λ (j : ℕ). At routings j a) further next));
      most = omega (arith, run.most, left);
      goes_on = among (λ k t. k + 1 < length routings → 0 < routing_overflow d t) before (after ∷ later) (λ more. over)
          (λ k t at more. run.goes_on k t at (omega (arith, more)));
      ends = among (λ k t. k + 1 ≡ length routings → k < rounds → routing_overflow d t ≡ 0) before (after ∷ later)
          (λ last less. absurd (omega (arith, last)))
          (λ k t at last less. run.ends k t at (omega (arith, last)) (omega (arith, less)));
    }

-- the first of least overflow is one of the rounds behind the first
result_behind : (d : Design) (after : List (List Piece)) (later : List (List (List Piece))) (trees : List (List Piece))
    → routing_overflow d trees < routing_overflow d after → IsRepairResult d later trees
    → IsRepairResult d (after ∷ later) trees
result_behind d after later trees less result = record {
  round = suc result.round;
  stands = result.stands;
  least = among (λ k t. routing_overflow d trees ≤ routing_overflow d t) after later (omega (arith, less)) result.least;
  first = among (λ k t. k < suc result.round → routing_overflow d trees < routing_overflow d t) after later (λ early. less)
      (λ k t at early. result.first k t at (omega (arith, early)));
}

-- or it is the first
result_first : (d : Design) (after : List (List Piece)) (later : List (List (List Piece))) (trees : List (List Piece))
    → trees ≡ after → ((k : ℕ) (t : List (List Piece)) → At later k t → routing_overflow d after ≤ routing_overflow d t)
    → IsRepairResult d (after ∷ later) trees
result_first d after later trees same none = rw same (record {
  round = 0;
  stands = refl;
  least = among (λ k t. routing_overflow d after ≤ routing_overflow d t) after later (omega arith) none;
  first = λ k t at early. absurd (omega (arith, early));
})

-- what some rounds made of a routing, from the first of them on
pub more_done : {d : Design} {left : Left} {old mid : Routing} {over : ℕ} {r : Repaired} (final : Vec (List Piece) Global)
    → 0 < left.rounds → 0 < routing_overflow d old.trees.items → over ≡ routing_overflow d mid.trees.items
    → IsRoundDone d left.workers left.budget old.table old.share mid.share old.trees.items mid.trees.items
    → mid.table ≡ old.table
    → AreRoundsDone d (record left { rounds = left.rounds - 1; overflow = over; least = min left.least over }) mid r
    → (over < left.least → mid.loads.items ≡ load_list d.grid d.nets mid.trees.items)
    → (left.least ≤ over → mid.loads.items ≡ old.loads.items)
    → (r.least ≡ left.least → final.items ≡ old.trees.items) → (r.least ≢ left.least → final.items ≡ r.routing.trees.items)
    → AreRoundsDone d left old
    (record { routing = record r.routing { trees = final }; rounds = r.rounds + 1; least = r.least })
more_done {d} {left} {old} {mid} {over} {r} final some positive is round table done better none back stay =
    let before : List (List Piece) = old.trees.items in
    let after : List (List Piece) = mid.trees.items in
    let next : r.rounds + 1 ≡ suc r.rounds = omega arith in
    let routings : List (List (List Piece)) = after ∷ done.later in
    let reads : ℕ → ℕ → List ℕ = from_first (λ _. ℕ → List ℕ) round.read done.run.read in
    record {
      later = routings;
      run = run_first d left.workers left.budget left.rounds before after done.later round.read round.seen some positive
          round.round round.read_loads done.run;
      count = omega (arith, done.count);
      routings = All-cons (IsRouting d.grid d.nets) after done.later round.routing done.routings;
      table = done.table ∙ table;
      share = λ t at. rw table at (done.share t (subst (λ (k : ℕ). At (before ∷ routings) k t) next at));
      history = done.history
          ∙ ap (λ h. h ++ repair_history d left.workers routings done.run.read r.rounds) round.history
          ∙ append_assoc old.share.party.history (round_history d left.workers before round.read)
          (repair_history d left.workers routings done.run.read r.rounds)
          ∙ ap (λ h. old.share.party.history ++ h)
          (sym (history-first d left.workers before routings round.read done.run.read r.rounds))
          ∙ ap (λ k. old.share.party.history ++ repair_history d left.workers (before ∷ routings) reads k) (sym next);
      within = omega (arith, done.within);
      better = λ less.
          let its : final.items ≡ r.routing.trees.items = stay (λ equal. omega (arith, equal, less)) in
          rw its (⊎_elim
          (λ (lower : r.least < min left.least over).
          let best = done.better lower in
          (result_behind d after done.later _ (omega (arith, best.1, lower, is)) best.0, best.1, best.2))
          (λ (equal : min left.least over ≤ r.least).
          let last = done.none (omega (arith, equal, done.within)) in
          let under : over < left.least = omega (arith, less, equal) in (
            result_first d after done.later _ last.0 (λ k t at. omega (arith, last.2 k t at, under, is)),
            ap (routing_overflow d) last.0 ∙ omega (arith, is, equal, under, done.within),
            last.1 ∙ better under ∙ ap (load_list d.grid d.nets) (sym last.0),
          ))
          (cases_lt r.least (min left.least over)));
      none = λ equal.
          let last = done.none (omega (arith, equal, done.within)) in
          let above : left.least ≤ over = omega (arith, equal, done.within) in (
            back equal,
            last.1 ∙ none above,
            among (λ k t. left.least ≤ routing_overflow d t) after done.later (omega (arith, is, above))
                (λ k t at. omega (arith, last.2 k t at, above)),
          );
    }

-- the one share has the load of the sets, entry by entry: its list is that of their loads
pub whole_share : (d : Design) (table : TableId) (trees : List (List Piece)) (share : Holding) → HasLoadOf d table trees share
    → IsShare share
    → share.table.words ≡ entries d.grid → IsWholeShare table (load_list d.grid d.nets trees) share
whole_share d table trees share has is words = record {
  of_table = has.of_table;
  allot = has.allot;
  shares = fill_by_all (load_on d.grid d.nets trees) share.party.shares (entries d.grid) 0 (is.wide.shares ∙ words) has.loads;
}

-- what a pick handed on has a table with a word for each entry
pub whole_words : {d : Design} {chosen : Chosen} → IsWholeChosen d chosen → IsShare chosen.share
    → chosen.table.words ≡ entries d.grid
whole_words {d = d} {chosen = chosen} whole is =
    sym (ap (λ (t : TableId). t.words) whole.share.of_table)
    ∙ sym is.wide.shares
    ∙ ap length (whole.share.shares ∙ whole.loads)
    ∙ load_list-long d.grid d.nets chosen.trees

-- and a share with the load of its sets
pub whole_load : {d : Design} {chosen : Chosen} → IsWholeChosen d chosen → HasLoadOf d chosen.table chosen.trees chosen.share
whole_load {d = d} {chosen = chosen} whole = record {
  of_table = whole.share.of_table;
  allot = whole.share.allot;
  loads = λ r inside. ap (λ (l : List ℕ). slice_index l r) (whole.share.shares ∙ whole.loads)
      ∙ load_list-at d.grid d.nets chosen.trees r inside;
}

-- the result of rounds from the chosen sets on, which is a routing, with its loads
pub is_result : {d : Design} {left : Left} {old : Routing} {r : Repaired} → (done : AreRoundsDone d left old r)
    → left.least ≡ routing_overflow d old.trees.items → old.loads.items ≡ load_list d.grid d.nets old.trees.items
    → IsRouting d.grid d.nets old.trees.items
    → IsRepairResult d (old.trees.items ∷ done.later) r.routing.trees.items
    × (r.routing.loads.items ≡ load_list d.grid d.nets r.routing.trees.items) × IsRouting d.grid d.nets r.routing.trees.items
is_result {d} {left} {old} {r} done is loads first =
    let after : List (List Piece) = r.routing.trees.items in
    let routings : List (List (List Piece)) = old.trees.items ∷ done.later in
    let found : IsRepairResult d routings after × (r.routing.loads.items ≡ load_list d.grid d.nets after) = ⊎_elim
    (λ (less : r.least < left.least).
    let best = done.better less in
    (result_behind d _ done.later after (omega (arith, best.1, less, is)) best.0, best.2))
    (λ (more : left.least ≤ r.least).
    let none = done.none (omega (arith, more, done.within)) in (
      result_first d _ done.later after none.0 (λ k t at. omega (arith, none.2 k t at, is)),
      none.1 ∙ loads ∙ ap (load_list d.grid d.nets) (sym none.0),
    ))
    (cases_lt r.least left.least) in (
      found.0,
      found.1,
      subst (λ (ts : List (List Piece)). IsRouting d.grid d.nets ts)
          (get_or_from_slice_get routings found.0.round after after found.0.stands)
          (All-cons (IsRouting d.grid d.nets) _ done.later first done.routings found.0.round after
          (slice_get_within routings found.0.round after found.0.stands)),
    )

-- so what is handed on is the result of a repair run
pub is_repaired : {d : Design} {workers : ℕ} {settings : Settings} {chosen : Chosen} {list : Vec (List Piece) Global} {over : ℕ}
    {x : Repaired} (r : Routed) → (done : AreRoundsDone d
    (record { workers = workers; budget = settings.budget; rounds = settings.rounds; overflow = over; least = over })
    (record { table = chosen.table; share = chosen.share; trees = list; loads = chosen.loads }) x) → list.items ≡ chosen.trees
    → IsRepairResult d (list.items ∷ done.later) x.routing.trees.items → IsShare x.routing.share
    → chosen.table.words ≡ entries d.grid → r.table ≡ x.routing.table → r.share ≡ x.routing.share → r.rounds ≡ x.rounds
    → r.trees ≡ x.routing.trees.items → IsRepaired d workers settings chosen r
is_repaired {d} {chosen} {list} {x} r done begins result valid words table share rounds trees = record {
  routings = list.items ∷ done.later;
  run = done.run;
  begins = rw begins refl;
  result = rw trees result;
  rounds = omega (arith, done.count, rounds);
  last = λ ts at.
      let has = done.share ts (subst (λ (k : ℕ). At (list.items ∷ done.later) k ts) rounds at) in
      rw (table ∙ done.table, share) (whole_share d chosen.table ts x.routing.share has valid
      (ap (λ (t : TableId). t.words) has.of_table ∙ words));
  history = rw (share, rounds) done.history;
}
