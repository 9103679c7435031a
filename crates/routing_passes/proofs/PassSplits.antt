-- A share that is split for two halves of a pass's workers, and what both halves have done.
use Rattle.std.proofs.Common.{◌≡◌, ℕ, ◌+◌, ◌-◌, ◌*◌, ◌≤◌, ◌<◌, List, ◌++◌, length, slice_index, refl, ◌∙◌, arith, ⊎_elim}
use Rattle.std.proofs.lemmas.Bool.{cases_lt}
use Rattle.std.proofs.lemmas.List.{append_assoc, get_or_past, length-append}
use Rattle.grid_base.specs.declared.piece.Piece.{Piece}
use Rattle.grid_graph.specs.Grids.{entries}
use Rattle.load_core.specs.Parties.{share_at, joined, kept_after_split, split_off, IsPart}
use Rattle.load_core.proofs.Entries.{get_or-minus, get_or-plus}
use Rattle.load_table.specs.Holdings.{Holding, held}
use Rattle.tree_set.specs.Loads.{load_between}
use Rattle.sharing_runs.specs.RepairRuns.{at_positions}
use Rattle.even_parts.proofs.PartStarts.{part_start-le}
use Rattle.routing_passes.specs.Passes.{AreHalves, AreSplit, IsPass, Pass, ServesTurns, least_allotment, old_sets, pass_nets}
use Rattle.routing_passes.specs.Passes.{turns_load, turns_start}
use Rattle.routing_passes.specs.PassTurns.{HadTurns, new_load}
use Rattle.routing_passes.proofs.Ranges.{until}
use Rattle.routing_passes.proofs.Readings.{parts_history-append}
use Rattle.routing_passes.proofs.Sums.{load_between-split, load_on-behind_append, sum_by-both}
use Rattle.routing_passes.proofs.TurnSteps.{AreTurns-append}

-- a later worker's turns don't begin before those of an earlier one
pub turns_start-le : (p : Pass) (a b : ℕ) → 1 ≤ p.workers → a ≤ b → turns_start p a ≤ turns_start p b
turns_start-le p a b some low = part_start-le p.workers (length (pass_nets p)) a b some low

-- the load of all sets in the turns of the workers from one up to another
abbrev pub workers_load : Pass → ℕ → ℕ → ℕ → ℕ
workers_load p first last = turns_load p (turns_start p first) (turns_start p last)

-- what workers of a pass get in a share of their own: the load of all sets in their turns
pub record IsGiven (p : Pass) (middle last : ℕ) (given : List ℕ) : Type 0 where
  pub long : length given ≡ entries p.design.grid
  pub amounts : (r : ℕ) → slice_index given r ≡ workers_load p middle last r

module _ {p : Pass} {first middle last : ℕ} {given : List ℕ} {share : Holding} (pass : IsPass p)
    (range : (first < middle) × (middle < last) × (last ≤ p.workers)) (serves : ServesTurns p first last share)
    (is : IsGiven p middle last given) where
  -- in the turns of all these workers that load is that of both halves
  both_halves : (r : ℕ) → workers_load p first last r ≡ workers_load p first middle r + workers_load p middle last r
  both_halves r =
      let a : ℕ = turns_start p first in
      let m : ℕ = turns_start p middle in
      let b : ℕ = turns_start p last in
      let load : ℕ → ℕ → List (List Piece) → ℕ =
      λ from to trees. load_between p.design.grid (pass_nets p) (at_positions trees p.positions) from to r in
      let split : (trees : List (List Piece)) → load a b trees ≡ load a m trees + load m b trees =
      λ trees. load_between-split p.design.grid (pass_nets p) (at_positions trees p.positions) a m b r
      (turns_start-le p first middle pass.some (omega (arith, range.0)))
      (turns_start-le p middle last pass.some (omega (arith, range.1))) in
      omega (arith, sum_by-both (load a b) (load a m) (load m b) p.earlier split, split p.before)

  -- what is given is no more than the whole share has
  given_within : (r : ℕ) → slice_index given r ≤ share_at r share.party
  given_within r =
      ⊎_elim (λ (within : r < entries p.design.grid). omega (arith, serves.loads r within, is.amounts r, both_halves r))
      (λ (beyond : entries p.design.grid ≤ r). omega (arith, get_or_past given r 0 (omega (arith, beyond, is.long))))
      (cases_lt r (entries p.design.grid))

  -- so it may be split off
  pub may_be_given : IsPart (entries p.design.grid) share.party ((last - middle) * least_allotment) given
  may_be_given = record {
    long = is.long;
    enough = omega (arith, serves.allot, range.0, range.1);
    had = given_within;
    fits = λ r. omega (arith, given_within r, serves.few r, range.1);
    rest = λ r. omega (arith, serves.few r, serves.allot, range.0, range.1);
  }

  -- and then both halves are served
  pub halves_served : AreHalves p first middle last share
      (held share.table (kept_after_split share.party ((last - middle) * least_allotment) given))
      (held share.table (split_off ((last - middle) * least_allotment) given))
  halves_served = record {
    kept = record {
      table = serves.table;
      allot = omega (arith, serves.allot, range.0, range.1);
      whole = λ one. absurd (omega (arith, one, range));
      alone = λ one. absurd (omega (arith, one, range));
      loads = λ r inside. omega
          (arith, get_or-minus share.party.shares given r, serves.loads r inside, is.amounts r, both_halves r);
      few = λ r. omega (arith, get_or-minus share.party.shares given r, serves.few r);
    };
    given = record {
      table = serves.table;
      allot = omega arith;
      whole = λ one. absurd (omega (arith, one, range));
      alone = λ one. absurd (omega (arith, one, range));
      loads = λ r inside. omega (arith, is.amounts r);
      few = λ r. omega (arith, given_within r, serves.few r);
    };
    split = record {
      kept_table = refl;
      other_table = refl;
      allot = omega (arith, serves.allot, range.0, range.1);
      shares = λ r. omega (arith, get_or-minus share.party.shares given r, given_within r);
      kept_history = refl;
      other_history = refl;
    };
  }

-- both halves had their turns, and the shares are joined
pub halves_joined : {p : Pass} {first middle last : ℕ} {old kept other left right : Holding} {s t : List (List Piece)}
    → AreSplit old kept other → HadTurns p first middle kept left s → HadTurns p middle last other right t
    → 1 ≤ p.workers → first ≤ middle → middle ≤ last
    → HadTurns p first last old (held left.table (joined left.party right.party)) (s ++ t)
halves_joined {p} {first} {middle} {last} {left} {right} {s} {t} split one two
    some low high =
    let g = p.design.grid in
    let a : ℕ = turns_start p first in
    let m : ℕ = turns_start p middle in
    let b : ℕ = turns_start p last in
    let before : a ≤ m = turns_start-le p first middle some low in
    let behind : m ≤ b = turns_start-le p middle last some high in
    let histories = parts_history-append p.workers (length (pass_nets p)) one.read two.read first middle last some low high in
    let olds = λ (r : ℕ). load_between-split g (pass_nets p) (old_sets p) a m b r before behind in
    let news : (r : ℕ) → new_load p a (s ++ t) r ≡ new_load p a s r + new_load p m t r =
    λ r. load_on-behind_append g (pass_nets p) a m s t r before one.turns.long in
    record {
      read = until m one.read two.read;
      seen = until m one.seen two.seen;
      turns = AreTurns-append middle some one.turns two.turns;
      history = rw (one.history, two.history, split.kept_history, split.other_history, histories, append_assoc);
      table = one.table ∙ split.kept_table;
      allot = omega (arith, one.allot, two.allot, split.allot);
      shares = λ r. omega (
        arith,
        get_or-plus left.party.shares right.party.shares r,
        one.shares r,
        two.shares r,
        split.shares r,
        news r,
        olds r,
      );
      few = λ r. omega (arith, news r, one.few r, two.few r, length-append s t);
    }
