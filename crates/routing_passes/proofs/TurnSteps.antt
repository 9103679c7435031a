-- The turns of nets in a pass, one after another and side by side.
use Rattle.std.proofs.Common.{◌≡◌, ℕ, ◌+◌, ◌≤◌, ◌<◌, List, [], ◌∷◌, ◌++◌, length, slice_range, arith, ⊎_elim}
use Rattle.std.proofs.lemmas.Bool.{cases_lt}
use Rattle.std.proofs.lemmas.List.{length-append}
use Rattle.grid_base.specs.declared.piece.Piece.{Piece}
use Rattle.edge_prices.specs.Vectors.{IsLoadList}
use Rattle.sharing_runs.specs.Parts.{part_start, IsInPart}
use Rattle.even_parts.proofs.PartStarts.{first_start, part_start-le}
use Rattle.routing_passes.proofs.Parts.{not_earlier, one_part}
use Rattle.routing_passes.proofs.Ranges.{until, until-below, until-from, until-all}
use Rattle.routing_passes.proofs.Slices.{slice-first, slice-second}
use Rattle.routing_passes.specs.Passes.{Pass, pass_nets, turns_start}
use Rattle.routing_passes.specs.PassTurns.{AreTurns, IsPassTurn, start_of}

-- before the first turn
pub AreTurns-none : (p : Pass) (a : ℕ) (read : ℕ → List ℕ) → ((start : ℕ) → IsLoadList p.design.grid (read start))
    → AreTurns p a a [] read read
AreTurns-none p a read loads = record {
  before = omega arith;
  long = omega arith;
  read_loads = loads;
  turns = λ new turn worker here low high part. absurd (omega (arith, low, high));
}

-- readings behind the turns may differ
pub AreTurns-reread : {p : Pass} {a b : ℕ} {sets : List (List Piece)} {read seen new : ℕ → List ℕ}
    → ((start : ℕ) → start < b → new start ≡ read start) → ((start : ℕ) → IsLoadList p.design.grid (new start))
    → AreTurns p a b sets read seen → AreTurns p a b sets new seen
AreTurns-reread {p} {b = b} same loads old = record {
  before = old.before;
  long = old.long;
  read_loads = loads;
  turns = λ all turn worker here low high part.
      let within : start_of p worker turn < b = omega (arith, part.from, high) in
      rw (same (start_of p worker turn) within) (old.turns all turn worker here low high part);
}

-- the first worker alone has all turns
pub first_turn : {workers nets worker turn : ℕ} → workers ≡ 1 → IsInPart workers nets worker turn
    → part_start workers nets worker ≡ 0
first_turn {workers} {nets} {worker} one part =
    let first : worker ≡ 0 = omega (arith, one, part.worker_exists) in
    rw first (first_start workers nets)

-- a turn more
pub AreTurns-push : {p : Pass} {worker turn : ℕ} {sets : List (List Piece)} {read seen : ℕ → List ℕ} (tree : List Piece)
    (now : List ℕ) → 0 < p.workers → IsInPart p.workers (length (pass_nets p)) worker turn
    → ((all : List (List Piece)) → slice_range all (turns_start p worker) (turn + 1) ≡ sets ++ tree ∷ []
    → IsPassTurn p all worker turn now (read (start_of p worker turn)))
    → AreTurns p (turns_start p worker) turn sets read seen
    → AreTurns p (turns_start p worker) (turn + 1) (sets ++ tree ∷ []) read (until turn seen (λ k. now))
AreTurns-push {p} {worker} {turn} {sets} {seen} tree now some mine next old = record {
  before = omega (arith, old.before);
  long = omega (arith, length-append sets (tree ∷ []), old.long, old.before);
  read_loads = old.read_loads;
  turns = λ all k w here low high part. ⊎_elim
      (λ (early : k < turn). rw (until-below turn seen (λ j. now) k early) (old.turns all k w
      (slice-first all sets (tree ∷ []) (turns_start p worker) turn (turn + 1) here old.long (omega arith)) low early part))
      (λ (last : turn ≤ k).
      let same : k ≡ turn = omega (arith, last, high) in
      let own : w ≡ worker = one_part some (rw same at part) mine in
      rw (until-from turn seen (λ j. now) k last, same, own) (next all here))
      (cases_lt k turn);
}

-- turns up to the begin of a part, and those behind it
pub AreTurns-append : {p : Pass} {a b : ℕ} {s t : List (List Piece)} {read seen read' seen' : ℕ → List ℕ} (middle : ℕ)
    → 0 < p.workers
    → AreTurns p a (turns_start p middle) s read seen
    → AreTurns p (turns_start p middle) b t read' seen'
    → AreTurns p a b (s ++ t) (until (turns_start p middle) read read') (until (turns_start p middle) seen seen')
AreTurns-append {p} {a} {b} {s} {t} {read} {seen} {read'} {seen'} middle some first second =
    let m : ℕ = turns_start p middle in
    record {
      before = omega (arith, first.before, second.before);
      long = omega (arith, length-append s t, first.long, second.long, first.before, second.before);
      read_loads = until-all (λ (l : List ℕ). IsLoadList p.design.grid l) m read read' first.read_loads second.read_loads;
      turns = λ all k w here low high part. ⊎_elim
          (λ (early : k < m).
          let within : start_of p w k < m = omega (arith, early, part.from) in
          rw (until-below m seen seen' k early, until-below m read read' (start_of p w k) within)
          (first.turns all k w (slice-first all s t a m b here first.long second.before) low early part))
          (λ (late : m ≤ k).
          let mine : m ≤ turns_start p w =
          part_start-le p.workers (length (pass_nets p)) middle w some (not_earlier middle some late part) in
          let behind : m ≤ start_of p w k = omega (arith, mine) in
          rw (until-from m seen seen' k late, until-from m read read' (start_of p w k) behind)
          (second.turns all k w (slice-second all s t a m b here first.long first.before second.before) late high part))
          (cases_lt k m);
    }
