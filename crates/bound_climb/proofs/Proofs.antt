-- A proof from its parts.
use Rattle.std.proofs.Common.{◌≡◌, ◌<◌, ◌≤◌, ℕ, List, [], All, Option, Some, None, length, max, refl, subst, arith}
use Rattle.std.specs.List.{sum}
use Rattle.grid_base.specs.declared.piece.Piece.{Piece}
use Rattle.grid_base.specs.declared.size.Size.{Size}
use Rattle.grid_base.specs.declared.vertex.Vertex.{Vertex}
use Rattle.grid_base.specs.Numbers.{IsVertex}
use Rattle.grid_base.specs.Walks.{InVertices}
use Rattle.label_search.specs.Sets.{IsLeastWeight}
use Rattle.steiner_exact.proofs.LeastSets.{none_tree}
use Rattle.lower_bound.proofs.LowBounds.{halves_are_moats}
use Rattle.brought_bounds.specs.declared.moats.Moats.{Moats}
use Rattle.brought_bounds.specs.declared.table.Table.{Table}
use Rattle.bound_climb.specs.declared.net_proof.NetProof.{NetProof}
use Rattle.bound_climb.specs.NetProofs.{table_bound, ProvesNetBound}
use Rattle.bound_climb.specs.ProofParts.{IsLeastTable, AreHalfMoats}

abbrev pub proof_of : Table → Option Moats → NetProof
proof_of table moats = record { table = table; moats = moats }

-- with fewer than two terminals the bound is 0
pub none_proved : (s : Size) (pieces : List (Piece × ℕ)) (terminals : List Vertex) (table : Table) → length terminals < 2
    → All (λ v. IsVertex s v.0) terminals → table.rows ≡ [] → ProvesNetBound s pieces terminals (proof_of table None)
none_proved s pieces terminals table few inside rows = record {
  number = 0;
  right = record {
    few = λ low. record { rows = rows; moats = refl; is = refl };
    several = λ two. absurd (omega (arith, few, two));
  };
  bound = record {
    few = λ low. (none_tree s pieces terminals few inside).weighs;
    many = λ many. absurd (omega (arith, few, many));
  };
}

-- a table of least weights, and moats of halves above five terminals, prove the net bound
pub several_proved : (s : Size) (pieces : List (Piece × ℕ)) (terminals : List Vertex) (table : Table) (moats : Option Moats)
    → 2 ≤ length terminals → IsLeastTable s pieces terminals table.rows → AreHalfMoats s pieces terminals moats
    → ProvesNetBound s pieces terminals (proof_of table moats)
several_proved s pieces terminals table None two least few = record {
  number = table_bound least.chosen table.rows;
  right = record {
    few = λ low. absurd (omega (arith, two, low));
    several = λ _. record {
      moated = (λ no. absurd (cc), λ many. absurd (omega (arith, few, many)));
      moats = tt;
      of_table = table_bound least.chosen table.rows;
      table = record { chosen = least.chosen; tabled = least.tabled; holds = least.holds; is = refl };
      is = refl;
    };
  };
  bound = record {
    few = λ low. subst (λ (ts : List Vertex). IsLeastWeight s pieces (InVertices ts) (table_bound least.chosen table.rows))
        (least.tabled.few low) least.least;
    many = λ many. absurd (omega (arith, few, many));
  };
}
several_proved s pieces terminals table (Some moats) two least halves = record {
  number = max (table_bound least.chosen table.rows) (sum moats.radii);
  right = record {
    few = λ low. absurd (omega (arith, two, low));
    several = λ _. record {
      moated = (λ yes. halves.0, λ many. refl);
      moats = halves_are_moats s pieces terminals moats.radii halves.1;
      of_table = table_bound least.chosen table.rows;
      table = record { chosen = least.chosen; tabled = least.tabled; holds = least.holds; is = refl };
      is = refl;
    };
  };
  bound = record {
    few = λ few. absurd (omega (arith, few, halves.0));
    many = λ many. record {
      chosen = least.chosen;
      spread = least.tabled.many many;
      of_chosen = table_bound least.chosen table.rows;
      least = least.least;
      halves = moats.radii;
      are_halves = halves.1;
      greater = refl;
    };
  };
}
