-- What the judge answers.
use Rattle.std.specs.Prelude.{ℕ, List, Option, None, Some}
use Rattle.grid_base.specs.declared.piece.Piece.{Piece}
use Rattle.tree_set.specs.declared.measure.Measure.{Measure}
use Rattle.route_judge.specs.declared.block_sets.BlockSets.{BlockSets}
use Rattle.route_judge.specs.declared.checked.Checked.{Checked}
use Rattle.route_judge.specs.declared.checked.Checked.TheVariants as checked
use Rattle.route_judge.specs.declared.checked_blocks.CheckedBlocks.{CheckedBlocks}
use Rattle.route_judge.specs.declared.checked_blocks.CheckedBlocks.TheVariants as checked_blocks
use Rattle.route_judge.specs.declared.checked_sets.CheckedSets.{CheckedSets}
use Rattle.route_judge.specs.declared.checked_sets.CheckedSets.TheVariants as checked_sets
use Rattle.route_judge.specs.declared.verdict.Verdict.{Verdict}
use Rattle.route_judge.specs.declared.verdict.Verdict.TheVariants as verdict
use Rattle.route_judge.specs.declared.reason.Reason.{Reason}

-- the reason against the routes, and none where they are accepted
abbrev pub reason_against : Checked → Option Reason
reason_against (checked.Yes measure beyond) = None
reason_against (checked.No reason) = Some reason

-- what is said of routes that are accepted: their measure, and how many nets go beyond their grounds
abbrev pub IfAccepted : Checked → (Measure → ℕ → Type 0) → Type 0
IfAccepted (checked.Yes measure beyond) Said = Said measure beyond
IfAccepted (checked.No reason) Said = Unit {0}

-- the same of a verdict on routes and a certificate
abbrev pub reason_of_verdict : Verdict → Option Reason
reason_of_verdict (verdict.Yes measure beyond) = None
reason_of_verdict (verdict.No reason) = Some reason

abbrev pub IfYes : Verdict → (Measure → ℕ → Type 0) → Type 0
IfYes (verdict.Yes measure beyond) Said = Said measure beyond
IfYes (verdict.No reason) Said = Unit {0}

-- the same of blocks where nets may lack one
abbrev pub reason_against_blocks : CheckedBlocks → Option Reason
reason_against_blocks (checked_blocks.Yes sets) = None
reason_against_blocks (checked_blocks.No reason) = Some reason

abbrev pub IfNamed : CheckedBlocks → (BlockSets → Type 0) → Type 0
IfNamed (checked_blocks.Yes sets) Said = Said sets
IfNamed (checked_blocks.No reason) Said = Unit {0}

-- the same of routes whose sets are kept
abbrev pub reason_against_sets : CheckedSets → Option Reason
reason_against_sets (checked_sets.Yes trees) = None
reason_against_sets (checked_sets.No reason) = Some reason

abbrev pub IfKept : CheckedSets → (List (List Piece) → Type 0) → Type 0
IfKept (checked_sets.Yes trees) Said = Said trees.items
IfKept (checked_sets.No reason) Said = Unit {0}
