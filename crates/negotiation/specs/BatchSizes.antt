-- How many nets are in a batch.
use Rattle.std.specs.Prelude.{ℕ, ◌/◌, min, max}
use Rattle.negotiation.specs.declared.due.Due.{Due}
use Rattle.negotiation.specs.declared.due.Due.TheVariants.{Overfull, Improvable}

-- in a pass over so many nets: one for 600 of them, but at least 4 and at most 512
abbrev pub pass_batch : ℕ → ℕ
pass_batch nets = min (max (nets / 600) 4) 512

-- in a round or a quick pass in which so many of the nets may be due: one for 2,500 of all and for 16 of these, but at least 4
-- and at most 32
abbrev pub round_batch : ℕ → ℕ → ℕ
round_batch nets may_be_due = max (min (min (may_be_due / 16) (nets / 2500)) 32) 4

-- where the nets on overfull edges alone are due, in rounds and in the quick passes of descent, it is that of a round; where those
-- that can be improved are due too, that of a pass
abbrev pub batch_size : ℕ → ℕ → Due → ℕ
batch_size nets may_be_due Overfull = round_batch nets may_be_due
batch_size nets may_be_due Improvable = pass_batch nets
