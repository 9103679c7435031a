use Rattle.std.proofs.Common.{◌≡◌, ◌≤◌, ◌+◌, ℕ, [], length, slice_index}
use Rattle.load_core.specs.Parties.{whole_allotment}
use Rattle.load_table.specs.Blocks.{ArePut, block_len}
use Rattle.load_table.specs.Holdings.{IsShare, held}
use Rattle.load_table.specs.Runs.{LoadsBetween}
use Rattle.load_table.proofs.reloading.load_block.Given as goal

-- the words so far were loaded, and this was found there
abbrev pub invariant-loop-k : goal.invariant-loop-k
invariant-loop-k l = record {
  table : l.seat.table_id ≡ l.initial.seat.table_id;
  free : l.seat.me.1 ≡ [];
  share : IsShare (held l.seat.table_id l.seat.me.0);
  read : LoadsBetween l.fn.first (l.fn.first + l.k) l.initial.seat.me.0 l.seat.me.0;
  put : ArePut l.fn.first l.k l.found l.initial.seat.me.0.last l.seat.me.0.last;
  whole : (j : ℕ) → slice_index l.found j ≤ whole_allotment;
  long : length l.found ≡ block_len;
}
