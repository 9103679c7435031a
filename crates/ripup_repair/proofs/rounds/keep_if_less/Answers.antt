use Rattle.std.proofs.Common.{◌≡◌, ◌++◌, ℕ, List, length, take, drop, sym, ◌∙◌, arith}
use Rattle.ripup_repair.proofs.Common.{TableId, Piece, Design, entries, Holding, IsShare, load_list, HasLoadOf}
use Rattle.ripup_repair.proofs.RoundFacts.{written_over}
use Rattle.ripup_repair.proofs.RoundRuns.{whole_share}
use Rattle.ripup_repair.proofs.rounds.keep_if_less.Goals as goal

-- the list that was written is that of the loads
written : (d : Design) (share : Holding) (n m : ℕ) (loads old : List ℕ) → length loads ≡ m → m ≡ n
    → loads ≡ share.party.shares → IsShare share → share.table.words ≡ entries d.grid
    → (table : TableId) (trees : List (List Piece)) → HasLoadOf d table trees share
    → take n (loads ++ drop (length loads) old) ≡ load_list d.grid d.nets trees
written d share n m loads old long room same is words table trees has =
    written_over n loads old (sym (long ∙ room)) ∙ same ∙ (whole_share d table trees share has is words).shares

pub overflow_of-overflow-requires-clause-listed : goal.overflow_of-overflow-requires-clause-listed
overflow_of-overflow-requires-clause-listed c = (
  c.requires.routed.1,
  c.deref.ensures.value ∙ written _ _ _ _ _ _ c.write_shares.auto.loads c.as_mut_slice.ensures.len
      c.write_shares.ensures.shares c.write_shares.ensures.share c.requires.words _ _ c.requires.routed.2,
)

pub returns-then-overflow-least-clause-overflow : goal.returns-then-overflow-least-clause-overflow
returns-then-overflow-least-clause-overflow c table trees has =
    let is = written c.args.design.now _ _ _ _ _ c.write_shares.auto.loads c.as_mut_slice.ensures.len c.write_shares.ensures.shares
    c.write_shares.ensures.share c.requires.words table trees has in
    (c.overflow_of-overflow.ensures trees (c.deref.ensures.value ∙ is), λ less. is)

pub returns-else-overflow-least-clause-overflow : goal.returns-else-overflow-least-clause-overflow
returns-else-overflow-least-clause-overflow c table trees has = (
  c.overflow_of-overflow.ensures trees (c.deref.ensures.value ∙ written _ _ _ _ _ _ c.write_shares.auto.loads
      c.as_mut_slice.ensures.len c.write_shares.ensures.shares c.write_shares.ensures.share c.requires.words table trees has),
  λ less. absurd (omega (arith, less, c.if-overflow-least.false)),
)
