use Rattle.std.proofs.Common.{ℕ, List, sym, ◌∙◌, ap, subst}
use Rattle.load_table.specs.Blocks.{ArePut, block_len}
use Rattle.load_table.proofs.Blocks.{put_alike, put_same}
use Rattle.load_table.proofs.share.Share.reload_block.Goals as goal

pub invariant_of-self : goal.invariant_of-self
invariant_of-self c =
    let run = c.load_block-found.ensures in
    let was = c.self.invariant in
    record {
      free = run.free;
      share = run.share;
      allotted = ap (λ p. p.allot) run.read.only ∙ was.allotted;
      shared = ap (λ p. p.shares) run.read.only ∙ was.shared;
      found = put_alike c.args.first block_len c.load_block-found.result c.self.inside.last _ _
          (subst (λ (l : List ℕ). ArePut c.args.first block_len c.load_block-found.result l c.load_block-found.new.seat.me.0.last) was.found run.put) c.put_block.ensures.put;
    }

pub invariant_of-self-else-not-same : goal.invariant_of-self-else-not-same
invariant_of-self-else-not-same c =
    let run = c.load_block-found.ensures in
    let was = c.self.invariant in
    record {
      free = run.free;
      share = run.share;
      allotted = ap (λ p. p.allot) run.read.only ∙ was.allotted;
      shared = ap (λ p. p.shares) run.read.only ∙ was.shared;
      found = put_same c.args.first block_len c.load_block-found.result c.self.inside.last c.load_block-found.new.seat.me.0.last
          (subst (λ (l : List ℕ). ArePut c.args.first block_len c.load_block-found.result l c.load_block-found.new.seat.me.0.last) was.found run.put)
          (c.has_block-same.ensures.same c.if-not-same.false);
    }

pub returns-else-not-same-clause-same : goal.returns-else-not-same-clause-same
returns-else-not-same-clause-same c = λ yes.
    let run = c.load_block-found.ensures in
    let was = c.self.invariant in
    put_same c.args.first block_len c.load_block-found.result c.self.inside.last c.load_block-found.new.seat.me.0.last
    (subst (λ (l : List ℕ). ArePut c.args.first block_len c.load_block-found.result l c.load_block-found.new.seat.me.0.last) was.found run.put)
    (c.has_block-same.ensures.same yes)
    ∙ sym was.found ∙ ap (λ h. h.party.last) c.self.view_is
