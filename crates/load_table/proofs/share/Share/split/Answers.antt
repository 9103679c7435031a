use Rattle.std.proofs.Common.{sym, ◌∙◌, subst, ap, length}
use Rattle.load_core.specs.Entries.{minus}
use Rattle.load_core.specs.Parties.{IsPart}
use Rattle.load_core.proofs.Entries.{length-minus}
use Rattle.load_table.specs.Holdings.{Holding}
use Rattle.load_table.proofs.HeldAfter.{written, held-split}
use Rattle.load_table.proofs.share.Share.split.Goals as goal

pub invariant_of-self : goal.invariant_of-self
invariant_of-self c =
    let me = c.self.inside in
    let given = c.args.given.now in
    let part = subst (λ (h : Holding). IsPart h.table.words h.party c.args.allot given) (sym c.self.view_is) (rw c.requires.table c.requires.part) in
    let whole = written me.shares.len (minus me.shares.items given) me.shares.items (sym c.deref_mut.ensures.len ∙ ap length c.deref_mut.ensures.value ∙ sym (length-minus me.shares.items given)) in
    rw (c.split-seat.ensures.table.0, c.split-seat.ensures.party, c.lower.ensures, c.deref_mut.ensures.value, whole)
    (held-split me.seat.table_id me.seat.me me.allotment c.args.allot me.shares.items me.last given c.self.invariant part)
