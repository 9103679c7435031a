use Rattle.std.proofs.Common.{sym, ◌∙◌, subst, ap, length}
use Rattle.atomic_table.specs.Seated.{TableId}
use Rattle.load_core.specs.Entries.{plus}
use Rattle.load_core.proofs.Entries.{length-plus}
use Rattle.load_table.specs.Holdings.{Holding, IsHolding}
use Rattle.load_table.proofs.HeldAfter.{written, same-long, held-joined}
use Rattle.load_table.proofs.share.Share.join.Goals as goal

pub invariant_of-self : goal.invariant_of-self
invariant_of-self c =
    let me = c.self.inside in
    let you = c.other.inside in
    let table = ap (λ (h : Holding). h.table) c.other.view_is ∙ c.requires.table.1 ∙ sym c.requires.table.0 ∙ sym (ap (λ (h : Holding). h.table) c.self.view_is) in
    let other = subst (λ (t : TableId). IsHolding t you.seat.me you.allotment you.shares.items you.last) table c.other.invariant in
    let same = same-long me.seat.table_id me.seat.me you.seat.me me.allotment you.allotment me.shares.items me.last you.shares.items you.last c.self.invariant other in
    let whole = written me.shares.len (plus me.shares.items you.shares.items) me.shares.items (sym c.deref_mut.ensures.len ∙ ap length c.deref_mut.ensures.value ∙ sym (length-plus me.shares.items you.shares.items same)) in
    rw (c.look.ensures.table, c.look.ensures.party, c.join.ensures.table, c.join.ensures.party, c.raise.ensures, c.deref_mut.ensures.value, c.deref.ensures.value, whole)
    (held-joined me.seat.table_id me.seat.me you.seat.me me.allotment you.allotment me.shares.items me.last you.shares.items you.last c.self.invariant other (rw c.join.ensures.party at c.look.ensures.whole))
