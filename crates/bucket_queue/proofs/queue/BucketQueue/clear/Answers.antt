use Rattle.std.proofs.Common.{ℕ, List, ◌≡◌, ◌<◌, arith, ap, sym, subst, ◌∙◌, length, slice_index}
use Rattle.bucket_queue.proofs.Stacks.{holds_none, empty_by_entries, empty_by_span}
use Rattle.bucket_queue.specs.Waiting.{AreEmptied}
use Rattle.bucket_queue.specs.declared.queue.BucketQueue.{BucketQueue}
use Rattle.bucket_queue.specs.declared.queue.Entry.{Entry}
use Rattle.bucket_queue.proofs.queue.BucketQueue.clear.Goals as goal
use Rattle.bucket_queue.proofs.queue.BucketQueue.clear.Goals.{then-saturating_sub-len, else-saturating_sub-len}

pub returns : goal.returns
returns g c =
    let q : BucketQueue g.row.T.Denot = c.args.self.now in
    let Empty : List ℕ → Type 0 = λ tops. (b : ℕ) → b < 32768 → slice_index tops b ≡ 4294967295 in
    let tops_of : BucketQueue g.row.T.Denot → List ℕ = λ r. r.tops.items in
    record {
      empty = λ waiting h. elim c.if-saturating_sub-len.branch [
        | then-saturating_sub-len w ↦
            let Emptied : List (Entry g.row.T.Denot) → Type 0 = λ es. AreEmptied es (length es) w.empty_entered.new.tops.items in
            holds_none _ (ap length (ap tops_of w.self-is) ∙ (w.empty_entered.ensures.kept.long ∙ h.tops)) (omega (arith, ap length c.clear.ensures.items)) (omega arith)
            (subst Empty (sym (ap tops_of w.self-is))
            (empty_by_entries q waiting w.empty_entered.new.tops.items h w.empty_entered.ensures.kept
            (subst Emptied w.deref.ensures.value w.empty_entered.ensures.emptied)))
        | else-saturating_sub-len w ↦
            holds_none _ (ap length (ap tops_of w.self-is) ∙ (w.empty_span.ensures.kept.long ∙ h.tops)) (omega (arith, ap length c.clear.ensures.items)) (omega arith)
            (subst Empty (sym (ap tops_of w.self-is))
            (empty_by_span q waiting w.empty_span.new.self.tops.items c.min-end.result h w.empty_span.ensures.kept
            (omega (arith, h.within, h.tops, q.tops.ok.0)) w.empty_span.ensures.span))
      ];
    }
