use Rattle.std.proofs.Common.{ℕ, Some, slice_get, ◌≡◌, ◌<◌, arith, ap, sym, subst, refl, inl, inr, ◌∙◌, length, slice_index}
use Rattle.std.proofs.lemmas.Bool.{cases_eq, cases_lt}
use Rattle.std.proofs.lemmas.Grind.{get_or_default_zero}
use Rattle.std.proofs.lemmas.Option.{slice_get_read}
use Rattle.bucket_queue.proofs.Stacks.{holds_take, none_at}
use Rattle.bucket_queue.specs.Waiting.{Holds}
use Rattle.bucket_queue.specs.declared.queue.BucketQueue.{BucketQueue}
use Rattle.bucket_queue.specs.declared.queue.Entry.{Entry}
use Rattle.bucket_queue.proofs.queue.BucketQueue.pop.Goals as goal

pub returns-then-top-len-clause-first : goal.returns-then-top-len-clause-first
returns-then-top-len-clause-first g c = λ waiting h.
    let q : BucketQueue g.row.T.Denot = c.loop-bucket.self in
    let at : ℕ = c.loop-bucket.bucket in
    let e : Entry g.row.T.Denot = c.index-then-top-len.result.now in
    let Here : BucketQueue g.row.T.Denot → Type 0 = λ r. Holds r waiting in
    let here : Holds q waiting = subst Here (sym c.loop-bucket.invariant.same) h in
    let long : length q.tops.items ≡ length c.args.self.now.tops.items = ap (λ (r : BucketQueue g.row.T.Denot). length r.tops.items) c.loop-bucket.invariant.same in
    let there : at < length q.tops.items = omega (arith, long, c.args.self.now.tops.ok.0) in
    let read : c.index.result.now ≡ slice_index q.tops.items at = c.index.ensures ∙ get_or_default_zero q.tops.items at c.index.result.now there in
    let got : slice_get q.entries.items c.index.result.now ≡ Some e =
    slice_get_read q.entries.items (length q.entries.items) c.index.result.now e refl (omega (arith, q.entries.ok.0)) c.index-then-top-len.ensures in
    let Got : ℕ → Type 0 = λ k. slice_get q.entries.items k ≡ Some e in
    holds_take q _ waiting at e here (omega (arith, there, here.tops)) (subst Got read got) (c.loop-bucket.invariant.before waiting here) refl refl refl refl

pub loop-bucket-preserved : goal.loop-bucket-preserved
loop-bucket-preserved g c =
    let q : BucketQueue g.row.T.Denot = c.loop-bucket.self in
    let at : ℕ = c.loop-bucket.bucket in
    let long : length q.tops.items ≡ length c.args.self.now.tops.items = ap (λ (r : BucketQueue g.row.T.Denot). length r.tops.items) c.loop-bucket.invariant.same in
    let there : at < length q.tops.items = omega (arith, long, c.args.self.now.tops.ok.0) in
    let read : c.index.result.now ≡ slice_index q.tops.items at = c.index.ensures ∙ get_or_default_zero q.tops.items at c.index.result.now there in
    record {
      same = c.loop-bucket.invariant.same;
      before = λ waiting h b less. elim (cases_eq b at) [
        | inl is ↦ ap waiting is ∙ none_at q waiting at h (omega (arith, there, h.tops)) (omega (arith, read, q.entries.ok.0))
        | inr other ↦ c.loop-bucket.invariant.before waiting h b (omega (arith, less, other))
      ];
    }

pub returns-clause-none : goal.returns-clause-none
returns-clause-none g c = λ waiting h b.
    let Here : BucketQueue g.row.T.Denot → Type 0 = λ r. Holds r waiting in
    let here : Holds c.loop-bucket.self waiting = subst Here (sym c.loop-bucket.invariant.same) h in
    elim (cases_lt b c.loop-bucket.bucket) [
      | inl less ↦ c.loop-bucket.invariant.before waiting here b less
      | inr from ↦ h.behind b (omega (arith, from, h.within, h.tops, c.args.self.now.tops.ok.0))
    ]
