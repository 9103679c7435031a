use Rattle.std.proofs.Common.{ℕ, ◌∷◌, ◌≡◌, ◌<◌, arith, ap, subst, refl, ◌∙◌, length, set}
use Rattle.std.specs.Vec.{with_item}
use Rattle.std.proofs.lemmas.Grind.{get_or_default_zero}
use Rattle.bucket_queue.proofs.Stacks.{holds_put}
use Rattle.bucket_queue.specs.Waiting.{Holds, with_bucket}
use Rattle.bucket_queue.specs.declared.queue.BucketQueue.{BucketQueue}
use Rattle.bucket_queue.specs.declared.queue.Entry.{Entry}
use Rattle.bucket_queue.proofs.queue.BucketQueue.push.Goals as goal

pub returns-in_ok-push : goal.returns-in_ok-push
returns-in_ok-push g c =
    let q : BucketQueue g.row.T.Denot = c.args.self.now in
    let at : ℕ = c.bucket_of-bucket.result in
    let e : Entry g.row.T.Denot = record { item = c.args.item; below = c.index.result.now; bucket = at } in
    record {
      put = λ waiting h room.
          let inside : at < 32768 = omega (arith, h.tops, q.tops.ok.0) in
          let there : at < length q.tops.items = omega (arith, inside, h.tops) in
          let new : BucketQueue g.row.T.Denot = record { tops = with_item q.tops at c.len-top.result; entries = c.push.new.self; low = c.min-self.result; end = c.max-self.result } in
          let Put : ℕ → Type 0 = λ k. Holds new (with_bucket waiting k (c.args.item ∷ waiting k)) in
          let topped : new.tops.items ≡ set q.tops.items at (length q.entries.items) = ap (λ n. set q.tops.items at n) (c.len-top.ensures ∙ q.entries.ok.0) in
          subst Put c.bucket_of-bucket.ensures
          (holds_put q new waiting at e h room inside c.in_ok-push.ensures.items
          (c.index.ensures ∙ get_or_default_zero q.tops.items at c.index.result.now there) refl topped
          (omega arith) (omega arith) (omega arith) (omega arith) (omega (arith, inside, h.within)));
      full = λ past. absurd (omega (arith, past, q.entries.ok.0));
    }
