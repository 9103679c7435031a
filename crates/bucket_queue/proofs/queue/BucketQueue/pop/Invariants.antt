use Rattle.std.proofs.Common.{◌≡◌, ◌<◌, ℕ, List, []}
use Rattle.bucket_queue.specs.Waiting.{Holds}
use Rattle.bucket_queue.proofs.queue.BucketQueue.pop.Given as goal

abbrev pub invariant-loop-bucket : goal.invariant-loop-bucket
invariant-loop-bucket g l = record {
  same : l.self ≡ l.initial.self;
  before : (waiting : ℕ → List g.row.T.Denot) → Holds l.self waiting → (b : ℕ) → b < l.bucket → waiting b ≡ [];
}
