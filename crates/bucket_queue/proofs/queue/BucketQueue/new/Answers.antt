use Rattle.std.proofs.Common.{ℕ, ◌≡◌, arith, ap, ◌∙◌, length, replicate, List, get_or}
use Rattle.std.proofs.lemmas.List.{get_or-replicate, length-replicate}
use Rattle.bucket_queue.proofs.Stacks.{holds_none}
use Rattle.bucket_queue.proofs.queue.BucketQueue.new.Goals as goal

pub returns : goal.returns
returns g c =
    let tops : c.in_ok-vec.field-0.items ≡ replicate 32768 4294967295 = c.in_ok-vec.ensures.items_if_clones_equal (λ y same. same) in
    record {
      empty = holds_none _ (ap length tops ∙ length-replicate {A = ℕ} 32768 4294967295) (omega (arith, ap length c.new.ensures.items)) (omega arith)
          (λ b within. ap (λ (xs : List ℕ). get_or xs b 0) tops ∙ get_or-replicate 32768 b 4294967295 0 within);
    }
