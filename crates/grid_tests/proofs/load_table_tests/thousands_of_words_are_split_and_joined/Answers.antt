use Rattle.std.proofs.Common.{◌≡◌, ◌≤◌, ◌+◌, ℕ, List, replicate, sym, ◌∙◌, subst, arith}
use Rattle.load_core.specs.Parties.{IsPart, first_party, share_at, split_off}
use Rattle.load_core.proofs.Entries.{zeros}
use Rattle.load_core.proofs.Parts.{nothing_is_part}
use Rattle.grid_tests.proofs.load_table_tests.thousands_of_words_are_split_and_joined.Goals as goal

pub split-requires-clause-part : goal.split-requires-clause-part
split-requires-clause-part g c =
    let all : c.deref.result.now ≡ replicate 5000 0 = c.deref.ensures.value ∙ c.in_ok-given.ensures in
    rw (c.in_ok-table.ensures.words, c.in_ok-table.ensures.share)
    (subst (λ (given : List ℕ). IsPart 5000 (first_party 5000) 2305843009213693952 given) (sym all)
    (nothing_is_part 5000 (first_party 5000) 2305843009213693952 (omega arith) (λ k. omega (arith, zeros 5000 k))))

pub add-requires-clause-room : goal.add-requires-clause-room
add-requires-clause-room g c =
    let all : c.deref.result.now ≡ replicate 5000 0 = c.deref.ensures.value ∙ c.in_ok-given.ensures in
    let room : share_at 4999 (split_off 2305843009213693952 c.deref.result.now) + 5 ≤ 2305843009213693952 =
    subst (λ (given : List ℕ). share_at 4999 (split_off 2305843009213693952 given) + 5 ≤ 2305843009213693952) (sym all) (omega (arith, zeros 5000 4999)) in
    rw c.in_ok-other.ensures.other room
