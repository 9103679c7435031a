-- A reading of all words.
use Rattle.std.proofs.Common.{◌≡◌, ℕ, ◌<◌, ◌≤◌, ◌-◌, List, ◌++◌, length, slice_index, sym, ◌∙◌, ap, subst, ⊎_elim, arith}
use Rattle.price_workers.proofs.Common.{cases_lt, get_or_past, Party, share_at}
use Rattle.price_workers.proofs.Common.{after_reading, AreCloseTo, LoadsBetween}
use Rattle.load_core.specs.declared.loaded.Loaded.{Loaded}
use Rattle.load_core.specs.Soundness.{IsCloseTo}
use Rattle.load_table.specs.Runs.{loads_from}

-- all words were loaded
pub after_all_words : (start p : Party) → LoadsBetween 0 (length p.last) start p → p ≡ after_reading start p.last
after_all_words start p read =
    let all : length p.last - 0 ≡ length p.last = omega arith in
    read.only
    ∙ ap (λ (h : List Loaded). record start { last = p.last; history = h })
    (read.loads ∙ ap (λ (k : ℕ). start.history ++ loads_from p.last 0 k) all)

-- what was found is close to the shares, and beyond the words there is nothing
pub close_to_all : (start p : Party) → LoadsBetween 0 (length p.last) start p → length p.shares ≡ length p.last → AreCloseTo p p.last
close_to_all start p read long word =
    ⊎_elim
    (λ (within : word < length p.last).
    let near = read.near word (omega arith) within in
    subst (λ (q : Party). IsCloseTo q word (slice_index p.last word)) (sym read.only)
    (record { least = near.least; most = near.most }))
    (λ (beyond : length p.last ≤ word).
    let none : slice_index p.last word ≡ 0 = get_or_past p.last word 0 beyond in
    let empty : share_at word p ≡ 0 = get_or_past p.shares word 0 (omega (arith, beyond, long)) in
    record { least = omega (arith, none, empty); most = omega (arith, none) })
    (cases_lt word (length p.last))
