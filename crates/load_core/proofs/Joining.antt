-- A party is taken out of the list, joined into another, and put back.
use Rattle.std.proofs.Common.{◌≡◌, ◌≢◌, ℕ, List, get_or, set, sym, ap, ◌∙◌}
use Rattle.std.proofs.lemmas.List.{set-set, set_comm, set-get_or, get_or-set_other}
use Rattle.load_core.specs.declared.party.Party.{Party}
use Rattle.load_core.specs.Parties.{nobody, joined, spent}

-- one party's place was taken by d, then both places got new parties
two-put : (parties : List Party) (into from : ℕ) (d p q : Party) → into ≢ from
    → set (set (set parties from d) into p) from q ≡ set (set parties into p) from q
two-put parties into from d p q two =
    ap (λ (ps : List Party). set ps from q) (set_comm parties from into d p (λ e. two (sym e))) ∙ set-set (set parties into p) from d q

pub joined-put : (parties : List Party) (into from : ℕ) (d p q p' q' : Party) → into ≢ from
    → p ≡ get_or (set parties from d) into nobody → q ≡ get_or parties from nobody → p' ≡ joined p q → q' ≡ spent q
    → set (set (set parties from d) into p') from q'
    ≡ set (set parties into (joined (get_or parties into nobody) (get_or parties from nobody))) from (spent (get_or parties from nobody))
joined-put parties into from d p q p' q' two at_p at_q made_p made_q =
    let old : p ≡ get_or parties into nobody = at_p ∙ get_or-set_other parties from into d nobody two in
    two-put parties into from d p' q' two
    ∙ ap (λ (r : Party). set (set parties into r) from q') (made_p ∙ ap (λ (r : Party). joined r q) old ∙ ap (λ (r : Party). joined (get_or parties into nobody) r) at_q)
    ∙ ap (λ (r : Party). set (set parties into (joined (get_or parties into nobody) (get_or parties from nobody))) from r) (made_q ∙ ap (λ (r : Party). spent r) at_q)

pub put-back : (parties : List Party) (into from : ℕ) (d p q p' q' : Party) → into ≢ from
    → p ≡ get_or (set parties from d) into nobody → q ≡ get_or parties from nobody → p' ≡ p → q' ≡ q
    → set (set (set parties from d) into p') from q' ≡ parties
put-back parties into from d p q p' q' two at_p at_q same_p same_q =
    let old : p' ≡ get_or parties into nobody = same_p ∙ at_p ∙ get_or-set_other parties from into d nobody two in
    two-put parties into from d p' q' two
    ∙ ap (λ (r : Party). set (set parties into r) from q') old
    ∙ ap (λ (ps : List Party). set ps from q') (set-get_or parties into nobody)
    ∙ ap (λ (r : Party). set parties from r) (same_q ∙ at_q)
    ∙ set-get_or parties from nobody
