use Rattle.std.proofs.Common.{◌≡◌, ◌∙◌, ◌++◌, List, Bool, true, false, Some, ap, sym, cond, fold, length, refl, slice_get}
use Rattle.std.proofs.lemmas.Option.{slice_get_read}
use Rattle.hot_cuts.specs.declared.offers.Offer.{Offer}
use Rattle.hot_cuts.specs.declared.offers.Standing.{Standing}
use Rattle.hot_cuts.specs.Estimates.{of_both}
use Rattle.hot_cuts.specs.Offers.{with_mark_of}
use Rattle.hot_cuts.specs.Standings.{Joined, is_apart_from, joined_in, with_found, with_standing}
use Rattle.hot_cuts.proofs.offers.add_if_apart.Goals as goal

-- what is joined with an offer that is apart
both : Joined → Offer → Joined
both joined offer = record {
  marks = fold with_mark_of joined.marks offer.prices.items;
  prices = joined.prices ++ offer.prices.items;
  estimate = of_both joined.estimate offer.estimate;
}

-- whether an offer is joined
choice : (offers : List Offer) (standing : Standing) (offer : Offer) (joined : Joined) (apart : Bool) → slice_get offers standing.place ≡ Some offer
    → is_apart_from joined.marks offer ≡ apart → with_standing offers joined standing ≡ cond apart (both joined offer) joined
unfolding both
choice offers standing offer joined apart found is = ap (with_found joined) found ∙ ap (λ b. cond b (both joined offer) joined) is

added : (offers : List Offer) (standing : Standing) (offer all after : Offer) (marks new : List Bool) → slice_get offers standing.place ≡ Some offer
    → is_apart_from marks offer ≡ true → new ≡ fold with_mark_of marks offer.prices.items
    → after.prices.items ≡ all.prices.items ++ offer.prices.items → after.estimate ≡ of_both all.estimate offer.estimate
    → joined_in new after ≡ with_standing offers (joined_in marks all) standing
unfolding both
added offers standing offer all after marks new found apart marked prices estimate =
    let made : joined_in new after ≡ both (joined_in marks all) offer = λ i. record { marks = marked i; prices = prices i; estimate = estimate i } in
    made ∙ sym (choice offers standing offer (joined_in marks all) true found apart)

kept : (offers : List Offer) (standing : Standing) (offer all : Offer) (marks : List Bool) → slice_get offers standing.place ≡ Some offer
    → is_apart_from marks offer ≡ false → joined_in marks all ≡ with_standing offers (joined_in marks all) standing
kept offers standing offer all marks found apart = sym (choice offers standing offer (joined_in marks all) false found apart)

pub returns-in_ok-add : goal.returns-in_ok-add
returns-in_ok-add c =
    let offer = c.in-Some.offer.now in
    let found = slice_get_read c.args.offers.now (length c.args.offers.now) c.args.standing.place offer refl c.in-Some.ensures.lookup.3.0 c.in-Some.ensures.lookup.1 in
    let apart = ap (λ marks. is_apart_from marks offer) (sym c.as_slice.ensures.value) ∙ sym c.is_apart.ensures ∙ c.if-is_apart.true in
    added c.args.offers.now c.args.standing offer c.args.all.now c.add.new.self c.args.marks.now.items c.mark.new.marks.items found apart
    c.mark.ensures.marked c.in_ok-add.ensures.prices c.in_ok-add.ensures.estimate

pub returns-else-is_apart : goal.returns-else-is_apart
returns-else-is_apart c =
    let offer = c.in-Some.offer.now in
    let found = slice_get_read c.args.offers.now (length c.args.offers.now) c.args.standing.place offer refl c.in-Some.ensures.lookup.3.0 c.in-Some.ensures.lookup.1 in
    let apart = ap (λ marks. is_apart_from marks offer) (sym c.as_slice.ensures.value) ∙ sym c.is_apart.ensures ∙ c.if-is_apart.false in
    kept c.args.offers.now c.args.standing offer c.args.all.now c.args.marks.now.items found apart
