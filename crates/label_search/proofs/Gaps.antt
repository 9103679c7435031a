-- What a heap holds where its gap moves or is filled.
use Rattle.std.proofs.Common.{◌≢◌, ℕ, ◌<◌, List, get_or, set, sym, ◌∙◌, inl, inr, ⊎_elim, arith, get_or-set_same}
use Rattle.std.proofs.Common.{get_or-set_other}
use Rattle.std.proofs.lemmas.Bool.{cases_eq}
use Rattle.label_search.specs.Heaps.{HasGap, HoldsBeside, FillsGap}

-- what stands beside the gap still does where the entry at `from` moves into it
pub pulled_keeps : (ks vs ps : List ℕ) (len gap from v : ℕ) → HasGap ks vs ps len gap v → from < len → from ≢ gap → (u k : ℕ)
    → HoldsBeside ks vs len gap u k →
    HoldsBeside (set ks gap (get_or ks from 0)) (set vs gap (get_or vs from 0)) len from u k
pulled_keeps ks vs ps len gap from v is inside other u k held = ⊎_elim
    (λ here. record {
      place = gap;
      inside = is.inside;
      elsewhere = λ same. other (sym same);
      vertex = grind (arith, get_or-set_same, is.lists.vertices, is.lists.room, is.inside, here, held.vertex);
      valued = grind (arith, get_or-set_same, is.lists.room, is.inside, here, held.valued);
    })
    (λ apart. record {
      place = held.place;
      inside = held.inside;
      elsewhere = apart;
      vertex = get_or-set_other vs gap held.place (get_or vs from 0) 0 held.elsewhere ∙ held.vertex;
      valued = get_or-set_other ks gap held.place (get_or ks from 0) 0 held.elsewhere ∙ held.valued;
    })
    (cases_eq held.place from)

-- and nothing else does
pub pulled_only : (ks vs ps : List ℕ) (len gap from v : ℕ) → HasGap ks vs ps len gap v → from < len → from ≢ gap → (u k : ℕ) →
    HoldsBeside (set ks gap (get_or ks from 0)) (set vs gap (get_or vs from 0)) len from u k → HoldsBeside ks vs len gap u k
pulled_only ks vs ps len gap from v is inside other u k held = ⊎_elim
    (λ here. record {
      place = from;
      inside = inside;
      elsewhere = other;
      vertex = grind (arith, get_or-set_same, is.lists.vertices, is.lists.room, is.inside, here, held.vertex);
      valued = grind (arith, get_or-set_same, is.lists.room, is.inside, here, held.valued);
    })
    (λ apart. record {
      place = held.place;
      inside = held.inside;
      elsewhere = apart;
      vertex = sym (get_or-set_other vs gap held.place (get_or vs from 0) 0 apart) ∙ held.vertex;
      valued = sym (get_or-set_other ks gap held.place (get_or ks from 0) 0 apart) ∙ held.valued;
    })
    (cases_eq held.place gap)

-- an entry was written at the gap
pub filled : (ks vs ps : List ℕ) (len gap v key : ℕ) → HasGap ks vs ps len gap v
    → FillsGap ks vs (set ks gap key) (set vs gap v) len gap v key
filled ks vs ps len gap v key is = record {
  placed = record {
    place = gap;
    inside = is.inside;
    vertex = grind (arith, get_or-set_same, is.lists.vertices, is.lists.room, is.inside);
    valued = grind (arith, get_or-set_same, is.lists.room, is.inside);
  };
  kept = λ u k held. record {
    place = held.place;
    inside = held.inside;
    vertex = get_or-set_other vs gap held.place v 0 held.elsewhere ∙ held.vertex;
    valued = get_or-set_other ks gap held.place key 0 held.elsewhere ∙ held.valued;
  };
  only = λ u k held. ⊎_elim
      (λ here. inl (
        grind (arith, get_or-set_same, is.lists.vertices, is.lists.room, is.inside, here, held.vertex),
        grind (arith, get_or-set_same, is.lists.room, is.inside, here, held.valued),
      ))
      (λ apart. inr (record {
        place = held.place;
        inside = held.inside;
        elsewhere = apart;
        vertex = sym (get_or-set_other vs gap held.place v 0 apart) ∙ held.vertex;
        valued = sym (get_or-set_other ks gap held.place key 0 apart) ∙ held.valued;
      }))
      (cases_eq held.place gap);
}
