use Rattle.std.proofs.Common.{◌≡◌, ◌<◌, ◌+◌, ◌∷◌, ◌++◌, ℕ, List, [], All, take, drop, length, get_or, slice_index, sym, ◌∙◌, ap, subst, arith}
use Rattle.std.specs.List.{remove}
use Rattle.std.proofs.Math.Seq.{take-append_seam}
use Rattle.std.proofs.lemmas.List.{ext_get_or}
use Rattle.std.proofs.lemmas.List.FromFn.{get_or-map-range_with_len, length-map-range_with_len}
use Rattle.std.proofs.lemmas.List.Sums.{sum_by-cons}
use Rattle.atomic_table.specs.Seated.{TableId}
use Rattle.grid_base.specs.declared.piece.Piece.{Piece}
use Rattle.grid_base.specs.Numbers.{vertices}
use Rattle.grid_graph.specs.declared.design.Design.{Design}
use Rattle.grid_graph.specs.Grids.{entries}
use Rattle.load_core.specs.Parties.{share_at}
use Rattle.load_table.specs.Holdings.{IsShare}
use Rattle.tree_set.specs.Loads.{load_on, load_list}
use Rattle.tree_set.specs.Routings.{IsRouting}
use Rattle.sharing_runs.proofs.Between.{load_list-at, load_list-long}
use Rattle.routing_stages.specs.declared.shared.Shared.{Shared}
use Rattle.routing_stages.specs.Phases.{phases_load}
use Rattle.routing_stages.specs.Whole.{IsWholeShared}
use Rattle.price_workers.proofs.TurnFacts.{same_allot}
use Rattle.rounding_pick.proofs.rounding.round.Goals as goal

-- the table has a word for each entry
table_words : (d : Design) (s : Shared) → IsWholeShared d s → IsShare s.share → s.table.words ≡ entries d.grid
table_words d s whole share =
    ap (λ (t : TableId). t.words) (sym whole.share.of_table)
    ∙ sym share.wide.shares
    ∙ ap length (whole.share.shares ∙ whole.loads)
    ∙ length-map-range_with_len (phases_load d.grid d.nets s.phases) 0 (entries d.grid)

-- the share has the load of all phases
shared_load : (d : Design) (s : Shared) (r : ℕ) → IsWholeShared d s → r < entries d.grid → share_at r s.share.party ≡ phases_load d.grid d.nets s.phases r
shared_load d s r whole within =
    ap (λ (l : List ℕ). slice_index l r) (whole.share.shares ∙ whole.loads)
    ∙ get_or-map-range_with_len (phases_load d.grid d.nets s.phases) 0 (entries d.grid) r r 0 within (omega arith)

-- it is divided among the kept sets and those that are left
divided_load : (d : Design) (s : Shared) (first : List (List Piece)) (others : List (List (List Piece))) (kept : List (List Piece)) (left : List (List (List Piece))) (r : ℕ)
    → first ∷ others ≡ s.phases
    → load_on d.grid d.nets kept r + phases_load d.grid d.nets left r ≡ load_on d.grid d.nets first r + phases_load d.grid d.nets others r
    → load_on d.grid d.nets kept r + phases_load d.grid d.nets left r ≡ phases_load d.grid d.nets s.phases r
divided_load d s first others kept left r split same =
    same
    ∙ sym (sum_by-cons (λ (trees : List (List Piece)). load_on d.grid d.nets trees r) first others)
    ∙ ap (λ (ps : List (List (List Piece))). phases_load d.grid d.nets ps r) split

-- a whole list was written over another
all_written : {X : Type 0} (n : ℕ) (xs ys : List X) → n ≡ length xs → take n (xs ++ drop (length xs) ys) ≡ xs
all_written n xs ys long = ap (λ k. take k (xs ++ drop (length xs) ys)) long ∙ take-append_seam xs (drop (length xs) ys)

-- the first of several and the others
first_removed : {X : Type 0} (xs : List X) (x : X) → 0 < length xs → x ≡ get_or xs 0 x → x ∷ remove xs 0 ≡ xs
first_removed [] x some is = absurd (omega (arith, some))
first_removed (y ∷ xs) x some is = ap (λ z. z ∷ xs) is

pub take_phases-requires-clause-words : goal.take_phases-requires-clause-words
take_phases-requires-clause-words c = table_words c.args.design.now c.args.shared c.requires.whole c.allotment.ensures.share

pub take_phases-requires-clause-routings : goal.take_phases-requires-clause-routings
take_phases-requires-clause-routings c =
    let d = c.args.design.now in
    let left = c.keep_picked.new.others in
    let taken : c.deref.result.now ≡ left =
    c.deref.ensures.value ∙ all_written c.remove-trees.new.self.len left c.remove-trees.new.self.items (omega (arith, c.keep_picked.auto.others, c.deref_mut.ensures.len)) in
    subst (λ (ps : List (List (List Piece))). All (IsRouting d.grid d.nets) ps) (sym taken) c.keep_picked.ensures.left

pub take_phases-requires-clause-had : goal.take_phases-requires-clause-had
take_phases-requires-clause-had c r within =
    let d = c.args.design.now in
    let s = c.args.shared in
    let first = c.remove-trees.result in
    let others = c.deref_mut.result.now in
    let kept = c.keep_picked.new.first in
    let left = c.keep_picked.new.others in
    let split : first ∷ others ≡ s.phases =
    ap (λ (o : List (List (List Piece))). first ∷ o) (c.deref_mut.ensures.value ∙ c.remove-trees.ensures.items)
    ∙ first_removed c.into_list-others.result.items first (omega (arith, c.requires.whole.some, ap length c.into_list-others.ensures)) c.remove-trees.ensures.value
    ∙ c.into_list-others.ensures in
    let taken : c.deref.result.now ≡ left =
    c.deref.ensures.value ∙ all_written c.remove-trees.new.self.len left c.remove-trees.new.self.items (omega (arith, c.keep_picked.auto.others, c.deref_mut.ensures.len)) in
    omega (
      arith,
      divided_load d s first others kept left r split (c.keep_picked.ensures.loads r),
      shared_load d s r c.requires.whole within,
      ap (λ (ps : List (List (List Piece))). phases_load d.grid d.nets ps r) taken,
    )

pub write_shares-requires-clause-words : goal.write_shares-requires-clause-words
write_shares-requires-clause-words c =
    ap (λ (t : TableId). t.words) (c.take_phases.ensures.table ∙ c.requires.whole.share.of_table)
    ∙ table_words c.args.design.now c.args.shared c.requires.whole c.allotment.ensures.share
    ∙ omega (arith, c.vertices.ensures, ap (λ s. vertices s) c.size.ensures)

pub write_shares-requires-clause-long : goal.write_shares-requires-clause-long
write_shares-requires-clause-long c =
    let d = c.args.design.now in
    ap length (c.deref_mut-2.ensures.value ∙ c.requires.whole.loads)
    ∙ length-map-range_with_len (phases_load d.grid d.nets c.args.shared.phases) 0 (entries d.grid)
    ∙ omega (arith, c.vertices.ensures, ap (λ s. vertices s) c.size.ensures)

pub returns-clause-whole : goal.returns-clause-whole
returns-clause-whole c =
    let d = c.args.design.now in
    let s = c.args.shared in
    let first = c.remove-trees.result in
    let others = c.deref_mut.result.now in
    let kept = c.keep_picked.new.first in
    let left = c.keep_picked.new.others in
    let split : first ∷ others ≡ s.phases =
    ap (λ (o : List (List (List Piece))). first ∷ o) (c.deref_mut.ensures.value ∙ c.remove-trees.ensures.items)
    ∙ first_removed c.into_list-others.result.items first (omega (arith, c.requires.whole.some, ap length c.into_list-others.ensures)) c.remove-trees.ensures.value
    ∙ c.into_list-others.ensures in
    let taken : c.deref.result.now ≡ left =
    c.deref.ensures.value ∙ all_written c.remove-trees.new.self.len left c.remove-trees.new.self.items (omega (arith, c.keep_picked.auto.others, c.deref_mut.ensures.len)) in
    let party = c.take_phases.new.share.party in
    let loads : take s.loads.len (c.write_shares.new.loads ++ drop (length c.write_shares.new.loads) s.loads.items) ≡ party.shares =
    all_written s.loads.len c.write_shares.new.loads s.loads.items (omega (arith, c.write_shares.auto.loads, c.deref_mut-2.ensures.len)) ∙ c.write_shares.ensures.shares in
    let wide : length party.shares ≡ entries d.grid =
    c.take_phases.ensures.valid.wide.shares
    ∙ ap (λ (t : TableId). t.words) (c.take_phases.ensures.table ∙ c.requires.whole.share.of_table)
    ∙ table_words d s c.requires.whole c.allotment.ensures.share in
    let kept_loads : party.shares ≡ load_list d.grid d.nets kept =
    ext_get_or 0 party.shares (load_list d.grid d.nets kept) (wide ∙ sym (load_list-long d.grid d.nets kept))
    (λ r short.
    let within : r < entries d.grid = omega (arith, short, wide) in
    omega (
      arith,
      divided_load d s first others kept left r split (c.keep_picked.ensures.loads r),
      shared_load d s r c.requires.whole within,
      ap (λ (ps : List (List (List Piece))). phases_load d.grid d.nets ps r) taken,
      c.take_phases.ensures.shares r within,
      load_list-at d.grid d.nets kept r within,
    )) in
    record {
      routing = c.keep_picked.ensures.routing;
      loads = loads ∙ kept_loads;
      prices = c.requires.whole.prices;
      share = record {
        of_table = c.take_phases.ensures.table ∙ c.requires.whole.share.of_table;
        allot = same_allot s.share.party party c.take_phases.ensures.party ∙ c.requires.whole.share.allot;
        shares = sym loads;
      };
    }
