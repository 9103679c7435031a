-- Edits one after another, and the first that is refused.
use Rattle.std.proofs.Common.{◌≡◌, ℕ, zero, suc, List, [], ◌∷◌, refl, sym, ap, subst, arith}
use Rattle.std.specs.Prelude.{take}
use Rattle.std.proofs.lemmas.Option.{same_Some, slice_get_within}
use Rattle.edit_text.specs.declared.edit.Edit.{Edit}
use Rattle.grid_base.specs.Lists.{At}
use Rattle.grid_graph.specs.Alike.{AreAlikeDesigns}
use Rattle.grid_graph.specs.declared.design.Design.{Design}
use Rattle.eco_route.specs.declared.edit_fault.EditFault.{EditFault}
use Rattle.eco_route.specs.EditRefusals.{IsEditAccepted, IsRefusedFor}
use Rattle.eco_route.specs.EditedDesigns.{IsEditedDesign}
use Rattle.eco_laws.specs.EditChains.{AreEdited, AreMade, EditsLead, IsFirstRefused, IsMade}
use Rattle.eco_laws.proofs.EditedAlike.{edited_alike}
use Rattle.eco_laws.proofs.OneRefusal.{one_refusal}
use Rattle.eco_laws.proofs.RefusedAlike.{refused_alike}

-- ==== edits that lead from one state to another

-- what each step is besides, all of them are
pub leads-map : {S T : Type 0} (Step : Edit → S → S → Type 0) (Next : Edit → T → T → Type 0) (f : S → T)
    → ((edit : Edit) (s t : S) → Step edit s t → Next edit (f s) (f t)) → (edits : List Edit) (s t : S) → EditsLead Step edits s t → EditsLead Next edits (f s) (f t)
leads-map Step Next f each [] s t is = ap f is
leads-map Step Next f each (edit ∷ edits) s t is = (f is.0, each edit s is.0 is.1, leads-map Step Next f each edits is.0 t is.2)

-- one edit more
pub leads-next : {S : Type 0} (Step : Edit → S → S → Type 0) (edits : List Edit) (k : ℕ) (edit : Edit) (s m t : S) → At edits k edit → EditsLead Step (take k edits) s m → Step edit m t
    → EditsLead Step (take (suc k) edits) s t
leads-next Step [] k edit s m t at is step = absurd (omega (arith, slice_get_within [] k edit at))
leads-next Step (first ∷ edits) zero edit s m t at is step = (t, subst (λ x. Step x s t) (sym (same_Some first edit at)) (subst (λ x. Step edit x t) is step), refl)
leads-next Step (first ∷ edits) (suc k) edit s m t at is step = (is.0, is.1, leads-next Step edits k edit is.0 m t at is.2 step)

-- the edits that are made are edits
pub made_are_edited : (edits : List Edit) (d d' : Design) → AreMade edits d d' → AreEdited edits d d'
made_are_edited edits d d' is = leads-map IsMade IsEditedDesign (λ x. x) (λ edit s t made. made.edited) edits d d' is

-- ==== on alike designs

-- an edit that is made on the one is not refused on the other
not_refused : (edit : Edit) (d e : Design) (f : EditFault) → AreAlikeDesigns d e → IsEditAccepted d edit → ¬ IsRefusedFor e edit f
not_refused edit d e f alike accepted refused = accepted f ((refused_alike edit d e f alike).1 refused)

-- an edit that comes to be refused is not made on alike designs
refused_apart : (edits : List Edit) (d e d' reached : Design) (k : ℕ) (edit : Edit) (f : EditFault) → AreAlikeDesigns d e → AreMade edits d d'
    → At edits k edit → AreMade (take k edits) e reached → ¬ IsRefusedFor reached edit f
refused_apart [] d e d' reached k edit f alike made at before refused = absurd (omega (arith, slice_get_within [] k edit at))
refused_apart (first ∷ edits) d e d' reached zero edit f alike made at before refused =
    not_refused first d e f alike made.1.accepted (rw (same_Some first edit at) (subst (λ (x : Design). IsRefusedFor x edit f) before refused))
refused_apart (first ∷ edits) d e d' reached (suc k) edit f alike made at before refused =
    refused_apart edits made.0 before.0 d' reached k edit f (edited_alike d e made.0 before.0 alike first made.1.edited before.1.edited) made.2 at before.2 refused

pub made_or_refused : (edits : List Edit) (d e d' : Design) (k : ℕ) (f : EditFault) → AreAlikeDesigns d e → AreMade edits d d' → ¬ IsFirstRefused edits e k f
made_or_refused edits d e d' k f alike made first = refused_apart edits d e d' first.reached k first.edit f alike made first.stands first.made first.refused

-- what two runs of edits come to, where both end with one that is refused
first_alike : (edits : List Edit) (d e : Design) (k j : ℕ) (f g : EditFault) (reached other : Design) (edit last : Edit) → AreAlikeDesigns d e
    → At edits k edit → AreMade (take k edits) d reached → IsRefusedFor reached edit f
    → At edits j last → AreMade (take j edits) e other → IsRefusedFor other last g → (k ≡ j) × (f ≡ g)
first_alike [] d e k j f g reached other edit last alike at before refused at_j before_j refused_j = absurd (omega (arith, slice_get_within [] k edit at))
first_alike (first ∷ edits) d e zero zero f g reached other edit last alike at before refused at_j before_j refused_j =
    let here : IsRefusedFor d first f = rw (same_Some first edit at) (subst (λ (x : Design). IsRefusedFor x edit f) before refused) in
    let there : IsRefusedFor e first g = rw (same_Some first last at_j) (subst (λ (x : Design). IsRefusedFor x last g) before_j refused_j) in
    (refl, one_refusal e first f g ((refused_alike first d e f alike).0 here) there)
first_alike (first ∷ edits) d e zero (suc j) f g reached other edit last alike at before refused at_j before_j refused_j =
    let here : IsRefusedFor d first f = rw (same_Some first edit at) (subst (λ (x : Design). IsRefusedFor x edit f) before refused) in
    absurd (before_j.1.accepted f ((refused_alike first d e f alike).0 here))
first_alike (first ∷ edits) d e (suc k) zero f g reached other edit last alike at before refused at_j before_j refused_j =
    let there : IsRefusedFor e first g = rw (same_Some first last at_j) (subst (λ (x : Design). IsRefusedFor x last g) before_j refused_j) in
    absurd (before.1.accepted g ((refused_alike first d e g alike).1 there))
first_alike (first ∷ edits) d e (suc k) (suc j) f g reached other edit last alike at before refused at_j before_j refused_j =
    let rest = first_alike edits before.0 before_j.0 k j f g reached other edit last
    (edited_alike d e before.0 before_j.0 alike first before.1.edited before_j.1.edited) at before.2 refused at_j before_j.2 refused_j in
    (ap suc rest.0, rest.1)

pub first_refused_alike : (edits : List Edit) (d e : Design) (k j : ℕ) (f g : EditFault) → AreAlikeDesigns d e → IsFirstRefused edits d k f → IsFirstRefused edits e j g → (k ≡ j) × (f ≡ g)
first_refused_alike edits d e k j f g alike one other =
    first_alike edits d e k j f g one.reached other.reached one.edit other.edit alike one.stands one.made one.refused other.stands other.made other.refused
