-- What refuses a text: it is one cause, and it never refuses a text that has a routing.
use Rattle.std.proofs.Common.{◌≡◌, ◌<◌, ℕ, All, length, get_or, arith, List, [], ◌∷◌, ◌++◌, refl, sym, ap, ◌∙◌, subst, Ok, Err, Some, inl, inr}
use Rattle.std.specs.Prelude.{◌⊎◌, Option}
use Rattle.std.proofs.lemmas.Option.{get_or_from_slice_get, slice_get_within, slice_get-get_or}
use Rattle.std.proofs.lemmas.Slice.Zip.{AllZip-long}
use Rattle.grid_base.specs.Lists.{At}
use Rattle.grid_graph.specs.declared.design.Design.{Design}
use Rattle.grid_graph.specs.declared.grid.Grid.{Grid}
use Rattle.grid_graph.specs.declared.ground.Ground.{Ground}
use Rattle.grid_graph.specs.declared.ground.Ground.TheVariants.{Open, WithChoked}
use Rattle.grid_graph.specs.declared.net_spec.NetSpec.{NetSpec}
use Rattle.grid_graph.specs.declared.ground_error.GroundError.{GroundError}
use Rattle.grid_graph.specs.declared.ground_error.GroundError.TheVariants as ground_errors
use Rattle.grid_graph.specs.Grounds.{AreGrounds, IsFirstGroundError, IsGround, JoinsTerminals}
use Rattle.grid_graph.specs.declared.unreachable_net.UnreachableNet.{UnreachableNet}
use Rattle.gr_desk.specs.Told.{Told}
use Rattle.ispd_reader.specs.Designs.{IsDesignOfText}
use Rattle.ispd_reader.proofs.Alike.{one_design}
use Rattle.grid_graph.proofs.Alike.{IsFirstCutOff-alike}
use Rattle.grid_graph.proofs.Grounds.{joins_with_choked}
use Rattle.grid_graph.proofs.CutOff.{first_cut_off-once, cut_off-unreachable}
use Rattle.command_runs.specs.declared.refusal.Refusal.{Refusal}
use Rattle.command_runs.specs.declared.refusal.Refusal.TheVariants.{NoCommand, Input, Unreachable, Text, Unread, NoMemory}
use Rattle.gr_desk.specs.declared.port.Port.{Port}
use Rattle.gr_desk.specs.declared.port.Port.TheVariants.{In, RoutesIn, CertIn, EditsIn, RoutesOut, CertOut, DesignOut, GuideOut, MapOut, Report}
use Rattle.command_runs.specs.Refusals.{IsRefusedAt, IsAcceptedAt, AreUnopened, HasToBeRefused, AreAccepted, HaveAcceptedBytes, IsCause, IsCauseAt}
use Rattle.command_runs.specs.Sources.{Source, IfTold, ports_of}
use Rattle.command_runs.specs.Steps.{IsRefusedFor, of_ground_error}
use Rattle.command_runs.specs.Traces.{InputFailed}
use Rattle.grid_base.proofs.Lists.{AllZip-at, Contains-rest}
use Rattle.command_runs.proofs.Bytes.{has-since, of_told}
use Rattle.command_runs.proofs.Traces.{none_in, ports-either}

-- the first net that is cut off is one, in whatever design of the text
one_cut_off : (text : List ℕ) (net other : UnreachableNet) → IsRefusedAt In text (Unreachable net) → IsRefusedAt In text (Unreachable other)
    → (net.id ≡ other.id) × (net.terminal ≡ other.terminal)
one_cut_off text net other (d, named, first) (e, named_too, first_too) =
    let alike = one_design text d e named named_too in
    first_cut_off-once e.grid e.nets net.id other.id net.terminal other.terminal
    (IsFirstCutOff-alike d.grid e.grid e.nets net.id net.terminal alike.grids (rw alike.nets at first)) first_too

same_net : (net other : UnreachableNet) → net.id ≡ other.id → net.terminal ≡ other.terminal → net ≡ other
same_net net other id terminal =
    let with_id : ℕ → UnreachableNet = λ x. record { id = x; terminal = net.terminal } in
    let with_terminal : ℕ → UnreachableNet = λ x. record { id = other.id; terminal = x } in
    ap with_id id ∙ ap with_terminal terminal

-- the text of a design is refused for one cause
pub refused_once : (text : List ℕ) (r x : Refusal) → IsRefusedAt In text r → IsRefusedAt In text x → r ≡ x
refused_once text NoCommand x h k = absurd h
refused_once text Unread x h k = absurd h
refused_once text NoMemory x h k = absurd h
refused_once text (Text fault) x h k = absurd h
refused_once text r NoCommand h k = absurd k
refused_once text r Unread h k = absurd k
refused_once text r NoMemory h k = absurd k
refused_once text r (Text fault) h k = absurd k
refused_once text (Input fault) (Input other) h k = let same : Err fault ≡ Err other = sym h ∙ k in cc
refused_once text (Input fault) (Unreachable net) h k = let same : Err fault ≡ Ok k.1.contents = sym h ∙ k.1.read in cc
refused_once text (Unreachable net) (Input fault) h k = let same : Err fault ≡ Ok h.1.contents = sym k ∙ h.1.read in cc
refused_once text (Unreachable net) (Unreachable other) h k = let same = one_cut_off text net other h k in ap (λ (n : UnreachableNet). Unreachable n) (same_net net other same.0 same.1)

-- open and choked edges with vias join every net's terminals
abbrev pub AreReachable : Grid → List NetSpec → Type 0
AreReachable g nets = All (λ n. JoinsTerminals g WithChoked n.terminals) nets

reachable_at : (g : Grid) (nets : List NetSpec) (k : ℕ) (n : NetSpec) → AreReachable g nets → At nets k n → JoinsTerminals g WithChoked n.terminals
reachable_at g nets k n all at =
    subst (λ (m : NetSpec). JoinsTerminals g WithChoked m.terminals) (get_or_from_slice_get nets k n n at) (all k n (slice_get_within nets k n at))

-- the nets of a design with grounds are
pub grounds_reachable : (g : Grid) (nets : List NetSpec) (over : List Ground) → AreGrounds g nets over → AreReachable g nets
grounds_reachable g nets over all k d inside =
    let n = get_or nets k d in
    let at : At nets k n = slice_get-get_or nets k d inside in
    let within : k < length over = omega (arith, inside, AllZip-long (λ (m : NetSpec) (found : Ground). IsGround g m.terminals found) nets over all) in
    let is = AllZip-at (λ (m : NetSpec) (found : Ground). IsGround g m.terminals found) nets over k n (get_or over k Open) all at (slice_get-get_or over k Open within) in
    joins_with_choked g n.terminals (get_or over k Open) is

-- so its text is accepted
pub design-accepted : (text : List ℕ) (d : Design) (over : List Ground) → IsDesignOfText text d → AreGrounds d.grid d.nets over
    → IsAcceptedAt In text
design-accepted text d over named grounds = (d, named, grounds_reachable d.grid d.nets over grounds)

-- a text that names a design of reachable nets is not refused
pub not_refused : (text : List ℕ) (d : Design) (r : Refusal) → IsDesignOfText text d → AreReachable d.grid d.nets → IsRefusedAt In text r → ⊥
not_refused text d NoCommand named reachable h = h
not_refused text d Unread named reachable h = h
not_refused text d NoMemory named reachable h = h
not_refused text d (Text fault) named reachable h = h
not_refused text d (Input fault) named reachable h = let same : Err fault ≡ Ok named.contents = sym h ∙ named.read in cc
not_refused text d (Unreachable net) named reachable (e, named_too, first) =
    let alike = one_design text e d named_too named in
    cut_off-unreachable d.grid d.nets net.id net.terminal (IsFirstCutOff-alike e.grid d.grid d.nets net.id net.terminal alike.grids (rw alike.nets at first))
    (λ k n at. reachable_at d.grid d.nets k n reachable at)

-- a text at a port is refused for one cause
pub refused_once_at : (port : Port) (text : List ℕ) (r x : Refusal) → IsRefusedAt port text r → IsRefusedAt port text x → r ≡ x
refused_once_at In text r x h k = refused_once text r x h k
refused_once_at RoutesIn text r x h k = let same : Err r ≡ Err x = sym h ∙ k in cc
refused_once_at CertIn text r x h k = let same : Err r ≡ Err x = sym h ∙ k in cc
refused_once_at EditsIn text r x h k = let same : Err r ≡ Err x = sym h ∙ k in cc
refused_once_at RoutesOut text r x h k = absurd h
refused_once_at CertOut text r x h k = absurd h
refused_once_at DesignOut text r x h k = absurd h
refused_once_at GuideOut text r x h k = absurd h
refused_once_at MapOut text r x h k = absurd h
refused_once_at Report text r x h k = absurd h

-- a text that is accepted at a port is not refused there
pub not_refused_at : (port : Port) (text : List ℕ) (r : Refusal) → IsAcceptedAt port text → IsRefusedAt port text r → ⊥
not_refused_at In text r accepted h = not_refused text accepted.0 r accepted.1 accepted.2 h
not_refused_at RoutesIn text r accepted h = let same : Err r ≡ Ok accepted.0 = sym h ∙ accepted.1 in cc
not_refused_at CertIn text r accepted h = let same : Err r ≡ Ok accepted.0 = sym h ∙ accepted.1 in cc
not_refused_at EditsIn text r accepted h = let same : Err r ≡ Ok accepted.0 = sym h ∙ accepted.1 in cc
not_refused_at RoutesOut text r accepted h = h
not_refused_at CertOut text r accepted h = h
not_refused_at DesignOut text r accepted h = h
not_refused_at GuideOut text r accepted h = h
not_refused_at MapOut text r accepted h = h
not_refused_at Report text r accepted h = h

-- where no open or read failed, what a run ended for at a file is what its text says, or want of memory
cause_at-says : (s : Source) (a c : Told) (r : Refusal) → IsCauseAt s a c r → ¬ InputFailed a c
    → IfTold a.files s.name (λ bytes. IsRefusedAt s.port bytes r) ⊎ (r ≡ NoMemory)
cause_at-says s a c NoCommand cause calm = absurd cause
cause_at-says s a c (Input fault) cause calm = inl (of_told (λ bytes. IsRefusedAt s.port bytes (Input fault)) cause)
cause_at-says s a c (Text fault) cause calm = inl (of_told (λ bytes. IsRefusedAt s.port bytes (Text fault)) cause)
cause_at-says s a c (Unreachable net) cause calm = inl (of_told (λ bytes. IsRefusedAt s.port bytes (Unreachable net)) cause)
cause_at-says s a c Unread cause calm = absurd (calm cause)
cause_at-says s a c NoMemory cause calm = inr refl

-- a run that ends before a text that has to be refused ends for that, or for want of memory
pub cause-due : (sources : List Source) (a c : Told) (r x : Refusal) → IsCause sources a c r → HasToBeRefused a.files sources x → ¬ InputFailed a c → (r ≡ x) ⊎ (r ≡ NoMemory)
cause-due [] a c r x cause due calm = absurd due
cause-due (s ∷ later) a c r x (inl (at, unopened)) (bytes, under, inl now) calm = elim (cause_at-says s a c r at calm) [
  | inl says ↦ inl (refused_once_at s.port bytes r x (says bytes under) now)
  | inr memory ↦ inr memory
]
cause-due (s ∷ later) a c r x (inl (at, unopened)) (bytes, under, inr more) calm = elim (cause_at-says s a c r at calm) [
  | inl says ↦ absurd (not_refused_at s.port bytes r more.0 (says bytes under))
  | inr memory ↦ inr memory
]
cause-due (s ∷ later) a c r x (inr (accepted, rest)) (bytes, under, inl now) calm = absurd (not_refused_at s.port bytes x (of_told (IsAcceptedAt s.port) accepted bytes under) now)
cause-due (s ∷ later) a c r x (inr (accepted, rest)) (bytes, under, inr more) calm = cause-due later a c r x rest more.1 calm

-- where all texts are accepted it ends for want of memory alone
pub cause-accepted : (sources : List Source) (a c : Told) (r : Refusal) → IsCause sources a c r → AreAccepted a.files sources → ¬ InputFailed a c → r ≡ NoMemory
cause-accepted [] a c r cause all calm = cause
cause-accepted (s ∷ later) a c r (inl (at, unopened)) all calm = elim (cause_at-says s a c r at calm) [
  | inl says ↦ absurd (not_refused_at s.port all.0.0 r all.0.2 (says all.0.0 all.0.1))
  | inr memory ↦ memory
]
cause-accepted (s ∷ later) a c r (inr (accepted, rest)) all calm = cause-accepted later a c r rest all.1 calm

-- where the desk tells all texts, and they are accepted, it ends for nothing but a failed open or read, or want of memory
cause_at-accepted : (s : Source) (a c : Told) (r : Refusal) (text : List ℕ) → a.files s.name ≡ Some text → IsAcceptedAt s.port text
    → IsCauseAt s a c r → (r ≡ Unread) ⊎ (r ≡ NoMemory)
cause_at-accepted s a c NoCommand text under accepted cause = absurd cause
cause_at-accepted s a c (Input fault) text under accepted cause =
    absurd (not_refused_at s.port text (Input fault) accepted (of_told (λ bytes. IsRefusedAt s.port bytes (Input fault)) cause text under))
cause_at-accepted s a c (Text fault) text under accepted cause =
    absurd (not_refused_at s.port text (Text fault) accepted (of_told (λ bytes. IsRefusedAt s.port bytes (Text fault)) cause text under))
cause_at-accepted s a c (Unreachable net) text under accepted cause =
    absurd (not_refused_at s.port text (Unreachable net) accepted (of_told (λ bytes. IsRefusedAt s.port bytes (Unreachable net)) cause text under))
cause_at-accepted s a c Unread text under accepted cause = inl refl
cause_at-accepted s a c NoMemory text under accepted cause = inr refl

pub cause-of_accepted : (sources : List Source) (a c : Told) (r : Refusal) → IsCause sources a c r → AreAccepted a.files sources → (r ≡ Unread) ⊎ (r ≡ NoMemory)
cause-of_accepted [] a c r cause all = inr cause
cause-of_accepted (s ∷ later) a c r (inl (at, unopened)) all = cause_at-accepted s a c r all.0.0 all.0.1 all.0.2 at
cause-of_accepted (s ∷ later) a c r (inr (accepted, rest)) all = cause-of_accepted later a c r rest all.1

-- ---- a run that reads one file

-- the cause at a file that is read alone
pub cause-alone : (s : Source) (a b : Told) (r : Refusal) → IsCauseAt s a b r → IsCause (s ∷ []) a b r
cause-alone s a b r at = inl (at, λ p in_none. absurd (none_in p in_none))

-- what the text of a file is refused for is a cause, and so is want of memory
pub cause_at-of_text : (s : Source) (text : List ℕ) (a b : Told) (r : Refusal) → IfTold a.files s.name (λ told. text ≡ told)
    → IsRefusedFor s.port text r → IsCauseAt s a b r
cause_at-of_text s text a b NoCommand same for = absurd for
cause_at-of_text s text a b (Input fault) same for = record { bytes = text; is_so = for; are_told = same }
cause_at-of_text s text a b (Text fault) same for = record { bytes = text; is_so = for; are_told = same }
cause_at-of_text s text a b (Unreachable net) same for = record { bytes = text; is_so = for; are_told = same }
cause_at-of_text s text a b Unread same for = absurd for
cause_at-of_text s text a b NoMemory same for = tt

-- what the text of a design is refused for
pub design-refused : (text : List ℕ) (r : Refusal) → IsRefusedAt In text r ⊎ (r ≡ NoMemory) → IsRefusedFor In text r
design-refused text r (inr memory) = subst (IsRefusedFor In text) (sym memory) tt
design-refused text NoCommand (inl for) = for
design-refused text (Input fault) (inl for) = for
design-refused text (Text fault) (inl for) = for
design-refused text (Unreachable net) (inl for) = for
design-refused text Unread (inl for) = for
design-refused text NoMemory (inl for) = tt

-- and what a design without grounds is refused for
pub design-ungrounded : (text : List ℕ) (d : Design) (e : GroundError) → IsDesignOfText text d → IsFirstGroundError d.grid d.nets e → IsRefusedFor In text (of_ground_error e)
design-ungrounded text d (ground_errors.Unreachable net) named cause = (d, named, cause)
design-ungrounded text d ground_errors.NoMemory named cause = tt

-- ---- causes of parts of a run

-- then none of them has to be refused
pub accepted-not_due : (files : List ℕ → Option (List ℕ)) (sources : List Source) (r : Refusal) → HaveAcceptedBytes files sources → HasToBeRefused files sources r → ⊥
accepted-not_due files [] r all due = due
accepted-not_due files (s ∷ later) r all (bytes, under, inl now) = not_refused_at s.port bytes r (of_told (IsAcceptedAt s.port) all.0 bytes under) now
accepted-not_due files (s ∷ later) r all (bytes, under, inr more) = accepted-not_due files later r all.1 more.1

-- they are on a desk that tells the same, and so are some files and others behind them
pub accepted-since : (files others : List ℕ → Option (List ℕ)) (sources : List Source) → others ≡ files → HaveAcceptedBytes others sources
    → HaveAcceptedBytes files sources
accepted-since files others sources same all = rw same at all

pub accepted-both : (files : List ℕ → Option (List ℕ)) (first later : List Source) → HaveAcceptedBytes files first
    → HaveAcceptedBytes files later → HaveAcceptedBytes files (first ++ later)
accepted-both files [] later all more = more
accepted-both files (s ∷ first) later all more = (all.0, accepted-both files first later all.1 more)

-- memory may be wanting before the first file is opened
cause-unopened : (sources : List Source) (a b : Told) → AreUnopened sources a b → IsCause sources a b NoMemory
cause-unopened [] a b kept = refl
cause-unopened (s ∷ later) a b kept = inl (tt, λ p is. kept p (Contains-rest s.port (ports_of later) p is))

pub cause-unbegun : (sources : List Source) (a : Told) → IsCause sources a a NoMemory
cause-unbegun sources a = cause-unopened sources a a (λ p is. refl)

-- and behind the last one
pub cause-read : (sources : List Source) (a b : Told) → HaveAcceptedBytes a.files sources → IsCause sources a b NoMemory
cause-read [] a b accepted = refl
cause-read (s ∷ later) a b accepted = inr (accepted.0, cause-read later a b accepted.1)

-- a cause stays one where no open or read follows
cause_at-later : (s : Source) (a b c : Told) (r : Refusal) → c.in_faults ≡ b.in_faults → IsCauseAt s a b r → IsCauseAt s a c r
cause_at-later s a b c NoCommand same cause = cause
cause_at-later s a b c (Input fault) same cause = cause
cause_at-later s a b c (Text fault) same cause = cause
cause_at-later s a b c (Unreachable net) same cause = cause
cause_at-later s a b c Unread same cause = rw same cause
cause_at-later s a b c NoMemory same cause = cause

pub cause-later : (sources : List Source) (a b c : Told) (r : Refusal) → c.in_faults ≡ b.in_faults → AreUnopened sources b c → IsCause sources a b r → IsCause sources a c r
cause-later [] a b c r same kept cause = cause
cause-later (s ∷ later) a b c r same kept (inl (at, unopened)) =
    inl (cause_at-later s a b c r same at, λ p is. kept p (Contains-rest s.port (ports_of later) p is) ∙ unopened p is)
cause-later (s ∷ later) a b c r same kept (inr (accepted, rest)) =
    inr (accepted, cause-later later a b c r same (λ p is. kept p (Contains-rest s.port (ports_of later) p is)) rest)

-- and it was one where no open or read of these files came before
cause_at-since : (s : Source) (a b c : Told) (r : Refusal) → b.files ≡ a.files → b.in_faults ≡ a.in_faults → IsCauseAt s b c r → IsCauseAt s a c r
cause_at-since s a b c NoCommand files calm cause = cause
cause_at-since s a b c (Input fault) files calm cause = rw files at cause
cause_at-since s a b c (Text fault) files calm cause = rw files at cause
cause_at-since s a b c (Unreachable net) files calm cause = rw files at cause
cause_at-since s a b c Unread files calm cause = rw (sym calm) cause
cause_at-since s a b c NoMemory files calm cause = cause

cause-since : (sources : List Source) (a b c : Told) (r : Refusal) → b.files ≡ a.files → b.in_faults ≡ a.in_faults → AreUnopened sources a b → IsCause sources b c r → IsCause sources a c r
cause-since [] a b c r files calm kept cause = cause
cause-since (s ∷ later) a b c r files calm kept (inl (at, unopened)) =
    inl (cause_at-since s a b c r files calm at, λ p is. unopened p is ∙ kept p (Contains-rest s.port (ports_of later) p is))
cause-since (s ∷ later) a b c r files calm kept (inr (accepted, rest)) =
    inr (has-since files accepted, cause-since later a b c r files calm (λ p is. kept p (Contains-rest s.port (ports_of later) p is)) rest)

-- a cause in the first files is one where others would follow
pub cause-early : (first later : List Source) (a b : Told) (r : Refusal) → AreUnopened later a b → IsCause first a b r → IsCause (first ++ later) a b r
cause-early [] later a b r kept cause = subst (IsCause later a b) (sym cause) (cause-unopened later a b kept)
cause-early (s ∷ first) later a b r kept (inl (at, unopened)) = inl (
  at,
  λ p is. elim (ports-either first later p is) [
    | inl in_first ↦ unopened p in_first
    | inr in_later ↦ kept p in_later
  ],
)
cause-early (s ∷ first) later a b r kept (inr (accepted, rest)) = inr (accepted, cause-early first later a b r kept rest)

-- a cause in later files is one behind files that were accepted
pub cause-behind : (first later : List Source) (a b c : Told) (r : Refusal) → HaveAcceptedBytes a.files first
    → b.files ≡ a.files → b.in_faults ≡ a.in_faults → AreUnopened later a b → IsCause later b c r → IsCause (first ++ later) a c r
cause-behind [] later a b c r accepted files calm kept cause = cause-since later a b c r files calm kept cause
cause-behind (s ∷ first) later a b c r accepted files calm kept cause = inr (accepted.0, cause-behind first later a b c r accepted.1 files calm kept cause)
