-- The laws at the opening.
use Rattle.std.proofs.Common.{◌≡◌, ℕ, zero, suc, ◌≤◌, refl, sym, ◌∙◌, ap, subst, arith, Some, None, List, [], ◌∷◌, ◌++◌, length, map, drop, replicate, false}
use Rattle.std.specs.Prelude.{Option, is_some, get_or, take_while}
use Rattle.std.proofs.lemmas.List.{append-nil, length-replicate}
use Rattle.sa_base.specs.declared.number.SpaceNo.{SpaceNo}
use Rattle.sa_base.specs.declared.number.ProcNo.{ProcNo}
use Rattle.sa_base.specs.declared.record.Record.{Record}
use Rattle.sa_base.specs.declared.record.Record.TheVariants.{Aim}
use Rattle.sa_spaces.specs.Workload.{WorkloadView, IsWorkload}
use Rattle.sa_lemmas.proofs.ListReads.{all-same}
use Rattle.sa_lemmas.proofs.Searches.{while-none}
use Rattle.sa_assign.specs.Aims.{Change, space_no}
use Rattle.sa_assign.specs.Reaim.{proc_no, line_at, lines_with, line_records, records_of}
use Rattle.sa_kernel_model.specs.Opening.{opened}
use Rattle.sa_kernel_model.proofs.sound.Sound.{sound-opening, sound-opened}
use Rattle.sa_kernel_model.proofs.sound.Prompt.{prompt-closed}
use Rattle.sa_laws.specs.Readings.{Readings, opening_readings, space_of_life}
use Rattle.sa_laws.specs.History.{event_begun, behind_all, after_records, after_event}
use Rattle.sa_laws.specs.Shape.{is_no_aim, lines_in, aims_in, before_aims, front_part}
use Rattle.sa_laws.specs.Opening.{first_wants, opening_records, opening_event}
use Rattle.sa_laws.specs.Closing.{want_one, spaces_of, aims_due, lines_due}
use Rattle.sa_laws.specs.Upcalls.{RecordLaw, EachRecord, TellsOnce, NamesTheLife, TellsAllThen, GivesUpcallThen, RaisesLine, BeginsAsInterrupt, FirstLineIsAsked, IsToldInTime, RunsWhereOwned, WantHasCause, SharesAreCovered}
use Rattle.sa_laws.proofs.Records.{records-append}
use Rattle.sa_kernel_laws.specs.Overview.{Overview}
use Rattle.sa_kernel_laws.specs.Laws.{HoldsAtOpening, AnyLines, ToldOnce, AllTold, UpcallGiven, InterruptNext, LineCause}
use Rattle.sa_kernel_laws.proofs.entries.Upcalls.{Lawful, AreLawful, each-weaker}
use Rattle.sa_kernel_laws.proofs.closings.Wants.{spaces_from, wants-lawful, nothing-heard}
use Rattle.sa_kernel_laws.proofs.closings.Aims.{aims-lawful, aims-reads}
use Rattle.sa_kernel_laws.proofs.turns.Shapes.{while-both, drop-front, wants-aims, wants-lines, aims-of, front-is}
use Rattle.sa_kernel_laws.proofs.turns.Kept.{prompt-in}
use Rattle.sa_kernel_laws.proofs.rules.Upcalls.{owned-map, owner-is}
use Rattle.sa_kernel_laws.proofs.rules.Shares.{IsAimed, covered, wants-keep-aims}
use Rattle.sa_kernel_laws.proofs.opening.Opened.{zeroth, wanting, begins-same, untold-none, no-lines_due, opening_scene, opened-is, opening-reads}

-- the opening begins with a want
calm-wants : (n : ℕ) (rest : List Record) → 1 ≤ n → BeginsAsInterrupt (map want_one (spaces_from 0 n) ++ rest) → ⊥
calm-wants zero rest some begins = omega arith
calm-wants (suc n) rest some begins = begins

asked-wants : (w : WorkloadView) (c : Readings) (p : ProcNo) (n : ℕ) (rest : List Record) → 1 ≤ n
    → FirstLineIsAsked AnyLines w c p (map want_one (spaces_from 0 n) ++ rest)
asked-wants w c p zero rest some = absurd (omega arith)
asked-wants w c p (suc n) rest some = tt

front-wants : (n e : ℕ) (lines : List (Option ℕ)) (cs : List Change) → 1 ≤ n
    → front_part (map want_one (spaces_from 0 n) ++ records_of e lines cs) ≡ map want_one (spaces_from 0 n) ++ records_of e lines cs
front-wants zero e lines cs some = absurd (omega arith)
front-wants (suc n) e lines cs some =
    let first = want_one (space_no 0) in
    let wl = map want_one (spaces_from 1 n) in
    let al = records_of e lines cs in
    ap (λ xs. front_part (first ∷ (wl ++ xs))) (sym (append-nil al))
    ∙ front-is first [] wl [] e lines cs refl refl refl (wants-aims (spaces_from 1 n)) (wants-lines (spaces_from 1 n)) (λ q others is. absurd (cc)) refl

no-aims : (e : ℕ) (lines : List (Option ℕ)) (cs : List Change) → take_while is_no_aim (records_of e lines cs) ≡ []
no-aims e lines [] = refl
no-aims e lines (c ∷ cs) =
    while-none is_no_aim (Aim (proc_no c.proc) (Some (space_no c.space)))
    (line_records c.proc (line_at lines c.proc) ++ records_of e (lines_with e lines c) cs) refl

-- each record is lawful
lawful-opening : (w : WorkloadView) → IsWorkload w → AreLawful w 0 zeroth (event_begun w (opening_event w) (opening_readings w)) (opening_records w)
lawful-opening w ok =
    let m = wanting w in
    let cs = aims_due w 0 m in
    let al = records_of 0 m.lines cs in
    let last : AreLawful w 0 zeroth m al = subst (λ xs. AreLawful w 0 zeroth m xs) (append-nil al) (aims-lawful w 0 zeroth m cs [] tt) in
    subst (λ (c : Readings). AreLawful w 0 zeroth c (opening_records w)) (sym (begins-same w ok))
    (wants-lawful w 0 zeroth (opening_readings w) (spaces_of w) al last)

each-opening : (w : WorkloadView) (L : RecordLaw) → IsWorkload w → ((c : Readings) (x : Record) (rest : List Record) → Lawful zeroth c x rest → L c x rest)
    → EachRecord L w 0 zeroth (event_begun w (opening_event w) (opening_readings w)) (opening_records w)
each-opening w L ok weaker =
    each-weaker (Lawful zeroth) L w 0 zeroth (event_begun w (opening_event w) (opening_readings w)) (opening_records w) weaker (lawful-opening w ok)

pub told-once : HoldsAtOpening ToldOnce
told-once test w ok = record { told = each-opening w TellsOnce ok (λ c x rest law. law.once) }

pub all-told : HoldsAtOpening AllTold
all-told test w ok = record { told = each-opening w (TellsAllThen zeroth) ok (λ c x rest law. law.all) }

pub block-upcalls : HoldsAtOpening UpcallGiven
block-upcalls test w ok = record { blocks = each-opening w (GivesUpcallThen zeroth) ok (λ c x rest law. law.gives) }

pub interrupt-next : HoldsAtOpening InterruptNext
interrupt-next test w ok = record {
  interrupt =
      λ up. absurd (let none : is_some (get_or (opening_readings w).lines 0 None) ≡ false = ap is_some (all-same w.processors 0 no_line) in
      let no = sym up ∙ none in cc);
  calm = λ begins. absurd (calm-wants (length w.spaces) (records_of 0 (wanting w).lines (aims_due w 0 (wanting w))) ok.some_space begins);
} where
  no_line : Option ℕ
  no_line = None

-- the moment after the opening, from its beginning
end-is : (w : WorkloadView) → IsWorkload w
    → behind_all w (opening_event w) (opening_readings w) ≡ after_records w 0 zeroth (opening_readings w) (opening_records w)
end-is w ok = ap (λ (c : Readings). after_records w 0 zeroth c (opening_records w)) (begins-same w ok)

-- the kernel's opening is over no context
abbrev Nothing : Type 0
Nothing = Unit {0}

untold-after : (w : WorkloadView) → IsWorkload w → (behind_all w (opening_event w) (opening_readings w)).untold ≡ replicate (length w.spaces) []
untold-after w ok = ap (λ (c : Readings). c.untold) (end-is w ok) ∙ (opened-is Nothing w ok).untold

pub in-time : HoldsAtOpening IsToldInTime
in-time test w ok =
    let o = opened-is Nothing w ok in
    record {
      prompt =
          prompt-in (opened {C = Nothing} w).state (after_event test w (opening_readings w) (opening_event w)) (sound-opened w ok)
          (opening-reads Nothing test w ok o)
          (prompt-closed 0 zeroth (opening_scene Nothing w) (sound-opening {C = Nothing} w ok).formed.sizes);
    }

pub where-owned : HoldsAtOpening RunsWhereOwned
where-owned test w ok =
    let o = opened-is Nothing w ok in
    let after = after_event test w (opening_readings w) (opening_event w) in
    let new = (opened {C = Nothing} w).state in
    let sound = sound-opened {C = Nothing} w ok in
    let reads = opening-reads Nothing test w ok o in
    record {
      named = each-opening w (NamesTheLife zeroth) ok (λ c x rest law. law.named);
      owned =
          ap (λ (v : Overview). v.assign.owners) reads
          ∙ owned-map new.assign.owners new.lives (space_of_life after) sound.formed.sizes.owners (owner-is new after sound reads)
          ∙ ap (λ (v : Overview). map (space_of_life after) v.running) (sym reads);
    }

pub want-cause : HoldsAtOpening WantHasCause
want-cause test w ok = record {
  due = λ later. absurd (omega arith);
  none = λ s.
      let after = after_event test w (opening_readings w) (opening_event w) in
      nothing-heard after s (untold-none after (length w.spaces) s (untold-after w ok));
}

pub line-cause : HoldsAtOpening LineCause
line-cause test w ok =
    let m = wanting w in
    let r = event_begun w (opening_event w) (opening_readings w) in
    let cs = aims_due w 0 m in
    let all = opening_records w in
    let front : front_part all ≡ all = front-wants (length w.spaces) 0 m.lines cs ok.some_space in
    let none : drop (length (front_part all)) all ≡ [] =
    ap (λ xs. drop (length xs) all) front ∙ ap (drop (length all)) (sym (append-nil all)) ∙ drop-front all [] in
    record {
      heard = each-opening w RaisesLine ok (λ c x rest law. law.raises);
      first = asked-wants w (opening_readings w) zeroth (length w.spaces) (records_of 0 m.lines cs) ok.some_space;
      order = ap aims_in none;
      due = ap (λ xs. lines_in xs) none
          ∙ sym (ap (λ xs. lines_due w (after_records w 0 zeroth r xs)) front
          ∙ no-lines_due w (after_records w 0 zeroth r all) (length w.spaces) (untold-after w ok));
    }

pub cover-shares : HoldsAtOpening SharesAreCovered
cover-shares test w ok =
    let m = wanting w in
    let r = event_begun w (opening_event w) (opening_readings w) in
    let cs = aims_due w 0 m in
    let al = records_of 0 m.lines cs in
    let fw = first_wants w in
    let after = after_event test w (opening_readings w) (opening_event w) in
    let end : behind_all w (opening_event w) (opening_readings w) ≡ after_records w 0 zeroth m al =
    end-is w ok ∙ records-append w 0 zeroth (opening_readings w) fw al in
    let aims = aims-reads w 0 zeroth m cs in
    let none : Option SpaceNo = None in
    let len : length m.aims ≡ w.processors =
    ap (λ (xs : List (Option SpaceNo)). length xs) (wants-keep-aims w 0 zeroth (opening_readings w) (spaces_of w)) ∙ length-replicate w.processors none in
    let is : IsAimed w 0 m after = record {
      aims = ap (λ (d : Readings). d.aims) end ∙ ap (λ (v : Overview). v.assign.aims) aims;
      demands = ap (λ (d : Readings). d.demands) end ∙ ap (λ (v : Overview). v.demands) aims;
      under_way = ap (λ (d : Readings). d.under_way) end ∙ ap (λ (v : Overview). v.under_way) aims;
    } in
    let inner : aims_in (opening_records w) ≡ cs =
    ap (λ xs. aims_in (fw ++ xs)) (sym (append-nil al)) ∙ aims-of fw [] [] 0 m.lines cs (wants-aims (spaces_of w)) refl refl in
    let front : before_aims (opening_records w) ≡ fw =
    while-both is_no_aim fw al (wants-aims (spaces_of w)) ∙ ap (λ xs. fw ++ xs) (no-aims 0 m.lines cs) ∙ append-nil fw in
    record {
      covered = covered w 0 m after ok len is;
      due =
          inner ∙ sym (ap (λ xs. aims_due w 0 (after_records w 0 zeroth r xs)) front
          ∙ ap (λ (c : Readings). aims_due w 0 (after_records w 0 zeroth c fw)) (begins-same w ok));
    }
