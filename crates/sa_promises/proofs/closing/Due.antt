-- After each event of a legal run but the opening no line is due.
use Rattle.std.proofs.Common.{◌≡◌, ◌≢◌, ℕ, zero, suc, ◌+◌, ◌<◌, ◌≤◌, inl, inr, refl, sym, ◌∙◌, ap, subst, arith, Some, None, List, [], ◌∷◌, ◌++◌, length, map, drop, true, false}
use Rattle.std.specs.Prelude.{Option, Bool, ◌&&◌, not, is_some, is_none, if◌then◌else◌, get_or, slice_set, filter, filter_map, Contains, slice_get, take, take_while}
use Rattle.std.proofs.lemmas.Bool.{cases_eq, and_parts}
use Rattle.std.proofs.lemmas.List.{get_or-set_same, get_or-set_other, length-set}
use Rattle.std.proofs.lemmas.List.Elements.{Contains-append_right}
use Rattle.std.proofs.lemmas.Option.{none-some, same_Some}
use Rattle.sa_base.specs.declared.number.SpaceNo.{SpaceNo}
use Rattle.sa_base.specs.declared.number.ProcNo.{ProcNo}
use Rattle.sa_base.specs.declared.record.Record.{Record}
use Rattle.sa_base.specs.declared.record.Record.TheVariants.{Ins, Out, Run, Stop, Block, Unblock, Cont, Back, Ready, Take, Free, Up, Told, Move, Want, Aim, Line, Fetch, Fetched, GiveBack, Idle, Spin}
use Rattle.sa_base.specs.declared.number.ActNo.{ActNo}
use Rattle.sa_instr.specs.declared.instr.Instr.{Instr}
use Rattle.sa_instr.specs.declared.instr.Instr.TheVariants as instr
use Rattle.sa_devices.specs.declared.kind.IoKind.{IoKind}
use Rattle.sa_devices.specs.declared.kind.IoKind.TheVariants.{Plain, Page, Upcall}
use Rattle.sa_devices.specs.Ios.{Io, due_of}
use Rattle.sa_laws.specs.Life.{Life}
use Rattle.sa_laws.specs.State.{instr_of}
use Rattle.sa_spaces.specs.Workload.{WorkloadView}
use Rattle.sa_assign.specs.Aims.{is_aim, least_below}
use Rattle.sa_assign.specs.Reaim.{proc_no}
use Rattle.sa_assign.proofs.ChoiceLemmas.{least_below-passes, least_below-none}
use Rattle.sa_base.specs.declared.record.Item.{Item}
use Rattle.sa_lemmas.proofs.Options.{none-is}
use Rattle.sa_laws.specs.Event.{Event, events_of}
use Rattle.sa_laws.specs.Readings.{Readings, running_of, life_on, taken_of, owner_of, aim_of, line_of, untold_of, is_fetching, opening_readings}
use Rattle.sa_laws.specs.Record.{after_record}
use Rattle.sa_laws.specs.History.{event_begun, after_records, after_event, behind, behind_all, after_events}
use Rattle.sa_laws.specs.Shape.{own_part, is_own, is_line, is_other_line, before_lines, front_part, last_lines, lines_in, aims_in}
use Rattle.sa_laws.specs.Turns.{AreRaising, IsClosing, AreTold, IsFetchOrNothing, IsPassage, IsInterrupt, IsOver, IsInsOf, IsTickOrStep, IsTurnWhileDue, IsTurn}
use Rattle.sa_laws.specs.Upcalls.{EachRecord, RaisesLine}
use Rattle.sa_laws.specs.Closing.{spaces_of, will_tell, can_be_raised, must_interrupt, has_untold, line_due, lines_due}
use Rattle.sa_laws.specs.Rules.{UserRules, IsLawful}
use Rattle.sa_promises.specs.Needs.{FormedBy, FormedIn, IsFormed, HasForms}
use Rattle.sa_histories.specs.Lawful.{AreLawful}
use Rattle.sa_laws.specs.Legal.{IsLegal, before}
use Rattle.sa_laws.proofs.Records.{records-append}
use Rattle.sa_laws.proofs.Lengths.{lines-length}
use Rattle.sa_histories.proofs.Traces.{legal-lawful}
use Rattle.sa_promises.specs.Closings.{NoLineIsDue}
use Rattle.sa_promises.proofs.closing.Closings.{take-next, after-append}
use Rattle.sa_promises.proofs.closing.Low.{LowAimed, AllLeave, front-fine, fine-step, each-behind}
use Rattle.sa_promises.proofs.closing.Front.{LowAt, in-parts, own-final, procs-begun, procs-records, turned-leave, leave-append, closing-leave, begun-aimed, low-along, low-first}

-- a list of lines
abbrev pub AllLine : List Record → Type 0
AllLine [] = Unit {0}
AllLine (Line q ∷ xs) = AllLine xs
AllLine (x ∷ xs) = ⊥

raising-lines : (xs : List Record) → AreRaising xs → aims_in xs ≡ [] → AllLine xs
raising-lines [] is none = tt
raising-lines (Line q ∷ xs) is none = raising-lines xs is none
raising-lines (Aim q (Some s) ∷ xs) is none = absurd (cc)
raising-lines (Aim q None ∷ xs) is none = absurd is
raising-lines (x ∷ xs) is none = absurd is

-- after the first other line of a closing come lines
abbrev rest_of : Option Record → List Record → List Record
rest_of last xs = drop (length (before_lines last xs)) xs

raising-rest : (last : Option Record) (xs : List Record) → AreRaising xs → aims_in (rest_of last xs) ≡ [] → AllLine (rest_of last xs)
raising-rest last [] is none = tt
raising-rest last (Aim q (Some s) ∷ xs) is none = raising-rest (Some (Aim q (Some s))) xs is none
raising-rest last (Line q ∷ xs) is none = one (is_other_line last (Line q)) refl (λ n. raising-rest (Some (Line q)) xs is n) none where
  one : (b : Bool) → is_other_line last (Line q) ≡ b → (aims_in (rest_of (Some (Line q)) xs) ≡ [] → AllLine (rest_of (Some (Line q)) xs))
      → aims_in (drop (length (if b then [] else Line q ∷ before_lines (Some (Line q)) xs)) (Line q ∷ xs)) ≡ []
      → AllLine (drop (length (if b then [] else Line q ∷ before_lines (Some (Line q)) xs)) (Line q ∷ xs))
  one true other rest n = raising-lines (Line q ∷ xs) is n
  one false goes rest n = rest n
raising-rest last (Aim q None ∷ xs) is none = absurd is
raising-rest last (x ∷ xs) is none = absurd is

closing-rest : (last : Option Record) (xs : List Record) → IsClosing xs → aims_in (rest_of last xs) ≡ [] → AllLine (rest_of last xs)
closing-rest last (Want s n ∷ xs) is none = closing-rest (Some (Want s n)) xs is none
closing-rest last [] is none = tt
closing-rest last (Aim q (Some s) ∷ xs) is none = raising-rest last (Aim q (Some s) ∷ xs) is none
closing-rest last (Line q ∷ xs) is none = raising-rest last (Line q ∷ xs) is none
closing-rest last (Aim q None ∷ xs) is none = absurd is
closing-rest last (x ∷ xs) is none = absurd is

-- what lines change
pub record LinesRaised (r after : Readings) : Type 0 where
  pub owners : after.state.owners ≡ r.state.owners
  pub aims : after.aims ≡ r.aims
  pub untold : after.untold ≡ r.untold
  pub under_way : after.under_way ≡ r.under_way
  pub low : (q : ℕ) → get_or after.lines q None ≡ None → get_or r.lines q None ≡ None

raised-all : (w : WorkloadView) (e : ℕ) (p : ProcNo) (r : Readings) (xs : List Record) → AllLine xs → LinesRaised r (after_records w e p r xs)
raised-all w e p r [] all = record { owners = refl; aims = refl; untold = refl; under_way = refl; low = λ q is. is }
raised-all w e p r (Line t ∷ xs) all =
    let more = raised-all w e p (after_record w e p r (Line t)) xs all in
    record { owners = more.owners; aims = more.aims; untold = more.untold; under_way = more.under_way; low = λ q is. one q (more.low q is) }
  where
    one : (q : ℕ) → get_or (slice_set r.lines t.0 (Some e)) q None ≡ None → get_or r.lines q None ≡ None
    one q is = elim (cases_eq q t.0) [
      | inl same ↦ at r.lines t.0 q same is
      | inr apart ↦ sym (get_or-set_other r.lines t.0 q (Some e) None apart) ∙ is
    ] where
      at : (ls : List (Option ℕ)) (i j : ℕ) → j ≡ i → get_or (slice_set ls i (Some e)) j None ≡ None → get_or ls j None ≡ None
      at [] i j same' is' = is'
      at (l ∷ ls) zero zero same' is' = absurd (none-some e (sym is'))
      at (l ∷ ls) zero (suc j) same' is' = absurd (cc)
      at (l ∷ ls) (suc i) zero same' is' = absurd (cc)
      at (l ∷ ls) (suc i) (suc j) same' is' = at ls i j (omega arith) is'
raised-all w e p r (x ∷ xs) all = absurd all

-- a line that is among them is raised
named-raised : (w : WorkloadView) (e : ℕ) (p : ProcNo) (r : Readings) (xs : List Record) (q : ProcNo) → AllLine xs → q.0 < length r.lines → Contains xs (Line q)
    → get_or (after_records w e p r xs).lines q.0 None ≡ None → ⊥
named-raised w e p r [] q all within has low = let h = has in absurd (omega (arith, h.1))
named-raised w e p r (Line t ∷ xs) q all within (zero, below, is) low =
    let same : t ≡ q = line-same t q is in
    let there = (raised-all w e p (after_record w e p r (Line t)) xs all).low q.0 low in
    none-some e (sym there ∙ ap (λ (k : ProcNo). get_or (slice_set r.lines k.0 (Some e)) q.0 None) same ∙ get_or-set_same r.lines q.0 (Some e) None within)
  where
    line-same : (a b : ProcNo) → Line a ≡ Line b → a ≡ b
    line-same a b same' = cc
named-raised w e p r (Line t ∷ xs) q all within (suc k, below, is) low =
    named-raised w e p (after_record w e p r (Line t)) xs q all (let len = length-set r.lines t.0 (Some e) in omega arith) (k, omega arith, is) low
named-raised w e p r (x ∷ xs) q all within has low = absurd all

-- an own part has no lines
abbrev pub NoLine : List Record → Type 0
NoLine [] = Unit {0}
NoLine (Line q ∷ xs) = ⊥
NoLine (x ∷ xs) = NoLine xs

told-noline : (xs : List Record) → AreTold xs → NoLine xs
told-noline [] is = tt
told-noline (Told n ∷ xs) is = told-noline xs is
told-noline (x ∷ xs) is = absurd is

fetch-noline : (xs : List Record) → IsFetchOrNothing xs → NoLine xs
fetch-noline [] is = tt
fetch-noline (Fetch s ∷ []) is = tt
fetch-noline (Fetch s ∷ z ∷ xs) is = absurd is
fetch-noline (x ∷ xs) is = absurd is

passage-noline : (xs : List Record) → IsPassage xs → NoLine xs
passage-noline (Up s a ∷ xs) is = told-noline xs is
passage-noline (Move old (Some new) ∷ Up s a ∷ xs) is = told-noline xs is
passage-noline (Move old None ∷ Aim q None ∷ xs) is = fetch-noline xs is
passage-noline xs is = absurd (is)

ins-noline : (i : Instr) (xs : List Record) → IsInsOf i xs → NoLine xs
ins-noline (instr.Out reg) (Out s t v ∷ []) is = tt
ins-noline (instr.Out reg) xs is = absurd (is)
ins-noline (instr.Io n) (Block s t a io ∷ xs) is = passage-noline xs is
ins-noline (instr.Io n) xs is = absurd (is)
ins-noline i xs is = subst NoLine (sym is) tt

gives-noline : (acts : List ActNo) → NoLine (map GiveBack acts)
gives-noline [] = tt
gives-noline (a ∷ acts) = gives-noline acts

noline-later : (x : Record) (xs : List Record) → NoLine (x ∷ xs) → NoLine xs
noline-later (Line q) xs none = absurd none
noline-later x xs none = none

given-noline : (x : Record) (acts : List ActNo) (xs : List Record) → x ∷ xs ≡ map GiveBack acts → NoLine xs
given-noline x acts xs is = noline-later x xs (subst NoLine (sym is) (gives-noline acts))

abbrev last_of : Option Record → List Record → Option Record
last_of last [] = last
last_of last (x ∷ xs) = last_of (Some x) xs

before-append : (last : Option Record) (xs ys : List Record) → NoLine xs → before_lines last (xs ++ ys) ≡ xs ++ before_lines (last_of last xs) ys
before-append last [] ys none = refl
before-append last (Line q ∷ xs) ys none = absurd none
before-append last (x ∷ xs) ys none = ap (λ zs. x ∷ zs) (before-append (Some x) xs ys none)

-- the first record may be a line that was asked for
own-later : (w : WorkloadView) (r : Readings) (p : ProcNo) (a : ActNo) (life : Life) (x : Record) (xs : List Record) → FormedBy w r p a life x xs → NoLine xs
own-later w r p a life (Ins s t i) xs is = ins-noline (instr_of w r.state s t i) xs is
own-later w r p a life (Block s t b io) xs is = passage-noline xs is
own-later w r p a life (GiveBack b) xs is = given-noline (GiveBack b) (taken_of r life.space) xs is
own-later w r p a life (Want s n) xs is = subst NoLine (sym is.0) tt
own-later w r p a life (Run s t) xs is = subst NoLine (sym is) tt
own-later w r p a life (Cont s t) xs is = subst NoLine (sym is) tt
own-later w r p a life (Back s t) xs is = subst NoLine (sym is) tt
own-later w r p a life (Ready s t) xs is = subst NoLine (sym is) tt
own-later w r p a life (Take s l t) xs is = subst NoLine (sym is) tt
own-later w r p a life (Free s l t) xs is = subst NoLine (sym is) tt
own-later w r p a life (Line q) xs is = subst NoLine (sym is) tt
own-later w r p a life Idle xs is = subst NoLine (sym is) tt
own-later w r p a life (Spin l) xs is = subst NoLine (sym is) tt
own-later w r p a life x xs is = absurd (is)

formed-later : (w : WorkloadView) (r : Readings) (p : ProcNo) (a : Option ActNo) (life : Option Life) (x : Record) (xs : List Record)
    → FormedIn w r p a life (x ∷ xs) → NoLine xs
formed-later w r p (Some a) (Some life) x xs is = own-later w r p a life x xs is
formed-later w r p (Some a) None x xs is = absurd is
formed-later w r p None life x xs is = absurd is

over-later : (kind : IoKind) (x : Record) (xs : List Record) → IsOver kind (x ∷ xs) → NoLine xs
over-later (Plain s a) (Unblock of t b) [] is = tt
over-later (Page s a page) (Unblock of t b) [] is = tt
over-later (Upcall s) (Fetched of) [] is = tt
over-later kind x xs is = absurd (is)

interrupt-later : (x : Record) (xs : List Record) → IsInterrupt (x ∷ xs) → NoLine xs
interrupt-later (Stop s t a) xs is = passage-noline xs is
interrupt-later (Up s a) xs is = told-noline xs is
interrupt-later (Move old (Some new)) (Up s a ∷ xs) is = told-noline xs is
interrupt-later (Move old None) (Aim q None ∷ xs) is = fetch-noline xs is
interrupt-later x xs is = absurd (is)

turn-later : (w : WorkloadView) (r : Readings) (p : ProcNo) (e : ℕ) (raised : Bool) (x : Record) (xs : List Record)
    → IsTurn IsFormed raised e w r p (x ∷ xs) → NoLine xs
turn-later w r p e true x xs is = interrupt-later x xs is
turn-later w r p e false x xs is = due (due_of e r.under_way) is where
  owned : (o : Option SpaceNo) → IsTickOrStep IsFormed o w r p (x ∷ xs) → NoLine xs
  owned None tick = subst NoLine (sym (ap (λ zs. drop 1 zs) tick)) tt
  owned (Some s) step = formed-later w r p (running_of r p) (life_on r p) x xs step

  due : (o : Option Io) → IsTurnWhileDue IsFormed o w r p (x ∷ xs) → NoLine xs
  due None step = owned (owner_of r p) step
  due (Some io) (inl over) = over-later io.kind x xs over
  due (Some io) (inr local) = formed-later w r p (running_of r p) (life_on r p) x xs local.1

drop-append : (xs ys zs : List Record) → drop (length (xs ++ ys)) (xs ++ zs) ≡ drop (length ys) zs
drop-append [] ys zs = refl
drop-append (x ∷ xs) ys zs = drop-append xs ys zs

take-drop : (last : Option Record) (xs : List Record) → before_lines last xs ++ rest_of last xs ≡ xs
take-drop last [] = refl
take-drop last (x ∷ xs) = one (is_other_line last x) (take-drop (Some x) xs) where
  one : (b : Bool) → before_lines (Some x) xs ++ rest_of (Some x) xs ≡ xs
      → (if b then [] else x ∷ before_lines (Some x) xs) ++ drop (length (if b then [] else x ∷ before_lines (Some x) xs)) (x ∷ xs) ≡ x ∷ xs
  one true more = refl
  one false more = ap (λ ys. x ∷ ys) more

own-some : (xs : List Record) → xs ≢ [] → (own : List Record) → own ≡ own_part xs → own ≢ []
own-some [] some own is = absurd (some refl)
own-some (x ∷ xs) some own is = λ none. let clash : [] ≡ x ∷ take_while is_own xs = sym none ∙ is in cc

front-own : (own closing : List Record) → own ≢ [] → NoLine (drop 1 own) → front_part (own ++ closing) ≡ own ++ before_lines (last_of None own) closing
front-own [] closing some later = absurd (some refl)
front-own (x ∷ rest) closing some later = ap (λ ys. x ∷ ys) (before-append (Some x) rest closing later)

front-other : (w : WorkloadView) (e : ℕ) (p : ProcNo) (r : Readings) (q : ProcNo) (own closing : List Record) → q.0 < length r.lines
    → EachRecord RaisesLine w e p r (own ++ closing) → AllLeave p q (own ++ closing) → own ≢ [] → NoLine (drop 1 own) → LowAimed r q
    → LowAimed (after_records w e p r (own ++ before_lines (last_of None own) closing)) q
front-other w e p r q [] closing within heard leaves some later ok = absurd (some refl)
front-other w e p r q (x ∷ rest) closing within heard leaves some later ok =
    subst (λ ys. LowAimed (after_records w e p (after_record w e p r x) ys) q) (before-append (Some x) rest closing later)
    (front-fine w e p (after_record w e p r x) q (Some x) (rest ++ closing) (subst (λ n. q.0 < n) (sym (lines-length e r.lines x)) within) heard.1 leaves.1
    (fine-step w e p r q None x (rest ++ closing) within heard.0 leaves.0 (inl ok)))

event-later : (rules : UserRules) → HasForms rules → (w : WorkloadView) (r : Readings) (e : Event) → IsLawful rules w r e → 1 ≤ e.number
    → NoLine (drop 1 (own_part e.records))
event-later rules meets w r e law from = one e.records refl where
  one : (xs : List Record) → e.records ≡ xs → NoLine (drop 1 (own_part e.records))
  one [] is = absurd (law.numbered.some is)
  one (x ∷ xs) is =
      let turns = meets.formed w r e law in
      subst (λ ys. NoLine (drop 1 (own_part ys))) (sym is)
      (turn-later w (event_begun w e r) e.proc e.number (is_some (line_of r e.proc)) x (take_while is_own xs)
      (subst (λ ys. IsTurn IsFormed (is_some (line_of r e.proc)) e.number w (event_begun w e r) e.proc (own_part ys)) is (turns.turn from)))

-- the moment before the last lines of an event, and those lines
pub record BeforeLast (w : WorkloadView) (r : Readings) (e : Event) : Type 0 where
  pub mid : Readings
  pub lines : List Record
  pub mid_is : mid ≡ behind w e r (front_part e.records)
  pub lines_are : lines ≡ last_lines e.records
  pub after : after_records w e.number e.proc mid lines ≡ behind_all w e r
  pub all : AllLine lines
  pub aimed : (q : ProcNo) → q.0 < w.processors → LowAimed mid q
  pub long : length mid.lines ≡ w.processors

pub before-last : (rules : UserRules) → HasForms rules → (w : WorkloadView) (r : Readings) (e : Event) → LowAt w r → IsLawful rules w r e → BeforeLast w r e
before-last rules meets w r e at law =
    let from : 1 ≤ e.number = (let same = law.numbered.number in let some = at.number in omega arith) in
    let parts = in-parts rules meets w r e law from (at.aimed e.proc law.numbered.proc) in
    let later : NoLine (drop 1 parts.own) = subst (λ ys. NoLine (drop 1 ys)) (sym parts.own_is) (event-later rules meets w r e law from) in
    let last = last_of None parts.own in
    let front : front_part e.records ≡ parts.own ++ before_lines last parts.closing =
    ap front_part (sym parts.is) ∙ front-own parts.own parts.closing (own-some e.records law.numbered.some parts.own parts.own_is) later in
    let rest : last_lines e.records ≡ rest_of last parts.closing =
    ap (λ ys. drop (length ys) e.records) front ∙ ap (drop (length (parts.own ++ before_lines last parts.closing))) (sym parts.is)
    ∙ drop-append parts.own (before_lines last parts.closing) parts.closing in
    let begins = procs-begun w e r at.procs in
    let owners = begins.owners in
    let aims = begins.aims in
    let start_lines = begins.lines in
    let own_after = after_records w e.number e.proc (event_begun w e r) parts.own in
    let own_procs = procs-records w e.number e.proc (event_begun w e r) parts.own begins in
    let own_lines = own_procs.lines in
    let proc = law.numbered.proc in
    let heard = subst (EachRecord RaisesLine w e.number e.proc (event_begun w e r)) (sym parts.is) law.line_cause.heard in
    let mid = after_records w e.number e.proc (event_begun w e r) (parts.own ++ before_lines last parts.closing) in
    record {
      mid = mid;
      lines = rest_of last parts.closing;
      mid_is = sym (ap (after_records w e.number e.proc (event_begun w e r)) front);
      lines_are = sym rest;
      after =
          sym (records-append w e.number e.proc (event_begun w e r) (parts.own ++ before_lines last parts.closing) (rest_of last parts.closing))
          ∙ ap (after_records w e.number e.proc (event_begun w e r))
          (Rattle.std.proofs.Common.append_assoc parts.own (before_lines last parts.closing) (rest_of last parts.closing)
          ∙ ap (λ ys. parts.own ++ ys) (take-drop last parts.closing) ∙ parts.is);
      all = closing-rest last parts.closing parts.closes (ap aims_in (sym rest) ∙ law.line_cause.order);
      long = (procs-records w e.number e.proc (event_begun w e r) (parts.own ++ before_lines last parts.closing) begins).lines;
      aimed = λ q within. elim (cases_eq q.0 e.proc.0) [
        | inl same ↦ (
            let is : q ≡ e.proc = ap (λ n. record { 0 = n }) same in
            subst (λ (k : ProcNo). LowAimed mid k) (sym is)
            (subst (λ (k : Readings). LowAimed k e.proc) (sym (records-append w e.number e.proc (event_begun w e r) parts.own (before_lines last parts.closing)))
            (front-fine w e.number e.proc own_after e.proc last parts.closing (omega arith)
            (each-behind RaisesLine w e.number e.proc (event_begun w e r) parts.own parts.closing (λ r' x rest' more h. h) heard)
            (closing-leave e.proc e.proc parts.closing parts.closes)
            (inl (λ low. own-final w e.number e.proc (event_begun w e r) parts.own (omega arith) (omega arith) parts.turned))))
            )
        | inr apart ↦ (
            front-other w e.number e.proc (event_begun w e r) q parts.own parts.closing (omega arith) heard
            (leave-append e.proc q parts.own parts.closing (turned-leave e.proc q (owner_of r e.proc) (aim_of r e.proc) parts.own apart parts.turned)
            (closing-leave e.proc q parts.closing parts.closes))
            (own-some e.records law.numbered.some parts.own parts.own_is) later (begun-aimed w r e q apart (at.aimed q within))
            )
      ];
    }

three : (a b c : Bool) → (a && b && c) ≡ true → (a ≡ true) × (b ≡ true) × (c ≡ true)
three true true true is = (refl, refl, refl)
three _ _ _ is = absurd (cc)

all-three : (a b c : Bool) → a ≡ true → b ≡ true → c ≡ true → (a && b && c) ≡ true
all-three true true true x y z = refl
all-three _ _ _ x y z = absurd (cc)

-- lists that are made of others
made-has : {A B : Type 0} (h : A → Option B) (xs : List A) (x : A) (y : B) → Contains xs x → h x ≡ Some y → Contains (filter_map h xs) y
made-has h [] x y has is = let at = has in absurd (omega (arith, at.1))
made-has h (z ∷ zs) x y (zero, below, same) is = one (h z) (ap h same ∙ is) where
  one : (o : Option _) → o ≡ Some y → Contains (Rattle.std.specs.List.cons_option o (filter_map h zs)) y
  one None at = absurd (none-some y at)
  one (Some v) at = (0, omega arith, same_Some v y at)
made-has h (z ∷ zs) x y (suc k, below, same) is = one (h z) (made-has h zs x y (k, omega arith, same) is) where
  one : (o : Option _) → Contains (filter_map h zs) y → Contains (Rattle.std.specs.List.cons_option o (filter_map h zs)) y
  one None rest = rest
  one (Some v) rest = Contains-append_right (v ∷ []) (filter_map h zs) y rest

none-made : {A B : Type 0} (h : A → Option B) (test : A → Bool) (xs : List A) → ((x : A) → Contains xs x → test x ≡ true → h x ≡ None)
    → filter_map h (filter test xs) ≡ []
none-made h test [] none = refl
none-made h test (x ∷ xs) none = one (test x) refl (none-made h test xs (λ y has is. none y (Contains-append_right (x ∷ []) xs y has) is)) where
  one : (b : Bool) → test x ≡ b → filter_map h (filter test xs) ≡ [] → filter_map h (if b then x ∷ filter test xs else filter test xs) ≡ []
  one true is rest = ap (λ o. Rattle.std.specs.List.cons_option o (filter_map h (filter test xs))) (none x (0, omega arith, refl) is) ∙ rest
  one false is rest = rest

lines-have : (xs : List Record) (y : Record) → Contains (lines_in xs) y → Contains xs y
lines-have xs y has =
    Rattle.std.proofs.lemmas.List.Elements.All-contains (Contains xs) (lines_in xs) y
    (Rattle.std.proofs.lemmas.List.Elements.All-filter is_line (Contains xs) xs (Rattle.std.proofs.lemmas.List.Elements.All-contains_itself xs)) has

-- a space that would be told somewhere need not be interrupted
told-there : (w : WorkloadView) (r : Readings) (s : SpaceNo) (q : ℕ) → q < w.processors → will_tell r s q ≡ true → must_interrupt w r s ≡ true → ⊥
told-there w r s q within tells must =
    let parts = three (has_untold (untold_of r s)) (not (is_fetching r s)) (is_none (least_below w.processors (will_tell r s))) must in
    let none = least_below-none w.processors (will_tell r s) (none-is (least_below w.processors (will_tell r s)) parts.2) q within in
    let clash = sym tells ∙ none in absurd (cc)

some-is : {A : Type 0} (o : Option A) → (o ≡ None → ⊥) → is_some o ≡ true
some-is None high = absurd (high refl)
some-is (Some x) high = refl

no-interrupt : (w : WorkloadView) (m a : Readings) (e : ℕ) (p : ProcNo) (lines : List Record) (s : SpaceNo) (q : ℕ) → LinesRaised m a → AllLine lines
    → after_records w e p m lines ≡ a
    → ((k : ProcNo) → k.0 < w.processors → LowAimed m k) → length m.lines ≡ w.processors → lines_in lines ≡ lines_due w m → Contains (spaces_of w) s
    → must_interrupt w a s ≡ true
    → least_below w.processors (can_be_raised a s) ≡ Some q → ⊥
no-interrupt w m a e p lines s q raised all after aimed long due among must is = found (least_below w.processors (can_be_raised m s)) refl where
  telling : (k : ℕ) → k < w.processors → is_aim s.0 (owner_of a (proc_no k)) ≡ true → is_aim s.0 (aim_of a (proc_no k)) ≡ true
      → (line_of a (proc_no k) ≡ None → ⊥)
      → must_interrupt w a s ≡ true → ⊥
  telling k within owner aim high must' =
      told-there w a s k within
      (all-three (is_aim s.0 (owner_of a (proc_no k))) (is_aim s.0 (aim_of a (proc_no k))) (is_some (line_of a (proc_no k))) owner aim
      (some-is (line_of a (proc_no k)) high)) must'

  found : (o : Option ℕ) → least_below w.processors (can_be_raised m s) ≡ o → ⊥
  found None none =
      let there = least_below-passes w.processors (can_be_raised a s) q is in
      let owner = (and_parts (is_aim s.0 (owner_of a (proc_no q))) (is_none (line_of a (proc_no q))) there.passes).0 in
      let line = none-is (line_of a (proc_no q)) ((and_parts (is_aim s.0 (owner_of a (proc_no q))) (is_none (line_of a (proc_no q))) there.passes).1) in
      let here : can_be_raised m s q ≡ true =
      ap (λ b. b && is_none (line_of m (proc_no q))) (ap (λ os. is_aim s.0 (get_or os q None)) (sym raised.owners) ∙ owner) ∙ ap is_none (raised.low q line) in
      let clash = sym here ∙ least_below-none w.processors (can_be_raised m s) none q there.within in absurd (cc)
  found (Some k) some =
      let there = least_below-passes w.processors (can_be_raised m s) k some in
      let owner = (and_parts (is_aim s.0 (owner_of m (proc_no k))) (is_none (line_of m (proc_no k))) there.passes).0 in
      let line = none-is (line_of m (proc_no k)) ((and_parts (is_aim s.0 (owner_of m (proc_no k))) (is_none (line_of m (proc_no k))) there.passes).1) in
      let owner_after : is_aim s.0 (owner_of a (proc_no k)) ≡ true = ap (λ os. is_aim s.0 (get_or os k None)) raised.owners ∙ owner in
      let aim_after : is_aim s.0 (aim_of a (proc_no k)) ≡ true =
      ap (λ os. is_aim s.0 (get_or os k None)) raised.aims ∙ ap (is_aim s.0) (aimed (proc_no k) there.within line) ∙ owner in
      let parts = three (has_untold (untold_of a s)) (not (is_fetching a s)) (is_none (least_below w.processors (will_tell a s))) must in
      let untold : has_untold (untold_of m s) ≡ true = ap (λ us. has_untold (get_or us s.0 [])) (sym raised.untold) ∙ parts.0 in
      let fetching : not (is_fetching m s) ≡ true =
      ap (λ ios. not (Rattle.std.specs.List.list_any (Rattle.sa_devices.specs.Ios.fetches s.0) ios)) (sym raised.under_way) ∙ parts.1 in
      let listed : must_interrupt w m s ≡ true → Contains lines (Line (proc_no k)) =
      λ must_m. lines-have lines (Line (proc_no k))
      (subst (λ ys. Contains ys (Line (proc_no k))) (sym due)
      (made-has (line_due w m) (filter (must_interrupt w m) (spaces_of w)) s (Line (proc_no k))
      (Rattle.sa_promises.proofs.read.Raised.filter-keeps (must_interrupt w m) (spaces_of w) s must_m among)
      (ap (Rattle.std.specs.Option.option_map (λ n. Line (proc_no n))) some))) in
      told (least_below w.processors (will_tell m s)) refl
      (λ j within tells.
      let ts = three (is_aim s.0 (owner_of m (proc_no j))) (is_aim s.0 (aim_of m (proc_no j))) (is_some (line_of m (proc_no j))) tells in
      told-there w a s j within
      (all-three (is_aim s.0 (owner_of a (proc_no j))) (is_aim s.0 (aim_of a (proc_no j))) (is_some (line_of a (proc_no j)))
      (ap (λ os. is_aim s.0 (get_or os j None)) raised.owners ∙ ts.0) (ap (λ os. is_aim s.0 (get_or os j None)) raised.aims ∙ ts.1)
      (some-is (line_of a (proc_no j)) (λ low. let clash = sym ts.2 ∙ ap is_some (raised.low j low) in absurd (cc)))) must)
      (λ none.
      let must_m = all-three (has_untold (untold_of m s)) (not (is_fetching m s)) (is_none (least_below w.processors (will_tell m s))) untold fetching
      (ap is_none none) in
      told-there w a s k there.within
      (all-three (is_aim s.0 (owner_of a (proc_no k))) (is_aim s.0 (aim_of a (proc_no k))) (is_some (line_of a (proc_no k))) owner_after aim_after
      (some-is (line_of a (proc_no k)) (λ low.
      named-raised w e p m lines (proc_no k) all (let within = there.within in omega arith) (listed must_m)
      (ap (λ (x : Readings). get_or x.lines k None) after ∙ low)))) must)
    where
      told : (o : Option ℕ) → least_below w.processors (will_tell m s) ≡ o → ((j : ℕ) → j < w.processors → will_tell m s j ≡ true → ⊥)
          → (least_below w.processors (will_tell m s) ≡ None → ⊥) → ⊥
      told None none tells otherwise = otherwise none
      told (Some j) some' tells otherwise = let at = least_below-passes w.processors (will_tell m s) j some' in tells j at.within at.passes

pub no-line-due : (rules : UserRules) → HasForms rules → (w : WorkloadView) (r : Readings) (e : Event) → LowAt w r → IsLawful rules w r e
    → lines_due w (behind_all w e r) ≡ []
no-line-due rules meets w r e at law =
    let l = before-last rules meets w r e at law in
    let rest : LinesRaised l.mid (behind_all w e r) = subst (LinesRaised l.mid) l.after (raised-all w e.number e.proc l.mid l.lines l.all) in
    let due : lines_in l.lines ≡ lines_due w l.mid = ap lines_in l.lines_are ∙ law.line_cause.due ∙ ap (lines_due w) (sym l.mid_is) in
    none-made (line_due w (behind_all w e r)) (must_interrupt w (behind_all w e r)) (spaces_of w)
    (λ s among must. one s (least_below w.processors (can_be_raised (behind_all w e r) s)) refl
    (λ q is. no-interrupt w l.mid (behind_all w e r) e.number e.proc l.lines s q rest l.all l.after l.aimed l.long due among must is))
  where
    one : (s : SpaceNo) (o : Option ℕ) → least_below w.processors (can_be_raised (behind_all w e r) s) ≡ o
        → ((q : ℕ) → least_below w.processors (can_be_raised (behind_all w e r) s) ≡ Some q → ⊥)
        → Rattle.std.specs.Option.option_map (λ q. Line (proc_no q)) o ≡ None
    one s None is never = refl
    one s (Some q) is never = absurd (never q is)

-- after the opening
pub later-lines : (rules : UserRules) → HasForms rules → (w : WorkloadView) (items : List Item) → IsLegal rules w items → NoLineIsDue rules w items
later-lines rules meets w items legal n e at from =
    let r = before rules w (events_of items) n in
    let next : before rules w (events_of items) (n + 1) ≡ after_event rules.inside w r e =
    ap (after_events rules.inside w (opening_readings w)) (take-next (events_of items) n e at)
    ∙ after-append rules.inside w (opening_readings w) (take n (events_of items)) e in
    ap (lines_due w) next
    ∙ no-line-due rules meets w r e (low-before w (events_of items) n e at (legal-lawful rules w items legal) from (legal.each n e at)) (legal.each n e at)
  where
    low-before : (v : WorkloadView) (events : List Event) (k : ℕ) (f : Event) → slice_get events k ≡ Some f
        → AreLawful rules v (opening_readings v) events → 1 ≤ f.number
        → IsLawful rules v (after_events rules.inside v (opening_readings v) (take k events)) f
        → LowAt v (after_events rules.inside v (opening_readings v) (take k events))
    low-before v [] k f there all first law = absurd (none-some f there)
    low-before v (x ∷ xs) zero f there all first law = absurd (let number = law.numbered.number in omega arith)
    low-before v (x ∷ xs) (suc k) f there all first law = low-along rules meets v (after_event rules.inside v (opening_readings v) x) xs (low-first rules meets v x all.0) all.1 k
