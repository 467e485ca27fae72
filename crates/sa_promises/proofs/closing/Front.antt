-- After each event of a legal run a processor whose line is low is aimed at by its owner.
use Rattle.std.proofs.Common.{◌≡◌, ◌≢◌, ℕ, zero, suc, ◌+◌, ◌<◌, ◌≤◌, inl, inr, refl, sym, ◌∙◌, ap, subst, arith, Some, None, List, [], ◌∷◌, ◌++◌, length, map, take, true, false}
use Rattle.std.specs.Prelude.{Option, is_some, get_or, slice_get}
use Rattle.std.specs.List.{list_all, prefix_len}
use Rattle.std.proofs.lemmas.Bool.{cases_eq, and_parts}
use Rattle.std.proofs.lemmas.List.{get_or-set_same, get_or-set_other, length-set, length-replicate}
use Rattle.std.proofs.lemmas.Option.{none-some}
use Rattle.sa_base.specs.declared.number.SpaceNo.{SpaceNo}
use Rattle.sa_base.specs.declared.number.ProcNo.{ProcNo}
use Rattle.sa_base.specs.declared.record.Record.{Record}
use Rattle.sa_base.specs.declared.record.Record.TheVariants.{Want, Move, Aim, Line}
use Rattle.sa_base.specs.declared.record.Item.{Item}
use Rattle.sa_spaces.specs.Workload.{WorkloadView}
use Rattle.sa_lemmas.proofs.ListReads.{all-same}
use Rattle.sa_assign.specs.Aims.{Change}
use Rattle.sa_assign.specs.Reaim.{records_of, line_at, lines_with, line_records, proc_no}
use Rattle.sa_laws.specs.Event.{Event, events_of}
use Rattle.sa_laws.specs.Readings.{Readings, opening_readings, owner_of, aim_of, line_of}
use Rattle.sa_laws.specs.Record.{after_record}
use Rattle.sa_laws.specs.History.{event_begun, after_records, after_event, after_events, behind_all}
use Rattle.sa_laws.specs.Shape.{own_part, closing_part, is_own}
use Rattle.sa_laws.specs.Turns.{AreRaising, IsClosing}
use Rattle.sa_laws.specs.Upcalls.{EachRecord, RaisesLine, GivesUpcallThen, StopsAndGoes}
use Rattle.sa_laws.specs.Closing.{want_one, spaces_of, aims_due}
use Rattle.sa_laws.specs.Opening.{first_wants, opening_records}
use Rattle.sa_laws.specs.Rules.{UserRules, IsLawful}
use Rattle.sa_promises.specs.Needs.{IsFormed, HasForms}
use Rattle.sa_histories.specs.Lawful.{AreLawful}
use Rattle.sa_laws.specs.Legal.{IsLegal, before}
use Rattle.sa_laws.proofs.Records.{records-append}
use Rattle.sa_laws.proofs.Lengths.{lines-length}
use Rattle.sa_histories.proofs.Traces.{legal-lawful}
use Rattle.sa_promises.proofs.words.Reads.{owners-changed, owners-length, aims-length}
use Rattle.sa_promises.specs.Closings.{LowLinesAreAimed}
use Rattle.sa_promises.proofs.closing.Turns.{is_calm, AllCalm, Turned, turn-turned}
use Rattle.sa_promises.proofs.closing.Low.{LowAimed, Fine, AllLeave, fine-step, each-behind}
use Rattle.sa_lemmas.proofs.ListReads.{take_then_drop}

-- the owners, aims and lines
pub record IsKept (r after : Readings) : Type 0 where
  pub owners : after.state.owners ≡ r.state.owners
  pub aims : after.aims ≡ r.aims

calm-one : (w : WorkloadView) (e : ℕ) (p : ProcNo) (r : Readings) (x : Record) → is_calm x ≡ true → IsKept r (after_record w e p r x)
calm-one w e p r (Move old new) calm = absurd (cc)
calm-one w e p r (Aim q s) calm = absurd (cc)
calm-one w e p r x calm = record { owners = owners-changed w p r.state x; aims = refl }

calm-kept : (w : WorkloadView) (e : ℕ) (p : ProcNo) (r : Readings) (xs : List Record) → AllCalm xs → IsKept r (after_records w e p r xs)
calm-kept w e p r [] calm = record { owners = refl; aims = refl }
calm-kept w e p r (x ∷ xs) calm =
    let one = calm-one w e p r x ((and_parts (is_calm x) (list_all is_calm xs) calm).0) in
    let more = calm-kept w e p (after_record w e p r x) xs ((and_parts (is_calm x) (list_all is_calm xs) calm).1) in
    record { owners = more.owners ∙ one.owners; aims = more.aims ∙ one.aims }

-- after its own part an event's processor is aimed at by its owner
pub own-final : (w : WorkloadView) (e : ℕ) (p : ProcNo) (r : Readings) (xs : List Record) → p.0 < length r.state.owners → p.0 < length r.aims
    → Turned p (owner_of r p) (aim_of r p) xs
    → aim_of (after_records w e p r xs) p ≡ owner_of (after_records w e p r xs) p
own-final w e p r xs owners aims (inl same) =
    let kept = calm-kept w e p r xs same.0 in ap (λ as'. get_or as' p.0 None) kept.aims ∙ same.1 ∙ sym (ap (λ os. get_or os p.0 None) kept.owners)
own-final w e p r xs owners aims (inr (inl moves)) =
    let first = calm-kept w e p r moves.before moves.calm in
    let mid = after_records w e p r moves.before in
    let moved = after_record w e p mid (Move moves.old (Some moves.new)) in
    let last = calm-kept w e p moved moves.rest moves.calm_rest in
    let whole : after_records w e p r xs ≡ after_records w e p moved moves.rest =
    ap (after_records w e p r) moves.is ∙ records-append w e p r moves.before (Move moves.old (Some moves.new) ∷ moves.rest) in
    ap (λ (k : Readings). aim_of k p) whole
    ∙ ap (λ as'. get_or as' p.0 None) last.aims ∙ ap (λ as'. get_or as' p.0 None) first.aims ∙ moves.to_aim
    ∙ sym (ap (λ (k : Readings). owner_of k p) whole ∙ ap (λ os. get_or os p.0 None) last.owners
    ∙ get_or-set_same mid.state.owners p.0 (Some moves.new) None (subst (λ os. p.0 < length os) (sym first.owners) owners))
own-final w e p r xs owners aims (inr (inr leaves)) =
    let first = calm-kept w e p r leaves.before leaves.calm in
    let mid = after_records w e p r leaves.before in
    let left = after_record w e p (after_record w e p mid (Move leaves.old None)) (Aim p None) in
    let last = calm-kept w e p left leaves.rest leaves.calm_rest in
    let whole : after_records w e p r xs ≡ after_records w e p left leaves.rest =
    ap (after_records w e p r) leaves.is ∙ records-append w e p r leaves.before (Move leaves.old None ∷ Aim p None ∷ leaves.rest) in
    ap (λ (k : Readings). aim_of k p) whole
    ∙ ap (λ as'. get_or as' p.0 None) last.aims ∙ get_or-set_same mid.aims p.0 None None (subst (λ as'. p.0 < length as') (sym first.aims) aims)
    ∙ sym (ap (λ (k : Readings). owner_of k p) whole ∙ ap (λ os. get_or os p.0 None) last.owners
    ∙ get_or-set_same mid.state.owners p.0 None None (subst (λ os. p.0 < length os) (sym first.owners) owners))

-- for another processor nothing of that kind comes
calm-leave : (p q : ProcNo) (xs : List Record) → AllCalm xs → AllLeave p q xs
calm-leave p q [] calm = tt
calm-leave p q (Move old new ∷ xs) calm = absurd (cc)
calm-leave p q (Aim t s ∷ xs) calm = absurd (cc)
calm-leave p q (x ∷ xs) calm = (tt, calm-leave p q xs ((and_parts (is_calm x) (list_all is_calm xs) calm).1))

pub leave-append : (p q : ProcNo) (xs ys : List Record) → AllLeave p q xs → AllLeave p q ys → AllLeave p q (xs ++ ys)
leave-append p q [] ys left right = right
leave-append p q (x ∷ xs) ys left right = (left.0, leave-append p q xs ys left.1 right)

pub turned-leave : (p q : ProcNo) (owner aim : Option SpaceNo) (xs : List Record) → q.0 ≢ p.0 → Turned p owner aim xs → AllLeave p q xs
turned-leave p q owner aim xs apart (inl same) = calm-leave p q xs same.0
turned-leave p q owner aim xs apart (inr (inl moves)) =
    subst (AllLeave p q) (sym moves.is)
    (leave-append p q moves.before _ (calm-leave p q moves.before moves.calm) (apart, calm-leave p q moves.rest moves.calm_rest))
turned-leave p q owner aim xs apart (inr (inr leaves)) =
    subst (AllLeave p q) (sym leaves.is)
    (leave-append p q leaves.before _ (calm-leave p q leaves.before leaves.calm)
    (apart, ((λ same. apart (sym same)), calm-leave p q leaves.rest leaves.calm_rest)))

raising-leave : (p q : ProcNo) (xs : List Record) → AreRaising xs → AllLeave p q xs
raising-leave p q [] is = tt
raising-leave p q (Aim t (Some s) ∷ xs) is = (tt, raising-leave p q xs is)
raising-leave p q (Line t ∷ xs) is = (tt, raising-leave p q xs is)
raising-leave p q (Aim t None ∷ xs) is = absurd is
raising-leave p q (x ∷ xs) is = absurd is

pub closing-leave : (p q : ProcNo) (xs : List Record) → IsClosing xs → AllLeave p q xs
closing-leave p q (Want s m ∷ xs) is = (tt, closing-leave p q xs is)
closing-leave p q [] is = tt
closing-leave p q (Aim t (Some s) ∷ xs) is = (tt, raising-leave p q xs is)
closing-leave p q (Line t ∷ xs) is = (tt, raising-leave p q xs is)
closing-leave p q (Aim t None ∷ xs) is = absurd is
closing-leave p q (x ∷ xs) is = absurd is

wants-leave : (p q : ProcNo) (ss : List SpaceNo) → AllLeave p q (map want_one ss)
wants-leave p q [] = tt
wants-leave p q (s ∷ ss) = (tt, wants-leave p q ss)

line-leave : (p q : ProcNo) (k : ℕ) (line : Option ℕ) → AllLeave p q (line_records k line)
line-leave p q k None = (tt, tt)
line-leave p q k (Some e) = tt

aims-leave : (p q : ProcNo) (e : ℕ) (lines : List (Option ℕ)) (cs : List Change) → AllLeave p q (records_of e lines cs)
aims-leave p q e lines [] = tt
aims-leave p q e lines (c ∷ cs) = (
  tt,
  leave-append p q (line_records c.proc (line_at lines c.proc)) _ (line-leave p q c.proc (line_at lines c.proc))
      (aims-leave p q e (lines_with e lines c) cs),
)

-- to the end of an event
all-fine : (w : WorkloadView) (e : ℕ) (p : ProcNo) (r : Readings) (q : ProcNo) (last : Option Record) (xs : List Record) → q.0 < length r.lines
    → EachRecord RaisesLine w e p r xs
    → AllLeave p q xs → Fine r q last xs → LowAimed (after_records w e p r xs) q
all-fine w e p r q last [] within heard leaves (inl ok) = ok
all-fine w e p r q last [] within heard leaves (inr awaits) = absurd awaits.next
all-fine w e p r q last (x ∷ xs) within heard leaves fine =
    all-fine w e p (after_record w e p r x) q (Some x) xs (subst (λ n. q.0 < n) (sym (lines-length e r.lines x)) within) heard.1 leaves.1
    (fine-step w e p r q last x xs within heard.0 leaves.0 fine)

-- what is read has an entry for each processor
pub record HasProcs (w : WorkloadView) (r : Readings) : Type 0 where
  pub owners : length r.state.owners ≡ w.processors
  pub aims : length r.aims ≡ w.processors
  pub lines : length r.lines ≡ w.processors

pub procs-records : (w : WorkloadView) (e : ℕ) (p : ProcNo) (r : Readings) (xs : List Record) → HasProcs w r → HasProcs w (after_records w e p r xs)
procs-records w e p r [] has = has
procs-records w e p r (x ∷ xs) has = procs-records w e p (after_record w e p r x) xs (record {
  owners = ap length (owners-changed w p r.state x) ∙ owners-length r.state.owners p x ∙ has.owners;
  aims = aims-length r.aims x ∙ has.aims;
  lines = lines-length e r.lines x ∙ has.lines;
})

pub procs-begun : (w : WorkloadView) (e : Event) (r : Readings) → HasProcs w r → HasProcs w (event_begun w e r)
procs-begun w e r has = record { owners = has.owners; aims = has.aims; lines = length-set r.lines e.proc.0 None ∙ has.lines }

pub record LowAt (w : WorkloadView) (r : Readings) : Type 0 where
  pub procs : HasProcs w r
  pub number : 1 ≤ r.number
  pub aimed : (q : ProcNo) → q.0 < w.processors → LowAimed r q

-- an event in its two parts
pub record InParts (w : WorkloadView) (r : Readings) (e : Event) : Type 0 where
  pub own : List Record
  pub closing : List Record
  pub is : own ++ closing ≡ e.records
  pub own_is : own ≡ own_part e.records
  pub turned : Turned e.proc (owner_of r e.proc) (aim_of r e.proc) own
  pub closes : IsClosing closing

pub in-parts : (rules : UserRules) → HasForms rules → (w : WorkloadView) (r : Readings) (e : Event) → IsLawful rules w r e → 1 ≤ e.number → LowAimed r e.proc
    → InParts w r e
in-parts rules meets w r e law from aimed = one e.records refl where
  low-is : (o : Option ℕ) → is_some o ≡ false → o ≡ None
  low-is None is = refl
  low-is (Some v) is = absurd (cc)

  one : (xs : List Record) → e.records ≡ xs → InParts w r e
  one [] is = absurd (law.numbered.some is)
  one (x ∷ xs) is =
      let turns = meets.formed w r e law in
      let whole : own_part (x ∷ xs) ++ closing_part (x ∷ xs) ≡ x ∷ xs = ap (λ ys. x ∷ ys) (take_then_drop (prefix_len is_own xs) xs) in
      record {
        own = own_part (x ∷ xs);
        closing = closing_part (x ∷ xs);
        is = whole ∙ sym is;
        own_is = sym (ap own_part is);
        turned = turn-turned w e.number e.proc (event_begun w e r) (owner_of r e.proc) (aim_of r e.proc) (is_some (line_of r e.proc)) x xs
            (λ raised. subst (StopsAndGoes e.proc (event_begun w e r) (owner_of r e.proc) (aim_of r e.proc)) is (law.interrupt_next.interrupt raised))
            (λ low_line. aimed (low-is (line_of r e.proc) low_line))
            (subst (λ ys. Rattle.sa_laws.specs.Turns.IsTurn IsFormed (is_some (line_of r e.proc)) e.number w (event_begun w e r) e.proc
            (own_part ys)) is (turns.turn from))
            (subst (EachRecord (GivesUpcallThen e.proc) w e.number e.proc (event_begun w e r)) is law.upcall_given.blocks);
        closes = subst (λ ys. IsClosing (closing_part ys)) is (turns.closing from);
      }

pub begun-aimed : (w : WorkloadView) (r : Readings) (e : Event) (q : ProcNo) → q.0 ≢ e.proc.0 → LowAimed r q → LowAimed (event_begun w e r) q
begun-aimed w r e q apart ok = λ is. ok (sym (get_or-set_other r.lines e.proc.0 q.0 None None apart) ∙ is)

aimed-event : (rules : UserRules) → HasForms rules → (w : WorkloadView) (r : Readings) (e : Event) (q : ProcNo) → LowAt w r → IsLawful rules w r e
    → q.0 < w.processors
    → LowAimed (behind_all w e r) q
aimed-event rules meets w r e q at law within = elim (cases_eq q.0 e.proc.0) [
  | inl same ↦ own (ap (λ n. record { 0 = n }) same)
  | inr apart ↦
      all-fine w e.number e.proc (event_begun w e r) q None e.records (let len = (procs-begun w e r at.procs).lines in omega arith) law.line_cause.heard
      (subst (AllLeave e.proc q) parts.is
      (leave-append e.proc q parts.own parts.closing (turned-leave e.proc q _ _ parts.own apart parts.turned)
      (closing-leave e.proc q parts.closing parts.closes)))
      (inl (begun-aimed w r e q apart (at.aimed q within)))
] where
  number : 1 ≤ e.number
  number = let same = law.numbered.number in let some = at.number in omega arith

  parts : InParts w r e
  parts = in-parts rules meets w r e law (let same = law.numbered.number in let some = at.number in omega arith) (at.aimed e.proc law.numbered.proc)

  own : q ≡ e.proc → LowAimed (behind_all w e r) q
  own same =
      let ps = in-parts rules meets w r e law (let number_is = law.numbered.number in let some = at.number in omega arith) (at.aimed e.proc law.numbered.proc) in
      let begins = procs-begun w e r at.procs in
      let owners = begins.owners in
      let aims = begins.aims in
      let proc = law.numbered.proc in
      let mid = after_records w e.number e.proc (event_begun w e r) ps.own in
      let mid_procs = procs-records w e.number e.proc (event_begun w e r) ps.own begins in
      let lines = mid_procs.lines in
      let heard = subst (EachRecord RaisesLine w e.number e.proc (event_begun w e r)) (sym ps.is) law.line_cause.heard in
      let final = own-final w e.number e.proc (event_begun w e r) ps.own (omega arith) (omega arith) ps.turned in
      let there : LowAimed (after_records w e.number e.proc mid ps.closing) e.proc =
      all-fine w e.number e.proc mid e.proc None ps.closing (omega arith)
      (each-behind RaisesLine w e.number e.proc (event_begun w e r) ps.own ps.closing (λ r' x rest more h. h) heard)
      (closing-leave e.proc e.proc ps.closing ps.closes) (inl (λ is. final)) in
      subst (λ (k : ProcNo). LowAimed (behind_all w e r) k) (sym same)
      (subst (λ (k : Readings). LowAimed k e.proc)
      (sym (records-append w e.number e.proc (event_begun w e r) ps.own ps.closing) ∙ ap (after_records w e.number e.proc (event_begun w e r)) ps.is) there)

low-next : (rules : UserRules) → HasForms rules → (w : WorkloadView) (r : Readings) (e : Event) → LowAt w r → IsLawful rules w r e
    → LowAt w (after_event rules.inside w r e)
low-next rules meets w r e at law = record {
  procs =
      (let has = procs-records w e.number e.proc (event_begun w e r) e.records (procs-begun w e r at.procs) in
      record { owners = has.owners; aims = has.aims; lines = has.lines });
  number = (let next = Rattle.sa_histories.proofs.Numbers.number-next rules w r e in omega arith);
  aimed = λ q within. aimed-event rules meets w r e q at law within;
}

-- the opening
pub low-first : (rules : UserRules) → HasForms rules → (w : WorkloadView) (e : Event) → IsLawful rules w (opening_readings w) e
    → LowAt w (after_event rules.inside w (opening_readings w) e)
low-first rules meets w e law =
    let start = opening_readings w in
    let procs : HasProcs w start =
    record { owners = length-replicate w.processors None; aims = length-replicate w.processors None; lines = length-replicate w.processors None } in
    let wanting = after_records w 0 (proc_no 0) start (first_wants w) in
    let records : e.records ≡ opening_records w = ap (λ (f : Event). f.records) (law.numbered.opening law.numbered.number) in
    record {
      procs =
          (let has = procs-records w e.number e.proc (event_begun w e start) e.records (procs-begun w e start procs) in
          record { owners = has.owners; aims = has.aims; lines = has.lines });
      number = (let next = Rattle.sa_histories.proofs.Numbers.number-next rules w start e in omega arith);
      aimed = λ q within.
          all-fine w e.number e.proc (event_begun w e start) q None e.records (let len = (procs-begun w e start procs).lines in omega arith) law.line_cause.heard
          (subst (AllLeave e.proc q) (sym records)
          (leave-append e.proc q (first_wants w) (records_of 0 wanting.lines (aims_due w 0 wanting)) (wants-leave e.proc q (spaces_of w))
          (aims-leave e.proc q 0 wanting.lines (aims_due w 0 wanting))))
          (inl (λ is. all-same w.processors q.0 None ∙ sym (all-same w.processors q.0 None)));
    }

pub low-along : (rules : UserRules) → HasForms rules → (w : WorkloadView) (r : Readings) (events : List Event) → LowAt w r → AreLawful rules w r events
    → (n : ℕ)
    → LowAt w (after_events rules.inside w r (take n events))
low-along rules meets w r [] at law zero = at
low-along rules meets w r [] at law (suc n) = at
low-along rules meets w r (e ∷ es) at law zero = at
low-along rules meets w r (e ∷ es) at law (suc n) = low-along rules meets w (after_event rules.inside w r e) es (low-next rules meets w r e at law.0) law.1 n

pub low-after : (rules : UserRules) → HasForms rules → (w : WorkloadView) (events : List Event) → AreLawful rules w (opening_readings w) events
    → (n : ℕ) (e : Event)
    → slice_get events n ≡ Some e
    → LowAt w (after_events rules.inside w (opening_readings w) (take (n + 1) events))
low-after rules meets w [] law n e at = absurd (none-some e at)
low-after rules meets w (x ∷ xs) law n e at =
    subst (λ k. LowAt w (after_events rules.inside w (opening_readings w) (take k (x ∷ xs)))) (let same : suc n ≡ n + 1 = omega arith in same)
    (low-along rules meets w (after_event rules.inside w (opening_readings w) x) xs (low-first rules meets w x law.0) law.1 n)

pub low-lines : (rules : UserRules) → HasForms rules → (w : WorkloadView) (items : List Item) → IsLegal rules w items → (n : ℕ) (e : Event)
    → slice_get (events_of items) n ≡ Some e
    → LowAt w (before rules w (events_of items) (n + 1))
low-lines rules meets w items legal n e at = low-after rules meets w (events_of items) (legal-lawful rules w items legal) n e at

pub low-lines-aimed : (rules : UserRules) → HasForms rules → (w : WorkloadView) (items : List Item) → IsLegal rules w items → LowLinesAreAimed rules w items
low-lines-aimed rules meets w items legal n e at q within low = (low-lines rules meets w items legal n e at).aimed q within low
