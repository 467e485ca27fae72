-- At each moment of a legal trace the fold has read what the plain words say.
use Rattle.std.proofs.Common.{◌≡◌, ◌≢◌, ℕ, zero, suc, ◌+◌, ◌<◌, ◌⊎◌, inl, inr, refl, sym, ◌∙◌, ap, subst, arith, Some, None, List, [], ◌∷◌, ◌++◌, length, false, length-append}
use Rattle.std.specs.Prelude.{get_or, replicate, Option}
use Rattle.std.proofs.lemmas.List.{length-replicate}
use Rattle.std.proofs.lemmas.Option.{none-some, slice_get_within}
use Rattle.sa_lemmas.proofs.ListUpdates.{slice_get-append_left, slice_get-append_seam, slice_get-push_cases}
use Rattle.sa_base.specs.declared.number.SpaceNo.{SpaceNo}
use Rattle.sa_base.specs.declared.number.ProcNo.{ProcNo}
use Rattle.sa_base.specs.declared.record.Note.{Note}
use Rattle.sa_base.specs.declared.record.Record.{Record}
use Rattle.sa_base.specs.declared.record.Record.TheVariants.{Line, Told}
use Rattle.sa_base.specs.declared.record.Item.{Item}
use Rattle.sa_spaces.specs.Workload.{WorkloadView}
use Rattle.sa_laws.specs.Event.{Event, events_of}
use Rattle.sa_laws.specs.Readings.{Readings, opening_readings, owner_of, aim_of, line_of, demand_of, is_fetching}
use Rattle.sa_laws.specs.Record.{lines_after, after_record}
use Rattle.sa_laws.specs.History.{readings, Test, event_begun, ended}
use Rattle.sa_laws.specs.Upcalls.{RecordLaw, EachRecord}
use Rattle.sa_promises.specs.Words.{RaisedAt, aim_said, want_said, move_said, fetch_said, Notes, StandsUntold}
use Rattle.sa_laws.specs.Rules.{UserRules, IsLawful}
use Rattle.sa_laws.specs.Legal.{IsLegal}
use Rattle.sa_laws.proofs.Lengths.{demands-length}
use Rattle.sa_laws.proofs.Numbers.{proc-by_number}
use Rattle.sa_promises.specs.Reads.{Reads}
use Rattle.sa_histories.proofs.Traces.{along, legal-lawful, items-events}
use Rattle.sa_histories.proofs.Walk.{walk, IsKept, item}
use Rattle.sa_promises.proofs.words.Reads.{said-more, aim-more, aims-length, demand-more, owners-changed, owner-more, owners-length, fetch-more, raised-more, raised-new, set-cases, clear-cases, untold-stays, untold-comes}
use Rattle.sa_histories.proofs.Sizes.{untold-length}

-- within an event of p, a raised line of p was raised by that event
pub record ReadsIn (w : WorkloadView) (e : ℕ) (p : ProcNo) (past : List Item) (r : Readings) : Type 0 where
  pub reads : Reads w past r
  pub own : (v : ℕ) → line_of r p ≡ Some v → v ≡ e

-- the event's processor is one of the machine
abbrev pub OnMachine : WorkloadView → ProcNo → RecordLaw
OnMachine w p r x rest = p.0 < w.processors

pub on-machine : (w : WorkloadView) (p : ProcNo) (e : ℕ) (r : Readings) (xs : List Record) → p.0 < w.processors → EachRecord (OnMachine w p) w e p r xs
on-machine w p e r [] within = tt
on-machine w p e r (x ∷ xs) within = (within, on-machine w p e (after_record w e p r x) xs within)

abbrev pub LinesRead : List Item → List (Option ℕ) → Type 0
LinesRead past lines = (p : ProcNo) (v : ℕ) → get_or lines p.0 None ≡ Some v → RaisedAt past p v

-- an item of an event of p leaves the lines of others raised, and that of p if the event raised it
keeps-lines : (e : ℕ) (p : ProcNo) (past : List Item) (lines : List (Option ℕ)) (x : Record) → LinesRead past lines
    → ((v : ℕ) → get_or lines p.0 None ≡ Some v → v ≡ e)
    → (q : ProcNo) (v : ℕ) → get_or lines q.0 None ≡ Some v → RaisedAt (past ++ item e p x ∷ []) q v
keeps-lines e p past lines x read own q v is =
    raised-more past (item e p x) q v (λ below same. let late = own v (subst (λ (k : ProcNo). get_or lines k.0 None ≡ Some v) (sym same) is) in
    absurd (omega arith)) (read q v is)

lines-step : (e : ℕ) (p : ProcNo) (past : List Item) (lines : List (Option ℕ)) (x : Record) → LinesRead past lines
    → ((v : ℕ) → get_or lines p.0 None ≡ Some v → v ≡ e)
    → LinesRead (past ++ item e p x ∷ []) (lines_after e lines x)
lines-step e p past lines (Line t) read own q v is = elim (set-cases lines t.0 q.0 v e is) [
  | inl new ↦
      let same : q ≡ t = proc-by_number q t new.0 in
      subst (λ (k : ProcNo). RaisedAt (past ++ item e p (Line t) ∷ []) k v) (sym same)
      (subst (λ n. RaisedAt (past ++ item e p (Line t) ∷ []) t n) (sym new.1) (raised-new past e p t))
  | inr old ↦ keeps-lines e p past lines (Line t) read own q v old
]
lines-step e p past lines x read own q v is = keeps-lines e p past lines x read own q v is

own-step : (e : ℕ) (p : ProcNo) (lines : List (Option ℕ)) (x : Record) → ((v : ℕ) → get_or lines p.0 None ≡ Some v → v ≡ e)
    → (v : ℕ) → get_or (lines_after e lines x) p.0 None ≡ Some v → v ≡ e
own-step e p lines (Line t) own v is = elim (set-cases lines t.0 p.0 v e is) [ inl new ↦ new.1 | inr old ↦ own v old ]
own-step e p lines x own v is = own v is

-- what stands untold after one more item stood untold before, and that item does not tell it, or it is the item's own
stands-cases : (past : List Item) (x : Item) (s : SpaceNo) (n : Note) → StandsUntold (past ++ x ∷ []) (length (past ++ x ∷ [])) s n
    → (StandsUntold past (length past) s n × (x.what ≢ Told n)) ⊎ Notes x.what s n
stands-cases past x s n o =
    let len : length (past ++ x ∷ []) ≡ length past + 1 = length-append past (x ∷ []) in
    let before = o.before in
    elim (slice_get-push_cases past o.place x o.item o.at) [
      | inl new ↦ inr (subst (λ (y : Item). Notes y.what s n) new.1 o.notes)
      | inr old ↦ inl (
        record {
          place = o.place;
          before = slice_get_within past o.place o.item old;
          item = o.item;
          at = old;
          notes = o.notes;
          untold = λ k y above below at. o.untold k y above (omega arith) (slice_get-append_left past (x ∷ []) k below ∙ at);
        },
        let within = slice_get_within past o.place o.item old in
            o.untold (length past) x within (omega arith) (slice_get-append_seam past [] x),
      )
    ]

reads-step : (w : WorkloadView) (e : ℕ) (p : ProcNo) (past : List Item) (r : Readings) (x : Record) → ReadsIn w e p past r → p.0 < w.processors
    → ReadsIn w e p (past ++ item e p x ∷ []) (after_record w e p r x)
reads-step w e p past r x inv within =
    let reads = inv.reads in
    let owners_len = reads.owners_len in
    let aims_len = reads.aims_len in
    let demands_len = reads.demands_len in
    let untold_len = reads.untold_len in
    let owners_are = owners-changed w p r.state x in
    record {
      reads = record {
        owners_len = ap length owners_are ∙ owners-length r.state.owners p x ∙ owners_len;
        aims_len = aims-length r.aims x ∙ aims_len;
        demands_len = demands-length r.demands x ∙ demands_len;
        untold_len = untold-length r x ∙ untold_len;
        owners = λ q. said-more (move_said q) past (item e p x) None (owner_of r q) (owner_of (after_record w e p r x) q) (reads.owners q)
            (ap (λ os. get_or os q.0 None) owners_are ∙ owner-more r.state.owners p x q (omega arith));
        aims = λ q below. said-more (aim_said q) past (item e p x) None (aim_of r q) (aim_of (after_record w e p r x) q) (reads.aims q below)
            (aim-more r.aims x q (omega arith));
        demands = λ s below. said-more (want_said s) past (item e p x) 0 (demand_of r s) (demand_of (after_record w e p r x) s) (reads.demands s below)
            (demand-more r.demands x s (omega arith));
        fetching = λ s. said-more (fetch_said s) past (item e p x) false (is_fetching r s) (is_fetching (after_record w e p r x) s) (reads.fetching s)
            (fetch-more w e r x s);
        lines = lines-step e p past r.lines x reads.lines inv.own;
        untold = λ s n below stands. elim (stands-cases past (item e p x) s n stands) [
          | inl old ↦ untold-stays r x s n old.1 (reads.untold s n below old.0)
          | inr new ↦ untold-comes r x s n (omega arith) new
        ];
      };
      own = own-step e p r.lines x inv.own;
    }

reads-begin : (w : WorkloadView) (past : List Item) (r : Readings) (e : Event) → Reads w past r → ReadsIn w e.number e.proc past (event_begun w e r)
reads-begin w past r e reads = record {
  reads = record {
    owners_len = reads.owners_len;
    aims_len = reads.aims_len;
    demands_len = reads.demands_len;
    untold_len = reads.untold_len;
    owners = reads.owners;
    aims = reads.aims;
    demands = reads.demands;
    fetching = reads.fetching;
    lines = λ p v is. reads.lines p v (clear-cases r.lines e.proc.0 p.0 v is).1;
    untold = reads.untold;
  };
  own = λ v is. absurd ((clear-cases r.lines e.proc.0 e.proc.0 v is).0 refl);
}

reads-end : (test : Test) (w : WorkloadView) (past : List Item) (before : Readings) (e : Event) (r : Readings) → Reads w past r
    → Reads w past (ended test w before e r)
reads-end test w past before e r reads = record {
  owners_len = reads.owners_len;
  aims_len = reads.aims_len;
  demands_len = reads.demands_len;
  untold_len = reads.untold_len;
  owners = reads.owners;
  aims = reads.aims;
  demands = reads.demands;
  fetching = reads.fetching;
  lines = reads.lines;
  untold = reads.untold;
}

-- nothing more is asked of the items
abbrev pub Any : List Item → Item → Type 0
Any past x = Unit {0}

pub reads-kept : (test : Test) (w : WorkloadView) → IsKept test w (OnMachine w) (Reads w) (ReadsIn w) Any
reads-kept test w = record {
  begins = λ past r e reads. reads-begin w past r e reads;
  step = λ e p past r x rest inv within. (reads-step w e p past r x inv within, tt);
  ends = λ past before e r inv. reads-end test w past before e r inv.reads;
}

pub all-same : {A : Type 0} (d : A) (n k : ℕ) → get_or (replicate n d) k d ≡ d
all-same d zero k = refl
all-same d (suc n) zero = refl
all-same d (suc n) (suc k) = all-same d n k

stands-nowhere : (s : SpaceNo) (n : Note) → StandsUntold [] 0 s n → ⊥
stands-nowhere s n o = let before = o.before in omega arith

pub reads-start : (w : WorkloadView) → Reads w [] (opening_readings w)
reads-start w = record {
  owners_len = length-replicate w.processors None;
  aims_len = length-replicate w.processors None;
  demands_len = length-replicate (length w.spaces) 0;
  untold_len = length-replicate (length w.spaces) [];
  owners = λ p. all-same None w.processors p.0;
  aims = λ p below. all-same None w.processors p.0;
  demands = λ s below. all-same 0 (length w.spaces) s.0;
  fetching = λ s. refl;
  lines = λ p e is. absurd (none-some e (sym (all-same None w.processors p.0) ∙ is));
  untold = λ s n below stands. absurd (stands-nowhere s n stands);
}

-- so the whole of a legal trace is read as the words say
pub legal-reads : (u : UserRules) (w : WorkloadView) (items : List Item) → IsLegal u w items → Reads w items (readings u.inside w (events_of items))
legal-reads u w items legal =
    let gives : (r : Readings) (e : Event) → IsLawful u w r e → EachRecord (OnMachine w e.proc) w e.number e.proc (event_begun w e r) e.records =
    λ r e lawful. on-machine w e.proc e.number (event_begun w e r) e.records lawful.numbered.proc in
    let law = along u w (OnMachine w) gives (opening_readings w) (events_of items) (legal-lawful u w items legal) in
    let read = (walk u.inside w (OnMachine w) (Reads w) (ReadsIn w) Any (reads-kept u.inside w) [] (opening_readings w) (events_of items)
    (reads-start w) law).0 in
    subst (λ (ys : List Item). Reads w ys (readings u.inside w (events_of items))) (items-events items) read
