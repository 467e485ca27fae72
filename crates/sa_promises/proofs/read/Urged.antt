-- Pairs are read as the words say them.
use Rattle.std.proofs.Common.{◌≡◌, ◌≢◌, ℕ, zero, suc, ◌<◌, refl, sym, ◌∙◌, ap, subst, arith, Some, None, List, [], ◌∷◌, ◌++◌, length, true, false, append_assoc, append-nil}
use Rattle.std.specs.Prelude.{Option, Bool, not, ◌&&◌, ◌||◌, ◌==◌, if◌then◌else◌, is_none, is_some, get_or, replicate, slice_set, unwrap_or}
use Rattle.std.specs.Option.{option_or}
use Rattle.std.proofs.lemmas.Bool.{eq-eqb}
use Rattle.std.proofs.lemmas.List.{length-replicate, length-set, get_or-replicate}
use Rattle.sa_base.specs.declared.number.ProcNo.{ProcNo}
use Rattle.sa_base.specs.declared.number.SpaceNo.{SpaceNo}
use Rattle.sa_base.specs.declared.record.Record.{Record}
use Rattle.sa_base.specs.declared.record.Record.TheVariants.{Line}
use Rattle.sa_base.specs.declared.record.Item.{Item}
use Rattle.sa_base.specs.Items.{items_at}
use Rattle.sa_spaces.specs.Workload.{WorkloadView}
use Rattle.sa_assign.specs.Aims.{least_below}
use Rattle.sa_assign.specs.Reaim.{proc_no}
use Rattle.sa_laws.specs.Event.{Event}
use Rattle.sa_laws.specs.State.{State, Runner, opening_state, runner_on, space_at}
use Rattle.sa_laws.specs.Readings.{Readings, line_of}
use Rattle.sa_laws.specs.Record.{after_record, lines_after}
use Rattle.sa_laws.specs.History.{Test, after_records, behind, behind_all, event_begun, is_inside}
use Rattle.sa_laws.specs.Shape.{own_part}
use Rattle.sa_laws.specs.Life.{Life}
use Rattle.sa_laws.proofs.Lengths.{lines-length}
use Rattle.sa_ranks.specs.Pairs.{has_pair, is_pair_on, outranked_by, rank_if, rank_in, is_outranked}
use Rattle.sa_ranks.specs.Inside.{has_entry, settling}
use Rattle.sa_histories.proofs.Walk.{item}
use Rattle.sa_base.specs.declared.package.PackageName.{PackageName}
use Rattle.sa_base.specs.declared.package.PackageName.TheVariants.{FastThreads, Priorities}
use Rattle.sa_ranks.specs.Packages.{rules_of}
use Rattle.sa_promises.specs.Words.{line_in}
use Rattle.sa_promises.specs.Moments.{is_first, machine_by, machine_of, record_of_event}
use Rattle.sa_promises.specs.Urged.{line_said, line_is_raised, is_in_pair, is_paired_on, has_pair_in, asked_at, is_urged}
use Rattle.sa_promises.specs.Along.{says_on}
use Rattle.sa_promises.proofs.words.Reads.{last-more, set-said}
use Rattle.sa_promises.proofs.read.Along.{along-more}
use Rattle.sa_promises.proofs.read.Raised.{Until}
use Rattle.sa_promises.proofs.read.Events.{last-late}

-- which lines are raised is what the words say
pub record LinesSaid (w : WorkloadView) (past : List Item) (lines : List (Option ℕ)) : Type 0 where
  pub len : length lines ≡ w.processors
  pub each : (q : ProcNo) → q.0 < w.processors → is_some (get_or lines q.0 None) ≡ line_is_raised past q

pub lines-start : (w : WorkloadView) → LinesSaid w [] (replicate w.processors None)
lines-start w = record {
  len = length-replicate w.processors None;
  each = λ q within. ap is_some (get_or-replicate w.processors q.0 None None within);
}

set-some : (b : Bool) (v old : Option ℕ) → is_some (unwrap_or (if b then Some v else None) old) ≡ (if b then is_some v else is_some old)
set-some true v old = refl
set-some false v old = refl

line-more : (e : ℕ) (lines : List (Option ℕ)) (x : Record) (q : ProcNo) → q.0 < length lines
    → is_some (get_or (lines_after e lines x) q.0 None) ≡ (if line_in q x then true else is_some (get_or lines q.0 None))
line-more e lines (Line t) q within = ap is_some (set-said lines t.0 q.0 (Some e) None within) ∙ set-some (t.0 == q.0) (Some e) (get_or lines q.0 None)
line-more e lines x q within = refl

-- an event's first record is of its processor, whose line it lowers
first-raises : (line own old : Bool) → (if line then true else if own then false else old)
    ≡ unwrap_or (if line then Some true else if own && true then Some false else None) old
first-raises true own old = refl
first-raises false true old = refl
first-raises false false old = refl

later-raises : (line own old : Bool) → (if line then true else old) ≡ unwrap_or (if line then Some true else if own && false then Some false else None) old
later-raises true own old = refl
later-raises false true old = refl
later-raises false false old = refl

raised-by : (past : List Item) (e : ℕ) (p q : ProcNo) (x : Record) (first : Bool) → is_first e past ≡ first
    → unwrap_or (if line_in q x then Some true else if p.0 == q.0 && first then Some false else None) (line_is_raised past q)
    ≡ line_is_raised (past ++ item e p x ∷ []) q
raised-by past e p q x first is =
    ap (λ b. unwrap_or (if line_in q x then Some true else if p.0 == q.0 && b then Some false else None) (line_is_raised past q)) (sym is)
    ∙ sym (along-more (says_on (line_said q)) false past (item e p x))

lines-first : (w : WorkloadView) (e : ℕ) (p : ProcNo) (past : List Item) (lines : List (Option ℕ)) (x : Record) → is_first e past ≡ true → LinesSaid w past lines
    → LinesSaid w (past ++ item e p x ∷ []) (lines_after e (slice_set lines p.0 None) x)
lines-first w e p past lines x first said =
    let lowered : length (slice_set lines p.0 None) ≡ length lines = length-set lines p.0 None in
    let len = said.len in
    record {
      len = lines-length e (slice_set lines p.0 None) x ∙ lowered ∙ len;
      each = λ q within.
          line-more e (slice_set lines p.0 None) x q (omega arith)
          ∙ ap (λ b. if line_in q x then true else b)
          (ap is_some (set-said lines p.0 q.0 None None (omega arith)) ∙ set-some (p.0 == q.0) None (get_or lines q.0 None)
          ∙ ap (λ b. if p.0 == q.0 then false else b) (said.each q within))
          ∙ first-raises (line_in q x) (p.0 == q.0) (line_is_raised past q) ∙ raised-by past e p q x true first;
    }

lines-later : (w : WorkloadView) (e : ℕ) (p : ProcNo) (past : List Item) (lines : List (Option ℕ)) (x : Record) → is_first e past ≡ false → LinesSaid w past lines
    → LinesSaid w (past ++ item e p x ∷ []) (lines_after e lines x)
lines-later w e p past lines x later said = let len = said.len in record {
  len = lines-length e lines x ∙ len;
  each = λ q within.
      line-more e lines x q (omega arith) ∙ ap (λ b. if line_in q x then true else b) (said.each q within)
      ∙ later-raises (line_in q x) (p.0 == q.0) (line_is_raised past q) ∙ raised-by past e p q x false later;
}

not-first : (past : List Item) (e : ℕ) (p : ProcNo) (x : Record) → is_first e (past ++ item e p x ∷ []) ≡ false
not-first past e p x =
    ap (λ o. is_none (record_of_event e o)) (last-more Some past (item e p x)) ∙ ap (λ b. is_none (if b then Some x else None)) (eq-eqb e e refl)

lines-rest : (w : WorkloadView) (e : ℕ) (p : ProcNo) (past : List Item) (r : Readings) (xs : List Record) → is_first e past ≡ false → LinesSaid w past r.lines
    → LinesSaid w (past ++ items_at e p xs) (after_records w e p r xs).lines
lines-rest w e p past r [] later said = subst (λ items. LinesSaid w items r.lines) (sym (append-nil past)) said
lines-rest w e p past r (x ∷ xs) later said =
    subst (λ items. LinesSaid w items (after_records w e p r (x ∷ xs)).lines) (append_assoc past (item e p x ∷ []) (items_at e p xs))
    (lines-rest w e p (past ++ item e p x ∷ []) (after_record w e p r x) xs (not-first past e p x) (lines-later w e p past r.lines x later said))

-- also after the first records of an event
pub lines-event : (w : WorkloadView) (past : List Item) (r : Readings) (e : Event) (xs : List Record) → xs ≢ [] → Until past e.number → LinesSaid w past r.lines
    → LinesSaid w (past ++ items_at e.number e.proc xs) (behind w e r xs).lines
lines-event w past r e [] some until said = absurd (some refl)
lines-event w past r e (x ∷ xs) some until said =
    subst (λ items. LinesSaid w items (behind w e r (x ∷ xs)).lines) (append_assoc past (item e.number e.proc x ∷ []) (items_at e.number e.proc xs))
    (lines-rest w e.number e.proc (past ++ item e.number e.proc x ∷ []) (after_record w e.number e.proc (event_begun w e r) x) xs
    (not-first past e.number e.proc x)
    (lines-first w e.number e.proc past r.lines x (ap is_none (last-late past e.number until)) said))

state-event : (w : WorkloadView) (e : ℕ) (p : ProcNo) (past : List Item) (r : Readings) (xs : List Record) → r.state ≡ machine_of w past
    → (after_records w e p r xs).state ≡ machine_of w (past ++ items_at e p xs)
state-event w e p past r [] is = is ∙ ap (machine_of w) (sym (append-nil past))
state-event w e p past r (x ∷ xs) is =
    state-event w e p (past ++ item e p x ∷ []) (after_record w e p r x) xs
    (ap (λ (a : State). Rattle.sa_laws.specs.Machine.changed w p a x) is ∙ sym (along-more (machine_by w) (opening_state w) past (item e p x)))
    ∙ ap (machine_of w) (append_assoc past (item e p x ∷ []) (items_at e p xs))

-- so a pair exists where the words say so
least-same : (n : ℕ) (f g : ℕ → Bool) → ((k : ℕ) → k < n → f k ≡ g k) → least_below n f ≡ least_below n g
least-same zero f g same = refl
least-same (suc n) f g same =
    ap (λ o. option_or o (if f n then Some n else None)) (least-same n f g (λ k below. same k (omega arith)))
    ∙ ap (λ b. option_or (least_below n g) (if b then Some n else None)) (same n (omega arith))

rank-is : (b : Bool) (rank : ℕ) → is_some (rank_if b rank) ≡ b
rank-is true rank = refl
rank-is false rank = refl

low-is : (line : Option ℕ) → is_none line ≡ not (is_some line)
low-is None = refl
low-is (Some e) = refl

pair-is : (r : Readings) (s : SpaceNo) (q : ProcNo) (runner : Option Runner)
    → is_some (outranked_by r s q runner) ≡ is_in_pair (space_at r.state s) s (is_some (line_of r q)) runner
pair-is r s q None = refl
pair-is r s q (Some runner) =
    let rank = rank_in (space_at r.state s) runner.thread in
    rank-is (runner.space.0 == s.0 && is_none (line_of r q) && is_outranked (space_at r.state s) rank) rank
    ∙ ap (λ b. runner.space.0 == s.0 && b && is_outranked (space_at r.state s) rank) (low-is (line_of r q))

pairs-same : (w : WorkloadView) (r : Readings) (s : SpaceNo) (items : List Item) → r.state ≡ machine_of w items → LinesSaid w items r.lines
    → has_pair w r s ≡ has_pair_in w items s
pairs-same w r s items state said = ap is_some (least-same w.processors (is_pair_on r s) (is_paired_on w items s) (λ k below.
    pair-is r s (proc_no k) (runner_on r.state (proc_no k))
    ∙ ap (λ (a : State). is_in_pair (space_at a s) s (is_some (line_of r (proc_no k))) (runner_on a (proc_no k))) state
    ∙ ap (λ b. is_in_pair (space_at (machine_of w items) s) s b (runner_on (machine_of w items) (proc_no k))) (said.each (proc_no k) below)))

-- What a package's test of which lives are in asks beyond FastThreads'.
abbrev pub urges : PackageName → WorkloadView → Readings → SpaceNo → Bool
urges FastThreads w r s = false
urges Priorities w r s = has_pair w r s

abbrev pub AsksMore : PackageName → Test → Type 0
AsksMore which test =
    (w : WorkloadView) (before : Readings) (e : Event) (after : Readings) (settled : Bool) (life : Life)
    → test w before e after settled life
    ≡ (is_inside w before e after settled life || (settled && urges which w (settling w before e after) life.space))

pub asks-more : (which : PackageName) → AsksMore which (rules_of which).inside
asks-more Priorities w before e after settled life = refl
asks-more FastThreads w before e after settled life = nothing-more (is_inside w before e after settled life) settled where
  nothing-more : (b settled : Bool) → b ≡ (b || (settled && false))
  nothing-more true settled = refl
  nothing-more false true = refl
  nothing-more false false = refl

pub urged-same : (which : PackageName) (w : WorkloadView) (past : List Item) (r : Readings) (e : Event) (s : SpaceNo) → e.records ≢ []
    → r.state ≡ machine_of w past → Until past e.number → LinesSaid w past r.lines
    → urges which w (settling w r e (behind_all w e r)) s ≡ is_urged which w (asked_at past e) s
urged-same FastThreads w past r e s some state until said = refl
urged-same Priorities w past r e s some state until said = one (has_entry e.records) where
  own-some : (xs : List Record) → xs ≢ [] → own_part xs ≢ []
  own-some [] some same = some same
  own-some (x ∷ xs) some same = absurd (cc)

  behind-same : (xs : List Record) → xs ≢ [] → has_pair w (behind w e r xs) s ≡ has_pair_in w (past ++ items_at e.number e.proc xs) s
  behind-same xs some =
      pairs-same w (behind w e r xs) s (past ++ items_at e.number e.proc xs) (state-event w e.number e.proc past (event_begun w e r) xs state)
      (lines-event w past r e xs some until said)

  one : (b : Bool) → has_pair w (if b then behind_all w e r else behind w e r (own_part e.records)) s
      ≡ has_pair_in w (past ++ items_at e.number e.proc (if b then e.records else own_part e.records)) s
  one true = behind-same e.records some
  one false = behind-same (own_part e.records) (own-some e.records some)
