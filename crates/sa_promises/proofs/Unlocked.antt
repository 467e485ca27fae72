-- Who has which lock where no more than two activation numbers are in use.
use Rattle.std.proofs.Common.{◌≡◌, ℕ, zero, suc, ◌≤◌, inl, inr, refl, sym, ◌∙◌, ap, subst, arith, Some, None, List, [], ◌∷◌, take, true, false}
use Rattle.std.specs.Prelude.{Option, Bool, Contains, ◌==◌, if◌then◌else◌, nat_lt}
use Rattle.std.specs.List.{list_all, list_any}
use Rattle.std.specs.Option.{option_map}
use Rattle.std.proofs.lemmas.Bool.{false≢true, cases_eq, eq-eqb, ltb-true, or_parts, and_parts}
use Rattle.sa_lemmas.specs.Function.{put}
use Rattle.sa_lemmas.proofs.FunctionUpdates.{put-at, put-other}
use Rattle.sa_lemmas.proofs.Membership.{contains-nil}
use Rattle.sa_base.specs.declared.number.ActNo.{ActNo}
use Rattle.sa_base.specs.declared.number.ProcNo.{ProcNo}
use Rattle.sa_base.specs.declared.number.SpaceNo.{SpaceNo}
use Rattle.sa_base.specs.declared.number.ThreadNo.{ThreadNo}
use Rattle.sa_base.specs.declared.record.Note.TheVariants as note
use Rattle.sa_base.specs.declared.record.Record.{Record}
use Rattle.sa_base.specs.declared.record.Record.TheVariants.{Ins, Run, Stop, Block, Unblock, Cont, Back, Ready, Take, Free, Up, Told, GiveBack}
use Rattle.sa_spaces.specs.Workload.{WorkloadView}
use Rattle.sa_laws.specs.Event.{Event}
use Rattle.sa_laws.specs.Life.{Life, Lock, inherits, bereft}
use Rattle.sa_laws.specs.Readings.{Readings, IsLocked, running_of}
use Rattle.sa_laws.specs.Record.{with_life, handed, lives_after, after_record}
use Rattle.sa_laws.specs.History.{Test, is_step, is_up, after_event, after_events, after_records, behind_all, event_begun, with_step, stepped, arisen}
use Rattle.sa_laws.specs.Locks.{HoldsLock}

-- no other numbers than 0 and 1 are in use
pub record AreFew (lives : ℕ → Option Life) : Type 0 where
  pub others : (a : ℕ) → 2 ≤ a → lives a ≡ None

few-put : (lives : ℕ → Option Life) (n : ℕ) (x : Option Life) → (2 ≤ n → x ≡ None) → AreFew lives → AreFew (put lives n x)
few-put lives n x none few = record {
  others = λ a high. elim (cases_eq a n) [
    | inl same ↦ put-at lives n a x same ∙ none (omega arith)
    | inr apart ↦ put-other lives n a x apart ∙ few.others a high
  ];
}

few-with : (f : Life → Life) (n : Option ActNo) (lives : ℕ → Option Life) → AreFew lives → AreFew (with_life f n lives)
few-with f None lives few = few
few-with f (Some a) lives few = few-put lives a.0 (option_map f (lives a.0)) (λ high. ap (option_map f) (few.others a.0 high)) few

few-if : (b : Bool) (f : Life → Life) (n : Option ActNo) (lives : ℕ → Option Life) → AreFew lives → AreFew (if b then with_life f n lives else lives)
few-if true f n lives few = few-with f n lives few
few-if false f n lives few = few

few-handed : (upped : Option ActNo) (a : ActNo) (from : Option Life) (lives : ℕ → Option Life) → AreFew lives → AreFew (handed upped a from lives)
few-handed upped a None lives few = few
few-handed upped a (Some from) lives few = few-with (inherits from) upped (with_life bereft (Some a) lives) (few-with bereft (Some a) lives few)

-- the ups of a history name these two alone
abbrev pub is_low_up : Record → Bool
is_low_up (Up s a) = nat_lt a.0 2
is_low_up _ = true

abbrev pub has_low_ups : Event → Bool
has_low_ups e = list_all is_low_up e.records

few-record : (w : WorkloadView) (p : ProcNo) (r : Readings) (x : Record) → is_low_up x ≡ true → AreFew r.lives → AreFew (lives_after w p r x)
few-record w p r (Up s a) low few = few-put r.lives a.0 _ (λ high. absurd (let below = ltb-true a.0 2 low in omega arith)) few
few-record w p r (GiveBack a) low few = few-put r.lives a.0 None (λ high. refl) few
few-record w p r (Told (note.Preempted a)) low few = few-handed r.upped a (r.lives a.0) r.lives few
few-record w p r (Told (note.Unblocked a)) low few = few-handed r.upped a (r.lives a.0) r.lives few
few-record w p r (Told n) low few = few
few-record w p r (Ins s t i) low few = few-with _ (running_of r p) r.lives few
few-record w p r (Run s t) low few = few-with _ (running_of r p) r.lives few
few-record w p r (Stop s t a) low few = few-with _ (Some a) r.lives few
few-record w p r (Block s t a io) low few = few-with _ (Some a) r.lives few
few-record w p r (Unblock s t a) low few = few-with _ (Some a) r.lives few
few-record w p r (Cont s t) low few = few-with _ (running_of r p) r.lives few
few-record w p r (Back s t) low few = few-with _ (running_of r p) r.lives few
few-record w p r (Ready s t) low few = few-with _ (running_of r p) r.lives few
few-record w p r (Take s l t) low few = few-with _ (running_of r p) r.lives few
few-record w p r (Free s l t) low few = few-with _ (running_of r p) r.lives few
few-record w p r x low few = few

few-records : (w : WorkloadView) (e : ℕ) (p : ProcNo) (r : Readings) (records : List Record) → list_all is_low_up records ≡ true → AreFew r.lives
    → AreFew (after_records w e p r records).lives
few-records w e p r [] low few = few
few-records w e p r (x ∷ xs) low few =
    let each = and_parts (is_low_up x) (list_all is_low_up xs) low in
    few-records w e p (after_record w e p r x) xs each.1 (few-record w p r x each.0 few)

few-step : (test : Test) (w : WorkloadView) (r : Readings) (e : Event) (after : Readings) (records : List Record) → AreFew after.lives
    → AreFew (with_step test w r e after records after.lives)
few-step test w r e after [] few = few
few-step test w r e after (x ∷ xs) few = few-if (is_step x) (stepped test w r e after x) (running_of r e.proc) after.lives few

few-event : (test : Test) (w : WorkloadView) (r : Readings) (e : Event) → has_low_ups e ≡ true → AreFew r.lives → AreFew (after_event test w r e).lives
few-event test w r e low few =
    let after = behind_all w e r in
    few-if (list_any is_up e.records) (arisen test w r e after) (running_of after e.proc) _
    (few-step test w r e after e.records (few-records w e.number e.proc (event_begun w e r) e.records low few))

pub few-along : (test : Test) (w : WorkloadView) (r : Readings) (n : ℕ) (run : List Event) → list_all has_low_ups run ≡ true → AreFew r.lives
    → AreFew (after_events test w r (take n run)).lives
few-along test w r zero run low few = few
few-along test w r (suc n) [] low few = few
few-along test w r (suc n) (e ∷ es) low few =
    let each = and_parts (has_low_ups e) (list_all has_low_ups es) low in
    few-along test w (after_event test w r e) n es each.1 (few-event test w r e each.0 few)

-- no lock of the two lives passes a test
abbrev pub locks_of : Option Life → List Lock
locks_of None = []
locks_of (Some life) = life.locks

pub record NoLock (test : Lock → Bool) (lives : ℕ → Option Life) : Type 0 where
  pub few : AreFew lives
  pub zeroth : list_any test (locks_of (lives 0)) ≡ false
  pub first : list_any test (locks_of (lives 1)) ≡ false

none-passes : (test : Lock → Bool) (locks : List Lock) → list_any test locks ≡ false → (lock : Lock) → Contains locks lock → test lock ≡ false
none-passes test [] none lock has = absurd (contains-nil lock has)
none-passes test (k ∷ ks) none lock (zero, within, at) = ap test (sym at) ∙ (or_parts (test k) (list_any test ks) none).0
none-passes test (k ∷ ks) none lock (suc i, within, at) =
    none-passes test ks (or_parts (test k) (list_any test ks) none).1 lock (i, omega arith, at)

each-fails : (test : Lock → Bool) (lives : ℕ → Option Life) → NoLock test lives → (a : ℕ) (life : Life) (lock : Lock) → lives a ≡ Some life
    → Contains life.locks lock → test lock ≡ false
each-fails test lives none a life lock is has = none-passes test (locks_of (lives a)) (each a) lock (subst (λ ls. Contains ls lock) (sym (ap locks_of is)) has)
  where
    each : (b : ℕ) → list_any test (locks_of (lives b)) ≡ false
    each zero = none.zeroth
    each (suc zero) = none.first
    each (suc (suc b)) = ap (λ x. list_any test (locks_of x)) (none.few.others (suc (suc b)) (omega arith))

-- so a list is locked by nobody
abbrev pub is_of : ProcNo → Lock → Bool
is_of l lock = lock.list.0 == l.0

pub none-locked : {r : Readings} {s : SpaceNo} {l : ProcNo} → NoLock (is_of l) r.lives → IsLocked r s l → ⊥
none-locked {r} {s} {l} none locked =
    let fails = each-fails (is_of l) r.lives none locked.act.0 locked.life locked.has.lock locked.is locked.has.among in
    false≢true (sym fails ∙ ap (λ (x : ProcNo). x.0 == l.0) locked.has.list ∙ eq-eqb l.0 l.0 refl)

-- and a thread holds no lock
abbrev pub is_named : ThreadNo → Option ThreadNo → Bool
is_named t None = false
is_named t (Some u) = u.0 == t.0

abbrev pub is_held_by : ThreadNo → Lock → Bool
is_held_by t lock = is_named t lock.thread

pub holds-none : {r : Readings} {s : SpaceNo} {t : ThreadNo} → NoLock (is_held_by t) r.lives → HoldsLock r s t → ⊥
holds-none {r} {s} {t} none holds =
    let fails = each-fails (is_held_by t) r.lives none holds.act.0 holds.life holds.lock holds.is holds.among in
    false≢true (sym fails ∙ ap (is_named t) holds.thread ∙ eq-eqb t.0 t.0 refl)
