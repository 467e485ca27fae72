-- A life that was idle at its stop is out from then on, and runs nowhere.
use Rattle.std.proofs.Common.{◌≡◌, ◌≢◌, ℕ, zero, suc, Bool, true, false, not, ◌||◌, if◌then◌else◌, Option, Some, None, is_none, List, [], ◌∷◌, ◌++◌, get_or, slice_set, refl, sym, ap, subst, ◌∙◌, inl, inr}
use Rattle.std.specs.List.{list_any}
use Rattle.std.specs.Option.{option_map}
use Rattle.std.proofs.lemmas.Bool.{cases_eq, and_parts, or_parts, not-true}
use Rattle.std.proofs.lemmas.Option.{same_Some, none-some}
use Rattle.std.proofs.lemmas.List.Folds.{list_any-append}
use Rattle.sa_lemmas.specs.Function.{put}
use Rattle.sa_lemmas.proofs.FunctionUpdates.{put-at, put-other}
use Rattle.sa_base.specs.declared.number.ProcNo.{ProcNo}
use Rattle.sa_base.specs.declared.number.SpaceNo.{SpaceNo}
use Rattle.sa_base.specs.declared.number.ThreadNo.{ThreadNo}
use Rattle.sa_base.specs.declared.number.ActNo.{ActNo}
use Rattle.sa_base.specs.declared.record.Note.TheVariants.{Add, Preempted, Blocked, Unblocked}
use Rattle.sa_base.specs.declared.record.Record.{Record}
use Rattle.sa_base.specs.declared.record.Record.TheVariants.{Ins, Run, Stop, Block, Unblock, Cont, Back, Ready, Take, Free, Up, Told, GiveBack, Want, Aim, Line}
use Rattle.sa_spaces.specs.Workload.{WorkloadView}
use Rattle.sa_laws.specs.Event.{Event}
use Rattle.sa_laws.specs.Life.{Life, new_life, inherits, bereft}
use Rattle.sa_laws.specs.Readings.{Readings, running_of, life_of}
use Rattle.sa_laws.specs.Record.{after_record, with_life, handed, stopped_with}
use Rattle.sa_laws.specs.History.{Test, event_begun, after_records, after_event, behind_all, with_step, stepped, arisen, is_step, is_up}
use Rattle.sa_laws.specs.Upcalls.{RunsWhereOwned, EachRecord, NamesTheLife}
use Rattle.sa_laws.specs.Shape.{is_of_closing}
use Rattle.sa_laws.proofs.Closings.{AreClosing}
use Rattle.std.specs.List.{list_all}
use Rattle.sa_kernel_model.proofs.sound.Formed.{free-set}

abbrev pub IdleAreOut : Readings → Type 0
IdleAreOut r = (a : ActNo) (life : Life) → life_of r a ≡ Some life → life.idle ≡ true
    → (life.inside ≡ false) × ((q : ProcNo) → running_of r q ≢ Some a)

-- The new life is idle only if the old one was, and in only if that one was.
abbrev IsCalmer : Option Life → Option Life → Type 0
IsCalmer old None = Unit {0}
IsCalmer old (Some new) = new.idle ≡ true
    → (life : Life) × (old ≡ Some life) × (life.idle ≡ true) × (life.inside ≡ false → new.inside ≡ false)

calm-refl : (o : Option Life) → IsCalmer o o
calm-refl None = tt
calm-refl (Some life) = λ idle. (life, refl, idle, λ out. out)

calm-trans : (x y z : Option Life) → IsCalmer x y → IsCalmer y z → IsCalmer x z
calm-trans x y None one two = tt
calm-trans x None (Some new) one two = λ idle. absurd (let old = two idle in none-some old.0 old.1)
calm-trans x (Some mid) (Some new) one two = λ idle.
    let late = two idle in
    let same : late.0 ≡ mid = sym (same_Some mid late.0 late.1) in
    let early = one (ap (λ (l : Life). l.idle) (sym same) ∙ late.2) in
    (early.0, early.1, early.2, λ out. late.3 (ap (λ (l : Life). l.inside) same ∙ early.3 out))

abbrev KeepsCalm : (Life → Life) → Type 0
KeepsCalm f = (life : Life) → ((f life).idle ≡ true → life.idle ≡ true) × (life.inside ≡ false → (f life).inside ≡ false)

calm-map : (f : Life → Life) (o : Option Life) → KeepsCalm f → IsCalmer o (option_map f o)
calm-map f None keeps = tt
calm-map f (Some life) keeps = λ idle. (life, refl, (keeps life).0 idle, (keeps life).1)

calm-with : (f : Life → Life) (o : Option ActNo) (lives : ℕ → Option Life) → KeepsCalm f → (a : ℕ)
    → IsCalmer (lives a) (with_life f o lives a)
calm-with f None lives keeps a = calm-refl (lives a)
calm-with f (Some b) lives keeps a = elim (cases_eq a b.0) [
  | inl same ↦
      let mapped = calm-map f (lives b.0) keeps in
      subst (λ (x : Option Life). IsCalmer (lives a) x) (sym (put-at lives b.0 a (option_map f (lives b.0)) same))
      (subst (λ (n : ℕ). IsCalmer (lives n) (option_map f (lives b.0))) (sym same) mapped)
  | inr apart ↦ subst (λ (x : Option Life). IsCalmer (lives a) x) (sym (put-other lives b.0 a (option_map f (lives b.0)) apart))
      (calm-refl (lives a))
]

calm-put : (b : ActNo) (new : Option Life) (lives : ℕ → Option Life) → IsCalmer (lives b.0) new → (a : ℕ)
    → IsCalmer (lives a) (put lives b.0 new a)
calm-put b new lives calm a = elim (cases_eq a b.0) [
  | inl same ↦
      subst (λ (x : Option Life). IsCalmer (lives a) x) (sym (put-at lives b.0 a new same))
      (subst (λ (n : ℕ). IsCalmer (lives n) new) (sym same) calm)
  | inr apart ↦ subst (λ (x : Option Life). IsCalmer (lives a) x) (sym (put-other lives b.0 a new apart)) (calm-refl (lives a))
]

calm-handed : (upped : Option ActNo) (b : ActNo) (o : Option Life) (lives : ℕ → Option Life) (a : ℕ)
    → IsCalmer (lives a) (handed upped b o lives a)
calm-handed upped b None lives a = calm-refl (lives a)
calm-handed upped b (Some from) lives a =
    let mid : ℕ → Option Life = with_life bereft (Some b) lives in
    calm-trans (lives a) (mid a) (with_life (inherits from) upped mid a)
    (calm-with bereft (Some b) lives (λ life. ((λ idle. idle), λ out. refl)) a)
    (calm-with (inherits from) upped mid (λ life. ((λ idle. idle), λ out. out)) a)

-- A STOP makes a life idle, and is first in its event; no other record does.
abbrev pub is_stop : Record → Bool
is_stop (Stop s t a) = true
is_stop _ = false

abbrev pub StopsFirst : List Record → Type 0
StopsFirst [] = Unit {0}
StopsFirst (x ∷ xs) = list_any is_stop xs ≡ false

pub no-stops : (xs : List Record) → list_any is_stop xs ≡ false → StopsFirst xs
no-stops [] none = tt
no-stops (x ∷ xs) none = (or_parts (is_stop x) (list_any is_stop xs) none).1

pub closing-no_stop : (cl : List Record) → AreClosing cl → list_any is_stop cl ≡ false
closing-no_stop [] closes = refl
closing-no_stop (Want s n ∷ cl) closes = closing-no_stop cl closes
closing-no_stop (Aim q (Some s) ∷ cl) closes = closing-no_stop cl closes
closing-no_stop (Line q ∷ cl) closes = closing-no_stop cl closes
closing-no_stop (x ∷ cl) closes = absurd (let z = (and_parts (is_of_closing x) (list_all is_of_closing cl) closes).0 in cc)

pub stops-first_both : (own cl : List Record) → StopsFirst own → AreClosing cl → StopsFirst (own ++ cl)
stops-first_both [] cl first closes = no-stops cl (closing-no_stop cl closes)
stops-first_both (x ∷ own) cl first closes =
    list_any-append is_stop own cl ∙ ap (λ (b : Bool). b || list_any is_stop cl) first ∙ closing-no_stop cl closes

calm-record : (w : WorkloadView) (e : ℕ) (p : ProcNo) (r : Readings) (x : Record) → is_stop x ≡ false → (a : ℕ)
    → IsCalmer (r.lives a) ((after_record w e p r x).lives a)
calm-record w e p r (Stop s t b) none a = absurd (cc)
calm-record w e p r (Ins s t i) none a = calm-with _ (running_of r p) r.lives (λ life. ((λ idle. idle), λ out. out)) a
calm-record w e p r (Run s t) none a = calm-with _ (running_of r p) r.lives (λ life. ((λ idle. idle), λ out. out)) a
calm-record w e p r (Block s t b io) none a = calm-with _ (Some b) r.lives (λ life. ((λ idle. idle), λ out. out)) a
calm-record w e p r (Unblock s t b) none a = calm-with _ (Some b) r.lives (λ life. ((λ idle. idle), λ out. out)) a
calm-record w e p r (Cont s t) none a = calm-with _ (running_of r p) r.lives (λ life. ((λ idle. idle), λ out. out)) a
calm-record w e p r (Back s t) none a = calm-with _ (running_of r p) r.lives (λ life. ((λ idle. idle), λ out. out)) a
calm-record w e p r (Ready s t) none a = calm-with _ (running_of r p) r.lives (λ life. ((λ idle. idle), λ out. out)) a
calm-record w e p r (Take s l t) none a = calm-with _ (running_of r p) r.lives (λ life. ((λ idle. idle), λ out. out)) a
calm-record w e p r (Free s l t) none a = calm-with _ (running_of r p) r.lives (λ life. ((λ idle. idle), λ out. out)) a
calm-record w e p r (Up s b) none a = calm-put b (Some (new_life s p)) r.lives (λ idle. absurd (let z : false ≡ true = idle in cc)) a
calm-record w e p r (Told (Add q)) none a = calm-refl (r.lives a)
calm-record w e p r (Told (Blocked b)) none a = calm-refl (r.lives a)
calm-record w e p r (Told (Preempted b)) none a = calm-handed r.upped b (life_of r b) r.lives a
calm-record w e p r (Told (Unblocked b)) none a = calm-handed r.upped b (life_of r b) r.lives a
calm-record w e p r (GiveBack b) none a = calm-put b None r.lives tt a
calm-record w e p r x none a = calm-refl (r.lives a)

calm-records : (w : WorkloadView) (e : ℕ) (p : ProcNo) (r : Readings) (xs : List Record) → list_any is_stop xs ≡ false → (a : ℕ)
    → IsCalmer (r.lives a) ((after_records w e p r xs).lives a)
calm-records w e p r [] none a = calm-refl (r.lives a)
calm-records w e p r (x ∷ xs) none a =
    let parts = or_parts (is_stop x) (list_any is_stop xs) none in
    let next = after_record w e p r x in
    calm-trans (r.lives a) (next.lives a) ((after_records w e p next xs).lives a) (calm-record w e p r x parts.0 a)
    (calm-records w e p next xs parts.1 a)

-- An idle life runs after a record only where it ran before it.
set-none : (xs : List (Option ActNo)) (i q : ℕ) (a : ActNo) → get_or (slice_set xs i None) q None ≡ Some a → get_or xs q None ≡ Some a
set-none (x ∷ xs) zero zero a runs = absurd (cc)
set-none (x ∷ xs) (suc i) (suc q) a runs = set-none xs i q a runs
set-none _ _ _ a runs = runs

set-some : (xs : List (Option ActNo)) (i q : ℕ) (n a : ActNo) → get_or (slice_set xs i (Some n)) q None ≡ Some a → a ≢ n
    → get_or xs q None ≡ Some a
set-some (x ∷ xs) zero zero n a runs apart = absurd (apart (sym (same_Some n a runs)))
set-some (x ∷ xs) (suc i) (suc q) n a runs apart = set-some xs i q n a runs apart
set-some _ _ _ n a runs apart = runs

runs-before : (w : WorkloadView) (e : ℕ) (p : ProcNo) (r : Readings) (x : Record) (a : ActNo) (life : Life) (q : ProcNo)
    → life_of (after_record w e p r x) a ≡ Some life → life.idle ≡ true → running_of (after_record w e p r x) q ≡ Some a
    → running_of r q ≡ Some a
runs-before w e p r (Stop s t b) a life q is idle runs = set-none r.running p.0 q.0 a runs
runs-before w e p r (Block s t b io) a life q is idle runs = set-none r.running p.0 q.0 a runs
runs-before w e p r (Up s n) a life q is idle runs = set-some r.running p.0 q.0 n a runs (λ same.
    let fresh : Some (new_life s p) ≡ Some life = sym (put-at r.lives n.0 a.0 (Some (new_life s p)) (ap (λ (b : ActNo). b.0) same)) ∙ is in
    let z : false ≡ true = ap (λ (l : Life). l.idle) (same_Some (new_life s p) life fresh) ∙ idle in
    cc)
runs-before w e p r x a life q is idle runs = runs

out-record : (w : WorkloadView) (e : ℕ) (p : ProcNo) (r : Readings) (x : Record) → is_stop x ≡ false → IdleAreOut r
    → IdleAreOut (after_record w e p r x)
out-record w e p r x none h a life is idle =
    let calm : IsCalmer (r.lives a.0) (Some life) =
    subst (λ (o : Option Life). IsCalmer (r.lives a.0) o) is (calm-record w e p r x none a.0) in
    let old = calm idle in
    let out = h a old.0 old.1 old.2 in
    (old.3 out.0, λ q runs. out.1 q (runs-before w e p r x a life q is idle runs))

out-records : (w : WorkloadView) (e : ℕ) (p : ProcNo) (r : Readings) (xs : List Record) → list_any is_stop xs ≡ false
    → IdleAreOut r → IdleAreOut (after_records w e p r xs)
out-records w e p r [] none h = h
out-records w e p r (x ∷ xs) none h =
    let parts = or_parts (is_stop x) (list_any is_stop xs) none in
    out-records w e p (after_record w e p r x) xs parts.1 (out-record w e p r x parts.0 h)

-- The life of a stop is idle only where it was out, and runs no longer.
out-stop : (w : WorkloadView) (e : ℕ) (p : ProcNo) (r : Readings) (s : SpaceNo) (t : Option ThreadNo) (b : ActNo) → running_of r p ≡ Some b
    → ((q : ProcNo) → running_of r q ≡ Some b → q ≡ p) → IdleAreOut r → IdleAreOut (after_record w e p r (Stop s t b))
out-stop w e p r s t b runs alone h a life is idle = elim (cases_eq a.0 b.0) [
  | inl same ↦
      let one : a ≡ b = ap (λ (n : ℕ). record { 0 = n }) same in (
        own (r.lives b.0) (sym (put-at r.lives b.0 a.0 (option_map (stopped_with t) (r.lives b.0)) same) ∙ is),
        λ q now.
            let there : q ≡ p = alone q (subst (λ (c : ActNo). running_of r q ≡ Some c) one (set-none r.running p.0 q.0 a now)) in
            let none : get_or (slice_set r.running p.0 None) q.0 None ≡ None =
            ap (λ (c : ProcNo). get_or (slice_set r.running p.0 None) c.0 None) there ∙ free-set r.running p.0 in
            none-some a (sym none ∙ now),
      )
  | inr apart ↦
      let out = h a life (sym (put-other r.lives b.0 a.0 (option_map (stopped_with t) (r.lives b.0)) apart) ∙ is) idle in
      (out.0, λ q now. out.1 q (set-none r.running p.0 q.0 a now))
]
  where
    own : (o : Option Life) → option_map (stopped_with t) o ≡ Some life → life.inside ≡ false
    own None at = absurd (none-some life at)
    own (Some l) at =
        let same : stopped_with t l ≡ life = same_Some (stopped_with t l) life at in
        ap (λ (x : Life). x.inside) (sym same) ∙ not-true l.inside (and_parts (not l.inside) (is_none t) (ap (λ (x : Life). x.idle) same ∙ idle)).0

-- Where no life that the end of an event changes is idle, each idle life is as before.
ends-out : (f : Life → Life) (o : Option ActNo) (lives : ℕ → Option Life) (a : ActNo) (life : Life)
    → ((l : Life) → (f l).idle ≡ l.idle) → ((b : ActNo) (l : Life) → o ≡ Some b → lives b.0 ≡ Some l → l.idle ≡ true → ⊥)
    → with_life f o lives a.0 ≡ Some life → life.idle ≡ true → lives a.0 ≡ Some life
ends-out f None lives a life keeps none is idle = is
ends-out f (Some b) lives a life keeps none is idle = elim (cases_eq a.0 b.0) [
  | inl same ↦ absurd (mapped (lives b.0) refl (sym (put-at lives b.0 a.0 (option_map f (lives b.0)) same) ∙ is))
  | inr apart ↦ sym (put-other lives b.0 a.0 (option_map f (lives b.0)) apart) ∙ is
]
  where
    mapped : (o : Option Life) → lives b.0 ≡ o → option_map f o ≡ Some life → ⊥
    mapped None at e = none-some life e
    mapped (Some l) at e = none b l refl at (sym (keeps l) ∙ ap (λ (x : Life). x.idle) (same_Some (f l) life e) ∙ idle)

-- Where an event begins with a step, no stop is in it.
abbrev StepsStopNone : List Record → Type 0
StepsStopNone [] = Unit {0}
StepsStopNone (x ∷ xs) = is_step x ≡ true → list_any is_stop (x ∷ xs) ≡ false

steps-stop_none : (xs : List Record) → StopsFirst xs → StepsStopNone xs
steps-stop_none [] first = tt
steps-stop_none (Stop s t a ∷ xs) first = λ steps. absurd (cc)
steps-stop_none (x ∷ xs) first = λ steps. first

module _ (test : Test) (w : WorkloadView) (r : Readings) (ev : Event) (h : IdleAreOut r)
    (last_out : IdleAreOut (behind_all w ev r)) (steps : StepsStopNone ev.records) where
  -- A life that ran before a step is not idle after it.
  step-none : (x : Record) (xs : List Record) → ev.records ≡ x ∷ xs → is_step x ≡ true → (b : ActNo) (l : Life)
      → running_of r ev.proc ≡ Some b → (behind_all w ev r).lives b.0 ≡ Some l → l.idle ≡ true → ⊥
  step-none x xs records steps_at b l runs at quiet =
      let none : list_any is_stop ev.records ≡ false =
      subst (λ (ys : List Record). list_any is_stop ys ≡ false) (sym records)
      (subst (λ (ys : List Record). StepsStopNone ys) records steps steps_at) in
      let calm : IsCalmer (r.lives b.0) (Some l) =
      subst (λ (o : Option Life). IsCalmer (r.lives b.0) o) at (calm-records w ev.number ev.proc (event_begun w ev r) ev.records none b.0) in
      let old = calm quiet in
      (h b old.0 old.1 old.2).1 ev.proc runs

  -- So the end of the event changes no idle life.
  by-step : (a : ActNo) (life : Life) (xs : List Record) → ev.records ≡ xs → life.idle ≡ true
      → with_step test w r ev (behind_all w ev r) xs (behind_all w ev r).lives a.0 ≡ Some life
      → (behind_all w ev r).lives a.0 ≡ Some life
  by-step a life [] records quiet at = at
  by-step a life (x ∷ xs) records quiet at = go (is_step x) refl at where
    go : (b : Bool) → is_step x ≡ b
        → (if b then with_life (stepped test w r ev (behind_all w ev r) x) (running_of r ev.proc) (behind_all w ev r).lives else
        (behind_all w ev r).lives) a.0 ≡ Some life
        → (behind_all w ev r).lives a.0 ≡ Some life
    go true steps_at there =
        ends-out (stepped test w r ev (behind_all w ev r) x) (running_of r ev.proc) (behind_all w ev r).lives a life (λ l. refl)
        (step-none x xs records steps_at) there quiet
    go false steps_at there = there

  by-up : (a : ActNo) (life : Life) → life.idle ≡ true → (after_event test w r ev).lives a.0 ≡ Some life
      → (behind_all w ev r).lives a.0 ≡ Some life
  by-up a life quiet at = by-step a life ev.records refl quiet (go (list_any is_up ev.records) at) where
    lives : ℕ → Option Life
    lives = with_step test w r ev (behind_all w ev r) ev.records (behind_all w ev r).lives

    go : (b : Bool) → (if b then with_life (arisen test w r ev (behind_all w ev r))
        (running_of (behind_all w ev r) ev.proc) lives else lives) a.0 ≡ Some life → lives a.0 ≡ Some life
    go true there = ends-out (arisen test w r ev (behind_all w ev r)) (running_of (behind_all w ev r) ev.proc) lives a life (λ l. refl)
        (λ b l runs here idle. (last_out b l (by-step b l ev.records refl idle here) idle).1 ev.proc runs) there quiet
    go false there = there

-- So each event keeps it that idle lives are out.
pub idle-event : (test : Test) (w : WorkloadView) (r : Readings) (ev : Event) → RunsWhereOwned test w r ev
    → ((p q : ProcNo) (a : ActNo) → running_of r p ≡ Some a → running_of r q ≡ Some a → p ≡ q)
    → StopsFirst ev.records → IdleAreOut r → IdleAreOut (after_event test w r ev)
idle-event test w r ev named apart first h a life is idle =
    let last_out = behind ev.records named.named first in
    let at = by-up test w r ev h last_out (steps-stop_none ev.records first) a life idle is in
    last_out a life at idle
  where
    b : Readings
    b = event_begun w ev r

    behind : (xs : List Record) → EachRecord (NamesTheLife ev.proc) w ev.number ev.proc b xs → StopsFirst xs
        → IdleAreOut (after_records w ev.number ev.proc b xs)
    behind [] each first = h
    behind (Stop s t n ∷ xs) each first =
        out-records w ev.number ev.proc (after_record w ev.number ev.proc b (Stop s t n)) xs first
        (out-stop w ev.number ev.proc b s t n each.0.act (λ q runs. apart q ev.proc n runs each.0.act) h)
    behind (x ∷ xs) each first = out-records w ev.number ev.proc b (x ∷ xs) first h
