-- The kernel's activations are the lives of the history: of the same spaces, and stopped or blocked with the same threads.
use Rattle.std.proofs.Common.{◌≡◌, ℕ, inl, inr, Bool, true, false, if◌then◌else◌, Option, Some, None, List, [], ◌∷◌, refl, sym, ap, subst, ◌∙◌}
use Rattle.std.specs.List.{list_all, list_any}
use Rattle.std.specs.Option.{option_map}
use Rattle.std.proofs.lemmas.Bool.{cases_eq, and_parts}
use Rattle.sa_base.specs.declared.number.ProcNo.{ProcNo}
use Rattle.sa_base.specs.declared.number.ActNo.{ActNo}
use Rattle.sa_base.specs.declared.context.Stopped.{Stopped}
use Rattle.sa_base.specs.declared.record.Note.TheVariants.{Add, Preempted, Blocked, Unblocked}
use Rattle.sa_base.specs.declared.record.Record.{Record}
use Rattle.sa_base.specs.declared.record.Record.TheVariants.{Ins, Run, Stop, Block, Unblock, Cont, Back, Ready, Take, Free, Up, Told, GiveBack}
use Rattle.sa_lemmas.specs.Function.{put}
use Rattle.sa_lemmas.proofs.FunctionUpdates.{put-at, put-other}
use Rattle.sa_spaces.specs.Workload.{WorkloadView}
use Rattle.sa_acts.specs.declared.acts.Act.{Act}
use Rattle.sa_acts.specs.Table.{holding, taken_from}
use Rattle.sa_laws.specs.Event.{Event}
use Rattle.sa_laws.specs.Life.{Life, inherits, bereft, with_hand}
use Rattle.sa_laws.specs.Readings.{Readings, running_of}
use Rattle.sa_laws.specs.Record.{after_record, with_life, handed, one_thread}
use Rattle.sa_laws.specs.History.{Test, after_records, ended, with_step, stepped, arisen, is_step, is_up}
use Rattle.sa_user_laws.specs.Moments.{unended}

-- A change of a life keeps its space and the thread of its stop or block.
abbrev pub KeepsThread : (Life → Life) → Type 0
KeepsThread f = (life : Life) → ((f life).space ≡ life.space) × ((f life).thread ≡ life.thread)

-- These records stop, begin and end no life.
abbrev pub leaves_lives : Record → Bool
leaves_lives (Stop s t a) = false
leaves_lives (Block s t a io) = false
leaves_lives (Up s a) = false
leaves_lives (GiveBack a) = false
leaves_lives _ = true

module _ {C : Type 0} where
  abbrev pub IsHeldAlike : Option (Stopped C) → Life → Type 0
  IsHeldAlike None life = Unit {0}
  IsHeldAlike (Some h) life = life.thread ≡ h.thread

  abbrev pub Matches : Option (Act C) → Option Life → Type 0
  Matches None None = Unit {0}
  Matches (Some act) (Some life) = (life.space ≡ act.space) × IsHeldAlike act.held life
  Matches _ _ = ⊥

  abbrev pub AreMatched : (ℕ → Option (Act C)) → (ℕ → Option Life) → Type 0
  AreMatched acts lives = (a : ℕ) → Matches (acts a) (lives a)

  held-mapped : (o : Option (Stopped C)) (life new : Life) → new.thread ≡ life.thread → IsHeldAlike o life → IsHeldAlike o new
  held-mapped None life new same h = tt
  held-mapped (Some x) life new same h = same ∙ h

  mapped : (x : Option (Act C)) (o : Option Life) (f : Life → Life) → KeepsThread f → Matches x o → Matches x (option_map f o)
  mapped None None f keeps h = tt
  mapped (Some act) (Some life) f keeps h = ((keeps life).0 ∙ h.0, held-mapped act.held life (f life) (keeps life).1 h.1)
  mapped _ _ f keeps h = absurd h

  pub matched-with : (f : Life → Life) (o : Option ActNo) (acts : ℕ → Option (Act C)) (lives : ℕ → Option Life) → KeepsThread f
      → AreMatched acts lives → AreMatched acts (with_life f o lives)
  matched-with f None acts lives keeps h a = h a
  matched-with f (Some b) acts lives keeps h a = elim (cases_eq a b.0) [
    | inl y ↦ subst (λ o. Matches (acts a) o)
        (sym (put-at lives b.0 a (option_map f (lives b.0)) y ∙ ap (λ n. option_map f (lives n)) (sym y)))
        (mapped (acts a) (lives a) f keeps (h a))
    | inr y ↦ subst (λ o. Matches (acts a) o) (sym (put-other lives b.0 a (option_map f (lives b.0)) y)) (h a)
  ]

  pub matched-put : (b : ℕ) (x : Option (Act C)) (o : Option Life) (acts : ℕ → Option (Act C)) (lives : ℕ → Option Life)
      → Matches x o → AreMatched acts lives → AreMatched (put acts b x) (put lives b o)
  matched-put b x o acts lives new h a = elim (cases_eq a b) [
    | inl y ↦ subst (λ z. Matches z (put lives b o a)) (sym (put-at acts b a x y))
        (subst (λ z. Matches x z) (sym (put-at lives b a o y)) new)
    | inr y ↦ subst (λ z. Matches z (put lives b o a)) (sym (put-other acts b a x y))
        (subst (λ z. Matches (acts a) z) (sym (put-other lives b a o y)) (h a))
  ]

  -- A context is put aside, and its life is changed with it.
  aside : (x : Option (Act C)) (o : Option Life) (held : Stopped C) (f : Life → Life)
      → ((life : Life) → ((f life).space ≡ life.space) × ((f life).thread ≡ held.thread)) → Matches x o
      → Matches (holding held x) (option_map f o)
  aside None None held f keeps h = tt
  aside (Some act) (Some life) held f keeps h = ((keeps life).0 ∙ h.0, (keeps life).1)
  aside _ _ held f keeps h = absurd h

  pub matched-aside : (b : ActNo) (held : Stopped C) (f : Life → Life) (acts : ℕ → Option (Act C)) (lives : ℕ → Option Life)
      → ((life : Life) → ((f life).space ≡ life.space) × ((f life).thread ≡ held.thread)) → AreMatched acts lives
      → AreMatched (put acts b.0 (holding held (acts b.0))) (with_life f (Some b) lives)
  matched-aside b held f acts lives keeps h =
      matched-put b.0 (holding held (acts b.0)) (option_map f (lives b.0)) acts lives (aside (acts b.0) (lives b.0) held f keeps (h b.0)) h

  -- A context that was put aside is taken.
  taken-one : (x : Option (Act C)) (o : Option Life) → Matches x o → Matches (taken_from x) o
  taken-one None None h = tt
  taken-one (Some act) (Some life) h = (h.0, tt)
  taken-one _ _ h = absurd h

  pub matched-taken : (b : ℕ) (acts : ℕ → Option (Act C)) (lives : ℕ → Option Life) → AreMatched acts lives
      → AreMatched (put acts b (taken_from (acts b))) lives
  matched-taken b acts lives h a = elim (cases_eq a b) [
    | inl y ↦ subst (λ z. Matches z (lives a)) (sym (put-at acts b a (taken_from (acts b)) y))
        (subst (λ n. Matches (taken_from (acts b)) (lives n)) (sym y) (taken-one (acts b) (lives b) (h b)))
    | inr y ↦ subst (λ z. Matches z (lives a)) (sym (put-other acts b a (taken_from (acts b)) y)) (h a)
  ]

  matched-handed : (upped : Option ActNo) (a : ActNo) (o : Option Life) (acts : ℕ → Option (Act C)) (lives : ℕ → Option Life)
      → AreMatched acts lives → AreMatched acts (handed upped a o lives)
  matched-handed upped a None acts lives h = h
  matched-handed upped a (Some from) acts lives h =
      matched-with (inherits from) upped acts (with_life bereft (Some a) lives) (λ life. (refl, refl))
      (matched-with bereft (Some a) acts lives (λ life. (refl, refl)) h)

  pub matched-record : (w : WorkloadView) (e : ℕ) (p : ProcNo) (r : Readings) (x : Record) (acts : ℕ → Option (Act C))
      → leaves_lives x ≡ true → AreMatched acts r.lives → AreMatched acts (after_record w e p r x).lives
  matched-record w e p r (Stop s t a) acts is h = absurd (cc)
  matched-record w e p r (Block s t a io) acts is h = absurd (cc)
  matched-record w e p r (Up s a) acts is h = absurd (cc)
  matched-record w e p r (GiveBack a) acts is h = absurd (cc)
  matched-record w e p r (Ins s t i) acts is h = matched-with _ _ acts r.lives (λ life. (refl, refl)) h
  matched-record w e p r (Run s t) acts is h = matched-with _ _ acts r.lives (λ life. (refl, refl)) h
  matched-record w e p r (Unblock s t a) acts is h = matched-with (with_hand (one_thread t)) (Some a) acts r.lives (λ life. (refl, refl)) h
  matched-record w e p r (Cont s t) acts is h = matched-with _ _ acts r.lives (λ life. (refl, refl)) h
  matched-record w e p r (Back s t) acts is h = matched-with _ _ acts r.lives (λ life. (refl, refl)) h
  matched-record w e p r (Ready s t) acts is h = matched-with _ _ acts r.lives (λ life. (refl, refl)) h
  matched-record w e p r (Take s l t) acts is h = matched-with _ _ acts r.lives (λ life. (refl, refl)) h
  matched-record w e p r (Free s l t) acts is h = matched-with _ _ acts r.lives (λ life. (refl, refl)) h
  matched-record w e p r (Told (Preempted a)) acts is h = matched-handed r.upped a _ acts r.lives h
  matched-record w e p r (Told (Unblocked a)) acts is h = matched-handed r.upped a _ acts r.lives h
  matched-record w e p r (Told (Add q)) acts is h = h
  matched-record w e p r (Told (Blocked a)) acts is h = h
  matched-record w e p r x acts is h = h

  pub matched-records : (w : WorkloadView) (e : ℕ) (p : ProcNo) (r : Readings) (xs : List Record) (acts : ℕ → Option (Act C))
      → list_all leaves_lives xs ≡ true → AreMatched acts r.lives
      → AreMatched acts (after_records w e p r xs).lives
  matched-records w e p r [] acts is h = h
  matched-records w e p r (x ∷ xs) acts is h =
      matched-records w e p (after_record w e p r x) xs acts (and_parts (leaves_lives x) (list_all leaves_lives xs) is).1
      (matched-record w e p r x acts (and_parts (leaves_lives x) (list_all leaves_lives xs) is).0 h)

  matched-if : (b : Bool) (acts : ℕ → Option (Act C)) (new lives : ℕ → Option Life) → AreMatched acts new → AreMatched acts lives
      → AreMatched acts (if b then new else lives)
  matched-if true acts new lives n h = n
  matched-if false acts new lives n h = h

  matched-step : (test : Test) (w : WorkloadView) (before : Readings) (e : Event) (after : Readings) (records : List Record)
      (acts : ℕ → Option (Act C)) (lives : ℕ → Option Life)
      → AreMatched acts lives → AreMatched acts (with_step test w before e after records lives)
  matched-step test w before e after [] acts lives h = h
  matched-step test w before e after (x ∷ xs) acts lives h =
      matched-if (is_step x) acts (with_life (stepped test w before e after x) (running_of before e.proc) lives) lives
      (matched-with (stepped test w before e after x) (running_of before e.proc) acts lives (λ life. (refl, refl)) h) h

  pub matched-ended : (test : Test) (w : WorkloadView) (before : Readings) (e : Event) (after : Readings)
      (acts : ℕ → Option (Act C)) → AreMatched acts after.lives
      → AreMatched acts (ended test w before e after).lives
  matched-ended test w before e after acts h =
      let lives = with_step test w before e after e.records after.lives in
      let all = matched-step test w before e after e.records acts after.lives h in
      matched-if (list_any is_up e.records) acts (with_life (arisen test w before e after) (running_of after e.proc) lives) lives
      (matched-with (arisen test w before e after) (running_of after e.proc) acts lives (λ life. (refl, refl)) all) all

  -- What the end of an own event says of a life does not matter here.
  pub to-unended : (x : Option (Act C)) (o : Option Life) → Matches x o → Matches x (unended o)
  to-unended None None h = tt
  to-unended (Some act) (Some life) h = (h.0, held-mapped act.held life (record life { inside = false; freed = false; scans = 0 }) refl h.1)
  to-unended _ _ h = absurd h

  pub from-unended : (x : Option (Act C)) (o : Option Life) → Matches x (unended o) → Matches x o
  from-unended None None h = tt
  from-unended (Some act) (Some life) h =
      (h.0, held-mapped act.held (record life { inside = false; freed = false; scans = 0 }) life refl h.1)
  from-unended _ _ h = absurd h
