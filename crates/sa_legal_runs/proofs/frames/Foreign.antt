-- What the records of one space leave to the others.
use Rattle.std.proofs.Common.{get_or, ◌≡◌, ◌≢◌, ℕ, zero, suc, ◌⊎◌, inl, inr, Bool, true, false, ◌==◌, if◌then◌else◌, Option, Some, None, IsSome, List, [], ◌∷◌, slice_set, refl, sym, ap, subst, ◌∙◌, arith}
use Rattle.std.specs.Option.{option_map}
use Rattle.std.proofs.lemmas.Bool.{cases_eq}
use Rattle.std.proofs.lemmas.Bool.Decides.{nat_tests}
use Rattle.std.proofs.lemmas.Option.{none-some, same_Some}
use Rattle.std.proofs.lemmas.List.{get_or-set_other}
use Rattle.sa_base.specs.declared.number.ProcNo.{ProcNo}
use Rattle.sa_base.specs.declared.number.SpaceNo.{SpaceNo}
use Rattle.sa_base.specs.declared.number.ActNo.{ActNo}
use Rattle.sa_base.specs.declared.record.Note.{Note}
use Rattle.sa_base.specs.declared.record.Note.TheVariants.{Add, Preempted, Blocked, Unblocked}
use Rattle.sa_base.specs.declared.record.Record.{Record}
use Rattle.sa_base.specs.declared.record.Record.TheVariants.{Ins, Run, Stop, Block, Unblock, Cont, Back, Ready, Take, Free, Up, Told, GiveBack}
use Rattle.sa_lemmas.specs.Function.{put}
use Rattle.sa_lemmas.proofs.FunctionUpdates.{put-at, put-other, put-same}
use Rattle.sa_spaces.specs.Workload.{WorkloadView}
use Rattle.sa_laws.specs.Life.{Life, new_life, inherits, bereft, held_with, with_hand}
use Rattle.sa_laws.specs.State.{space_at}
use Rattle.sa_laws.specs.Readings.{Readings, Listed, running_of, life_of, untold_of, ready_of, space_of_life}
use Rattle.sa_laws.specs.Record.{after_record, with_life, without_note, with_act, without_act, handed, one_thread, stopped_with}
use Rattle.sa_laws.proofs.Spaces.{space-elsewhere, placed-elsewhere}
use Rattle.sa_user_laws.specs.Moments.{SameFor, life_in, runs_in}
use Rattle.sa_legal_runs.proofs.frames.Moments.{is_plain, plain-stays, same-for}

-- The life of this number, if there is one, is one of the space.
abbrev pub IsLifeOf : SpaceNo → (ℕ → Option Life) → ActNo → Type 0
IsLifeOf s lives a = (life : Life) → lives a.0 ≡ Some life → life.space ≡ s

abbrev pub AreLivesOf : SpaceNo → (ℕ → Option Life) → Option ActNo → Type 0
AreLivesOf s lives o = (a : ActNo) → o ≡ Some a → IsLifeOf s lives a

abbrev KeepsSpace : (Life → Life) → Type 0
KeepsSpace f = (life : Life) → (f life).space ≡ life.space

-- A life of another space is none of this one.
none-in : (s t : SpaceNo) (life : Life) → life.space ≡ s → t.0 ≢ s.0 → life_in t (Some life) ≡ None
none-in s t life is apart =
    let no : (life.space.0 == t.0) ≡ false =
    (let e : life.space.0 ≡ s.0 = ap (λ (x : SpaceNo). x.0) is in grind (arith, nat_tests, e, apart)) in
    ap (λ (b : Bool). if b then Some life else None) no

none-if : (s t : SpaceNo) (o : Option Life) → ((life : Life) → o ≡ Some life → life.space ≡ s) → t.0 ≢ s.0 → life_in t o ≡ None
none-if s t None is apart = refl
none-if s t (Some life) is apart = none-in s t life (is life refl) apart

mapped-if : (s : SpaceNo) (f : Life → Life) (o : Option Life) → KeepsSpace f → ((life : Life) → o ≡ Some life → life.space ≡ s)
    → (life : Life) → option_map f o ≡ Some life → life.space ≡ s
mapped-if s f None keeps is life e = absurd (cc)
mapped-if s f (Some x) keeps is life e = ap (λ (l : Life). l.space) (sym (same_Some (f x) life e)) ∙ keeps x ∙ is x refl

pub lives-foreign : (s t : SpaceNo) (f : Life → Life) (o : Option ActNo) (lives : ℕ → Option Life) → KeepsSpace f
    → AreLivesOf s lives o → t.0 ≢ s.0
    → (b : ℕ) → life_in t (with_life f o lives b) ≡ life_in t (lives b)
lives-foreign s t f None lives keeps of apart b = refl
lives-foreign s t f (Some a) lives keeps of apart b = elim (cases_eq b a.0) [
  | inl y ↦ ap (life_in t) (put-at lives a.0 b (option_map f (lives a.0)) y)
      ∙ none-if s t (option_map f (lives a.0)) (mapped-if s f (lives a.0) keeps (of a refl)) apart
      ∙ sym (ap (λ n. life_in t (lives n)) y ∙ none-if s t (lives a.0) (of a refl) apart)
  | inr y ↦ ap (life_in t) (put-other lives a.0 b (option_map f (lives a.0)) y)
]

put-foreign : (s t : SpaceNo) (a : ActNo) (new : Option Life) (lives : ℕ → Option Life)
    → ((life : Life) → new ≡ Some life → life.space ≡ s) → IsLifeOf s lives a → t.0 ≢ s.0
    → (b : ℕ) → life_in t (put lives a.0 new b) ≡ life_in t (lives b)
put-foreign s t a new lives is of apart b = elim (cases_eq b a.0) [
  | inl y ↦ ap (life_in t) (put-at lives a.0 b new y) ∙ none-if s t new is apart
      ∙ sym (ap (λ n. life_in t (lives n)) y ∙ none-if s t (lives a.0) of apart)
  | inr y ↦ ap (life_in t) (put-other lives a.0 b new y)
]

-- Where no life of a space changes, the same of its lives run.
pub runs-alike : (t : SpaceNo) (old new : ℕ → Option Life) (o : Option ActNo) → ((b : ℕ) → life_in t (new b) ≡ life_in t (old b))
    → runs_in t new o ≡ runs_in t old o
runs-alike t old new None same = refl
runs-alike t old new (Some a) same = ap (λ (o : Option Life). option_map (λ life. a) o) (same a.0)

pub runs-none : (s t : SpaceNo) (lives : ℕ → Option Life) (o : Option ActNo) → AreLivesOf s lives o → t.0 ≢ s.0 → runs_in t lives o ≡ None
runs-none s t lives None of apart = refl
runs-none s t lives (Some a) of apart = ap (λ (o : Option Life). option_map (λ life. a) o) (none-if s t (lives a.0) (of a refl) apart)

-- A cell that is set holds the new value, or there is no such cell.
set-either : {A : Type 0} (xs : List A) (i : ℕ) (x d : A)
    → (get_or (slice_set xs i x) i d ≡ x) ⊎ (get_or (slice_set xs i x) i d ≡ get_or xs i d)
set-either [] i x d = inr refl
set-either (y ∷ xs) zero x d = inl refl
set-either (y ∷ xs) (suc i) x d = set-either xs i x d

runs-set : (s t : SpaceNo) (old new : ℕ → Option Life) (running : List (Option ActNo)) (p q : ProcNo) (x : Option ActNo)
    → ((b : ℕ) → life_in t (new b) ≡ life_in t (old b))
    → AreLivesOf s old (get_or running p.0 None) → AreLivesOf s new x → t.0 ≢ s.0
    → runs_in t new (get_or (slice_set running p.0 x) q.0 None) ≡ runs_in t old (get_or running q.0 None)
runs-set s t old new running p q x same was is apart = elim (cases_eq q.0 p.0) [
  | inl y ↦
      let before : runs_in t old (get_or running q.0 None) ≡ None =
      ap (λ n. runs_in t old (get_or running n None)) y ∙ runs-none s t old (get_or running p.0 None) was apart in
      let after : runs_in t new (get_or (slice_set running p.0 x) p.0 None) ≡ None = elim (set-either running p.0 x None) [
        | inl e ↦ ap (runs_in t new) e ∙ runs-none s t new x is apart
        | inr e ↦ ap (runs_in t new) e ∙ runs-alike t old new (get_or running p.0 None) same
            ∙ runs-none s t old (get_or running p.0 None) was apart
      ] in
      ap (λ n. runs_in t new (get_or (slice_set running p.0 x) n None)) y ∙ after ∙ sym before
  | inr y ↦ ap (runs_in t new) (get_or-set_other running p.0 q.0 x None y) ∙ runs-alike t old new (get_or running q.0 None) same
]

-- A record of processor p is one of the space.
abbrev pub IsOfSpace : SpaceNo → ProcNo → Readings → Record → Type 0
IsOfSpace s p r (Ins of t i) = (of ≡ s) × AreLivesOf s r.lives (running_of r p)
IsOfSpace s p r (Run of t) = (of ≡ s) × AreLivesOf s r.lives (running_of r p)
IsOfSpace s p r (Stop of t a) = (of ≡ s) × IsLifeOf s r.lives a × AreLivesOf s r.lives (running_of r p)
IsOfSpace s p r (Block of t a io) = (of ≡ s) × IsLifeOf s r.lives a × AreLivesOf s r.lives (running_of r p)
IsOfSpace s p r (Unblock of t a) = (of ≡ s) × IsLifeOf s r.lives a
IsOfSpace s p r (Cont of t) = (of ≡ s) × AreLivesOf s r.lives (running_of r p)
IsOfSpace s p r (Back of t) = (of ≡ s) × AreLivesOf s r.lives (running_of r p)
IsOfSpace s p r (Ready of t) = (of ≡ s) × AreLivesOf s r.lives (running_of r p)
IsOfSpace s p r (Take of l t) = (of ≡ s) × AreLivesOf s r.lives (running_of r p)
IsOfSpace s p r (Free of l t) = (of ≡ s) × AreLivesOf s r.lives (running_of r p)
IsOfSpace s p r (Up of a) = (of ≡ s) × IsLifeOf s r.lives a × AreLivesOf s r.lives (running_of r p)
IsOfSpace s p r (Told (Add q)) = (t : SpaceNo) → t.0 ≢ s.0 → get_or (without_note r.untold (Add q)) t.0 [] ≡ untold_of r t
IsOfSpace s p r (Told (Preempted a)) =
    ((t : SpaceNo) → t.0 ≢ s.0 → get_or (without_note r.untold (Preempted a)) t.0 [] ≡ untold_of r t) × IsLifeOf s r.lives a
    × AreLivesOf s r.lives r.upped
IsOfSpace s p r (Told (Blocked a)) = (t : SpaceNo) → t.0 ≢ s.0 → get_or (without_note r.untold (Blocked a)) t.0 [] ≡ untold_of r t
IsOfSpace s p r (Told (Unblocked a)) =
    ((t : SpaceNo) → t.0 ≢ s.0 → get_or (without_note r.untold (Unblocked a)) t.0 [] ≡ untold_of r t) × IsLifeOf s r.lives a
    × AreLivesOf s r.lives r.upped
IsOfSpace s p r (GiveBack a) = IsLifeOf s r.lives a
IsOfSpace s p r x = is_plain x ≡ true

-- A step of a life of the space changes its threads and that life, and nothing of another space.
foreign-step : (w : WorkloadView) (s t : SpaceNo) (p : ProcNo) (f : Life → Life) (r n : Readings) → KeepsSpace f
    → AreLivesOf s r.lives (running_of r p) → t.0 ≢ s.0
    → space_at n.state t ≡ space_at r.state t → n.lives ≡ with_life f (running_of r p) r.lives → n.running ≡ r.running
    → n.taken ≡ r.taken → n.untold ≡ r.untold → ready_of n t ≡ ready_of r t → n.lines ≡ r.lines
    → SameFor t r n
foreign-step w s t p f r n keeps of apart space lives running taken untold ready lines =
    let all : (b : ℕ) → life_in t (n.lives b) ≡ life_in t (r.lives b) =
    λ b. ap (λ (ls : ℕ → Option Life). life_in t (ls b)) lives ∙ lives-foreign s t f (running_of r p) r.lives keeps of apart b in
    record {
      space = space;
      lives = all;
      running = λ q. ap (λ (xs : List (Option ActNo)). runs_in t n.lives (get_or xs q.0 None)) running
          ∙ runs-alike t r.lives n.lives (running_of r q) all;
      taken = ap (λ (xs : List (List ActNo)). get_or xs t.0 []) taken;
      untold = ap (λ (xs : List (List Note)). get_or xs t.0 []) untold;
      ready = ready;
      lines = λ q runs raised. subst (λ (xs : List (Option ℕ)). IsSome (get_or xs q.0 None)) (sym lines) raised;
    }

taken-other : (taken : List (List ActNo)) (s t : SpaceNo) (a : ActNo) (o : Option Life)
    → ((life : Life) → o ≡ Some life → life.space ≡ s) → t.0 ≢ s.0
    → get_or (with_act taken (option_map (λ (life : Life). life.space) o) a) t.0 [] ≡ get_or taken t.0 []
taken-other taken s t a None of apart = refl
taken-other taken s t a (Some life) of apart =
    get_or-set_other taken life.space.0 t.0 _ [] (λ e. apart (e ∙ ap (λ (x : SpaceNo). x.0) (of life refl)))

untaken-other : (taken : List (List ActNo)) (s t : SpaceNo) (a : ActNo) (o : Option Life)
    → ((life : Life) → o ≡ Some life → life.space ≡ s) → t.0 ≢ s.0
    → get_or (without_act taken (option_map (λ (life : Life). life.space) o) a) t.0 [] ≡ get_or taken t.0 []
untaken-other taken s t a None of apart = refl
untaken-other taken s t a (Some life) of apart =
    get_or-set_other taken life.space.0 t.0 _ [] (λ e. apart (e ∙ ap (λ (x : SpaceNo). x.0) (of life refl)))

with-of : (s : SpaceNo) (f : Life → Life) (o : Option ActNo) (lives : ℕ → Option Life) (a : ActNo) → KeepsSpace f
    → IsLifeOf s lives a → IsLifeOf s (with_life f o lives) a
with-of s f None lives a keeps of life is = of life is
with-of s f (Some b) lives a keeps of life is = elim (cases_eq a.0 b.0) [
  | inl y ↦ mapped-if s f (lives b.0) keeps (λ l e. of l (ap lives y ∙ e)) life
      (sym (put-at lives b.0 a.0 (option_map f (lives b.0)) y) ∙ is)
  | inr y ↦ of life (sym (put-other lives b.0 a.0 (option_map f (lives b.0)) y) ∙ is)
]

-- What is handed over with a notice stays in the space.
handed-foreign : (s t : SpaceNo) (upped : Option ActNo) (a : ActNo) (o : Option Life) (lives : ℕ → Option Life)
    → IsLifeOf s lives a → AreLivesOf s lives upped → t.0 ≢ s.0
    → (b : ℕ) → life_in t (handed upped a o lives b) ≡ life_in t (lives b)
handed-foreign s t upped a None lives of ups apart b = refl
handed-foreign s t upped a (Some from) lives of ups apart b =
    let own : AreLivesOf s lives (Some a) = λ c e. subst (λ (x : ActNo). IsLifeOf s lives x) (same_Some a c e) of in
    lives-foreign s t (inherits from) upped (with_life bereft (Some a) lives) (λ life. refl)
    (λ c e. with-of s bereft (Some a) lives c (λ life. refl) (ups c e)) apart b
    ∙ lives-foreign s t bereft (Some a) lives (λ life. refl) own apart b

foreign-told : (w : WorkloadView) (e : ℕ) (p : ProcNo) (s t : SpaceNo) (r : Readings) (n : Note) (a : ActNo) → t.0 ≢ s.0
    → get_or (without_note r.untold n) t.0 [] ≡ untold_of r t → IsLifeOf s r.lives a → AreLivesOf s r.lives r.upped
    → (after_record w e p r (Told n)).lives ≡ handed r.upped a (life_of r a) r.lives
    → (after_record w e p r (Told n)).taken ≡ with_act r.taken (space_of_life r (Some a)) a
    → SameFor t r (after_record w e p r (Told n))
foreign-told w e p s t r n a apart untold of ups lives taken =
    let m = after_record w e p r (Told n) in
    let all : (b : ℕ) → life_in t (m.lives b) ≡ life_in t (r.lives b) =
    λ b. ap (λ (ls : ℕ → Option Life). life_in t (ls b)) lives ∙ handed-foreign s t r.upped a (life_of r a) r.lives of ups apart b in
    record {
      space = refl;
      lives = all;
      running = λ q. runs-alike t r.lives m.lives (running_of r q) all;
      taken = ap (λ (xs : List (List ActNo)). get_or xs t.0 []) taken ∙ taken-other r.taken s t a (life_of r a) of apart;
      untold = untold;
      ready = refl;
      lines = λ q runs raised. raised;
    }

one-of : (s : SpaceNo) (lives : ℕ → Option Life) (a : ActNo) → IsLifeOf s lives a → AreLivesOf s lives (Some a)
one-of s lives a of b e = subst (λ (x : ActNo). IsLifeOf s lives x) (same_Some a b e) of

none-of : (s : SpaceNo) (lives : ℕ → Option Life) → AreLivesOf s lives None
none-of s lives b e = absurd (cc)

foreign-set : (s t : SpaceNo) (xs : List (List Note)) (of : SpaceNo) (ns : List Note) → of ≡ s → t.0 ≢ s.0
    → get_or (slice_set xs of.0 ns) t.0 [] ≡ get_or xs t.0 []
foreign-set s t xs of ns is apart = get_or-set_other xs of.0 t.0 ns [] (λ e. apart (e ∙ ap (λ (x : SpaceNo). x.0) is))

foreign-ready : (s t : SpaceNo) (xs : List (List Listed)) (of : SpaceNo) (ns : List Listed) → of ≡ s → t.0 ≢ s.0
    → get_or (slice_set xs of.0 ns) t.0 [] ≡ get_or xs t.0 []
foreign-ready s t xs of ns is apart = get_or-set_other xs of.0 t.0 ns [] (λ e. apart (e ∙ ap (λ (x : SpaceNo). x.0) is))

away : (s t of : SpaceNo) → of ≡ s → t.0 ≢ s.0 → t.0 ≢ of.0
away s t of is apart e = apart (e ∙ ap (λ (x : SpaceNo). x.0) is)

pub foreign : (w : WorkloadView) (e : ℕ) (p : ProcNo) (s t : SpaceNo) (r : Readings) (x : Record) → IsOfSpace s p r x → t.0 ≢ s.0
    → SameFor t r (after_record w e p r x)
foreign w e p s t r (Ins of u i) is apart =
    foreign-step w s t p _ r _ (λ life. refl) is.1 apart (space-elsewhere r.state of t _ (away s t of is.0 apart)) refl refl refl refl refl refl
foreign w e p s t r (Run of u) is apart =
    foreign-step w s t p _ r _ (λ life. refl) is.1 apart (space-elsewhere r.state of t _ (away s t of is.0 apart)) refl refl refl refl
    (foreign-ready s t r.ready of _ is.0 apart) refl
foreign w e p s t r (Cont of u) is apart =
    foreign-step w s t p _ r _ (λ life. refl) is.1 apart
    (placed-elsewhere r.state of t u _ (away s t of is.0 apart)) refl refl refl refl refl refl
foreign w e p s t r (Back of u) is apart =
    foreign-step w s t p _ r _ (λ life. refl) is.1 apart
    (placed-elsewhere r.state of t u _ (away s t of is.0 apart)) refl refl refl refl refl refl
foreign w e p s t r (Ready of u) is apart =
    foreign-step w s t p _ r _ (λ life. refl) is.1 apart (space-elsewhere r.state of t _ (away s t of is.0 apart)) refl refl refl refl
    (foreign-ready s t r.ready of _ is.0 apart) refl
foreign w e p s t r (Take of l u) is apart = foreign-step w s t p _ r _ (λ life. refl) is.1 apart refl refl refl refl refl refl refl
foreign w e p s t r (Free of l u) is apart = foreign-step w s t p _ r _ (λ life. refl) is.1 apart refl refl refl refl refl refl refl
foreign w e p s t r (Stop of u a) is apart =
    let all = lives-foreign s t (stopped_with u) (Some a) r.lives (λ life. refl) (one-of s r.lives a is.1) apart in
    record {
      space = placed-elsewhere r.state of t u _ (away s t of is.0 apart);
      lives = all;
      running = λ q. runs-set s t r.lives (with_life (stopped_with u) (Some a) r.lives) r.running p q None all is.2 (none-of s _) apart;
      taken = refl;
      untold = foreign-set s t r.untold of _ is.0 apart;
      ready = refl;
      lines = λ q runs raised. raised;
    }
foreign w e p s t r (Block of u a io) is apart =
    let all = lives-foreign s t (held_with u) (Some a) r.lives (λ life. refl) (one-of s r.lives a is.1) apart in
    record {
      space = placed-elsewhere r.state of t u _ (away s t of is.0 apart);
      lives = all;
      running = λ q. runs-set s t r.lives (with_life (held_with u) (Some a) r.lives) r.running p q None all is.2 (none-of s _) apart;
      taken = refl;
      untold = foreign-set s t r.untold of _ is.0 apart;
      ready = refl;
      lines = λ q runs raised. raised;
    }
foreign w e p s t r (Unblock of u a) is apart =
    let all = lives-foreign s t (with_hand (one_thread u)) (Some a) r.lives (λ life. refl) (one-of s r.lives a is.1) apart in
    record {
      space = placed-elsewhere r.state of t u _ (away s t of is.0 apart);
      lives = all;
      running = λ q. runs-alike t r.lives (with_life (with_hand (one_thread u)) (Some a) r.lives) (running_of r q) all;
      taken = refl;
      untold = foreign-set s t r.untold of _ is.0 apart;
      ready = refl;
      lines = λ q runs raised. raised;
    }
foreign w e p s t r (Up of a) is apart =
    let fresh : (life : Life) → Some (new_life of p) ≡ Some life → life.space ≡ s =
    λ life e. ap (λ (l : Life). l.space) (sym (same_Some (new_life of p) life e)) ∙ is.0 in
    let all = put-foreign s t a (Some (new_life of p)) r.lives fresh is.1 apart in
    record {
      space = refl;
      lives = all;
      running = λ q. runs-set s t r.lives (put r.lives a.0 (Some (new_life of p))) r.running p q (Some a) all is.2
          (one-of s (put r.lives a.0 (Some (new_life of p))) a
          (λ life e. fresh life (sym (put-same r.lives a.0 (Some (new_life of p))) ∙ e))) apart;
      taken = refl;
      untold = refl;
      ready = refl;
      lines = λ q runs raised. raised;
    }
foreign w e p s t r (Told (Add q)) is apart =
    record { space = refl; lives = λ b. refl; running = λ q. refl; taken = refl; untold = is t apart; ready = refl; lines = λ i runs raised. raised }
foreign w e p s t r (Told (Blocked a)) is apart =
    record { space = refl; lives = λ b. refl; running = λ q. refl; taken = refl; untold = is t apart; ready = refl; lines = λ i runs raised. raised }
foreign w e p s t r (Told (Preempted a)) is apart = foreign-told w e p s t r (Preempted a) a apart (is.0 t apart) is.1 is.2 refl refl
foreign w e p s t r (Told (Unblocked a)) is apart = foreign-told w e p s t r (Unblocked a) a apart (is.0 t apart) is.1 is.2 refl refl
foreign w e p s t r (GiveBack a) is apart =
    let all = put-foreign s t a None r.lives (λ life e. absurd (none-some life e)) is apart in
    record {
      space = refl;
      lives = all;
      running = λ q. runs-alike t r.lives (put r.lives a.0 None) (running_of r q) all;
      taken = untaken-other r.taken s t a (life_of r a) is apart;
      untold = refl;
      ready = refl;
      lines = λ q runs raised. raised;
    }
foreign w e p s t r x is apart = same-for r (after_record w e p r x) (plain-stays w e p r x is) t
