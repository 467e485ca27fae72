-- Records of a space: what a user level of it says, and what they leave to the other spaces.
use Rattle.std.proofs.Common.{inl, get_or, ◌≡◌, ◌≢◌, ℕ, suc, arith, sym, ◌∙◌, ap, subst, refl, Bool, true, false, ◌&&◌, ◌||◌, Option, None, List, [], ◌∷◌, ◌++◌, All}
use Rattle.std.specs.List.{list_all, list_any}
use Rattle.std.proofs.lemmas.Option.{same_Some}
use Rattle.std.specs.Prelude.{if◌then◌else◌}
use Rattle.std.proofs.lemmas.Bool.{and_parts}
use Rattle.sa_base.specs.declared.number.ProcNo.{ProcNo}
use Rattle.sa_base.specs.declared.number.SpaceNo.{SpaceNo}
use Rattle.sa_base.specs.declared.number.ActNo.{ActNo}
use Rattle.sa_base.specs.declared.record.Record.{Record}
use Rattle.sa_base.specs.declared.record.Record.TheVariants.{Ins, Out, Run, Stop, Block, Cont, Back, Ready, Take, Free, Up, Line, GiveBack, Idle, Spin}
use Rattle.sa_spaces.specs.Workload.{WorkloadView}
use Rattle.sa_abstract.specs.Calls.{Contexts}
use Rattle.sa_abstract.specs.Keeps.{IsOwn}
use Rattle.sa_laws.specs.Event.{Event}
use Rattle.sa_laws.specs.Life.{Life}
use Rattle.sa_laws.specs.Readings.{Readings, running_of, line_of as line_in}
use Rattle.sa_laws.specs.Record.{after_record, with_life}
use Rattle.sa_laws.specs.History.{after_records, after_event, with_step, stepped as stepped_life, is_step, is_up}
use Rattle.sa_laws.specs.Shape.{is_of_closing}
use Rattle.sa_laws.specs.Upcalls.{FirstLineIsAsked}
use Rattle.sa_laws.specs.Rules.{UserRules}
use Rattle.sa_laws.proofs.Records.{records-append}
use Rattle.sa_laws.proofs.Closings.{AreClosing}
use Rattle.sa_kernel_laws.proofs.overview.Records.{users-record}
use Rattle.sa_kernel_laws.specs.Turn.{AreUsers, is_users}
use Rattle.sa_kernel_laws.specs.Overview.{Overview, overview, space_of}
use Rattle.sa_kernel_laws.proofs.entries.Walks.{has-life}
use Rattle.sa_user_laws.specs.Moments.{AlikeButDemands, life_in, SameFor}
use Rattle.sa_user_laws.specs.Steps.{event_with}
use Rattle.sa_user_laws.specs.Scene.{IsOn, event_begun_at}
use Rattle.sa_legal_runs.proofs.frames.Moments.{begun-same, same-refl, same-for, same-trans, alike-stays, closing-alike}
use Rattle.sa_legal_runs.proofs.frames.Foreign.{IsOfSpace, AreLivesOf, foreign, lives-foreign, runs-alike}
use Rattle.sa_legal_runs.proofs.frames.Lives.{leaves_lives}
use Rattle.sa_legal_runs.proofs.matching.EventLaws.{ended-step, some-step}
use Rattle.sa_legal_runs.proofs.frames.Idle.{is_stop}

-- What a user level of the space says is a user level's.
own-users : (s : SpaceNo) (x : Record) → IsOwn s x → is_users x ≡ true
own-users s (Ins of t i) is = refl
own-users s (Out of t v) is = refl
own-users s (Run of t) is = refl
own-users s (Cont of t) is = refl
own-users s (Back of t) is = refl
own-users s (Ready of t) is = refl
own-users s (Take of l t) is = refl
own-users s (Free of l t) is = refl
own-users s Idle is = refl
own-users s (Spin l) is = refl
own-users s x is = absurd is

-- It is one of the space, as long as a life of the space runs there.
own-of : (s : SpaceNo) (p : ProcNo) (r : Readings) (x : Record) → IsOwn s x → AreLivesOf s r.lives (running_of r p) → IsOfSpace s p r x
own-of s p r (Ins of t i) is run = (is, run)
own-of s p r (Out of t v) is run = refl
own-of s p r (Run of t) is run = (is, run)
own-of s p r (Cont of t) is run = (is, run)
own-of s p r (Back of t) is run = (is, run)
own-of s p r (Ready of t) is run = (is, run)
own-of s p r (Take of l t) is run = (is, run)
own-of s p r (Free of l t) is run = (is, run)
own-of s p r Idle is run = refl
own-of s p r (Spin l) is run = refl
own-of s p r x is run = absurd is

lives-over : (s : SpaceNo) (p : ProcNo) (m n : Readings) → overview n ≡ overview m → AreLivesOf s m.lives (running_of m p)
    → AreLivesOf s n.lives (running_of n p)
lives-over s p m n same of a is life at =
    let was = has-life (m.lives a.0) life.space (sym (ap (λ (v : Overview). v.spaces a.0) same) ∙ ap space_of at) in
    sym was.2 ∙ of a (sym (ap (λ (v : Overview). get_or v.running p.0 None) same) ∙ is) was.0 was.1

pub foreign-says : (w : WorkloadView) (e : ℕ) (p : ProcNo) (s t : SpaceNo) (r : Readings) (xs : List Record) → All (IsOwn s) xs
    → AreLivesOf s r.lives (running_of r p) → t.0 ≢ s.0
    → SameFor t r (after_records w e p r xs)
foreign-says w e p s t r [] own run apart = same-refl t r
foreign-says w e p s t r (x ∷ xs) own run apart =
    let head : IsOwn s x = own 0 x (omega arith) in
    let next = after_record w e p r x in
    same-trans t r next (after_records w e p next xs) (foreign w e p s t r x (own-of s p r x head run) apart)
    (foreign-says w e p s t next xs (λ i d below. own (suc i) d (omega (arith, below)))
    (lives-over s p r next (users-record w e p r x (own-users s x head)) run) apart)

pub says-users : (s : SpaceNo) (xs : List Record) → All (IsOwn s) xs → AreUsers xs
says-users s [] own = refl
says-users s (x ∷ xs) own =
    ap (λ b. b && list_all is_users xs) (own-users s x (own 0 x (omega arith)))
    ∙ says-users s xs (λ i d below. own (suc i) d (omega (arith, below)))

pub users-leave : (xs : List Record) → AreUsers xs → list_all leaves_lives xs ≡ true
users-leave [] are = refl
users-leave (x ∷ xs) are =
    ap (λ b. b && list_all leaves_lives xs) (one x (and_parts (is_users x) (list_all is_users xs) are).0)
    ∙ users-leave xs (and_parts (is_users x) (list_all is_users xs) are).1 where
      one : (x : Record) → is_users x ≡ true → leaves_lives x ≡ true
      one (Stop s t a) is = absurd (cc)
      one (Block s t a io) is = absurd (cc)
      one (Up s a) is = absurd (cc)
      one (GiveBack a) is = absurd (cc)
      one x is = refl

pub closing-leave : (xs : List Record) → AreClosing xs → list_all leaves_lives xs ≡ true
closing-leave [] are = refl
closing-leave (x ∷ xs) are =
    ap (λ b. b && list_all leaves_lives xs) (one x (and_parts (is_of_closing x) (list_all is_of_closing xs) are).0)
    ∙ closing-leave xs (and_parts (is_of_closing x) (list_all is_of_closing xs) are).1 where
      one : (x : Record) → is_of_closing x ≡ true → leaves_lives x ≡ true
      one (Stop s t a) is = absurd (cc)
      one (Block s t a io) is = absurd (cc)
      one (Up s a) is = absurd (cc)
      one (GiveBack a) is = absurd (cc)
      one x is = refl

pub users-no_up : (xs : List Record) → AreUsers xs → list_any is_up xs ≡ false
users-no_up [] are = refl
users-no_up (x ∷ xs) are =
    ap (λ b. b || list_any is_up xs) (one x (and_parts (is_users x) (list_all is_users xs) are).0)
    ∙ users-no_up xs (and_parts (is_users x) (list_all is_users xs) are).1 where
      one : (x : Record) → is_users x ≡ true → is_up x ≡ false
      one (Up s a) is = absurd (cc)
      one x is = refl

pub users-first : (rules : UserRules) (w : WorkloadView) (r : Readings) (p : ProcNo) (xs cl : List Record) → xs ≢ [] → AreUsers xs
    → FirstLineIsAsked rules.Lines w r p (xs ++ cl)
users-first rules w r p [] cl some are = absurd (some refl)
users-first rules w r p (Line q ∷ xs) cl some are = absurd (cc)
users-first rules w r p (x ∷ xs) cl some are = tt

-- A step changes no life but the one that ran, which is one of the space.
step-foreign : (rules : UserRules) (w : WorkloadView) (s t : SpaceNo) (before : Readings) (ev : Event) (after : Readings)
    (records : List Record) (lives : ℕ → Option Life) → AreLivesOf s lives (running_of before ev.proc) → t.0 ≢ s.0
    → (b : ℕ) → life_in t (with_step rules.inside w before ev after records lives b) ≡ life_in t (lives b)
step-foreign rules w s t before ev after [] lives of apart b = refl
step-foreign rules w s t before ev after (x ∷ xs) lives of apart b = go (is_step x) refl where
  go : (c : Bool) → is_step x ≡ c → life_in t (with_step rules.inside w before ev after (x ∷ xs) lives b) ≡ life_in t (lives b)
  go true is = ap (λ (ls : ℕ → Option Life). life_in t (ls b)) (some-step rules.inside w before ev after x xs lives is)
      ∙ lives-foreign s t (stepped_life rules.inside w before ev after x) (running_of before ev.proc) lives (λ life. refl) of apart b
  go false is = ap (λ (c : Bool). life_in t
      ((if c then with_life (stepped_life rules.inside w before ev after x) (running_of before ev.proc) lives else lives) b)) is

pub of-spaces : (s : SpaceNo) (old new : ℕ → Option Life) (o : Option ActNo) → ((i : ℕ) → space_of (new i) ≡ space_of (old i))
    → AreLivesOf s old o → AreLivesOf s new o
of-spaces s old new o same of a is life at =
    let was = has-life (old a.0) life.space (sym (same a.0) ∙ ap space_of at) in
    sym was.2 ∙ of a is was.0 was.1

pub users-no_stop : (xs : List Record) → AreUsers xs → list_any is_stop xs ≡ false
users-no_stop [] are = refl
users-no_stop (x ∷ xs) are =
    ap (λ b. b || list_any is_stop xs) (one x (and_parts (is_users x) (list_all is_users xs) are).0)
    ∙ users-no_stop xs (and_parts (is_users x) (list_all is_users xs) are).1 where
      one : (x : Record) → is_users x ≡ true → is_stop x ≡ false
      one (Stop s t a) is = absurd (cc)
      one x is = refl

-- The life that runs on the processor is one of the space.
pub mine-of : {C : Type 0} (s : SpaceNo) (r : Readings) (p : ProcNo) (a : ActNo) (life : Life) (cs : Contexts C) (c : C)
    → IsOn s r p a life cs c → AreLivesOf s r.lives (running_of r p)
mine-of s r p a life cs c on b is l has =
    let same : b ≡ a = same_Some b a (sym is ∙ on.runs) in
    ap (λ (x : Life). x.space) (same_Some l life (sym has ∙ ap (λ (z : ActNo). r.lives z.0) same ∙ on.is)) ∙ on.space

-- The event of a step of the space, at a processor whose line was low, leaves the other spaces.
pub step-event_foreign : (rules : UserRules) (w : WorkloadView) (r : Readings) (g : ℕ) (p : ProcNo) (s t : SpaceNo)
    (own cl : List Record) → line_in r p ≡ None → AreClosing cl
    → list_any is_up (own ++ cl) ≡ false → AreLivesOf s (after_records w g p (event_begun_at w g p r) own).lives (running_of r p)
    → t.0 ≢ s.0 → SameFor t (event_begun_at w g p r) (after_records w g p (event_begun_at w g p r) own)
    → SameFor t r (after_event rules.inside w r (event_with g p own cl))
step-event_foreign rules w r g p s t own cl low closes no_up mine apart same =
    let b = event_begun_at w g p r in
    let ev : Event = event_with g p own cl in
    let first = after_records w g p b own in
    let last = after_records w g p b (own ++ cl) in
    let final = after_event rules.inside w r ev in
    let close : AlikeButDemands first last =
    subst (λ (z : Readings). AlikeButDemands first z) (sym (records-append w g p b own cl)) (closing-alike w g p first cl closes) in
    let ends : (i : ℕ) → life_in t (final.lives i) ≡ life_in t (last.lives i) = λ i.
    ap (λ (ls : ℕ → Option Life). life_in t (ls i)) (ended-step rules.inside w r ev last no_up)
    ∙ step-foreign rules w s t r ev last ev.records last.lives
    (subst (λ (ls : ℕ → Option Life). AreLivesOf s ls (running_of r p)) (sym close.lives) mine) apart i in
    same-trans t r last final
    (same-trans t r first last (same-trans t r b first (begun-same w g p t r (inl low)) same)
    (same-for first last (alike-stays first last close) t))
    (record {
      space = refl;
      lives = ends;
      running = λ q. runs-alike t last.lives final.lives (running_of last q) ends;
      taken = refl;
      untold = refl;
      ready = refl;
      lines = λ q runs raised. raised;
    })
