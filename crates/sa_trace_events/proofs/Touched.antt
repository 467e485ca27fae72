-- An item that does not touch a track leaves it as it is, and adds no line.
use Rattle.std.proofs.Common.{◌≡◌, ◌≢◌, ℕ, Bool, true, false, ◌==◌, ◌&&◌, if◌then◌else◌, ◌++◌, [], codes, Option, Some, None, ◌⊎◌, inl, inr, refl, sym, ◌∙◌, ap}
use Rattle.std.proofs.lemmas.Bool.{false≢true, eqb-true, eq-eqb, cases_Bool, cases_eq, or_parts, false_from_ne_true}
use Rattle.sa_lemmas.specs.Function.{put}
use Rattle.sa_lemmas.proofs.FunctionUpdates.{put-at, put-other}
use Rattle.sa_base.specs.declared.number.ProcNo.{ProcNo}
use Rattle.sa_base.specs.declared.number.SpaceNo.{SpaceNo}
use Rattle.sa_base.specs.declared.number.ThreadNo.{ThreadNo}
use Rattle.sa_base.specs.declared.record.Item.{Item}
use Rattle.sa_base.specs.declared.record.Record.{Record}
use Rattle.sa_base.specs.declared.record.Record.TheVariants as what
use Rattle.sa_trace_events.specs.declared.track.Count.{Count}
use Rattle.sa_trace_events.specs.declared.track.Count.TheVariants as count
use Rattle.sa_trace_events.specs.declared.track.Level.{Level}
use Rattle.sa_trace_events.specs.declared.track.Level.TheVariants.{Owner, Activation, Work}
use Rattle.sa_trace_events.specs.declared.track.Track.{Track}
use Rattle.sa_trace_events.specs.declared.track.Track.TheVariants as track
use Rattle.sa_trace_events.specs.declared.state.Doing.{Doing}
use Rattle.sa_trace_events.specs.declared.state.Doing.TheVariants.{Ready, Runs, Section, Stopped, Blocked, Returned, Hand, Away}
use Rattle.sa_trace_events.specs.declared.state.Holder.{Holder}
use Rattle.sa_trace_events.specs.declared.state.Holder.TheVariants.{Nobody}
use Rattle.sa_trace_events.specs.declared.state.Tally.{Tally}
use Rattle.sa_trace_events.specs.declared.touches.Group.TheVariants.{Lanes, Threads}
use Rattle.sa_trace_events.specs.declared.slices.State.{State}
use Rattle.sa_trace_events.specs.declared.slices.State.TheVariants as state
use Rattle.sa_trace_events.specs.State.{act_after, is_thread, is_thread_of, left, at_list, own_or_left, doing_by, held, holder_by, demand_by, aimed_by, owned_by, ready_by, untold_by, tally_by, more_if, less_if}
use Rattle.sa_shapes.specs.Look.{look_after}
use Rattle.sa_trace_events.specs.Json.{quoted}
use Rattle.sa_trace_events.specs.Events.{names_thread, line_if}
use Rattle.sa_trace_events.specs.Slices.{start, after}
use Rattle.sa_trace_events.specs.Touches.{is_number, number_if, among, thread_in, count_in, lock_in, clears, on_after, other_than, left_by, touches, group_of, number_of, nobody}

-- NUMBERS
numbered-if : (n m : ℕ) (b : Bool) → is_number n (number_if b m) ≡ (b && m == n)
numbered-if n m true = refl
numbered-if n m false = refl

unnumbered : (n : ℕ) (b : Bool) → is_number n (number_if b n) ≡ false → b ≡ false
unnumbered n false off = refl
unnumbered n true off = absurd (false≢true (sym off ∙ eq-eqb n n refl))

numbered-thread : (s : SpaceNo) (t : ThreadNo) (u : SpaceNo) (v : ThreadNo) → is_number t.0 (among s u (Some v)) ≡ is_thread s t u v
numbered-thread s t u v = numbered-if t.0 v.0 (u.0 == s.0)

numbered-one : (s : SpaceNo) (t : ThreadNo) (u : SpaceNo) (v : Option ThreadNo) → is_number t.0 (among s u v) ≡ is_thread_of s t u v
numbered-one s t u None = refl
numbered-one s t u (Some v) = numbered-thread s t u v

-- the thread that a record names is the one of its number
pub names-is : (s : SpaceNo) (t : ThreadNo) (r : Record) → is_number t.0 (thread_in s r) ≡ names_thread s t r
names-is s t (what.Ins u v i) = numbered-thread s t u v
names-is s t (what.Out u v n) = numbered-thread s t u v
names-is s t (what.Run u v) = numbered-thread s t u v
names-is s t (what.Ready u v) = numbered-thread s t u v
names-is s t (what.Stop u v a) = numbered-one s t u v
names-is s t (what.Block u v a io) = numbered-one s t u v
names-is s t (what.Unblock u v a) = numbered-one s t u v
names-is s t (what.Cont u v) = numbered-one s t u v
names-is s t (what.Back u v) = numbered-one s t u v
names-is s t (what.Take u l v) = numbered-one s t u v
names-is s t (what.Free u l v) = numbered-one s t u v
names-is s t other = refl

-- THREADS. The thread runs on this processor.
abbrev pub is_at : ProcNo → Doing → Bool
is_at p (Runs q) = q.0 == p.0
is_at p (Section q) = q.0 == p.0
is_at p other = false

-- one that runs on a processor is the one that its last record named
abbrev pub IsOn : ThreadNo → Doing → (ℕ → Option ℕ) → Type 0
IsOn t d on = (q : ProcNo) → is_at q d ≡ true → on q.0 ≡ Some t.0

left-off : (p : ProcNo) (d : Doing) → is_at p d ≡ false → left p d ≡ d
left-off p (Runs q) off = ap (λ (on : Bool). if on then Away else Runs q) off
left-off p (Section q) off = ap (λ (on : Bool). if on then Away else Section q) off
left-off p other off = refl

own-off : (own : Bool) (p : ProcNo) (next d : Doing) → own ≡ false → is_at p d ≡ false → own_or_left own p next d ≡ d
own-off own p next d un off = ap (λ (b : Bool). if b then next else left p d) un ∙ left-off p d off

-- a thread that a record does not name, and which does not run on its processor if that is cleared
stays-as : (s : SpaceNo) (t : ThreadNo) (p : ProcNo) (d : Doing) (r : Record) → names_thread s t r ≡ false → (clears r ≡ true → is_at p d ≡ false)
    → doing_by s t p d r ≡ d
stays-as s t p d (what.Ins u v i) un off = own-off (is_thread s t u v) p (Runs p) d un (off refl)
stays-as s t p d (what.Out u v n) un off = own-off (is_thread s t u v) p (Runs p) d un (off refl)
stays-as s t p d (what.Run u v) un off = own-off (is_thread s t u v) p (Runs p) d un (off refl)
stays-as s t p d (what.Stop u v a) un off = own-off (is_thread_of s t u v) p Stopped d un (off refl)
stays-as s t p d (what.Block u v a io) un off = own-off (is_thread_of s t u v) p (Blocked io) d un (off refl)
stays-as s t p d (what.Unblock u v a) un off = ap (λ (own : Bool). if own then Returned else d) un
stays-as s t p d (what.Cont u v) un off = own-off (is_thread_of s t u v) p (Section p) d un (off refl)
stays-as s t p d (what.Back u v) un off = own-off (is_thread_of s t u v) p Hand d un (off refl)
stays-as s t p d (what.Ready u v) un off = ap (λ (own : Bool). if own then Ready else d) un
stays-as s t p d (what.Take u l v) un off = own-off (is_thread_of s t u v) p (at_list p d) d un (off refl)
stays-as s t p d (what.Free u l v) un off = own-off (is_thread_of s t u v) p (at_list p d) d un (off refl)
stays-as s t p d (what.Up u a) un off = left-off p d (off refl)
stays-as s t p d what.Idle un off = left-off p d (off refl)
stays-as s t p d other un off = refl

-- the thread that was on the processor, which the record does not name, is the one that it stops
left-is : (n : ℕ) (number was : Option ℕ) → was ≡ Some n → is_number n number ≡ false → is_number n (other_than number was) ≡ true
left-is n number was is un =
    ap (λ (w : Option ℕ). is_number n (other_than number w)) is
    ∙ ap (λ (b : Bool). is_number n (if b then None else Some n)) un ∙ eq-eqb n n refl

off-processor : (s : SpaceNo) (t : ThreadNo) (d : Doing) (on : ℕ → Option ℕ) (i : Item) → IsOn t d on → is_number t.0 (thread_in s i.what) ≡ false
    → is_number t.0 (left_by (Threads s) (thread_in s i.what) (on i.proc.0) i.what) ≡ false
    → clears i.what ≡ true → is_at i.proc d ≡ false
off-processor s t d on i fits un off clear =
    false_from_ne_true (is_at i.proc d) (λ at.
    let is : is_number t.0 (other_than (thread_in s i.what) (on i.proc.0)) ≡ true =
    left-is t.0 (thread_in s i.what) (on i.proc.0) (fits i.proc at) un in
    let no : is_number t.0 (other_than (thread_in s i.what) (on i.proc.0)) ≡ false =
    sym (ap (λ (b : Bool). is_number t.0 (if b then other_than (thread_in s i.what) (on i.proc.0) else None)) clear) ∙ off in
    false≢true (sym no ∙ is))

-- what a thread does after a record that names it
abbrev NextIs : ProcNo → Doing → Doing → Type 0
NextIs p d next = (q : ProcNo) → is_at q next ≡ true → (q.0 ≡ p.0) ⊎ (is_at q d ≡ true)

nowhere : (p : ProcNo) (d next : Doing) → ((q : ProcNo) → is_at q next ≡ false) → NextIs p d next
nowhere p d next off q at = absurd (false≢true (sym (off q) ∙ at))

here : (p : ProcNo) (d : Doing) → NextIs p d (Runs p)
here p d q at = inl (sym (eqb-true p.0 q.0 at))

at-list : (p : ProcNo) (d : Doing) → NextIs p d (at_list p d)
at-list p (Section r) q at = inr at
at-list p other q at = inl (sym (eqb-true p.0 q.0 at))

still-at : (p : ProcNo) (d : Doing) (q : ProcNo) → is_at q (left p d) ≡ true → (q.0 ≢ p.0) × (is_at q d ≡ true)
still-at p (Runs r) q at = (elim (cases_Bool (r.0 == p.0)) [
  | inl same ↦ absurd (false≢true (sym (ap (λ (b : Bool). is_at q (if b then Away else Runs r)) same) ∙ at))
  | inr apart ↦ let on : (r.0 == q.0) ≡ true = sym (ap (λ (b : Bool). is_at q (if b then Away else Runs r)) apart) ∙ at in
      ((λ e. false≢true (sym apart ∙ eq-eqb r.0 p.0 (eqb-true r.0 q.0 on ∙ e))), on)
])
still-at p (Section r) q at = (elim (cases_Bool (r.0 == p.0)) [
  | inl same ↦ absurd (false≢true (sym (ap (λ (b : Bool). is_at q (if b then Away else Section r)) same) ∙ at))
  | inr apart ↦ let on : (r.0 == q.0) ≡ true = sym (ap (λ (b : Bool). is_at q (if b then Away else Section r)) apart) ∙ at in
      ((λ e. false≢true (sym apart ∙ eq-eqb r.0 p.0 (eqb-true r.0 q.0 on ∙ e))), on)
])
still-at p other q at = absurd (false≢true at)

left-on : (t : ThreadNo) (p : ProcNo) (d : Doing) (on : ℕ → Option ℕ) (number : Option ℕ) → IsOn t d on → IsOn t (left p d) (put on p.0 number)
left-on t p d on number fits q at =
    let was = still-at p d q at in
    put-other on p.0 q.0 number was.0 ∙ fits q was.1

own-on : (t : ThreadNo) (p : ProcNo) (d next : Doing) (on : ℕ → Option ℕ) (number : Option ℕ) (own : Bool) → IsOn t d on → is_number t.0 number ≡ own
    → NextIs p d next → IsOn t (own_or_left own p next d) (put on p.0 number)
own-on t p d next on number false fits is nexts = left-on t p d on number fits
own-on t p d next on None true fits is nexts = absurd (false≢true is)
own-on t p d next on (Some m) true fits is nexts = λ q at. (elim (cases_eq q.0 p.0) [
  | inl same ↦ put-at on p.0 q.0 (Some m) same ∙ ap (λ (n : ℕ). Some n) (eqb-true m t.0 is)
  | inr apart ↦ (elim (nexts q at) [
    | inl same ↦ absurd (apart same)
    | inr was ↦ put-other on p.0 q.0 (Some m) apart ∙ fits q was
  ])
])

if-on : (t : ThreadNo) (d next : Doing) (on : ℕ → Option ℕ) (own : Bool) → ((q : ProcNo) → is_at q next ≡ false) → IsOn t d on
    → IsOn t (if own then next else d) on
if-on t d next on false off fits = fits
if-on t d next on true off fits = λ q at. absurd (false≢true (sym (off q) ∙ at))

-- after a record
stays-on : (s : SpaceNo) (t : ThreadNo) (p : ProcNo) (d : Doing) (on : ℕ → Option ℕ) (r : Record) → IsOn t d on
    → IsOn t (doing_by s t p d r) (if clears r then put on p.0 (thread_in s r) else on)
stays-on s t p d on (what.Ins u v i) fits =
    own-on t p d (Runs p) on (among s u (Some v)) (is_thread s t u v) fits (numbered-thread s t u v) (here p d)
stays-on s t p d on (what.Out u v n) fits =
    own-on t p d (Runs p) on (among s u (Some v)) (is_thread s t u v) fits (numbered-thread s t u v) (here p d)
stays-on s t p d on (what.Run u v) fits =
    own-on t p d (Runs p) on (among s u (Some v)) (is_thread s t u v) fits (numbered-thread s t u v) (here p d)
stays-on s t p d on (what.Stop u v a) fits =
    own-on t p d Stopped on (among s u v) (is_thread_of s t u v) fits (numbered-one s t u v) (nowhere p d Stopped (λ q. refl))
stays-on s t p d on (what.Block u v a io) fits =
    own-on t p d (Blocked io) on (among s u v) (is_thread_of s t u v) fits (numbered-one s t u v) (nowhere p d (Blocked io) (λ q. refl))
stays-on s t p d on (what.Cont u v) fits =
    own-on t p d (Section p) on (among s u v) (is_thread_of s t u v) fits (numbered-one s t u v) (here p d)
stays-on s t p d on (what.Back u v) fits =
    own-on t p d Hand on (among s u v) (is_thread_of s t u v) fits (numbered-one s t u v) (nowhere p d Hand (λ q. refl))
stays-on s t p d on (what.Take u l v) fits =
    own-on t p d (at_list p d) on (among s u v) (is_thread_of s t u v) fits (numbered-one s t u v) (at-list p d)
stays-on s t p d on (what.Free u l v) fits =
    own-on t p d (at_list p d) on (among s u v) (is_thread_of s t u v) fits (numbered-one s t u v) (at-list p d)
stays-on s t p d on (what.Up u a) fits = left-on t p d on None fits
stays-on s t p d on what.Idle fits = left-on t p d on None fits
stays-on s t p d on (what.Ready u v) fits = if-on t d Ready on (is_thread s t u v) (λ q. refl) fits
stays-on s t p d on (what.Unblock u v a) fits = if-on t d Returned on (is_thread_of s t u v) (λ q. refl) fits
stays-on s t p d on other fits = fits

-- LOCKS
holds-as : (s : SpaceNo) (l p : ProcNo) (h : Holder) (r : Record) → is_number l.0 (lock_in s r) ≡ false → holder_by s l p h r ≡ h
holds-as s l p h (what.Take u m t) off =
    ap (λ (b : Bool). if b then held p t else h) (sym (numbered-if l.0 m.0 (u.0 == s.0)) ∙ off)
holds-as s l p h (what.Free u m t) off =
    ap (λ (b : Bool). if b then Nobody else h) (sym (numbered-if l.0 m.0 (u.0 == s.0)) ∙ off)
holds-as s l p h other off = refl

-- COUNTS
demand-as : (s : SpaceNo) (y : Tally) (r : Record) → is_number 0 (count_in s r) ≡ false → demand_by s y r ≡ y
demand-as s y (what.Want u n) off =
    let next : Bool → Tally = λ b. if b then record { n = n; told = y.told; aims = y.aims } else y in
    ap next (unnumbered 0 (u.0 == s.0) off)
demand-as s y other off = refl

aimed-as : (s : SpaceNo) (y : Tally) (r : Record) → is_number 1 (count_in s r) ≡ false → aimed_by s y r ≡ y
aimed-as s y (what.Aim p u) off = absurd (false≢true (sym off))
aimed-as s y other off = refl

owned-as : (s : SpaceNo) (y : Tally) (r : Record) → is_number 2 (count_in s r) ≡ false → owned_by s y r ≡ y
owned-as s y (what.Move o n) off = absurd (false≢true (sym off))
owned-as s y other off = refl

ready-as : (s : SpaceNo) (y : Tally) (r : Record) → is_number 3 (count_in s r) ≡ false → ready_by s y r ≡ y
ready-as s y (what.Ready u t) off = ap (λ (b : Bool). more_if b y) (unnumbered 3 (u.0 == s.0) off)
ready-as s y (what.Run u t) off = ap (λ (b : Bool). less_if b y) (unnumbered 3 (u.0 == s.0) off)
ready-as s y other off = refl

untold-as : (s : SpaceNo) (y : Tally) (r : Record) → is_number 4 (count_in s r) ≡ false → untold_by s y r ≡ y
untold-as s y (what.Up u a) off = absurd (false≢true (sym off))
untold-as s y (what.Told note) off = absurd (false≢true (sym off))
untold-as s y (what.Stop u t a) off = ap (λ (b : Bool). more_if b y) (unnumbered 4 (u.0 == s.0) off)
untold-as s y (what.Block u t a io) off = ap (λ (b : Bool). more_if b y) (unnumbered 4 (u.0 == s.0) off)
untold-as s y (what.Unblock u t a) off = ap (λ (b : Bool). more_if b y) (unnumbered 4 (u.0 == s.0) off)
untold-as s y other off = refl

counts-as : (s : SpaceNo) (c : Count) (y : Tally) (r : Record) → is_number (number_of (track.Count s c)) (count_in s r) ≡ false → tally_by s c y r ≡ y
counts-as s count.Demand y r off = demand-as s y r off
counts-as s count.Aimed y r off = aimed-as s y r off
counts-as s count.Owned y r off = owned-as s y r off
counts-as s count.Ready y r off = ready-as s y r off
counts-as s count.Untold y r off = untold-as s y r off

-- TRACKS. What is known of a track's state.
abbrev pub Fits : Track → State → (ℕ → Option ℕ) → Type 0
Fits (track.Thread s t) (state.Doing d) on = IsOn t d on
Fits t v on = Unit {0}

pub fits-start : (t : Track) → Fits t (start t) nobody
fits-start (track.Thread s t) = λ q at. absurd (false≢true at)
fits-start (track.Processor p level) = tt
fits-start (track.Lock s l) = tt
fits-start (track.Count s c) = tt

pub fits-after : (t : Track) (v : State) (on : ℕ → Option ℕ) (i : Item) → Fits t v on → Fits t (after t v i) (on_after (group_of t) on i)
fits-after (track.Thread s t) (state.Doing d) on i fits = stays-on s t i.proc d on i.what fits
fits-after (track.Thread s t) other on i fits = tt
fits-after (track.Processor p level) (state.Context c) on i fits = tt
fits-after (track.Processor p level) other on i fits = tt
fits-after (track.Lock s l) (state.Holder h) on i fits = tt
fits-after (track.Lock s l) other on i fits = tt
fits-after (track.Count s c) (state.Tally y) on i fits = tt
fits-after (track.Count s c) other on i fits = tt

-- the item leaves the state as it is, and adds no line
pub record Passes (t : Track) (v : State) (i : Item) : Type 0 where
  pub state : after t v i ≡ v
  pub line : line_if t i ≡ []

pub unnamed : (s : SpaceNo) (t : ThreadNo) (on : ℕ → Option ℕ) (i : Item) → touches (Threads s) t.0 on i ≡ false → names_thread s t i.what ≡ false
unnamed s t on i off =
    let parts = or_parts (is_number t.0 (thread_in s i.what)) (is_number t.0 (left_by (Threads s) (thread_in s i.what) (on i.proc.0) i.what)) off in
    sym (names-is s t i.what) ∙ parts.0

thread-stays : (s : SpaceNo) (t : ThreadNo) (d : Doing) (on : ℕ → Option ℕ) (i : Item) → IsOn t d on → touches (Threads s) t.0 on i ≡ false
    → doing_by s t i.proc d i.what ≡ d
thread-stays s t d on i fits off =
    let parts = or_parts (is_number t.0 (thread_in s i.what)) (is_number t.0 (left_by (Threads s) (thread_in s i.what) (on i.proc.0) i.what)) off in
    stays-as s t i.proc d i.what (unnamed s t on i off) (off-processor s t d on i fits parts.0 parts.1)

thread-line : (s : SpaceNo) (t : ThreadNo) (on : ℕ → Option ℕ) (i : Item) → touches (Threads s) t.0 on i ≡ false → line_if (track.Thread s t) i ≡ []
thread-line s t on i off = ap (λ (b : Bool). if b then codes "," ++ quoted i else []) (unnamed s t on i off)

elsewhere : (p : ProcNo) (on : ℕ → Option ℕ) (i : Item) → touches Lanes p.0 on i ≡ false → (i.proc.0 == p.0) ≡ false
elsewhere p on i off = let parts = or_parts (i.proc.0 == p.0) false off in parts.0

lane-line : (p : ProcNo) (level : Level) (on : ℕ → Option ℕ) (i : Item) → touches Lanes p.0 on i ≡ false → line_if (track.Processor p level) i ≡ []
lane-line p Owner on i off = refl
lane-line p Activation on i off = refl
lane-line p Work on i off = ap (λ (b : Bool). if b then codes "," ++ quoted i else []) (elsewhere p on i off)

pub passes : (t : Track) (v : State) (on : ℕ → Option ℕ) (i : Item) → Fits t v on → touches (group_of t) (number_of t) on i ≡ false → Passes t v i
passes (track.Thread s t) (state.Doing d) on i fits off =
    record { state = ap (λ (x : Doing). state.Doing x) (thread-stays s t d on i fits off); line = thread-line s t on i off }
passes (track.Thread s t) other on i fits off = record { state = refl; line = thread-line s t on i off }
passes (track.Processor p level) (state.Context c) on i fits off =
    let next : Bool → State = λ b. state.Context (if b then record { look = look_after c.look i.what; act = act_after c.act i.what } else c) in
    record { state = ap next (elsewhere p on i off); line = lane-line p level on i off }
passes (track.Processor p level) other on i fits off = record { state = refl; line = lane-line p level on i off }
passes (track.Lock s l) (state.Holder h) on i fits off =
    let parts = or_parts (is_number l.0 (lock_in s i.what)) false off in
    record { state = ap (λ (x : Holder). state.Holder x) (holds-as s l i.proc h i.what parts.0); line = refl }
passes (track.Lock s l) other on i fits off = record { state = refl; line = refl }
passes (track.Count s c) (state.Tally y) on i fits off =
    let parts = or_parts (is_number (number_of (track.Count s c)) (count_in s i.what)) false off in
    record { state = ap (λ (x : Tally). state.Tally x) (counts-as s c y i.what parts.0); line = refl }
passes (track.Count s c) other on i fits off = record { state = refl; line = refl }
