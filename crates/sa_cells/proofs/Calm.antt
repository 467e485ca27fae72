-- A thread that no record of an event reaches stays.
use Rattle.std.proofs.Common.{◌≡◌, ◌≢◌, ℕ, ◌-◌, ◌==◌, Bool, true, false, not, ◌&&◌, if◌then◌else◌, List, [], ◌∷◌, length, nat_lt, slice_index_or, codes, Option, Some, None, refl, sym, ◌∙◌, ap, true≢false, get_or-set_other, length-set}
use Rattle.std.proofs.lemmas.Bool.{or_parts, and_parts, eqb-false, false≢true}
use Rattle.std.specs.List.{list_any}
use Rattle.sa_base.specs.declared.number.ProcNo.{ProcNo}
use Rattle.sa_base.specs.declared.number.SpaceNo.{SpaceNo}
use Rattle.sa_base.specs.declared.number.ThreadNo.{ThreadNo}
use Rattle.sa_base.specs.declared.record.Record.{Record}
use Rattle.sa_base.specs.declared.record.Record.TheVariants as the
use Rattle.sa_instr.specs.declared.instr.Instr.{Instr}
use Rattle.sa_instr.specs.declared.instr.Instr.TheVariants as instr
use Rattle.sa_instr.specs.Local.{instr_at}
use Rattle.sa_spaces.specs.Workload.{WorkloadView}
use Rattle.sa_sync.specs.Sync.{Sync, waits_of}
use Rattle.sa_laws.specs.declared.place.Place.{Place}
use Rattle.sa_laws.specs.declared.place.Place.TheVariants.{Running, Ready, Blocked, Carried}
use Rattle.sa_laws.specs.State.{Thread, State, SpaceState, no_threads, space_at, space_def, thread_in, thread_at, put_thread, with_space, placed_if, next_instr, with_thread, is_waiting}
use Rattle.sa_laws.specs.Effect.{effect_of}
use Rattle.sa_laws.specs.Machine.{next_effect}
use Rattle.sa_laws.specs.Event.{Event}
use Rattle.sa_laws.specs.Readings.{Readings}
use Rattle.sa_laws.specs.Record.{after_record, is_thread}
use Rattle.sa_laws.specs.History.{event_begun, after_records, after_event}
use Rattle.sa_laws.proofs.Spaces.{space-elsewhere}
use Rattle.sa_check_moment.specs.Seen.{Seen}
use Rattle.sa_cells.specs.Thread.{waiting_text, standing_text, thread_text}
use Rattle.sa_cells.specs.Stays.{IsAfter, is_ins, is_calm, is_calm_instr, are_calm, if_of, reaches}
use Rattle.sa_cells.proofs.Kept.{apart, set-like, kept, spaces-stay}

-- what the text of a thread is made of, in its space
record Standing : Type 0 where
  thread : Thread
  made : ℕ
  sync : Sync

abbrev standing_in : ThreadNo → SpaceState → Standing
standing_in t x = record { thread = thread_in x t; made = length x.threads; sync = x.sync }

abbrev standing : SpaceNo → ThreadNo → Readings → Standing
standing s t r = standing_in t (space_at r.state s)

abbrev standing_by : WorkloadView → SpaceNo → ThreadNo → ℕ → Standing → List ℕ
standing_by w s t n x =
    if nat_lt s.0 n && nat_lt t.0 x.made
    then (if is_waiting x.thread.place && not (is_waiting x.thread.place && waits_of x.sync t.0 == 0)
    then waiting_text x.sync (instr_at (slice_index_or (space_def w s).programs x.thread.program []) (x.thread.pc - 1))
    else standing_text x.thread.place x.thread.pc (instr_at (slice_index_or (space_def w s).programs x.thread.program []) x.thread.pc))
    else codes "-"

text-by : (w : WorkloadView) (a : State) (s : SpaceNo) (t : ThreadNo) → thread_text w a s t ≡ standing_by w s t (length a.spaces) (standing_in t (space_at a s))
text-by w a s t = refl

-- a thread of the space is another one, and nothing else changes
other-thread : (x : SpaceState) (t v : ThreadNo) (y : Thread) → t.0 ≢ v.0 → standing_in t (with_thread x v y) ≡ standing_in t x
other-thread x t v y un =
    ap (λ (z : Thread). record { thread = z; made = length (with_thread x v y).threads; sync = x.sync }) (get_or-set_other x.threads v.0 t.0 y _ un)
    ∙ ap (λ (n : ℕ). record { thread = thread_in x t; made = n; sync = x.sync }) (length-set x.threads v.0 y)

unlike : (t v : ThreadNo) → is_thread t (Some v) ≡ false → t.0 ≢ v.0
unlike t v un = eqb-false t.0 v.0 un

-- a record of another thread, or of another space
by-space : (a : State) (s u : SpaceNo) (t v : ThreadNo) (x : SpaceState) (b : Bool) → (u.0 == s.0) ≡ b → is_thread t (if b then Some v else None) ≡ false
    → (t.0 ≢ v.0 → standing_in t x ≡ standing_in t (space_at a u)) → standing_in t (space_at (with_space a u x) s) ≡ standing_in t (space_at a s)
by-space a s u t v x true is un same = set-like (standing_in t) a.spaces u.0 s.0 x no_threads (same (unlike t v un))
by-space a s u t v x false is un same = ap (standing_in t) (space-elsewhere a u s x (apart u.0 s.0 is))

put-stays : (s : SpaceNo) (t : ThreadNo) (a : State) (u : SpaceNo) (v : ThreadNo) (place : Place) → is_thread t (if_of s u (Some v)) ≡ false
    → standing_in t (space_at (placed_if a u (Some v) place) s) ≡ standing_in t (space_at a s)
put-stays s t a u v place un =
    by-space a s u t v (put_thread place (space_at a u) v) (u.0 == s.0) refl un
    (λ apart. other-thread (space_at a u) t v (record (thread_in (space_at a u) v) { place = place }) apart)

place-stays : (s : SpaceNo) (t : ThreadNo) (a : State) (u : SpaceNo) (v : Option ThreadNo) (place : Place) → is_thread t (if_of s u v) ≡ false
    → standing_in t (space_at (placed_if a u v place) s) ≡ standing_in t (space_at a s)
place-stays s t a u None place un = refl
place-stays s t a u (Some v) place un = put-stays s t a u v place un

-- an instruction that is not calm, of another space
ins-elsewhere : (a : State) (s u : SpaceNo) (t v : ThreadNo) (x : SpaceState) (b : Bool) → (u.0 == s.0) ≡ b
    → (if b && not false then true else is_thread t (if b then Some v else None)) ≡ false → standing_in t (space_at (with_space a u x) s) ≡ standing_in t (space_at a s)
ins-elsewhere a s u t v x true is un = absurd (true≢false un)
ins-elsewhere a s u t v x false is un = ap (standing_in t) (space-elsewhere a u s x (apart u.0 s.0 is))

standing-stays : (s : SpaceNo) (t : ThreadNo) (w : WorkloadView) (e : ℕ) (p : ProcNo) (r : Readings) (x : Record) → reaches false s t x ≡ false
    → standing s t (after_record w e p r x) ≡ standing s t r
standing-stays s t w e p r (the.Ins u v i) un = ins-elsewhere r.state s u t v (next_effect w r.state u v).space (u.0 == s.0) refl un
standing-stays s t w e p r (the.Out u v n) un = refl
standing-stays s t w e p r (the.Run u v) un = put-stays s t r.state u v (Running p) un
standing-stays s t w e p r (the.Stop u v a) un = place-stays s t r.state u v Carried un
standing-stays s t w e p r (the.Block u v a io) un = place-stays s t r.state u v Blocked un
standing-stays s t w e p r (the.Unblock u v a) un = place-stays s t r.state u v Carried un
standing-stays s t w e p r (the.Cont u v) un = place-stays s t r.state u v (Running p) un
standing-stays s t w e p r (the.Back u v) un = place-stays s t r.state u v Carried un
standing-stays s t w e p r (the.Ready u v) un = put-stays s t r.state u v Ready un
standing-stays s t w e p r (the.Take u l v) un = refl
standing-stays s t w e p r (the.Free u l v) un = refl
standing-stays s t w e p r (the.Up u a) un = refl
standing-stays s t w e p r (the.Told note) un = refl
standing-stays s t w e p r (the.Move old new) un = refl
standing-stays s t w e p r (the.Want u n) un = refl
standing-stays s t w e p r (the.Aim q u) un = refl
standing-stays s t w e p r (the.Line q) un = refl
standing-stays s t w e p r (the.Fetch u) un = refl
standing-stays s t w e p r (the.Fetched u) un = refl
standing-stays s t w e p r (the.GiveBack a) un = refl
standing-stays s t w e p r the.Idle un = refl
standing-stays s t w e p r (the.Spin l) un = refl
standing-stays s t w e p r the.Tick un = refl

-- a calm instruction changes its own thread alone
calm-effect : (x : SpaceState) (t v : ThreadNo) (thread : Thread) (i : Instr) → is_calm_instr i ≡ true → t.0 ≢ v.0
    → standing_in t (effect_of x v thread i).space ≡ standing_in t x
calm-effect x t v thread instr.Compute calm un = other-thread x t v _ un
calm-effect x t v thread (instr.Set k n) calm un = other-thread x t v _ un
calm-effect x t v thread (instr.Add k n) calm un = other-thread x t v _ un
calm-effect x t v thread (instr.Sub k n) calm un = other-thread x t v _ un
calm-effect x t v thread (instr.Jnz k n) calm un = other-thread x t v _ un
calm-effect x t v thread (instr.Load k n) calm un = other-thread x t v _ un
calm-effect x t v thread (instr.Store k n) calm un = absurd (false≢true calm)
calm-effect x t v thread (instr.Out k) calm un = other-thread x t v _ un
calm-effect x t v thread (instr.Fork k n) calm un = absurd (false≢true calm)
calm-effect x t v thread (instr.Join k) calm un = absurd (false≢true calm)
calm-effect x t v thread (instr.Lock k) calm un = absurd (false≢true calm)
calm-effect x t v thread (instr.Unlock k) calm un = absurd (false≢true calm)
calm-effect x t v thread (instr.Wait k) calm un = absurd (false≢true calm)
calm-effect x t v thread (instr.Signal k) calm un = absurd (false≢true calm)
calm-effect x t v thread (instr.Io k) calm un = other-thread x t v _ un
calm-effect x t v thread (instr.Touch k) calm un = other-thread x t v _ un
calm-effect x t v thread instr.End calm un = absurd (false≢true calm)

-- the first record of a calm event
unreached : (b c : Bool) → (if b && not true then true else c) ≡ false → c ≡ false
unreached true c un = un
unreached false c un = un

first-stays : (s : SpaceNo) (t : ThreadNo) (w : WorkloadView) (e : ℕ) (p : ProcNo) (r : Readings) (x : Record) → is_calm w r.state x ≡ true
    → reaches true s t x ≡ false → standing s t (after_record w e p r x) ≡ standing s t r
first-stays s t w e p r (the.Ins u v i) calm un =
    by-space r.state s u t v (next_effect w r.state u v).space (u.0 == s.0) refl (unreached (u.0 == s.0) (is_thread t (if_of s u (Some v))) un)
    (λ apart. calm-effect (space_at r.state u) t v (thread_at r.state u v) (next_instr w r.state u v) calm apart)
first-stays s t w e p r (the.Out u v n) calm un = refl
first-stays s t w e p r (the.Run u v) calm un = put-stays s t r.state u v (Running p) un
first-stays s t w e p r (the.Stop u v a) calm un = place-stays s t r.state u v Carried un
first-stays s t w e p r (the.Block u v a io) calm un = place-stays s t r.state u v Blocked un
first-stays s t w e p r (the.Unblock u v a) calm un = place-stays s t r.state u v Carried un
first-stays s t w e p r (the.Cont u v) calm un = place-stays s t r.state u v (Running p) un
first-stays s t w e p r (the.Back u v) calm un = place-stays s t r.state u v Carried un
first-stays s t w e p r (the.Ready u v) calm un = put-stays s t r.state u v Ready un
first-stays s t w e p r (the.Take u l v) calm un = refl
first-stays s t w e p r (the.Free u l v) calm un = refl
first-stays s t w e p r (the.Up u a) calm un = refl
first-stays s t w e p r (the.Told note) calm un = refl
first-stays s t w e p r (the.Move old new) calm un = refl
first-stays s t w e p r (the.Want u n) calm un = refl
first-stays s t w e p r (the.Aim q u) calm un = refl
first-stays s t w e p r (the.Line q) calm un = refl
first-stays s t w e p r (the.Fetch u) calm un = refl
first-stays s t w e p r (the.Fetched u) calm un = refl
first-stays s t w e p r (the.GiveBack a) calm un = refl
first-stays s t w e p r the.Idle calm un = refl
first-stays s t w e p r (the.Spin l) calm un = refl
first-stays s t w e p r the.Tick calm un = refl

-- the others, of which none is of an instruction
is-calm : (w : WorkloadView) (a : State) (x : Record) → is_ins x ≡ false → is_calm w a x ≡ true
is-calm w a (the.Ins u v i) un = absurd (true≢false un)
is-calm w a (the.Out u v n) un = refl
is-calm w a (the.Run u v) un = refl
is-calm w a (the.Stop u v act) un = refl
is-calm w a (the.Block u v act io) un = refl
is-calm w a (the.Unblock u v act) un = refl
is-calm w a (the.Cont u v) un = refl
is-calm w a (the.Back u v) un = refl
is-calm w a (the.Ready u v) un = refl
is-calm w a (the.Take u l v) un = refl
is-calm w a (the.Free u l v) un = refl
is-calm w a (the.Up u act) un = refl
is-calm w a (the.Told note) un = refl
is-calm w a (the.Move old new) un = refl
is-calm w a (the.Want u n) un = refl
is-calm w a (the.Aim q u) un = refl
is-calm w a (the.Line q) un = refl
is-calm w a (the.Fetch u) un = refl
is-calm w a (the.Fetched u) un = refl
is-calm w a (the.GiveBack act) un = refl
is-calm w a the.Idle un = refl
is-calm w a (the.Spin l) un = refl
is-calm w a the.Tick un = refl

rest-stays : (s : SpaceNo) (t : ThreadNo) (w : WorkloadView) (e : ℕ) (p : ProcNo) (r : Readings) (records : List Record) → list_any is_ins records ≡ false
    → list_any (reaches true s t) records ≡ false → standing s t (after_records w e p r records) ≡ standing s t r
rest-stays s t w e p r [] none un = refl
rest-stays s t w e p r (x ∷ xs) none un =
    let no = or_parts (is_ins x) (list_any is_ins xs) none in
    let not = or_parts (reaches true s t x) (list_any (reaches true s t) xs) un in
    rest-stays s t w e p (after_record w e p r x) xs no.1 not.1 ∙ first-stays s t w e p r x (is-calm w r.state x no.0) not.0

negated : (b : Bool) → not b ≡ true → b ≡ false
negated true h = absurd (false≢true h)
negated false h = refl

all-stay : (s : SpaceNo) (t : ThreadNo) (w : WorkloadView) (e : ℕ) (p : ProcNo) (r : Readings) (records : List Record) (calm : Bool)
    → calm ≡ are_calm w r.state records → list_any (reaches calm s t) records ≡ false → standing s t (after_records w e p r records) ≡ standing s t r
all-stay s t w e p r records false is un = kept (standing s t) (reaches false s t) w e p (standing-stays s t w e p) r records un
all-stay s t w e p r [] true is un = refl
all-stay s t w e p r (x ∷ xs) true is un =
    let both = and_parts (is_calm w r.state x) (not (list_any is_ins xs)) (sym is) in
    let not = or_parts (reaches true s t x) (list_any (reaches true s t) xs) un in
    rest-stays s t w e p (after_record w e p r x) xs (negated (list_any is_ins xs) both.1) not.1 ∙ first-stays s t w e p r x both.0 not.0

-- its text
pub unreached-stays : (m n : Seen) (e : Event) (s : SpaceNo) (t : ThreadNo) (calm : Bool) → IsAfter m n e → calm ≡ are_calm m.workload m.readings.state e.records
    → list_any (reaches calm s t) e.records ≡ false → thread_text m.workload m.readings.state s t ≡ thread_text n.workload n.readings.state s t
unreached-stays m n e s t calm after is un =
    let w = m.workload in
    let begun = event_begun w e m.readings in
    let later = after_event after.test w m.readings e in
    let spaces = kept (λ (r : Readings). length r.state.spaces) (reaches calm s t) w e.number e.proc (λ r x un. spaces-stay w e.number e.proc r x) begun e.records un in
    let same = all-stay s t w e.number e.proc begun e.records calm is un in
    text-by w m.readings.state s t
    ∙ sym (ap (λ (n : ℕ). standing_by w s t n (standing s t later)) spaces ∙ ap (λ (x : Standing). standing_by w s t (length m.readings.state.spaces) x) same)
    ∙ sym (text-by w later.state s t)
    ∙ sym (ap (λ (x : Seen). thread_text x.workload x.readings.state s t) after.is)
