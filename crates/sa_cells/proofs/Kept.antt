-- What no record of an event changes is after it what it was before.
use Rattle.std.proofs.Common.{◌≡◌, ◌≢◌, ℕ, zero, suc, ◌==◌, Bool, false, List, [], ◌∷◌, length, Option, Some, None, get_or, set, refl, sym, ◌∙◌, ap, true≢false, get_or-set_other, length-set}
use Rattle.std.proofs.lemmas.Bool.{or_parts, eqb-false}
use Rattle.std.specs.List.{list_any}
use Rattle.sa_base.specs.declared.number.ProcNo.{ProcNo}
use Rattle.sa_base.specs.declared.number.SpaceNo.{SpaceNo}
use Rattle.sa_base.specs.declared.number.ThreadNo.{ThreadNo}
use Rattle.sa_base.specs.declared.record.Record.{Record}
use Rattle.sa_base.specs.declared.record.Record.TheVariants as the
use Rattle.sa_spaces.specs.Workload.{WorkloadView}
use Rattle.sa_laws.specs.declared.place.Place.{Place}
use Rattle.sa_laws.specs.declared.place.Place.TheVariants.{Running, Ready, Blocked, Carried}
use Rattle.sa_laws.specs.State.{State, SpaceState, no_threads, space_at, put_thread, placed, placed_if}
use Rattle.sa_laws.specs.Readings.{Readings, ready_of}
use Rattle.sa_laws.specs.Record.{after_record}
use Rattle.sa_laws.specs.History.{after_records}
use Rattle.sa_laws.proofs.Spaces.{placed-owners, space-elsewhere, placed-elsewhere}
use Rattle.sa_cells.specs.Stays.{is_move, is_aim, is_want, is_switch, is_news, is_listing, is_instr, is_threads}

-- record by record
pub kept : {X : Type 0} (f : Readings → X) (touches : Record → Bool) (w : WorkloadView) (e : ℕ) (p : ProcNo)
    → ((r : Readings) (x : Record) → touches x ≡ false → f (after_record w e p r x) ≡ f r)
    → (r : Readings) (records : List Record) → list_any touches records ≡ false → f (after_records w e p r records) ≡ f r
kept f touches w e p one r [] none = refl
kept f touches w e p one r (x ∷ xs) none =
    let both = or_parts (touches x) (list_any touches xs) none in
    kept f touches w e p one (after_record w e p r x) xs both.1 ∙ one r x both.0

pub apart : (m n : ℕ) → (m == n) ≡ false → n ≢ m
apart m n un same = eqb-false m n un (sym same)

-- a place of a list gets what has the same of something
pub set-like : {A B : Type 0} (f : A → B) (xs : List A) (i j : ℕ) (y d : A) → f y ≡ f (get_or xs i d) → f (get_or (set xs i y) j d) ≡ f (get_or xs j d)
set-like f [] i j y d same = refl
set-like f (x ∷ xs) zero zero y d same = same
set-like f (x ∷ xs) zero (suc j) y d same = refl
set-like f (x ∷ xs) (suc i) zero y d same = refl
set-like f (x ∷ xs) (suc i) (suc j) y d same = set-like f xs i j y d same

-- owners, aims, what runs, demands, what is untold

pub owners-stay : (w : WorkloadView) (e : ℕ) (p : ProcNo) (r : Readings) (x : Record) → is_move x ≡ false → (after_record w e p r x).state.owners ≡ r.state.owners
owners-stay w e p r (the.Ins u t i) un = refl
owners-stay w e p r (the.Out u t n) un = refl
owners-stay w e p r (the.Run u t) un = refl
owners-stay w e p r (the.Stop u t a) un = placed-owners r.state u t Carried
owners-stay w e p r (the.Block u t a io) un = placed-owners r.state u t Blocked
owners-stay w e p r (the.Unblock u t a) un = placed-owners r.state u t Carried
owners-stay w e p r (the.Cont u t) un = placed-owners r.state u t (Running p)
owners-stay w e p r (the.Back u t) un = placed-owners r.state u t Carried
owners-stay w e p r (the.Ready u t) un = refl
owners-stay w e p r (the.Take u l t) un = refl
owners-stay w e p r (the.Free u l t) un = refl
owners-stay w e p r (the.Up u a) un = refl
owners-stay w e p r (the.Told note) un = refl
owners-stay w e p r (the.Move old new) un = absurd (true≢false un)
owners-stay w e p r (the.Want u n) un = refl
owners-stay w e p r (the.Aim q u) un = refl
owners-stay w e p r (the.Line q) un = refl
owners-stay w e p r (the.Fetch u) un = refl
owners-stay w e p r (the.Fetched u) un = refl
owners-stay w e p r (the.GiveBack a) un = refl
owners-stay w e p r the.Idle un = refl
owners-stay w e p r (the.Spin l) un = refl
owners-stay w e p r the.Tick un = refl

pub aims-stay : (w : WorkloadView) (e : ℕ) (p : ProcNo) (r : Readings) (x : Record) → is_aim x ≡ false → (after_record w e p r x).aims ≡ r.aims
aims-stay w e p r (the.Ins u t i) un = refl
aims-stay w e p r (the.Out u t n) un = refl
aims-stay w e p r (the.Run u t) un = refl
aims-stay w e p r (the.Stop u t a) un = refl
aims-stay w e p r (the.Block u t a io) un = refl
aims-stay w e p r (the.Unblock u t a) un = refl
aims-stay w e p r (the.Cont u t) un = refl
aims-stay w e p r (the.Back u t) un = refl
aims-stay w e p r (the.Ready u t) un = refl
aims-stay w e p r (the.Take u l t) un = refl
aims-stay w e p r (the.Free u l t) un = refl
aims-stay w e p r (the.Up u a) un = refl
aims-stay w e p r (the.Told note) un = refl
aims-stay w e p r (the.Move old new) un = refl
aims-stay w e p r (the.Want u n) un = refl
aims-stay w e p r (the.Aim q u) un = absurd (true≢false un)
aims-stay w e p r (the.Line q) un = refl
aims-stay w e p r (the.Fetch u) un = refl
aims-stay w e p r (the.Fetched u) un = refl
aims-stay w e p r (the.GiveBack a) un = refl
aims-stay w e p r the.Idle un = refl
aims-stay w e p r (the.Spin l) un = refl
aims-stay w e p r the.Tick un = refl

pub running-stays : (w : WorkloadView) (e : ℕ) (p : ProcNo) (r : Readings) (x : Record) → is_switch x ≡ false → (after_record w e p r x).running ≡ r.running
running-stays w e p r (the.Ins u t i) un = refl
running-stays w e p r (the.Out u t n) un = refl
running-stays w e p r (the.Run u t) un = refl
running-stays w e p r (the.Stop u t a) un = absurd (true≢false un)
running-stays w e p r (the.Block u t a io) un = absurd (true≢false un)
running-stays w e p r (the.Unblock u t a) un = refl
running-stays w e p r (the.Cont u t) un = refl
running-stays w e p r (the.Back u t) un = refl
running-stays w e p r (the.Ready u t) un = refl
running-stays w e p r (the.Take u l t) un = refl
running-stays w e p r (the.Free u l t) un = refl
running-stays w e p r (the.Up u a) un = absurd (true≢false un)
running-stays w e p r (the.Told note) un = refl
running-stays w e p r (the.Move old new) un = refl
running-stays w e p r (the.Want u n) un = refl
running-stays w e p r (the.Aim q u) un = refl
running-stays w e p r (the.Line q) un = refl
running-stays w e p r (the.Fetch u) un = refl
running-stays w e p r (the.Fetched u) un = refl
running-stays w e p r (the.GiveBack a) un = refl
running-stays w e p r the.Idle un = refl
running-stays w e p r (the.Spin l) un = refl
running-stays w e p r the.Tick un = refl

pub demands-stay : (w : WorkloadView) (e : ℕ) (p : ProcNo) (r : Readings) (x : Record) → is_want x ≡ false → (after_record w e p r x).demands ≡ r.demands
demands-stay w e p r (the.Ins u t i) un = refl
demands-stay w e p r (the.Out u t n) un = refl
demands-stay w e p r (the.Run u t) un = refl
demands-stay w e p r (the.Stop u t a) un = refl
demands-stay w e p r (the.Block u t a io) un = refl
demands-stay w e p r (the.Unblock u t a) un = refl
demands-stay w e p r (the.Cont u t) un = refl
demands-stay w e p r (the.Back u t) un = refl
demands-stay w e p r (the.Ready u t) un = refl
demands-stay w e p r (the.Take u l t) un = refl
demands-stay w e p r (the.Free u l t) un = refl
demands-stay w e p r (the.Up u a) un = refl
demands-stay w e p r (the.Told note) un = refl
demands-stay w e p r (the.Move old new) un = refl
demands-stay w e p r (the.Want u n) un = absurd (true≢false un)
demands-stay w e p r (the.Aim q u) un = refl
demands-stay w e p r (the.Line q) un = refl
demands-stay w e p r (the.Fetch u) un = refl
demands-stay w e p r (the.Fetched u) un = refl
demands-stay w e p r (the.GiveBack a) un = refl
demands-stay w e p r the.Idle un = refl
demands-stay w e p r (the.Spin l) un = refl
demands-stay w e p r the.Tick un = refl

pub untold-stays : (w : WorkloadView) (e : ℕ) (p : ProcNo) (r : Readings) (x : Record) → is_news x ≡ false → (after_record w e p r x).untold ≡ r.untold
untold-stays w e p r (the.Ins u t i) un = refl
untold-stays w e p r (the.Out u t n) un = refl
untold-stays w e p r (the.Run u t) un = refl
untold-stays w e p r (the.Stop u t a) un = absurd (true≢false un)
untold-stays w e p r (the.Block u t a io) un = absurd (true≢false un)
untold-stays w e p r (the.Unblock u t a) un = absurd (true≢false un)
untold-stays w e p r (the.Cont u t) un = refl
untold-stays w e p r (the.Back u t) un = refl
untold-stays w e p r (the.Ready u t) un = refl
untold-stays w e p r (the.Take u l t) un = refl
untold-stays w e p r (the.Free u l t) un = refl
untold-stays w e p r (the.Up u a) un = refl
untold-stays w e p r (the.Told note) un = absurd (true≢false un)
untold-stays w e p r (the.Move old new) un = refl
untold-stays w e p r (the.Want u n) un = refl
untold-stays w e p r (the.Aim q u) un = refl
untold-stays w e p r (the.Line q) un = refl
untold-stays w e p r (the.Fetch u) un = refl
untold-stays w e p r (the.Fetched u) un = refl
untold-stays w e p r (the.GiveBack a) un = refl
untold-stays w e p r the.Idle un = refl
untold-stays w e p r (the.Spin l) un = refl
untold-stays w e p r the.Tick un = refl

-- the ready list of a space

pub ready-stays : (s : SpaceNo) (w : WorkloadView) (e : ℕ) (p : ProcNo) (r : Readings) (x : Record) → is_listing s x ≡ false → ready_of (after_record w e p r x) s ≡ ready_of r s
ready-stays s w e p r (the.Ins u t i) un = refl
ready-stays s w e p r (the.Out u t n) un = refl
ready-stays s w e p r (the.Run u t) un = get_or-set_other r.ready u.0 s.0 _ _ (apart u.0 s.0 un)
ready-stays s w e p r (the.Stop u t a) un = refl
ready-stays s w e p r (the.Block u t a io) un = refl
ready-stays s w e p r (the.Unblock u t a) un = refl
ready-stays s w e p r (the.Cont u t) un = refl
ready-stays s w e p r (the.Back u t) un = refl
ready-stays s w e p r (the.Ready u t) un = get_or-set_other r.ready u.0 s.0 _ _ (apart u.0 s.0 un)
ready-stays s w e p r (the.Take u l t) un = refl
ready-stays s w e p r (the.Free u l t) un = refl
ready-stays s w e p r (the.Up u a) un = refl
ready-stays s w e p r (the.Told note) un = refl
ready-stays s w e p r (the.Move old new) un = refl
ready-stays s w e p r (the.Want u n) un = refl
ready-stays s w e p r (the.Aim q u) un = refl
ready-stays s w e p r (the.Line q) un = refl
ready-stays s w e p r (the.Fetch u) un = refl
ready-stays s w e p r (the.Fetched u) un = refl
ready-stays s w e p r (the.GiveBack a) un = refl
ready-stays s w e p r the.Idle un = refl
ready-stays s w e p r (the.Spin l) un = refl
ready-stays s w e p r the.Tick un = refl

-- a space and its threads

pub space-stays : (s : SpaceNo) (w : WorkloadView) (e : ℕ) (p : ProcNo) (r : Readings) (x : Record) → is_threads s x ≡ false → space_at (after_record w e p r x).state s ≡ space_at r.state s
space-stays s w e p r (the.Ins u t i) un = space-elsewhere r.state u s _ (apart u.0 s.0 un)
space-stays s w e p r (the.Out u t n) un = refl
space-stays s w e p r (the.Run u t) un = space-elsewhere r.state u s _ (apart u.0 s.0 un)
space-stays s w e p r (the.Stop u t a) un = placed-elsewhere r.state u s t Carried (apart u.0 s.0 un)
space-stays s w e p r (the.Block u t a io) un = placed-elsewhere r.state u s t Blocked (apart u.0 s.0 un)
space-stays s w e p r (the.Unblock u t a) un = placed-elsewhere r.state u s t Carried (apart u.0 s.0 un)
space-stays s w e p r (the.Cont u t) un = placed-elsewhere r.state u s t (Running p) (apart u.0 s.0 un)
space-stays s w e p r (the.Back u t) un = placed-elsewhere r.state u s t Carried (apart u.0 s.0 un)
space-stays s w e p r (the.Ready u t) un = space-elsewhere r.state u s _ (apart u.0 s.0 un)
space-stays s w e p r (the.Take u l t) un = refl
space-stays s w e p r (the.Free u l t) un = refl
space-stays s w e p r (the.Up u a) un = refl
space-stays s w e p r (the.Told note) un = refl
space-stays s w e p r (the.Move old new) un = refl
space-stays s w e p r (the.Want u n) un = refl
space-stays s w e p r (the.Aim q u) un = refl
space-stays s w e p r (the.Line q) un = refl
space-stays s w e p r (the.Fetch u) un = refl
space-stays s w e p r (the.Fetched u) un = refl
space-stays s w e p r (the.GiveBack a) un = refl
space-stays s w e p r the.Idle un = refl
space-stays s w e p r (the.Spin l) un = refl
space-stays s w e p r the.Tick un = refl

-- what the threads of a space wait on

put-sync : (a : State) (u s : SpaceNo) (t : ThreadNo) (place : Place) → (space_at (placed a u t place) s).sync ≡ (space_at a s).sync
put-sync a u s t place = set-like (λ (x : SpaceState). x.sync) a.spaces u.0 s.0 (put_thread place (space_at a u) t) no_threads refl

placed-sync : (a : State) (u s : SpaceNo) (t : Option ThreadNo) (place : Place) → (space_at (placed_if a u t place) s).sync ≡ (space_at a s).sync
placed-sync a u s None place = refl
placed-sync a u s (Some t) place = put-sync a u s t place

pub sync-stays : (s : SpaceNo) (w : WorkloadView) (e : ℕ) (p : ProcNo) (r : Readings) (x : Record) → is_instr s x ≡ false → (space_at (after_record w e p r x).state s).sync ≡ (space_at r.state s).sync
sync-stays s w e p r (the.Ins u t i) un = ap (λ (x : SpaceState). x.sync) (space-elsewhere r.state u s _ (apart u.0 s.0 un))
sync-stays s w e p r (the.Out u t n) un = refl
sync-stays s w e p r (the.Run u t) un = put-sync r.state u s t (Running p)
sync-stays s w e p r (the.Stop u t a) un = placed-sync r.state u s t Carried
sync-stays s w e p r (the.Block u t a io) un = placed-sync r.state u s t Blocked
sync-stays s w e p r (the.Unblock u t a) un = placed-sync r.state u s t Carried
sync-stays s w e p r (the.Cont u t) un = placed-sync r.state u s t (Running p)
sync-stays s w e p r (the.Back u t) un = placed-sync r.state u s t Carried
sync-stays s w e p r (the.Ready u t) un = put-sync r.state u s t Ready
sync-stays s w e p r (the.Take u l t) un = refl
sync-stays s w e p r (the.Free u l t) un = refl
sync-stays s w e p r (the.Up u a) un = refl
sync-stays s w e p r (the.Told note) un = refl
sync-stays s w e p r (the.Move old new) un = refl
sync-stays s w e p r (the.Want u n) un = refl
sync-stays s w e p r (the.Aim q u) un = refl
sync-stays s w e p r (the.Line q) un = refl
sync-stays s w e p r (the.Fetch u) un = refl
sync-stays s w e p r (the.Fetched u) un = refl
sync-stays s w e p r (the.GiveBack a) un = refl
sync-stays s w e p r the.Idle un = refl
sync-stays s w e p r (the.Spin l) un = refl
sync-stays s w e p r the.Tick un = refl

-- how many spaces there are

placed-length : (a : State) (u : SpaceNo) (t : Option ThreadNo) (place : Place) → length (placed_if a u t place).spaces ≡ length a.spaces
placed-length a u None place = refl
placed-length a u (Some t) place = length-set a.spaces u.0 _

pub spaces-stay : (w : WorkloadView) (e : ℕ) (p : ProcNo) (r : Readings) (x : Record) → length (after_record w e p r x).state.spaces ≡ length r.state.spaces
spaces-stay w e p r (the.Ins u t i) = length-set r.state.spaces u.0 _
spaces-stay w e p r (the.Out u t n) = refl
spaces-stay w e p r (the.Run u t) = length-set r.state.spaces u.0 _
spaces-stay w e p r (the.Stop u t a) = placed-length r.state u t Carried
spaces-stay w e p r (the.Block u t a io) = placed-length r.state u t Blocked
spaces-stay w e p r (the.Unblock u t a) = placed-length r.state u t Carried
spaces-stay w e p r (the.Cont u t) = placed-length r.state u t (Running p)
spaces-stay w e p r (the.Back u t) = placed-length r.state u t Carried
spaces-stay w e p r (the.Ready u t) = length-set r.state.spaces u.0 _
spaces-stay w e p r (the.Take u l t) = refl
spaces-stay w e p r (the.Free u l t) = refl
spaces-stay w e p r (the.Up u a) = refl
spaces-stay w e p r (the.Told note) = refl
spaces-stay w e p r (the.Move old new) = refl
spaces-stay w e p r (the.Want u n) = refl
spaces-stay w e p r (the.Aim q u) = refl
spaces-stay w e p r (the.Line q) = refl
spaces-stay w e p r (the.Fetch u) = refl
spaces-stay w e p r (the.Fetched u) = refl
spaces-stay w e p r (the.GiveBack a) = refl
spaces-stay w e p r the.Idle = refl
spaces-stay w e p r (the.Spin l) = refl
spaces-stay w e p r the.Tick = refl
