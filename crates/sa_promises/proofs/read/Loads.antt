-- The load of a space.
use Rattle.std.proofs.Common.{◌≡◌, ℕ, ◌+◌, ◌<◌, refl, sym, ◌∙◌, ap, subst, arith, Some, None, List, [], ◌∷◌, length, map, false, cond}
use Rattle.std.specs.Prelude.{Option, is_none, if◌then◌else◌, Contains}
use Rattle.std.specs.List.{sum_by, count_by}
use Rattle.std.proofs.lemmas.List.Elements.{Contains-append_right}
use Rattle.std.proofs.lemmas.List.Sums.{sum_by-append}
use Rattle.sa_base.specs.declared.number.SpaceNo.{SpaceNo}
use Rattle.sa_base.specs.declared.number.ThreadNo.{ThreadNo}
use Rattle.sa_base.specs.declared.number.ActNo.{ActNo}
use Rattle.sa_base.specs.declared.record.Note.{Note}
use Rattle.sa_base.specs.declared.record.Note.TheVariants as note
use Rattle.sa_base.specs.declared.record.Item.{Item}
use Rattle.sa_spaces.specs.Workload.{WorkloadView}
use Rattle.sa_laws.specs.State.{State, active_threads, space_at}
use Rattle.sa_laws.specs.Life.{Life}
use Rattle.sa_laws.specs.Readings.{Readings, load_of, untold_of, untold_thread, stopped_thread, life_of}
use Rattle.sa_promises.proofs.lives.Standing.{Stopped}
use Rattle.sa_promises.specs.Holdings.{stopped_of}
use Rattle.sa_promises.specs.Loads.{Untold, untold_in, stops_thread, is_stop, is_some_thread, load_in}
use Rattle.sa_promises.proofs.read.Records.{note_of}
use Rattle.sa_promises.proofs.read.Items.{IsRead, life-at, map-has}

threads-same : (t : Option ThreadNo) → ◌≡◌ {A = ℕ} (if is_none t then 0 else 1) (cond (is_some_thread t) 1 0)
threads-same None = refl
threads-same (Some t) = refl

-- an untold stop counts as the thread of its life, which is that of the stop
one-stop : (r : Readings) (a : ActNo) (life : Life) (said thread : Option ThreadNo) → life_of r a ≡ Some life → life.thread ≡ said → said ≡ thread
    → untold_thread r (note.Preempted a) ≡ cond {A = ℕ} (is_some_thread thread) 1 0
one-stop r a life said thread is has same =
    ap stopped_thread is ∙ ap (λ t. if is_none t then 0 else 1) has ∙ ap (λ t. if is_none t then 0 else 1) same ∙ threads-same thread

one-thread : (w : WorkloadView) (past : List Item) (r : Readings) (s : SpaceNo) (u : Untold) (n : Note) → IsRead w past r → s.0 < length w.spaces
    → Contains (untold_in past s) u
    → u.note ≡ n → untold_thread r n ≡ cond (if is_stop n then is_some_thread u.thread else false) 1 0
one-thread w past r s u (note.Preempted a) read within has is =
    let noted : Contains (untold_of r s) (note.Preempted a) =
    subst (λ ns. Contains ns (note.Preempted a)) (sym (read.untold s within))
    (subst (λ n. Contains (map note_of (untold_in past s)) n) is (map-has u (untold_in past s) has)) in
    let there = life-at w past r a s (Stopped s) read (read.agrees.stopped s a noted) refl in
    one-stop r a there.0 (stopped_of past a) u.thread there.1 (read.stopped a.0 there.0 there.1) (read.stops s u a within has is)
one-thread w past r s u _ read within has is = refl

all-threads : (f : Note → ℕ) (us : List Untold) → ((u : Untold) → Contains us u → f u.note ≡ cond (stops_thread u) 1 0)
    → sum_by f (map note_of us) ≡ count_by stops_thread us
all-threads f [] each = refl
all-threads f (u ∷ us) each =
    let one = each u (0, omega arith, refl) in
    let more = all-threads f us (λ v has. each v (Contains-append_right (u ∷ []) us v has)) in
    let left = sum_by-append f (note_of u ∷ []) (map note_of us) in
    let right = sum_by-append (λ (v : Untold). cond {A = ℕ} (stops_thread v) 1 0) (u ∷ []) us in
    omega arith

pub loads-same : (w : WorkloadView) (past : List Item) (r : Readings) (s : SpaceNo) → IsRead w past r → s.0 < length w.spaces → load_of r s ≡ load_in w past s
loads-same w past r s read within =
    ap (λ (a : State). active_threads (space_at a s) + sum_by (untold_thread r) (untold_of r s)) read.state
    ∙ ap (λ n. active_threads (space_at (Rattle.sa_promises.specs.Moments.machine_of w past) s) + n)
    (ap (sum_by (untold_thread r)) (read.untold s within)
    ∙ all-threads (untold_thread r) (untold_in past s) (λ u has. one-thread w past r s u u.note read within has refl))
