-- A thread goes to another place, in the history and in the package; what the load is then; and one life that changes.
use Rattle.std.proofs.Common.{◌≡◌, ◌≢◌, ℕ, ◌+◌, ◌<◌, cond, List, length, sum_by, Option, Some, is_none, option_map, sym, ap, ◌∙◌, subst, inl, inr, arith}
use Rattle.std.specs.Prelude.{if◌then◌else◌, slice_set}
use Rattle.std.proofs.lemmas.Bool.{cases_eq}
use Rattle.std.proofs.lemmas.List.{length-set, get_or-set_same, get_or-set_other}
use Rattle.std.proofs.lemmas.List.Sums.{sum_by-set}
use Rattle.sa_base.specs.declared.number.ActNo.{ActNo}
use Rattle.sa_base.specs.declared.number.ProcNo.{ProcNo}
use Rattle.sa_base.specs.declared.number.SpaceNo.{SpaceNo}
use Rattle.sa_base.specs.declared.number.ThreadNo.{ThreadNo}
use Rattle.sa_base.specs.declared.record.Note.{Note}
use Rattle.sa_lemmas.proofs.FunctionUpdates.{put-at, put-other}
use Rattle.sa_lemmas.specs.Function.{put}
use Rattle.sa_fast.specs.Rest.{place_at, one_where}
use Rattle.sa_fast.specs.Threads.{unmade, block_at, moved_to, is_loaded, load_of as loaded}
use Rattle.sa_fast.specs.declared.shared.Shared.{Shared}
use Rattle.sa_fast.specs.declared.threads.Block.{Block}
use Rattle.sa_fast.specs.declared.threads.KeptPlace.{KeptPlace}
use Rattle.sa_package_model.specs.Rules.{placed}
use Rattle.sa_laws.specs.Life.{Life}
use Rattle.sa_laws.specs.Readings.{Readings, running_of, life_of, untold_of, stopped_thread, untold_thread, load_of}
use Rattle.sa_laws.specs.Record.{with_life}
use Rattle.sa_laws.specs.State.{Thread, SpaceState, State, at_start, space_at, with_space, thread_in, put_thread, with_thread, is_active, active_threads}
use Rattle.sa_laws.specs.declared.place.Place.{Place}
use Rattle.sa_laws.specs.declared.place.Place.TheVariants.{Done}
use Rattle.sa_fast_laws.specs.FastFits.{SitsIn, FitsThread, FitsShared}
use Rattle.sa_fast_laws.proofs.relation.NoteLists.{notes-same}

-- SPACES
pub space-here : (a : State) (s : SpaceNo) (x : SpaceState) → s.0 < length a.spaces → space_at (with_space a s x) s ≡ x
space-here a s x inside = get_or-set_same a.spaces s.0 x _ inside

pub spaces-many : (a : State) (s : SpaceNo) (x : SpaceState) → length (with_space a s x).spaces ≡ length a.spaces
spaces-many a s x = length-set a.spaces s.0 x

-- THREADS of the history
pub thread-here : (y : SpaceState) (t : ThreadNo) (z : Thread) → t.0 < length y.threads → thread_in (with_thread y t z) t ≡ z
thread-here y t z inside = get_or-set_same y.threads t.0 z (at_start 0 Done) inside

pub thread-there : (y : SpaceState) (t n : ThreadNo) (z : Thread) → n.0 ≢ t.0 → thread_in (with_thread y t z) n ≡ thread_in y n
thread-there y t n z ne = get_or-set_other y.threads t.0 n.0 z (at_start 0 Done) ne

pub active-with : (y : SpaceState) (t : ThreadNo) (z : Thread) → t.0 < length y.threads
    → active_threads (with_thread y t z) + one_where (is_active (thread_in y t).place) ≡ active_threads y + one_where (is_active z.place)
active-with y t z inside = sum_by-set (λ (thread : Thread). cond (is_active thread.place) 1 0) y.threads t.0 z (at_start 0 Done) inside

-- The control block of a thread that the package has placed is moved to that place.
pub block-here : (x : Shared) (t : ThreadNo) (p : KeptPlace) → t.0 < length x.threads
    → block_at (placed x (Some t) p).threads t.0 ≡ moved_to (block_at x.threads t.0) p
block-here x t p inside = get_or-set_same x.threads t.0 (moved_to (block_at x.threads t.0) p) unmade inside

pub block-there : (x : Shared) (t : ThreadNo) (p : KeptPlace) (n : ℕ) → n ≢ t.0 → block_at (placed x (Some t) p).threads n ≡ block_at x.threads n
block-there x t p n ne = get_or-set_other x.threads t.0 n (moved_to (block_at x.threads t.0) p) unmade ne

pub loaded-with : (blocks : List Block) (t : ℕ) (b : Block) → t < length blocks
    → loaded (slice_set blocks t b) + one_where (is_loaded (block_at blocks t).place) ≡ loaded blocks + one_where (is_loaded b.place)
loaded-with blocks t b inside = sum_by-set (λ (z : Block). cond (is_loaded z.place) 1 0) blocks t b unmade inside

pub loaded-placed : (x : Shared) (t : ThreadNo) (p : KeptPlace) → t.0 < length x.threads
    → loaded (placed x (Some t) p).threads + one_where (is_loaded (place_at x t.0)) ≡ loaded x.threads + one_where (is_loaded p)
loaded-placed x t p inside = loaded-with x.threads t.0 (moved_to (block_at x.threads t.0) p) inside

-- a thread goes elsewhere in both
pub fits-placed : (x : Shared) (y : SpaceState) (t : ThreadNo) (kp : KeptPlace) (p : Place) → t.0 < x.state.lists.made → t.0 < length x.threads
    → SitsIn kp p
    → FitsShared x y → FitsShared (placed x (Some t) kp) (put_thread p y t)
fits-placed x y t kp p made inside sits h =
    let below : t.0 < length y.threads = let all = h.made in omega arith in
    record {
      made = length-set y.threads t.0 (record (thread_in y t) { place = p }) ∙ h.made;
      threads = λ n less. elim (cases_eq n.0 t.0) [
        | inl e ↦
            let same : n ≡ t = ap (λ k. record { 0 = k }) e in
            subst (λ m. FitsThread (block_at (placed x (Some t) kp).threads m.0) (thread_in (put_thread p y t) m)) (sym same)
            (subst (λ b. FitsThread b (thread_in (put_thread p y t) t)) (sym (block-here x t kp inside))
            (subst (λ z. FitsThread (moved_to (block_at x.threads t.0) kp) z) (sym (thread-here y t (record (thread_in y t) { place = p }) below))
            (let was = h.threads t made in record { program = was.program; pc = was.pc; regs = was.regs; place = sits })))
        | inr ne ↦
            subst (λ b. FitsThread b (thread_in (put_thread p y t) n)) (sym (block-there x t kp n.0 ne))
            (subst (λ z. FitsThread (block_at x.threads n.0) z) (sym (thread-there y t n (record (thread_in y t) { place = p }) ne)) (h.threads n less))
      ];
      sync = h.sync;
    }

-- ONE LIFE
pub life-changed : (f : Life → Life) (r : Readings) (p : ProcNo) (a : ActNo) (life : Life) → running_of r p ≡ Some a → life_of r a ≡ Some life
    → with_life f (running_of r p) r.lives ≡ put r.lives a.0 (Some (f life))
life-changed f r p a life runs is = ap (λ n. with_life f n r.lives) runs ∙ ap (λ o. put r.lives a.0 (option_map f o)) is

-- LOAD. Where no life's thread changes and the notices stay, the load changes as the threads do
abbrev pub SameThreads : Readings → Readings → Type 0
SameThreads r q = (b : ActNo) → stopped_thread (life_of q b) ≡ stopped_thread (life_of r b)

pub sum_same : (r q : Readings) → SameThreads r q → (ns : List Note) → sum_by (untold_thread q) ns ≡ sum_by (untold_thread r) ns
sum_same r q same ns = notes-same r q ns (λ b has. same b)

pub load-moves : (r q : Readings) (s : SpaceNo) → SameThreads r q → untold_of q s ≡ untold_of r s
    → load_of q s + active_threads (space_at r.state s) ≡ load_of r s + active_threads (space_at q.state s)
load-moves r q s same untold =
    let sums = sum_same r q same (untold_of q s) in
    let notes : sum_by (untold_thread r) (untold_of q s) ≡ sum_by (untold_thread r) (untold_of r s) = ap (sum_by (untold_thread r)) untold in
    omega arith

-- of one life that changes but for its thread
pub same-threads : (r q : Readings) (a : ActNo) (life new : Life) → life_of r a ≡ Some life → q.lives ≡ put r.lives a.0 (Some new)
    → new.thread ≡ life.thread → SameThreads r q
same-threads r q a life new is lives same b = elim (cases_eq b.0 a.0) [
  | inl e ↦
      ap stopped_thread (ap (λ (f : ℕ → Option Life). f b.0) lives ∙ put-at r.lives a.0 b.0 (Some new) e)
      ∙ ap (λ (t : Option ThreadNo). if is_none t then 0 else 1) same ∙ sym (ap stopped_thread (ap r.lives e ∙ is))
  | inr ne ↦ ap stopped_thread (ap (λ (f : ℕ → Option Life). f b.0) lives ∙ put-other r.lives a.0 b.0 (Some new) ne)
]
