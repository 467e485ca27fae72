-- The parts in which a board has what is read. A turn changes one or two of them, and the others stay as they were.
use Rattle.std.specs.Prelude.{◌≡◌, ℕ, ◌*◌, ◌+◌, ◌<◌, [], length, None, slice_index_or}
use Rattle.sa_base.specs.declared.limits.TheConstants.{MAX_PROCESSORS}
use Rattle.sa_spaces.specs.Workload.{WorkloadView}
use Rattle.sa_virtual.specs.Virtual.{Virtuals}
use Rattle.sa_virtual.specs.Legal.{blocked_in}
use Rattle.sa_virtual.specs.Holding.{numbers, threads_of}
use Rattle.sa_vp_model.specs.declared.limits.TheConstants.{VIRTUALS}
use Rattle.sa_vp_model.specs.Mirror.{Own, Mirrors, AreLists, AreNumbered, newest_first, rows, total}

abbrev pub ThreadsFit : Virtuals → Own → Type 0
ThreadsFit v x = ((λ a. slice_index_or x.threads a None) ≡ threads_of v.base.lives) × (length x.threads ≡ VIRTUALS)

abbrev pub StepsFit : Virtuals → Own → Type 0
StepsFit v x = ((λ a. slice_index_or x.steps a 0) ≡ v.steps) × (length x.steps ≡ VIRTUALS)

abbrev pub ReadyFits : WorkloadView → Virtuals → Own → Type 0
ReadyFits w v x =
    ((s : ℕ) → s < length w.spaces → AreLists w.processors (newest_first (slice_index_or v.ready s [])) (rows x.ready s))
    × (length x.ready ≡ length w.spaces)

abbrev pub WorkFits : WorkloadView → Virtuals → Own → Type 0
WorkFits w v x =
    ((s : ℕ) → s < length w.spaces → AreLists w.processors (λ l. numbers (v.work (MAX_PROCESSORS * s + l))) (rows x.work s))
    × (x.due ≡ total x.work) × (length x.work ≡ length w.spaces)

abbrev pub BlockedFits : WorkloadView → Virtuals → Own → Type 0
BlockedFits w v x =
    ((s : ℕ) → s < length w.spaces → slice_index_or x.blocked s 0 ≡ blocked_in v (record { 0 = s })) × (length x.blocked ≡ length w.spaces)

pub fit : {w : WorkloadView} {v : Virtuals} {x : Own} → ThreadsFit v x → StepsFit v x → ReadyFits w v x → WorkFits w v x → BlockedFits w v x
    → AreNumbered v.base.io_count v.base.under_way → length x.lost ≡ length w.spaces → length v.base.pages ≡ length w.spaces → Mirrors w v x
fit threads steps ready work blocked numbered lost pages = record {
  threads = threads.0;
  steps = steps.0;
  ready = ready.0;
  work = work.0;
  blocked = blocked.0;
  due = work.1;
  numbered = numbered;
  many_threads = threads.1;
  many_steps = steps.1;
  many_ready = ready.1;
  many_work = work.2;
  many_blocked = blocked.1;
  many_lost = lost;
  many_pages = pages;
}

pub threads-of : {w : WorkloadView} {v : Virtuals} {x : Own} → Mirrors w v x → ThreadsFit v x
threads-of fits = (fits.threads, fits.many_threads)

pub steps-of : {w : WorkloadView} {v : Virtuals} {x : Own} → Mirrors w v x → StepsFit v x
steps-of fits = (fits.steps, fits.many_steps)

pub ready-of : {w : WorkloadView} {v : Virtuals} {x : Own} → Mirrors w v x → ReadyFits w v x
ready-of fits = (fits.ready, fits.many_ready)

pub work-of : {w : WorkloadView} {v : Virtuals} {x : Own} → Mirrors w v x → WorkFits w v x
work-of fits = (fits.work, fits.due, fits.many_work)

pub blocked-of : {w : WorkloadView} {v : Virtuals} {x : Own} → Mirrors w v x → BlockedFits w v x
blocked-of fits = (fits.blocked, fits.many_blocked)
