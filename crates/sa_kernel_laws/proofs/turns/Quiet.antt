-- An event of a user level's records alone.
use Rattle.std.proofs.Common.{◌≡◌, ℕ, sym, ◌∙◌, ap, None, List}
use Rattle.std.specs.Prelude.{Option, slice_set}
use Rattle.std.proofs.lemmas.List.{set-get_or}
use Rattle.sa_spaces.specs.declared.workload.Evict.{Evict}
use Rattle.sa_devices.specs.Pages.{evicted}
use Rattle.sa_kernel_model.specs.State.{Fixed}
use Rattle.sa_kernel_model.specs.Entries.{evicted_at}
use Rattle.sa_kernel_model.proofs.sound.Sound.{sound-evicted}
use Rattle.sa_laws.specs.Event.{Event}
use Rattle.sa_laws.specs.History.{event_begun, behind_all}
use Rattle.sa_kernel_laws.specs.Overview.{Overview, overview, read_off}
use Rattle.sa_kernel_laws.specs.Laws.{QuietEventsKeep}
use Rattle.sa_kernel_laws.proofs.overview.Records.{overview-ended, users-records}
use Rattle.sa_kernel_laws.proofs.overview.Idle.{idles-ended, users-idles}

pub quiet-keeps : (C : Type 0) → QuietEventsKeep C
quiet-keeps C test w k r e p says kept low users =
    let ev : Event = record { number = e; proc = p; records = says } in
    let c = event_begun w ev r in
    let F : List Evict → List (Option ℕ) → Overview → Overview = λ es lines (v : Overview). record v {
      assign = record v.assign { lines = lines };
      pages = evicted e es v.pages;
    } in
    let evictions : w.evictions ≡ k.fixed.evictions = ap (λ (f : Fixed). f.evictions) (sym kept.of.fixed) in
    let lines : slice_set r.lines p.0 None ≡ k.assign.lines =
    ap (λ (v : Overview). slice_set v.assign.lines p.0 None) kept.reads ∙ ap (slice_set k.assign.lines p.0) (sym low) ∙ set-get_or k.assign.lines p.0 None in
    let reads : overview c ≡ read_off (evicted_at e k) = λ i. F (evictions i) (lines i) (kept.reads i) in
    record {
      sound = sound-evicted e k kept.sound;
      of = record { fixed = kept.of.fixed; processors = kept.of.processors; spaces = kept.of.spaces };
      tidy = record { added = kept.tidy.added; blocked = kept.tidy.blocked; fetched = kept.tidy.fetched; taken = kept.tidy.taken };
      reads = overview-ended test w r ev (behind_all w ev r) ∙ users-records w e p c says users ∙ reads;
      idle = λ s a has. ap (λ f. f a.0) (idles-ended test w r ev (behind_all w ev r) ∙ users-idles w e p c says users) ∙ kept.idle s a has;
    }
