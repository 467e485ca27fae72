use Rattle.std.proofs.Common.{◌≡◌, ℕ, Some, ap, ◌∙◌, arith, sym}
use Rattle.sa_spaces.specs.Workload.{IsWorkload, WorkloadView}
use Rattle.toga_draft.specs.Draft.{DraftView, value_or}
use Rattle.toga_read.specs.Evictions.{evictions_of}
use Rattle.toga_read.specs.Spaces.{workload_with}
use Rattle.toga_read.proofs.Somes.{some-if, some-is, some-same, some-there}
use Rattle.toga_read.proofs.Workloads.{same-workload, unsliced-made}
use Rattle.toga_read.proofs.spaces.workload_with.Goals as goal

pub unwrap-requires : goal.unwrap-requires
unwrap-requires c =
    let made : c.new-made.result ≡ Some (record (workload_with c.args.draft.now c.args.spaces.items) { slice = 0 }) =
    some-same c.new-made.result IsWorkload _ (record (workload_with c.args.draft.now c.args.spaces.items) { slice = 0 })
    (same-workload c.args.draft.now c.args.spaces.items c.value_or.result c.value_or-2.result c.in_ok-evictions_of.field-0.items
    c.in_ok-from_slice.field-0.items
    (c.value_or.ensures ∙ ap (λ (d : DraftView). value_or d.processors 2) c.draft.view_is)
    (c.value_or-2.ensures ∙ ap (λ (d : DraftView). value_or d.fetch 10) c.draft.view_is)
    (c.in_ok-evictions_of.ensures ∙ ap evictions_of (c.deref.ensures.value ∙ ap (λ (d : DraftView). d.spaces) c.draft.view_is))
    (c.in_ok-from_slice.ensures.items ∙ c.deref-2.ensures.value ∙ ap (λ (d : DraftView). d.turns) c.draft.view_is))
    (unsliced-made c.args.draft.now c.args.spaces.items c.requires.whole c.requires.spaces) c.new-made.ensures in
    some-there c.new-made.result _ made

pub unwrap-requires-2 : goal.unwrap-requires-2
unwrap-requires-2 c =
    let slice : c.value_or-slice.result ≡ value_or c.args.draft.now.slice 0 =
    c.value_or-slice.ensures ∙ ap (λ (d : DraftView). value_or d.slice 0) c.draft.view_is in
    some-if c.with_slice.result _ _ c.with_slice.ensures (omega (arith, slice, c.requires.whole.slice))

pub returns : goal.returns
returns c =
    let made : c.new-made.result ≡ Some (record (workload_with c.args.draft.now c.args.spaces.items) { slice = 0 }) =
    some-same c.new-made.result IsWorkload _ (record (workload_with c.args.draft.now c.args.spaces.items) { slice = 0 })
    (same-workload c.args.draft.now c.args.spaces.items c.value_or.result c.value_or-2.result c.in_ok-evictions_of.field-0.items
    c.in_ok-from_slice.field-0.items
    (c.value_or.ensures ∙ ap (λ (d : DraftView). value_or d.processors 2) c.draft.view_is)
    (c.value_or-2.ensures ∙ ap (λ (d : DraftView). value_or d.fetch 10) c.draft.view_is)
    (c.in_ok-evictions_of.ensures ∙ ap evictions_of (c.deref.ensures.value ∙ ap (λ (d : DraftView). d.spaces) c.draft.view_is))
    (c.in_ok-from_slice.ensures.items ∙ c.deref-2.ensures.value ∙ ap (λ (d : DraftView). d.turns) c.draft.view_is))
    (unsliced-made c.args.draft.now c.args.spaces.items c.requires.whole c.requires.spaces) c.new-made.ensures in
    let slice : c.value_or-slice.result ≡ value_or c.args.draft.now.slice 0 =
    c.value_or-slice.ensures ∙ ap (λ (d : DraftView). value_or d.slice 0) c.draft.view_is in
    let same : c.unwrap.result ≡ record (workload_with c.args.draft.now c.args.spaces.items) { slice = 0 } = let e = sym c.unwrap.ensures ∙ made in cc in
    some-is c.with_slice.result _ _ c.unwrap-2.result c.with_slice.ensures c.unwrap-2.ensures
    ∙ ap (λ (w : WorkloadView). record w { slice = c.value_or-slice.result }) same
    ∙ ap (λ (n : ℕ). record (workload_with c.args.draft.now c.args.spaces.items) { slice = n }) slice
