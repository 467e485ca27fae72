use Rattle.std.proofs.Common.{◌≡◌, ℕ, Some, ap, ◌∙◌, arith, length, sym}
use Rattle.sa_spaces.specs.Space.{IsSpace, SpaceView}
use Rattle.toga_draft.specs.Draft.{SpaceDraftView, value_or}
use Rattle.toga_read.specs.Evictions.{pages_in}
use Rattle.toga_read.specs.Spaces.{space_with}
use Rattle.toga_read.proofs.Somes.{some-if, some-is, some-same, some-there}
use Rattle.toga_read.proofs.Workloads.{patient-made, same-space}
use Rattle.toga_read.proofs.spaces.space_with.Goals as goal

pub unwrap-requires : goal.unwrap-requires
unwrap-requires c =
    let made : c.new-made.result ≡ Some (record (space_with c.args.space.now c.args.programs.items) { patience = 1 }) =
    some-same c.new-made.result IsSpace _ (record (space_with c.args.space.now c.args.programs.items) { patience = 1 })
    (same-space c.args.space.now c.args.programs.items c.value_or.result c.len.result c.len-2.result c.in_ok-from_slice.field-0.items
    c.in_ok-pages_in.field-0.items
    (c.value_or.ensures ∙ ap (λ (s : SpaceDraftView). value_or s.priority 0) c.space.view_is)
    ((let n : c.len.result ≡ length c.space.inside.mutexes.items = omega (arith, c.len.ensures, c.space.inside.mutexes.ok.0) in n)
    ∙ ap (λ (s : SpaceDraftView). length s.mutexes) c.space.view_is)
    (c.in_ok-from_slice.ensures.items ∙ c.deref.ensures.value ∙ ap (λ (s : SpaceDraftView). s.starts) c.space.view_is)
    ((let n : c.len-2.result ≡ length c.space.inside.cells.items = omega (arith, c.len-2.ensures, c.space.inside.cells.ok.0) in n)
    ∙ ap (λ (s : SpaceDraftView). length s.cells) c.space.view_is)
    (c.in_ok-pages_in.ensures ∙ ap pages_in (c.deref-2.ensures.value ∙ ap (λ (s : SpaceDraftView). s.absent) c.space.view_is)))
    (patient-made c.args.space.now c.args.programs.items c.requires.whole c.requires.programs) c.new-made.ensures in
    some-there c.new-made.result _ made

pub unwrap-requires-2 : goal.unwrap-requires-2
unwrap-requires-2 c =
    let patience : c.value_or-patience.result ≡ value_or c.args.space.now.patience 1 =
    c.value_or-patience.ensures ∙ ap (λ (s : SpaceDraftView). value_or s.patience 1) c.space.view_is in
    some-if c.with_patience.result _ _ c.with_patience.ensures
    (omega (arith, patience, c.requires.whole.some_patience), omega (arith, patience, c.requires.whole.patience))

pub returns : goal.returns
returns c =
    let made : c.new-made.result ≡ Some (record (space_with c.args.space.now c.args.programs.items) { patience = 1 }) =
    some-same c.new-made.result IsSpace _ (record (space_with c.args.space.now c.args.programs.items) { patience = 1 })
    (same-space c.args.space.now c.args.programs.items c.value_or.result c.len.result c.len-2.result c.in_ok-from_slice.field-0.items
    c.in_ok-pages_in.field-0.items
    (c.value_or.ensures ∙ ap (λ (s : SpaceDraftView). value_or s.priority 0) c.space.view_is)
    ((let n : c.len.result ≡ length c.space.inside.mutexes.items = omega (arith, c.len.ensures, c.space.inside.mutexes.ok.0) in n)
    ∙ ap (λ (s : SpaceDraftView). length s.mutexes) c.space.view_is)
    (c.in_ok-from_slice.ensures.items ∙ c.deref.ensures.value ∙ ap (λ (s : SpaceDraftView). s.starts) c.space.view_is)
    ((let n : c.len-2.result ≡ length c.space.inside.cells.items = omega (arith, c.len-2.ensures, c.space.inside.cells.ok.0) in n)
    ∙ ap (λ (s : SpaceDraftView). length s.cells) c.space.view_is)
    (c.in_ok-pages_in.ensures ∙ ap pages_in (c.deref-2.ensures.value ∙ ap (λ (s : SpaceDraftView). s.absent) c.space.view_is)))
    (patient-made c.args.space.now c.args.programs.items c.requires.whole c.requires.programs) c.new-made.ensures in
    let patience : c.value_or-patience.result ≡ value_or c.args.space.now.patience 1 =
    c.value_or-patience.ensures ∙ ap (λ (s : SpaceDraftView). value_or s.patience 1) c.space.view_is in
    let same : c.unwrap.result ≡ record (space_with c.args.space.now c.args.programs.items) { patience = 1 } = let e = sym c.unwrap.ensures ∙ made in cc in
    some-is c.with_patience.result _ _ c.unwrap-2.result c.with_patience.ensures c.unwrap-2.ensures
    ∙ ap (λ (s : SpaceView). record s { patience = c.value_or-patience.result }) same
    ∙ ap (λ (n : ℕ). record (space_with c.args.space.now c.args.programs.items) { patience = n }) patience
