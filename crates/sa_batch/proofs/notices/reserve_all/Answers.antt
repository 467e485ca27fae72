use Rattle.std.proofs.Common.{◌<◌, ◌≤◌, length, ◌∙◌, arith}
use Rattle.std.proofs.lemmas.List.{length-set}
use Rattle.std.proofs.lemmas.List.Elements.{AllWithin-more_set}
use Rattle.sa_batch.specs.Noted.{Noted}
use Rattle.sa_batch.proofs.Batches.{notes-kept, room-grown}
use Rattle.sa_batch.proofs.notices.reserve_all.Goals as goal

pub loop-i-preserved : goal.loop-i-preserved
loop-i-preserved c =
    let bs = c.loop-i.batches.items in
    let i = c.loop-i.i in
    let new = c.reserve.new.self in
    let within : i < length bs = omega arith in record {
      notes = notes-kept bs i c.index_mut.result.now new within c.index_mut.ensures.value c.reserve.ensures.notes ∙ c.loop-i.invariant.notes;
      grows = λ k each. room-grown k bs i c.index_mut.result.now new within c.index_mut.ensures.value c.reserve.ensures.grows (c.loop-i.invariant.grows k each);
      room = AllWithin-more_set bs i new within (λ (b : Noted). c.args.n ≤ b.spare) c.loop-i.invariant.room c.in_ok-reserve.ensures.ok;
      len = length-set bs i new ∙ c.loop-i.invariant.len;
    }

pub returns-in_err-reserve-clause-notes : goal.returns-in_err-reserve-clause-notes
returns-in_err-reserve-clause-notes c =
    let bs = c.loop-i.batches.items in
    let within : c.loop-i.i < length bs = omega arith in
    notes-kept bs c.loop-i.i c.index_mut.result.now c.reserve.new.self within c.index_mut.ensures.value c.reserve.ensures.notes ∙ c.loop-i.invariant.notes
