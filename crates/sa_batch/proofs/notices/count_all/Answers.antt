use Rattle.std.proofs.Common.{◌<◌, [], List, length, map, ap, arith}
use Rattle.std.proofs.lemmas.List.{length-map}
use Rattle.std.proofs.lemmas.List.Sums.{sum_by-drop_more}
use Rattle.sa_base.specs.declared.record.Note.{Note}
use Rattle.sa_batch.specs.Notices.{notes_of}
use Rattle.sa_batch.proofs.Batches.{notes-at}
use Rattle.sa_batch.proofs.notices.count_all.Goals as goal

pub overflow_add-count : goal.overflow_add-count
overflow_add-count c =
    let bs = c.args.batches.now.items in
    let i = c.loop-i.i in
    let within : i < length bs = omega arith in
    let len = length-map bs notes_of in
    let inside : i < length (map notes_of bs) = omega arith in
    let more = sum_by-drop_more (λ (ns : List Note). length ns) (map notes_of bs) i [] inside in
    let here = ap (λ (ns : List Note). length ns) (notes-at bs i c.index.result.now within c.index.ensures) in
    omega (arith, c.len-count.ensures, c.loop-i.invariant, c.requires)

pub loop-i-preserved : goal.loop-i-preserved
loop-i-preserved c =
    let bs = c.args.batches.now.items in
    let i = c.loop-i.i in
    let within : i < length bs = omega arith in
    let len = length-map bs notes_of in
    let inside : i < length (map notes_of bs) = omega arith in
    let more = sum_by-drop_more (λ (ns : List Note). length ns) (map notes_of bs) i [] inside in
    let here = ap (λ (ns : List Note). length ns) (notes-at bs i c.index.result.now within c.index.ensures) in
    omega (arith, c.len-count.ensures, c.loop-i.invariant)
