use Rattle.std.proofs.Common.{ap, arith, length}
use Rattle.toga_draft.proofs.Places.{word-within}
use Rattle.toga_draft.proofs.word.words_of.Goals as goal

pub overflow_add-place : goal.overflow_add-place
overflow_add-place c =
    omega (arith, word-within c.args.content.now c.deref-place-items.result.now c.loop-place.place-index (record { from = 0; to = 0 }) c.loop-place.invariant.0 c.loop-place-test.true)

pub invariant_of-push : goal.invariant_of-push
invariant_of-push c =
    omega (
      arith,
      ap length c.word_at.ensures,
      word-within c.args.content.now c.deref-place-items.result.now c.loop-place.place-index (record { from = 0; to = 0 }) c.loop-place.invariant.0 c.loop-place-test.true,
    )
