use Rattle.std.proofs.Common.{◌∙◌, sym}
use Rattle.std.proofs.Math.Seq.{drop-cons}
use Rattle.sa_base.specs.declared.record.Record.TheVariants.{Tick}
use Rattle.sa_check.proofs.closing_records.are_same.Goals as goal

pub returns-in_default-2 : goal.returns-in_default-2
returns-in_default-2 c =
    let empty = rw c.in_default.is at c.parted.ensures in
    let more = drop-cons c.args.records.now c.loop-what.what-index Tick c.loop-what-test.true in
    (λ e. absurd (cc), λ same. (let none = sym more ∙ c.loop-what.invariant.same.1 same ∙ empty in cc))
