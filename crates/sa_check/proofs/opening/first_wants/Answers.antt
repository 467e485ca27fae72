use Rattle.std.proofs.Common.{◌+◌, ◌++◌, List, map, length, refl, ◌∙◌, ap}
use Rattle.sa_base.specs.declared.record.Record.{Record}
use Rattle.sa_assign.specs.Aims.{space_no}
use Rattle.sa_laws.specs.Closing.{want_one}
use Rattle.sa_check.proofs.EachLemmas.{from, one-mapped}
use Rattle.sa_check.proofs.opening.first_wants.Goals as goal

pub loop-s-preserved : goal.loop-s-preserved
loop-s-preserved c =
    let n = length c.spaces-s-end.result.now in
    ap (λ (xs : List Record). xs ++ map want_one (from (c.loop-s.s + 1) n)) c.in_ok-push.ensures.items
    ∙ one-mapped want_one c.loop-s.s n c.loop-s.records.items (want_one (space_no c.loop-s.s)) c.loop-s-test.true refl ∙ c.loop-s.invariant
