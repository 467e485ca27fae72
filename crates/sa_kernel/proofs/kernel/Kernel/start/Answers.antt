use Rattle.std.proofs.lemmas.Grind.{common_steps}
use Rattle.std.proofs.Common.{◌∙◌, [], sym, subst, arith}
use Rattle.sa_kernel.proofs.Kept.{kept-start, opened-is, owed-new, telling-new}
use Rattle.sa_kernel.specs.View.{scene_of}
use Rattle.sa_laws.specs.History.{Test}
use Rattle.sa_kernel_model.specs.State.{Scene}
use Rattle.sa_kernel_laws.specs.Histories.{IsHistory}
use Rattle.sa_kernel_laws.proofs.histories.Histories.{history-opens}
use Rattle.sa_kernel.proofs.kernel.Kernel.start.Goals as goal

pub lows-lows-requires : goal.lows-lows-requires
lows-lows-requires g c =
    (kept-start c.in_ok-parts.parts c.open.new.self c.open.new.trace c.args.w.now _ c.ranges-2.ensures
    c.in_ok-parts.ensures.state c.in_ok-parts.ensures.used c.open.ensures.exact c.open.ensures.room).sound.formed

pub invariant_of-result : goal.invariant_of-result
invariant_of-result g c = record {
  kept =
      kept-start c.in_ok-parts.parts c.open.new.self c.open.new.trace c.args.w.now _ c.ranges-2.ensures c.in_ok-parts.ensures.state c.in_ok-parts.ensures.used
      c.open.ensures.exact c.open.ensures.room;
  low = c.lows-lows.ensures;
}

pub returns-clause-opened : goal.returns-clause-opened
returns-clause-opened g c =
    opened-is c.in_ok-parts.parts c.args.w.now c.reserve.new.self.items (scene_of c.open.new.self c.open.new.trace) c.in_ok-parts.ensures.state
    (c.reserve.ensures.items ∙ c.requires) c.open.ensures.exact

pub returns-clause-owed : goal.returns-clause-owed
returns-clause-owed g c = owed-new c.in_ok-parts.parts c.open.new.self c.open.new.trace c.args.w.now _ c.in_ok-parts.ensures.state c.open.ensures.exact

pub returns-clause-fetched : goal.returns-clause-fetched
returns-clause-fetched g c = telling-new c.in_ok-parts.parts c.open.new.self c.open.new.trace c.args.w.now _ c.in_ok-parts.ensures.state c.open.ensures.exact

pub returns-clause-lawful : goal.returns-clause-lawful
returns-clause-lawful g c =
    let is = opened-is c.in_ok-parts.parts c.args.w.now c.reserve.new.self.items (scene_of c.open.new.self c.open.new.trace) c.in_ok-parts.ensures.state
    (c.reserve.ensures.items ∙ c.requires) c.open.ensures.exact in
    λ (test : Test). subst (λ (x : Scene g.row.C.Denot). IsHistory test c.args.w.now [] x) (sym is) (history-opens test c.args.w.now c.ranges-2.ensures)

pub ranges-requires : goal.ranges-requires
ranges-requires g c = grind (arith, common_steps)

pub reserve-requires : goal.reserve-requires
reserve-requires g c = grind (arith, common_steps)

pub returns-in_err-reserve-clause-opened : goal.returns-in_err-reserve-clause-opened
returns-in_err-reserve-clause-opened g c = grind (arith, common_steps)

pub returns-in_err-reserve-clause-spare : goal.returns-in_err-reserve-clause-spare
returns-in_err-reserve-clause-spare g c = grind (arith, common_steps)

pub returns-in_err-reserve-clause-last : goal.returns-in_err-reserve-clause-last
returns-in_err-reserve-clause-last g c = grind (arith, common_steps)

pub returns-in_err-reserve-clause-owed : goal.returns-in_err-reserve-clause-owed
returns-in_err-reserve-clause-owed g c = grind (arith, common_steps)

pub returns-in_err-reserve-clause-fetched : goal.returns-in_err-reserve-clause-fetched
returns-in_err-reserve-clause-fetched g c = grind (arith, common_steps)

pub returns-in_err-reserve-clause-err : goal.returns-in_err-reserve-clause-err
returns-in_err-reserve-clause-err g c = grind (arith, common_steps)

pub returns-in_err-reserve-clause-lawful : goal.returns-in_err-reserve-clause-lawful
returns-in_err-reserve-clause-lawful g c = grind (arith, common_steps)

pub returns-in_err-parts-clause-opened : goal.returns-in_err-parts-clause-opened
returns-in_err-parts-clause-opened g c = grind (arith, common_steps)

pub returns-in_err-parts-clause-spare : goal.returns-in_err-parts-clause-spare
returns-in_err-parts-clause-spare g c = grind (arith, common_steps)

pub returns-in_err-parts-clause-last : goal.returns-in_err-parts-clause-last
returns-in_err-parts-clause-last g c = grind (arith, common_steps)

pub returns-in_err-parts-clause-owed : goal.returns-in_err-parts-clause-owed
returns-in_err-parts-clause-owed g c = grind (arith, common_steps)

pub returns-in_err-parts-clause-fetched : goal.returns-in_err-parts-clause-fetched
returns-in_err-parts-clause-fetched g c = grind (arith, common_steps)

pub returns-in_err-parts-clause-err : goal.returns-in_err-parts-clause-err
returns-in_err-parts-clause-err g c = grind (arith, common_steps)

pub returns-in_err-parts-clause-lawful : goal.returns-in_err-parts-clause-lawful
returns-in_err-parts-clause-lawful g c = grind (arith, common_steps)

pub open-requires-clause-sizes : goal.open-requires-clause-sizes
open-requires-clause-sizes g c = grind (arith, common_steps)

pub open-requires-clause-trace : goal.open-requires-clause-trace
open-requires-clause-trace g c = grind (arith, common_steps)

pub returns-clause-spare : goal.returns-clause-spare
returns-clause-spare g c = grind (arith, common_steps)

pub returns-clause-last : goal.returns-clause-last
returns-clause-last g c = grind (arith, common_steps)

pub returns-clause-err : goal.returns-clause-err
returns-clause-err g c = grind (arith, common_steps)
