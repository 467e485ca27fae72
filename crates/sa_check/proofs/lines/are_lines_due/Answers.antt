use Rattle.std.proofs.Common.{◌+◌, ◌++◌, ℕ, List, map, length, sym, ◌∙◌, ap}
use Rattle.std.specs.Prelude.{filter, filter_map}
use Rattle.std.specs.List.{range_with_len}
use Rattle.sa_base.specs.declared.record.Record.{Record}
use Rattle.sa_spaces.specs.Workload.{WorkloadView}
use Rattle.sa_assign.specs.Aims.{space_no}
use Rattle.sa_laws.specs.Closing.{must_interrupt, line_due}
use Rattle.sa_check_moment.specs.Seen.{seen}
use Rattle.sa_check.specs.Each.{line_for}
use Rattle.sa_check.proofs.EachLemmas.{from, from-first, each-passed, one-more}
use Rattle.sa_check.proofs.lines.are_lines_due.Goals as goal

pub loop-s-init : goal.loop-s-init
loop-s-init c =
    let m = seen c.args.moment.now in
    let n = length c.spaces-s-end.result.now in
    let size = ap length c.spaces-s-end.ensures.value ∙ ap (λ (w : WorkloadView). length w.spaces) c.workload.ensures in
    ap (λ (xs : List Record). xs ++ filter_map (line_for m.workload m.readings) (from 0 n)) c.new-due.ensures.items
    ∙ ap (filter_map (line_for m.workload m.readings)) (from-first n)
    ∙ sym (each-passed (must_interrupt m.workload m.readings) (line_due m.workload m.readings) (map space_no (range_with_len 0 n)))
    ∙ ap (λ (k : ℕ). filter_map (line_due m.workload m.readings) (filter (must_interrupt m.workload m.readings) (map space_no (range_with_len 0 k)))) size

pub loop-s-preserved : goal.loop-s-preserved
loop-s-preserved c =
    let m = seen c.args.moment.now in
    let n = length c.spaces-s-end.result.now in
    ap (λ (xs : List Record). xs ++ filter_map (line_for m.workload m.readings) (from (c.loop-s.s + 1) n)) c.in_ok-add.ensures
    ∙ one-more (line_for m.workload m.readings) c.loop-s.s n c.loop-s.due.items c.line_for.result c.loop-s-test.true c.line_for.ensures ∙ c.loop-s.invariant
