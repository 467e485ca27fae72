use Rattle.std.proofs.Common.{List, ℕ, replicate, sym, ◌∙◌, ap, arith, subst}
use Rattle.atomic_table.specs.Seated.{TableId}
use Rattle.atomic_table.specs.Table.{Splits}
use Rattle.sa_lines.specs.declared.view.View.{View}
use Rattle.sa_lines.specs.Words.{Holds, fresh_lane}
use Rattle.sa_lines.specs.Steps.{left_view, right_view}
use Rattle.sa_lines.proofs.Ends.{splits}
use Rattle.sa_lines.proofs.words.split_all.Goals as goal

pub split_seat-poller-requires : goal.split_seat-poller-requires
split_seat-poller-requires c =
    let seat = c.loop-p.seat in
    let size = ap (λ (t : TableId). t.words) c.words.view_is in
    let is = c.requires.size in
    let lt = c.loop-p-test.true in (
      c.loop-p.invariant.own ∙ c.requires.own ∙ sym c.words.view_is,
      omega (arith, size, is, lt),
      subst (λ (v : View). Splits {S = ℕ} Holds seat.id v (left_view v) (right_view v))
          (sym (ap (λ (m : View × List (ℕ × ℕ)). m.0) c.loop-p.invariant.view))
          (splits seat.id (replicate c.args.processors fresh_lane) c.loop-p.p),
    )
