use Rattle.std.proofs.Common.{List, [], refl, ◌∙◌, ap, subst}
use Rattle.sa_base.specs.declared.record.Item.{Item}
use Rattle.sa_laws.specs.Event.{events_of}
use Rattle.sa_base.specs.declared.number.ActNo.{ActNo}
use Rattle.sa_check_moment.specs.Seen.{Seen, seen, opened}
use Rattle.sa_cells.specs.Change.{opening_lines}
use Rattle.sa_page.specs.Failing.{SaysFailing}
use Rattle.sa_page.specs.Ended.{SaysEnd}
use Rattle.sa_workload.specs.Text.{text_of as workload_text}
use Rattle.sa_page.specs.Said.{verdict_said}
use Rattle.sa_page.specs.Page.{page_text, said_part, texts_part, said}
use Rattle.sa_page.specs.Shown.{Shows, WritesShown}
use Rattle.sa_page.proofs.PageLemmas.{behind, begins-with}
use Rattle.sa_page.proofs.page.print.Goals as goal

pub returns : goal.returns
unfolding page_text
returns c =
    let start = c.in_ok-pair.ensures.moment in
    let w : WritesShown (seen c.in_ok-pair.pair.now.moment) c.in_ok-pair.pair.ups.items (events_of c.items-4.result.now) c.push_opening.new.out.items c.push_shown.new.out.items =
    c.in_ok-push_shown.ensures in
    record {
      shown = w.text;
      shows =
          subst (λ (items : List Item). Shows (opened c.args.rules c.args.workload.now) [] (events_of items) w.text) c.items-4.ensures
          (subst (λ (ups : List ActNo). Shows (opened c.args.rules c.args.workload.now) ups (events_of c.items-4.result.now) w.text) c.in_ok-pair.ensures.ups
          (subst (λ (m : Seen). Shows m c.in_ok-pair.pair.ups.items (events_of c.items-4.result.now) w.text) start w.shows));
      failing = c.in_ok-failing.failing.items;
      fails =
          subst (λ (items : List Item). SaysFailing (opened c.args.rules c.args.workload.now) c.args.verdict (events_of items) c.in_ok-failing.failing.items)
          c.items.ensures c.in_ok-failing.ensures;
      end = c.in_ok-end.end.items;
      ends =
          subst (λ (items : List Item).
          SaysEnd (opened c.args.rules c.args.workload.now) c.args.trace.now.end c.args.trace.now.events (events_of items) c.in_ok-end.end.items)
          c.items-2.ensures c.in_ok-end.ensures;
      is =
          behind _ _ _ _ _ c.in_ok-push_back.ensures
          (behind _ _ _ _ _ w.written
          (behind _ _ _ _ _ c.in_ok-push_opening.ensures
          (behind _ _ _ _ _ c.in_ok-extend_from_slice.ensures.items
          (behind _ _ _ _ _ c.in_ok-push_texts.ensures
          (behind _ _ _ _ _ c.in_ok-push_said.ensures
          (begins-with _ _ _ c.in_ok-push_front.ensures c.new-out.ensures.items)
          (ap (λ failing. said_part (verdict_said c.args.rules c.args.verdict) failing c.deref-2.result.now) c.deref.ensures.value
          ∙ ap (said_part (verdict_said c.args.rules c.args.verdict) c.in_ok-failing.failing.items) c.deref-2.ensures.value))
          (ap (λ text. texts_part text (said c.args.workload.now c.items-3.result.now)) (c.deref-3.ensures.value ∙ c.in_ok-text.ensures)
          ∙ ap (λ items. texts_part (workload_text c.args.workload.now) (said c.args.workload.now items)) c.items-3.ensures)) refl)
          (ap opening_lines start)) refl) refl;
    }
