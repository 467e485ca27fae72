use Rattle.std.proofs.Common.{ℕ, false, List, [], length, map, replicate, None, Option, ap, ◌∙◌}
use Rattle.sa_base.specs.declared.number.ActNo.{ActNo}
use Rattle.sa_base.specs.declared.record.Note.{Note}
use Rattle.sa_spaces.specs.Space.{SpaceView}
use Rattle.sa_assign.specs.AssignView.{AssignView}
use Rattle.sa_batch.specs.Notices.{NoticesView}
use Rattle.sa_kernel.proofs.parts.Parts.new.Goals as goal

pub returns-clause-state : goal.returns-clause-state
returns-clause-state g c =
    let no_life : Option ActNo = None in
    let no_notes : List Note = [] in
    let spaces = c.spaces-spaces.ensures.value in
    let priorities = c.in_ok-priorities.ensures ∙ ap (map (λ (s : SpaceView). s.priority)) spaces in
    let lives = c.in_ok-cells.ensures ∙ ap (λ (n : ℕ). replicate n no_life) (c.from.ensures ∙ c.processors.ensures.value) in
    let demands = c.in_ok-cells-2.ensures ∙ ap (λ (xs : List SpaceView). replicate (length xs) 1) spaces in
    let notices = c.in_ok-new-2.ensures in
    let untold = ap (λ (v : NoticesView). v.untold) notices ∙ ap (λ (xs : List SpaceView). replicate (length xs) no_notes) spaces in
    let telling = ap (λ (v : NoticesView). v.telling) notices in
    let devices = c.in_ok-new.ensures in
    let none : ℕ → AssignView = λ n. record { owners = replicate n None; aims = replicate n None; lines = replicate n None; marks = replicate n false } in
    let assign = c.new-4.ensures ∙ ap none c.processors-2.ensures.value in
    let fetch = c.fetch.ensures.value in
    let slice = c.slice.ensures.value in
    let acts = c.new-3.ensures in
    λ i. record {
      fixed = record { priorities = priorities i; fetch = fetch i; slice = slice i; evictions = (devices i).evictions };
      assign = assign i;
      lives = lives i;
      acts = (acts i).acts;
      taken = (acts i).taken;
      demands = demands i;
      untold = untold i;
      telling = telling i;
      io_count = (devices i).ios.io_count;
      under_way = (devices i).ios.under_way;
      pages = (devices i).pages;
    }
