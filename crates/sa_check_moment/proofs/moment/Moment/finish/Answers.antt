use Rattle.std.proofs.Common.{◌≡◌, ◌+◌, ◌∙◌, ap, refl}
use Rattle.sa_check_lives.specs.View.{lives_of}
use Rattle.sa_check_moment.specs.KeptFields.{kept_in}
use Rattle.sa_check_moment.specs.Seen.{Kept, seen}
use Rattle.sa_check_moment.specs.Ending.{step_by, up_by, stepped_if, arisen_if}
use Rattle.sa_check_moment.proofs.EndingLemmas.{finish-whole}
use Rattle.sa_check_moment.proofs.moment.Moment.finish.Goals as goal

pub returns : goal.returns
returns c before runs low over =
    let m = c.args.self in
    let parts = c.deref_mut-parts.result.now in
    let same = ap kept_in c.deref_mut-parts.ensures.value ∙ c.self.view_is in
    let p = c.args.p in
    let records = c.args.records.now in
    let start = c.args.start in
    let urged = c.args.urged in
    let step : c.step_by-step.result ≡ step_by (seen m) start.lowers start.running urged records = c.step_by-step.ensures in
    let up : c.up_by-up.result ≡ up_by (seen m) start.lowers p urged records = c.up_by-up.ensures in
    let lives : lives_of c.end_event.new.lives
    ≡ arisen_if (up_by (seen m) start.lowers p urged records) p (stepped_if (step_by (seen m) start.lowers start.running urged records) start.running (lives_of m.lives)) =
    c.in_ok-parts.ensures.lives ∙ ap (λ x. arisen_if x p (stepped_if c.step_by-step.result start.running (lives_of parts.lives))) up
    ∙ ap (λ x. arisen_if (up_by (seen m) start.lowers p urged records) p (stepped_if x start.running (lives_of parts.lives))) step
    ∙ ap (λ (k : Kept). arisen_if (up_by (seen m) start.lowers p urged records) p (stepped_if (step_by (seen m) start.lowers start.running urged records) start.running
    (lives_of k.lives))) same in
    let count : c.in_ok-parts.field-0 ≡ parts.number + 1 = c.in_ok-parts.ensures.number in
    finish-whole m _ before c.args.number p records urged start.running start.lowers over runs low
    (ap (λ (k : Kept). k.rules) same) (ap (λ (k : Kept). k.workload) same) (count ∙ ap (λ (k : Kept). k.number + 1) same) (ap (λ (k : Kept). k.state) same)
    (ap (λ (k : Kept). k.board) same) lives
    (ap (λ (k : Kept). k.pending) same) (ap (λ (k : Kept). k.ready) same) refl refl
