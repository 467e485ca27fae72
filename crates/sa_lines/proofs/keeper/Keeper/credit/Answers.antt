use Rattle.std.proofs.Common.{◌≡◌, ◌<◌, List, ℕ, length, ◌∙◌, ap, arith}
use Rattle.atomic_table.specs.Seated.{TableId}
use Rattle.sa_base.specs.declared.number.ProcNo.{ProcNo}
use Rattle.sa_lines.specs.declared.view.View.{View}
use Rattle.sa_lines.specs.Words.{lanes_of, changed}
use Rattle.sa_lines.specs.Seen.{KeeperSeen, credited_lane}
use Rattle.sa_lines.proofs.Credits.{grants, credits, lanes_on}
use Rattle.sa_lines.proofs.keeper.Keeper.credit.Goals as goal

pub grant-requires : goal.grant-requires
grant-requires g c =
    let seat = c.self.inside.seat in
    let well = c.self.invariant.0 in
    let same : c.proc-p.result.0 ≡ c.args.poller.now.proc.0 = ap (λ (p : ProcNo). p.0) c.proc-p.ensures.proc in
    let own : seat.table_id ≡ c.args.words.now = ap (λ (k : KeeperSeen). k.table) c.self.view_is ∙ c.requires.own in
    let size = well.size in
    let words = ap (λ (t : TableId). t.words) own in
    let words' = ap (λ (t : TableId). t.words) c.requires.poller in
    let word = c.proc-p.ensures.word in
    let inside : c.proc-p.result.0 < length (lanes_of seat.me.0) = omega (arith, size, words, words', word, same) in record {
      own = own;
      word = omega (arith, words', word, same);
      may = grants seat.me.0 c.args.self.now.lanes c.args.poller.now.proc.0 c.proc-p.result.0 c.number.result c.args.what same c.number.ensures
          (ap (λ (k : KeeperSeen). k.lanes) c.self.view_is) well.keeping well.quiet inside c.requires.what;
    }

pub returns-clause-keeper : goal.returns-clause-keeper
returns-clause-keeper g c =
    let seat = c.self.inside.seat in
    let well = c.self.invariant.0 in
    let p = c.args.poller.now.proc.0 in
    let same : c.proc-p.result.0 ≡ p = ap (λ (p : ProcNo). p.0) c.proc-p.ensures.proc in
    let own : seat.table_id ≡ c.args.words.now = ap (λ (k : KeeperSeen). k.table) c.self.view_is ∙ c.requires.own in
    let size = well.size in
    let words = ap (λ (t : TableId). t.words) own in
    let words' = ap (λ (t : TableId). t.words) c.requires.poller in
    let word = c.proc-p.ensures.word in
    let inside : c.proc-p.result.0 < length (lanes_of seat.me.0) = omega (arith, size, words, words', word, same) in
    let known : lanes_of seat.me.0 ≡ c.args.self.now.lanes = ap (λ (k : KeeperSeen). k.lanes) c.self.view_is in
    let view = credits seat.me.0 c.grant.new.seat.me.0 c.see_taken.new.seat.me.0 c.args.self.now.lanes p c.proc-p.result.0 c.number.result c.args.what same
    c.number.ensures known well.keeping well.quiet inside c.requires.what
    (ap (λ (m : View × List (ℕ × ℕ)). m.0) c.grant.ensures.granted) (ap (λ (m : View × List (ℕ × ℕ)). m.0) c.see_taken.ensures.cleared) in
    let table = c.see_taken.ensures.own ∙ c.grant.ensures.own ∙ ap (λ (k : KeeperSeen). k.table) c.self.view_is in
    let lanes = ap lanes_of view ∙ lanes_on seat.me.0 p (credited_lane c.args.what) ∙ ap (changed p (credited_lane c.args.what)) known in
    λ i. record { table = table i; lanes = lanes i }
