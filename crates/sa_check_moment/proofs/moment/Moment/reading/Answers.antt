use Rattle.std.proofs.Common.{◌≡◌, ◌∙◌, refl, ap, subst, sym, Some}
use Rattle.sa_laws.specs.Machine.{changed}
use Rattle.sa_laws.specs.Record.{moved_after}
use Rattle.sa_check_lives.specs.View.{lives_of}
use Rattle.sa_check_lives.specs.Recorded.{recorded}
use Rattle.sa_replay.specs.Replayed.{Replayed, after, roused_by}
use Rattle.sa_replay.specs.Needs.{CanChange}
use Rattle.sa_replay.proofs.NeedLemmas.{can-change}
use Rattle.sa_check_moment.specs.Board.{noted}
use Rattle.sa_check_moment.specs.declared.moment.Parts.{Parts}
use Rattle.sa_check_moment.specs.KeptFields.{kept_in}
use Rattle.sa_check_moment.specs.Level.{rules_in, IsKeptFor, ReadsLevel}
use Rattle.sa_check_moment.specs.Listed.{IsListed}
use Rattle.sa_check_moment.specs.Seen.{Seen, Kept, seen, behind_record}
use Rattle.sa_check_moment.specs.Reading.{pending_after, ready_after}
use Rattle.sa_check_moment.proofs.JoinLemmas.{read-whole, IsReadWith}
use Rattle.sa_check_moment.proofs.LevelLemmas.{reads-rules, kept-behind}
use Rattle.sa_check_moment.proofs.ListedLemmas.{listed-behind}
use Rattle.sa_check_moment.proofs.moment.Moment.reading.Goals as goal

pub read_parts-requires-clause-can : goal.read_parts-requires-clause-can
unfolding seen
read_parts-requires-clause-can c =
    let m = c.args.self in
    let can : CanChange m.workload c.args.p m.state c.args.what.now = can-change m.workload c.args.p (seen m).readings c.args.what.now c.requires in
    subst (λ (k : Kept). CanChange k.workload c.args.p k.state c.args.what.now) (sym (ap kept_in c.deref_mut-parts.ensures.value ∙ c.self.view_is)) can

-- what is read is the moment after the record
whole : (c : goal.After-self-4-1) → let fields : Parts = record {
  replay = c.read_parts.new.replay;
  lives = c.read_parts.new.lives;
  pending = c.read_parts.new.pending;
  ready = c.read_parts.new.ready;
  board = c.note.new.self;
  level = c.read_parts.new.level;
  number = c.deref_mut-parts.result.now.number;
  last = Some c.args.what.now;
  moved = c.moved_after-parts.result;
} in
    seen (kept_in fields) ≡ behind_record c.args.number c.args.p c.args.what.now (seen c.args.self)
whole c =
    let m = c.args.self in
    let x = c.args.what.now in
    let p = c.args.p in
    let parts = c.deref_mut-parts.result.now in
    let same = ap kept_in c.deref_mut-parts.ensures.value ∙ c.self.view_is in
    let with : IsReadWith m p x c.push_at.result c.begun_by.result c.list_at.result =
    record { push = c.push_at.ensures; begins = c.begun_by.ensures.new_io; listed = c.list_at.ensures } in
    let replay : c.read_parts.new.replay ≡ after p parts.replay x = c.in_ok-read_parts.ensures.replay in
    let workload : c.read_parts.new.replay.workload ≡ m.workload = ap (λ (v : Replayed). v.workload) replay ∙ ap (λ (k : Kept). k.workload) same in
    let state : c.read_parts.new.replay.state ≡ changed m.workload p m.state x =
    ap (λ (v : Replayed). v.state) replay ∙ ap (λ (k : Kept). changed k.workload p k.state x) same in
    let roused : c.read_parts.new.replay.roused ≡ roused_by m.workload m.state x =
    ap (λ (v : Replayed). v.roused) replay ∙ ap (λ (k : Kept). roused_by k.workload k.state x) same in
    let board : c.note.new.self ≡ noted c.args.number p m.last x m.board = c.note.ensures ∙ ap (λ (k : Kept). noted c.args.number p k.last x k.board) same in
    let lives : lives_of c.read_parts.new.lives ≡ recorded c.read_parts.new.replay.roused c.push_at.result p x (lives_of m.lives) =
    c.in_ok-read_parts.ensures.lives ∙ ap (λ (k : Kept). recorded c.read_parts.new.replay.roused c.push_at.result p x (lives_of k.lives)) same in
    let pending : c.read_parts.new.pending ≡ pending_after c.begun_by.result c.args.number x m.pending =
    c.in_ok-read_parts.ensures.pending ∙ ap (λ (k : Kept). pending_after c.begun_by.result c.args.number x k.pending) same in
    let ready : c.read_parts.new.ready ≡ ready_after c.list_at.result x m.ready =
    c.in_ok-read_parts.ensures.ready ∙ ap (λ (k : Kept). ready_after c.list_at.result x k.ready) same in
    let moved : c.moved_after-parts.result ≡ moved_after m.moved x = c.moved_after-parts.ensures ∙ ap (λ (k : Kept). moved_after k.moved x) same in
    let of : rules_in c.read_parts.new.level ≡ m.rules =
    reads-rules parts.replay.state x parts.level c.read_parts.new.level c.in_ok-read_parts.ensures.level ∙ ap (λ (k : Kept). k.rules) same in
    read-whole m _ c.args.number p x c.push_at.result c.begun_by.result c.list_at.result c.read_parts.new.replay.roused with of workload
    (ap (λ (k : Kept). k.number) same) state roused board lives pending ready refl moved

pub invariant_of-self : goal.invariant_of-self
unfolding seen
invariant_of-self c =
    let m = c.args.self in
    let x = c.args.what.now in
    let p = c.args.p in
    let parts = c.deref_mut-parts.result.now in
    let new = c.read_parts.new.level in
    let same = ap kept_in c.deref_mut-parts.ensures.value ∙ c.self.view_is in
    let old : IsListed (seen m) = subst (λ (k : Kept). IsListed (seen k)) c.self.view_is c.self.invariant.listed in
    let kept : IsKeptFor parts.level (kept_in parts).state (kept_in parts).ready =
    subst (λ (k : Parts). IsKeptFor k.level (kept_in k).state (kept_in k).ready) (sym c.deref_mut-parts.ensures.value) c.self.invariant.kept in
    let before : IsKeptFor parts.level m.state m.ready = subst (λ (k : Kept). IsKeptFor parts.level k.state k.ready) same kept in
    let read : ReadsLevel m.state x parts.level new =
    subst (λ (k : Kept). ReadsLevel k.state x parts.level new) same c.in_ok-read_parts.ensures.level in
    let after = kept-behind m.workload c.args.number p (seen m).readings x parts.level new c.requires read before in
    record {
      listed = subst (λ (s : Seen). IsListed s) (sym (whole c)) (listed-behind c.args.number p x (seen m) old);
      kept = subst (λ (s : Seen). IsKeptFor new s.readings.state s.readings.ready) (sym (whole c)) after;
    }

pub returns : goal.returns
returns c = whole c
