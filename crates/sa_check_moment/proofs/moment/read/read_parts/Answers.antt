use Rattle.std.proofs.Common.{◌∙◌, ap, Result, Ok, Err, OnOk, List}
use Rattle.std.specs.Result.{IsErr}
use Rattle.std.specs.declared.alloc.AllocError.{AllocError}
use Rattle.std.proofs.lemmas.Result.{on_ok_weaker, IfOk-from_err}
use Rattle.sa_base.specs.declared.number.ThreadNo.{ThreadNo}
use Rattle.sa_check_lives.specs.View.{lives_of}
use Rattle.sa_check_lives.specs.Recorded.{recorded}
use Rattle.sa_check_moment.proofs.moment.read.read_parts.Goals as goal

-- what holds at all holds where a call succeeds
holds : {P : Type 0} (r : Result (Unit {0}) AllocError) → P → OnOk r P
holds (Ok x) p = p
holds (Err e) p = tt

-- where one fails nothing is said
none : (r : Result (Unit {0}) AllocError) → IsErr r → (P : Type 0) → OnOk r P
none r failed P = IfOk-from_err r (λ x. P) failed

pub returns-in_err-read : goal.returns-in_err-read
returns-in_err-read c =
    let any = none c.from_residual.result c.from_residual.ensures.0 in
    record { level = any _; replay = any _; lives = any _; pending = any _; ready = any _ }

pub returns-in_err-read_pending : goal.returns-in_err-read_pending
returns-in_err-read_pending c =
    let any = none c.from_residual-in_err-read_pending.result c.from_residual-in_err-read_pending.ensures.0 in
    record { level = any _; replay = any _; lives = any _; pending = any _; ready = any _ }

pub returns-in_err-read_ready : goal.returns-in_err-read_ready
returns-in_err-read_ready c =
    let any = none c.from_residual-in_err-read_ready.result c.from_residual-in_err-read_ready.ensures.0 in
    record { level = any _; replay = any _; lives = any _; pending = any _; ready = any _ }

pub returns-in_err-change : goal.returns-in_err-change
returns-in_err-change c =
    let any = none c.from_residual-in_err-change.result c.from_residual-in_err-change.ensures.0 in
    record { level = any _; replay = any _; lives = any _; pending = any _; ready = any _ }

pub returns : goal.returns
returns c =
    let a = c.args in
    let r = c.read-2.result in
    record {
      level = holds r c.in_ok-read.ensures;
      replay = holds r c.in_ok-change.ensures.ok;
      lives = on_ok_weaker r
          (λ is. is ∙ ap (λ (threads : List ThreadNo). recorded threads a.before.for_push a.item.proc a.item.what (lives_of a.lives.now)) c.roused.ensures)
          c.read-2.ensures.ok;
      pending = holds r c.in_ok-read_pending.ensures;
      ready = holds r c.in_ok-read_ready.ensures;
    }
