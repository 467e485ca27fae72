-- What the parts of `debug` say together.
use Rattle.std.proofs.Common.{◌≡◌, ℕ, List, [], ◌++◌, Option, sym, subst, append-nil}
use Rattle.sa_base.specs.Recorded.{Recorded}
use Rattle.sa_base.specs.declared.record.End.{End}
use Rattle.sa_base.specs.declared.refusal.Bad.{Bad}
use Rattle.sa_io.specs.Faults.{AppendsPrefix}
use Rattle.sa_io.specs.Pieces.{GoesOut}
use Rattle.sa_io.proofs.PieceLemmas.{out-none, out-cut}
use Rattle.sa_trace.specs.TraceText.{trace_text}
use Rattle.sa_cli.specs.declared.debug.NoSession.TheVariants as stopped
use Rattle.sa_input.specs.declared.limits.TheConstants.{SCRIPT_LIMIT}
use Rattle.sa_cli.specs.declared.outcome.Ran.{Ran}
use Rattle.sa_cli.specs.declared.outcome.Ran.TheVariants.{Nothing, Plain}
use Rattle.sa_cli.specs.declared.outcome.Status.{Status}
use Rattle.sa_cli.specs.declared.outcome.Status.TheVariants as status
use Rattle.sa_cli.specs.Answers.{World, TookAll, TookSome, Writes}
use Rattle.sa_cli.specs.Debugging.{Debugged, AnswersDebug}
use Rattle.sa_cli.specs.Debugging.Scripted.{Accepted, BadScript}
use Rattle.sa_io.specs.Input.{ReadsInput}
use Rattle.sa_cli.specs.Outcome.{history}
use Rattle.sa_cli.specs.Scripted.{IsDone, IsStopped}
use Rattle.sa_cli.proofs.ByStatus.{by-writes}
use Rattle.sa_cli.proofs.Scripts.{gave-scripted}

-- the first text is cut, or the second one after it
pub first-cut : (before after : Option (List ℕ)) (first second : List ℕ) → AppendsPrefix before after first → AppendsPrefix before after (first ++ second)
first-cut before after first second cut = out-cut before before after [] [] [] first second (out-none before []) cut

pub second-cut : (before at after : Option (List ℕ)) (first between second : List ℕ) → GoesOut before at [] first between
    → AppendsPrefix at after (between ++ second)
    → AppendsPrefix before after (first ++ second)
second-cut before at after first between second out cut =
    subst (λ (v : List ℕ). AppendsPrefix before after (first ++ v)) (append-nil second) (out-cut before at after [] first between second [] out cut)

module _ (budget : ℕ) (old new : World) where
  -- a session that is over was written, or cut
  pub over-answers : (bytes replies : List ℕ) (trace : Recorded) (end : End) (events : ℕ) (ran : Ran) (s : Status)
      → ReadsInput SCRIPT_LIMIT old.left new.left bytes
      → IsDone budget bytes replies trace.items end events → ran ≡ Plain trace
      → Writes old.taken new.taken old.writes new.writes (replies ++ trace_text trace.items end events) status.Quit s → AnswersDebug budget old new ran s
  over-answers bytes replies trace end events ran s reads done is wrote =
      let debugged : (goes : List ℕ → Type 0) → goes (replies ++ trace_text trace.items end events) → Debugged budget old new goes (history ran) =
      λ goes went. subst (λ (r : Ran). Debugged budget old new goes (history r)) (sym is) (record {
        workload = done.workload;
        commands = done.commands;
        gave = gave-scripted old.left new.left bytes (Accepted done.workload done.commands) reads done.is;
        replies = replies;
        end = end;
        events = events;
        over = done.over;
        went = went;
      }) in
      by-writes (λ (x : Status). AnswersDebug budget old new ran x) old new (replies ++ trace_text trace.items end events) status.Quit s wrote
      (debugged (TookAll old new)) (λ risen some. (risen, debugged (TookSome old new) some))

  -- a refusal
  pub script-answers : (bytes : List ℕ) (bad : Bad) (ran : Ran) (s : Status) → ReadsInput SCRIPT_LIMIT old.left new.left bytes
      → IsStopped budget bytes (stopped.BadScript bad) → ran ≡ Nothing → s ≡ status.BadScript bad → AnswersDebug budget old new ran s
  script-answers bytes bad ran s reads wrong none is =
      subst (λ (x : Status). AnswersDebug budget old new ran x) (sym is) (gave-scripted old.left new.left bytes (BadScript bad) reads wrong, none)
