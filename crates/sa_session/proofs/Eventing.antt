-- What an event does to a session, case by case.
use Rattle.std.proofs.Common.{◌≡◌, ℕ, ◌+◌, ◌<◌, List, [], ◌∷◌, ◌++◌, Option, Some, None, refl, sym, ap, ◌∙◌, subst, append-nil, arith}
use Rattle.std.proofs.KnownBytes.{Appends-nil}
use Rattle.sa_base.specs.declared.limits.TheConstants.{MAX_EVENTS}
use Rattle.sa_base.specs.declared.number.ProcNo.{ProcNo}
use Rattle.sa_io.specs.Pieces.{GoesOut}
use Rattle.sa_io.proofs.PieceLemmas.{prefix-behind}
use Rattle.sa_lines_in.specs.Reading.{ReadsLine}
use Rattle.sa_core_model.specs.Run.{IsTurn}
use Rattle.sa_asked.specs.declared.question.Question.{Question}
use Rattle.sa_asked.specs.Questions.{question}
use Rattle.sa_driven_model.specs.Step.{driven_calls}
use Rattle.sa_session.specs.declared.exchange.NoTalk.{NoTalk}
use Rattle.sa_session.specs.declared.exchange.NoTalk.TheVariants.{OutOfMemory}
use Rattle.sa_driven_runs.specs.Sessions.{DrivenMachine}
use Rattle.sa_session.specs.Exchange.{ExchangeView, Hears, WrittenFor}
use Rattle.sa_session.specs.Text.{ask_text}
use Rattle.sa_session.specs.Answer.{Puts}
use Rattle.sa_session.specs.Events.{Makes, IsLost}
use Rattle.sa_session.proofs.Lines.{hears-none, hears-got, hears-line}
use Rattle.sa_session.proofs.Puts.{put-workload, put-event}

module _ (m : DrivenMachine) (p : ProcNo) (x : ExchangeView) (at now : Option (List ℕ)) where
  -- memory ran out before anything was written or read
  pub lost-before : IsLost m p x at at now now OutOfMemory
  lost-before = record { later = x.kept; hears = hears-none x.kept at; taken = (0, Appends-nil now) }

  -- what was said is not written
  unwritten : (said : List ℕ) → said ≡ x.said ++ ask_text m p → GoesOut now now x.said (ask_text m p) said
  unwritten said is = record { sent = []; taken = Appends-nil now; whole = sym is }

  -- an event without a question
  pub alone : (y : ExchangeView) (made : DrivenMachine) → question driven_calls m p ≡ None → p.0 < m.workload.processors → m.event < MAX_EVENTS
      → IsTurn driven_calls m p made → made.event ≡ m.event + 1 → made.workload ≡ m.workload → y.said ≡ x.said ++ ask_text m p → y.kept ≡ x.kept
      → Makes m p x at at now now None y made
  alone y made none within few turn number workload said kept = record {
    event = (none, (record { within = within; event = few }, turn));
    number = number;
    workload = workload;
    hears = subst (λ bs. Hears x.kept bs at at []) (sym kept) (hears-none x.kept at);
    out = unwritten y.said said;
  }

  module _ (said : List ℕ) (is_said : said ≡ x.said ++ ask_text m p) (after new : Option (List ℕ)) where
    -- no reply was read
    pub lost-hearing : (why : NoTalk) (kept : List ℕ) → Hears x.kept kept at after [] → WrittenFor why now new said
        → IsLost m p x at after now new why
    lost-hearing why kept hears written = record {
      later = kept;
      hears = hears;
      taken = subst (λ bs. WrittenFor why now new bs) is_said written;
    }

    -- it was said before the reply was read
    spoken : (y : List ℕ) → GoesOut now new said [] y → GoesOut now new x.said (ask_text m p) y
    spoken y out = record { sent = out.sent; taken = out.taken; whole = sym is_said ∙ sym (append-nil said) ∙ out.whole }

    module _ (kept line : List ℕ) (reads : ReadsLine x.kept kept at after line) (y : ExchangeView) (out : GoesOut now new said [] y.said) where
      abbrev all : List ℕ
      all = x.kept ++ reads.got

      -- memory ran out after its reply was put
      pub lost-turning : IsLost m p x at after now new OutOfMemory
      lost-turning = record {
        later = all;
        hears = hears-got x.kept reads.got all at after reads.taken refl;
        taken = prefix-behind now new new (x.said ++ ask_text m p) out.sent [] y.said (sym is_said ∙ sym (append-nil said) ∙ out.whole) out.taken (0, Appends-nil new);
      }

      -- its reply was done
      pub answered : (q : Question) (between made : DrivenMachine) → question driven_calls m p ≡ Some q → Puts m p q.space line between
          → p.0 < m.workload.processors → m.event < MAX_EVENTS → IsTurn driven_calls between p made → made.event ≡ between.event + 1
          → made.workload ≡ between.workload → y.kept ≡ kept → Makes m p x at after now new (Some line) y made
      answered q between made asked puts within few turn number workload same =
          let event : between.event ≡ m.event = ap (λ (z : DrivenMachine). z.event) puts.is ∙ put-event m q.space puts.reply in
          let world : between.workload ≡ m.workload = ap (λ (z : DrivenMachine). z.workload) puts.is ∙ put-workload m q.space puts.reply in
          record {
            event = record {
              asked = q;
              is_asked = asked;
              between = between;
              puts = puts;
              made = (record { within = omega (arith, within, ap (λ w. w.processors) world); event = omega (arith, few, event) }, turn);
            };
            number = omega (arith, number, event);
            workload = workload ∙ world;
            hears = subst (λ bs. Hears x.kept bs at after (line ∷ [])) (sym same) (hears-line x.kept kept line at after reads);
            out = spoken y.said out;
          }
